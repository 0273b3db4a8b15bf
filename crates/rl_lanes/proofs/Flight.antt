-- What a client will have taken, where more comes behind.
use Rattle.std.proofs.Common.{◌≡◌, ℕ, zero, suc, List, [], ◌∷◌, ◌++◌, length, refl, sym, ◌∙◌, ap, subst, arith}
use Rattle.rl_lanes.specs.Lanes.{Ask, ToAttach, ToDetach, Coming, Tells, Leaves, Fails, Gives, Shows}
use Rattle.rl_lanes.specs.Follows.{Took, Began, TookEntry, TookPage, live, awaited, IsLive, Fits, answered_in, OfLast}

-- how many answers are still awaited behind these
abbrev pub left_over : ℕ → List Coming → ℕ
left_over zero coming = zero
left_over (suc n) [] = suc n
left_over (suc n) (Tells given number joining ∷ more) = left_over n more
left_over (suc n) (Leaves ∷ more) = left_over n more
left_over (suc n) (Fails given code ∷ more) = left_over n more
left_over (suc n) (Gives epoch entry ∷ more) = left_over (suc n) more
left_over (suc n) (Shows page ∷ more) = left_over (suc n) more

pub answered_append : (xs ys : List Coming) → answered_in (xs ++ ys) ≡ answered_in xs ++ answered_in ys
answered_append [] ys = refl
answered_append (Tells given number joining ∷ xs) ys = ap (λ zs. ToAttach given ∷ zs) (answered_append xs ys)
answered_append (Leaves ∷ xs) ys = ap (λ zs. ToDetach ∷ zs) (answered_append xs ys)
answered_append (Fails given code ∷ xs) ys = ap (λ zs. ToAttach given ∷ zs) (answered_append xs ys)
answered_append (Gives epoch entry ∷ xs) ys = answered_append xs ys
answered_append (Shows page ∷ xs) ys = answered_append xs ys

-- MORE BEHIND

pub live_on : (took : List Took) (xs ys : List Coming) → live took (xs ++ ys) ≡ live (live took xs) ys
live_on took [] ys = refl
live_on took (Gives epoch entry ∷ xs) ys = live_on (TookEntry entry ∷ took) xs ys
live_on took (Shows page ∷ xs) ys = live_on (TookPage page ∷ took) xs ys
live_on took (Tells given number joining ∷ xs) ys = live_on took xs ys
live_on took (Leaves ∷ xs) ys = live_on took xs ys
live_on took (Fails given code ∷ xs) ys = live_on took xs ys

pub awaited_on : (n : ℕ) (took : List Took) (xs ys : List Coming) → awaited n took (xs ++ ys) ≡ awaited (left_over n xs) (awaited n took xs) ys
awaited_on zero took xs ys = live_on took xs ys
awaited_on (suc n) took [] ys = refl
awaited_on (suc zero) took (Tells given number joining ∷ xs) ys = live_on (Began number joining ∷ took) xs ys
awaited_on (suc (suc n)) took (Tells given number joining ∷ xs) ys = awaited_on (suc n) took xs ys
awaited_on (suc n) took (Leaves ∷ xs) ys = awaited_on n took xs ys
awaited_on (suc n) took (Fails given code ∷ xs) ys = awaited_on n took xs ys
awaited_on (suc n) took (Gives epoch entry ∷ xs) ys = awaited_on (suc n) took xs ys
awaited_on (suc n) took (Shows page ∷ xs) ys = awaited_on (suc n) took xs ys

pub live_fits_on : (epoch : ℕ) (took : List Took) (xs ys : List Coming) → IsLive epoch took xs → IsLive epoch (live took xs) ys → IsLive epoch took (xs ++ ys)
live_fits_on epoch took [] ys fits more = more
live_fits_on epoch took (Gives other entry ∷ xs) ys fits more = (fits.0, fits.1, live_fits_on epoch (TookEntry entry ∷ took) xs ys fits.2 more)
live_fits_on epoch took (Shows page ∷ xs) ys fits more = live_fits_on epoch (TookPage page ∷ took) xs ys fits more
live_fits_on epoch took (Tells given number joining ∷ xs) ys fits more = absurd fits
live_fits_on epoch took (Leaves ∷ xs) ys fits more = absurd fits
live_fits_on epoch took (Fails given code ∷ xs) ys fits more = absurd fits

pub fits_on : (epoch n : ℕ) (took : List Took) (xs ys : List Coming) → Fits epoch n took xs → Fits epoch (left_over n xs) (awaited n took xs) ys → Fits epoch n took (xs ++ ys)
fits_on epoch zero took xs ys fits more = live_fits_on epoch took xs ys fits more
fits_on epoch (suc n) took [] ys fits more = more
fits_on epoch (suc zero) took (Tells given number joining ∷ xs) ys fits more = live_fits_on epoch (Began number joining ∷ took) xs ys fits more
fits_on epoch (suc (suc n)) took (Tells given number joining ∷ xs) ys fits more = fits_on epoch (suc n) took xs ys fits more
fits_on epoch (suc n) took (Leaves ∷ xs) ys fits more = fits_on epoch n took xs ys fits more
fits_on epoch (suc n) took (Fails given code ∷ xs) ys fits more = fits_on epoch n took xs ys fits more
fits_on epoch (suc n) took (Gives other entry ∷ xs) ys fits more = fits_on epoch (suc n) took xs ys fits more
fits_on epoch (suc n) took (Shows page ∷ xs) ys fits more = fits_on epoch (suc n) took xs ys fits more

-- so many are left as were not answered
pub left_is : (n : ℕ) (coming : List Coming) (asks : List Ask) → n ≡ length (answered_in coming ++ asks) → left_over n coming ≡ length asks
left_is zero [] asks all = all
left_is zero (Tells given number joining ∷ coming) asks all = absurd (cc)
left_is zero (Leaves ∷ coming) asks all = absurd (cc)
left_is zero (Fails given code ∷ coming) asks all = absurd (cc)
left_is zero (Gives epoch entry ∷ coming) asks all = left_is zero coming asks all
left_is zero (Shows page ∷ coming) asks all = left_is zero coming asks all
left_is (suc n) [] asks all = all
left_is (suc n) (Tells given number joining ∷ coming) asks all = left_is n coming asks (omega (arith, all))
left_is (suc n) (Leaves ∷ coming) asks all = left_is n coming asks (omega (arith, all))
left_is (suc n) (Fails given code ∷ coming) asks all = left_is n coming asks (omega (arith, all))
left_is (suc n) (Gives epoch entry ∷ coming) asks all = left_is (suc n) coming asks all
left_is (suc n) (Shows page ∷ coming) asks all = left_is (suc n) coming asks all

-- while an answer is awaited behind these, none of them is taken
abbrev pub Ahead : ℕ → ℕ → List Took → List Coming → Type 0
Ahead epoch n took coming = (awaited n took coming ≡ took) × Fits epoch n took coming

pub ahead : (epoch n m : ℕ) (took : List Took) (coming : List Coming) → left_over n coming ≡ suc m → Ahead epoch n took coming
ahead epoch zero m took coming is = absurd (cc)
ahead epoch (suc n) m took [] is = (refl, tt)
ahead epoch (suc zero) m took (Tells given number joining ∷ coming) is = absurd (cc)
ahead epoch (suc (suc n)) m took (Tells given number joining ∷ coming) is = ahead epoch (suc n) m took coming is
ahead epoch (suc n) m took (Leaves ∷ coming) is = ahead epoch n m took coming is
ahead epoch (suc n) m took (Fails given code ∷ coming) is = ahead epoch n m took coming is
ahead epoch (suc n) m took (Gives other entry ∷ coming) is = ahead epoch (suc n) m took coming is
ahead epoch (suc n) m took (Shows page ∷ coming) is = ahead epoch (suc n) m took coming is

-- behind what is coming, while an answer is awaited
pub record Behind (epoch n m : ℕ) (took : List Took) (coming more : List Coming) : Type 0 where
  pub took_then : awaited n took (coming ++ more) ≡ awaited (suc m) took more
  pub took_now : awaited n took coming ≡ took
  pub fits : Fits epoch n took (coming ++ more)

pub behind : (epoch n m : ℕ) (took : List Took) (coming more : List Coming) → left_over n coming ≡ suc m → Fits epoch (suc m) took more → Behind epoch n m took coming more
behind epoch n m took coming more left fits =
    let a = ahead epoch n m took coming left in
    record {
      took_then = awaited_on n took coming more ∙ ap (λ k. awaited k (awaited n took coming) more) left ∙ ap (λ t. awaited (suc m) t more) a.0;
      took_now = a.0;
      fits =
          fits_on epoch n took coming more a.1
          (subst (λ k. Fits epoch k (awaited n took coming) more) (sym left) (subst (λ t. Fits epoch (suc m) t more) (sym a.0) fits));
    }

-- THE LAST ASK

pub last_of : (P : Ask → Type 0) (x : Ask) (ys : List Ask) → P x → OfLast P (ys ++ x ∷ [])
last_of P x [] own = own
last_of P x (y ∷ []) own = own
last_of P x (y ∷ z ∷ ys) own = last_of P x (z ∷ ys) own

pub last_weaker : (P Q : Ask → Type 0) → ((x : Ask) → P x → Q x) → (ys : List Ask) → OfLast P ys → OfLast Q ys
last_weaker P Q weaker [] last = tt
last_weaker P Q weaker (y ∷ []) last = weaker y last
last_weaker P Q weaker (y ∷ z ∷ ys) last = last_weaker P Q weaker (z ∷ ys) last

pub later_ones : (P : Ask → Type 0) (x : Ask) (ys : List Ask) → OfLast P (x ∷ ys) → OfLast P ys
later_ones P x [] last = tt
later_ones P x (y ∷ ys) last = last

pub only_one : (P : Ask → Type 0) (x : Ask) (ys : List Ask) → OfLast P (x ∷ ys) → zero ≡ length ys → P x
only_one P x [] last none = last
only_one P x (y ∷ ys) last none = absurd (cc)
