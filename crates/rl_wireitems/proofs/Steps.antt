-- Reading items one behind the other.
use Rattle.std.proofs.Common.{◌≡◌, ◌<◌, ℕ, suc, ◌+◌, List, [], ◌∷◌, ◌++◌, length, map, take, Option, Some, None, Result, Ok, Err, refl, sym, ap, ◌∙◌, subst, arith, add-zero, append_assoc, IfOk, All, get_or}
use Rattle.std.proofs.lemmas.List.Elements.{All-cons, All-nil}
use Rattle.serde_json.specs.Data.{Data, Items, no_items, item}
use Rattle.serde_json.specs.declared.value.Value.{Value}
use Rattle.serde_json.specs.View.{view, items_view}
use Rattle.rl_types.specs.declared.frames.WireFault.{WireFault}
use Rattle.rl_types.specs.declared.frames.WireFault.TheVariants as faults
use Rattle.rl_jsonfields.specs.Fields.{Reads, ◌>>=◌, Fails, not_empty, each_at}
use Rattle.rl_jsonfields.proofs.Each.{with_front}

-- what holds of whatever is read
pub ok_by : {A : Type 0} (r : Reads A) (P : A → Type 0) → ((x : A) → r ≡ Ok x → P x) → IfOk r P
ok_by (Ok x) P k = k x refl
ok_by (Err e) P k = tt

pub then_ok : {A B : Type 0} (r : Reads A) (f : A → Reads B) (P : A → Type 0) (Q : B → Type 0) → IfOk r P → ((x : A) → P x → IfOk (f x) Q) → IfOk (r >>= f) Q
then_ok (Ok x) f P Q h k = k x h
then_ok (Err e) f P Q h k = tt

pub then_any : {A B : Type 0} (r : Reads A) (f : A → Reads B) (Q : B → Type 0) → ((x : A) → IfOk (f x) Q) → IfOk (r >>= f) Q
then_any (Ok x) f Q k = k x
then_any (Err e) f Q k = tt

pub nothing_left : {X : Type 0} (l : List X) → length l ≡ 0 → l ≡ []
nothing_left [] h = refl
nothing_left (x ∷ xs) h = absurd (omega arith)

module _ {A : Type 0} (one : ℕ → Data → Reads A) where
  pub each_all : (P : A → Type 0) → ((i : ℕ) (d : Data) → IfOk (one i d) P) → (i : ℕ) (ds : Items) → IfOk (each_at one i ds) (All P)
  unfolding each_at
  each_all P h i no_items = All-nil P
  each_all P h i (item d ds) =
      then_ok (one i d) _ P (All P) (h i d) (λ x p. then_ok (each_at one (i + 1) ds) _ (All P) (All P) (each_all P h (i + 1) ds) (λ xs ps. All-cons P x xs p ps))

  pub each_full : (i : ℕ) (ds : Items) → not_empty ds ≡ Some ds → IfOk (each_at one i ds) (λ xs. 0 < length xs)
  unfolding each_at
  each_full i no_items full = absurd cc
  each_full i (item d ds) full =
      then_any (one i d) _ (λ xs. 0 < length xs) (λ x. then_any (each_at one (i + 1) ds) _ (λ xs. 0 < length xs) (λ xs. omega arith))

  join : (r : Reads A) (s t : Reads (List A))
      → (r >>= λ x. ((s >>= λ xs. with_front xs t) >>= λ ys. Ok (x ∷ ys))) ≡ ((r >>= λ x. s >>= λ xs. Ok (x ∷ xs)) >>= λ zs. with_front zs t)
  join (Err e) s t = refl
  join (Ok x) (Err e) t = refl
  join (Ok x) (Ok xs) (Err e) = refl
  join (Ok x) (Ok xs) (Ok ys) = refl

  alone : (t : Reads (List A)) → t ≡ with_front [] t
  alone (Ok xs) = refl
  alone (Err e) = refl

  -- a list is read as its two parts are
  each_append : (i : ℕ) (vs ws : List Value) → each_at one i (items_view (vs ++ ws)) ≡ (each_at one i (items_view vs) >>= λ xs. with_front xs (each_at one (i + length vs) (items_view ws)))
  unfolding each_at
  each_append i [] ws = ap (λ j. each_at one j (items_view ws)) (sym (add-zero i)) ∙ alone (each_at one (i + 0) (items_view ws))
  each_append i (v ∷ vs) ws =
      ap (λ t. one i (view v) >>= λ x. t >>= λ ys. Ok (x ∷ ys)) (each_append (i + 1) vs ws)
      ∙ join (one i (view v)) (each_at one (i + 1) (items_view vs)) (each_at one (i + 1 + length vs) (items_view ws))
      ∙ ap (λ j. (one i (view v) >>= λ x. each_at one (i + 1) (items_view vs) >>= λ xs. Ok (x ∷ xs)) >>= λ zs. with_front zs (each_at one j (items_view ws))) (omega arith)

  lengths : (i : ℕ) (vs : List Value) → IfOk (each_at one i (items_view vs)) (λ xs. length xs ≡ length vs)
  unfolding each_at
  lengths i [] = refl
  lengths i (v ∷ vs) =
      then_any (one i (view v)) _ (λ xs. length xs ≡ suc (length vs)) (λ x.
      then_ok (each_at one (i + 1) (items_view vs)) _ (λ xs. length xs ≡ length vs) (λ xs. length xs ≡ suc (length vs)) (lengths (i + 1) vs) (λ xs same. ap suc same))

  pub each_length : (vs : List Value) (xs : List A) → each_at one 0 (items_view vs) ≡ Ok xs → length xs ≡ length vs
  each_length vs xs read = subst (λ r. IfOk r (λ ys. length ys ≡ length vs)) read (lengths 0 vs)

  before : (vs ws : List Value) (xs : List A) → each_at one 0 (items_view vs) ≡ Ok xs → each_at one 0 (items_view (vs ++ ws)) ≡ with_front xs (each_at one (length xs) (items_view ws))
  before vs ws xs read =
      each_append 0 vs ws
      ∙ ap (λ r. r >>= λ ys. with_front ys (each_at one (0 + length vs) (items_view ws))) read
      ∙ ap (λ j. with_front xs (each_at one j (items_view ws))) (omega (arith, each_length vs xs read))

  one_more : (i : ℕ) (d : Data) (x : A) (xs : List A) → one i d ≡ Ok x → with_front xs (each_at one i (item d no_items)) ≡ Ok (xs ++ x ∷ [])
  unfolding each_at
  one_more i d x xs read = rw read refl

  stops : (i : ℕ) (d : Data) (ds : Items) (e : WireFault) (xs : List A) → Fails e (one i d) → Fails e (with_front xs (each_at one i (item d ds)))
  unfolding each_at
  stops i d ds faults.NoMemory xs h = tt
  stops i d ds faults.TooLong xs h = rw h refl
  stops i d ds faults.NotText xs h = rw h refl
  stops i d ds faults.NotJson xs h = rw h refl
  stops i d ds faults.NotObject xs h = rw h refl
  stops i d ds (faults.Missing n) xs h = rw h refl
  stops i d ds (faults.BadField n) xs h = rw h refl

  -- one more item is read
  pub each_push : (vs : List Value) (v : Value) (xs : List A) (x : A) (index : ℕ) → each_at one 0 (items_view vs) ≡ Ok xs → index ≡ length xs → one index (view v) ≡ Ok x
      → each_at one 0 (items_view (vs ++ v ∷ [])) ≡ Ok (xs ++ x ∷ [])
  each_push vs v xs x index read is got = before vs (v ∷ []) xs read ∙ one_more (length xs) (view v) x xs (ap (λ j. one j (view v)) (sym is) ∙ got)

  -- an item has a fault, and so has the list
  pub each_stops : (vs : List Value) (v : Value) (ws : List Value) (xs : List A) (e : WireFault) (index : ℕ) → each_at one 0 (items_view vs) ≡ Ok xs → index ≡ length xs → Fails e (one index (view v))
      → Fails e (each_at one 0 (items_view (vs ++ v ∷ ws)))
  each_stops vs v ws xs e index read is fault =
      subst (Fails e) (sym (before vs (v ∷ ws) xs read)) (stops (length xs) (view v) (items_view ws) e xs (subst (λ j. Fails e (one j (view v))) is fault))
