-- A record found by the number in its key, and a new one after the others.
use Rattle.std.proofs.Common.{◌≡◌, ℕ, ◌+◌, ◌^◌, ◌<◌, ◌≤◌, Bool, true, false, cond, List, [], ◌∷◌, ◌++◌, length, take, map, refl, ap, sym, subst, ◌∙◌, arith}
use Rattle.std.specs.Prelude.{◌&&◌, Option, Some, None, if◌then◌else◌, find, bytes_eq}
use Rattle.std.specs.List.{AllByRecursion, filter}
use Rattle.std.specs.List.Sorted.{IsStrictlySortedBy}
use Rattle.std.specs.Ordering.{nat_cmp}
use Rattle.std.specs.declared.cmp.Ordering.TheVariants.{Less, Greater}
use Rattle.std.specs.Map.{lookup, keys_of}
use Rattle.std.specs.BTreeMap.{is_at, insert_entry}
use Rattle.std.specs.Cmp.Lexicographic.{bytes_decides}
use Rattle.std.proofs.lemmas.Bool.Decides.{nat_tests}
use Rattle.std.proofs.lemmas.List.{take-append-le, take_all}
use Rattle.rl_base.specs.Digits.{fixed_text}
use Rattle.rl_base.proofs.Digits.{fixed_lengths}
use Rattle.rl_events.specs.declared.book.BookReply.TheVariants.{Resumed, KeyUnknown}
use Rattle.rl_connbook.specs.declared.record.Record.{Record}
use Rattle.rl_connbook.specs.Records.{is_open, raised}
use Rattle.rl_connbook.specs.Book.{has_key, may_resume, resumed, is_over, key_text}
use Rattle.rl_connbook.specs.Sound.{IsSound, IsNumbered}

-- BY KEY

same_number : (n q : ℕ) → is_at (nat_cmp n) q ≡ true → q ≡ n
same_number n q h = grind (arith, nat_tests)

at_self : (n : ℕ) → is_at (nat_cmp n) n ≡ true
at_self n = grind (arith, nat_tests)

less_not : (n : ℕ) → nat_cmp n n ≡ Less → ⊥
less_not n h = grind (arith, nat_tests)

key_same : (key : List ℕ) (e : ℕ × Record) → has_key key e ≡ true → key ≡ e.1.key
key_same key e h = (bytes_decides key e.1.key).0 (and_left (bytes_eq key e.1.key) (is_open e.1.standing) h)
  where
    and_left : (a b : Bool) → (a && b) ≡ true → a ≡ true
    and_left true b h = refl
    and_left false b h = cc

abbrev pub finds : ℕ → List ℕ → Option Record → Option (ℕ × Record)
finds n key None = None
finds n key (Some r) = if has_key key (n, r) then Some (n, r) else None

number_same : (key : List ℕ) (e : ℕ × Record) → IsNumbered e.0 e.1.key → has_key key e ≡ true → IsNumbered e.0 key
number_same key e keyed h = subst (IsNumbered e.0) (sym (key_same key e h)) keyed

none_by : (key : List ℕ) (e : ℕ × Record) (found : Option (ℕ × Record)) (b : Bool) → has_key key e ≡ b → (b ≡ true → ⊥) → found ≡ None → cond b (Some e) found ≡ None
none_by key e found true is no_way rest = absurd (no_way refl)
none_by key e found false is no_way rest = rest

none_later : (n : ℕ) (key : List ℕ) (es : List (ℕ × Record)) → ((m : ℕ) → IsNumbered m key → n ≡ m) → AllByRecursion (λ e. IsNumbered e.0 e.1.key) es → AllByRecursion (λ q. nat_cmp n q ≡ Less) (keys_of es) → find (has_key key) es ≡ None
none_later n key [] is keyed above = refl
none_later n key (e ∷ es) is keyed above =
    none_by key e (find (has_key key) es) (has_key key e) refl (λ h. less_not n (subst (λ (q : ℕ). nat_cmp n q ≡ Less) (sym (is e.0 (number_same key e keyed.0 h))) above.0)) (none_later n key es is keyed.1 above.1)

pair_same : (n : ℕ) (e : ℕ × Record) → e.0 ≡ n → Some e ≡ Some (n, e.1)
pair_same n e h = ap (λ (q : ℕ). Some (q, e.1)) h

find_by : (n : ℕ) (key : List ℕ) (e : ℕ × Record) (es : List (ℕ × Record)) (b c : Bool) → has_key key e ≡ b → is_at (nat_cmp n) e.0 ≡ c → ((m : ℕ) → IsNumbered m key → n ≡ m) → IsNumbered e.0 e.1.key → (c ≡ true → find (has_key key) es ≡ None) → find (has_key key) es ≡ finds n key (lookup (is_at (nat_cmp n)) es) → cond b (Some e) (find (has_key key) es) ≡ finds n key (cond c (Some e.1) (lookup (is_at (nat_cmp n)) es))
find_by n key e es true true has at is keyed later rest =
    pair_same n e (same_number n e.0 at) ∙ sym (ap (λ (b : Bool). if b then Some (n, e.1) else None) has)
find_by n key e es true false has at is keyed later rest =
    let number : e.0 ≡ n = sym (is e.0 (number_same key e keyed has)) in
    let yes_at : is_at (nat_cmp n) e.0 ≡ true = rw number (at_self n) in
    absurd (grind (arith, nat_tests, yes_at, at))
find_by n key e es false true has at is keyed later rest =
    later refl ∙ sym (ap (λ (b : Bool). if b then Some (n, e.1) else None) has)
find_by n key e es false false has at is keyed later rest = rest

above_from : (n : ℕ) (e : ℕ × Record) (es : List (ℕ × Record)) → is_at (nat_cmp n) e.0 ≡ true → AllByRecursion (λ q. nat_cmp e.0 q ≡ Less) (keys_of es) → AllByRecursion (λ q. nat_cmp n q ≡ Less) (keys_of es)
above_from n e es at above = subst (λ (q : ℕ). AllByRecursion (λ p. nat_cmp q p ≡ Less) (keys_of es)) (same_number n e.0 at) above

pub find_is : (n : ℕ) (key : List ℕ) (es : List (ℕ × Record)) → ((m : ℕ) → IsNumbered m key → n ≡ m) → AllByRecursion (λ e. IsNumbered e.0 e.1.key) es → IsStrictlySortedBy nat_cmp (keys_of es) → find (has_key key) es ≡ finds n key (lookup (is_at (nat_cmp n)) es)
unfolding IsStrictlySortedBy
find_is n key [] is keyed rises = refl
find_is n key (e ∷ es) is keyed rises =
    find_by n key e es (has_key key e) (is_at (nat_cmp n) e.0) refl refl is keyed.0 (λ at. none_later n key es is keyed.1 (above_from n e es at rises.0)) (find_is n key es is keyed.1 rises.1)

resumed_by : (n : ℕ) (r : Record) (a b : Bool) → may_resume r ≡ b → resumed (if a then Some (n, r) else None) ≡ (if a && b then Resumed n (raised r.generation) else KeyUnknown)
resumed_by n r true b h = ap (λ (c : Bool). if c then Resumed n (raised r.generation) else KeyUnknown) h
resumed_by n r false b h = refl

-- what a Resume is told, by the record at the number in the key
pub resumed_none : (n : ℕ) (key : List ℕ) (es : List (ℕ × Record)) → ((m : ℕ) → IsNumbered m key → n ≡ m) → AllByRecursion (λ e. IsNumbered e.0 e.1.key) es → IsStrictlySortedBy nat_cmp (keys_of es) → lookup (is_at (nat_cmp n)) es ≡ None → resumed (find (has_key key) es) ≡ KeyUnknown
resumed_none n key es is keyed rises none = ap resumed (find_is n key es is keyed rises ∙ ap (finds n key) none)

pub resumed_one : (n : ℕ) (key : List ℕ) (r : Record) (es : List (ℕ × Record)) (may : Bool) → ((m : ℕ) → IsNumbered m key → n ≡ m) → AllByRecursion (λ e. IsNumbered e.0 e.1.key) es → IsStrictlySortedBy nat_cmp (keys_of es) → lookup (is_at (nat_cmp n)) es ≡ Some r → (has_key key (n, r) && may_resume r) ≡ may → resumed (find (has_key key) es) ≡ (if may then Resumed n (raised r.generation) else KeyUnknown)
resumed_one n key r es may is keyed rises found h =
    ap resumed (find_is n key es is keyed rises ∙ ap (finds n key) found)
    ∙ resumed_by n r (has_key key (n, r)) (may_resume r) refl
    ∙ ap (λ (b : Bool). if b then Resumed n (raised r.generation) else KeyUnknown) h

-- A NEW ONE

greater : (k n last : ℕ) → n ≤ last → k ≡ last + 1 → nat_cmp k n ≡ Greater
greater k n last h is = grind (arith, nat_tests)

pub inserted_last : (k last : ℕ) (r : Record) (es : List (ℕ × Record)) → k ≡ last + 1 → AllByRecursion (λ e. e.0 ≤ last) es → insert_entry nat_cmp es k r ≡ es ++ (k, r) ∷ []
inserted_last k last r [] is below = refl
inserted_last k last r (e ∷ es) is below = rw (greater k e.0 last below.0 is) (ap (λ (xs : List (ℕ × Record)). e ∷ xs) (inserted_last k last r es is below.1))

below_more : (k last : ℕ) (r : Record) (es : List (ℕ × Record)) → k ≡ last + 1 → AllByRecursion (λ e. e.0 ≤ last) es → AllByRecursion (λ e. e.0 ≤ k) (es ++ (k, r) ∷ [])
below_more k last r [] is below = (omega arith, tt)
below_more k last r (e ∷ es) is below = (omega (arith, below.0, is), below_more k last r es is below.1)

keyed_more : (k : ℕ) (r : Record) (es : List (ℕ × Record)) → IsNumbered k r.key → AllByRecursion (λ e. IsNumbered e.0 e.1.key) es → AllByRecursion (λ e. IsNumbered e.0 e.1.key) (es ++ (k, r) ∷ [])
keyed_more k r [] is keyed = (is, tt)
keyed_more k r (e ∷ es) is keyed = (keyed.0, keyed_more k r es is keyed.1)

front_taken : (w n : ℕ) (xs ys : List ℕ) → xs ≡ fixed_text 16 w n → take w (xs ++ ys) ≡ xs
front_taken w n xs ys is =
    let long : length xs ≡ w = fixed_lengths 16 w n xs is in
    take-append-le w xs ys (omega arith) ∙ take_all w xs (omega arith)

-- a new key has its number
pub number_new : (n word : ℕ) → n < 2 ^ 32 → IsNumbered n (key_text n word)
number_new n word h = record { small = h; digits = front_taken 8 n (fixed_text 16 8 n) (33 ∷ fixed_text 16 16 word) refl }

pub sound_more : (k last word : ℕ) (r : Record) (es : List (ℕ × Record)) → k ≡ last + 1 → k < 2 ^ 32 → r.key ≡ key_text k word → IsSound last es → IsSound k (es ++ (k, r) ∷ [])
sound_more k last word r es is small key sound = record {
  below = below_more k last r es is sound.below;
  keyed = keyed_more k r es (subst (IsNumbered k) (sym key) (number_new k word small)) sound.keyed;
}

-- THE ONES THAT ARE OVER

abbrev pub numbers_over : ℕ → List (ℕ × Record) → List ℕ
numbers_over now es = map (λ e. e.0) (filter (λ e. is_over now e.1) es)
