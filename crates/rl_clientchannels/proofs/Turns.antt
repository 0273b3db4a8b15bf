-- The latest of a list is changed, or one more comes.
use Rattle.std.proofs.Common.{◌≡◌, ℕ, ◌-◌, zero, suc, true, false, List, [], ◌∷◌, ◌++◌, length, map, take, refl, ap, sym, ◌∙◌, arith}
use Rattle.std.specs.Prelude.{Some, reverse, remove, slice_get, slice_set, ◌<◌}
use Rattle.std.proofs.lemmas.List.{reverse-append, append-nil, append_assoc}
use Rattle.rl_types.specs.declared.messages.Body.{Body}
use Rattle.rl_clientmodel.specs.declared.runs.Run.{Run}
use Rattle.rl_clientmodel.specs.Keys.{is_empty}
use Rattle.rl_clientmodel.specs.Runs.{got_onto}
use Rattle.rl_clientchannels.specs.Back.{got_back, runs_back}
use Rattle.rl_clientchannels.specs.Turned.{turned_onto, turned}

pub turned_push : {A : Type 0} (others xs : List A) (y : A) → turned_onto others (xs ++ y ∷ []) ≡ y ∷ turned_onto others xs
turned_push others [] y = refl
turned_push others (x ∷ xs) y = turned_push (x ∷ others) xs y

pub turned_some : {A : Type 0} (x : A) (others xs : List A) → is_empty (turned_onto (x ∷ others) xs) ≡ false
turned_some x others [] = refl
turned_some x others (y ∷ xs) = turned_some y (x ∷ others) xs

pub turned_empty : {A : Type 0} (xs : List A) → is_empty (turned xs) ≡ is_empty xs
turned_empty [] = refl
turned_empty (x ∷ xs) = turned_some x [] xs

abbrev pub got_one : ℕ × Body → Run → Run
got_one entry segment = record segment { got = segment.got ++ entry ∷ [] }

-- the latest of a list is changed
abbrev on_latest : (Run → Run) → List Run → List Run
on_latest change [] = []
on_latest change (run ∷ earlier) = change run ∷ earlier

change_last : (change : Run → Run) (s : Run) (xs others : List Run) (i : ℕ) → length xs ≡ suc i → slice_get xs i ≡ Some s → turned_onto others (slice_set xs i (change s)) ≡ on_latest change (turned_onto others xs)
change_last change s [] others i len is = grind arith
change_last change s (x ∷ []) others zero len is = let same : x ≡ s = cc in ap (λ (t : Run). change t ∷ others) (sym same)
change_last change s (x ∷ []) others (suc i) len is = grind arith
change_last change s (x ∷ y ∷ xs) others zero len is = grind arith
change_last change s (x ∷ y ∷ xs) others (suc i) len is = let fewer : length (y ∷ xs) ≡ suc i = omega arith in change_last change s (y ∷ xs) (x ∷ others) i fewer is

got_is : (entry : ℕ × Body) (runs : List Run) → on_latest (got_one entry) runs ≡ got_onto entry runs
got_is entry [] = refl
got_is entry (run ∷ earlier) = refl

set_same : (s : Run) (xs : List Run) (i : ℕ) → slice_get xs i ≡ Some s → slice_set xs i s ≡ xs
set_same s [] i is = refl
set_same s (x ∷ xs) zero is = let same : x ≡ s = cc in ap (λ (t : Run). t ∷ xs) (sym same)
set_same s (x ∷ xs) (suc i) is = ap (λ (t : List Run). x ∷ t) (set_same s xs i is)

-- an entry is pushed to what the latest has got
pub added : (entry : ℕ × Body) (s : Run) (xs : List Run) (n : ℕ) (got : List (ℕ × Body)) → n ≡ length xs → (n ≡ 0 → ⊥) → slice_get xs (n - 1) ≡ Some s → got ≡ s.got ++ entry ∷ [] → turned (slice_set xs (n - 1) (record s { got = got })) ≡ got_onto entry (turned xs)
added entry s xs n got is some found pushed =
    let len : length xs ≡ suc (n - 1) = omega arith in
    ap (λ (g : List (ℕ × Body)). turned (slice_set xs (n - 1) (record s { got = g }))) pushed ∙ change_last (got_one entry) s xs [] (n - 1) len found ∙ got_is entry (turned xs)

pub not_added : (s : Run) (xs : List Run) (n : ℕ) (got : List (ℕ × Body)) → slice_get xs (n - 1) ≡ Some s → got ≡ s.got → turned (slice_set xs (n - 1) (record s { got = got })) ≡ turned xs
not_added s xs n got found same =
    ap (λ (g : List (ℕ × Body)). turned (slice_set xs (n - 1) (record s { got = g }))) same ∙ ap turned (set_same s xs (n - 1) found)

reverse_more : {A : Type 0} (x : A) (others : List A) → reverse (x ∷ others) ≡ reverse others ++ x ∷ []
reverse_more x others = reverse-append (x ∷ []) others

back_by : {A : Type 0} (others xs : List A) → reverse (turned_onto others xs) ≡ reverse others ++ xs
back_by others [] = sym (append-nil (reverse others))
back_by others (x ∷ xs) = back_by (x ∷ others) xs ∙ ap (λ t. t ++ xs) (reverse_more x others) ∙ append_assoc (reverse others) (x ∷ []) xs

pub turned_back : {A : Type 0} (xs : List A) → reverse (turned xs) ≡ xs
turned_back xs = back_by [] xs

-- THE LATEST IS DROPPED

dropped_onto : (others xs : List Run) (n : ℕ) → length xs ≡ suc n → turned_onto others (remove xs n) ≡ runs_back false (turned_onto others xs)
dropped_onto others [] n len = grind arith
dropped_onto others (x ∷ []) zero len = refl
dropped_onto others (x ∷ []) (suc n) len = grind arith
dropped_onto others (x ∷ y ∷ xs) zero len = grind arith
dropped_onto others (x ∷ y ∷ xs) (suc n) len = let fewer : length (y ∷ xs) ≡ suc n = omega arith in dropped_onto (x ∷ others) (y ∷ xs) n fewer

pub turned_drop : (xs : List Run) (n : ℕ) → n ≡ length xs → 0 < n → turned (remove xs (n - 1)) ≡ runs_back false (turned xs)
turned_drop xs n is some = let len : length xs ≡ suc (n - 1) = omega arith in dropped_onto [] xs (n - 1) len

-- AN ENTRY OF THE LATEST IS DROPPED

abbrev without_last : Run → Run
without_last run = record run { got = take (length run.got - 1) run.got }

back_is : (runs : List Run) → on_latest without_last runs ≡ got_back true runs
back_is [] = refl
back_is (run ∷ earlier) = refl

pub entry_dropped : (s : Run) (xs : List Run) (n : ℕ) (got : List (ℕ × Body)) → n ≡ length xs → (n ≡ 0 → ⊥) → slice_get xs (n - 1) ≡ Some s → got ≡ take (length s.got - 1) s.got → turned (slice_set xs (n - 1) (record s { got = got })) ≡ got_back true (turned xs)
entry_dropped s xs n got is some found dropped =
    let len : length xs ≡ suc (n - 1) = omega arith in
    ap (λ (g : List (ℕ × Body)). turned (slice_set xs (n - 1) (record s { got = g }))) dropped ∙ change_last without_last s xs [] (n - 1) len found ∙ back_is (turned xs)

-- ALL ARE SHOWN

map_turned : {A B : Type 0} (f : A → B) (others xs : List A) → map f (turned_onto others xs) ≡ turned_onto (map f others) (map f xs)
map_turned f others [] = refl
map_turned f others (x ∷ xs) = map_turned f (x ∷ others) xs

-- what is made of each, from the last one on, is turned again
pub turned_shown : {A B : Type 0} (f : A → B) (xs : List A) → map f xs ≡ reverse (map f (turned xs))
turned_shown f xs = sym (ap reverse (map_turned f [] xs) ∙ turned_back (map f xs))
