-- Laws of the directory.
use Rattle.std.proofs.Common.{◌≡◌, ℕ, zero, suc, ◌<◌, ◌≤◌, Bool, true, false, cond, List, [], ◌∷◌, ◌++◌, length, length-append, refl, ap, sym, ◌∙◌, arith, inl, inr}
use Rattle.std.specs.Prelude.{◌⊎◌, Option, Some, None, option_map, bytes_eq, slice_get}
use Rattle.std.proofs.lemmas.Bool.Decides.{nat_tests}
use Rattle.std.proofs.lemmas.Slice.Eq.{bytes_eq-Decides}
use Rattle.rl_numbers.specs.declared.limits.TheConstants.{MAX_CHANNELS}
use Rattle.rl_events.specs.declared.calls.DirEvent.{DirEvent}
use Rattle.rl_events.specs.declared.calls.DirEvent.TheVariants.{Ask, Names}
use Rattle.rl_events.specs.declared.calls.DirReply.TheVariants.{At, Full}
use Rattle.rl_directory.specs.Directory.{number_of, is_full, new_number, told, asked_by, named_by, after, names_from, names_after, reply_after}
use Rattle.rl_directory.specs.Laws.{NumbersStay, NumbersAreApart, NumbersAreBelow, FullIsReached, FullIsAnswered, NamesAreInOrder}
use Rattle.rl_directory.proofs.History.{from_appended}
use Rattle.rl_directory.proofs.Keeping.{or_else, here, behind}

-- ONE NAME

-- a number is an index of the list
below : (name : List ℕ) (names : List (List ℕ)) (number : ℕ) → number_of name names ≡ Some number → number < length names
below name [] number is = cc
below name (other ∷ names) number is = by_test (bytes_eq name other) (number_of name names) (λ n was. below name names n was) refl is
  where
    by_test : (b : Bool) (found : Option ℕ) → ((n : ℕ) → number_of name names ≡ Some n → n < length names) → number_of name names ≡ found → cond b (Some 0) (option_map (λ n. suc n) found) ≡ Some number → number < length (other ∷ names)
    by_test true found rest was is = let at : 0 ≡ number = cc in omega (arith, at)
    by_test false None rest was is = cc
    by_test false (Some n) rest was is = let less = rest n was in let at : suc n ≡ number = cc in omega (arith, at, less)

-- two names with one number are one
apart : (name other : List ℕ) (names : List (List ℕ)) (number : ℕ) → number_of name names ≡ Some number → number_of other names ≡ Some number → other ≡ name
apart name other [] number is same = cc
apart name other (first ∷ names) number is same = by_tests (bytes_eq name first) (bytes_eq other first) (number_of name names) (number_of other names) (λ n h k. apart name other names n h k) refl refl refl refl is same
  where
    by_tests : (b c : Bool) (found too : Option ℕ) → ((n : ℕ) → number_of name names ≡ Some n → number_of other names ≡ Some n → other ≡ name) → bytes_eq name first ≡ b → bytes_eq other first ≡ c → number_of name names ≡ found → number_of other names ≡ too
        → cond b (Some 0) (option_map (λ n. suc n) found) ≡ Some number → cond c (Some 0) (option_map (λ n. suc n) too) ≡ Some number → other ≡ name
    by_tests true true found too rest b c f t is same = (bytes_eq-Decides other first).0 c ∙ sym ((bytes_eq-Decides name first).0 b)
    by_tests true false found None rest b c f t is same = cc
    by_tests true false found (Some m) rest b c f t is same = let zero_is : 0 ≡ number = cc in let suc_is : suc m ≡ number = cc in absurd (omega (arith, zero_is, suc_is))
    by_tests false true None too rest b c f t is same = cc
    by_tests false true (Some m) too rest b c f t is same = let zero_is : 0 ≡ number = cc in let suc_is : suc m ≡ number = cc in absurd (omega (arith, zero_is, suc_is))
    by_tests false false None too rest b c f t is same = cc
    by_tests false false (Some m) None rest b c f t is same = cc
    by_tests false false (Some m) (Some n) rest b c f t is same =
        let one : suc m ≡ number = cc in
        let two : suc n ≡ number = cc in
        let at : n ≡ m = omega (arith, one, two) in
        rest m f (t ∙ ap (λ (k : ℕ). Some k) at)

-- ONE EVENT

-- a name that has a number keeps it
stays : (name : List ℕ) (names : List (List ℕ)) (number : ℕ) (event : DirEvent) → number_of name names ≡ Some number → number_of name (after names event) ≡ Some number
stays name names number Names is = is
stays name names number (Ask other) is = by_number (number_of other names)
  where
    by_full : (full : Bool) → number_of name (cond full names (names ++ other ∷ [])) ≡ Some number
    by_full true = is
    by_full false = behind name other names ∙ ap (λ (found : Option ℕ). or_else found (here (bytes_eq name other) (length names))) is

    by_number : (found : Option ℕ) → number_of name (named_by found other names) ≡ Some number
    by_number (Some n) = is
    by_number None = by_full (is_full names)

-- a name that is answered a number has it from then on
given : (name : List ℕ) (names : List (List ℕ)) (number : ℕ) → told names (Ask name) ≡ At number → number_of name (after names (Ask name)) ≡ Some number
given name names number is = by_number (number_of name names) refl is
  where
    by_full : (full : Bool) → number_of name names ≡ None → cond full (Full (length names)) (At (length names)) ≡ At number → number_of name (cond full names (names ++ name ∷ [])) ≡ Some number
    by_full true new is = cc
    by_full false new is =
        let at : length names ≡ number = cc in
        behind name name names
        ∙ ap (λ (found : Option ℕ). or_else found (here (bytes_eq name name) (length names))) new
        ∙ ap (λ (b : Bool). here b (length names)) ((bytes_eq-Decides name name).1 refl)
        ∙ ap (λ (n : ℕ). Some n) at

    by_number : (found : Option ℕ) → number_of name names ≡ found → asked_by found names ≡ At number → number_of name (named_by found name names) ≡ Some number
    by_number (Some n) was is = let at : n ≡ number = cc in was ∙ ap (λ (n : ℕ). Some n) at
    by_number None was is = by_full (is_full names) was is

-- a number that one name has is answered to no other
answered_apart : (name other : List ℕ) (names : List (List ℕ)) (number : ℕ) → number_of name names ≡ Some number → told names (Ask other) ≡ At number → other ≡ name
answered_apart name other names number has is = by_number (number_of other names) refl is
  where
    by_full : (full : Bool) → cond full (Full (length names)) (At (length names)) ≡ At number → other ≡ name
    by_full true is = cc
    by_full false is = let at : length names ≡ number = cc in let less = below name names number has in absurd (omega (arith, at, less))

    by_number : (found : Option ℕ) → number_of other names ≡ found → asked_by found names ≡ At number → other ≡ name
    by_number (Some n) was is = let at : n ≡ number = cc in apart name other names number has (was ∙ ap (λ (n : ℕ). Some n) at)
    by_number None was is = by_full (is_full names) is

-- no more names than may be
few_more : (names : List (List ℕ)) (event : DirEvent) → length names ≤ MAX_CHANNELS → length (after names event) ≤ MAX_CHANNELS
few_more names Names few = few
few_more names (Ask name) few = by_number (number_of name names)
  where
    by_full : (full : Bool) → is_full names ≡ full → length (cond full names (names ++ name ∷ [])) ≤ MAX_CHANNELS
    by_full true is = few
    by_full false is =
        let less : length names < MAX_CHANNELS = grind (arith, nat_tests) in
        let more = length-append names (name ∷ []) in
        omega (arith, less, more)

    by_number : (found : Option ℕ) → length (named_by found name names) ≤ MAX_CHANNELS
    by_number (Some n) = few
    by_number None = by_full (is_full names) refl

-- an answered number is below the most
answered_below : (name : List ℕ) (names : List (List ℕ)) (number : ℕ) → length names ≤ MAX_CHANNELS → told names (Ask name) ≡ At number → number < MAX_CHANNELS
answered_below name names number few is = by_number (number_of name names) refl is
  where
    by_full : (full : Bool) → is_full names ≡ full → cond full (Full (length names)) (At (length names)) ≡ At number → number < MAX_CHANNELS
    by_full true was is = cc
    by_full false was is =
        let at : length names ≡ number = cc in
        let less : length names < MAX_CHANNELS = grind (arith, nat_tests) in
        omega (arith, at, less)

    by_number : (found : Option ℕ) → number_of name names ≡ found → asked_by found names ≡ At number → number < MAX_CHANNELS
    by_number (Some n) was is = let at : n ≡ number = cc in let less = below name names n was in omega (arith, at, less, few)
    by_number None was is = by_full (is_full names) refl is

-- Full is answered where it is
answered_full : (name : List ℕ) (names : List (List ℕ)) (count : ℕ) → length names ≤ MAX_CHANNELS → told names (Ask name) ≡ Full count → (count ≡ MAX_CHANNELS) × (length names ≡ MAX_CHANNELS) × (number_of name names ≡ None)
answered_full name names count few is = by_number (number_of name names) refl is
  where
    by_full : (full : Bool) → number_of name names ≡ None → is_full names ≡ full → cond full (Full (length names)) (At (length names)) ≡ Full count → (count ≡ MAX_CHANNELS) × (length names ≡ MAX_CHANNELS) × (number_of name names ≡ None)
    by_full false new was is = cc
    by_full true new was is =
        let at : length names ≡ count = cc in
        let least : MAX_CHANNELS ≤ length names = grind (arith, nat_tests) in
        (omega (arith, at, least, few), omega (arith, least, few), new)

    by_number : (found : Option ℕ) → number_of name names ≡ found → asked_by found names ≡ Full count → (count ≡ MAX_CHANNELS) × (length names ≡ MAX_CHANNELS) × (number_of name names ≡ None)
    by_number (Some n) was is = cc
    by_number None was is = by_full (is_full names) was refl is

-- ALL EVENTS

kept : (name : List ℕ) (names : List (List ℕ)) (number : ℕ) (more : List DirEvent) → number_of name names ≡ Some number → number_of name (names_from names more) ≡ Some number
kept name names number [] is = is
kept name names number (event ∷ more) is = kept name (after names event) number more (stays name names number event is)

few_from : (names : List (List ℕ)) (events : List DirEvent) → length names ≤ MAX_CHANNELS → length (names_from names events) ≤ MAX_CHANNELS
few_from names [] few = few
few_from names (event ∷ more) few = few_from (after names event) more (few_more names event few)

few_after : (past : List DirEvent) → length (names_after past) ≤ MAX_CHANNELS
few_after past = few_from [] past (omega arith)

-- a name that was answered a number has it, whatever comes then
has_from : (past more : List DirEvent) (name : List ℕ) (number : ℕ) → reply_after past (Ask name) ≡ At number → number_of name (names_after (past ++ (Ask name ∷ more))) ≡ Some number
has_from past more name number is =
    ap (λ (names : List (List ℕ)). number_of name names) (from_appended [] past (Ask name ∷ more))
    ∙ kept name (after (names_after past) (Ask name)) number more (given name (names_after past) number is)

pub numbers_stay : NumbersStay
numbers_stay past more name number is = ap (λ (found : Option ℕ). asked_by found (names_after (past ++ (Ask name ∷ more)))) (has_from past more name number is)

pub numbers_are_apart : NumbersAreApart
numbers_are_apart past more name other number is same = answered_apart name other (names_after (past ++ (Ask name ∷ more))) number (has_from past more name number is) same

pub numbers_are_below : NumbersAreBelow
numbers_are_below past name number is = answered_below name (names_after past) number (few_after past) is

pub full_is_reached : FullIsReached
full_is_reached past name count is =
    let full = answered_full name (names_after past) count (few_after past) is in
    record { says = full.0; full = full.1; other = full.2 }

-- THE ORDER

got : (names : List (List ℕ)) (key name : List ℕ) (number : ℕ) → slice_get (names ++ key ∷ []) number ≡ Some name → (slice_get names number ≡ Some name) ⊎ ((number ≡ length names) × (key ≡ name))
got [] key name zero is = inr (refl, cc)
got [] key name (suc n) is = cc
got (first ∷ names) key name zero is = inl is
got (first ∷ names) key name (suc n) is = lifted (got names key name n is)
  where
    lifted : (slice_get names n ≡ Some name) ⊎ ((n ≡ length names) × (key ≡ name)) → (slice_get names n ≡ Some name) ⊎ ((suc n ≡ length (first ∷ names)) × (key ≡ name))
    lifted (inl h) = inl h
    lifted (inr h) = inr (omega (arith, h.0), h.1)

-- the name at each place has that number
abbrev AreInOrder : List (List ℕ) → Type 0
AreInOrder names = (name : List ℕ) (number : ℕ) → slice_get names number ≡ Some name → number_of name names ≡ Some number

ordered_more : (names : List (List ℕ)) (key : List ℕ) → number_of key names ≡ None → AreInOrder names → AreInOrder (names ++ key ∷ [])
ordered_more names key new ordered name number is = by_place (got names key name number is)
  where
    by_place : (slice_get names number ≡ Some name) ⊎ ((number ≡ length names) × (key ≡ name)) → number_of name (names ++ key ∷ []) ≡ Some number
    by_place (inl h) = behind name key names ∙ ap (λ (found : Option ℕ). or_else found (here (bytes_eq name key) (length names))) (ordered name number h)
    by_place (inr h) =
        behind name key names
        ∙ ap (λ (found : Option ℕ). or_else found (here (bytes_eq name key) (length names))) (ap (λ (t : List ℕ). number_of t names) (sym h.1) ∙ new)
        ∙ ap (λ (b : Bool). here b (length names)) ((bytes_eq-Decides name key).1 (sym h.1))
        ∙ ap (λ (n : ℕ). Some n) (sym h.0)

ordered_after : (names : List (List ℕ)) (event : DirEvent) → AreInOrder names → AreInOrder (after names event)
ordered_after names Names ordered = ordered
ordered_after names (Ask name) ordered = by_number (number_of name names) refl
  where
    by_full : (full : Bool) → number_of name names ≡ None → AreInOrder (cond full names (names ++ name ∷ []))
    by_full true new = ordered
    by_full false new = ordered_more names name new ordered

    by_number : (found : Option ℕ) → number_of name names ≡ found → AreInOrder (named_by found name names)
    by_number (Some n) was = ordered
    by_number None was = by_full (is_full names) was

ordered_from : (names : List (List ℕ)) (events : List DirEvent) → AreInOrder names → AreInOrder (names_from names events)
ordered_from names [] ordered = ordered
ordered_from names (event ∷ more) ordered = ordered_from (after names event) more (ordered_after names event ordered)

pub names_are_in_order : NamesAreInOrder
names_are_in_order past name number is =
    ap (λ (found : Option ℕ). asked_by found (names_after past)) (ordered_from [] past (λ name number h. cc) name number is)

-- FULL

new_is_full : (names : List (List ℕ)) (full : Bool) → is_full names ≡ full → length names ≡ MAX_CHANNELS → new_number names ≡ Full MAX_CHANNELS
new_is_full names true is many = ap (λ (b : Bool). cond b (Full (length names)) (At (length names))) is ∙ ap (λ (n : ℕ). Full n) many
new_is_full names false is many = let less : length names < MAX_CHANNELS = grind (arith, nat_tests) in absurd (omega (arith, less, many))

pub full_is_answered : FullIsAnswered
full_is_answered past name many new =
    let names : List (List ℕ) = names_after past in
    ap (λ (found : Option ℕ). asked_by found names) new ∙ new_is_full names (is_full names) refl many
