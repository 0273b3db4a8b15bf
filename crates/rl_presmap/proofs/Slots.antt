-- What is held of one key, and what the steps make of keys in order.
use Rattle.std.proofs.Common.{◌≡◌, Bool, true, false, cond, List, [], ◌∷◌, ◌++◌, refl, ap, sym, ◌∙◌, subst}
use Rattle.std.specs.Prelude.{Option, Some, None, IfSome, filter, map, option_map, option_to_list}
use Rattle.std.specs.List.{AllByRecursion}
use Rattle.std.specs.declared.cmp.Ordering.{Ordering}
use Rattle.std.specs.declared.cmp.Ordering.TheVariants.{Less, Equal, Greater}
use Rattle.std.specs.Ordering.{is_lt}
use Rattle.rl_ids.specs.declared.members.MemberKey.{MemberKey}
use Rattle.rl_types.specs.declared.presence.PresenceItem.{PresenceItem}
use Rattle.rl_model.specs.Members.{key_of, key_cmp, is_of}
use Rattle.rl_presmap.specs.declared.held.Held.{Held}
use Rattle.rl_presmap.specs.Held.{AreRising, is_held_of, is_before, is_behind, slot, with_slot}
use Rattle.rl_presmap.proofs.Keys.{less_of_greater, greater_of_less, of_same, before_itself}
use Rattle.rl_presmap.proofs.Places.{AllLater, later_all, lt_less, clash, found, passed, is_less, is_same}

abbrev pub Each : (Held → Type 0) → List Held → Type 0
Each P held = AllByRecursion P held

pub each_append : (P : Held → Type 0) (xs ys : List Held) → Each P xs → Each P ys → Each P (xs ++ ys)
each_append P [] ys all more = more
each_append P (x ∷ xs) ys all more = (all.0, each_append P xs ys all.1 more)

each_if : (P : Held → Type 0) (b : Bool) (x : Held) (xs : List Held) → (b ≡ true → P x) → Each P xs → Each P (cond b (x ∷ xs) xs)
each_if P true x xs own all = (own refl, all)
each_if P false x xs own all = all

-- those that pass a test have what the test gives
pub each_passes : (P : Held → Type 0) (test : Held → Bool) → ((h : Held) → test h ≡ true → P h) → (held : List Held) → Each P (filter test held)
each_passes P test gives [] = tt
each_passes P test gives (h ∷ held) = each_if P (test h) h (filter test held) (gives h) (each_passes P test gives held)

pub each_kept : (P : Held → Type 0) (test : Held → Bool) (held : List Held) → Each P held → Each P (filter test held)
each_kept P test [] all = tt
each_kept P test (h ∷ held) all = each_if P (test h) h (filter test held) (λ _. all.0) (each_kept P test held all.1)

-- ONE SLOT

-- it is of the key, where it is something
abbrev pub IsOf : MemberKey → Option Held → Type 0
IsOf key one = IfSome one (λ h. is_held_of key h ≡ true)

pub slot_is_of : (key : MemberKey) (held : List Held) → IsOf key (slot key held)
slot_is_of key [] = tt
slot_is_of key (h ∷ held) = by_test (is_held_of key h) refl (slot_is_of key held)
  where
    by_test : (b : Bool) → is_held_of key h ≡ b → IsOf key (slot key held) → IsOf key (cond b (Some h) (slot key held))
    by_test true is rest = is
    by_test false is rest = rest

pub slot_none_append : (key : MemberKey) (xs ys : List Held) → slot key xs ≡ None → slot key (xs ++ ys) ≡ slot key ys
slot_none_append key [] ys none = refl
slot_none_append key (x ∷ xs) ys none = by_test (is_held_of key x) refl none (slot_none_append key xs ys)
  where
    by_test : (b : Bool) → is_held_of key x ≡ b → cond b (Some x) (slot key xs) ≡ None → (slot key xs ≡ None → slot key (xs ++ ys) ≡ slot key ys)
        → slot key ((x ∷ xs) ++ ys) ≡ slot key ys
    by_test true is n rest = absurd (cc)
    by_test false is n rest = passed key x (xs ++ ys) is ∙ rest n

pub slot_append_none : (key : MemberKey) (xs ys : List Held) → slot key ys ≡ None → slot key (xs ++ ys) ≡ slot key xs
slot_append_none key [] ys none = none
slot_append_none key (x ∷ xs) ys none = ap (λ s. cond (is_held_of key x) (Some x) s) (slot_append_none key xs ys none)

-- a filter that passes all of the key
pub slot_all_pass : (key : MemberKey) (test : Held → Bool) → ((h : Held) → is_held_of key h ≡ true → test h ≡ true) → (held : List Held) → slot key (filter test held) ≡ slot key held
slot_all_pass key test passes [] = refl
slot_all_pass key test passes (h ∷ held) = by_tests (is_held_of key h) (test h) refl refl (slot_all_pass key test passes held)
  where
    by_tests : (a b : Bool) → is_held_of key h ≡ a → test h ≡ b → slot key (filter test held) ≡ slot key held
        → slot key (cond b (h ∷ filter test held) (filter test held)) ≡ cond a (Some h) (slot key held)
    by_tests true true is t rest = found key h (filter test held) is
    by_tests true false is t rest = clash (test h) (passes h is) t
    by_tests false true is t rest = passed key h (filter test held) is ∙ rest
    by_tests false false is t rest = rest

-- a filter that passes none of the key
pub slot_none_pass : (key : MemberKey) (test : Held → Bool) → ((h : Held) → is_held_of key h ≡ true → test h ≡ false) → (held : List Held) → slot key (filter test held) ≡ None
slot_none_pass key test fails [] = refl
slot_none_pass key test fails (h ∷ held) = by_tests (is_held_of key h) (test h) refl refl (slot_none_pass key test fails held)
  where
    by_tests : (a b : Bool) → is_held_of key h ≡ a → test h ≡ b → slot key (filter test held) ≡ None → slot key (cond b (h ∷ filter test held) (filter test held)) ≡ None
    by_tests true true is t rest = clash (test h) t (fails h is)
    by_tests true false is t rest = rest
    by_tests false true is t rest = passed key h (filter test held) is ∙ rest
    by_tests false false is t rest = rest

-- TWO KEYS

-- what is held of a key stands to another key as the key does
same_before : (key other : MemberKey) (h : Held) → is_held_of other h ≡ true → key_cmp other key ≡ Less → is_before key h ≡ true
same_before key other h is less = ap (λ (k : MemberKey). is_lt (key_cmp k key)) (sym (of_same other h.item is)) ∙ ap is_lt less

same_not_before : (key other : MemberKey) (h : Held) → is_held_of other h ≡ true → key_cmp other key ≡ Greater → is_before key h ≡ false
same_not_before key other h is more = ap (λ (k : MemberKey). is_lt (key_cmp k key)) (sym (of_same other h.item is)) ∙ ap is_lt more

same_behind : (key other : MemberKey) (h : Held) → is_held_of other h ≡ true → key_cmp other key ≡ Greater → is_behind key h ≡ true
same_behind key other h is more = ap (λ (k : MemberKey). is_lt (key_cmp key k)) (sym (of_same other h.item is)) ∙ ap is_lt (less_of_greater other key more)

same_not_behind : (key other : MemberKey) (h : Held) → is_held_of other h ≡ true → key_cmp other key ≡ Less → is_behind key h ≡ false
same_not_behind key other h is less = ap (λ (k : MemberKey). is_lt (key_cmp key k)) (sym (of_same other h.item is)) ∙ ap is_lt (greater_of_less other key less)

-- one of a key is of no other
pub of_one_key : (key other : MemberKey) (item : PresenceItem) → is_of key item ≡ true → is_of other item ≡ true → other ≡ key
of_one_key key other item a b = of_same other item b ∙ sym (of_same key item a)

not_of_other : (key other : MemberKey) (h : Held) → is_held_of key h ≡ true → (key_cmp other key ≡ Equal → ⊥) → is_held_of other h ≡ false
not_of_other key other h own apart = by_test (is_held_of other h) refl
  where
    by_test : (b : Bool) → is_held_of other h ≡ b → b ≡ false
    by_test false is = refl
    by_test true is =
        absurd (apart (ap (λ (k : MemberKey). key_cmp k key) (of_one_key key other h.item own is) ∙ before_itself key))

pub slot_of_other : (key other : MemberKey) (one : Option Held) → IsOf key one → (key_cmp other key ≡ Equal → ⊥) → slot other (option_to_list one) ≡ None
slot_of_other key other None is apart = refl
slot_of_other key other (Some h) is apart = passed other h [] (not_of_other key other h is apart)

-- A SLOT IS PUT

pub slot_put : (key : MemberKey) (one : Option Held) (held : List Held) → IsOf key one → slot key (with_slot key one held) ≡ one
slot_put key one held is =
    slot_none_append key (filter (is_before key) held) (option_to_list one ++ filter (is_behind key) held)
    (slot_none_pass key (is_before key) (λ h e. (is_same key h e).0) held)
    ∙ rest one is
  where
    rest : (one : Option Held) → IsOf key one → slot key (option_to_list one ++ filter (is_behind key) held) ≡ one
    rest None is = slot_none_pass key (is_behind key) (λ h e. (is_same key h e).1) held
    rest (Some h) is = found key h (filter (is_behind key) held) is

pub slot_other : (key other : MemberKey) (one : Option Held) (held : List Held) → IsOf key one → (o : Ordering) → key_cmp other key ≡ o → (o ≡ Equal → ⊥) → slot other (with_slot key one held) ≡ slot other held
slot_other key other one held is Equal e apart = absurd (apart refl)
slot_other key other one held is Less e apart =
    slot_append_none other (filter (is_before key) held) (option_to_list one ++ filter (is_behind key) held)
    (slot_none_append other (option_to_list one) (filter (is_behind key) held) (slot_of_other key other one is (λ f. absurd (cc)))
    ∙ slot_none_pass other (is_behind key) (λ h own. same_not_behind key other h own e) held)
    ∙ slot_all_pass other (is_before key) (λ h own. same_before key other h own e) held
slot_other key other one held is Greater e apart =
    slot_none_append other (filter (is_before key) held) (option_to_list one ++ filter (is_behind key) held)
    (slot_none_pass other (is_before key) (λ h own. same_not_before key other h own e) held)
    ∙ slot_none_append other (option_to_list one) (filter (is_behind key) held) (slot_of_other key other one is (λ f. absurd (cc)))
    ∙ slot_all_pass other (is_behind key) (λ h own. same_behind key other h own e) held

-- KEYS THAT RISE

pub rising_kept : (test : Held → Bool) (held : List Held) → AreRising held → AreRising (filter test held)
rising_kept test [] rising = tt
rising_kept test (h ∷ held) rising = by_test (test h) (rising_kept test held rising.1)
  where
    by_test : (b : Bool) → AreRising (filter test held) → AreRising (cond b (h ∷ filter test held) (filter test held))
    by_test true rest = (each_kept (λ other. key_cmp (key_of h.item) (key_of other.item) ≡ Less) test held rising.0, rest)
    by_test false rest = rest

-- what is held before a key, and then what is later than all before it
rising_join : (key : MemberKey) (xs ys : List Held) → AreRising xs → Each (λ h. key_cmp (key_of h.item) key ≡ Less) xs → AreRising ys
    → ((other : MemberKey) → key_cmp other key ≡ Less → AllLater other ys) → AreRising (xs ++ ys)
rising_join key [] ys rising before more later = more
rising_join key (x ∷ xs) ys rising before more later = (
  each_append (λ other. key_cmp (key_of x.item) (key_of other.item) ≡ Less) xs ys rising.0 (later (key_of x.item) before.0),
  rising_join key xs ys rising.1 before.1 more later,
)

later_behind : (key : MemberKey) (held : List Held) → AllLater key (filter (is_behind key) held)
later_behind key held = each_passes (λ h. key_cmp key (key_of h.item) ≡ Less) (is_behind key) (λ h is. lt_less _ is) held

rising_from : (key : MemberKey) (one : Option Held) (held : List Held) → IsOf key one → AreRising held → AreRising (option_to_list one ++ filter (is_behind key) held)
rising_from key None held is rising = rising_kept (is_behind key) held rising
rising_from key (Some h) held is rising =
    (subst (λ (k : MemberKey). AllLater k (filter (is_behind key) held)) (of_same key h.item is) (later_behind key held), rising_kept (is_behind key) held rising)

later_from : (key other : MemberKey) (one : Option Held) (held : List Held) → IsOf key one → key_cmp other key ≡ Less → AllLater other (option_to_list one ++ filter (is_behind key) held)
later_from key other None held is less = later_all other key (filter (is_behind key) held) less (later_behind key held)
later_from key other (Some h) held is less =
    (ap (λ (k : MemberKey). key_cmp other k) (sym (of_same key h.item is)) ∙ less, later_all other key (filter (is_behind key) held) less (later_behind key held))

pub rising_put : (key : MemberKey) (one : Option Held) (held : List Held) → IsOf key one → AreRising held → AreRising (with_slot key one held)
rising_put key one held is rising =
    rising_join key (filter (is_before key) held) (option_to_list one ++ filter (is_behind key) held) (rising_kept (is_before key) held rising)
    (each_passes (λ h. key_cmp (key_of h.item) key ≡ Less) (is_before key) (λ h b. lt_less _ b) held)
    (rising_from key one held is rising)
    (λ other less. later_from key other one held is less)

-- the same item, otherwise held
pub rising_map : (f : Held → Held) → ((h : Held) → (f h).item ≡ h.item) → (held : List Held) → AreRising held → AreRising (map f held)
rising_map f same [] rising = tt
rising_map f same (h ∷ held) rising = (later held rising.0, rising_map f same held rising.1)
  where
    later : (held : List Held) → AllLater (key_of h.item) held → AllLater (key_of (f h).item) (map f held)
    later [] all = tt
    later (x ∷ xs) all =
        (ap (λ (i : PresenceItem). key_cmp (key_of i) (key_of (f x).item)) (same h) ∙ ap (λ (i : PresenceItem). key_cmp (key_of h.item) (key_of i)) (same x) ∙ all.0, later xs all.1)

pub slot_map : (key : MemberKey) (f : Held → Held) → ((h : Held) → (f h).item ≡ h.item) → (held : List Held) → slot key (map f held) ≡ option_map f (slot key held)
slot_map key f same [] = refl
slot_map key f same (h ∷ held) = by_test (is_held_of key h) refl (slot_map key f same held)
  where
    by_test : (b : Bool) → is_held_of key h ≡ b → slot key (map f held) ≡ option_map f (slot key held) → slot key (map f (h ∷ held)) ≡ option_map f (cond b (Some h) (slot key held))
    by_test true is rest = found key (f h) (map f held) (ap (is_of key) (same h) ∙ is)
    by_test false is rest = passed key (f h) (map f held) (ap (is_of key) (same h) ∙ is) ∙ rest

-- nothing later is of the key
pub slot_later : (key : MemberKey) (held : List Held) → AllLater key held → slot key held ≡ None
slot_later key [] all = refl
slot_later key (h ∷ held) all = passed key h held (is_less key h all.0).2 ∙ slot_later key held all.1
