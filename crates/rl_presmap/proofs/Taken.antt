-- What taking an item up at a place makes of what is held.
use Rattle.std.proofs.Common.{◌≡◌, ℕ, zero, suc, ◌<◌, Bool, true, false, cond, List, [], ◌∷◌, ◌++◌, length, take, drop, get_or, set, refl, ap, sym, subst, ◌∙◌, arith}
use Rattle.std.specs.Prelude.{Option, Some, None, slice_get, unwrap_or, option_to_list, filter}
use Rattle.std.proofs.lemmas.List.{set_split}
use Rattle.rl_ids.specs.declared.members.MemberKey.{MemberKey}
use Rattle.rl_types.specs.declared.presence.PresenceItem.{PresenceItem}
use Rattle.rl_model.specs.Members.{key_of}
use Rattle.rl_presmap.specs.declared.held.Held.{Held}
use Rattle.rl_presmap.specs.declared.events.PresenceEvent.{PresenceEvent}
use Rattle.rl_presmap.specs.Held.{AreRising, is_before, is_behind, slot, with_slot, IsHeldAt, IsMissedAt}
use Rattle.rl_presmap.specs.Steps.{is_absent, stored, told_as, told, slot_after, named, with_item, event_of}

-- the place that was found in a slice that has what is held, for an item that is the same
pub held_in : (item sought : PresenceItem) (held seen : List Held) (at : ℕ) → sought ≡ item → seen ≡ held → AreRising held
    → (AreRising seen → IsHeldAt (key_of sought) seen at) → IsHeldAt (key_of item) held at
held_in item sought held seen at same_item same rising place =
    subst (λ (i : PresenceItem). IsHeldAt (key_of i) held at) same_item
    (subst (λ (xs : List Held). IsHeldAt (key_of sought) xs at) same (place (subst AreRising (sym same) rising)))

pub heard_as : (item sought : PresenceItem) (test : Bool) → sought ≡ item → test ≡ is_absent sought.action → test ≡ false → is_absent item.action ≡ false
heard_as item sought test same is not = sym (ap (λ (i : PresenceItem). is_absent i.action) same) ∙ sym is ∙ not

some_at : (held : List Held) (at : ℕ) → at < length held → (was : Held) × (slice_get held at ≡ Some was)
some_at [] at low = absurd (omega arith)
some_at (h ∷ held) zero low = (h, refl)
some_at (h ∷ held) (suc at) low = some_at held at (omega arith)

-- the item is not ABSENT
heard : (syncing : Bool) (item : PresenceItem) (held : List Held) → is_absent item.action ≡ false
    → with_item syncing item held ≡ with_slot (key_of item) (slot_after syncing item (slot (key_of item) held)) held
heard syncing item held is = ap (λ b. cond b held (with_slot (key_of item) (slot_after syncing item (slot (key_of item) held)) held)) is

heard_event : (item : PresenceItem) (held : List Held) → is_absent item.action ≡ false → event_of item held ≡ told item (slot (key_of item) held)
heard_event item held is = ap (λ b. cond b None (told item (slot (key_of item) held))) is

pub absent_items : (syncing : Bool) (item : PresenceItem) (held : List Held) → is_absent item.action ≡ true → held ≡ with_item syncing item held
absent_items syncing item held is = sym (ap (λ b. cond b held (with_slot (key_of item) (slot_after syncing item (slot (key_of item) held)) held)) is)

pub absent_event : (item : PresenceItem) (held : List Held) → is_absent item.action ≡ true → None ≡ event_of item held
absent_event item held is = sym (ap (λ b. cond b None (told item (slot (key_of item) held))) is)

parts : (key : MemberKey) (one : Option Held) (held front back : List Held) → front ≡ filter (is_before key) held → back ≡ filter (is_behind key) held
    → front ++ (option_to_list one ++ back) ≡ with_slot key one held
parts key one held front back is_front is_back =
    ap (λ (xs : List Held). xs ++ (option_to_list one ++ back)) is_front ∙ ap (λ (xs : List Held). filter (is_before key) held ++ (option_to_list one ++ xs)) is_back

pub again_items : (syncing : Bool) (item : PresenceItem) (held new : List Held) (at : ℕ) → IsHeldAt (key_of item) held at → is_absent item.action ≡ false
    → ((was : Held) → slice_get held at ≡ Some was → new ≡ take at held ++ (option_to_list (slot_after syncing item (Some was)) ++ drop (suc at) held))
    → new ≡ with_item syncing item held
again_items syncing item held new at is not step =
    let w = some_at held at is.within in
    step w.0 w.1
    ∙ parts (key_of item) (slot_after syncing item (Some w.0)) held (take at held) (drop (suc at) held) is.front is.back
    ∙ ap (λ (one : Option Held). with_slot (key_of item) (slot_after syncing item one) held) (sym (is.here ∙ w.1))
    ∙ sym (heard syncing item held not)

pub again_event : (item : PresenceItem) (held : List Held) (at : ℕ) (result : Option PresenceEvent) → IsHeldAt (key_of item) held at → is_absent item.action ≡ false
    → ((was : Held) → slice_get held at ≡ Some was → result ≡ told item (Some was)) → result ≡ event_of item held
again_event item held at result is not tells =
    let w = some_at held at is.within in
    tells w.0 w.1 ∙ ap (told item) (sym (is.here ∙ w.1)) ∙ sym (heard_event item held not)

pub first_items : (syncing : Bool) (item : PresenceItem) (held new : List Held) (at : ℕ) → IsMissedAt (key_of item) held at → is_absent item.action ≡ false
    → new ≡ take at held ++ (option_to_list (stored item.action syncing item) ++ drop at held) → new ≡ with_item syncing item held
first_items syncing item held new at is not step =
    step
    ∙ parts (key_of item) (stored item.action syncing item) held (take at held) (drop at held) is.front is.back
    ∙ ap (λ (one : Option Held). with_slot (key_of item) (slot_after syncing item one) held) (sym is.none)
    ∙ sym (heard syncing item held not)

pub first_event : (item : PresenceItem) (held : List Held) (at : ℕ) (result : Option PresenceEvent) → IsMissedAt (key_of item) held at → is_absent item.action ≡ false
    → result ≡ told_as item.action false item → result ≡ event_of item held
first_event item held at result is not tells = tells ∙ ap (told item) (sym is.none) ∙ sym (heard_event item held not)

-- WRITES AT A PLACE

got : (held : List Held) (at : ℕ) (was : Held) → slice_get held at ≡ Some was → (at < length held) × ((d : Held) → get_or held at d ≡ was)
got [] at was is = absurd (cc)
got (h ∷ held) zero was is = (omega arith, λ d. ap (λ (o : Option Held). unwrap_or o h) is)
got (h ∷ held) (suc at) was is = let rest = got held at was is in (omega (arith, rest.0), rest.1)

pub named_set : (held : List Held) (at : ℕ) (x y was : Held) → x ≡ get_or held at x → y ≡ named x → slice_get held at ≡ Some was
    → set held at y ≡ take at held ++ named was ∷ drop (suc at) held
named_set held at x y was is_x is_y is =
    let g = got held at was is in
    set_split held at y g.0 ∙ ap (λ (one : Held). take at held ++ one ∷ drop (suc at) held) (is_y ∙ ap named (is_x ∙ g.1 x))

pub slot_set : (held : List Held) (at : ℕ) (one : Held) (given : Option Held) → given ≡ Some one → at < length held
    → set held at one ≡ take at held ++ (option_to_list given ++ drop (suc at) held)
slot_set held at one given is low =
    set_split held at one low ∙ ap (λ (s : Option Held). take at held ++ (option_to_list s ++ drop (suc at) held)) (sym is)
