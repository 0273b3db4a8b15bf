-- What holds of a map at every moment.
use Rattle.std.proofs.Common.{◌≡◌, ℕ, Bool, true, false, cond, List, [], ◌∷◌, refl, true≢false}
use Rattle.std.specs.Prelude.{Option, Some, None, IfSome, filter, option_map}
use Rattle.rl_types.specs.declared.presence.PresenceItem.{PresenceItem}
use Rattle.rl_types.specs.declared.presence.PresenceAction.{PresenceAction}
use Rattle.rl_types.specs.declared.presence.PresenceAction.TheVariants as presence
use Rattle.rl_model.specs.Members.{key_of, is_of}
use Rattle.rl_presmap.specs.declared.held.Held.{Held}
use Rattle.rl_presmap.specs.declared.held.Standing.{Standing}
use Rattle.rl_presmap.specs.declared.held.Standing.TheVariants as standing
use Rattle.rl_presmap.specs.declared.held.SyncState.{SyncState}
use Rattle.rl_presmap.specs.declared.held.SyncState.TheVariants.{Closed, Opened, Numbered}
use Rattle.rl_presmap.specs.Held.{AreRising, ArePlain, IsSound, is_plain, is_member, is_open, is_before, is_behind, slot, with_slot}
use Rattle.rl_presmap.specs.Steps.{is_absent, is_taken, stored, held_as, named, named_as, slot_after, with_item, with_items, all_residual, all_plain}
use Rattle.rl_presmap.proofs.Keys.{of_itself}
use Rattle.rl_presmap.proofs.Slots.{each_append, each_passes, each_kept, IsOf, slot_is_of, rising_kept, rising_put, rising_map}

-- WHAT AN ITEM LEAVES IS OF ITS KEY

stored_is_of : (action : PresenceAction) (syncing : Bool) (item : PresenceItem) → IsOf (key_of item) (stored action syncing item)
stored_is_of presence.Leave true item = of_itself item
stored_is_of presence.Leave false item = tt
stored_is_of presence.Absent syncing item = of_itself item
stored_is_of presence.Present syncing item = of_itself item
stored_is_of presence.Enter syncing item = of_itself item
stored_is_of presence.Update syncing item = of_itself item

named_is_of : (item : PresenceItem) (before : Option Held) → IsOf (key_of item) before → IsOf (key_of item) (option_map named before)
named_is_of item None is = tt
named_is_of item (Some h) is = is

pub after_is_of : (syncing : Bool) (item : PresenceItem) (before : Option Held) → IsOf (key_of item) before → IsOf (key_of item) (slot_after syncing item before)
after_is_of syncing item before is = by_test (is_taken item before)
  where
    by_test : (b : Bool) → IsOf (key_of item) (cond b (stored item.action syncing item) (option_map named before))
    by_test true = stored_is_of item.action syncing item
    by_test false = named_is_of item before is

-- KEYS RISE

pub item_rising : (syncing : Bool) (item : PresenceItem) (held : List Held) → AreRising held → AreRising (with_item syncing item held)
item_rising syncing item held rising = by_test (is_absent item.action)
  where
    by_test : (b : Bool) → AreRising (cond b held (with_slot (key_of item) (slot_after syncing item (slot (key_of item) held)) held))
    by_test true = rising
    by_test false = rising_put (key_of item) _ held (after_is_of syncing item (slot (key_of item) held) (slot_is_of (key_of item) held)) rising

pub items_rising : (items : List PresenceItem) (held : List Held) → AreRising held → AreRising (with_items items held)
items_rising [] held rising = rising
items_rising (item ∷ items) held rising = items_rising items (with_item true item held) (item_rising true item held rising)

pub residual_rising : (held : List Held) → AreRising held → AreRising (all_residual held)
residual_rising held rising = rising_map (λ one. held_as standing.Residual one.item) (λ h. refl) (filter is_member held) (rising_kept is_member held rising)

pub begun_rising : (goes : Bool) (held : List Held) → AreRising held → AreRising (cond goes held (all_residual held))
begun_rising true held rising = rising
begun_rising false held rising = residual_rising held rising

pub plain_rising : (held : List Held) → AreRising held → AreRising (all_plain held)
plain_rising held rising = rising_kept (λ one. is_plain one.standing) held rising

-- OUTSIDE A SYNC ALL ARE PLAIN

abbrev IsPlain : Held → Type 0
IsPlain one = is_plain one.standing ≡ true

abbrev IsPlainSlot : Option Held → Type 0
IsPlainSlot one = IfSome one IsPlain

stored_plain : (action : PresenceAction) (item : PresenceItem) → IsPlainSlot (stored action false item)
stored_plain presence.Leave item = tt
stored_plain presence.Absent item = refl
stored_plain presence.Present item = refl
stored_plain presence.Enter item = refl
stored_plain presence.Update item = refl

named_plain_at : (stands : Standing) → is_plain stands ≡ true → is_plain (named_as stands) ≡ true
named_plain_at standing.Member is = refl
named_plain_at standing.Residual is = refl
named_plain_at standing.Absent is = is

named_plain : (before : Option Held) → IsPlainSlot before → IsPlainSlot (option_map named before)
named_plain None is = tt
named_plain (Some h) is = named_plain_at h.standing is

slot_plain : (item : PresenceItem) (held : List Held) → ArePlain held → IsPlainSlot (slot (key_of item) held)
slot_plain item [] all = tt
slot_plain item (h ∷ held) all = by_test (is_of (key_of item) h.item) (slot_plain item held all.1)
  where
    by_test : (b : Bool) → IsPlainSlot (slot (key_of item) held) → IsPlainSlot (cond b (Some h) (slot (key_of item) held))
    by_test true rest = all.0
    by_test false rest = rest

after_plain : (item : PresenceItem) (before : Option Held) → IsPlainSlot before → IsPlainSlot (slot_after false item before)
after_plain item before is = by_test (is_taken item before)
  where
    by_test : (b : Bool) → IsPlainSlot (cond b (stored item.action false item) (option_map named before))
    by_test true = stored_plain item.action item
    by_test false = named_plain before is

put_plain : (item : PresenceItem) (one : Option Held) (held : List Held) → IsPlainSlot one → ArePlain held → ArePlain (with_slot (key_of item) one held)
put_plain item None held is all =
    each_append IsPlain (filter (is_before (key_of item)) held) (filter (is_behind (key_of item)) held)
    (each_kept IsPlain (is_before (key_of item)) held all) (each_kept IsPlain (is_behind (key_of item)) held all)
put_plain item (Some h) held is all =
    each_append IsPlain (filter (is_before (key_of item)) held) (h ∷ filter (is_behind (key_of item)) held)
    (each_kept IsPlain (is_before (key_of item)) held all) (is, each_kept IsPlain (is_behind (key_of item)) held all)

item_plain : (item : PresenceItem) (held : List Held) → ArePlain held → ArePlain (with_item false item held)
item_plain item held all = by_test (is_absent item.action)
  where
    by_test : (b : Bool) → ArePlain (cond b held (with_slot (key_of item) (slot_after false item (slot (key_of item) held)) held))
    by_test true = all
    by_test false = put_plain item _ held (after_plain item (slot (key_of item) held) (slot_plain item held all)) all

-- EACH CALL KEEPS IT

pub sound_item : (item : PresenceItem) (held : List Held) (sync : SyncState) → IsSound held sync → IsSound (with_item (is_open sync) item held) sync
sound_item item held sync sound =
    record { rising = item_rising (is_open sync) item held sound.rising; plain = λ closed. by_state (is_open sync) closed (sound.plain closed) }
  where
    by_state : (b : Bool) → b ≡ false → ArePlain held → ArePlain (with_item b item held)
    by_state true closed all = absurd (true≢false closed)
    by_state false closed all = item_plain item held all

pub sound_opened : (held : List Held) (sync : SyncState) → IsSound held sync → IsSound (all_residual held) Opened
sound_opened held sync sound = record { rising = residual_rising held sound.rising; plain = λ closed. absurd (true≢false closed) }

pub sound_ended : (held : List Held) → AreRising held → IsSound (all_plain held) Closed
sound_ended held rising =
    record { rising = plain_rising held rising; plain = λ closed. each_passes IsPlain (λ one. is_plain one.standing) (λ h is. is) held }

pub sound_numbered : (sequence : List ℕ) (held : List Held) → AreRising held → IsSound held (Numbered sequence)
sound_numbered sequence held rising = record { rising = rising; plain = λ closed. absurd (true≢false closed) }

pub sound_nothing : IsSound [] Closed
sound_nothing = record { rising = tt; plain = λ closed. tt }
