-- What a map holds that took up each item of a log.
use Rattle.std.proofs.Common.{◌≡◌, Bool, true, false, cond, List, [], ◌∷◌, ◌++◌, refl, ap, sym, ◌∙◌}
use Rattle.std.specs.Prelude.{Option, Some, None, IfSome, filter, find, reverse, not, ◌&&◌, option_map, option_and_then}
use Rattle.std.specs.List.{AllByRecursion}
use Rattle.std.proofs.lemmas.List.{reverse-append}
use Rattle.rl_ids.specs.declared.members.MemberKey.{MemberKey}
use Rattle.rl_types.specs.declared.presence.PresenceItem.{PresenceItem}
use Rattle.rl_types.specs.declared.presence.PresenceAction.{PresenceAction}
use Rattle.rl_types.specs.declared.presence.PresenceAction.TheVariants as presence
use Rattle.rl_model.specs.Members.{is_of, as_present, enters, if_enters, items_of}
use Rattle.rl_model.specs.Verdict.{is_put}
use Rattle.rl_presmap.specs.declared.held.Held.{Held}
use Rattle.rl_presmap.specs.declared.held.SyncState.TheVariants.{Closed}
use Rattle.rl_presmap.specs.Newness.{is_newer}
use Rattle.rl_presmap.specs.Held.{PresenceMap, AreRising, is_member, slot}
use Rattle.rl_presmap.specs.Steps.{is_absent, is_taken, stored, named, slot_after, with_item}
use Rattle.rl_presmap.specs.ByKey.{only, slot_applied}
use Rattle.rl_presmap.specs.Soundness.{nothing_held}
use Rattle.rl_presmap.specs.Renewing.{Renews, AreRenewing}
use Rattle.rl_presmap.specs.Fed.{fed, FedMapsHoldMembers}
use Rattle.rl_presmap.proofs.Sound.{item_rising}
use Rattle.rl_presmap.proofs.ByKey.{slot_item, all_go_by_key}

abbrev Each : (PresenceItem → Type 0) → List PresenceItem → Type 0
Each P items = AllByRecursion P items

abbrev ArePut : List PresenceItem → Type 0
ArePut items = Each (λ item. is_put item.action ≡ true) items

abbrev closed : List Held → PresenceMap
closed held = record { held = held; sync = Closed }

-- ONE KEY'S ITEMS ALONE

abbrev own_fed : List PresenceItem → Option Held → Option Held
own_fed [] before = before
own_fed (item ∷ items) before = own_fed items (slot_after false item before)

not_absent : (action : PresenceAction) → is_put action ≡ true → is_absent action ≡ false
not_absent presence.Absent is = absurd (cc)
not_absent presence.Present is = refl
not_absent presence.Enter is = refl
not_absent presence.Leave is = refl
not_absent presence.Update is = refl

own_item : (key : MemberKey) (item : PresenceItem) (before : Option Held) → is_of key item ≡ true → is_put item.action ≡ true → slot_applied key false item before ≡ slot_after false item before
own_item key item before is put =
    ap (λ b. cond (b && not (is_absent item.action)) (slot_after false item before) before) is
    ∙ ap (λ b. cond (true && not b) (slot_after false item before) before) (not_absent item.action put)

others_item : (key : MemberKey) (item : PresenceItem) (before : Option Held) → is_of key item ≡ false → slot_applied key false item before ≡ before
others_item key item before is = ap (λ b. cond (b && not (is_absent item.action)) (slot_after false item before) before) is

slot_fed : (key : MemberKey) (items : List PresenceItem) (held : List Held) → ArePut (filter (is_of key) items) → slot key (fed items (closed held)).held ≡ own_fed (filter (is_of key) items) (slot key held)
slot_fed key [] held put = refl
slot_fed key (item ∷ items) held put = by_test (is_of key item) refl put (slot_fed key items (with_item false item held))
  where
    by_test : (b : Bool) → is_of key item ≡ b → ArePut (cond b (item ∷ filter (is_of key) items) (filter (is_of key) items))
        → (ArePut (filter (is_of key) items) → slot key (fed items (closed (with_item false item held))).held ≡ own_fed (filter (is_of key) items) (slot key (with_item false item held)))
        → slot key (fed items (closed (with_item false item held))).held ≡ own_fed (cond b (item ∷ filter (is_of key) items) (filter (is_of key) items)) (slot key held)
    by_test true is put rest = rest put.1 ∙ ap (own_fed (filter (is_of key) items)) (slot_item key false item held ∙ own_item key item (slot key held) is put.0)
    by_test false is put rest = rest put ∙ ap (own_fed (filter (is_of key) items)) (slot_item key false item held ∙ others_item key item (slot key held) is)

-- EACH IS TAKEN

abbrev last_held : Option Held → List PresenceItem → Option Held
last_held before [] = before
last_held before (item ∷ items) = last_held (stored item.action false item) items

taken_after : (earlier later : PresenceItem) → is_newer later earlier ≡ true → is_taken later (stored earlier.action false earlier) ≡ true
taken_after earlier later new = of earlier.action
  where
    of : (action : PresenceAction) → is_taken later (stored action false earlier) ≡ true
    of presence.Leave = refl
    of presence.Absent = new
    of presence.Present = new
    of presence.Enter = new
    of presence.Update = new

all_taken_after : (earlier : PresenceItem) (items : List PresenceItem) → Each (λ later. Renews later earlier) items → Each (λ later. is_taken later (stored earlier.action false earlier) ≡ true) items
all_taken_after earlier [] all = tt
all_taken_after earlier (item ∷ items) all = (taken_after earlier item all.0.0, all_taken_after earlier items all.1)

each_is_taken : (items : List PresenceItem) (before : Option Held) → AreRenewing items → Each (λ item. is_taken item before ≡ true) items → own_fed items before ≡ last_held before items
each_is_taken [] before renew taken = refl
each_is_taken (item ∷ items) before renew taken =
    ap (λ b. own_fed items (cond b (stored item.action false item) (option_map named before))) taken.0
    ∙ each_is_taken items (stored item.action false item) renew.1 (all_taken_after item items renew.0)

all_taken_first : (items : List PresenceItem) → Each (λ item. is_taken item None ≡ true) items
all_taken_first [] = tt
all_taken_first (item ∷ items) = (refl, all_taken_first items)

-- THE LAST ITEM

abbrev last_after : Option PresenceItem → List PresenceItem → Option PresenceItem
last_after before [] = before
last_after before (item ∷ items) = last_after (Some item) items

abbrev held_of : Option PresenceItem → Option Held
held_of None = None
held_of (Some item) = stored item.action false item

last_held_is : (before : Option PresenceItem) (items : List PresenceItem) → last_held (held_of before) items ≡ held_of (last_after before items)
last_held_is before [] = refl
last_held_is before (item ∷ items) = last_held_is (Some item) items

last_is_put : (before : Option PresenceItem) (items : List PresenceItem) → IfSome before (λ item. is_put item.action ≡ true) → ArePut items → IfSome (last_after before items) (λ item. is_put item.action ≡ true)
last_is_put before [] is put = is
last_is_put before (item ∷ items) is put = last_is_put (Some item) items put.0 put.1

member_held : (last : Option PresenceItem) → IfSome last (λ item. is_put item.action ≡ true)
    → option_map (λ one. one.item) (only is_member (held_of last)) ≡ option_map as_present (option_and_then if_enters last)
member_held None is = refl
member_held (Some item) is = of item.action is
  where
    of : (action : PresenceAction) → is_put action ≡ true → option_map (λ one. one.item) (only is_member (stored action false item)) ≡ option_map as_present (cond (enters action) (Some item) None)
    of presence.Leave is = refl
    of presence.Enter is = refl
    of presence.Update is = refl
    of presence.Absent is = absurd (cc)
    of presence.Present is = absurd (cc)

abbrev either : Option PresenceItem → Option PresenceItem → Option PresenceItem
either None other = other
either (Some item) other = Some item

find_append : (test : PresenceItem → Bool) (xs ys : List PresenceItem) → find test (xs ++ ys) ≡ either (find test xs) (find test ys)
find_append test [] ys = refl
find_append test (x ∷ xs) ys = by_test (test x) (find_append test xs ys)
  where
    by_test : (b : Bool) → find test (xs ++ ys) ≡ either (find test xs) (find test ys) → cond b (Some x) (find test (xs ++ ys)) ≡ either (cond b (Some x) (find test xs)) (find test ys)
    by_test true rest = refl
    by_test false rest = rest

either_twice : (a b c : Option PresenceItem) → either (either a b) c ≡ either a (either b c)
either_twice None b c = refl
either_twice (Some item) b c = refl

find_last : (test : PresenceItem → Bool) (items : List PresenceItem) (before : Option PresenceItem) → either (find test (reverse items)) before ≡ last_after before (filter test items)
find_last test [] before = refl
find_last test (item ∷ items) before =
    ap (λ (xs : List PresenceItem). either (find test xs) before) (reverse-append (item ∷ []) items)
    ∙ ap (λ (found : Option PresenceItem). either found before) (find_append test (reverse items) (item ∷ []))
    ∙ either_twice (find test (reverse items)) (find test (item ∷ [])) before
    ∙ by_test (test item) (find_last test items)
  where
    by_test : (b : Bool) → ((before : Option PresenceItem) → either (find test (reverse items)) before ≡ last_after before (filter test items))
        → either (find test (reverse items)) (either (cond b (Some item) None) before) ≡ last_after before (cond b (item ∷ filter test items) (filter test items))
    by_test true rest = rest (Some item)
    by_test false rest = rest before

either_none : (found : Option PresenceItem) → either found None ≡ found
either_none None = refl
either_none (Some item) = refl

-- ALL

fed_rising : (items : List PresenceItem) (held : List Held) → AreRising held → AreRising (fed items (closed held)).held
fed_rising [] held rising = rising
fed_rising (item ∷ items) held rising = fed_rising items (with_item false item held) (item_rising false item held rising)

pub fed_maps_hold_members : FedMapsHoldMembers
fed_maps_hold_members log renews key =
    let items = items_of log in
    let own = filter (is_of key) items in
    let put = renews.changes key in
    let known = fed items nothing_held in
    let held : slot key known.held ≡ held_of (last_after None own) =
    slot_fed key items [] put ∙ each_is_taken own None (renews.renewing key) (all_taken_first own) ∙ last_held_is None own in
    (all_go_by_key known (fed_rising items [] tt) key).member
    ∙ ap (λ (one : Option Held). option_map (λ (h : Held). h.item) (only is_member one)) held
    ∙ member_held (last_after None own) (last_is_put None own tt put)
    ∙ ap (λ (last : Option PresenceItem). option_map as_present (option_and_then if_enters last)) (sym (find_last (is_of key) items None) ∙ either_none (find (is_of key) (reverse items)))
