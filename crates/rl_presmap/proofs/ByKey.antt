-- What stands at one key after each call.
use Rattle.std.proofs.Common.{◌≡◌, Bool, true, false, cond, List, [], ◌∷◌, refl, ap, sym, ◌∙◌}
use Rattle.std.specs.Prelude.{Option, Some, None, filter, find, map, not, ◌&&◌, option_map}
use Rattle.std.specs.declared.cmp.Ordering.TheVariants.{Less, Equal}
use Rattle.rl_ids.specs.declared.members.MemberKey.{MemberKey}
use Rattle.rl_types.specs.declared.frames.Cursor.{Cursor}
use Rattle.rl_types.specs.declared.presence.PresenceItem.{PresenceItem}
use Rattle.rl_model.specs.Members.{key_of, key_cmp, is_of}
use Rattle.rl_presmap.specs.declared.held.Held.{Held}
use Rattle.rl_presmap.specs.declared.held.Standing.TheVariants as standing
use Rattle.rl_presmap.specs.declared.held.SyncState.TheVariants.{Numbered}
use Rattle.rl_presmap.specs.Held.{PresenceMap, AreRising, is_plain, is_member, is_open, is_held_of, slot, with_slot}
use Rattle.rl_presmap.specs.Steps.{is_absent, slot_after, held_as, with_item, with_items, all_residual, all_plain, ended, goes_on, is_empty, begun, paged, page_taken}
use Rattle.rl_presmap.specs.ByKey.{only, slot_applied, slot_applied_all, slot_opened, slot_ended, slot_begun, slot_closed, slot_paged, AllGoByKey}
use Rattle.rl_presmap.proofs.Keys.{of_same, of_equal}
use Rattle.rl_presmap.proofs.Places.{AllLater, clash, found, passed}
use Rattle.rl_presmap.proofs.Slots.{slot_is_of, slot_put, slot_other, slot_map, slot_later, each_kept}
use Rattle.rl_presmap.proofs.Sound.{after_is_of, items_rising, begun_rising}

-- A FILTER, WHERE EACH KEY STANDS ONCE

later_than : (key : MemberKey) (h : Held) (held : List Held) → is_held_of key h ≡ true → AllLater (key_of h.item) held → AllLater key held
later_than key h held is all = rw (of_same key h.item is) all

slot_filter : (key : MemberKey) (test : Held → Bool) (held : List Held) → AreRising held → slot key (filter test held) ≡ only test (slot key held)
slot_filter key test [] rising = refl
slot_filter key test (h ∷ held) rising = by_tests (is_held_of key h) (test h) refl refl (slot_filter key test held rising.1)
  where
    by_tests : (a b : Bool) → is_held_of key h ≡ a → test h ≡ b → slot key (filter test held) ≡ only test (slot key held)
        → slot key (cond b (h ∷ filter test held) (filter test held)) ≡ only test (cond a (Some h) (slot key held))
    by_tests true true is t rest = found key h (filter test held) is ∙ ap (λ b. cond b (Some h) None) (sym t)
    by_tests true false is t rest =
        slot_later key (filter test held) (each_kept (λ other. key_cmp key (key_of other.item) ≡ Less) test held (later_than key h held is rising.0))
        ∙ ap (λ b. cond b (Some h) None) (sym t)
    by_tests false true is t rest = passed key h (filter test held) is ∙ rest
    by_tests false false is t rest = rest

-- EACH CALL

other_key : (key : MemberKey) (item : PresenceItem) → is_of key item ≡ false → key_cmp key (key_of item) ≡ Equal → ⊥
other_key key item apart e = clash (is_of key item) (of_equal key item e) apart

pub slot_item : (key : MemberKey) (syncing : Bool) (item : PresenceItem) (held : List Held) → slot key (with_item syncing item held) ≡ slot_applied key syncing item (slot key held)
slot_item key syncing item held = by_tests (is_absent item.action) (is_of key item) refl
  where
    by_tests : (a b : Bool) → is_of key item ≡ b
        → slot key (cond a held (with_slot (key_of item) (slot_after syncing item (slot (key_of item) held)) held)) ≡ cond (b && not a) (slot_after syncing item (slot key held)) (slot key held)
    by_tests true true is = refl
    by_tests true false is = refl
    by_tests false true is =
        ap (λ (k : MemberKey). slot k (with_slot (key_of item) (slot_after syncing item (slot (key_of item) held)) held)) (of_same key item is)
        ∙ slot_put (key_of item) (slot_after syncing item (slot (key_of item) held)) held (after_is_of syncing item (slot (key_of item) held) (slot_is_of (key_of item) held))
        ∙ ap (λ (k : MemberKey). slot_after syncing item (slot k held)) (sym (of_same key item is))
    by_tests false false is =
        slot_other (key_of item) key (slot_after syncing item (slot (key_of item) held)) held (after_is_of syncing item (slot (key_of item) held) (slot_is_of (key_of item) held))
        (key_cmp key (key_of item)) refl (other_key key item is)

slot_items : (key : MemberKey) (items : List PresenceItem) (held : List Held) → slot key (with_items items held) ≡ slot_applied_all key items (slot key held)
slot_items key [] held = refl
slot_items key (item ∷ items) held =
    slot_items key items (with_item true item held) ∙ ap (slot_applied_all key items) (slot_item key true item held)

slot_residual : (key : MemberKey) (held : List Held) → AreRising held → slot key (all_residual held) ≡ slot_opened (slot key held)
slot_residual key held rising =
    slot_map key (λ one. held_as standing.Residual one.item) (λ h. refl) (filter is_member held)
    ∙ ap (option_map (λ (one : Held). held_as standing.Residual one.item)) (slot_filter key is_member held rising)

slot_plain : (key : MemberKey) (held : List Held) → AreRising held → slot key (all_plain held) ≡ slot_ended (slot key held)
slot_plain key held rising = slot_filter key (λ one. is_plain one.standing) held rising

slot_begins : (key : MemberKey) (held : List Held) (goes : Bool) → AreRising held → slot key (cond goes held (all_residual held)) ≡ cond goes (slot key held) (slot_opened (slot key held))
slot_begins key held true rising = refl
slot_begins key held false rising = slot_residual key held rising

slot_of_page : (key : MemberKey) (known : PresenceMap) (at : Option Cursor) (items : List PresenceItem) → AreRising known.held
    → slot key (paged at items known) ≡ slot_applied_all key items (slot_begun known.sync at (slot key known.held))
slot_of_page key known at items rising =
    slot_items key items (begun at known) ∙ ap (slot_applied_all key items) (slot_begins key known.held (goes_on known.sync at) rising)

page_rising : (known : PresenceMap) (at : Option Cursor) (items : List PresenceItem) → AreRising known.held → AreRising (paged at items known)
page_rising known at items rising = items_rising items (begun at known) (begun_rising (goes_on known.sync at) known.held rising)

slot_page : (key : MemberKey) (known : PresenceMap) (at : Option Cursor) (items : List PresenceItem) → AreRising known.held
    → slot key (page_taken at items known).held ≡ slot_paged key known.sync at items (slot key known.held)
slot_page key known None items rising =
    slot_plain key (paged None items known) (page_rising known None items rising) ∙ ap slot_ended (slot_of_page key known None items rising)
slot_page key known (Some at) items rising =
    by_end (is_empty at.cursor) ∙ ap (slot_closed (is_empty at.cursor)) (slot_of_page key known (Some at) items rising)
  where
    by_end : (b : Bool)
        → slot key (cond b (ended (paged (Some at) items known)) (record { held = paged (Some at) items known; sync = Numbered at.sequence })).held
        ≡ slot_closed b (slot key (paged (Some at) items known))
    by_end true = slot_plain key (paged (Some at) items known) (page_rising known (Some at) items rising)
    by_end false = refl

member_of : (key : MemberKey) (held : List Held) → find (is_of key) (map (λ one. one.item) held) ≡ option_map (λ one. one.item) (slot key held)
member_of key [] = refl
member_of key (h ∷ held) = by_test (is_held_of key h) (member_of key held)
  where
    by_test : (b : Bool) → find (is_of key) (map (λ one. one.item) held) ≡ option_map (λ one. one.item) (slot key held)
        → cond b (Some h.item) (find (is_of key) (map (λ one. one.item) held)) ≡ option_map (λ one. one.item) (cond b (Some h) (slot key held))
    by_test true rest = refl
    by_test false rest = rest

pub all_go_by_key : AllGoByKey
all_go_by_key known rising key =
    record {
      item = λ item. slot_item key (is_open known.sync) item known.held;
      opens = slot_residual key known.held rising;
      page = λ at items. slot_page key known at items rising;
      ends = slot_plain key known.held rising;
      member = member_of key (filter is_member known.held) ∙ ap (option_map (λ (one : Held). one.item)) (slot_filter key is_member known.held rising);
    }
