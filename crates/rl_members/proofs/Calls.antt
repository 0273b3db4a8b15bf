-- What the calls leave. The list that is held is the list that is seen, in order of key.
use Rattle.std.proofs.Common.{◌≡◌, ℕ, Bool, true, false, List, [], ◌∷◌, ◌++◌, refl, ap, sym, subst, ◌∙◌}
use Rattle.std.specs.Prelude.{insert, remove, slice_set, not, filter, map, reverse, drop, Some, None}
use Rattle.std.specs.List.{list_any, list_all}
use Rattle.rl_ids.specs.declared.members.MemberKey.{MemberKey}
use Rattle.rl_types.specs.declared.presence.PresenceItem.{PresenceItem}
use Rattle.rl_model.specs.Members.{key_of, is_of, is_on, enters, members_of, members_past}
use Rattle.rl_members.specs.Held.{with_member, IsRising, IsHeldAt, IsMissedAt, IsPlace, is_upto}
use Rattle.rl_members.proofs.Laws.{others, first, members_enter, members_leave}
use Rattle.rl_members.proofs.Places.{inserted_with, replaced_with, removed_others, missed_others, missed_none, held_here, is_rising_with, is_rising_kept, dropped_past}
use Rattle.rl_members.proofs.Leaving.{members_gone}

module _ (old seen : List PresenceItem) (same : seen ≡ old) (rising : IsRising old) where
  held : (key : MemberKey) (at : ℕ) → (IsRising seen → IsHeldAt key seen at) → IsHeldAt key old at
  held key at place = subst (λ (xs : List PresenceItem). IsHeldAt key xs at) same (place (subst IsRising (sym same) rising))

  missed : (key : MemberKey) (at : ℕ) → (IsRising seen → IsMissedAt key seen at) → IsMissedAt key old at
  missed key at place = subst (λ (xs : List PresenceItem). IsMissedAt key xs at) same (place (subst IsRising (sym same) rising))

pub kept_rising : (keep : PresenceItem → Bool) (old new : List PresenceItem) → IsRising old → new ≡ filter keep old → IsRising new
kept_rising keep old new rising is = subst IsRising (sym is) (is_rising_kept keep old rising)

-- ENTER

pub set_with : (item : PresenceItem) (items seen : List PresenceItem) (at : ℕ) → seen ≡ items → (IsRising seen → IsHeldAt (key_of item) seen at) → IsRising items → slice_set items at item ≡ with_member item items
set_with item items seen at same place rising = replaced_with item items at (held items seen same rising (key_of item) at place)

pub insert_with : (item : PresenceItem) (items seen : List PresenceItem) (at : ℕ) → seen ≡ items → (IsRising seen → IsMissedAt (key_of item) seen at) → IsRising items → insert items at item ≡ with_member item items
insert_with item items seen at same place rising = inserted_with item items at (missed items seen same rising (key_of item) at place)

pub set_rising : (item : PresenceItem) (items seen : List PresenceItem) (at : ℕ) → seen ≡ items → (IsRising seen → IsHeldAt (key_of item) seen at) → IsRising items → IsRising (slice_set items at item)
set_rising item items seen at same place rising = subst IsRising (sym (set_with item items seen at same place rising)) (is_rising_with item items rising)

pub insert_rising : (item : PresenceItem) (items seen : List PresenceItem) (at : ℕ) → seen ≡ items → (IsRising seen → IsMissedAt (key_of item) seen at) → IsRising items → IsRising (insert items at item)
insert_rising item items seen at same place rising = subst IsRising (sym (insert_with item items seen at same place rising)) (is_rising_with item items rising)

-- LEAVE

pub held_any : (key : MemberKey) (items seen : List PresenceItem) (at : ℕ) → seen ≡ items → (IsRising seen → IsHeldAt key seen at) → IsRising items → true ≡ list_any (is_of key) items
held_any key items seen at same place rising = sym (held_here key items at (held items seen same rising key at place))

pub missed_any : (key : MemberKey) (items seen : List PresenceItem) (at : ℕ) → seen ≡ items → (IsRising seen → IsMissedAt key seen at) → IsRising items → false ≡ list_any (is_of key) items
missed_any key items seen at same place rising = sym (missed_none key items at rising (missed items seen same rising key at place))

pub remove_others : (key : MemberKey) (items seen : List PresenceItem) (at : ℕ) → seen ≡ items → (IsRising seen → IsHeldAt key seen at) → IsRising items → remove items at ≡ filter (λ item. not (is_of key item)) items
remove_others key items seen at same place rising = removed_others key items at rising.rising (held items seen same rising key at place)

pub remove_rising : (key : MemberKey) (items seen : List PresenceItem) (at : ℕ) → seen ≡ items → (IsRising seen → IsHeldAt key seen at) → IsRising items → IsRising (remove items at)
remove_rising key items seen at same place rising = kept_rising (λ item. not (is_of key item)) items _ rising (remove_others key items seen at same place rising)

pub same_others : (key : MemberKey) (items seen : List PresenceItem) (at : ℕ) → seen ≡ items → (IsRising seen → IsMissedAt key seen at) → IsRising items → items ≡ filter (λ item. not (is_of key item)) items
same_others key items seen at same place rising = missed_others key items at rising (missed items seen same rising key at place)

-- THE MEMBERS

pub entered : (item copy : PresenceItem) (old inner new : List PresenceItem) → copy ≡ item → inner ≡ old → new ≡ with_member copy inner → (latest : List PresenceItem) → enters item.action ≡ true → old ≡ members_of latest → new ≡ members_of (item ∷ latest)
entered item copy old inner new copied view step latest h is =
    step ∙ ap (λ (one : PresenceItem). with_member one inner) copied ∙ ap (with_member item) (view ∙ is) ∙ sym (members_enter item latest h)

pub leave_members : (key : MemberKey) (old inner new latest : List PresenceItem) (item : PresenceItem) → inner ≡ old → IsRising inner → (IsRising inner → new ≡ filter (λ one. not (is_of key one)) inner) → enters item.action ≡ false → key_of item ≡ key → old ≡ members_of latest → new ≡ members_of (item ∷ latest)
leave_members key old inner new latest item view rising left h same is =
    left rising ∙ ap (others key) (view ∙ is) ∙ ap (λ (k : MemberKey). others k (members_of latest)) (sym same) ∙ sym (members_leave item latest h)

pub gone_members : (conn : List ℕ) (old new latest leaves : List PresenceItem) → new ≡ filter (λ item. not (is_on conn item)) old → list_all (λ item. not (enters item.action)) leaves ≡ true → map key_of leaves ≡ map key_of (filter (is_on conn) old) → old ≡ members_of latest → new ≡ members_of (reverse leaves ++ latest)
gone_members conn old new latest leaves left h keys is = left ∙ members_gone conn old latest leaves h keys is

-- PAGES

pub past_none : (items : List PresenceItem) → items ≡ members_past None items
past_none [] = refl
past_none (item ∷ items) = ap (first item) (past_none items)

pub past_some : (key : MemberKey) (items rest : List PresenceItem) (at : ℕ) → (IsRising items → IsPlace (is_upto key) items at) → rest ≡ drop at items → IsRising items → rest ≡ members_past (Some key) items
past_some key items rest at place is rising = is ∙ dropped_past key items at (place rising)
