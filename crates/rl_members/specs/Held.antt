-- The members of a channel, held in order of key.
use Rattle.std.specs.Prelude.{◌≡◌, ℕ, ◌<◌, ◌≤◌, Bool, true, false, not, if◌then◌else◌, ◌||◌, nat_lt, List, [], ◌∷◌, ◌++◌, length, filter, map, reverse, ⊤, slice_index_or, Result, MatchResult}
use Rattle.std.specs.List.{AllByRecursion, AllWithin, list_all}
use Rattle.std.specs.declared.cmp.Ordering.TheVariants.{Less}
use Rattle.std.specs.Ordering.{match_ordering, is_lt}
use Rattle.rl_ids.specs.declared.members.MemberKey.{MemberKey}
use Rattle.rl_types.specs.declared.presence.PresenceItem.{PresenceItem}
use Rattle.rl_model.specs.Members.{key_of, key_cmp, is_of, is_on, enters, members_of}
use Rattle.rl_numbers.specs.declared.limits.TheConstants.{MAX_MEMBERS}

-- the members, in order of key, with this item in place of its key's, or among them
abbrev pub with_member : PresenceItem → List PresenceItem → List PresenceItem
with_member item [] = item ∷ []
with_member item (other ∷ members) =
    match_ordering (key_cmp (key_of item) (key_of other)) (item ∷ other ∷ members) (item ∷ members) (other ∷ with_member item members)

-- the members after one more item (RTP2)
abbrev pub with_item : PresenceItem → List PresenceItem → List PresenceItem
with_item item members =
    if enters item.action then with_member item members else filter (λ other. not (is_of (key_of item) other)) members

-- the members after more items, in order
abbrev pub with_items : List PresenceItem → List PresenceItem → List PresenceItem
with_items [] members = members
with_items (item ∷ items) members = with_items items (with_item item members)

-- after some of the items, in order, more members stand than may
abbrev pub outgrows : List PresenceItem → List PresenceItem → Bool
outgrows members [] = false
outgrows members (item ∷ items) =
    nat_lt MAX_MEMBERS (length (with_item item members)) || outgrows (with_item item members) items

-- where the members were those that items leave, they are now those that these and one more leave, which is of this key
-- and doesn't enter
abbrev pub LeavesKey : MemberKey → List PresenceItem → List PresenceItem → Type 0
LeavesKey key old new =
    (latest : List PresenceItem) → (item : PresenceItem) → enters item.action ≡ false → key_of item ≡ key → old ≡ members_of latest → new ≡ members_of (item ∷ latest)

-- where the members were those that items leave, they are now those that these leave and one more for each member of the
-- connection, in order, none of which enters
abbrev pub LeavesConn : List ℕ → List PresenceItem → List PresenceItem → Type 0
LeavesConn conn old new =
    (latest : List PresenceItem) → (leaves : List PresenceItem) → list_all (λ item. not (enters item.action)) leaves ≡ true
    → map key_of leaves ≡ map key_of (filter (is_on conn) old) → old ≡ members_of latest → new ≡ members_of (reverse leaves ++ latest)

-- each member's key comes before those of all later ones
abbrev pub AreRising : List PresenceItem → Type 0
AreRising [] = ⊤
AreRising (item ∷ members) = AllByRecursion (λ other. key_cmp (key_of item) (key_of other) ≡ Less) members × AreRising members

pub record IsRising (members : List PresenceItem) : Type 0 where
  pub rising : AreRising members

-- the member's key comes before this one
abbrev pub is_before : MemberKey → PresenceItem → Bool
is_before key item = is_lt (key_cmp (key_of item) key)

-- the member's key comes before this one, or is it
abbrev pub is_upto : MemberKey → PresenceItem → Bool
is_upto key item = not (is_lt (key_cmp key (key_of item)))

-- the test holds of the members before the place, and of none from there on
pub record IsPlace (test : PresenceItem → Bool) (members : List PresenceItem) (at : ℕ) : Type 0 where
  pub within : at ≤ length members
  pub below : AllWithin (λ item. test item ≡ true) members 0 at
  pub above : AllWithin (λ item. test item ≡ false) members at (length members)

-- the key's member is at the place
pub record IsHeldAt (key : MemberKey) (members : List PresenceItem) (at : ℕ) : Type 0 where
  pub place : IsPlace (is_before key) members at
  pub within : at < length members
  pub same : (other : PresenceItem) → is_of key (slice_index_or members at other) ≡ true

-- the key has no member, and one of it would stand at the place
pub record IsMissedAt (key : MemberKey) (members : List PresenceItem) (at : ℕ) : Type 0 where
  pub place : IsPlace (is_before key) members at
  pub other : (other : PresenceItem) → at < length members → is_of key (slice_index_or members at other) ≡ false

-- where the key's member is, or would stand
abbrev pub FindsPlace : MemberKey → List PresenceItem → Result ℕ ℕ → Type 0
FindsPlace key members result = MatchResult result (IsHeldAt key members) (IsMissedAt key members)

-- the key of these two texts
abbrev pub key_at : List ℕ → List ℕ → MemberKey
key_at conn client = record { conn = conn; client = client }
