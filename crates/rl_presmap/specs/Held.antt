-- What a presence map holds: of each key an item and how it stands, in order of key.
use Rattle.std.specs.Prelude.{◌≡◌, ℕ, ◌<◌, ◌≤◌, ⊤, Bool, true, false, List, [], ◌∷◌, ◌++◌, length, take, drop, suc, filter, find, Option, None, option_to_list, slice_get, Result, MatchResult}
use Rattle.std.specs.List.{AllByRecursion, AllWithin}
use Rattle.std.specs.declared.cmp.Ordering.TheVariants.{Less}
use Rattle.std.specs.Ordering.{is_lt}
use Rattle.rl_ids.specs.declared.members.MemberKey.{MemberKey}
use Rattle.rl_model.specs.Members.{key_of, key_cmp, is_of}
use Rattle.rl_presmap.specs.declared.held.Held.{Held}
use Rattle.rl_presmap.specs.declared.held.Standing.{Standing}
use Rattle.rl_presmap.specs.declared.held.Standing.TheVariants as standing
use Rattle.rl_presmap.specs.declared.held.SyncState.{SyncState}
use Rattle.rl_presmap.specs.declared.held.SyncState.TheVariants.{Closed}

-- a presence map: what it holds, and the sync that is open
pub record PresenceMap : Type 0 where
  pub held : List Held
  pub sync : SyncState

-- STANDINGS

-- it is there, whether or not the sync that is open named it
abbrev pub is_present : Standing → Bool
is_present standing.Absent = false
is_present _ = true

abbrev pub is_residual : Standing → Bool
is_residual standing.Residual = true
is_residual _ = false

-- it is there, and does not wait to be named
abbrev pub is_plain : Standing → Bool
is_plain standing.Member = true
is_plain _ = false

abbrev pub is_member : Held → Bool
is_member held = is_present held.standing

abbrev pub is_open : SyncState → Bool
is_open Closed = false
is_open _ = true

-- KEYS

abbrev pub is_held_of : MemberKey → Held → Bool
is_held_of key held = is_of key held.item

abbrev pub is_before : MemberKey → Held → Bool
is_before key held = is_lt (key_cmp (key_of held.item) key)

abbrev pub is_behind : MemberKey → Held → Bool
is_behind key held = is_lt (key_cmp key (key_of held.item))

-- what is held of a key
abbrev pub slot : MemberKey → List Held → Option Held
slot key held = find (is_held_of key) held

-- this at the key, between what is held of the keys before it and of those behind it
abbrev pub with_slot : MemberKey → Option Held → List Held → List Held
with_slot key one held = filter (is_before key) held ++ (option_to_list one ++ filter (is_behind key) held)

-- this, where it is something, in place of what stands at a place
abbrev pub replaced_at : ℕ → Option Held → List Held → List Held
replaced_at at one held = take at held ++ (option_to_list one ++ drop (suc at) held)

-- each key comes before those of all later ones
abbrev pub AreRising : List Held → Type 0
AreRising [] = ⊤
AreRising (one ∷ held) = AllByRecursion (λ other. key_cmp (key_of one.item) (key_of other.item) ≡ Less) held × AreRising held

abbrev pub ArePlain : List Held → Type 0
ArePlain held = AllByRecursion (λ one. is_plain one.standing ≡ true) held

-- what holds of a map at every moment: its keys rise, and none is residual or absent where no sync is open
pub record IsSound (held : List Held) (sync : SyncState) : Type 0 where
  pub rising : AreRising held
  pub plain : is_open sync ≡ false → ArePlain held

-- PLACES

-- the test holds before the place, and nowhere from there on
pub record IsPlace (test : Held → Bool) (held : List Held) (at : ℕ) : Type 0 where
  pub within : at ≤ length held
  pub below : AllWithin (λ one. test one ≡ true) held 0 at
  pub above : AllWithin (λ one. test one ≡ false) held at (length held)

-- what is held of the key is at the place
pub record IsHeldAt (key : MemberKey) (held : List Held) (at : ℕ) : Type 0 where
  pub within : at < length held
  pub front : take at held ≡ filter (is_before key) held
  pub back : drop (suc at) held ≡ filter (is_behind key) held
  pub here : slot key held ≡ slice_get held at

-- nothing is held of the key, and what was would stand at the place
pub record IsMissedAt (key : MemberKey) (held : List Held) (at : ℕ) : Type 0 where
  pub within : at ≤ length held
  pub front : take at held ≡ filter (is_before key) held
  pub back : drop at held ≡ filter (is_behind key) held
  pub none : slot key held ≡ None

abbrev pub FindsPlace : MemberKey → List Held → Result ℕ ℕ → Type 0
FindsPlace key held result = MatchResult result (IsHeldAt key held) (IsMissedAt key held)
