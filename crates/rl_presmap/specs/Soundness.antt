-- What holds of a presence map at every moment, whatever is called.
use Rattle.std.specs.Prelude.{◌≡◌, false, List, [], Option}
use Rattle.rl_types.specs.declared.frames.Cursor.{Cursor}
use Rattle.rl_types.specs.declared.presence.PresenceItem.{PresenceItem}
use Rattle.rl_presmap.specs.declared.held.SyncState.TheVariants.{Closed}
use Rattle.rl_presmap.specs.Held.{PresenceMap, IsSound, is_open}
use Rattle.rl_presmap.specs.Steps.{applied, opened, ended, end_events, page_taken}

-- its keys rise, and none is residual or absent where no sync is open
abbrev pub IsSoundMap : PresenceMap → Type 0
IsSoundMap known = IsSound known.held known.sync

abbrev pub nothing_held : PresenceMap
nothing_held = record { held = []; sync = Closed }

-- each call keeps it, and the end of a sync changes nothing where none is open
pub record StaysSound (known : PresenceMap) : Type 0 where
  pub item : (item : PresenceItem) → IsSoundMap (applied item known)
  pub opens : IsSoundMap (opened known)
  pub page : (at : Option Cursor) → (items : List PresenceItem) → IsSoundMap (page_taken at items known)
  pub ends : IsSoundMap (ended known.held)
  pub nothing_ends : is_open known.sync ≡ false → (ended known.held ≡ known) × (end_events known.held ≡ [])

pub record MapsStaySound : Type 0 where
  pub nothing : IsSoundMap nothing_held
  pub calls : (known : PresenceMap) → IsSoundMap known → StaysSound known
