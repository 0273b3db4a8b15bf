-- The entries of a log by their places, and runs of them.
use Rattle.std.specs.Prelude.{◌≡◌, ℕ, suc, ◌≤◌, ⊤, List, [], ◌∷◌, Some, slice_get}
use Rattle.rl_numbers.specs.declared.limits.TheConstants.{MAX_PLACE}
use Rattle.rl_events.specs.declared.channel.ChannelEvent.{ChannelEvent}
use Rattle.rl_types.specs.declared.messages.Entry.{Entry}
use Rattle.rl_model.specs.Verdict.{log, head}

-- each entry stands at the next place, where this was the last
abbrev pub ArePlaced : ℕ → List Entry → Type 0
ArePlaced last [] = ⊤
ArePlaced last (e ∷ es) = (e.place ≡ suc last) × ArePlaced (suc last) es

-- the entries of a channel's log stand at 1, 2, .., and no place is past the last that there is
pub record IsInPlace (site : List ℕ) (past : List ChannelEvent) : Type 0 where
  pub placed : ArePlaced 0 (log site past)
  pub bounded : head site past ≤ MAX_PLACE

-- so those of every channel's
abbrev pub LogsAreInPlace : Type 0
LogsAreInPlace = (site : List ℕ) (past : List ChannelEvent) → IsInPlace site past

-- entries as the log has them, one after another from behind this place
abbrev pub IsRun : List ℕ → List ChannelEvent → ℕ → List Entry → Type 0
IsRun site past from [] = ⊤
IsRun site past from (e ∷ es) = (e.place ≡ suc from) × (slice_get (log site past) from ≡ Some e) × IsRun site past (suc from) es
