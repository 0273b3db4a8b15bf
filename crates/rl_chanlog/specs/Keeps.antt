-- What a channel's log stands for.
use Rattle.std.specs.Prelude.{◌≡◌, ℕ, length}
use Rattle.rl_model.specs.Parts.{Parts}
use Rattle.rl_chanlog.specs.Window.{WindowView, KeepsWindow}
use Rattle.rl_chanlog.specs.Ids.{IdsView, KeepsIds, CountDown}
use Rattle.rl_chanlog.specs.Outcomes.{OutcomesView, KeepsOutcomes, HasPlace}

-- what a contract sees of a channel's log
pub record ChanLogView : Type 0 where
  pub window : WindowView
  pub ids : IdsView
  pub outcomes : OutcomesView
  pub head : ℕ  -- the place of the last entry, or 0
  pub newest : ℕ  -- the stamp of the last entry, or 0
  pub room : ℕ  -- so many more entries take no memory

-- it stands for these parts
pub record Keeps (view : ChanLogView) (parts : Parts) : Type 0 where
  pub head : view.head ≡ length parts.log
  pub window : KeepsWindow view.window parts.log parts.first
  pub ids : KeepsIds view.ids parts.added
  pub places : CountDown (length parts.log) parts.added
  pub outcomes : KeepsOutcomes view.outcomes parts.kept

-- the next outcome of this connection takes no memory
abbrev pub IsReady : ℕ → ChanLogView → Type 0
IsReady conn view = HasPlace conn view.outcomes
