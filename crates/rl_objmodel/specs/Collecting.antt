-- What Ticks leave.
use Rattle.std.specs.Prelude.{◌≡◌, ℕ, ◌≤◌, List}
use Rattle.rl_objmodel.specs.Operations.{Stamped}
use Rattle.rl_objmodel.specs.Held.{Held}
use Rattle.rl_objmodel.specs.Objects.{all_kept}
use Rattle.rl_objmodel.specs.Steps.{collected}

-- a Tick after an earlier one leaves what it would have left alone: only the last one counts
abbrev pub LastTickCounts : Type 0
LastTickCounts = (first last : ℕ) → first ≤ last → (pool : List Held) → collected last (collected first pool) ≡ collected last pool

-- what is kept at a later Tick is what that Tick leaves of what was kept at an earlier one
abbrev pub TicksCollect : Type 0
TicksCollect = (first last : ℕ) → first ≤ last → (latest : List Stamped) → all_kept last latest ≡ collected last (all_kept first latest)
