use Rattle.std.proofs.Common.{◌≡◌, ◌++◌, take}
use Rattle.std.specs.Prelude.{drop}
use Rattle.rl_channel.specs.Pages.{page_from}
use Rattle.rl_channel.proofs.objects.count_cut.Given as goal

-- the states so far, and what goes on
abbrev pub invariant-loop-state : goal.invariant-loop-state
invariant-loop-state l = (l.count ≡ l.state-index) × (page_from 0 l.states ≡ take l.state-index l.states ++ page_from l.weight (drop l.state-index l.states))
