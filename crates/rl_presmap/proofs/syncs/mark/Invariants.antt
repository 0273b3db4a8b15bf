use Rattle.std.proofs.Common.{◌≡◌, ◌++◌, take, drop}
use Rattle.std.specs.Prelude.{map}
use Rattle.rl_presmap.specs.declared.held.Standing.TheVariants as standing
use Rattle.rl_presmap.specs.Steps.{held_as}
use Rattle.rl_presmap.proofs.syncs.mark.Given as goal

-- those so far are marked
abbrev pub invariant-loop-one : goal.invariant-loop-one
invariant-loop-one l = l.one-items ≡ map (λ one. held_as standing.Residual one.item) (take l.one-index l.initial.one-items) ++ drop l.one-index l.initial.one-items
