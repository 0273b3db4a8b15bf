use Rattle.std.proofs.Common.{ℕ, List, map, take}
use Rattle.std.specs.List.{AllByRecursion}
use Rattle.rl_ids.specs.declared.objects.MapValue.{MapValue}
use Rattle.rl_objmodel.specs.Following.{IsValueInRange}
use Rattle.rl_channel.proofs.ranges.entries_fit.Given as goal

-- the values so far fit
abbrev pub invariant-loop-entry : goal.invariant-loop-entry
invariant-loop-entry l = AllByRecursion IsValueInRange (map (λ (entry : List ℕ × MapValue). entry.1) (take l.entry-index l.entries))
