use Rattle.std.proofs.Common.{◌≡◌, drop}
use Rattle.std.specs.Prelude.{map}
use Rattle.rl_objmodel.specs.Rules.{values_rule}
use Rattle.rl_objmodel.specs.Steps.{state_at}
use Rattle.rl_objrules.specs.Ids.{IsAscending}
use Rattle.rl_objrules.proofs.rules.entries_rule.Given as goal

-- none of the entries so far breaks it
abbrev pub invariant-loop-entry : goal.invariant-loop-entry
invariant-loop-entry l = IsAscending l.objects → values_rule (state_at l.objects) (map (λ entry. entry.1) (drop l.entry-index l.entries)) ≡ values_rule (state_at l.objects) (map (λ entry. entry.1) l.entries)
