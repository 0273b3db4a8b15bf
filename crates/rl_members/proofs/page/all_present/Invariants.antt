use Rattle.std.proofs.Common.{◌≡◌, take}
use Rattle.std.specs.Prelude.{map}
use Rattle.rl_model.specs.Members.{as_present}
use Rattle.rl_members.proofs.page.all_present.Given as goal

-- the items so far are told
abbrev pub invariant-loop-one : goal.invariant-loop-one
invariant-loop-one l = l.page ≡ map as_present (take l.one-index l.held)
