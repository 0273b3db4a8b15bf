use Rattle.std.proofs.Common.{◌≡◌, take}
use Rattle.std.specs.Prelude.{map}
use Rattle.rl_objmodel.specs.Held.{shown}
use Rattle.rl_pool.proofs.pages.all_states.Given as goal

-- the objects so far are shown
abbrev pub invariant-loop-object : goal.invariant-loop-object
invariant-loop-object l = l.page ≡ map shown (take l.object-index l.objects)
