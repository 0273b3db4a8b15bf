use Rattle.std.proofs.Common.{◌≡◌, take}
use Rattle.std.specs.Prelude.{map}
use Rattle.rl_object.specs.Unnumbered.{unnumbered_held}
use Rattle.rl_pool.proofs.checking.unnumbered.Given as goal

-- the objects so far are copied
abbrev pub invariant-loop-object : goal.invariant-loop-object
invariant-loop-object l = l.made ≡ map unnumbered_held (take l.object-index l.objects)
