use Rattle.std.proofs.Common.{◌≡◌, take}
use Rattle.std.specs.Prelude.{map, filter}
use Rattle.rl_objmodel.specs.Steps.{is_live_held, lives_in}
use Rattle.rl_objrules.specs.Ids.{IsAscending}
use Rattle.rl_pool.specs.Live.{live_state}
use Rattle.rl_pool.proofs.live.live.Given as goal

-- the live objects so far are read
abbrev pub invariant-loop-object : goal.invariant-loop-object
invariant-loop-object l = IsAscending l.objects → l.live ≡ map (live_state (lives_in l.objects)) (filter is_live_held (take l.object-index l.objects))
