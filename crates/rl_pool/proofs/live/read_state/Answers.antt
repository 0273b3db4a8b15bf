use Rattle.rl_objmodel.specs.Steps.{lives_in}
use Rattle.rl_pool.proofs.Reading.{state_read}
use Rattle.rl_pool.proofs.live.read_state.Goals as goal

pub returns : goal.returns
returns c = λ ascending. state_read (lives_in c.args.objects.now) c.args.object.now c.in_ok-state.state c.in_ok-body.body c.in_ok-state.ensures (c.in_ok-body.ensures ascending)
