use Rattle.std.proofs.Common.{◌∙◌}
use Rattle.rl_world.proofs.Worlds.{same_shown}
use Rattle.rl_world.proofs.Shown.{found}
use Rattle.rl_world.proofs.world.World.findings.Goals as goal

pub returns : goal.returns
returns c = λ script is.
    found script _ c.log.result.now c.log-2.result.now c.head-2.inside.0 c.in_ok-channels.channels c.in_ok-clients.clients (same_shown _ c.args.self.now _ c.self.view_is is)
    c.log.ensures c.log-2.ensures (λ parts keeps. c.head-2.view_is ∙ c.head.ensures.value parts keeps) c.in_ok-channels.ensures c.in_ok-clients.ensures
