use Rattle.std.proofs.Common.{refl, sym, ap, subst, ◌∙◌}
use Rattle.std.specs.Prelude.{max}
use Rattle.rl_channel.specs.State.{ChannelState, StandsFor}
use Rattle.rl_channel.proofs.Replies.{ticks}
use Rattle.rl_channel.proofs.channel.Channel.tick.Goals as goal

pub returns-clause-stands : goal.returns-clause-stands
returns-clause-stands c = λ past stands.
    let old = subst (λ (s : ChannelState). StandsFor s past) (sym c.self.view_is) stands in
    ticks _ _ c.self.inside.setup.site past c.args.now (λ parts keeps. c.age.ensures.aged parts keeps) refl c.collect.ensures
    (c.clock_at-self-inside.ensures.value ∙ ap (λ (s : ChannelState). max c.args.now s.clock) (sym c.self.view_is)) old
