use Rattle.std.proofs.Common.{ℕ, sym, ap, subst, ◌∙◌}
use Rattle.rl_model.specs.Parts.{parts_of}
use Rattle.rl_model.specs.Window.{first}
use Rattle.rl_model.specs.Reply.{is_resumed}
use Rattle.rl_channel.specs.State.{ChannelState, StandsAt}
use Rattle.rl_channel.specs.Steps.{goes_on}
use Rattle.rl_channel.proofs.Replies.{goes_same}
use Rattle.rl_channel.proofs.channel.Channel.resumes.Goals as goal

pub returns : goal.returns
returns c = λ past stands.
    let site = c.args.self.now.setup.site in
    let old = subst (λ (s : ChannelState). StandsAt site s past) (sym c.self.view_is) stands in
    let from = c.goes_on.view_is ∙ c.first.ensures.value (parts_of site past) old.keeps in
    let upto = c.goes_on-2.view_is ∙ c.head.ensures.value (parts_of site past) old.keeps in
    c.goes_on-3.ensures
    ∙ ap (λ (f : ℕ). goes_on c.self.inside.setup.epoch f c.goes_on-2.inside.0 c.args.asked.now) from
    ∙ ap (λ (h : ℕ). goes_on c.self.inside.setup.epoch (first site past) h c.args.asked.now) upto
    ∙ goes_same c.self.inside.setup.epoch site past c.args.asked.now
    ∙ ap (λ (s : ChannelState). is_resumed s.setup.epoch site past c.args.asked.now) c.self.view_is
