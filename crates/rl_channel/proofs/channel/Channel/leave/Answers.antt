use Rattle.std.proofs.Common.{◌≡◌, ℕ, List, ap, sym, ◌∙◌, arith, map}
use Rattle.std.specs.Prelude.{filter}
use Rattle.std.proofs.lemmas.Grind.{common_steps}
use Rattle.rl_model.specs.Members.{is_on, key_of}
use Rattle.rl_channel.specs.State.{ChannelState}
use Rattle.rl_channel.proofs.Left.{left_members}
use Rattle.rl_channel.proofs.channel.Channel.leave.Goals as goal

pub returns-clause-members : goal.returns-clause-members
returns-clause-members c = λ latest are is.
    let head : c.head-2.inside.0 ≡ c.args.self.now.log.head = c.head-2.view_is ∙ c.head.ensures.head ∙ ap (λ (s : ChannelState). s.log.head) c.self.view_is in
    left_members c.args.self.now.log.head c.args.stamp c.args.conn c.args.id.now c.args.clients c.args.self.now.members c.gone.new.self latest
    (λ none. let yes = c.is_empty.ensures.1 none in absurd (cc))
    (grind (arith, common_steps, head, c.if-head.false))
    are
    (λ leaves none keys.
    c.in_ok-gone.ensures.members latest leaves none
    (keys
    ∙ ap (λ (s : ChannelState). map key_of (filter (is_on c.args.id.now) s.members)) (sym c.self.view_is)
    ∙ ap (λ (conn : List ℕ). map key_of (filter (is_on conn) c.self.inside.members)) (sym c.as_str.ensures))
    (ap (λ (s : ChannelState). s.members) c.self.view_is ∙ is))
