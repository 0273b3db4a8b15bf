use Rattle.std.proofs.Common.{◌≡◌, List, subst}
use Rattle.std.specs.Prelude.{IfOk}
use Rattle.rl_events.specs.declared.channel.ChannelEvent.{ChannelEvent}
use Rattle.rl_model.specs.Reply.{read_reply}
use Rattle.rl_channel.specs.State.{ChannelState, StandsFor}
use Rattle.rl_channel.proofs.Replies.{reads}
use Rattle.rl_channel.proofs.channel.Channel.read.Goals as goal

pub returns-clause-value : goal.returns-clause-value
returns-clause-value c =
    subst (λ (s : ChannelState). IfOk c.read.result (λ answer. (past : List ChannelEvent) → StandsFor s past → answer ≡ read_reply s.setup.site past c.args.from c.args.max)) c.self.view_is (reads c.read.result _ _ c.args.from c.args.max c.read.ensures)
