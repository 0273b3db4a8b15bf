use Rattle.std.proofs.Common.{◌∙◌}
use Rattle.rl_members.proofs.Undoing.{put_verdict, put_members}
use Rattle.rl_members.proofs.members.Members.put_all.Goals as goal

pub returns-clause-verdict : goal.returns-clause-verdict
returns-clause-verdict c = λ latest is.
    put_verdict c.reserve.new.self.items c.args.self.now c.in_ok-ready.ready c.args.items.now latest c.take_all.result (c.reserve.ensures.items ∙ c.self.view_is) c.in_ok-ready.ensures c.take_all.ensures.verdict is

pub returns-clause-members : goal.returns-clause-members
returns-clause-members c = λ taken latest is.
    put_members c.reserve.new.self.items c.args.self.now c.in_ok-ready.ready c.args.items.now latest c.take_all.new.held.items c.take_all.result (c.reserve.ensures.items ∙ c.self.view_is) c.in_ok-ready.ensures c.take_all.ensures.items taken is
