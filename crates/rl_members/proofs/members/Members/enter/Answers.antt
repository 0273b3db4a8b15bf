use Rattle.std.proofs.Common.{subst, sym, ap, ◌∙◌}
use Rattle.rl_members.specs.Held.{with_member, IsRising}
use Rattle.rl_members.proofs.Calls.{entered}
use Rattle.rl_members.proofs.Places.{is_rising_with}
use Rattle.rl_members.proofs.members.Members.enter.Goals as goal

pub invariant_of-self-2 : goal.invariant_of-self-2
invariant_of-self-2 c =
    subst IsRising (sym (c.put.ensures.items ∙ ap (with_member c.in_ok-member.member) c.reserve.ensures.items)) (is_rising_with c.in_ok-member.member c.self.inside.held.items c.self.invariant)

pub returns-clause-members : goal.returns-clause-members
returns-clause-members c = λ latest h is.
    entered c.args.item.now c.in_ok-member.member c.args.self.now c.self.inside.held.items c.put.new.held.items c.in_ok-member.ensures c.self.view_is (c.put.ensures.items ∙ ap (with_member c.in_ok-member.member) c.reserve.ensures.items) latest h is
