use Rattle.std.specs.Prelude.{not}
use Rattle.rl_types.specs.declared.presence.PresenceItem.{PresenceItem}
use Rattle.rl_model.specs.Members.{is_of}
use Rattle.rl_members.proofs.Calls.{kept_rising, leave_members}
use Rattle.rl_members.proofs.members.Members.leave.Goals as goal

pub invariant_of-self : goal.invariant_of-self
invariant_of-self c = kept_rising (λ (item : PresenceItem). not (is_of c.args.key.now item)) c.self.inside.held.items _ c.self.invariant c.take_out.ensures.items

pub returns-clause-members : goal.returns-clause-members
returns-clause-members c = λ latest item h same is. leave_members c.args.key.now c.args.self.now c.self.inside.held.items c.take_out.new.held.items latest item c.self.view_is c.self.invariant (λ rising. c.take_out.ensures.items) h same is
