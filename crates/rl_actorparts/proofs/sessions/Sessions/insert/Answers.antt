use Rattle.rl_actorparts.proofs.By_number.{named_put}
use Rattle.rl_actorparts.proofs.sessions.Sessions.insert.Goals as goal

pub invariant_of-self-2 : goal.invariant_of-self-2
invariant_of-self-2 c =
    named_put c.plain-number.result c.args.name c.in_ok-kept.kept c.args.session c.self.inside.by_name.entries c.insert-2.new.self.entries c.self.inside.names.entries c.insert.new.self.entries
    c.plain-number.ensures c.in_ok-kept.ensures (c.is_free_for.ensures c.if-not-is_free_for.false) c.in_ok-insert.ensures.updates.0 c.in_ok-insert-2.ensures.entries c.self.invariant
