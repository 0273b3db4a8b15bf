use Rattle.std.proofs.Common.{sym}
use Rattle.rl_actorparts.proofs.Put_back.{ok_so, err_so, rising, pages, stays}
use Rattle.rl_actorparts.proofs.sessions.page_at.Goals as goal

pub returns-in-Some-clause-absorbed : goal.returns-in-Some-clause-absorbed
returns-in-Some-clause-absorbed c =
    ok_so c.absorb_reply.result
    (λ is. pages c.args.reply.now c.args.name.now c.in-Some.session.now c.absorb_reply.new.session c.args.map.now.entries _
    (rising c.args.map.now.entries c.get_mut.ensures.ordered) (sym c.in-Some.ensures.value) is (c.get_mut.follows.holds c.absorb_reply.new.session).0)
    c.absorb_reply.ensures.absorbed

pub returns-in-Some-clause-err : goal.returns-in-Some-clause-err
returns-in-Some-clause-err c =
    err_so c.absorb_reply.result
    (λ is. stays c.args.name.now c.in-Some.session.now c.absorb_reply.new.session c.args.map.now.entries _
    (sym c.in-Some.ensures.value) is (c.get_mut.follows.holds c.absorb_reply.new.session).0)
    c.absorb_reply.ensures.err
