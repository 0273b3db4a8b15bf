use Rattle.std.proofs.Common.{sym, subst}
use Rattle.rl_actorparts.specs.Runs.{Sessions}
use Rattle.rl_actorparts.specs.Numbered.{AreNamed}
use Rattle.rl_actorparts.proofs.By_number.{named_paged}
use Rattle.rl_actorparts.proofs.Put_back.{either, ok_so, err_so}
use Rattle.rl_actorparts.proofs.sessions.Sessions.absorb_page.Goals as goal

pub invariant_of-self : goal.invariant_of-self
invariant_of-self c =
    let names = c.self.inside.names.entries in
    either c.page_at.result
    (ok_so c.page_at.result (λ is. subst (λ (es : Sessions). AreNamed es names) (sym is) (named_paged c.args.reply.now _ c.self.inside.by_name.entries names c.self.invariant)) c.page_at.ensures.absorbed)
    (err_so c.page_at.result (λ is. subst (λ (es : Sessions). AreNamed es names) (sym is) c.self.invariant) c.page_at.ensures.err)
