use Rattle.std.proofs.Common.{List, ℕ, sym, subst}
use Rattle.std.specs.Prelude.{Option}
use Rattle.rl_actormodel.specs.declared.parts.Session.{Session}
use Rattle.rl_actorparts.specs.Runs.{IsRun}
use Rattle.rl_actorparts.proofs.Put_back.{if_ok_so, rising, as_run}
use Rattle.rl_actorparts.proofs.sessions.Sessions.run.Goals as goal

pub returns-in-Some : goal.returns-in-Some
returns-in-Some c =
    let es = c.args.self.now in
    let found = c.in-Some.ensures in
    if_ok_so c.run_of.result
    (λ run is. subst (λ (one : Option (List ℕ × Session)). IsRun c.args.entries one es run) (sym found.first)
    (as_run c.args.entries (c.in-Some.name.now, c.in-Some.session.now) es run (rising es found.rises) found.stands is))
    c.run_of.ensures
