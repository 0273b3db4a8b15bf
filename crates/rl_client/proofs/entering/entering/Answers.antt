use Rattle.std.proofs.Common.{rules, ◌≡◌, sym, subst}
use Rattle.rl_clientmodel.specs.Hearing.{entering}
use Rattle.rl_client.specs.Answers.{AreAcknowledged}
use Rattle.rl_client.proofs.Pushes.{entering_acknowledged}
use Rattle.rl_client.proofs.entering.entering.Goals as goal

pub returns-clause-acknowledged : goal.returns-clause-acknowledged
returns-clause-acknowledged c =
    let made : c.loop-client.frames ≡ entering c.args.name.now c.args.own.now.entries = search rules in
    subst AreAcknowledged (sym made) (entering_acknowledged c.args.name.now c.args.own.now.entries)
