use Rattle.rl_scriptlang.proofs.Utf8.{utf8_no, utf8_yes}
use Rattle.rl_scriptlang.proofs.lines.text_in.Goals as goal

pub returns-in-Ok : goal.returns-in-Ok
returns-in-Ok c = (c.in-Ok.ensures.cases.0, utf8_yes c.args.bytes.now c.in-Ok.ensures.cases.1)

pub returns-in-Err : goal.returns-in-Err
returns-in-Err c = utf8_no c.args.bytes.now c.in-Err.ensures.cases.0
