use Rattle.std.proofs.Common.{lit<, Some, None}
use Rattle.std.proofs.lemmas.Str.Pattern.{split_once_first}
use Rattle.rl_scriptlang.proofs.Splits.{split_none, cut_tokens}
use Rattle.rl_model.specs.Script.{is_space}
use Rattle.rl_scriptlang.proofs.split.cut.Goals as goal

pub returns-in-Some-clause-tokens : goal.returns-in-Some-clause-tokens
returns-in-Some-clause-tokens c =
    let found = split_once_first 32 c.args.line.now (Some (c.in-Some.token, c.in-Some.rest)) c.in-Some.ensures.cases (lit< tt) in
    cut_tokens c.args.line.now c.in-Some.token.now c.in-Some.rest.now found.0 found.1 found.2

pub returns-in-None-clause-tokens : goal.returns-in-None-clause-tokens
returns-in-None-clause-tokens c =
    split_none is_space c.args.line.now (split_once_first 32 c.args.line.now None c.in-None.ensures.cases (lit< tt))
