use Rattle.std.proofs.Common.{◌≡◌, cond, ltb, length, Some, None, sym, ◌∙◌, ap, rules, tests, ◌∷◌, take, drop, ◌+◌, ◌-◌}
use Rattle.std.specs.List.{position_or_len}
use Rattle.std.specs.Str.Lines.{lines}
use Rattle.std.proofs.lemmas.Iterator.{YieldsList-from_slice}
use Rattle.std.proofs.lemmas.Iterator.Search.{position_from_yields_List}
use Rattle.rl_scriptlang.proofs.FirstLines.{is_feed, line_found, line_missed}
use Rattle.rl_scriptlang.proofs.feeds.first_line.Goals as goal

pub returns-in-Some-clause-lines : goal.returns-in-Some-clause-lines
returns-in-Some-clause-lines c =
    let bytes = c.args.bytes.now in
    let place : Some c.in-Some.at ≡ cond (ltb (position_or_len is_feed bytes) (length bytes)) (Some (position_or_len is_feed bytes)) None =
    position_from_yields_List is_feed _ _ _ c.in-Some.ensures.ran (YieldsList-from_slice bytes c.iter.ensures.rest) (λ x b q k. search (rules, tests)) in
    line_found bytes c.in-Some.at place ∙ ap (λ line. line ∷ lines (take (length bytes - (c.in-Some.at + 1)) (drop (c.in-Some.at + 1) bytes))) (sym c.without_return.ensures)

pub returns-in-None-clause-lines : goal.returns-in-None-clause-lines
returns-in-None-clause-lines c =
    let bytes = c.args.bytes.now in
    let place : None ≡ cond (ltb (position_or_len is_feed bytes) (length bytes)) (Some (position_or_len is_feed bytes)) None =
    position_from_yields_List is_feed _ _ _ c.in-None.ensures.ran (YieldsList-from_slice bytes c.iter.ensures.rest) (λ x b q k. search (rules, tests)) in
    line_missed bytes (search rules) place
