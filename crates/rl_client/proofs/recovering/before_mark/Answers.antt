use Rattle.std.proofs.Common.{◌≡◌, ℕ, List, length, sym, ap, ◌∙◌, arith}
use Rattle.std.specs.List.{position_or_len}
use Rattle.std.proofs.lemmas.Result.{IfOk-weaker}
use Rattle.rl_clientmodel.specs.Keys.{before_mark}
use Rattle.rl_client.proofs.Marks.{is_mark, whole_is}
use Rattle.rl_client.proofs.recovering.before_mark.Goals as goal

pub returns-in-None : goal.returns-in-None
returns-in-None c =
    let text = c.as_str-text.result.now in
    let none : position_or_len is_mark text ≡ length text = c.in-None.ensures.byte (omega arith) (λ w o h. h) in
    IfOk-weaker c.from_str-in-None.result (λ (id : List ℕ). id ≡ text) _ (λ id is. is ∙ sym (whole_is text none) ∙ ap before_mark c.as_str-text.ensures) c.from_str-in-None.ensures
