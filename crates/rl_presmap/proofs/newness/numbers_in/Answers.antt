use Rattle.std.proofs.Common.{ℕ, ◌∙◌, ap}
use Rattle.std.specs.Prelude.{Option}
use Rattle.rl_presmap.specs.Newness.{both, number}
use Rattle.rl_presmap.proofs.Numbers.{none_numbers, cut_numbers}
use Rattle.rl_presmap.proofs.newness.numbers_in.Goals as goal

pub returns-in-None : goal.returns-in-None
returns-in-None c = none_numbers c.args.text.now c.in-None.ensures.place

pub returns-in-Some : goal.returns-in-Some
returns-in-Some c =
    c.both.ensures
    ∙ ap (λ (n : Option ℕ). both n c.number-in-Some.result) c.number.ensures
    ∙ ap (λ (n : Option ℕ). both (number c.split_at.result.0.now) n) c.number-in-Some.ensures
    ∙ cut_numbers c.args.text.now c.split_at.result.0.now c.split_at.result.1.now c.split_at-in-Some.result.1.now c.in-Some.at
    c.in-Some.ensures.place c.split_at.ensures.front c.split_at.ensures.back c.split_at-in-Some.ensures.back
