use Rattle.std.proofs.Common.{rules, arith, ap, ap₂, sym, ◌∙◌, Some}
use Rattle.rl_base.specs.Digits.{fixed_text}
use Rattle.rl_ids.proofs.ObjectTexts.{place_lacks, numbers_cut, numbers_is}
use Rattle.rl_ids.proofs.SerialTexts.{some_same}
use Rattle.rl_ids.proofs.serials.numbers_in.Goals as goal

pub returns-in_default-clause-every : goal.returns-in_default-clause-every
returns-in_default-clause-every c = λ place index p q is.
    absurd (c.in_default.ensures.every (fixed_text 10 20 place) (fixed_text 10 4 index) (place_lacks place) (numbers_cut place index c.args.text.now is))

pub returns-in_default-read_fixed-clause-every : goal.returns-in_default-read_fixed-clause-every
returns-in_default-read_fixed-clause-every c = λ place index p q is.
    let cut = c.in-Some.ensures.every (fixed_text 10 20 place) (fixed_text 10 4 index) (place_lacks place) (numbers_cut place index c.args.text.now is) in
    absurd (c.in_default-read_fixed.not-Some place (c.read_fixed.ensures.every place p (omega (arith, p)) (c.as_bytes.ensures.value ∙ cut.0)))

pub returns-in_default-read_fixed-2-clause-every : goal.returns-in_default-read_fixed-2-clause-every
returns-in_default-read_fixed-2-clause-every c = λ place index p q is.
    let cut = c.in-Some.ensures.every (fixed_text 10 20 place) (fixed_text 10 4 index) (place_lacks place) (numbers_cut place index c.args.text.now is) in
    absurd (c.in_default-read_fixed-2.not-Some index (c.read_fixed-2.ensures.every index (omega (arith, q)) (omega (arith, q)) (c.as_bytes-2.ensures.value ∙ cut.1)))

pub returns-clause-every : goal.returns-clause-every
returns-clause-every c = λ place index p q is.
    let cut = c.in-Some.ensures.every (fixed_text 10 20 place) (fixed_text 10 4 index) (place_lacks place) (numbers_cut place index c.args.text.now is) in
    let first = c.in-Some-read_fixed.ensures.every place p (omega (arith, p)) (c.as_bytes.ensures.value ∙ cut.0) in
    let second = c.in-Some-read_fixed-2.ensures.every index (omega (arith, q)) (omega (arith, q)) (c.as_bytes-2.ensures.value ∙ cut.1) in
    ap₂ (λ a b. Some (a, b)) (some_same first) (some_same second)

pub returns-clause-found : goal.returns-clause-found
returns-clause-found c =
    let first = c.in-Some-read_fixed.ensures.found in
    let second = c.in-Some-read_fixed-2.ensures.found in
    let index = second.0 in (
      search rules,
      omega (arith, index),
      numbers_is c.in-Some-read_fixed.place c.in-Some-read_fixed-2.index c.args.text.now c.in-Some.place.now c.in-Some.index.now c.in-Some.ensures.found
      (sym c.as_bytes.ensures.value ∙ first.1) (sym c.as_bytes-2.ensures.value ∙ second.1),
    )
