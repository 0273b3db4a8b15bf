use Rattle.std.proofs.Common.{rules, arith}
use Rattle.std.proofs.lemmas.Fn.{always_returns_same}
use Rattle.rl_object.specs.Ids.{is_before_id}
use Rattle.rl_objrules.proofs.Places.{parted_before}
use Rattle.rl_objrules.proofs.search.place_of.Goals as goal

pub returns-clause-place : goal.returns-clause-place
returns-clause-place c = λ id same ascending.
    let h = c.partition_point.ensures.partitioned (λ one. is_before_id id one) (always_returns_same _ _ _ (λ a r f k. search (same, rules))) (parted_before id c.args.objects.now ascending) in
    record { within = omega arith; below = h.0; above = h.1 }
