use Rattle.std.proofs.Common.{rules, arith}
use Rattle.std.proofs.lemmas.Fn.{always_returns_same}
use Rattle.rl_object.specs.Ids.{is_upto_id}
use Rattle.rl_objrules.proofs.Places.{parted_upto}
use Rattle.rl_objrules.proofs.search.count_upto.Goals as goal

pub returns-clause-place : goal.returns-clause-place
returns-clause-place c = λ id same ascending.
    let h = c.partition_point.ensures.partitioned (λ one. is_upto_id id one) (always_returns_same _ _ _ (λ a r f k. search (same, rules))) (parted_upto id c.args.objects.now ascending) in
    record { within = omega arith; below = h.0; above = h.1 }
