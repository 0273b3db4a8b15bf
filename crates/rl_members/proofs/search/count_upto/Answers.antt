use Rattle.std.proofs.Common.{rules, arith}
use Rattle.std.proofs.lemmas.Fn.{always_returns_same}
use Rattle.rl_members.specs.Held.{is_upto}
use Rattle.rl_members.proofs.Places.{parted_upto}
use Rattle.rl_members.proofs.search.count_upto.Goals as goal

pub returns-clause-place : goal.returns-clause-place
returns-clause-place c = λ rising.
    let h = c.partition_point.ensures.partitioned (λ item. is_upto c.args.key.now item) (always_returns_same _ _ _ (λ a r f k. search rules)) (parted_upto c.args.key.now c.args.held.now rising) in
    record { within = omega arith; below = h.0; above = h.1 }
