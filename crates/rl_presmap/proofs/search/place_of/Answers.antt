use Rattle.std.proofs.Common.{rules, arith}
use Rattle.std.proofs.lemmas.Fn.{always_returns_same}
use Rattle.rl_model.specs.Members.{key_of}
use Rattle.rl_presmap.specs.Held.{is_before}
use Rattle.rl_presmap.proofs.Places.{parted}
use Rattle.rl_presmap.proofs.search.place_of.Goals as goal

pub returns-clause-place : goal.returns-clause-place
returns-clause-place c = λ rising.
    let key = key_of c.args.item.now in
    let h = c.partition_point.ensures.partitioned (λ one. is_before key one) (always_returns_same _ _ _ (λ a r f k. search rules)) (parted key c.args.held.now rising) in
    record { within = omega arith; below = h.0; above = h.1 }
