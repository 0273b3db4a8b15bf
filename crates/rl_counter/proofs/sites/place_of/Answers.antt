use Rattle.std.proofs.Common.{rules, arith}
use Rattle.std.proofs.lemmas.Fn.{always_returns_same}
use Rattle.rl_objmodel.specs.Places.{is_before}
use Rattle.rl_objmodel.proofs.PlacesHeld.{parted_before}
use Rattle.rl_counter.proofs.sites.place_of.Goals as goal

pub returns-clause-place : goal.returns-clause-place
returns-clause-place c = λ rising.
    let h = c.partition_point.ensures.partitioned (λ one. is_before c.args.site.now one) (always_returns_same _ _ _ (λ a r f k. search rules)) (parted_before c.args.site.now c.args.sites.now rising) in
    record { within = omega arith; below = h.0; above = h.1 }
