use Rattle.std.proofs.Common.{rules, arith}
use Rattle.std.proofs.lemmas.Fn.{always_returns_same}
use Rattle.rl_members.specs.Held.{key_at, is_before}
use Rattle.rl_members.proofs.Places.{parted_before}
use Rattle.rl_members.proofs.search.place_of.Goals as goal

pub returns-clause-place : goal.returns-clause-place
returns-clause-place c = λ rising.
    let key = key_at c.args.conn.now c.args.client.now in
    let h = c.partition_point.ensures.partitioned (λ item. is_before key item) (always_returns_same _ _ _ (λ a r f k. search rules)) (parted_before key c.args.held.now rising) in
    record { within = omega arith; below = h.0; above = h.1 }
