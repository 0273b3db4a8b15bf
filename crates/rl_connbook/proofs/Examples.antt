-- The examples are computed.
use Rattle.std.proofs.Common.{refl}
use Rattle.rl_connbook.specs.Examples.{Replies}

pub replies_hold : Replies
replies_hold = record {
  once = refl;
  given_up = refl;
  came_back = refl;
  in_flight = refl;
  left_behind = refl;
  closed = refl;
  range_begins = refl;
  range_ends = refl;
}
