-- The examples are computed.
use Rattle.std.proofs.Common.{refl}
use Rattle.std.specs.Fmt.{digits}
use Rattle.std.specs.Str.{is_utf8, chars}
use lib.Utf8.{encode}
use Rattle.rl_lanes.specs.Examples.{LanesAreWorked}

pub lanes_are_worked : LanesAreWorked
unfolding digits is_utf8 chars encode
lanes_are_worked = record {
  again = refl;
  passed_over = refl;
  in_time = refl;
  crosses = refl;
  asks_held = refl;
  goes_on = refl;
  lost = refl;
  misses = refl;
  tells_missed = refl;
  starts = refl;
  begins_there = refl;
  tells_flags = refl;
  pages = refl;
  member_pages = refl;
  refuses = refl;
  attaches_then = refl;
  opens_again = refl;
  falls_back = refl;
  stays_behind = refl;
  unknown = refl;
}
