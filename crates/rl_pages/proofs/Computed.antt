-- The examples are computed.
use Rattle.std.proofs.Common.{refl}
use Rattle.std.specs.Fmt.{digits}
use Rattle.std.specs.Str.{is_utf8, chars}
use lib.Utf8.{encode}
use Rattle.rl_pages.specs.Examples.{ShowsBoth, ShowsLess}

pub both : ShowsBoth
unfolding digits is_utf8 chars encode
both = record {
  first_page = refl;
  second_page = refl;
  empty_page = refl;
  first_objects = refl;
  none_left = refl;
  second_frame = refl;
  objects_frame = refl;
  too_early = refl;
  reached = refl;
  pages_left = refl;
  ended = refl;
  once = refl;
  early_end = refl;
}

pub less : ShowsLess
unfolding digits is_utf8 chars encode
less = record {
  objects_first = refl;
  objects_may = refl;
  objects_end = refl;
  nothing_next = refl;
  nothing_may = refl;
  nothing_ends = refl;
}
