-- The examples are computed.
use Rattle.std.proofs.Common.{refl}
use Rattle.std.specs.Fmt.{digits}
use Rattle.std.specs.Str.{is_utf8, chars}
use lib.Utf8.{encode}
use Rattle.rl_model.specs.Examples.{Prints, Refuses}

pub printed : Prints
unfolding digits is_utf8 chars encode
printed = record {
  empty = refl;
  once = refl;
  without_a_gap = refl;
  recovered = refl;
  past_the_head = refl;
  other_epoch = refl;
  attaching = refl;
  quotes = refl;
}

pub refused : Refuses
unfolding digits is_utf8 chars encode
refused = record {
  undeclared = refl;
  unknown = refl;
  second_client = refl;
  twice = refl;
  missing = refl;
  empty_text = refl;
  trailing = refl;
  leading = refl;
  bad_name = refl;
  bad_channel = refl;
  bad_number = refl;
  not_text = refl;
  other_channel = refl;
  early_cut = refl;
}
