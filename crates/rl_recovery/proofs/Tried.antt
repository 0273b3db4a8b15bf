-- The examples are computed.
use Rattle.std.proofs.Common.{refl}
use Rattle.std.specs.Fmt.{digits}
use Rattle.std.specs.Str.{is_utf8, chars}
use Rattle.std.specs.Float.Numeral.{scan_numeral}
use lib.Utf8.{encode}
use Rattle.json.specs.Json.{value, items, members}
use Rattle.json.specs.Lex.{lex, punctuate}
use Rattle.json.specs.Print.{escape_byte}
use Rattle.json.specs.Text.{content, code_unit, short_escape}
use Rattle.json.specs.Word.{word, after_number}
use Rattle.serde_json.specs.Read.{number_of}
use Rattle.rl_ids.specs.Forms.{epoch_text, serial_text, serial_of}
use Rattle.rl_jsonfields.specs.Fields.{required, each_member}
use Rattle.rl_jsonfields.specs.Names.{spelled}
use Rattle.rl_jsonfields.specs.Texts.{member_of_each}
use Rattle.rl_recovery.specs.Examples.{Written, Read, NotRead}
use Rattle.rl_recovery.specs.Keys.{held_at, serials_in, key_in, key_of, serials_json, key_members}

pub written : Written
unfolding digits is_utf8 chars encode escape_byte epoch_text serial_text spelled member_of_each serials_json key_members
written = record {
  no_channel = refl;
  one_channel = refl;
  two_channels = refl;
  quoted_name = refl;
  out_of_order = refl;
  name_twice = refl;
}

pub is_read : Read
unfolding digits is_utf8 chars encode scan_numeral value items members lex punctuate content code_unit short_escape word after_number number_of epoch_text serial_text serial_of required each_member spelled held_at serials_in key_in key_of
is_read = record {
  no_channel = refl;
  one_channel = refl;
  sorted = refl;
  channel_twice = refl;
  any_order = refl;
  field_twice = refl;
  greatest_number = refl;
  longest_name = refl;
}

pub not_read : NotRead
unfolding digits is_utf8 chars encode scan_numeral value items members lex punctuate content code_unit short_escape word after_number number_of epoch_text serial_text serial_of required each_member spelled held_at serials_in key_in key_of
not_read = record {
  empty = refl;
  list = refl;
  cut_off = refl;
  something_after = refl;
  no_serials = refl;
  no_key = refl;
  no_number = refl;
  null_number = refl;
  text_number = refl;
  below = refl;
  above = refl;
  other_key = refl;
  serials_in_a_list = refl;
  empty_name = refl;
  too_long_name = refl;
  other_serial = refl;
  upper_case_digit = refl;
  null_serial = refl;
  one_of_two = refl;
}
