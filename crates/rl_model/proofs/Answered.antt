-- The examples of a channel's replies are computed.
use Rattle.std.proofs.Common.{refl}
use Rattle.std.specs.Fmt.{digits}
use Rattle.std.specs.Str.{is_utf8, chars}
use lib.Utf8.{encode}
use Rattle.rl_model.specs.ChannelExamples.{AnswersMembers, AnswersObjects}

pub answered : AnswersMembers
unfolding digits is_utf8 chars encode
answered = record {
  life = refl;
  pages = refl;
  goes = refl;
}

pub answered_objects : AnswersObjects
unfolding digits is_utf8 chars encode
answered_objects = record {
  rules = refl;
  frames = refl;
  ticks = refl;
}
