-- The examples are computed.
use Rattle.std.proofs.Common.{refl}
use Rattle.std.specs.Str.{is_utf8, chars}
use lib.Utf8.{encode}
use Rattle.rl_directory.specs.Examples.{Replies}

pub replies : Replies
unfolding is_utf8 chars encode
replies = record { first = refl; second = refl; again = refl; beside = refl; next = refl; all = refl; none = refl }
