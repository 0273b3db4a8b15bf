-- The examples are computed.
use Rattle.std.proofs.Common.{refl}
use Rattle.std.specs.Fmt.{digits}
use Rattle.std.specs.Str.{is_utf8, chars}
use lib.Utf8.{encode}
use Rattle.rl_objsync.specs.Examples.{SyncsGo, SequencesChange, OpsAreKept, TombstonesStay}

pub syncs_go : SyncsGo
unfolding digits is_utf8 chars encode
syncs_go = record {
  alone = refl;
  shown = refl;
  two_pages = refl;
  latest = refl;
  meanwhile = refl;
  outside = refl;
  over = refl;
  again = refl;
  none = refl;
}

pub sequences_change : SequencesChange
unfolding digits is_utf8 chars encode
sequences_change = record { other = refl; no_cursor = refl; back = refl; kept = refl }

pub ops_are_kept : OpsAreKept
unfolding digits is_utf8 chars encode
ops_are_kept = record {
  outside = refl;
  later = refl;
  shown = refl;
  some = refl;
  cleared = refl;
  forgotten = refl;
  meanwhile = refl;
}

pub tombstones_stay : TombstonesStay
unfolding digits is_utf8 chars encode
tombstones_stay = record { stamped = refl; early = refl; gone = refl; meanwhile = refl }
