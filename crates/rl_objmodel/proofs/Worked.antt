-- The worked examples are computed.
use Rattle.std.proofs.Common.{refl}
use Rattle.std.specs.Fmt.{digits}
use Rattle.std.specs.Str.{is_utf8, chars}
use lib.Utf8.{encode}
use Rattle.rl_objmodel.specs.Examples.{CountersCount, CellsAreGreatest, LengthsAreBounded, TargetsAreJudged, ReferencesAreJudged, NumbersAreBounded, PoolsAreBounded, TombstonesAreCollected, LiveObjectsRead, StepsAreDefined, StepsAreTaken}

pub counters_count : CountersCount
unfolding digits is_utf8 chars encode
counters_count = record { adds = refl; falls = refl; missing = refl; deleted = refl }

pub cells_are_greatest : CellsAreGreatest
unfolding digits is_utf8 chars encode
cells_are_greatest = record {
  equal = refl;
  smaller = refl;
  index = refl;
  site = refl;
  first = refl;
  removed = refl;
  other = refl;
}

pub lengths_are_bounded : LengthsAreBounded
unfolding digits is_utf8 chars encode
lengths_are_bounded = record {
  key = refl;
  long_key = refl;
  removed_key = refl;
  value = refl;
  long_value = refl;
  long_bytes = refl;
  entry = refl;
}

pub targets_are_judged : TargetsAreJudged
unfolding digits is_utf8 chars encode
targets_are_judged = record {
  made = refl;
  root = refl;
  of_other_kind = refl;
  again = refl;
  deleted_again = refl;
  near = refl;
  stale = refl;
  ahead = refl;
  far_ahead = refl;
  unknown = refl;
  tombstone = refl;
  for_maps = refl;
  for_counters = refl;
  root_deleted = refl;
  deleted = refl;
}

pub references_are_judged : ReferencesAreJudged
unfolding digits is_utf8 chars encode
references_are_judged = record {
  unknown = refl;
  tombstone = refl;
  known = refl;
  earlier = refl;
  itself = refl;
  later = refl;
  first = refl;
  target = refl;
}

pub numbers_are_bounded : NumbersAreBounded
unfolding digits is_utf8 chars encode
numbers_are_bounded = record {
  count = refl;
  great_count = refl;
  low_count = refl;
  lower_count = refl;
  amount = refl;
  great_amount = refl;
  sum = refl;
  great_sum = refl;
  whole = refl;
  great_whole = refl;
  long_first = refl;
  references_first = refl;
}

pub pools_are_bounded : PoolsAreBounded
unfolding digits is_utf8 chars encode
pools_are_bounded = record {
  objects = refl;
  more_objects = refl;
  tombstones = refl;
  cells = refl;
  more_cells = refl;
  weight = refl;
  more_weight = refl;
  value_weight = refl;
  removed_weight = refl;
  more_removed = refl;
  other_weight = refl;
  all_weight = refl;
  more_all_weight = refl;
}

pub tombstones_are_collected : TombstonesAreCollected
unfolding digits is_utf8 chars encode
tombstones_are_collected = record {
  stands = refl;
  gone = refl;
  again = refl;
  another = refl;
  cell_stands = refl;
  cell_gone = refl;
}

pub live_objects_read : LiveObjectsRead
unfolding digits is_utf8 chars encode
live_objects_read = record { none = refl; live = refl; dead = refl; missing = refl; removed = refl }

pub steps_are_defined : StepsAreDefined
unfolding digits is_utf8 chars encode
steps_are_defined = record {
  none = refl;
  counts = refl;
  keys = refl;
  tombstones = refl;
  collects = refl;
  creates = refl;
  judges = refl;
}

pub steps_are_taken : StepsAreTaken
unfolding digits is_utf8 chars encode
steps_are_taken = record {
  equal = refl;
  misplaced = refl;
  none_made = refl;
  made = refl;
  create_again = refl;
  tombstone = refl;
  range = refl;
  unranged = refl;
  greatest = refl;
  either = refl;
  told = refl;
  told_twice = refl;
  replaces = refl;
  sites = refl;
}
