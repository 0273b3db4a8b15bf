-- The examples are computed.
use Rattle.std.proofs.Common.{refl}
use Rattle.std.specs.Fmt.{digits}
use Rattle.std.specs.Str.{is_utf8, chars}
use lib.Utf8.{encode}
use Rattle.rl_clientmodel.specs.Examples.{ConnectionsStand, AnswersAreOwed, RunsGoOn, QueueIsKept, TimePasses, MembersAreHeld, OwnMembersEnter, ObjectsAreHeld, KeysRecover, CommandsAreRefused, ClientsAreShown}

pub connections_stand : ConnectionsStand
unfolding digits is_utf8 chars encode
connections_stand = record {
  first_hello = refl;
  next_hello = refl;
  forgotten_hello = refl;
  stands = refl;
  once = refl;
  lost = refl;
  refused = refl;
  refused_drops = refl;
  fatal = refl;
  fatal_drops = refl;
  closes = refl;
  closing = refl;
  closed = refl;
  closed_stays = refl;
  closed_at_once = refl;
  dies = refl;
  unasked_closed = refl;
  key_told_last = refl;
  id_forgotten = refl;
  closes_once = refl;
  closes_quietly = refl;
  close_drops = refl;
  close_waits = refl;
  closing_unlinked = refl;
  closing_disconnected = refl;
  closing_fatal = refl;
}

pub answers_are_owed : AnswersAreOwed
unfolding digits is_utf8 chars encode
answers_are_owed = record {
  waits = refl;
  asks = refl;
  asks_at_once = refl;
  once = refl;
  answered = refl;
  crossing = refl;
  first_answer = refl;
  second_answer = refl;
  last_answer = refl;
  last_run = refl;
  detaching = refl;
  detached_then = refl;
  forgets = refl;
  asks_nothing = refl;
  turned_round = refl;
  failing = refl;
  failing_early = refl;
  failing_unasked = refl;
  unlinked = refl;
  owes_none = refl;
  at_once = refl;
  unknown = refl;
  unknown_answer = refl;
  all_fail = refl;
  new_link = refl;
  dropped_link = refl;
  silent_link = refl;
  suspended_at_once = refl;
  suspended_then = refl;
  closing_at_once = refl;
  closing_quietly = refl;
  stays_detached = refl;
  stays_failed = refl;
  unasked_closing = refl;
  unasked_waits = refl;
  at_place = refl;
  in_order = refl;
  one_alone = refl;
  endless = refl;
  endless_count = refl;
  endless_error = refl;
}

pub runs_go_on : RunsGoOn
unfolding digits is_utf8 chars encode
runs_go_on = record {
  opened = refl;
  got = refl;
  holds = refl;
  asks = refl;
  attaching = refl;
  goes_on = refl;
  not_retained = refl;
  same_place = refl;
  elsewhere = refl;
  other_epoch = refl;
  recovered = refl;
  not_there = refl;
  attaching_yet = refl;
  not_up_yet = refl;
  no_serial = refl;
  place_0 = refl;
  skips = refl;
  twice = refl;
  epoch = refl;
  moved = refl;
  lost = refl;
  stays = refl;
  asks_again = refl;
  waits_again = refl;
  opens_again = refl;
  away = refl;
  away_once = refl;
  got_after_moving = refl;
  detaching = refl;
}

pub queue_is_kept : QueueIsKept
unfolding digits is_utf8 chars encode
queue_is_kept = record {
  waits = refl;
  behind = refl;
  at_once = refl;
  acknowledged = refl;
  refused = refl;
  not_pending = refl;
  once = refl;
  in_closing = refl;
  too_late = refl;
  keeps = refl;
  anew = refl;
  dropped = refl;
  begins_anew = refl;
  answers_in_order = refl;
  acknowledged_by = refl;
  dropped_twice = refl;
  dropped_endlessly = refl;
  operations = refl;
}

pub time_passes : TimePasses
unfolding digits is_utf8 chars encode
time_passes = record {
  silent = refl;
  silent_drops = refl;
  not_yet = refl;
  heard = refl;
  suspended = refl;
  kept = refl;
  connecting = refl;
  never_up = refl;
  never_up_late = refl;
  from_suspended = refl;
  suspended_again = refl;
  forgets = refl;
  channel_too = refl;
  opens_again = refl;
  late = refl;
  in_time = refl;
  not_linked = refl;
  late_answer = refl;
  asked_twice = refl;
  connected_counts = refl;
  connected_counts_then = refl;
  commands_do_not = refl;
  left_last = refl;
  left_connected = refl;
  no_more_suspended = refl;
  suspending_drops = refl;
  one_at_a_time = refl;
  lost_link = refl;
  closing_link = refl;
  asked_again = refl;
  asked_again_late = refl;
  told_twice = refl;
}

pub members_are_held : MembersAreHeld
unfolding digits is_utf8 chars encode
members_are_held = record {
  nobody = refl;
  one = refl;
  left = refl;
  not_attached = refl;
  syncing = refl;
  named = refl;
  not_named = refl;
  nobody_left = refl;
  page_alone = refl;
  page_early = refl;
  suspended = refl;
  gone = refl;
  failing = refl;
  unasked = refl;
  unasked_sync = refl;
  late_answer = refl;
  place_0 = refl;
  no_serial = refl;
  skipping = refl;
}

pub own_members_enter : OwnMembersEnter
unfolding digits is_utf8 chars encode
own_members_enter = record {
  enter = refl;
  again_in_order = refl;
  updated = refl;
  not_moved = refl;
  not_detached = refl;
  after_suspended = refl;
  in_closing = refl;
  queued_in_closing = refl;
  not_the_last = refl;
  not_failed = refl;
  after_unasked = refl;
  skipped = refl;
  skipped_serial = refl;
  refused = refl;
  not_attached = refl;
}

pub objects_are_held : ObjectsAreHeld
unfolding digits is_utf8 chars encode
objects_are_held = record {
  bare = refl;
  opened = refl;
  whole = refl;
  applied = refl;
  no_serial = refl;
  no_serial_got = refl;
  kept = refl;
  old = refl;
  none = refl;
  page_alone = refl;
  gone = refl;
  suspended = refl;
  tombstone = refl;
  collected = refl;
  unlinked_too = refl;
  waits = refl;
  unasked = refl;
  page_early = refl;
}

pub keys_recover : KeysRecover
unfolding digits is_utf8 chars encode
keys_recover = record {
  none = refl;
  held = refl;
  unlinked = refl;
  closing = refl;
  given_up = refl;
  hello = refl;
  goes_on = refl;
  anew = refl;
  not_attached = refl;
  run = refl;
  same_key = refl;
  knows_one = refl;
  pending = refl;
  connecting = refl;
  twice = refl;
  id = refl;
  all = refl;
  key_held = refl;
  held_alone = refl;
  held_detaching = refl;
}

pub commands_are_refused : CommandsAreRefused
unfolding digits is_utf8 chars encode
commands_are_refused = record {
  connect_twice = refl;
  attach_suspended = refl;
  attach_closing = refl;
  attach_at_known = refl;
  attach_at_closed = refl;
  detach_failed = refl;
  publish_failed = refl;
  publish_unknown = refl;
  publish_first = refl;
  publish_detached = refl;
  operate_detached = refl;
  operate_unknown = refl;
  enter_unknown = refl;
  leave_attaching = refl;
  enter_unlinked = refl;
  full = refl;
  close = refl;
  not_attached_at = refl;
  not_attached = refl;
  not_queued = refl;
  detach_suspended = refl;
  enter_before_full = refl;
  operate_full = refl;
  attach_at_recovered = refl;
  publish_closing = refl;
  publish_late = refl;
}

pub clients_are_shown : ClientsAreShown
unfolding digits is_utf8 chars encode
clients_are_shown = record {
  one = refl;
  names = refl;
  dropped = refl;
  closed = refl;
}
