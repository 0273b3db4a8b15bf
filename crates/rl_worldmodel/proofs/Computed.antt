-- The examples are computed.
use Rattle.std.proofs.Common.{refl}
use Rattle.std.specs.Fmt.{digits}
use Rattle.std.specs.Str.{is_utf8, chars}
use lib.Utf8.{encode}
use Rattle.json.specs.Print.{escape_byte}
use Rattle.base64.specs.Rfc4648.{encode_symbols}
use Rattle.rl_ids.specs.Forms.{epoch_text, serial_text}
use Rattle.rl_ids.specs.Objects.{object_id_of}
use Rattle.rl_jsonfields.specs.Names.{spelled}
use Rattle.rl_jsonfields.specs.Texts.{member_of_each}
use Rattle.rl_wireitems.specs.Items.{message_values, message_value, presence_values, presence_value}
use Rattle.rl_wireobj.specs.Operations.{op_json, operation_members, entries_json, entry_json}
use Rattle.rl_wireobj.specs.Values.{value_json}
use Rattle.rl_wire.specs.Texts.{frame_members, head_members}
use Rattle.rl_worldmodel.specs.RecordExamples.{RecordsShow}
use Rattle.rl_worldmodel.specs.ConnectionExamples.{ConnectionsShow}
use Rattle.rl_worldmodel.specs.AnswerExamples.{AnswersShow}
use Rattle.rl_worldmodel.specs.MomentExamples.{MomentsShow}
use Rattle.rl_worldmodel.specs.SyncExamples.{SyncsShow}
use Rattle.rl_worldmodel.specs.SessionExample.{SessionShows}
use Rattle.rl_worldmodel.specs.WorldExamples.{CutsTakeAway, CallsAreKept, RoundsGoOn, PairsAreQueued, DirectoryIsFull, LinesDoNothing, SerialsShow}
use Rattle.rl_worldmodel.specs.Refusals.{RefusesLines, BoundsRefuse}

pub records_show : RecordsShow
unfolding digits is_utf8 chars encode object_id_of frame_members head_members message_values message_value presence_values presence_value op_json operation_members entries_json entry_json value_json member_of_each spelled epoch_text serial_text escape_byte encode_symbols
records_show = record {
  empty_prints = refl;
  published_once_prints = refl;
  went_on_prints = refl;
  polled_then_settled_prints = refl;
  recovered_within_prints = refl;
  past_the_head_prints = refl;
  at_the_head_prints = refl;
  other_epoch_prints = refl;
  held_of_another_run_prints = refl;
  aged_prints = refl;
  reads_sixteen_prints = refl;
  fed_by_id_prints = refl;
  falls_behind_prints = refl;
}

pub connections_show : ConnectionsShow
unfolding digits is_utf8 chars encode object_id_of frame_members head_members message_values message_value presence_values presence_value op_json operation_members entries_json entry_json value_json member_of_each spelled epoch_text serial_text escape_byte encode_symbols
connections_show = record {
  answered_by_id_prints = refl;
  superseded_prints = refl;
  expired_prints = refl;
  not_yet_expired_prints = refl;
  came_back_prints = refl;
  in_flight_prints = refl;
  in_flight_held_prints = refl;
  recovers_place_prints = refl;
  recovers_serial_prints = refl;
  queued_before_prints = refl;
  starts_anew_prints = refl;
  closes_later_prints = refl;
  late_ack_prints = refl;
  lost_at_prints = refl;
}

pub answers_show : AnswersShow
unfolding digits is_utf8 chars encode object_id_of frame_members head_members message_values message_value presence_values presence_value op_json operation_members entries_json entry_json value_json member_of_each spelled epoch_text serial_text escape_byte encode_symbols
answers_show = record {
  second_attach_prints = refl;
  detaches_prints = refl;
  crossing_prints = refl;
  times_out_prints = refl;
  comes_back_at_last_prints = refl;
  answered_anew_prints = refl;
  cut_in_flight_prints = refl;
  first_passed_over_prints = refl;
  stays_suspended_prints = refl;
  asks_held_prints = refl;
}

pub moments_show : MomentsShow
unfolding digits is_utf8 chars encode object_id_of frame_members head_members message_values message_value presence_values presence_value op_json operation_members entries_json entry_json value_json member_of_each spelled epoch_text serial_text escape_byte encode_symbols
moments_show = record {
  idles_prints = refl;
  detached_idles_prints = refl;
  listens_prints = refl;
  quiet_prints = refl;
  own_silence_prints = refl;
  heartbeat_prints = refl;
  past_two_minutes_prints = refl;
  ttl_from_loss_prints = refl;
  not_idle_yet_prints = refl;
  idle_then_prints = refl;
  begins_late_prints = refl;
  lost_later_prints = refl;
  suspended_later_prints = refl;
  drops_link_prints = refl;
  hears_again_prints = refl;
  frame_before_rest_prints = refl;
}

pub syncs_show : SyncsShow
unfolding digits is_utf8 chars encode object_id_of frame_members head_members message_values message_value presence_values presence_value op_json operation_members entries_json entry_json value_json member_of_each spelled epoch_text serial_text escape_byte encode_symbols
syncs_show = record {
  refused_once_prints = refl;
  page_ahead_prints = refl;
  older_item_prints = refl;
  leaves_with_connection_prints = refl;
  leaves_later_prints = refl;
  pages_apart_prints = refl;
  number_rules_prints = refl;
  end_page_waits_prints = refl;
  end_page_comes_prints = refl;
  left_meanwhile_prints = refl;
}

pub session_shows : SessionShows
unfolding digits is_utf8 chars encode object_id_of frame_members head_members message_values message_value presence_values presence_value op_json operation_members entries_json entry_json value_json member_of_each spelled epoch_text serial_text escape_byte encode_symbols
session_shows = record {
  session_prints = refl;
}

pub refuses_lines : RefusesLines
unfolding digits is_utf8 chars encode object_id_of frame_members head_members message_values message_value presence_values presence_value op_json operation_members entries_json entry_json value_json member_of_each spelled epoch_text serial_text escape_byte encode_symbols
refuses_lines = record {
  undeclared = refl;
  unknown = refl;
  twice = refl;
  recovers_none = refl;
  missing = refl;
  empty_text = refl;
  trailing = refl;
  leading = refl;
  bad_name = refl;
  long_name = refl;
  no_transport = refl;
  two_slashes = refl;
  bad_id = refl;
  bad_channel = refl;
  bad_number = refl;
  long_tick = refl;
  too_many = refl;
  none_fed = refl;
  bad_object = refl;
  bad_nonce = refl;
  bad_whole = refl;
  low_whole = refl;
  bad_key = refl;
  no_value = refl;
  empty_value = refl;
  empty_text_value = refl;
  bad_bool = refl;
  half_byte = refl;
  upper_byte = refl;
  no_byte = refl;
  bad_ref = refl;
  two_wholes = refl;
  no_data = refl;
  empty_data = refl;
  bad_member = refl;
  too_much = refl;
  first_token = refl;
  not_text = refl;
  a_client_too_many = refl;
  fed_too_much = refl;
  no_race_line = refl;
  order_first = refl;
  race_lines = refl;
  carriage_return = refl;
  carriage_return_kept = refl;
  minus = refl;
  minus_zero = refl;
  least = refl;
  greatest = refl;
  spaces = refl;
  bytes = refl;
  truth = refl;
  ref = refl;
  transport = refl;
  made = refl;
  no_race_recover = refl;
  no_race_attach_at = refl;
  no_race_get = refl;
  no_race_step = refl;
  no_race_page = refl;
  no_race_timer = refl;
  no_race_feed = refl;
  no_race_feed_id = refl;
  count_first = refl;
  count_before_channel = refl;
  two_returns = refl;
  deletes = refl;
  leaves = refl;
  feeds_id = refl;
  pages = refl;
  polls = refl;
}

pub cuts_take_away : CutsTakeAway
unfolding digits is_utf8 chars encode object_id_of frame_members head_members message_values message_value presence_values presence_value op_json operation_members entries_json entry_json value_json member_of_each spelled epoch_text serial_text escape_byte encode_symbols
cuts_take_away = record {
  under_way = refl;
  taken_away = refl;
  lost = refl;
  performed = refl;
  joined_and_read_twice = refl;
  read = refl;
  not_read = refl;
  not_paged = refl;
  paged = refl;
  not_read_between = refl;
  not_paged_between = refl;
  came_back = refl;
  first_reads = refl;
  second_reads = refl;
  cut_before_rest = refl;
  ended_takes_none = refl;
}

pub calls_are_kept : CallsAreKept
unfolding digits is_utf8 chars encode object_id_of frame_members head_members message_values message_value presence_values presence_value op_json operation_members entries_json entry_json value_json member_of_each spelled epoch_text serial_text escape_byte encode_symbols
calls_are_kept = record {
  ends_superseded = refl;
  two_joins = refl;
  ends_lagged = refl;
  ends_idle = refl;
  not_idle_yet = refl;
}

pub rounds_go_on : RoundsGoOn
unfolding digits is_utf8 chars encode object_id_of frame_members head_members message_values message_value presence_values presence_value op_json operation_members entries_json entry_json value_json member_of_each spelled epoch_text serial_text escape_byte encode_symbols
rounds_go_on = record {
  pages_then_reads = refl;
  all_got = refl;
  no_heartbeat = refl;
  one_heartbeat = refl;
  no_heartbeat_yet = refl;
}

pub pairs_are_queued : PairsAreQueued
unfolding digits is_utf8 chars encode object_id_of frame_members head_members message_values message_value presence_values presence_value op_json operation_members entries_json entry_json value_json member_of_each spelled epoch_text serial_text escape_byte encode_symbols
pairs_are_queued = record {
  pairs = refl;
  reaped = refl;
  once = refl;
  later = refl;
  settled = refl;
  one_a_round = refl;
}

pub directory_is_full : DirectoryIsFull
unfolding digits is_utf8 chars encode object_id_of frame_members head_members message_values message_value presence_values presence_value op_json operation_members entries_json entry_json value_json member_of_each spelled epoch_text serial_text escape_byte encode_symbols
directory_is_full = record {
  not_fed = refl;
  not_fed_by_id = refl;
  fed = refl;
  fed_by_id = refl;
  fits = refl;
  no_second = refl;
  failed = refl;
  refused = refl;
  attached = refl;
  acknowledged = refl;
}

pub lines_do_nothing : LinesDoNothing
unfolding digits is_utf8 chars encode object_id_of frame_members head_members message_values message_value presence_values presence_value op_json operation_members entries_json entry_json value_json member_of_each spelled epoch_text serial_text escape_byte encode_symbols
lines_do_nothing = record {
  connects = refl;
  declared_once = refl;
  undeclared = refl;
  no_transport = refl;
  no_session = refl;
  no_channel = refl;
  not_known = refl;
  no_key = refl;
  opened_once = refl;
  may_not_recover = refl;
  closing_gives_none = refl;
}

pub serials_show : SerialsShow
unfolding digits is_utf8 chars encode object_id_of frame_members head_members message_values message_value presence_values presence_value op_json operation_members entries_json entry_json value_json member_of_each spelled epoch_text serial_text escape_byte encode_symbols
serials_show = record {
  at_the_site = refl;
}

pub bounds_refuse : BoundsRefuse
unfolding digits is_utf8 chars encode object_id_of frame_members head_members message_values message_value presence_values presence_value op_json operation_members entries_json entry_json value_json member_of_each spelled epoch_text serial_text escape_byte encode_symbols
bounds_refuse = record {
  longest_name = refl;
  longest_channel = refl;
  long_channel = refl;
  longest_id = refl;
  long_id = refl;
  longest_key = refl;
  long_key = refl;
  longest_text = refl;
  long_text = refl;
  longest_text_value = refl;
  long_text_value = refl;
  longest_fed_text = refl;
  long_fed_text = refl;
  last_transport = refl;
  past_transports = refl;
  longest_tick = refl;
  greatest_serial = refl;
  past_epochs = refl;
  past_places = refl;
  last_milli = refl;
  past_millis = refl;
}
