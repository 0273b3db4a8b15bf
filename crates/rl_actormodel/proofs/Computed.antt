-- The examples are computed.
use Rattle.std.proofs.Common.{refl, inl, inr}
use Rattle.std.specs.Fmt.{digits}
use Rattle.std.specs.Str.{is_utf8, chars}
use lib.Utf8.{encode}
use Rattle.rl_actormodel.specs.Examples.{room, ShowsStart, ShowsClose, ShowsOthers, ShowsBadFrames}
use Rattle.rl_actormodel.specs.ChannelExamples.{ShowsAttach, ShowsAttachAgain, ShowsDetach, ShowsPublish, ShowsSerials, ShowsClientIds}
use Rattle.rl_actormodel.specs.PublishExamples.{ShowsBack, ShowsNumbers, ShowsKept}
use Rattle.rl_actormodel.specs.SyncExamples.{ShowsPages, ShowsReads, ShowsEndsInTime, ShowsSequences, ShowsRests, ShowsFarewells, ShowsEnds}
use Rattle.rl_actormodel.specs.MomentExamples.{ShowsLastIn, ShowsLastOut}
use Rattle.rl_actormodel.specs.SessionExamples.{ShowsPassedOver, ShowsOtherKinds, ShowsApart, ShowsBeginnings, ShowsWhole}

pub start : ShowsStart
unfolding digits is_utf8 chars encode
start = record { opens = refl; silent = refl; opened = refl; content = refl; comes_back = refl; resumed = refl; unknown = refl; unknown_silent = refl; opened_anew = refl; limited = refl; limited_told = refl; limited_done = refl }

pub close : ShowsClose
unfolding digits is_utf8 chars encode
close = record { asks = refl; asks_first = refl; closed = refl; closed_end = refl; closed_done = refl; superseded = refl; superseded_end = refl; superseded_done = refl; forgotten_end = refl; forgotten_done = refl }

pub others : ShowsOthers
unfolding digits is_utf8 chars encode
others = record { heartbeat = refl; heartbeat_done = refl; connect = refl; disconnect = refl; auth = refl; ack = refl; sync = refl; unknown = refl; unknown_goes_on = refl; unknown_came = refl }

pub bad_frames : ShowsBadFrames
unfolding digits is_utf8 chars encode
bad_frames = record { fault = refl; no_memory = refl; lacks = refl; presence_lacks = refl; object_lacks = refl; fine = refl; needs_none = refl; attach_needs_none = refl; other = refl; told = refl; ended = refl; wants_lost = refl; lost_told = refl }

pub attach : ShowsAttach
unfolding digits is_utf8 chars encode
attach = record { asks = refl; joins = refl; gives = refl; told = refl; members = refl; objects = refl; resumed = refl; ours_not_retained = refl; reads_from_told = refl; not_retained = refl; done = refl; full = refl; full_done = refl; full_none = refl; full_asks_again = refl }

pub attach_again : ShowsAttachAgain
unfolding digits is_utf8 chars encode
attach_again = record { asks_not = refl; other_asks = refl; keeps = refl; reads = refl; reads_not = refl; reads_no_other = refl; new_sync = refl; no_sync = refl; counted = refl; by_name = refl; first_name = refl; second_name = refl; no_third = refl }

pub detach : ShowsDetach
unfolding digits is_utf8 chars encode
detach = record { told = refl; ends = refl; other_stays = refl; without_session = refl; done = refl; keeps_number = refl }

pub publish : ShowsPublish
unfolding digits is_utf8 chars encode
publish = record { begins = refl; asks = refl; asks_not = refl; puts = refl; ends = refl; waits_for_end = refl; taken = refl; refused = refl; done = refl; old_ends = refl; old_silent = refl; old_done = refl; known = refl; known_refused = refl; known_done = refl; full_ends = refl; full_refused = refl }

pub serials : ShowsSerials
unfolding digits is_utf8 chars encode
serials = record { gap = refl; gap_told = refl; gap_lost = refl; old = refl; old_told = refl; old_lost = refl; superseded = refl; superseded_told = refl; superseded_done = refl; forgotten = refl; forgotten_told = refl; forgotten_done = refl; late = refl; late_told = refl; late_done = refl; late_forgotten = refl; late_forgotten_told = refl; late_forgotten_done = refl }

pub client_ids : ShowsClientIds
unfolding digits is_utf8 chars encode
client_ids = record { own_message = refl; signed_message = refl; unsigned_message = refl; own_member = refl; signed_member = refl; unsigned_member = refl; two_messages = refl; two_members = refl; operations = refl }

pub back : ShowsBack
unfolding digits is_utf8 chars encode
back = record { begins = refl; puts = refl; finishes = refl; finishes_refused = refl; taken = refl; refused = refl; known = refl; superseded = refl; late = refl; closes = refl; lost = refl }

pub numbers : ShowsNumbers
unfolding digits is_utf8 chars encode
numbers = record { first = refl; second = refl; third = refl }

pub kept : ShowsKept
unfolding digits is_utf8 chars encode
kept = record { joins = refl; puts = refl; asks_to_put = refl; asks_to_attach = refl }

pub pages : ShowsPages
unfolding digits is_utf8 chars encode
pages = record { members_first = refl; member_page = refl; next_members = refl; objects_then = refl; object_page = refl; none_left = refl; position_stays = refl; no_members = refl; nothing = refl; while_calling = refl; once_ended = refl }

pub reads : ShowsReads
unfolding digits is_utf8 chars encode
reads = record { shows = refl; moves = refl; none = refl; presence = refl; objects = refl; not_reached = refl; reached = refl; once = refl; none_read = refl; after_a_read = refl; pages_left = refl; lagged = refl; lagged_told = refl; lagged_lost = refl }

pub ends_in_time : ShowsEndsInTime
unfolding digits is_utf8 chars encode
ends_in_time = record { sixteen = refl; position = refl; all = refl }

pub sequences : ShowsSequences
unfolding digits is_utf8 chars encode
sequences = record { place = refl; second = refl }

pub rests : ShowsRests
unfolding digits is_utf8 chars encode
rests = record { idle = refl; idle_told = refl; idle_lost = refl; early = refl; after_frame = refl; long_after = refl; listens = refl; shows = refl; quiet = refl; soon = refl; again = refl; later = refl; waiting = refl; calling = refl; calling_goes_on = refl; ended = refl; told = refl; told_idle = refl; told_not = refl; told_ended = refl }

pub farewells : ShowsFarewells
unfolding digits is_utf8 chars encode
farewells = record { closed = refl; link_ended = refl; link_fault = refl; no_memory = refl; stopped = refl; superseded = refl; forgotten = refl; lagged = refl; bad_frame = refl; serial_gap = refl; serial_old = refl; idle = refl; limit = refl }

pub ends : ShowsEnds
unfolding digits is_utf8 chars encode
ends = record { link_lost = refl; link_silent = refl; fault_lost = refl; memory_lost = refl; memory_silent = refl; stop_lost = refl; stop_told = refl; lost_told = refl; lost_late = refl; gives_up = refl; behind = refl; no_connection = refl; stop_without_connection = refl; stop_calls_not = refl; sessions_stay = refl; first_end = refl; first_wish = refl; first_silent = refl; room_left = refl; no_room = refl; all_out = refl }

pub last_in : ShowsLastIn
unfolding digits is_utf8 chars encode
last_in = record { reply = refl; heartbeat = refl; after_reply = refl; after_heartbeat = refl; detached = refl; waiting = refl; from_start = refl; early = refl }

pub last_out : ShowsLastOut
unfolding digits is_utf8 chars encode
last_out = record { read = refl; read_later = refl; empty_early = refl; empty = refl; page = refl; page_later = refl }

pub passed_over : ShowsPassedOver
passed_over = record { ack = λ serial count now s. refl; nack = λ serial count code now s. refl; connect = λ now s. refl; connected = λ conn key ttl idle size code now s. refl; disconnect = λ now s. refl; disconnected = λ code now s. refl; closed = λ now s. refl; error = λ channel code now s. refl; attached = λ channel serial flags code now s. refl; detached = λ channel code now s. refl; sync = λ channel at items now s. refl; object_sync = λ channel at states now s. refl; auth = λ now s. refl }

pub other_kinds : ShowsOtherKinds
unfolding digits is_utf8 chars encode
other_kinds = record { resume = refl; first_open = refl; ask = refl; join = refl; begin = refl; ask_to_put = refl; put = refl; end = refl; close = refl }

pub apart : ShowsApart
unfolding digits is_utf8 chars encode
apart = record { room_moves = refl; hall_stays = refl; hall_moves = refl; room_stays = refl; hall_paged = refl; room_wants = refl; room_paged = refl; hall_wants = refl }

pub beginnings : ShowsBeginnings
unfolding digits is_utf8 chars encode
beginnings = record { epoch = refl; from_first = refl; numbered = refl; error_uses_none = refl; members_alone = refl }

pub whole : ShowsWhole
unfolding digits is_utf8 chars encode
whole = record { allowed = (tt, ((inl (10004, refl), refl), ((refl, refl), (tt, (tt, (tt, ((inr (room, inr refl, refl), refl), (tt, ((inl (2, refl), refl), ((inl (2, refl), refl), ((inl (2, refl), refl), ((refl, refl), (tt, ((inl (1, refl), refl), ((inl (1, refl), refl), ((refl, refl), (tt, ((inl (0, refl), refl), tt)))))))))))))))))); out = refl; none_waits = refl; ended = refl }
