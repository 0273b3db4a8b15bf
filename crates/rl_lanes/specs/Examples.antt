-- Some lanes, and what their moves come to.
use Rattle.std.specs.Prelude.{◌≡◌, ℕ, Bool, true, false, List, [], ◌∷◌, ◌++◌, map, reverse, Option, Some, None, option_map, codes}
use Rattle.rl_numbers.specs.declared.codes.TheConstants.{CHANNEL_LIMIT, NOT_RETAINED}
use Rattle.rl_ids.specs.declared.serials.ChannelSerial.{ChannelSerial}
use Rattle.rl_types.specs.declared.frames.Frame.{Frame}
use Rattle.rl_types.specs.declared.frames.Frame.TheVariants as frames
use Rattle.rl_types.specs.declared.messages.Body.{Body}
use Rattle.rl_types.specs.declared.messages.Body.TheVariants.{Messages}
use Rattle.rl_types.specs.declared.messages.Given.TheVariants.{Ours}
use Rattle.rl_types.specs.declared.states.ChanState.{ChanState}
use Rattle.rl_types.specs.declared.states.ChanState.TheVariants as chan
use Rattle.rl_events.specs.declared.channel.ChannelEvent.TheVariants.{Put, Tick}
use Rattle.rl_runs.specs.declared.findings.Cause.{Cause}
use Rattle.rl_runs.specs.declared.findings.Cause.TheVariants.{Opened, NotRetained, Recovered}
use Rattle.rl_runs.specs.declared.findings.Segment.{Segment}
use Rattle.rl_clientmodel.specs.Runs.{segment_of}
use Rattle.rl_clientmodel.specs.Commands.{channel_or_new}
use Rattle.rl_lanes.specs.Lanes.{Setup, ToAttach, Link, Lane, frame_of}
use Rattle.rl_lanes.specs.Moves.{Move, Happens, Attaches, StartsAt, Detaches, Recovers, Waits, Keeps, Suspends, Closes, Breaks, Unlinks, Opens, ComesUp, Gets, Joins, Refuses, Parts, Reads, TurnsPage, lane_of}

abbrev pub the_setup : Setup
the_setup = record { name = codes "room"; epoch = 1; site = codes "s1" }

-- after these moves, in order
abbrev pub after : List Move → Lane
after moves = lane_of the_setup (reverse moves)

abbrev pub serial : ℕ → ChannelSerial
serial place = record { epoch = 1; place = place }

-- another client puts a message, with this serial of its own
abbrev pub put : ℕ → Move
put n = Happens (Put 2 n (Messages (record { id = None; name = None; payload = Some (codes "x"); encoding = None; client = None } ∷ [])) 0)

-- a segment, with the places of its entries
pub record Seen : Type 0 where
  pub start : ℕ
  pub cause : Cause
  pub places : List ℕ

abbrev pub place_of : ℕ × Body → ℕ
place_of got = got.0

abbrev pub seen : Segment → Seen
seen segment = record { start = segment.start; cause = segment.cause; places = map place_of segment.got }

-- what a lane shows: the state of the channel, its record, the numbers of the Joins that began its runs and of all its Joins
pub record Shown : Type 0 where
  pub state : ChanState
  pub record_shown : List Seen
  pub begun : List ℕ
  pub joins : List ℕ

abbrev pub shown : Lane → Shown
shown lane =
    record {
      state = (channel_or_new lane.channel).state;
      record_shown = map seen (map segment_of (reverse (channel_or_new lane.channel).runs));
      begun = lane.begun;
      joins = lane.joins;
    }

-- what is coming, as frames
abbrev pub coming_on : Option Link → List Frame
coming_on None = []
coming_on (Some link) = map (frame_of the_setup) link.coming

abbrev pub is_entry : Frame → Bool
is_entry (frames.Message head items) = true
is_entry frame = false

abbrev pub gets : Move
gets = Gets true 0

-- attached, and told so
abbrev pub attached : List Move
attached = Opens ∷ Attaches true 0 ∷ Joins 0 1 ∷ gets ∷ []

-- no answer came for 10 s, and the client asks again, while the answer is on its way: the last answer is taken
abbrev pub asked_again : List Move
asked_again = Opens ∷ Attaches true 0 ∷ Joins 0 1 ∷ Waits 10000 ∷ put 0 ∷ Attaches true 10000 ∷ gets ∷ Joins 0 2 ∷ gets ∷ []

-- DETACH and ATTACH while an entry is on its way: it is passed over, and sent again to the resumed session
abbrev pub crossed : List Move
crossed = attached ++ put 0 ∷ Reads 16 ∷ Detaches true 0 ∷ Attaches true 0 ∷ Parts ∷ Joins 0 2 ∷ gets ∷ gets ∷ gets ∷ Reads 16 ∷ gets ∷ []

-- a link is cut while an entry is on its way, and on the next one the session goes on behind the last entry got
abbrev pub cut : List Move
cut = attached ++ put 0 ∷ Reads 16 ∷ gets ∷ put 1 ∷ Reads 16 ∷ Unlinks ∷ Opens ∷ ComesUp 0 ∷ Joins 0 1 ∷ gets ∷ Reads 16 ∷ []

-- what was missed is not retained any more
abbrev pub missed : List Move
missed = attached ++ put 0 ∷ Reads 16 ∷ gets ∷ Unlinks ∷ put 1 ∷ Happens (Tick 120001) ∷ Opens ∷ ComesUp 120001 ∷ Joins 0 1 ∷ []

-- a client goes on from a serial that it got elsewhere
abbrev pub started : List Move
started = put 0 ∷ put 1 ∷ Opens ∷ StartsAt (serial 1) true 0 ∷ Joins 0 1 ∷ gets ∷ Reads 16 ∷ gets ∷ []

-- a client gives a place of another epoch: nothing of it is retained, and the session begins where it was told
abbrev pub elsewhere : List Move
elsewhere = put 0 ∷ put 1 ∷ Opens ∷ StartsAt (record { epoch = 2; place = 0 }) true 0 ∷ Joins 0 1 ∷ gets ∷ Reads 16 ∷ gets ∷ []

-- pages of members and of objects come before the entry, and the end pages behind it
abbrev pub paged : List Move
paged = put 0 ∷ Recovers (serial 0) ∷ Opens ∷ ComesUp 0 ∷ Attaches true 0 ∷ Joins 0 7 ∷ gets ∷ TurnsPage ∷ TurnsPage ∷ TurnsPage ∷ Reads 16 ∷ []

abbrev pub member_page : List ℕ → Frame
member_page cursor = frames.Sync (codes "room") (Some (record { sequence = codes "7"; cursor = cursor })) []

-- the client's channel fails with a refusal, and it attaches again
abbrev pub refused : List Move
refused = Opens ∷ Attaches true 0 ∷ Refuses CHANNEL_LIMIT ∷ gets ∷ []

-- a session falls back past what is retained: nothing more is put out
abbrev pub behind : List Move
behind = attached ++ put 0 ∷ Happens (Tick 120001) ∷ Reads 16 ∷ []

abbrev pub session_place : Option Link → Option ℕ
session_place None = None
session_place (Some link) = option_map (λ s. s.position) link.session

pub record LanesAreWorked : Type 0 where
  -- the first answer is passed over, though nothing else is asked; the place told is that of the second one
  pub again : shown (after asked_again) ≡ record { state = chan.Attached; record_shown = record { start = 1; cause = Opened; places = [] } ∷ []; begun = 2 ∷ []; joins = 2 ∷ 0 ∷ [] }
  pub passed_over : shown (after (Opens ∷ Attaches true 0 ∷ Joins 0 1 ∷ Waits 10000 ∷ Attaches true 10000 ∷ gets ∷ [])) ≡ record { state = chan.Attaching; record_shown = []; begun = []; joins = 0 ∷ [] }
  -- not a moment earlier than 10 s
  pub in_time : shown (after (Opens ∷ Attaches true 0 ∷ Joins 0 1 ∷ Waits 9999 ∷ gets ∷ [])) ≡ record { state = chan.Attached; record_shown = record { start = 0; cause = Opened; places = [] } ∷ []; begun = 0 ∷ []; joins = 0 ∷ [] }
  -- one segment with the entry, once
  pub crosses : shown (after crossed) ≡ record { state = chan.Attached; record_shown = record { start = 0; cause = Opened; places = 1 ∷ [] } ∷ []; begun = 0 ∷ []; joins = 3 ∷ 0 ∷ [] }
  pub asks_held : option_map (λ (link : Link). link.asks) (after (attached ++ put 0 ∷ Reads 16 ∷ Detaches true 0 ∷ Attaches true 0 ∷ Parts ∷ [])).link ≡ Some (ToAttach (Some (Ours (serial 0))) ∷ [])
  -- the entry that was lost comes again, and the record has one segment
  pub goes_on : shown (after (cut ++ gets ∷ [])) ≡ record { state = chan.Attached; record_shown = record { start = 0; cause = Opened; places = 1 ∷ 2 ∷ [] } ∷ []; begun = 0 ∷ []; joins = 5 ∷ 0 ∷ [] }
  pub lost : coming_on (after (attached ++ put 0 ∷ Reads 16 ∷ Unlinks ∷ Opens ∷ [])).link ≡ []
  -- a second segment says what was asked; the place told is the head
  pub misses : shown (after (missed ++ gets ∷ [])) ≡ record { state = chan.Attached; record_shown = record { start = 0; cause = Opened; places = 1 ∷ [] } ∷ record { start = 2; cause = NotRetained (Ours (serial 1)); places = [] } ∷ []; begun = 5 ∷ 0 ∷ []; joins = 5 ∷ 0 ∷ [] }
  pub tells_missed : coming_on (after missed).link ≡ frames.Attached (codes "room") (serial 2) 0 (Some NOT_RETAINED) ∷ []
  -- the first segment is Recovered
  pub starts : shown (after started) ≡ record { state = chan.Attached; record_shown = record { start = 1; cause = Recovered (Ours (serial 1)); places = 2 ∷ [] } ∷ []; begun = 2 ∷ []; joins = 2 ∷ [] }
  -- it begins at the head, and no entry before it comes
  pub begins_there : shown (after elsewhere)
      ≡ record { state = chan.Attached; record_shown = record { start = 2; cause = NotRetained (Ours (record { epoch = 2; place = 0 })); places = [] } ∷ []; begun = 2 ∷ []; joins = 2 ∷ [] }
  -- HAS_PRESENCE, RESUMED and HAS_OBJECTS
  pub tells_flags : coming_on (after (put 0 ∷ Opens ∷ StartsAt (serial 0) true 0 ∷ Joins 0 7 ∷ [])).link ≡ frames.Attached (codes "room") (serial 0) 133 None ∷ []
  -- the last page event is none
  pub pages : map is_entry (coming_on (after paged).link) ≡ false ∷ false ∷ true ∷ false ∷ false ∷ []
  pub member_pages : coming_on (after (put 0 ∷ Opens ∷ StartsAt (serial 0) true 0 ∷ Joins 0 7 ∷ gets ∷ TurnsPage ∷ [])).link ≡ member_page (codes "1") ∷ []
  -- a refusal leads to FAILED, and the next attachment opens the record's first segment
  pub refuses : shown (after refused) ≡ record { state = chan.Failed; record_shown = []; begun = []; joins = [] }
  pub attaches_then : shown (after (refused ++ Attaches true 0 ∷ Joins 0 1 ∷ gets ∷ [])) ≡ record { state = chan.Attached; record_shown = record { start = 0; cause = Opened; places = [] } ∷ []; begun = 0 ∷ []; joins = 0 ∷ [] }
  -- after DETACHED a new segment is opened
  pub opens_again : shown (after (attached ++ Detaches true 0 ∷ Parts ∷ gets ∷ put 0 ∷ Attaches true 0 ∷ Joins 0 2 ∷ gets ∷ []))
      ≡ record { state = chan.Attached; record_shown = record { start = 0; cause = Opened; places = [] } ∷ record { start = 1; cause = Opened; places = [] } ∷ []; begun = 2 ∷ 0 ∷ []; joins = 2 ∷ 0 ∷ [] }
  pub falls_back : coming_on (after behind).link ≡ []
  pub stays_behind : session_place (after behind).link ≡ Some 0
  -- a channel that is not known gets nothing, and asks nothing when it is cut or the connection ends
  pub unknown : (after (Opens ∷ ComesUp 0 ∷ gets ∷ Suspends 0 ∷ Closes 0 ∷ Breaks 0 ∷ Keeps [] ∷ Detaches true 0 ∷ [])).channel ≡ None
