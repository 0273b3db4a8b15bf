-- Small worlds that are known, beside what a report shows of them.
use Rattle.std.specs.Prelude.{ℕ, ◌≡◌, ◌+◌, ◌/◌, ◌%◌, Bool, true, false, List, [], ◌∷◌, ◌++◌, length, map, filter, flat_map, Option, Some, None, Result, Ok, Err, codes}
use Rattle.rl_ids.specs.declared.serials.ChannelSerial.{ChannelSerial}
use Rattle.rl_ids.specs.declared.serials.OpSerial.{OpSerial}
use Rattle.rl_types.specs.declared.messages.Given.TheVariants.{Ours}
use Rattle.rl_types.specs.declared.states.ChanState.{ChanState}
use Rattle.rl_types.specs.declared.states.ChanState.TheVariants as chan
use Rattle.rl_runs.specs.declared.commands.Command.TheVariants.{Connect, Attach, Publish}
use Rattle.rl_runs.specs.declared.findings.Answer.{Answer}
use Rattle.rl_runs.specs.declared.findings.Answer.TheVariants.{Ack, Nack}
use Rattle.rl_runs.specs.declared.script.Line.{Line}
use Rattle.rl_runs.specs.declared.script.Line.TheVariants.{Client, Open, Act, Feed, FeedId, Settle}
use Rattle.rl_events.specs.declared.book.BookEvent.TheVariants as book
use Rattle.rl_events.specs.declared.channel.ChannelEvent.{ChannelEvent}
use Rattle.rl_events.specs.declared.channel.ChannelEvent.TheVariants.{Join, Read, MemberPage, ObjectPage}
use Rattle.rl_events.specs.declared.calls.Call.{Call}
use Rattle.rl_events.specs.declared.calls.Call.TheVariants.{Book, Dir, Chan}
use Rattle.rl_events.specs.declared.calls.DirEvent.TheVariants.{Ask}
use Rattle.rl_events.specs.declared.calls.End.{End}
use Rattle.rl_events.specs.declared.calls.End.TheVariants.{Idle, Lagged, LinkEnded, Superseded}
use Rattle.rl_names.specs.Names.{at}
use Rattle.rl_model.specs.Report.{report}
use Rattle.rl_clientmodel.specs.Channels.{ClientChannel}
use Rattle.rl_clientmodel.specs.States.{ClientState}
use Rattle.rl_worldmodel.specs.World.{World, Way, CallMade, empty_world, client_at, history}
use Rattle.rl_worldmodel.specs.Lines.{final, after_lines}
use Rattle.rl_worldmodel.specs.Findings.{findings}
use Rattle.rl_worldmodel.specs.Services.{numbers_from, one_item}
use Rattle.rl_worldmodel.specs.Script.{script_of, LineRefusal}
use Rattle.rl_worldmodel.specs.RecordExamples.{falls_behind}
use Rattle.rl_worldmodel.specs.ConnectionExamples.{superseded}
use Rattle.rl_worldmodel.specs.AnswerExamples.{second_attach}

-- WHAT IS LOOKED AT

abbrev pub lines_in : Result (List Line) LineRefusal → List Line
lines_in (Ok script) = script
lines_in (Err refused) = []

-- the world that the lines of a script leave
abbrev pub world_of : List ℕ → World
world_of bytes = final (lines_in (script_of false bytes))

abbrev pub way_size : Way → ℕ × ℕ
way_size way = (length way.put, way.got)

-- how many frames were put and got, to the service and to the client
abbrev pub ways : List ℕ → List ((ℕ × ℕ) × (ℕ × ℕ))
ways bytes = map (λ t. (way_size t.to_service, way_size t.to_client)) (world_of bytes).transports

-- the calls that each actor made, the latest first
abbrev pub calls : List ℕ → List (List CallMade)
calls bytes = map (λ t. t.made) (world_of bytes).transports

abbrev pub ends : List ℕ → List (Option End)
ends bytes = map (λ t. t.actor.ended) (world_of bytes).transports

abbrev pub queued : List ℕ → List (ℕ × ℕ)
queued bytes = (world_of bytes).queue

-- how many events the first channel took
abbrev pub events : List ℕ → ℕ
events bytes = length (history 0 (world_of bytes))

-- A CUT

-- the client's ATTACH is taken up and its message is not; what follows is the actor's Join
abbrev pub before_join : List ℕ
before_join = codes "client A\nopen A\nattach A room\npub A room hi\nstep A\nget A\nstep A\nstep A\n"

abbrev pub room : List ℕ
room = codes "room"

-- a client attached, and came back on a second transport
abbrev pub back_again : List ℕ
back_again = codes "client A\nopen A\nattach A room\nsettle\ncut A\nopen A\nsettle\n"

pub record CutsTakeAway : Type 0 where
  pub under_way : ways (before_join ++ codes "step A\n") ≡ ((2, 1), (2, 1)) ∷ []
  pub taken_away : ways (before_join ++ codes "step A\ncut A\n") ≡ ((1, 1), (1, 1)) ∷ []
  -- a call that is wanted is performed all the same, and what the actor puts out is lost
  pub lost : ways (before_join ++ codes "cut A\nstep A\n") ≡ ((1, 1), (1, 1)) ∷ []
  pub performed : calls (before_join ++ codes "cut A\nstep A\n") ≡
      (record { call = Chan 0 (Join None); before = 0 }
      ∷ record { call = Dir (Ask room); before = 0 }
      ∷ record { call = Book (book.Open 0 0); before = 0 }
      ∷ []) ∷ []
  -- nothing is read or asked for where the transport is cut, whether or not the actor noticed it
  pub joined_and_read_twice : events (codes "client A\nopen A\nattach A room\nsettle\n") ≡ 3
  pub read : events (codes "client A\nopen A\nattach A room\nsettle\npoll A room\n") ≡ 4
  pub not_read : events (codes "client A\nopen A\nattach A room\nsettle\ncut A\npoll A room\n") ≡ 3
  pub not_paged : events (codes "feed room 1 x\nclient A\nopen A\nattachat A room 1 0\nstep A\nget A\nstep A\nstep A\nstep A\ncut A\npage A room\n") ≡ 2
  pub paged : events (codes "feed room 1 x\nclient A\nopen A\nattachat A room 1 0\nstep A\nget A\nstep A\nstep A\nstep A\npage A room\ncut A\n") ≡ 3
  -- nor while a call is wanted
  pub not_read_between : events (codes "client A\nopen A\nattach A room\nsettle\npub A room hi\nstep A\npoll A room\n") ≡ 3
  pub not_paged_between : events (codes "feed room 1 x\nclient A\nopen A\nattachat A room 1 0\nstep A\nget A\nstep A\nstep A\nstep A\npub A room hi\nstep A\npage A room\n") ≡ 2
  -- a transport may be named by its index: the first one is cut, and the second one reads
  pub came_back : events back_again ≡ 6
  pub first_reads : events (back_again ++ codes "poll A/1 room\n") ≡ 6
  pub second_reads : events (back_again ++ codes "poll A/2 room\n") ≡ 7
  -- a cut is noticed before ten minutes without a frame are
  pub cut_before_rest : ends (codes "client A\nopen A\nsettle\ncut A\ntick 600000\nstep A\n") ≡ Some LinkEnded ∷ []
  -- an actor that is ended takes up nothing
  pub ended_takes_none : ways (codes "client A\nopen A\nsettle\ntick 600000\nstep A\nstep A\npub A room hi\nstep A\n") ≡ ((1, 0), (2, 1)) ∷ []

-- WHOSE CALLS THEY ARE

abbrev pub is_join_call : Call → Bool
is_join_call (Chan number (Join asked)) = true
is_join_call call = false

-- the Joins that each actor made, the latest first
abbrev pub joins : List ℕ → List (List CallMade)
joins bytes = map (λ made. filter (λ m. is_join_call m.call) made) (calls bytes)

pub record CallsAreKept : Type 0 where
  -- the first actor ends where the second one took over
  pub ends_superseded : ends superseded ≡ Some (Superseded 1 2) ∷ None ∷ []
  -- two ATTACHs of one client are two Joins; between them the channel was read once
  pub two_joins : joins second_attach ≡ (record { call = Chan 0 (Join None); before = 2 } ∷ record { call = Chan 0 (Join None); before = 0 } ∷ []) ∷ []
  -- a session that fell behind ends at its position, of the first entry that is left
  pub ends_lagged : ends falls_behind ≡ Some (Lagged 0 3) ∷ None ∷ []
  pub ends_idle : ends (codes "client A\nopen A\nsettle\ntick 600000\nstep A\n") ≡ Some (Idle 0 600000) ∷ []
  pub not_idle_yet : ends (codes "client A\nopen A\nsettle\ntick 599999\nstep A\n") ≡ None ∷ []

-- the calls that each actor made on channels, the latest first
abbrev pub is_on_channel : Call → Bool
is_on_channel (Chan number event) = true
is_on_channel call = false

abbrev pub channel_calls : List ℕ → List (List CallMade)
channel_calls bytes = map (λ made. filter (λ m. is_on_channel m.call) made) (calls bytes)

-- a client attaches at place 0 of a log of one entry
abbrev pub synced : List ℕ
synced = codes "feed room 1 x\nclient A\nopen A\nattachat A room 1 0\nsettle\n"

abbrev pub from_start : ChannelSerial
from_start = record { epoch = 1; place = 0 }

pub record RoundsGoOn : Type 0 where
  -- in each round a page is asked for, and then the channel is read; in the last one nothing is carried on
  pub pages_then_reads : channel_calls synced ≡
      (record { call = Chan 0 (Read 1 16); before = 6 }
      ∷ record { call = Chan 0 (Read 1 16); before = 5 }
      ∷ record { call = Chan 0 (ObjectPage None 4); before = 4 }
      ∷ record { call = Chan 0 (Read 0 16); before = 3 }
      ∷ record { call = Chan 0 (MemberPage None 64); before = 2 }
      ∷ record { call = Chan 0 (Join (Some (Ours from_start))); before = 1 }
      ∷ []) ∷ []
  -- CONNECTED, ATTACHED, a page of members, the entry, a page of objects, two end pages
  pub all_got : ways synced ≡ ((1, 1), (7, 7)) ∷ []
  -- what was put out just now is followed by no HEARTBEAT
  pub no_heartbeat : ways (codes "client A\nopen A\nsettle\ntick 10000\nattach A room\nsettle\n") ≡ ((1, 1), (2, 2)) ∷ []
  pub one_heartbeat : ways (codes "client A\nopen A\nsettle\ntick 10000\nsettle\n") ≡ ((0, 0), (2, 2)) ∷ []
  pub no_heartbeat_yet : ways (codes "client A\nopen A\nsettle\ntick 9999\nsettle\n") ≡ ((0, 0), (1, 1)) ∷ []

-- CONNECTIONS THAT ARE GIVEN UP

-- three clients on two channels: two close, and the third is lost
abbrev pub two_and_one_gone : List ℕ
two_and_one_gone =
    codes "client A\nclient B\nclient C\nopen A\nopen B\nopen C\nattach A r\nattach A s\nsettle\n"
    ++ codes "close A\nclose B\nsettle\ncut C\nsettle\nexpire\n"

-- what is shown of the channels alone
abbrev pub channels_of : List ℕ → List ℕ
channels_of bytes = report (record (findings (world_of bytes)) { clients = [] })

-- four members are gone while a fifth client publishes
abbrev pub four_gone : List ℕ
four_gone =
    codes "client A\nclient B\nclient C\nclient D\nclient E\nopen A\nopen B\nopen C\nopen D\nopen E\n"
    ++ codes "attach A room\nattach B room\nattach C room\nattach D room\nattach E room\nsettle\n"
    ++ codes "enter A room a x\nenter B room a x\nenter C room a x\nenter D room a x\nsettle\nclose A\nclose B\n"
    ++ codes "close C\nclose D\nsettle\nexpire\npub E room hi\nsettle\n"

abbrev pub four_gone_report : List ℕ
four_gone_report =
    codes "report\n"
    ++ codes "channel room first 1 head 9\n"
    ++ codes "entry 1 0 c00000001 0 presence | enter \"a\" \"x\"\n"
    ++ codes "entry 2 0 c00000002 0 presence | enter \"a\" \"x\"\n"
    ++ codes "entry 3 0 c00000003 0 presence | enter \"a\" \"x\"\n"
    ++ codes "entry 4 0 c00000004 0 presence | enter \"a\" \"x\"\n"
    ++ codes "entry 5 0 c00000001 - presence | leave \"a\" -\n"
    ++ codes "entry 6 0 c00000002 - presence | leave \"a\" -\n"
    ++ codes "entry 7 0 c00000005 0 message | \"c00000005:0:0\" - \"hi\"\n"
    ++ codes "entry 8 0 c00000003 - presence | leave \"a\" -\n"
    ++ codes "entry 9 0 c00000004 - presence | leave \"a\" -\n"
    ++ codes "end\n"

pub record PairsAreQueued : Type 0 where
  pub pairs : queued two_and_one_gone ≡ (1, 0) ∷ (1, 1) ∷ (2, 0) ∷ (2, 1) ∷ []
  pub reaped : queued (two_and_one_gone ++ codes "reap\n") ≡ (1, 1) ∷ (2, 0) ∷ (2, 1) ∷ []
  pub once : queued (two_and_one_gone ++ codes "expire\n") ≡ (1, 0) ∷ (1, 1) ∷ (2, 0) ∷ (2, 1) ∷ []
  pub later : queued (two_and_one_gone ++ codes "reap\ntick 120000\nexpire\n") ≡ (1, 1) ∷ (2, 0) ∷ (2, 1) ∷ (3, 0) ∷ (3, 1) ∷ []
  pub settled : queued (two_and_one_gone ++ codes "settle\n") ≡ []
  -- one is told in each round, behind the transports: the message is put in the third round
  pub one_a_round : channels_of four_gone ≡ four_gone_report

-- A DIRECTORY THAT IS FULL

-- a name for each number below 256: `aa`, `ab` and so on
abbrev pub name_at : ℕ → List ℕ
name_at n = (97 + n / 16) ∷ (97 + n % 16) ∷ []

abbrev pub channel_at : ℕ → List ℕ × List ChannelEvent
channel_at n = (name_at n, [])

-- a world of so many channels
abbrev pub channels_world : ℕ → World
channels_world count = record empty_world { channels = map channel_at (numbers_from 0 count) }

abbrev pub full_world : World
full_world = channels_world 256

-- one of their names
abbrev pub known : List ℕ
known = codes "cd"

abbrev pub a : List ℕ
a = codes "A"

-- a client attaches to a channel, and publishes there
abbrev pub publishes : List ℕ → World → World
publishes channel world =
    after_lines (Client a ∷ Open a ∷ Act a (Attach channel) ∷ Act a (Publish channel (one_item None (codes "x"))) ∷ Settle ∷ []) world

abbrev pub state_in : Option ClientChannel → Option ChanState
state_in None = None
state_in (Some channel) = Some channel.state

abbrev pub state_on : List ℕ → Option ClientState → Option ChanState
state_on channel None = None
state_on channel (Some state) = state_in (at channel state.channels)

abbrev pub answers_of : Option ClientState → List Answer
answers_of None = []
answers_of (Some state) = state.answers

pub record DirectoryIsFull : Type 0 where
  -- nothing is fed on one name more, and no serial is used
  pub not_fed : after_lines (Feed room 2 (codes "x") ∷ []) full_world ≡ full_world
  pub not_fed_by_id : after_lines (FeedId room (codes "k") (codes "x") ∷ []) full_world ≡ full_world
  -- on a name that it has something is
  pub fed : (after_lines (Feed known 2 (codes "x") ∷ []) full_world).fed ≡ 2
  pub fed_by_id : (after_lines (FeedId known (codes "k") (codes "x") ∷ []) full_world).fed ≡ 1
  -- with 255 names there is room for one more
  pub fits : (after_lines (Feed room 2 (codes "x") ∷ []) (channels_world 255)).fed ≡ 2
  pub no_second : (after_lines (Feed room 2 (codes "x") ∷ Feed (codes "hall") 3 (codes "x") ∷ []) (channels_world 255)).fed ≡ 2
  pub failed : state_on room (client_at a (publishes room full_world)) ≡ Some chan.Failed
  pub refused : answers_of (client_at a (publishes room full_world)) ≡ Nack (codes "c00000001") 0 103 ∷ []
  pub attached : state_on known (client_at a (publishes known full_world)) ≡ Some chan.Attached
  pub acknowledged : answers_of (client_at a (publishes known full_world)) ≡ Ack (codes "c00000001") 0 ∷ []

-- LINES THAT THE GRAMMAR DOES NOT HAVE, OR THAT NAME NOTHING

pub record LinesDoNothing : Type 0 where
  pub connects : final (Client a ∷ Act a Connect ∷ []) ≡ final (Client a ∷ Open a ∷ [])
  pub declared_once : final (Client a ∷ Open a ∷ Client a ∷ []) ≡ final (Client a ∷ Open a ∷ [])
  pub undeclared : final (Open a ∷ []) ≡ final []
  pub no_transport : world_of (codes "client A\nopen A\nstep A/2\n") ≡ world_of (codes "client A\nopen A\n")
  pub no_session : world_of (codes "client A\nopen A\nsettle\npoll A room\npage A room\n") ≡ world_of (codes "client A\nopen A\nsettle\n")
  pub no_channel : world_of (codes "age room\n") ≡ world_of []
  pub not_known : world_of (codes "client A\nclient B\nopen A\nattachat A room 1 0\nrecover A B\n") ≡ world_of (codes "client A\nclient B\nopen A\nattachat A room 1 0\n")
  pub no_key : world_of (codes "client A\nclient B\nopen B\nrecover A B\n") ≡ world_of (codes "client A\nclient B\nopen B\n")
  pub opened_once : world_of (codes "client A\nopen A\nopen A\n") ≡ world_of (codes "client A\nopen A\n")
  pub may_not_recover : world_of (codes "client A\nclient B\nopen A\nopen B\nsettle\nrecover A B\n") ≡ world_of (codes "client A\nclient B\nopen A\nopen B\nsettle\n")
  pub closing_gives_none : world_of (codes "client A\nclient B\nopen A\nsettle\nclose A\nrecover B A\n") ≡ world_of (codes "client A\nclient B\nopen A\nsettle\nclose A\n")

-- WHERE SERIALS COME FROM

abbrev pub sites_in : Option ClientChannel → List (List ℕ × OpSerial)
sites_in None = []
sites_in (Some channel) = flat_map (λ held. held.sites) channel.objects.pool

-- the sites that a client's objects were changed at, with the serials
abbrev pub sites_on : List ℕ → Option ClientState → List (List ℕ × OpSerial)
sites_on channel None = []
sites_on channel (Some state) = sites_in (at channel state.channels)

-- a counter is made at place 1 of the log
pub record SerialsShow : Type 0 where
  pub at_the_site : sites_on room (client_at a (world_of (codes "client A\nopen A\nattach A room\nsettle\ncounter A room counter:a@0 5\nsettle\n")))
      ≡ (codes "s1", record { place = 1; index = 0; site = codes "s1" }) ∷ []
