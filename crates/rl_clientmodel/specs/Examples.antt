-- Small clients whose states, frames and records are known, with which the definitions are tried.
use Rattle.std.specs.Prelude.{◌≡◌, ℕ, ◌-◌, ◌^◌, Bool, true, false, List, [], ◌∷◌, ◌++◌, length, map, reverse, Option, Some, None, option_map, codes, pos}
use Rattle.rl_numbers.specs.declared.limits.TheConstants.{MAX_MESSAGE_SERIAL}
use Rattle.rl_ids.specs.declared.serials.ChannelSerial.{ChannelSerial}
use Rattle.rl_ids.specs.declared.serials.OpSerial.{OpSerial}
use Rattle.rl_ids.specs.declared.objects.ObjectId.{ObjectId}
use Rattle.rl_ids.specs.declared.objects.ObjectId.TheVariants.{Root, Made}
use Rattle.rl_ids.specs.declared.objects.ObjectKind.TheVariants as kinds
use Rattle.rl_types.specs.declared.frames.Cursor.{Cursor}
use Rattle.rl_types.specs.declared.frames.Frame.{Frame}
use Rattle.rl_types.specs.declared.frames.Frame.TheVariants as frames
use Rattle.rl_types.specs.declared.frames.Head.{Head}
use Rattle.rl_types.specs.declared.messages.Body.{Body}
use Rattle.rl_types.specs.declared.messages.Body.TheVariants.{Messages, Presence}
use Rattle.rl_types.specs.declared.messages.Given.TheVariants.{Ours}
use Rattle.rl_types.specs.declared.messages.Item.{Item}
use Rattle.rl_types.specs.declared.objects.Op.TheVariants.{CounterInc}
use Rattle.rl_types.specs.declared.objects.ObjectOp.{ObjectOp}
use Rattle.rl_types.specs.declared.objects.ObjectBody.{ObjectBody}
use Rattle.rl_types.specs.declared.objects.ObjectBody.TheVariants as bodies
use Rattle.rl_types.specs.declared.objects.ObjectState.{ObjectState}
use Rattle.rl_types.specs.declared.presence.PresenceAction.{PresenceAction}
use Rattle.rl_types.specs.declared.presence.PresenceAction.TheVariants as presence
use Rattle.rl_types.specs.declared.presence.PresenceItem.{PresenceItem}
use Rattle.rl_types.specs.declared.states.ConnState.{ConnState}
use Rattle.rl_types.specs.declared.states.ConnState.TheVariants as conn
use Rattle.rl_types.specs.declared.states.ChanState.{ChanState}
use Rattle.rl_types.specs.declared.states.ChanState.TheVariants as chan
use Rattle.rl_runs.specs.declared.commands.Command.TheVariants.{Connect, Close, Die, Attach, AttachAt, Detach, Publish, Enter, Update, Leave, Operate}
use Rattle.rl_runs.specs.declared.commands.Output.{Output}
use Rattle.rl_runs.specs.declared.commands.RecoveryKey.{RecoveryKey}
use Rattle.rl_runs.specs.declared.commands.Stands.TheVariants as stands
use Rattle.rl_runs.specs.declared.findings.Answer.TheVariants.{Ack, Nack}
use Rattle.rl_runs.specs.declared.findings.Cause.{Cause}
use Rattle.rl_runs.specs.declared.findings.Cause.TheVariants.{Opened, NotRetained, Recovered, Moved, Jump}
use Rattle.rl_presmap.specs.Steps.{members}
use Rattle.rl_objmodel.specs.Steps.{live_states}
use Rattle.rl_clientmodel.specs.declared.runs.Beginning.{Beginning}
use Rattle.rl_clientmodel.specs.declared.runs.Beginning.TheVariants.{Answered}
use Rattle.rl_names.specs.Names.{at}
use Rattle.rl_clientmodel.specs.Runs.{cause_of, start_of}
use Rattle.rl_clientmodel.specs.declared.steps.ChannelStep.TheVariants.{ErrorGot}
use Rattle.rl_clientmodel.specs.Answers.{attached_got}
use Rattle.rl_clientmodel.specs.Channels.{ClientChannel, channel_after, new_channel}
use Rattle.rl_clientmodel.specs.States.{ClientState, new_state}
use Rattle.rl_clientmodel.specs.Commands.{Refusal, WrongState, Full, hello_of, refusal}
use Rattle.rl_clientmodel.specs.Keys.{recovery_key}
use Rattle.rl_clientmodel.specs.Inputs.{Input, Told, Heard, Unlinked, Ticked, Recovers, after, sent, step}
use Rattle.rl_clientmodel.specs.Shown.{findings_of, members_whole, objects_whole}

-- INPUTS, IN ORDER

abbrev pub state_of : List Input → ClientState
state_of inputs = after (codes "A") (reverse inputs)

abbrev pub sent_in : List Input → List Frame
sent_in inputs = sent (reverse inputs) (new_state (codes "A"))

-- whether the last of them drops the link
abbrev pub drops : Input → List Input → Bool
drops input before = (step input (state_of before)).output.drop_link

abbrev pub room : List ℕ
room = codes "room"

abbrev pub channel_in : List Input → Option ClientChannel
channel_in inputs = at room (state_of inputs).channels

-- the channel's state, and the place that is held
abbrev pub stands_in : List Input → Option (ChanState × Option ℕ)
stands_in inputs = option_map (λ channel. (channel.state, option_map (λ serial. serial.place) channel.held)) (channel_in inputs)

-- the starts and causes of the record, the latest first, with the places got
abbrev pub record_in : List Input → Option (List (ℕ × (Cause × List ℕ)))
record_in inputs =
    option_map (λ channel. map (λ run. (start_of run.beginning, (cause_of run.beginning, map (λ entry. entry.0) run.got))) channel.runs) (channel_in inputs)

-- what began the runs, the latest first
abbrev pub beginnings_in : List Input → Option (List Beginning)
beginnings_in inputs = option_map (λ channel. map (λ run. run.beginning) channel.runs) (channel_in inputs)

-- the members that are held, and whether they are whole
abbrev pub members_in : List Input → Option (Bool × List (List ℕ))
members_in inputs = option_map (λ channel. (members_whole channel, map (λ item. item.client) (members channel.members))) (channel_in inputs)

-- the bodies of the objects that are held, and whether they are whole
abbrev pub objects_in : List Input → Option (Bool × List ObjectBody)
objects_in inputs =
    option_map (λ channel. (objects_whole channel, map (λ state. state.body) (live_states channel.objects.pool))) (channel_in inputs)

abbrev pub place : ℕ → ChannelSerial
place n = record { epoch = 1; place = n }

abbrev pub first_id : List ℕ
first_id = codes "c00000001"

abbrev pub first_key : List ℕ
first_key = codes "c00000001!00000000000000aa"

abbrev pub connect : Input
connect = Told Connect 0

abbrev pub attach : Input
attach = Told (Attach room) 0

abbrev pub detach : Input
detach = Told (Detach room) 0

abbrev pub item : List ℕ → Item
item text = record { id = None; name = None; payload = Some text; encoding = None; client = None }

abbrev pub publish : List ℕ → Input
publish text = Told (Publish room (item text ∷ [])) 0

abbrev pub gets : Frame → Input
gets frame = Heard (Some frame) 0

abbrev pub connected_as : List ℕ → Input
connected_as id = gets (frames.Connected id first_key 120000 15000 65536 None)

-- an ATTACHED that tells a place, with flags: 4 is RESUMED, 1 HAS_PRESENCE, 128 HAS_OBJECTS
abbrev pub attached : ℕ → ℕ → Input
attached n flags = gets (frames.Attached room (place n) flags None)

abbrev pub detached : Input
detached = gets (frames.Detached room None)

abbrev pub failed : Input
failed = gets (frames.Error (Some room) 103)

abbrev pub head_at : Option ChannelSerial → Head
head_at serial = record { channel = room; msg = None; serial = serial; conn = Some first_id; id = None; stamp = Some 0 }

abbrev pub entry_by : Option ChannelSerial → Input
entry_by serial = gets (frames.Message (head_at serial) (item (codes "x") ∷ []))

abbrev pub entry : ℕ → Input
entry n = entry_by (Some (place n))

-- what a client sends: a MESSAGE with its serial
abbrev pub sent_head : ℕ → Head
sent_head msg = record { channel = room; msg = Some msg; serial = None; conn = None; id = None; stamp = None }

abbrev pub message : ℕ → List ℕ → Frame
message msg text = frames.Message (sent_head msg) (item text ∷ [])

abbrev pub asks_from : ℕ → Frame
asks_from n = frames.Attach room (Some (Ours (place n)))

abbrev pub asks_new : Frame
asks_new = frames.Attach room None

-- a client that is CONNECTED, and one whose channel is ATTACHED at place 0, with nothing there
abbrev pub up : List Input
up = connect ∷ connected_as first_id ∷ []

abbrev pub attached_up : List Input
attached_up = up ++ attach ∷ attached 0 0 ∷ []

-- it is linked again
abbrev pub again : List Input
again = Unlinked 0 ∷ connect ∷ connected_as first_id ∷ []

-- it is detached, and attached again at place 3
abbrev pub left_and_back : List Input
left_and_back = detach ∷ detached ∷ attach ∷ attached 3 0 ∷ []

abbrev pub other : List ℕ
other = codes "other"

abbrev pub attach_other : Input
attach_other = Told (Attach other) 0

abbrev pub die : Input
die = Told Die 0

abbrev pub close_asked : Input
close_asked = Told Close 0

abbrev pub fatal_error : Input
fatal_error = gets (frames.Error None 120)

abbrev pub disconnected : Input
disconnected = gets (frames.Disconnected None)

-- CONNECTED, with another id, with another key, and at another moment
abbrev pub as_other : Input
as_other = connected_as (codes "c2")

abbrev pub other_key : Input
other_key = gets (frames.Connected first_id (codes "k2") 120000 15000 65536 None)

abbrev pub connected_at : ℕ → Input
connected_at now = Heard (Some (frames.Connected first_id first_key 120000 15000 65536 None)) now

abbrev pub conn_in : List Input → ConnState
conn_in inputs = (state_of inputs).conn

-- CONNECTING

pub record ConnectionsStand : Type 0 where
  pub first_hello : hello_of (state_of (connect ∷ [])) 7 ≡ record { client = Some (codes "A"); resume = None; word = 7 }
  pub next_hello : hello_of (state_of (up ++ Unlinked 0 ∷ connect ∷ [])) 7 ≡ record { client = Some (codes "A"); resume = Some first_key; word = 7 }
  pub forgotten_hello : hello_of (state_of (up ++ Told Die 0 ∷ connect ∷ [])) 7 ≡ record { client = Some (codes "A"); resume = None; word = 7 }
  pub stands : (state_of up).conn ≡ conn.Connected
  pub once : (state_of (up ++ connected_as (codes "c2") ∷ [])).id ≡ Some first_id
  pub lost : (state_of (up ++ Unlinked 0 ∷ [])).conn ≡ conn.Disconnected
  pub refused : (state_of (connect ∷ gets (frames.Disconnected (Some 125)) ∷ [])).conn ≡ conn.Disconnected
  pub refused_drops : drops (gets (frames.Disconnected (Some 125))) (connect ∷ []) ≡ true
  pub fatal : (state_of (up ++ gets (frames.Error None 120) ∷ [])).conn ≡ conn.Failed
  pub fatal_drops : drops (gets (frames.Error None 120)) up ≡ true
  pub closes : sent_in (up ++ Told Close 0 ∷ []) ≡ frames.Close ∷ []
  pub closing : (state_of (up ++ Told Close 0 ∷ [])).conn ≡ conn.Closing
  pub closed : (state_of (up ++ Told Close 0 ∷ gets frames.Closed ∷ [])).conn ≡ conn.Closed
  pub closed_stays : drops (gets frames.Closed) (up ++ Told Close 0 ∷ []) ≡ false
  pub closed_at_once : (state_of (connect ∷ Told Close 0 ∷ [])).conn ≡ conn.Closed
  pub dies : drops (Told Die 0) up ≡ true
  pub unasked_closed : (state_of (up ++ gets frames.Closed ∷ [])).conn ≡ conn.Connected
  pub key_told_last : hello_of (state_of (up ++ Unlinked 0 ∷ connect ∷ other_key ∷ Unlinked 0 ∷ connect ∷ [])) 7 ≡ record { client = Some (codes "A"); resume = Some (codes "k2"); word = 7 }
  pub id_forgotten : (state_of (up ++ die ∷ [])).id ≡ None
  pub closes_once : sent_in (up ++ close_asked ∷ close_asked ∷ []) ≡ frames.Close ∷ []
  pub closes_quietly : sent_in (up ++ Unlinked 0 ∷ close_asked ∷ []) ≡ []
  pub close_drops : drops close_asked (connect ∷ []) ≡ true
  pub close_waits : drops close_asked up ≡ false
  pub closing_unlinked : conn_in (up ++ close_asked ∷ Unlinked 0 ∷ []) ≡ conn.Closed
  pub closing_disconnected : conn_in (up ++ close_asked ∷ disconnected ∷ []) ≡ conn.Closing
  pub closing_fatal : conn_in (up ++ close_asked ∷ fatal_error ∷ []) ≡ conn.Closing

-- ATTACHING, AND ANSWERS THAT ARE OWED

-- a channel that is owed more answers than can be counted
abbrev pub endlessly_owed : ClientChannel
endlessly_owed = record new_channel { state = chan.Attaching; owed = 2 ^ 64 - 1 }

pub record AnswersAreOwed : Type 0 where
  pub waits : sent_in (attach ∷ connect ∷ []) ≡ []
  pub asks : sent_in (attach ∷ up) ≡ asks_new ∷ []
  pub asks_at_once : sent_in (up ++ attach ∷ []) ≡ asks_new ∷ []
  pub once : sent_in (up ++ attach ∷ attach ∷ []) ≡ asks_new ∷ []
  pub answered : stands_in attached_up ≡ Some (chan.Attached, Some 0)
  -- of three answers that are owed the last one counts
  pub crossing : sent_in (up ++ attach ∷ detach ∷ attach ∷ []) ≡ asks_new ∷ frames.Detach room ∷ asks_new ∷ []
  pub first_answer : stands_in (up ++ attach ∷ detach ∷ attach ∷ attached 3 0 ∷ []) ≡ Some (chan.Attaching, None)
  pub second_answer : stands_in (up ++ attach ∷ detach ∷ attach ∷ attached 3 0 ∷ detached ∷ []) ≡ Some (chan.Attaching, None)
  pub last_answer : stands_in (up ++ attach ∷ detach ∷ attach ∷ attached 3 0 ∷ detached ∷ attached 5 0 ∷ []) ≡ Some (chan.Attached, Some 5)
  pub last_run : record_in (up ++ attach ∷ detach ∷ attach ∷ attached 3 0 ∷ detached ∷ attached 5 0 ∷ []) ≡ Some ((5, (Opened, [])) ∷ [])
  -- an ATTACHED that answers an ATTACH before a DETACH is not taken, nor is the one after it the answer to the DETACH
  pub detaching : stands_in (up ++ attach ∷ detach ∷ attached 3 0 ∷ []) ≡ Some (chan.Detaching, None)
  pub detached_then : stands_in (up ++ attach ∷ detach ∷ attached 3 0 ∷ detached ∷ []) ≡ Some (chan.Detached, None)
  -- DETACHED forgets the serial that was held
  pub forgets : stands_in (attached_up ++ detach ∷ detached ∷ []) ≡ Some (chan.Detached, None)
  pub asks_nothing : sent_in (attached_up ++ detach ∷ detached ∷ attach ∷ []) ≡ asks_new ∷ frames.Detach room ∷ asks_new ∷ []
  -- Attach in DETACHING asks for the serial that is held
  pub turned_round : sent_in (attached_up ++ detach ∷ attach ∷ []) ≡ asks_new ∷ frames.Detach room ∷ asks_from 0 ∷ []
  -- an ERROR is taken where no answer is owed after it
  pub failing : stands_in (up ++ attach ∷ failed ∷ []) ≡ Some (chan.Failed, None)
  pub failing_early : stands_in (up ++ attach ∷ detach ∷ attach ∷ failed ∷ []) ≡ Some (chan.Attaching, None)
  pub failing_unasked : stands_in (attached_up ++ failed ∷ []) ≡ Some (chan.Failed, None)
  -- with the link each answer is gone, and a channel that was detaching is detached
  pub unlinked : stands_in (up ++ attach ∷ detach ∷ Unlinked 0 ∷ []) ≡ Some (chan.Detached, None)
  pub owes_none : stands_in (up ++ attach ∷ Unlinked 0 ∷ connect ∷ connected_as first_id ∷ attached 4 0 ∷ []) ≡ Some (chan.Attached, Some 4)
  -- detaching where the client is not connected, and where the channel is SUSPENDED
  pub at_once : stands_in (attached_up ++ Unlinked 0 ∷ detach ∷ []) ≡ Some (chan.Detached, None)
  pub unknown : stands_in (up ++ detach ∷ []) ≡ None
  pub unknown_answer : stands_in (up ++ attached 3 0 ∷ detached ∷ failed ∷ entry 1 ∷ []) ≡ None
  -- a FAILED connection fails a channel that was detaching
  pub all_fail : stands_in (attached_up ++ detach ∷ gets (frames.Error None 120) ∷ []) ≡ Some (chan.Failed, None)
  -- a new link owes nothing, however the old one ended
  pub new_link : stands_in (up ++ attach ∷ close_asked ∷ gets frames.Closed ∷ connect ∷ as_other ∷ attach ∷ attached 4 0 ∷ []) ≡ Some (chan.Attached, Some 4)
  pub dropped_link : stands_in (attached_up ++ detach ∷ disconnected ∷ []) ≡ Some (chan.Detached, None)
  pub silent_link : stands_in (attached_up ++ detach ∷ Ticked 25000 ∷ []) ≡ Some (chan.Detached, None)
  pub suspended_at_once : sent_in (up ++ attach ∷ Ticked 10000 ∷ detach ∷ []) ≡ asks_new ∷ []
  pub suspended_then : stands_in (up ++ attach ∷ Ticked 10000 ∷ detach ∷ []) ≡ Some (chan.Detached, None)
  pub closing_at_once : stands_in (attached_up ++ close_asked ∷ detach ∷ []) ≡ Some (chan.Detached, None)
  pub closing_quietly : sent_in (attached_up ++ close_asked ∷ detach ∷ []) ≡ asks_new ∷ frames.Close ∷ []
  pub stays_detached : sent_in (attached_up ++ detach ∷ detached ∷ again) ≡ asks_new ∷ frames.Detach room ∷ []
  pub stays_failed : stands_in (attached_up ++ fatal_error ∷ connect ∷ as_other ∷ []) ≡ Some (chan.Failed, None)
  pub unasked_closing : sent_in (attached_up ++ close_asked ∷ detached ∷ []) ≡ asks_new ∷ frames.Close ∷ []
  pub unasked_waits : stands_in (attached_up ++ close_asked ∷ detached ∷ attached 0 4 ∷ []) ≡ Some (chan.Attaching, Some 0)
  pub at_place : sent_in (Told (AttachAt room (place 4)) 0 ∷ up) ≡ asks_from 4 ∷ []
  -- several channels, in order of name; a frame changes its own alone
  pub in_order : sent_in (attach ∷ attach_other ∷ up) ≡ frames.Attach other None ∷ asks_new ∷ []
  pub one_alone : option_map (λ channel. channel.held) (at other (state_of (attach_other ∷ attached_up ++ gets (frames.Attached other (place 5) 0 None) ∷ entry 1 ∷ [])).channels)
      ≡ Some (Some (place 5))
  -- a count at its end is lowered no more
  pub endless : (attached_got 0 (place 0) endlessly_owed).state ≡ chan.Attaching
  pub endless_count : (attached_got 0 (place 0) endlessly_owed).owed ≡ 2 ^ 64 - 1
  pub endless_error : (channel_after ErrorGot endlessly_owed).state ≡ chan.Attaching

-- RUNS

pub record RunsGoOn : Type 0 where
  pub opened : record_in (up ++ attach ∷ attached 7 0 ∷ []) ≡ Some ((7, (Opened, [])) ∷ [])
  pub got : record_in (attached_up ++ entry 1 ∷ entry 2 ∷ []) ≡ Some ((0, (Opened, 1 ∷ 2 ∷ [])) ∷ [])
  pub holds : stands_in (attached_up ++ entry 1 ∷ entry 2 ∷ []) ≡ Some (chan.Attached, Some 2)
  -- after a link that was lost the serial that is held is asked for
  pub asks : sent_in (attached_up ++ entry 1 ∷ again) ≡ asks_new ∷ asks_from 1 ∷ []
  pub attaching : stands_in (attached_up ++ entry 1 ∷ again) ≡ Some (chan.Attaching, Some 1)
  pub goes_on : record_in (attached_up ++ entry 1 ∷ again ++ attached 1 4 ∷ entry 2 ∷ []) ≡ Some ((0, (Opened, 1 ∷ 2 ∷ [])) ∷ [])
  pub not_retained : record_in (attached_up ++ entry 1 ∷ again ++ attached 9 0 ∷ entry 10 ∷ [])
      ≡ Some ((9, (NotRetained (Ours (place 1)), 10 ∷ [])) ∷ (0, (Opened, 1 ∷ [])) ∷ [])
  pub same_place : record_in (attached_up ++ entry 1 ∷ again ++ attached 1 0 ∷ []) ≡ Some ((1, (NotRetained (Ours (place 1)), [])) ∷ (0, (Opened, 1 ∷ [])) ∷ [])
  pub elsewhere : record_in (attached_up ++ entry 1 ∷ again ++ attached 9 4 ∷ [])
      ≡ Some ((9, (Moved (Ours (place 1)) (place 9), [])) ∷ (0, (Opened, 1 ∷ [])) ∷ [])
  pub other_epoch : record_in (attached_up ++ entry 1 ∷ again ++ gets (frames.Attached room (record { epoch = 2; place = 1 }) 4 None) ∷ [])
      ≡ Some ((1, (Moved (Ours (place 1)) (record { epoch = 2; place = 1 }), [])) ∷ (0, (Opened, 1 ∷ [])) ∷ [])
  -- a serial that was given before the first ATTACH
  pub recovered : record_in (up ++ Told (AttachAt room (place 4)) 0 ∷ attached 4 4 ∷ entry 5 ∷ []) ≡ Some ((4, (Recovered (Ours (place 4)), 5 ∷ [])) ∷ [])
  pub not_there : record_in (up ++ Told (AttachAt room (place 4)) 0 ∷ attached 9 0 ∷ []) ≡ Some ((9, (NotRetained (Ours (place 4)), [])) ∷ [])
  -- an entry comes while the channel attaches, without a serial, or at place 0
  pub attaching_yet : record_in (up ++ attach ∷ entry 1 ∷ []) ≡ Some []
  pub not_up_yet : record_in (attached_up ++ entry 1 ∷ again ++ entry 2 ∷ []) ≡ Some ((0, (Opened, 1 ∷ [])) ∷ [])
  pub no_serial : record_in (attached_up ++ entry_by None ∷ []) ≡ Some ((0, (Opened, [])) ∷ [])
  pub place_0 : record_in (attached_up ++ entry 0 ∷ []) ≡ Some ((0, (Opened, [])) ∷ [])
  -- one at another place, twice the same, and one of another epoch
  pub skips : record_in (attached_up ++ entry 3 ∷ entry 4 ∷ []) ≡ Some ((2, (Jump (place 0) (place 3), 3 ∷ 4 ∷ [])) ∷ (0, (Opened, [])) ∷ [])
  pub twice : record_in (attached_up ++ entry 1 ∷ entry 1 ∷ []) ≡ Some ((0, (Jump (place 1) (place 1), 1 ∷ [])) ∷ (0, (Opened, 1 ∷ [])) ∷ [])
  pub epoch : record_in (attached_up ++ entry_by (Some (record { epoch = 2; place = 1 })) ∷ [])
      ≡ Some ((0, (Jump (place 0) (record { epoch = 2; place = 1 }), 1 ∷ [])) ∷ (0, (Opened, [])) ∷ [])
  -- ATTACHED and DETACHED that nobody asked for
  pub moved : record_in (attached_up ++ entry 1 ∷ attached 6 4 ∷ []) ≡ Some ((6, (Moved (Ours (place 1)) (place 6), [])) ∷ (0, (Opened, 1 ∷ [])) ∷ [])
  pub lost : record_in (attached_up ++ entry 1 ∷ attached 1 0 ∷ []) ≡ Some ((1, (Moved (Ours (place 1)) (place 1), [])) ∷ (0, (Opened, 1 ∷ [])) ∷ [])
  pub stays : record_in (attached_up ++ entry 1 ∷ attached 1 4 ∷ []) ≡ Some ((0, (Opened, 1 ∷ [])) ∷ [])
  pub asks_again : sent_in (attached_up ++ entry 1 ∷ detached ∷ []) ≡ asks_new ∷ asks_from 1 ∷ []
  pub waits_again : stands_in (attached_up ++ entry 1 ∷ detached ∷ []) ≡ Some (chan.Attaching, Some 1)
  -- after DETACHED a new run is opened
  pub opens_again : record_in (attached_up ++ entry 1 ∷ left_and_back) ≡ Some ((3, (Opened, [])) ∷ (0, (Opened, 1 ∷ [])) ∷ [])
  -- a run tells whether the channel was left since the run before began
  pub away : beginnings_in (attached_up ++ left_and_back) ≡ Some (Answered None false (place 3) true ∷ Answered None false (place 0) false ∷ [])
  pub away_once : beginnings_in (attached_up ++ left_and_back ++ again ++ attached 9 0 ∷ [])
      ≡ Some (Answered (Some (place 3)) false (place 9) false ∷ Answered None false (place 3) true ∷ Answered None false (place 0) false ∷ [])
  pub got_after_moving : record_in (attached_up ++ entry 1 ∷ attached 6 4 ∷ entry 7 ∷ []) ≡ Some ((6, (Moved (Ours (place 1)) (place 6), 7 ∷ [])) ∷ (0, (Opened, 1 ∷ [])) ∷ [])
  pub detaching : record_in (attached_up ++ detach ∷ entry 1 ∷ []) ≡ Some ((0, (Opened, [])) ∷ [])

-- THE QUEUE

pub record QueueIsKept : Type 0 where
  pub waits : sent_in (publish (codes "x") ∷ []) ≡ []
  pub behind : sent_in (publish (codes "x") ∷ attach ∷ publish (codes "y") ∷ up) ≡ asks_new ∷ message 0 (codes "x") ∷ message 1 (codes "y") ∷ []
  pub at_once : sent_in (up ++ publish (codes "x") ∷ []) ≡ message 0 (codes "x") ∷ []
  pub acknowledged : (state_of (up ++ publish (codes "x") ∷ publish (codes "y") ∷ gets (frames.Ack 0 2) ∷ [])).answers ≡ Ack first_id 0 ∷ Ack first_id 1 ∷ []
  pub refused : (state_of (up ++ publish (codes "x") ∷ gets (frames.Nack 0 1 104) ∷ [])).answers ≡ Nack first_id 0 104 ∷ []
  pub not_pending : (state_of (up ++ publish (codes "x") ∷ gets (frames.Ack 1 1) ∷ [])).answers ≡ []
  pub once : (state_of (up ++ publish (codes "x") ∷ gets (frames.Ack 0 1) ∷ gets (frames.Nack 0 1 104) ∷ [])).answers ≡ Ack first_id 0 ∷ []
  pub in_closing : (state_of (up ++ publish (codes "x") ∷ Told Close 0 ∷ gets (frames.Ack 0 1) ∷ [])).answers ≡ Ack first_id 0 ∷ []
  pub too_late : (state_of (up ++ publish (codes "x") ∷ Unlinked 0 ∷ gets (frames.Ack 0 1) ∷ [])).answers ≡ []
  -- the same connection keeps the serials, another one numbers anew
  pub keeps : sent_in (up ++ publish (codes "x") ∷ gets (frames.Ack 0 1) ∷ publish (codes "y") ∷ again)
      ≡ message 0 (codes "x") ∷ message 1 (codes "y") ∷ message 1 (codes "y") ∷ []
  pub anew : sent_in (up ++ publish (codes "x") ∷ gets (frames.Ack 0 1) ∷ publish (codes "y") ∷ Unlinked 0 ∷ connect ∷ connected_as (codes "c00000002") ∷ publish (codes "z") ∷ [])
      ≡ message 0 (codes "x") ∷ message 1 (codes "y") ∷ message 0 (codes "y") ∷ message 1 (codes "z") ∷ []
  -- given up, they are dropped and counted, and the next serial is 0
  pub dropped : (state_of (up ++ publish (codes "x") ∷ publish (codes "y") ∷ Told Die 0 ∷ [])).dropped ≡ 2
  pub begins_anew : sent_in (up ++ publish (codes "x") ∷ Told Die 0 ∷ connect ∷ connected_as (codes "c00000002") ∷ publish (codes "y") ∷ [])
      ≡ message 0 (codes "x") ∷ message 0 (codes "y") ∷ []
  pub answers_in_order : (state_of (up ++ publish (codes "x") ∷ publish (codes "x") ∷ gets (frames.Ack 1 1) ∷ gets (frames.Nack 0 1 104) ∷ [])).answers ≡ Ack first_id 1 ∷ Nack first_id 0 104 ∷ []
  pub acknowledged_by : (state_of (up ++ publish (codes "x") ∷ Unlinked 0 ∷ connect ∷ as_other ∷ gets (frames.Ack 0 1) ∷ [])).answers ≡ Ack (codes "c2") 0 ∷ []
  pub dropped_twice : (state_of (up ++ publish (codes "x") ∷ die ∷ connect ∷ publish (codes "x") ∷ die ∷ [])).dropped ≡ 2
  pub dropped_endlessly : (step die (record (state_of (publish (codes "x") ∷ [])) { dropped = 2 ^ 64 - 1 })).state.dropped ≡ 2 ^ 64 - 1
  pub operations : sent_in (up ++ Told (Operate room (CounterInc (Made kinds.Counter (codes "a") 0) (pos 3) ∷ [])) 0 ∷ [])
      ≡ frames.Object (sent_head 0) (record { op = CounterInc (Made kinds.Counter (codes "a") 0) (pos 3); serial = None } ∷ []) ∷ []

-- TIME

pub record TimePasses : Type 0 where
  pub silent : (state_of (up ++ Ticked 25000 ∷ [])).conn ≡ conn.Disconnected
  pub silent_drops : drops (Ticked 25000) up ≡ true
  pub not_yet : (state_of (up ++ Ticked 24999 ∷ [])).conn ≡ conn.Connected
  pub heard : (state_of (up ++ Heard None 1 ∷ Ticked 25000 ∷ [])).conn ≡ conn.Connected
  pub suspended : (state_of (up ++ Unlinked 5 ∷ Ticked 120005 ∷ [])).conn ≡ conn.Suspended
  pub kept : (state_of (up ++ Unlinked 5 ∷ Ticked 120004 ∷ [])).conn ≡ conn.Disconnected
  -- a Connect from DISCONNECTED doesn't begin the time anew, one from another state does
  pub connecting : (state_of (up ++ Unlinked 5 ∷ Told Connect 100000 ∷ Ticked 120005 ∷ [])).conn ≡ conn.Suspended
  pub never_up : (state_of (Told Connect 9 ∷ Ticked 120008 ∷ [])).conn ≡ conn.Connecting
  pub never_up_late : (state_of (Told Connect 9 ∷ Ticked 120009 ∷ [])).conn ≡ conn.Suspended
  pub from_suspended : (state_of (up ++ Unlinked 5 ∷ Ticked 120005 ∷ Told Connect 120006 ∷ Ticked 240005 ∷ [])).conn ≡ conn.Connecting
  pub suspended_again : (state_of (up ++ Unlinked 5 ∷ Ticked 120005 ∷ Told Connect 120006 ∷ Unlinked 120007 ∷ [])).conn ≡ conn.Suspended
  pub forgets : (state_of (up ++ publish (codes "x") ∷ Unlinked 5 ∷ Ticked 120005 ∷ [])).dropped ≡ 1
  pub channel_too : stands_in (attached_up ++ Unlinked 5 ∷ Ticked 120005 ∷ []) ≡ Some (chan.Suspended, None)
  pub opens_again : record_in (attached_up ++ entry 1 ∷ Unlinked 5 ∷ Ticked 120005 ∷ Told Connect 120006 ∷ connected_as (codes "c2") ∷ attached 8 0 ∷ [])
      ≡ Some ((8, (Opened, [])) ∷ (0, (Opened, 1 ∷ [])) ∷ [])
  -- no answer to an ATTACH
  pub late : stands_in (up ++ attach ∷ Ticked 10000 ∷ []) ≡ Some (chan.Suspended, None)
  pub in_time : stands_in (up ++ attach ∷ Ticked 9999 ∷ []) ≡ Some (chan.Attaching, None)
  pub not_linked : stands_in (attach ∷ Ticked 10000 ∷ []) ≡ Some (chan.Attaching, None)
  pub late_answer : stands_in (up ++ attach ∷ Ticked 10000 ∷ attached 3 0 ∷ []) ≡ Some (chan.Suspended, None)
  pub asked_twice : stands_in (up ++ attach ∷ Ticked 10000 ∷ attach ∷ attached 3 0 ∷ []) ≡ Some (chan.Attaching, None)
  pub connected_counts : conn_in (connect ∷ connected_at 30000 ∷ Ticked 54999 ∷ []) ≡ conn.Connected
  pub connected_counts_then : conn_in (connect ∷ connected_at 30000 ∷ Ticked 55000 ∷ []) ≡ conn.Disconnected
  pub commands_do_not : conn_in (up ++ Told (Publish room (item (codes "x") ∷ [])) 20000 ∷ Ticked 25000 ∷ []) ≡ conn.Disconnected
  pub left_last : conn_in (up ++ Unlinked 5 ∷ connect ∷ connected_as first_id ∷ Unlinked 50 ∷ Ticked 120049 ∷ []) ≡ conn.Disconnected
  pub left_connected : conn_in (up ++ Unlinked 5 ∷ Told Connect 50 ∷ Unlinked 60 ∷ Ticked 120005 ∷ []) ≡ conn.Suspended
  pub no_more_suspended : conn_in (up ++ Unlinked 5 ∷ Ticked 120005 ∷ Told Connect 120006 ∷ as_other ∷ Unlinked 120007 ∷ Told Connect 120008 ∷ Unlinked 120009 ∷ []) ≡ conn.Disconnected
  pub suspending_drops : drops (Ticked 120009) (Told Connect 9 ∷ []) ≡ true
  pub one_at_a_time : stands_in (up ++ attach ∷ Ticked 25000 ∷ []) ≡ Some (chan.Attaching, None)
  pub lost_link : stands_in (up ++ attach ∷ Unlinked 0 ∷ Ticked 10000 ∷ []) ≡ Some (chan.Attaching, None)
  pub closing_link : stands_in (up ++ attach ∷ close_asked ∷ Ticked 10000 ∷ []) ≡ Some (chan.Attaching, None)
  pub asked_again : stands_in (up ++ attach ∷ Unlinked 0 ∷ connect ∷ connected_at 9000 ∷ Ticked 18999 ∷ []) ≡ Some (chan.Attaching, None)
  pub asked_again_late : stands_in (up ++ attach ∷ Unlinked 0 ∷ connect ∷ connected_at 9000 ∷ Ticked 19000 ∷ []) ≡ Some (chan.Suspended, None)
  pub told_twice : stands_in (up ++ attach ∷ Told (Attach room) 5000 ∷ Ticked 10000 ∷ []) ≡ Some (chan.Suspended, None)

-- MEMBERS

abbrev pub member : PresenceAction → List ℕ → List ℕ → PresenceItem
member action client id = record { action = action; client = client; conn = codes "c2"; id = id; stamp = 0; payload = Some (codes "d"); encoding = None }

abbrev pub presence_entry : ℕ → PresenceItem → Input
presence_entry n one = gets (frames.Presence (head_at (Some (place n))) (one ∷ []))

abbrev pub page : List ℕ → List ℕ → List PresenceItem → Input
page sequence cursor items = gets (frames.Sync room (Some (record { sequence = sequence; cursor = cursor })) items)

abbrev pub a_enters : Input
a_enters = presence_entry 1 (member presence.Enter (codes "a") (codes "c2:0:0"))

abbrev pub a_leaves : Input
a_leaves = presence_entry 2 (member presence.Leave (codes "a") (codes "c2:1:0"))

pub record MembersAreHeld : Type 0 where
  pub nobody : members_in attached_up ≡ Some (true, [])
  pub one : members_in (attached_up ++ a_enters ∷ []) ≡ Some (true, codes "a" ∷ [])
  pub left : members_in (attached_up ++ a_enters ∷ a_leaves ∷ []) ≡ Some (true, [])
  pub not_attached : members_in (up ++ attach ∷ a_enters ∷ []) ≡ Some (false, [])
  -- with HAS_PRESENCE a sync opens: who was there is residual until the sync names it
  pub syncing : members_in (attached_up ++ a_enters ∷ again ++ attached 1 5 ∷ []) ≡ Some (false, codes "a" ∷ [])
  pub named : members_in (attached_up ++ a_enters ∷ again ++ attached 1 5 ∷ page (codes "1") (codes "1") (member presence.Present (codes "a") (codes "c2:0:0") ∷ []) ∷ page (codes "1") [] [] ∷ [])
      ≡ Some (true, codes "a" ∷ [])
  pub not_named : members_in (attached_up ++ a_enters ∷ again ++ attached 1 5 ∷ page (codes "1") (codes "1") (member presence.Present (codes "b") (codes "c2:5:0") ∷ []) ∷ page (codes "1") [] [] ∷ [])
      ≡ Some (true, codes "b" ∷ [])
  -- without it nobody is there
  pub nobody_left : members_in (attached_up ++ a_enters ∷ again ++ attached 1 4 ∷ []) ≡ Some (true, [])
  -- a page comes while no sync is open, and where the channel attaches
  pub page_alone : members_in (attached_up ++ page (codes "1") (codes "1") (member presence.Present (codes "b") (codes "c2:5:0") ∷ []) ∷ []) ≡ Some (false, codes "b" ∷ [])
  pub page_early : members_in (up ++ attach ∷ page (codes "1") (codes "1") (member presence.Present (codes "b") (codes "c2:5:0") ∷ []) ∷ []) ≡ Some (false, [])
  -- they stay in SUSPENDED, and go with DETACHED and FAILED
  pub suspended : members_in (attached_up ++ a_enters ∷ Unlinked 5 ∷ Ticked 120005 ∷ []) ≡ Some (false, codes "a" ∷ [])
  pub gone : members_in (attached_up ++ a_enters ∷ detach ∷ detached ∷ []) ≡ Some (false, [])
  pub failing : members_in (attached_up ++ a_enters ∷ failed ∷ []) ≡ Some (false, [])
  pub unasked : members_in (attached_up ++ a_enters ∷ attached 1 4 ∷ []) ≡ Some (true, [])
  pub unasked_sync : members_in (attached_up ++ a_enters ∷ attached 1 5 ∷ []) ≡ Some (false, codes "a" ∷ [])
  pub late_answer : members_in (attached_up ++ a_enters ∷ again ++ Ticked 10000 ∷ attached 1 4 ∷ []) ≡ Some (false, codes "a" ∷ [])
  pub place_0 : members_in (attached_up ++ presence_entry 0 (member presence.Enter (codes "a") (codes "c2:0:0")) ∷ []) ≡ Some (true, [])
  pub no_serial : members_in (attached_up ++ gets (frames.Presence (head_at None) (member presence.Enter (codes "a") (codes "c2:0:0") ∷ [])) ∷ []) ≡ Some (true, [])
  pub skipping : members_in (attached_up ++ presence_entry 3 (member presence.Enter (codes "a") (codes "c2:0:0")) ∷ []) ≡ Some (true, codes "a" ∷ [])

-- OWN MEMBERS

abbrev pub enters : List ℕ → List ℕ → Input
enters client text = Told (Enter room client text) 0

abbrev pub own_item : PresenceAction → List ℕ → Option (List ℕ) → PresenceItem
own_item action client text = record { action = action; client = client; conn = []; id = []; stamp = 0; payload = text; encoding = None }

abbrev pub presence_sent : ℕ → PresenceItem → Frame
presence_sent msg one = frames.Presence (sent_head msg) (one ∷ [])

abbrev pub b_and_a : List Input
b_and_a = enters (codes "b") (codes "1") ∷ enters (codes "a") (codes "2") ∷ []

-- of a client that got place 1 and sent one frame
abbrev pub held_key : RecoveryKey
held_key = record { key = first_key; next = 1; serials = (room, place 1) ∷ [] }

-- with three serials left two own members enter, and enter again
abbrev pub nearly_full : List Input
nearly_full = Recovers (record held_key { next = MAX_MESSAGE_SERIAL - 3 }) ∷ attach ∷ up ++ attached 1 4 ∷ b_and_a ++ again ++ attached 1 4 ∷ []

pub record OwnMembersEnter : Type 0 where
  pub enter : sent_in (attached_up ++ b_and_a)
      ≡ asks_new ∷ presence_sent 0 (own_item presence.Enter (codes "b") (Some (codes "1"))) ∷ presence_sent 1 (own_item presence.Enter (codes "a") (Some (codes "2"))) ∷ []
  -- in order of client id, after the answer that was awaited
  pub again_in_order : sent_in (attached_up ++ b_and_a ++ gets (frames.Ack 0 2) ∷ again ++ attached 0 4 ∷ [])
      ≡ asks_new ∷ presence_sent 0 (own_item presence.Enter (codes "b") (Some (codes "1"))) ∷ presence_sent 1 (own_item presence.Enter (codes "a") (Some (codes "2")))
      ∷ asks_from 0 ∷ presence_sent 2 (own_item presence.Enter (codes "a") (Some (codes "2"))) ∷ presence_sent 3 (own_item presence.Enter (codes "b") (Some (codes "1"))) ∷ []
  -- with the data of the last command, and not after a Leave
  pub updated : sent_in (attached_up ++ b_and_a ++ Told (Update room (codes "a") (codes "3")) 0 ∷ Told (Leave room (codes "b")) 0 ∷ gets (frames.Ack 0 4) ∷ again ++ attached 0 4 ∷ [])
      ≡ asks_new ∷ presence_sent 0 (own_item presence.Enter (codes "b") (Some (codes "1"))) ∷ presence_sent 1 (own_item presence.Enter (codes "a") (Some (codes "2")))
      ∷ presence_sent 2 (own_item presence.Update (codes "a") (Some (codes "3"))) ∷ presence_sent 3 (own_item presence.Leave (codes "b") None)
      ∷ asks_from 0 ∷ presence_sent 4 (own_item presence.Enter (codes "a") (Some (codes "3"))) ∷ []
  -- not after an ATTACHED that nobody asked for
  pub not_moved : sent_in (attached_up ++ enters (codes "a") (codes "2") ∷ attached 9 4 ∷ []) ≡ asks_new ∷ presence_sent 0 (own_item presence.Enter (codes "a") (Some (codes "2"))) ∷ []
  -- not after DETACHED
  pub not_detached : sent_in (attached_up ++ enters (codes "a") (codes "2") ∷ detach ∷ detached ∷ attach ∷ attached 9 0 ∷ [])
      ≡ asks_new ∷ presence_sent 0 (own_item presence.Enter (codes "a") (Some (codes "2"))) ∷ frames.Detach room ∷ asks_new ∷ []
  -- after SUSPENDED
  pub after_suspended : sent_in (attached_up ++ enters (codes "a") (codes "2") ∷ Unlinked 5 ∷ Ticked 120005 ∷ connect ∷ connected_as (codes "c2") ∷ attached 9 0 ∷ [])
      ≡ asks_new ∷ presence_sent 0 (own_item presence.Enter (codes "a") (Some (codes "2"))) ∷ asks_new ∷ presence_sent 0 (own_item presence.Enter (codes "a") (Some (codes "2"))) ∷ []
  -- in CLOSING they are queued, and not sent
  pub in_closing : sent_in (attached_up ++ enters (codes "a") (codes "2") ∷ gets (frames.Ack 0 1) ∷ again ++ Told Close 0 ∷ attached 0 4 ∷ [])
      ≡ asks_new ∷ presence_sent 0 (own_item presence.Enter (codes "a") (Some (codes "2"))) ∷ asks_from 0 ∷ frames.Close ∷ []
  pub queued_in_closing : length (state_of (attached_up ++ enters (codes "a") (codes "2") ∷ gets (frames.Ack 0 1) ∷ again ++ Told Close 0 ∷ attached 0 4 ∷ [])).queue.pending ≡ 1
  pub not_the_last : sent_in (attached_up ++ enters (codes "a") (codes "2") ∷ detach ∷ attach ∷ attached 9 0 ∷ [])
      ≡ asks_new ∷ presence_sent 0 (own_item presence.Enter (codes "a") (Some (codes "2"))) ∷ frames.Detach room ∷ asks_from 0 ∷ []
  pub not_failed : sent_in (attached_up ++ enters (codes "a") (codes "2") ∷ failed ∷ attach ∷ attached 9 0 ∷ [])
      ≡ asks_new ∷ presence_sent 0 (own_item presence.Enter (codes "a") (Some (codes "2"))) ∷ asks_new ∷ []
  pub after_unasked : sent_in (attached_up ++ enters (codes "a") (codes "2") ∷ detached ∷ attached 0 4 ∷ [])
      ≡ asks_new ∷ presence_sent 0 (own_item presence.Enter (codes "a") (Some (codes "2"))) ∷ asks_from 0 ∷ presence_sent 1 (own_item presence.Enter (codes "a") (Some (codes "2"))) ∷ []
  -- one for which no serial is left is skipped, and a command that is refused makes none
  pub skipped : sent_in nearly_full
      ≡ asks_from 1 ∷ presence_sent (MAX_MESSAGE_SERIAL - 3) (own_item presence.Enter (codes "b") (Some (codes "1"))) ∷ presence_sent (MAX_MESSAGE_SERIAL - 2) (own_item presence.Enter (codes "a") (Some (codes "2")))
      ∷ asks_from 1 ∷ presence_sent (MAX_MESSAGE_SERIAL - 3) (own_item presence.Enter (codes "b") (Some (codes "1"))) ∷ presence_sent (MAX_MESSAGE_SERIAL - 2) (own_item presence.Enter (codes "a") (Some (codes "2")))
      ∷ presence_sent (MAX_MESSAGE_SERIAL - 1) (own_item presence.Enter (codes "a") (Some (codes "2"))) ∷ []
  pub skipped_serial : (state_of nearly_full).queue.next ≡ MAX_MESSAGE_SERIAL
  pub refused : sent_in (Recovers (record held_key { next = MAX_MESSAGE_SERIAL }) ∷ attach ∷ up ++ attached 1 4 ∷ enters (codes "a") (codes "2") ∷ Unlinked 0 ∷ connect ∷ as_other ∷ attached 1 4 ∷ [])
      ≡ asks_from 1 ∷ asks_from 1 ∷ []
  pub not_attached : sent_in (up ++ attach ∷ enters (codes "a") (codes "1") ∷ attached 0 0 ∷ []) ≡ asks_new ∷ []

-- OBJECTS

abbrev pub counter : ObjectId
counter = Made kinds.Counter (codes "a") 0

abbrev pub at_site : ℕ → OpSerial
at_site n = record { place = n; index = 0; site = codes "s1" }

abbrev pub counter_state : ℕ → ℕ → ObjectState
counter_state n sum = record { id = counter; sites = (codes "s1", at_site n) ∷ []; tombstone = false; created = true; body = bodies.Counter (pos sum) }

abbrev pub object_page : List ℕ → List ℕ → List ObjectState → Input
object_page sequence cursor states = gets (frames.ObjectSync room (Some (record { sequence = sequence; cursor = cursor })) states)

abbrev pub increments : ℕ → ℕ → Option OpSerial → Input
increments n amount serial = gets (frames.Object (head_at (Some (place n))) (record { op = CounterInc counter (pos amount); serial = serial } ∷ []))

-- a counter that was deleted
abbrev pub deleted_state : ObjectState
deleted_state = record { id = counter; sites = (codes "s1", at_site 1) ∷ []; tombstone = true; created = false; body = bodies.Counter (pos 0) }

-- how many objects are held, tombstones and the root included
abbrev pub object_count : List Input → Option ℕ
object_count inputs = option_map (λ channel. length channel.objects.pool) (channel_in inputs)

abbrev pub empty_root : ObjectBody
empty_root = bodies.Map []

-- a channel whose objects are synced: a counter of 5 that place 1 made
abbrev pub synced : List Input
synced = up ++ attach ∷ attached 1 128 ∷ object_page (codes "1") (codes "1") (counter_state 1 5 ∷ []) ∷ object_page (codes "1") [] [] ∷ []

-- one whose objects are a tombstone and the root
abbrev pub buried : List Input
buried = up ++ attach ∷ attached 1 128 ∷ object_page (codes "1") (codes "1") (deleted_state ∷ []) ∷ object_page (codes "1") [] [] ∷ []

pub record ObjectsAreHeld : Type 0 where
  pub bare : objects_in attached_up ≡ Some (true, empty_root ∷ [])
  pub opened : objects_in (up ++ attach ∷ attached 1 128 ∷ []) ≡ Some (false, empty_root ∷ [])
  pub whole : objects_in synced ≡ Some (true, bodies.Counter (pos 5) ∷ empty_root ∷ [])
  pub applied : objects_in (synced ++ increments 2 3 (Some (at_site 2)) ∷ []) ≡ Some (true, bodies.Counter (pos 8) ∷ empty_root ∷ [])
  -- an operation without a serial is got with its entry, and does nothing to the objects
  pub no_serial : objects_in (synced ++ increments 2 3 None ∷ []) ≡ Some (true, bodies.Counter (pos 5) ∷ empty_root ∷ [])
  pub no_serial_got : record_in (synced ++ increments 2 3 None ∷ []) ≡ Some ((1, (Opened, 2 ∷ [])) ∷ [])
  -- kept during a sync, and applied by the site test at its end
  pub kept : objects_in (up ++ attach ∷ attached 1 128 ∷ increments 2 3 (Some (at_site 2)) ∷ increments 3 4 (Some (at_site 3)) ∷ object_page (codes "1") (codes "1") (counter_state 2 8 ∷ []) ∷ object_page (codes "1") [] [] ∷ [])
      ≡ Some (true, bodies.Counter (pos 12) ∷ empty_root ∷ [])
  -- the old pool while a sync is open, and none without HAS_OBJECTS
  pub old : objects_in (synced ++ again ++ attached 1 132 ∷ []) ≡ Some (false, bodies.Counter (pos 5) ∷ empty_root ∷ [])
  pub none : objects_in (synced ++ again ++ attached 1 4 ∷ []) ≡ Some (true, empty_root ∷ [])
  pub page_alone : objects_in (attached_up ++ object_page (codes "1") (codes "1") (counter_state 1 5 ∷ []) ∷ []) ≡ Some (true, empty_root ∷ [])
  pub gone : objects_in (synced ++ detach ∷ detached ∷ []) ≡ Some (false, empty_root ∷ [])
  pub suspended : objects_in (synced ++ Unlinked 5 ∷ Ticked 120005 ∷ []) ≡ Some (false, bodies.Counter (pos 5) ∷ empty_root ∷ [])
  -- tombstones are collected as time passes, in any state of the connection, but not while a sync is open
  pub tombstone : object_count (buried ++ Ticked 86399999 ∷ []) ≡ Some 2
  pub collected : object_count (buried ++ Ticked 86400000 ∷ []) ≡ Some 1
  pub unlinked_too : object_count (buried ++ Unlinked 0 ∷ Ticked 86400000 ∷ []) ≡ Some 1
  pub waits : object_count (buried ++ again ++ attached 1 132 ∷ Ticked 86400000 ∷ []) ≡ Some 2
  pub unasked : objects_in (synced ++ attached 1 4 ∷ []) ≡ Some (true, empty_root ∷ [])
  pub page_early : objects_in (up ++ attach ∷ attached 1 128 ∷ again ++ object_page (codes "1") [] (counter_state 1 5 ∷ []) ∷ []) ≡ Some (false, empty_root ∷ [])

-- RECOVERY KEYS

abbrev pub key_of : List Input → Option RecoveryKey
key_of inputs = recovery_key (state_of inputs)

pub record KeysRecover : Type 0 where
  pub none : key_of [] ≡ None
  pub held : key_of (attached_up ++ entry 1 ∷ publish (codes "x") ∷ []) ≡ Some held_key
  pub unlinked : key_of (attached_up ++ entry 1 ∷ publish (codes "x") ∷ Unlinked 0 ∷ []) ≡ Some held_key
  pub closing : key_of (attached_up ++ entry 1 ∷ publish (codes "x") ∷ Told Close 0 ∷ []) ≡ None
  pub given_up : key_of (up ++ Told Die 0 ∷ []) ≡ None
  -- it goes on with the connection, the serials and the number
  pub hello : hello_of (state_of (Recovers held_key ∷ connect ∷ [])) 7 ≡ record { client = Some (codes "A"); resume = Some first_key; word = 7 }
  pub goes_on : sent_in (Recovers held_key ∷ attach ∷ publish (codes "y") ∷ up) ≡ asks_from 1 ∷ message 1 (codes "y") ∷ []
  pub anew : sent_in (Recovers held_key ∷ attach ∷ publish (codes "y") ∷ connect ∷ connected_as (codes "c2") ∷ []) ≡ asks_from 1 ∷ message 0 (codes "y") ∷ []
  pub not_attached : sent_in (Recovers held_key ∷ up) ≡ []
  pub run : record_in (Recovers held_key ∷ attach ∷ up ++ attached 1 4 ∷ []) ≡ Some ((1, (Recovered (Ours (place 1)), [])) ∷ [])
  pub same_key : key_of (Recovers held_key ∷ []) ≡ Some held_key
  -- not where it did anything before
  pub knows_one : (state_of (attach ∷ Recovers held_key ∷ [])).key ≡ None
  pub pending : (state_of (publish (codes "x") ∷ Recovers held_key ∷ [])).key ≡ None
  pub connecting : (state_of (connect ∷ Recovers held_key ∷ [])).key ≡ None
  pub twice : (state_of (Recovers held_key ∷ Recovers (record held_key { next = 5 }) ∷ [])).queue.next ≡ 1
  -- the connection's id is what stands before the first `!`, or all
  pub id : (state_of (Recovers (record { key = codes "ab!c!d"; next = 0; serials = [] }) ∷ [])).id ≡ Some (codes "ab")
  pub all : (state_of (Recovers (record { key = codes "ab"; next = 0; serials = [] }) ∷ [])).id ≡ Some (codes "ab")
  pub key_held : (state_of (Recovers (record { key = codes "ab"; next = 0; serials = [] }) ∷ Recovers held_key ∷ [])).key ≡ Some (codes "ab")
  pub held_alone : key_of (attached_up ++ entry 1 ∷ Told (Attach (codes "b")) 0 ∷ publish (codes "x") ∷ []) ≡ Some held_key
  pub held_detaching : key_of (attached_up ++ entry 1 ∷ detach ∷ publish (codes "x") ∷ []) ≡ Some held_key

-- REFUSALS

abbrev pub suspended : List Input
suspended = attached_up ++ Unlinked 5 ∷ Ticked 120005 ∷ []

-- no serial is left
abbrev pub full_queue : List Input
full_queue = Recovers (record { key = codes "ab"; next = MAX_MESSAGE_SERIAL; serials = [] }) ∷ []

pub record CommandsAreRefused : Type 0 where
  pub connect_twice : refusal Connect (state_of up) ≡ Some (WrongState (stands.Conn conn.Connected))
  pub attach_suspended : refusal (Attach room) (state_of suspended) ≡ Some (WrongState (stands.Conn conn.Suspended))
  pub attach_closing : refusal (Attach room) (state_of (up ++ Told Close 0 ∷ [])) ≡ Some (WrongState (stands.Conn conn.Closing))
  pub attach_at_known : refusal (AttachAt room (place 1)) (state_of attached_up) ≡ Some (WrongState (stands.Chan chan.Attached))
  pub attach_at_closed : refusal (AttachAt room (place 1)) (state_of (attached_up ++ Told Die 0 ∷ [])) ≡ Some (WrongState (stands.Conn conn.Closed))
  pub detach_failed : refusal (Detach room) (state_of (attached_up ++ failed ∷ [])) ≡ Some (WrongState (stands.Chan chan.Failed))
  pub publish_failed : refusal (Publish room (item (codes "x") ∷ [])) (state_of (attached_up ++ failed ∷ [])) ≡ Some (WrongState (stands.Chan chan.Failed))
  pub publish_unknown : refusal (Publish room (item (codes "x") ∷ [])) (state_of []) ≡ None
  pub publish_first : refusal (Publish room (item (codes "x") ∷ [])) (state_of suspended) ≡ Some (WrongState (stands.Conn conn.Suspended))
  pub publish_detached : refusal (Publish room (item (codes "x") ∷ [])) (state_of (attached_up ++ detach ∷ detached ∷ [])) ≡ None
  pub operate_detached : refusal (Operate room (CounterInc counter (pos 1) ∷ [])) (state_of (attached_up ++ detach ∷ detached ∷ [])) ≡ Some (WrongState (stands.Chan chan.Detached))
  pub operate_unknown : refusal (Operate room (CounterInc counter (pos 1) ∷ [])) (state_of up) ≡ None
  pub enter_unknown : refusal (Enter room (codes "a") (codes "x")) (state_of up) ≡ Some (WrongState (stands.Chan chan.Initialized))
  pub leave_attaching : refusal (Leave room (codes "a")) (state_of (up ++ attach ∷ [])) ≡ Some (WrongState (stands.Chan chan.Attaching))
  pub enter_unlinked : refusal (Enter room (codes "a") (codes "x")) (state_of (attached_up ++ Unlinked 0 ∷ [])) ≡ None
  pub full : refusal (Publish room (item (codes "x") ∷ [])) (state_of (Recovers (record { key = codes "ab"; next = MAX_MESSAGE_SERIAL; serials = [] }) ∷ [])) ≡ Some (Full 0)
  pub close : refusal Close (state_of suspended) ≡ None
  -- a command that is refused changes nothing
  pub not_attached_at : stands_in (attached_up ++ Told (AttachAt room (place 7)) 0 ∷ []) ≡ Some (chan.Attached, Some 0)
  pub not_attached : stands_in (up ++ close_asked ∷ attach ∷ []) ≡ None
  pub not_queued : length (state_of (up ++ close_asked ∷ publish (codes "x") ∷ [])).queue.pending ≡ 0
  pub detach_suspended : refusal (Detach room) (state_of suspended) ≡ None
  pub enter_before_full : refusal (Enter room (codes "a") (codes "x")) (state_of full_queue) ≡ Some (WrongState (stands.Chan chan.Initialized))
  pub operate_full : refusal (Operate room (CounterInc counter (pos 1) ∷ [])) (state_of full_queue) ≡ Some (Full 0)
  pub attach_at_recovered : refusal (AttachAt room (place 2)) (state_of (Recovers held_key ∷ [])) ≡ Some (WrongState (stands.Chan chan.Initialized))
  pub publish_closing : refusal (Publish room (item (codes "x") ∷ [])) (state_of (up ++ close_asked ∷ [])) ≡ Some (WrongState (stands.Conn conn.Closing))
  pub publish_late : refusal (Publish room (item (codes "x") ∷ [])) (state_of (up ++ attach ∷ Ticked 10000 ∷ [])) ≡ Some (WrongState (stands.Chan chan.Suspended))

-- WHAT IS SHOWN

abbrev pub shown_client : List Input
shown_client = attached_up ++ entry 1 ∷ again ++ attached 9 0 ∷ publish (codes "x") ∷ publish (codes "x") ∷ gets (frames.Ack 0 1) ∷ []

abbrev pub bare_root_shown : ObjectState
bare_root_shown = record { id = Root; sites = []; tombstone = false; created = true; body = empty_root }

pub record ClientsAreShown : Type 0 where
  -- segments in order, what is pending and what was acknowledged
  pub one : findings_of (state_of shown_client)
      ≡ record {
        name = codes "A";
        state = conn.Connected;
        conn = Some first_id;
        pending = 1;
        dropped = 0;
        answers = Ack first_id 0 ∷ [];
        views = record {
          name = room;
          state = chan.Attached;
          held = Some (place 9);
          runs = record { segments = record { start = 0; cause = Opened; got = (1, Messages (item (codes "x") ∷ [])) ∷ [] } ∷ record { start = 9; cause = NotRetained (Ours (place 1)); got = [] } ∷ [] };
          members_whole = true;
          members = [];
          objects_whole = true;
          objects = bare_root_shown ∷ [];
        } ∷ [];
      }
  -- channels in order of name, and what was dropped
  pub names : map (λ view. view.name) (findings_of (state_of (attach_other ∷ attached_up))).views ≡ other ∷ room ∷ []
  pub dropped : (findings_of (state_of (up ++ publish (codes "x") ∷ die ∷ []))).dropped ≡ 1
  pub closed : (findings_of (state_of (up ++ publish (codes "x") ∷ die ∷ []))).conn ≡ None
