-- What an actor does with the reply to a call.
use Rattle.std.specs.Prelude.{ℕ, ◌+◌, List, ◌++◌, length, map, Option, Some, None}
use Rattle.rl_ids.specs.Forms.{conn_text}
use Rattle.rl_types.specs.declared.messages.Body.{Body}
use Rattle.rl_types.specs.declared.messages.Body.TheVariants.{Messages, Presence, Objects}
use Rattle.rl_types.specs.declared.messages.Entry.{Entry}
use Rattle.rl_types.specs.declared.frames.Head.{Head}
use Rattle.rl_types.specs.declared.frames.Frame.{Frame}
use Rattle.rl_types.specs.declared.frames.Frame.TheVariants as frames
use Rattle.rl_events.specs.declared.channel.ChannelEvent.TheVariants as events
use Rattle.rl_events.specs.declared.calls.End.{End}
use Rattle.rl_events.specs.declared.calls.End.TheVariants as ends
use Rattle.rl_events.specs.declared.calls.Call.{Call}
use Rattle.rl_events.specs.declared.calls.Call.TheVariants as calls
use Rattle.rl_events.specs.declared.calls.Reply.{Reply}
use Rattle.rl_actormodel.specs.declared.parts.Session.{Session}
use Rattle.rl_actormodel.specs.declared.parts.Wish.{Wish}
use Rattle.rl_actormodel.specs.declared.parts.Wish.TheVariants as wishes
use Rattle.rl_names.specs.Names.{with_entry}
use Rattle.rl_actormodel.specs.State.{State, numbered, wishing, puts}
use Rattle.rl_actormodel.specs.Ends.{ended_by}
use Rattle.rl_actormodel.specs.Replies.{standing, beginning, opening, resuming, numbering, joining_in, verdict_in, Reading, Came, Behind, Unread, reading, channel_reply}
use Rattle.rl_actormodel.specs.Connects.{resumed_by, opened_by, if_held, closed}
use Rattle.rl_actormodel.specs.Attaches.{attach_at, joined_by}
use Rattle.rl_actormodel.specs.Publishes.{settled, begun_by, put_at, put_by}
use Rattle.rl_actormodel.specs.Pagings.{page_by, ends_here, ended_here}

-- AN ENTRY AS A FRAME

-- its channel serial, connection and stamp stand in the frame's head (RTL7, TR4)
abbrev pub entry_head : List ℕ → ℕ → Entry → Head
entry_head name epoch e = record {
  channel = name;
  msg = None;
  serial = Some (record { epoch = epoch; place = e.place });
  conn = Some (conn_text e.conn);
  id = None;
  stamp = Some e.stamp;
}

-- messages, presence items and operations each have their frame (TR2)
abbrev pub body_frame : Head → Body → Frame
body_frame head (Messages items) = frames.Message head items
body_frame head (Presence items) = frames.Presence head items
body_frame head (Objects ops) = frames.Object head ops

-- an entry as it is put out (RTL7)
abbrev pub entry_frame : List ℕ → ℕ → Entry → Frame
entry_frame name epoch e = body_frame (entry_head name epoch e) e.body

-- WHAT WAS READ

-- a session that has put out so many entries more
abbrev pub moved_on : ℕ → Session → Session
moved_on count session = record session { position = session.position + count }

-- each entry is put out as one frame, and behind them the end pages, where the sync may end now. (This project's own.)
abbrev pub read_into : List ℕ → List Entry → Session → ℕ → State → State
read_into name entries session now s =
    puts (map (entry_frame name session.epoch) entries ++ ends_here session) now
    (record s { sessions = with_entry name (ended_here session) s.sessions })

-- the session moves on by the entries that came; one that fell back past what is retained ends the actor. (This
-- project's own.)
abbrev pub read_by : List ℕ → Session → Reading → ℕ → State → State
read_by name session (Came entries) now s = read_into name entries (moved_on (length entries) session) now s
read_by name session (Behind first) now s = ended_by (ends.Lagged session.position first) s
read_by name session Unread now s = s

-- CALLS OF A SESSION

-- what is done where the channel has a session, by its name. (This project's own.)
abbrev pub on_session : (List ℕ → Session → State → State) → Option (List ℕ × Session) → State → State
on_session act None s = s
on_session act (Some e) s = act e.0 e.1 s

-- a read of the channel of this number was replied. (This project's own.)
abbrev pub read_on : ℕ → Reply → ℕ → State → State
read_on number reply now s = on_session (λ name session. read_by name session (reading reply) now) (numbered number s.sessions) s

-- a page of the channel of this number was replied. (This project's own.)
abbrev pub page_on : ℕ → Reply → ℕ → State → State
page_on number reply now s = on_session (λ name session. page_by name session (channel_reply reply) now) (numbered number s.sessions) s

-- THE CALL THAT WAS WANTED

-- what each wish's reply leads to. (This project's own.)
abbrev pub replied : Wish → Reply → ℕ → State → State
replied wishes.Nothing reply now s = s
replied (wishes.Resume key) reply now s = resumed_by key (resuming reply) now s
replied wishes.Open reply now s = opened_by (opening reply) now s
replied (wishes.Lost holder) reply now s = wishing wishes.Nothing s
replied (wishes.Close holder) reply now s = if_held holder (standing reply) (closed now) s
replied (wishes.AskToAttach asked) reply now s = attach_at asked (numbering reply) now s
replied (wishes.Join asked number) reply now s = joined_by asked number (joining_in reply) now s
replied (wishes.Begin p holder) reply now s = begun_by p holder (beginning reply) now s
replied (wishes.AskToPut p holder) reply now s = put_at p holder (numbering reply) s
replied (wishes.Put p holder number) reply now s = put_by p holder (verdict_in reply) s
replied (wishes.Finish p holder outcome) reply now s = if_held holder (standing reply) (settled p outcome now) s

-- REPLIES OF ALL CALLS

-- a read and a page concern a session, each other call is the one that was wanted. (This project's own.)
abbrev pub answered : Call → Reply → ℕ → State → State
answered (calls.Chan number (events.Read from most)) reply now s = read_on number reply now s
answered (calls.Chan number (events.MemberPage after most)) reply now s = page_on number reply now s
answered (calls.Chan number (events.ObjectPage after most)) reply now s = page_on number reply now s
answered call reply now s = replied s.wish reply now s

-- to an actor that is ended a reply says nothing more: it was told of its loss. (This project's own.)
abbrev pub answered_at : Option End → Call → Reply → ℕ → State → State
answered_at None call reply now s = answered call reply now s
answered_at (Some why) call reply now s = wishing wishes.Nothing s

-- a call was replied. (This project's own.)
abbrev pub absorbed : Call → Reply → ℕ → State → State
absorbed call reply now s = answered_at s.ended call reply now s
