-- The entries that an actor puts out are those of its reads.
use Rattle.std.specs.Prelude.{◌≡◌, ℕ, Bool, true, false, List, [], ◌∷◌, ◌++◌, map, filter, Option, Some, None}
use Rattle.rl_types.specs.declared.frames.Frame.{Frame}
use Rattle.rl_types.specs.declared.frames.Frame.TheVariants as frames
use Rattle.rl_runs.specs.declared.commands.Hello.{Hello}
use Rattle.rl_events.specs.declared.channel.ChannelEvent.TheVariants.{Read}
use Rattle.rl_events.specs.declared.calls.Call.{Call}
use Rattle.rl_events.specs.declared.calls.Call.TheVariants.{Chan}
use Rattle.rl_events.specs.declared.calls.Reply.{Reply}
use Rattle.rl_events.specs.declared.calls.End.{End}
use Rattle.rl_actormodel.specs.declared.parts.Session.{Session}
use Rattle.rl_actormodel.specs.State.{State, begun, numbered}
use Rattle.rl_actormodel.specs.Replies.{Reading, Came, reading}
use Rattle.rl_actormodel.specs.Reads.{entry_frame}
use Rattle.rl_actormodel.specs.Inputs.{Input, Absorbed, run, put_out}

-- MESSAGE, PRESENCE and OBJECT are frames of entries
abbrev pub is_of_entry : Frame → Bool
is_of_entry (frames.Message head items) = true
is_of_entry (frames.Presence head items) = true
is_of_entry (frames.Object head ops) = true
is_of_entry frame = false

-- the entries that came, each as the frame by which the session puts it out
abbrev pub frames_read : Reading → List ℕ → Session → List Frame
frames_read (Came entries) name session = map (entry_frame name session.epoch) entries
frames_read reply name session = []

-- where the channel has a session
abbrev pub session_reads : Option (List ℕ × Session) → Reading → List Frame
session_reads None reply = []
session_reads (Some e) reply = frames_read reply e.0 e.1

-- what a call's reply brings: a read's entries
abbrev pub call_shows : Call → Reply → State → List Frame
call_shows (Chan number (Read from most)) reply s = session_reads (numbered number s.sessions) (reading reply)
call_shows call reply s = []

-- nothing, where the actor is ended
abbrev pub reply_shows : Option End → Call → Reply → State → List Frame
reply_shows None call reply s = call_shows call reply s
reply_shows (Some why) call reply s = []

-- what an input shows of entries
abbrev pub shown_by : Input → State → List Frame
shown_by (Absorbed call reply now) s = reply_shows s.ended call reply s
shown_by input s = []

-- all inputs, of which the latest stands first
abbrev pub all_shown : List Input → State → List Frame
all_shown [] s = []
all_shown (input ∷ before) s = all_shown before s ++ shown_by input (run before s)

-- whatever comes to an actor: the frames of entries that it put out are those of its reads, in order, each entry once
abbrev pub EntriesAreThoseRead : Type 0
EntriesAreThoseRead =
    (hello : Hello) (start : ℕ) (inputs : List Input)
    → filter is_of_entry (put_out hello start inputs) ≡ all_shown inputs (begun hello start)
