-- The entries and pages that an actor puts out are those that were told to it: of reads and of pages, in order.
use Rattle.std.specs.Prelude.{◌≡◌, ℕ, Bool, true, false, List, [], ◌∷◌, ◌++◌, length, map, filter, option_to_list, Option, Some, None}
use Rattle.rl_types.specs.declared.frames.Frame.{Frame}
use Rattle.rl_types.specs.declared.frames.Frame.TheVariants as frames
use Rattle.rl_runs.specs.declared.commands.Hello.{Hello}
use Rattle.rl_events.specs.declared.channel.ChannelEvent.TheVariants.{Read, MemberPage, ObjectPage}
use Rattle.rl_events.specs.declared.channel.ChannelReply.{ChannelReply}
use Rattle.rl_events.specs.declared.calls.Call.{Call}
use Rattle.rl_events.specs.declared.calls.Call.TheVariants.{Chan}
use Rattle.rl_events.specs.declared.calls.Reply.{Reply}
use Rattle.rl_events.specs.declared.calls.End.{End}
use Rattle.rl_pages.specs.State.{page_frame}
use Rattle.rl_actormodel.specs.declared.parts.Session.{Session}
use Rattle.rl_actormodel.specs.State.{State, begun, numbered}
use Rattle.rl_actormodel.specs.Replies.{Reading, Came, reading, channel_reply}
use Rattle.rl_actormodel.specs.Pagings.{ends_here}
use Rattle.rl_actormodel.specs.Reads.{entry_frame, moved_on}
use Rattle.rl_actormodel.specs.Inputs.{Input, Absorbed, run, put_out}

-- MESSAGE, PRESENCE and OBJECT are frames of entries, SYNC and OBJECT_SYNC of pages
abbrev pub is_told : Frame → Bool
is_told (frames.Message head items) = true
is_told (frames.Presence head items) = true
is_told (frames.Object head ops) = true
is_told (frames.Sync channel at items) = true
is_told (frames.ObjectSync channel at states) = true
is_told frame = false

-- the entries that came, each as one frame, and behind them the end pages, where the sync may end at the place to which
-- the session comes so
abbrev pub told_by_read : Reading → List ℕ → Session → List Frame
told_by_read (Came entries) name session = map (entry_frame name session.epoch) entries ++ ends_here (moved_on (length entries) session)
told_by_read reply name session = []

-- the page that came, as one frame
abbrev pub told_by_page : Option ChannelReply → Session → List Frame
told_by_page None session = []
told_by_page (Some reply) session = option_to_list (page_frame reply session.pages)

-- where the channel has a session
abbrev pub read_tells : Option (List ℕ × Session) → Reading → List Frame
read_tells None reply = []
read_tells (Some e) reply = told_by_read reply e.0 e.1

abbrev pub page_tells : Option (List ℕ × Session) → Option ChannelReply → List Frame
page_tells None reply = []
page_tells (Some e) reply = told_by_page reply e.1

-- what a call's reply brings
abbrev pub call_tells : Call → Reply → State → List Frame
call_tells (Chan number (Read from most)) reply s = read_tells (numbered number s.sessions) (reading reply)
call_tells (Chan number (MemberPage past most)) reply s = page_tells (numbered number s.sessions) (channel_reply reply)
call_tells (Chan number (ObjectPage past most)) reply s = page_tells (numbered number s.sessions) (channel_reply reply)
call_tells call reply s = []

-- nothing, where the actor is ended
abbrev pub reply_tells : Option End → Call → Reply → State → List Frame
reply_tells None call reply s = call_tells call reply s
reply_tells (Some why) call reply s = []

-- what an input tells of entries and pages
abbrev pub told_by : Input → State → List Frame
told_by (Absorbed call reply now) s = reply_tells s.ended call reply s
told_by input s = []

-- all inputs, of which the latest stands first
abbrev pub all_told : List Input → State → List Frame
all_told [] s = []
all_told (input ∷ before) s = all_told before s ++ told_by input (run before s)

-- whatever comes to an actor: the frames of entries and pages that it put out are those of its reads and pages, in order,
-- each once
abbrev pub WhatIsPutOutWasTold : Type 0
WhatIsPutOutWasTold =
    (hello : Hello) (start : ℕ) (inputs : List Input)
    → filter is_told (put_out hello start inputs) ≡ all_told inputs (begun hello start)
