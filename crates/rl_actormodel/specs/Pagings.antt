-- The pages of a session's sync.
use Rattle.std.specs.Prelude.{ℕ, if◌then◌else◌, List, [], Option, Some, None, option_to_list}
use Rattle.rl_events.specs.declared.channel.ChannelReply.{ChannelReply}
use Rattle.rl_types.specs.declared.frames.Frame.{Frame}
use Rattle.rl_pages.specs.State.{Sequences, page_frame, page_absorbed, may_end, end_frames, ended}
use Rattle.rl_actormodel.specs.declared.parts.Session.{Session}
use Rattle.rl_names.specs.Names.{with_entry}
use Rattle.rl_actormodel.specs.State.{State, puts}

-- a session with other pages. (This project's own.)
abbrev pub paged : Sequences → Session → Session
paged pages session = record session { pages = pages }

-- a page came, and is put out as one frame (RTP18a, RTO5a)
abbrev pub page_by : List ℕ → Session → Option ChannelReply → ℕ → State → State
page_by name session None now s = s
page_by name session (Some reply) now s =
    puts (option_to_list (page_frame reply session.pages)) now
    (record s { sessions = with_entry name (paged (page_absorbed reply session.pages) session) s.sessions })

-- the end pages, where the sync may end at the session's position (RTP18b, RTO5a4; when it may is this project's own)
abbrev pub ends_here : Session → List Frame
ends_here session = if may_end session.position session.pages then end_frames session.pages else []

-- the session once they are put out. (This project's own.)
abbrev pub ended_here : Session → Session
ended_here session = if may_end session.position session.pages then paged (ended session.pages) session else session
