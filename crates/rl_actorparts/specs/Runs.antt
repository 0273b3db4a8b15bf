-- What a reply to a call of a session makes of the sessions, and which frames it puts out.
use Rattle.std.specs.Prelude.{◌≡◌, ℕ, Bool, if◌then◌else◌, List, [], ◌++◌, length, map, Option, Some, None}
use Rattle.rl_types.specs.declared.messages.Entry.{Entry}
use Rattle.rl_ids.specs.Forms.{conn_text}
use Rattle.rl_types.specs.declared.frames.Head.{Head}
use Rattle.rl_types.specs.declared.frames.Frame.{Frame}
use Rattle.rl_events.specs.declared.channel.ChannelReply.{ChannelReply}
use Rattle.rl_names.specs.Names.{at, with_entry}
use Rattle.rl_pages.specs.State.{page_frame, page_absorbed, ended}
use Rattle.rl_actormodel.specs.declared.parts.Session.{Session}
use Rattle.rl_actormodel.specs.Pagings.{paged, ends_here, ended_here}
use Rattle.rl_actormodel.specs.Reads.{entry_frame, moved_on}
use Rattle.rl_actorparts.specs.declared.sessions.Run.{Run}

-- the head of an entry at this place, by this connection, at this moment
abbrev pub head_of : List ℕ → ℕ → ℕ → ℕ → ℕ → Head
head_of name epoch place conn stamp = record {
  channel = name;
  msg = None;
  serial = Some (record { epoch = epoch; place = place });
  conn = Some (conn_text conn);
  id = None;
  stamp = Some stamp;
}

abbrev pub Sessions : Type 0
Sessions = List (List ℕ × Session)

-- the names, in order
abbrev pub names_of : Sessions → List (List ℕ)
names_of sessions = map (λ (e : List ℕ × Session). e.0) sessions

-- the place to which a session came
abbrev pub position_in : Option (List ℕ × Session) → Option ℕ
position_in None = None
position_in (Some e) = Some e.1.position

-- ENTRIES THAT CAME

-- each is put out as one frame, and behind them the end pages
abbrev pub run_frames : List Entry → Option (List ℕ × Session) → List Frame
run_frames entries None = []
run_frames entries (Some e) = map (entry_frame e.0 e.1.epoch) entries ++ ends_here (moved_on (length entries) e.1)

-- the session moves on
abbrev pub run_into : List Entry → Option (List ℕ × Session) → Sessions → Sessions
run_into entries None sessions = sessions
run_into entries (Some e) sessions = with_entry e.0 (ended_here (moved_on (length entries) e.1)) sessions

-- a session at this place, whose sync ends or not
abbrev pub moved : ℕ → Bool → Session → Session
moved position ends session = record session { position = position; pages = if ends then ended session.pages else session.pages }

abbrev pub moved_by : ℕ → Bool → List ℕ → Option Session → Sessions → Sessions
moved_by position ends name None sessions = sessions
moved_by position ends name (Some session) sessions = with_entry name (moved position ends session) sessions

-- so the session of this name
abbrev pub moved_at : List ℕ → ℕ → Bool → Sessions → Sessions
moved_at name position ends sessions = moved_by position ends name (at name sessions) sessions

-- the frames of a run; none where there is nothing to do
abbrev pub frames_in : Option Run → List Frame
frames_in None = []
frames_in (Some run) = run.frames.items

abbrev pub sessions_in : Option Run → Sessions → Sessions
sessions_in None sessions = sessions
sessions_in (Some run) sessions = moved_at run.name run.position run.ends sessions

-- what a run does is what the entries do
pub record IsRun (entries : List Entry) (found : Option (List ℕ × Session)) (sessions : Sessions) (run : Option Run) : Type 0 where
  pub frames_are : frames_in run ≡ run_frames entries found
  pub sessions_are : sessions_in run sessions ≡ run_into entries found sessions

-- so of the one session: its frames, its name, and what it is then. None where there are no frames, and it is as before
abbrev pub IsRunOf : List ℕ → Session → List Entry → Option Run → Type 0
IsRunOf name session entries None =
    (run_frames entries (Some (name, session)) ≡ []) × (ended_here (moved_on (length entries) session) ≡ session)
IsRunOf name session entries (Some run) =
    (run.frames.items ≡ run_frames entries (Some (name, session)))
    × (run.name ≡ name)
    × (moved run.position run.ends session ≡ ended_here (moved_on (length entries) session))

-- A PAGE THAT CAME

abbrev pub page_in : ChannelReply → Option (List ℕ × Session) → Option Frame
page_in reply None = None
page_in reply (Some e) = page_frame reply e.1.pages

abbrev pub page_into : ChannelReply → Option (List ℕ × Session) → Sessions → Sessions
page_into reply None sessions = sessions
page_into reply (Some e) sessions = with_entry e.0 (paged (page_absorbed reply e.1.pages) e.1) sessions

-- the same, of the session of this name
abbrev pub page_in_at : ChannelReply → Option Session → Option Frame
page_in_at reply None = None
page_in_at reply (Some session) = page_frame reply session.pages

abbrev pub page_into_at : ChannelReply → List ℕ → Option Session → Sessions → Sessions
page_into_at reply name None sessions = sessions
page_into_at reply name (Some session) sessions = with_entry name (paged (page_absorbed reply session.pages) session) sessions
