-- What follows for the pages of each actor's sessions: each is the channel's own answer, and goes to the session that asked.
-- (This project's own.)
use Rattle.std.specs.Prelude.{◌≡◌, ℕ, List, true, Some, None, option_to_list}
use Rattle.std.specs.List.{AllByRecursion}
use Rattle.rl_events.specs.declared.channel.ChannelEvent.{ChannelEvent}
use Rattle.rl_events.specs.declared.channel.ChannelReply.{ChannelReply}
use Rattle.rl_events.specs.declared.calls.Call.TheVariants.{Chan}
use Rattle.rl_names.specs.Names.{at}
use Rattle.rl_pages.specs.State.{next_event, is_wanted, page_frame, page_absorbed}
use Rattle.rl_model.specs.Reply.{reply}
use Rattle.rl_actormodel.specs.declared.parts.Session.{Session}
use Rattle.rl_actormodel.specs.State as actor
use Rattle.rl_actormodel.specs.Pagings.{paged}
use Rattle.rl_actormodel.specs.Reads.{absorbed}
use Rattle.rl_worldmodel.specs.World.{World, Transport, the_epoch, the_site, history}
use Rattle.rl_worldmodel.specs.Calls.{reply_to}
use Rattle.rl_worldtold.specs.Runs.{HoldsOfRuns}

-- what the session's channel answers to a page's event
abbrev pub page_told : ChannelEvent → Session → World → ChannelReply
page_told event session world = reply the_epoch the_site (history session.number world) event

-- the actor once the answer is absorbed
abbrev pub after_page : ChannelEvent → Session → World → actor.State → actor.State
after_page event session world s = absorbed (Chan session.number event) (reply_to (Chan session.number event) world) world.now s

-- the answer is a page of the kind that was asked for; this session's pages absorb it, and it is put out as one frame
pub record IsPagedBy (world : World) (s : actor.State) (name : List ℕ) (session : Session) (event : ChannelEvent) : Type 0 where
  pub wanted : is_wanted (page_told event session world) session.pages ≡ true
  pub absorbs : s.ended ≡ None → at name (after_page event session world s).sessions ≡ Some (paged (page_absorbed (page_told event session world) session.pages) session)
  pub shows : s.ended ≡ None → (after_page event session world s).waiting ≡ option_to_list (page_frame (page_told event session world) session.pages)

-- each session of each actor that asks for a page is paged so
abbrev pub AllPaged : World → Type 0
AllPaged world =
    AllByRecursion
    (λ (t : Transport). (name : List ℕ) (session : Session) (event : ChannelEvent) → at name t.actor.sessions ≡ Some session → next_event session.pages ≡ Some event → IsPagedBy world t.actor name session event)
    world.transports

-- so each page of each session of every run
abbrev pub PagesAreTheirChannels : Type 0
PagesAreTheirChannels = HoldsOfRuns AllPaged
