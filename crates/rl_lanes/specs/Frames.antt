-- What a lane puts out and what a client makes of it, as frames: so a lane is a channel of the machines themselves.
use Rattle.std.specs.Prelude.{◌≡◌, ℕ, List, map, Some, None, option_to_list}
use Rattle.rl_types.specs.declared.messages.Entry.{Entry}
use Rattle.rl_events.specs.declared.channel.ChannelReply.{ChannelReply}
use Rattle.rl_pages.specs.State.{Sequences, page_frame}
use Rattle.rl_connsm.specs.Rules.{is_connected}
use Rattle.rl_names.specs.Names.{at, with_entry}
use Rattle.rl_clientmodel.specs.Channels.{ClientChannel}
use Rattle.rl_clientmodel.specs.States.{ClientState}
use Rattle.rl_clientmodel.specs.Hearing.{hears}
use Rattle.rl_actormodel.specs.declared.parts.Session.{Session}
use Rattle.rl_actormodel.specs.Reads.{entry_frame}
use Rattle.rl_actormodel.specs.Pagings as actor
use Rattle.rl_lanes.specs.Lanes.{Setup, Coming, Gives, frame_of}
use Rattle.rl_lanes.specs.Moves.{ends_here, page_in, got}

pub record FramesAreTheMachines : Type 0 where
  -- the actor puts out these entries, these pages, and these end pages
  pub entries : (setup : Setup) (epoch : ℕ) (entries : List Entry) → map (frame_of setup) (map (Gives epoch) entries) ≡ map (entry_frame setup.name epoch) entries
  pub pages : (setup : Setup) (told : ChannelReply) (pages : Sequences) → pages.channel ≡ setup.name → map (frame_of setup) (page_in told pages) ≡ option_to_list (page_frame told pages)
  pub ends : (setup : Setup) (session : Session) → session.pages.channel ≡ setup.name → map (frame_of setup) (ends_here session) ≡ actor.ends_here session
  -- the client that hears the frame makes this of its channel, and nothing of others
  pub heard : (setup : Setup) (coming : Coming) (now : ℕ) (state : ClientState) (channel : ClientChannel) → at setup.name state.channels ≡ Some channel
      → (hears (frame_of setup coming) now state).state.channels ≡ with_entry setup.name (got setup coming (is_connected state.conn) now channel) state.channels
  -- nor of one that it doesn't know
  pub unheard : (setup : Setup) (coming : Coming) (now : ℕ) (state : ClientState) → at setup.name state.channels ≡ None
      → (hears (frame_of setup coming) now state).state.channels ≡ state.channels
