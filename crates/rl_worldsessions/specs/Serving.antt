-- What holds of each actor of every run. (This project's own.)
use Rattle.std.specs.Prelude.{◌≡◌, ℕ, ◌≤◌, ⊤, List, [], Some, slice_get}
use Rattle.std.specs.List.{AllByRecursion}
use Rattle.rl_events.specs.declared.channel.ChannelEvent.{ChannelEvent}
use Rattle.rl_events.specs.declared.calls.End.{End}
use Rattle.rl_objmodel.specs.Places.{AreRising}
use Rattle.rl_directory.specs.Directory.{number_of}
use Rattle.rl_model.specs.Verdict.{head}
use Rattle.rl_pages.specs.State.{Sequences}
use Rattle.rl_actormodel.specs.declared.parts.Session.{Session}
use Rattle.rl_actormodel.specs.declared.parts.Wish.{Wish}
use Rattle.rl_actormodel.specs.declared.parts.Wish.TheVariants as wishes
use Rattle.rl_actormodel.specs.State as actor
use Rattle.rl_worldmodel.specs.World.{World, Transport, the_epoch, the_site, past_of}
use Rattle.rl_worldtold.specs.Truth.{Channels, names_of}
use Rattle.rl_worldtold.specs.Runs.{HoldsOfRuns}

-- CHANNELS

-- the directory has given the name this number
abbrev pub HasNumber : Channels → List ℕ → ℕ → Type 0
HasNumber channels name number = number_of name (names_of channels) ≡ Some number

-- the history of the channel of this number, the latest event first
abbrev pub history_in : ℕ → Channels → List ChannelEvent
history_in number channels = past_of (slice_get channels number)

-- the place of the last entry of its log, or 0
abbrev pub last_place : ℕ → Channels → ℕ
last_place number channels = head the_site (history_in number channels)

-- SESSIONS

-- the pages of a sync are of the channel of this name, and none came from past its last entry
pub record ArePagesOf (name : List ℕ) (last : ℕ) (pages : Sequences) : Type 0 where
  pub named : pages.channel ≡ name
  pub members : pages.members.head ≤ last
  pub objects : pages.objects.head ≤ last

-- a session, with its channel's name: its number is the directory's, it stands within its channel's log, its epoch is the
-- run's, and its pages are its channel's
pub record IsSessionOf (channels : Channels) (e : List ℕ × Session) : Type 0 where
  pub numbered : HasNumber channels e.0 e.1.number
  pub within : e.1.position ≤ last_place e.1.number channels
  pub of_run : e.1.epoch ≡ the_epoch
  pub paged : ArePagesOf e.0 (last_place e.1.number channels) e.1.pages

-- ACTORS

-- the number in hand is its channel's
abbrev pub IsAddressed : Channels → Wish → Type 0
IsAddressed channels (wishes.Join asked number) = HasNumber channels asked.channel number
IsAddressed channels (wishes.Put p holder number) = HasNumber channels p.channel number
IsAddressed channels wish = ⊤

-- an actor that is ended wants nothing, or tells the book of the loss
abbrev pub IsLastWish : Wish → Type 0
IsLastWish wishes.Nothing = ⊤
IsLastWish (wishes.Lost holder) = ⊤
IsLastWish wish = ⊥

-- an actor's numbers are the directory's, its sessions are of their channels, each name once, the number in hand is its
-- channel's, and at its end it wants nothing more than to tell of the loss
pub record Serves (channels : Channels) (s : actor.State) : Type 0 where
  pub numbers : AllByRecursion (λ (e : List ℕ × ℕ). HasNumber channels e.0 e.1) s.numbers
  pub sessions : AllByRecursion (IsSessionOf channels) s.sessions
  pub once : AreRising s.sessions
  pub addressed : IsAddressed channels s.wish
  pub over : (why : End) → s.ended ≡ Some why → IsLastWish s.wish

-- so does the actor of a transport; and between two actions nothing waits in it
pub record IsServing (channels : Channels) (t : Transport) : Type 0 where
  pub of_actor : Serves channels t.actor
  pub flushed : t.actor.waiting ≡ []

-- all transports of a world have such actors
abbrev pub AreServing : World → Type 0
AreServing world = AllByRecursion (IsServing world.channels) world.transports

-- each actor of every run serves so
abbrev pub ActorsServe : Type 0
ActorsServe = HoldsOfRuns AreServing
