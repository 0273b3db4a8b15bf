-- Why acknowledgements are of what channels decided, as what every action keeps: each outcome that the book was told, that
-- an actor has in hand and that is under way to a client is one that a channel decided.
use Rattle.std.specs.Prelude.{◌≡◌, ℕ, ◌<◌, ⊤, true, false, List, map, length, Option, Some, None, ◌⊎◌, slice_get}
use Rattle.std.specs.List.{AllByRecursion}
use Rattle.rl_numbers.specs.declared.codes.TheConstants.{CHANNEL_LIMIT}
use Rattle.rl_ids.specs.Forms.{conn_text}
use Rattle.rl_types.specs.declared.states.ConnState.{ConnState}
use Rattle.rl_types.specs.declared.states.ConnState.TheVariants as conn
use Rattle.rl_types.specs.declared.frames.Frame.{Frame}
use Rattle.rl_types.specs.declared.frames.Frame.TheVariants as frames
use Rattle.rl_events.specs.declared.book.BookEvent.{BookEvent}
use Rattle.rl_events.specs.declared.book.BookEvent.TheVariants.{End}
use Rattle.rl_events.specs.declared.channel.ChannelEvent.{ChannelEvent}
use Rattle.rl_events.specs.declared.channel.ChannelEvent.TheVariants.{Put}
use Rattle.rl_events.specs.declared.channel.Verdict.{Verdict}
use Rattle.rl_events.specs.declared.channel.Outcome.{Outcome}
use Rattle.rl_events.specs.declared.channel.Outcome.TheVariants.{Taken, Refused}
use Rattle.rl_runs.specs.declared.findings.Answer.{Answer}
use Rattle.rl_runs.specs.declared.findings.Answer.TheVariants.{Ack, Nack}
use Rattle.rl_connbook.specs.Records.{Answered}
use Rattle.rl_connbook.specs.Laws.{SomeOf}
use Rattle.rl_directory.specs.Directory.{is_full}
use Rattle.rl_model.specs.Verdict.{Decision, decisions}
use Rattle.rl_clientmodel.specs.States.{ClientState}
use Rattle.rl_clientmodel.specs.Keys.{before_mark}
use Rattle.rl_actormodel.specs.declared.parts.Holder.{Holder}
use Rattle.rl_actormodel.specs.declared.parts.Wish.{Wish}
use Rattle.rl_actormodel.specs.declared.parts.Wish.TheVariants as wishes
use Rattle.rl_actormodel.specs.State as actor
use Rattle.rl_worldmodel.specs.World.{World, Transport, the_site, latest}
use Rattle.rl_worldtold.specs.Given.{IsDecided}
use Rattle.rl_worldtold.specs.Told.{IsTaken, IsRefused}

-- WHAT A CHANNEL DECIDED

abbrev pub Channels : Type 0
Channels = List (List ℕ × List ChannelEvent)

abbrev pub names_of : Channels → List (List ℕ)
names_of channels = map (λ (c : List ℕ × List ChannelEvent). c.0) channels

abbrev pub IsPutBy : ℕ → ℕ → ChannelEvent → Type 0
IsPutBy conn serial (Put c s body now) = (c ≡ conn) × (s ≡ serial)
IsPutBy conn serial event = ⊥

-- some channel decided a Put of this connection and serial so
abbrev pub Decides : Channels → ℕ → ℕ → (Option Verdict → Type 0) → Type 0
Decides channels conn serial P =
    SomeOf (λ (c : List ℕ × List ChannelEvent). SomeOf (λ (d : Decision). IsPutBy conn serial d.event × P d.verdict) (decisions the_site c.1)) channels

-- an outcome is true of a connection and serial where a channel decided so, or the directory is full and the code says it
abbrev pub IsTrueOf : Channels → ℕ → ℕ → Outcome → Type 0
IsTrueOf channels conn serial (Taken place) = Decides channels conn serial IsTaken
IsTrueOf channels conn serial (Refused code) =
    Decides channels conn serial (IsRefused code) ⊎ ((is_full (names_of channels) ≡ true) × (code ≡ CHANNEL_LIMIT))

-- OUTCOMES THAT THE BOOK WAS TOLD, and so those that it keeps

abbrev pub IsTrueEnd : Channels → BookEvent → Type 0
IsTrueEnd channels (End conn generation serial (Some outcome)) = IsTrueOf channels conn serial outcome
IsTrueEnd channels event = ⊤

-- WHAT AN ACTOR HAS IN HAND

-- it has a connection, of which this holds
abbrev pub OnHolder : Option Holder → (Holder → Type 0) → Type 0
OnHolder None P = ⊥
OnHolder (Some holder) P = P holder

-- an actor that opens has no connection; what it wants for one is for its own
abbrev pub IsHeldBy : Option Holder → Wish → Type 0
IsHeldBy holder (wishes.Resume key) = holder ≡ None
IsHeldBy holder wishes.Open = holder ≡ None
IsHeldBy holder (wishes.Lost h) = holder ≡ Some h
IsHeldBy holder (wishes.Close h) = holder ≡ Some h
IsHeldBy holder (wishes.Begin p h) = holder ≡ Some h
IsHeldBy holder (wishes.AskToPut p h) = holder ≡ Some h
IsHeldBy holder (wishes.Put p h number) = holder ≡ Some h
IsHeldBy holder (wishes.Finish p h outcome) = holder ≡ Some h
IsHeldBy holder wish = ⊤

-- the outcome in hand is true, and the number in hand is a channel's
abbrev pub IsTrueWish : Channels → Wish → Type 0
IsTrueWish channels (wishes.Put p h number) = number < length channels
IsTrueWish channels (wishes.Finish p h (Some outcome)) = IsTrueOf channels h.conn p.serial outcome
IsTrueWish channels wish = ⊤

-- WHAT IS PUT OUT

-- CONNECTED tells the id of the actor's connection, and a key that begins with it; each acknowledgement is of one serial, and
-- true of that connection
abbrev pub IsTrueFrame : Channels → Option Holder → Frame → Type 0
IsTrueFrame channels holder (frames.Connected id key ttl idle size code) = OnHolder holder (λ h. (id ≡ conn_text h.conn) × (before_mark key ≡ id))
IsTrueFrame channels holder (frames.Ack serial count) = OnHolder holder (λ h. (count ≡ 1) × Decides channels h.conn serial IsTaken)
IsTrueFrame channels holder (frames.Nack serial count code) = OnHolder holder (λ h. (count ≡ 1) × IsTrueOf channels h.conn serial (Refused code))
IsTrueFrame channels holder frame = ⊤

pub record IsTrueActor (channels : Channels) (s : actor.State) : Type 0 where
  pub held : IsHeldBy s.holder s.wish
  pub wish_true : IsTrueWish channels s.wish
  pub known : AllByRecursion (λ (e : List ℕ × ℕ). e.1 < length channels) s.numbers
  pub put_out : AllByRecursion (IsTrueFrame channels s.holder) s.waiting

-- so all that was ever put on its transport
pub record IsTrueTransport (channels : Channels) (t : Transport) : Type 0 where
  pub of_actor : IsTrueActor channels t.actor
  pub on_way : AllByRecursion (IsTrueFrame channels t.actor.holder) t.to_client.put

pub record IsTrueService (world : World) : Type 0 where
  pub book : IsDecided world.book
  pub ends : AllByRecursion (λ (a : Answered). IsTrueEnd world.channels a.event) world.book
  pub each : AllByRecursion (IsTrueTransport world.channels) world.transports

-- CLIENTS

-- the connection stands
abbrev pub IsOn : ConnState → Type 0
IsOn conn.Connected = ⊤
IsOn conn.Closing = ⊤
IsOn state = ⊥

abbrev pub IsTrueAnswer : Channels → Answer → Type 0
IsTrueAnswer channels (Ack id serial) = (conn : ℕ) × (conn_text conn ≡ id) × Decides channels conn serial IsTaken
IsTrueAnswer channels (Nack id serial code) = (conn : ℕ) × (conn_text conn ≡ id) × IsTrueOf channels conn serial (Refused code)

-- while the connection stands, its id is that of the latest transport's actor, where this transport is not cut
abbrev pub IsLinked : World → List ℕ → ClientState → Type 0
IsLinked world name state =
    IsOn state.conn → (k : ℕ) (t : Transport) → latest name world ≡ Some k → slice_get world.transports k ≡ Some t → t.cut ≡ false
    → OnHolder t.actor.holder (λ h. state.id ≡ Some (conn_text h.conn))

pub record IsTrueClient (world : World) (c : List ℕ × ClientState) : Type 0 where
  pub answers : AllByRecursion (IsTrueAnswer world.channels) c.1.answers
  pub linked : IsLinked world c.0 c.1

pub record IsTrueWorld (world : World) : Type 0 where
  pub service : IsTrueService world
  pub clients : AllByRecursion (IsTrueClient world) world.clients
