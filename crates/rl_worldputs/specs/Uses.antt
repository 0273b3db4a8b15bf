-- Why a serial of a connection is put on one channel alone, as what every action keeps: a client gives each serial of its
-- connection to one frame, no other client gives serials of that connection, and what the service has in hand and puts has
-- the serial and the channel of such a frame.
use Rattle.std.specs.Prelude.{◌≡◌, ℕ, ◌≤◌, ◌<◌, ◌^◌, ⊤, false, List, Option, Some, ◌⊎◌, slice_get}
use Rattle.std.specs.List.{AllByRecursion}
use Rattle.rl_ids.specs.Forms.{conn_text}
use Rattle.rl_types.specs.declared.states.ConnState.TheVariants as conn
use Rattle.rl_types.specs.declared.frames.Frame.{Frame}
use Rattle.rl_types.specs.declared.frames.Frame.TheVariants as frames
use Rattle.rl_types.specs.declared.frames.Head.{Head}
use Rattle.rl_events.specs.declared.channel.ChannelEvent.{ChannelEvent}
use Rattle.rl_events.specs.declared.channel.ChannelEvent.TheVariants.{Put}
use Rattle.rl_runs.specs.declared.findings.Answer.{Answer}
use Rattle.rl_ackq.specs.declared.pending.Pending.{Pending}
use Rattle.rl_ackq.specs.Queue.{Queue}
use Rattle.rl_connbook.specs.Records.{Answered}
use Rattle.rl_connbook.specs.Book.{last_number}
use Rattle.rl_connbook.specs.Laws.{SomeOf}
use Rattle.rl_clientmodel.specs.States.{ClientState}
use Rattle.rl_actormodel.specs.declared.parts.Holder.{Holder}
use Rattle.rl_actormodel.specs.declared.parts.Publish.{Publish}
use Rattle.rl_actormodel.specs.declared.parts.Wish.{Wish}
use Rattle.rl_actormodel.specs.declared.parts.Wish.TheVariants as wishes
use Rattle.rl_actormodel.specs.State as actor
use Rattle.rl_worldmodel.specs.World.{World, Transport, the_range, latest}
use Rattle.rl_worldmodel.specs.Services.{feed_conn}
use Rattle.rl_worldtold.specs.Truth.{names_of, OnHolder}
use Rattle.rl_worldtold.specs.Listed.{pair_of, AreDistinct}

-- USES

-- a client gave the serial of the connection with this id to a frame of this channel
pub record Use : Type 0 where
  pub id : List ℕ
  pub serial : ℕ
  pub channel : List ℕ
  pub giver : List ℕ  -- the client's name

abbrev pub IsThis : List ℕ → ℕ → List ℕ → Use → Type 0
IsThis id serial channel one = (one.id ≡ id) × (one.serial ≡ serial) × (one.channel ≡ channel)

abbrev pub IsUse : List Use → List ℕ → ℕ → List ℕ → Type 0
IsUse uses id serial channel = SomeOf (IsThis id serial channel) uses

-- the client of this name gave it
abbrev pub IsBy : List Use → List ℕ → ℕ → List ℕ → Type 0
IsBy uses id serial giver = SomeOf (λ (one : Use). (one.id ≡ id) × (one.serial ≡ serial) × (one.giver ≡ giver)) uses

-- each serial of a connection was given by one client
abbrev pub AreGivenByOne : List Use → Type 0
AreGivenByOne uses = (id : List ℕ) (serial : ℕ) (one two : List ℕ) → IsBy uses id serial one → IsBy uses id serial two → one ≡ two

-- each serial of a connection was given to frames of one channel
abbrev pub AreSingle : List Use → Type 0
AreSingle uses = (id : List ℕ) (serial : ℕ) (one two : List ℕ) → IsUse uses id serial one → IsUse uses id serial two → one ≡ two

-- those of a connection are below this one
abbrev pub AreBelow : List Use → List ℕ → ℕ → Type 0
AreBelow uses id next = (serial : ℕ) (channel : List ℕ) → IsUse uses id serial channel → serial < next

-- a connection has none
abbrev pub IsUnused : List Use → List ℕ → Type 0
IsUnused uses id = (serial : ℕ) (channel : List ℕ) → IsUse uses id serial channel → ⊥

-- the id is of a connection that was given
abbrev pub IsGivenId : List Answered → List ℕ → Type 0
IsGivenId book id = (conn : ℕ) × (conn_text conn ≡ id) × (conn ≤ last_number the_range book)

-- FRAMES

abbrev pub OnHead : (ℕ → List ℕ → Type 0) → Head → Type 0
OnHead P head = (serial : ℕ) → head.msg ≡ Some serial → P serial head.channel

-- of the message serial and the channel of a frame that has them this holds
abbrev pub OnFrame : (ℕ → List ℕ → Type 0) → Frame → Type 0
OnFrame P (frames.Message head items) = OnHead P head
OnFrame P (frames.Presence head items) = OnHead P head
OnFrame P (frames.Object head ops) = OnHead P head
OnFrame P frame = ⊤

-- a frame without a message serial
abbrev pub IsPlain : Frame → Type 0
IsPlain frame = OnFrame (λ serial channel. ⊥) frame

-- a frame of the connection with this id
abbrev pub IsUseOf : List Use → List ℕ → Frame → Type 0
IsUseOf uses id frame = OnFrame (λ serial channel. IsUse uses id serial channel) frame

abbrev pub IsUseBy : List Use → Option Holder → ℕ → List ℕ → Type 0
IsUseBy uses holder serial channel = OnHolder holder (λ h. IsUse uses (conn_text h.conn) serial channel)

-- a frame of the connection that the actor serves
abbrev pub IsSent : List Use → Option Holder → Frame → Type 0
IsSent uses holder frame = OnFrame (IsUseBy uses holder) frame

-- CLIENTS

-- the frames that wait have serials that this client gave to them, and each that was given is below the next one
pub record IsNumbered (uses : List Use) (id : List ℕ) (name : List ℕ) (queue : Queue) : Type 0 where
  pub below : AreBelow uses id queue.next
  pub waiting : AllByRecursion (λ (one : Pending). IsUseOf uses id one.frame × IsBy uses id one.serial name) queue.pending

-- a connection that was opened for this client, which has another one yet and has given no serial of it
pub record IsNew (uses : List Use) (owner : List ℕ → Option (List ℕ)) (name : List ℕ) (held : Option (List ℕ)) (id : List ℕ) : Type 0 where
  pub mine : owner id ≡ Some name
  pub other : held ≡ Some id → ⊥
  pub unused : IsUnused uses id

-- what an actor serves is the client's connection, or such a new one
abbrev pub MayServe : List Use → (List ℕ → Option (List ℕ)) → List ℕ → Option (List ℕ) → Option Holder → Type 0
MayServe uses owner name held holder =
    (h : Holder) → holder ≡ Some h → (held ≡ Some (conn_text h.conn)) ⊎ IsNew uses owner name held (conn_text h.conn)

-- of a client's latest transport, where it is not cut, this holds
abbrev pub OnLatest : World → List ℕ → (Transport → Type 0) → Type 0
OnLatest world name P = (k : ℕ) (t : Transport) → latest name world ≡ Some k → slice_get world.transports k ≡ Some t → t.cut ≡ false → P t

pub record IsClientUsing (uses : List Use) (owner : List ℕ → Option (List ℕ)) (world : World) (c : List ℕ × ClientState) : Type 0 where
  pub own : (id : List ℕ) → c.1.id ≡ Some id → owner id ≡ Some c.0
  pub numbered : (id : List ℕ) → c.1.id ≡ Some id → IsNumbered uses id c.0 c.1.queue
  pub listed : AllByRecursion (λ (a : Answer). IsBy uses (pair_of a).0 (pair_of a).1 c.0) c.1.answers
  pub ready : c.1.conn ≡ conn.Connecting → OnLatest world c.0 (λ t. MayServe uses owner c.0 c.1.id t.actor.holder)

-- WHAT AN ACTOR HAS IN HAND

abbrev pub IsPublishOf : List Use → Publish → Holder → Type 0
IsPublishOf uses p h = IsUse uses (conn_text h.conn) p.serial p.channel

-- the channel has this number
abbrev pub HasNumber : List (List ℕ) → List ℕ → ℕ → Type 0
HasNumber names name number = slice_get names number ≡ Some name

abbrev pub IsWishUsing : List Use → List (List ℕ) → Wish → Type 0
IsWishUsing uses names (wishes.Begin p h) = IsPublishOf uses p h
IsWishUsing uses names (wishes.AskToPut p h) = IsPublishOf uses p h
IsWishUsing uses names (wishes.Put p h number) = IsPublishOf uses p h × HasNumber names p.channel number
IsWishUsing uses names wish = ⊤

pub record IsActorUsing (uses : List Use) (names : List (List ℕ)) (s : actor.State) : Type 0 where
  pub wishing : IsWishUsing uses names s.wish
  pub known : AllByRecursion (λ (e : List ℕ × ℕ). HasNumber names e.0 e.1) s.numbers

-- so all that a client ever sent on a transport
pub record IsLinkUsing (uses : List Use) (names : List (List ℕ)) (t : Transport) : Type 0 where
  pub of_actor : IsActorUsing uses names t.actor
  pub sent : AllByRecursion (IsSent uses t.actor.holder) t.to_service.put

-- WHAT CHANNELS TOOK

abbrev pub IsPutUsing : List Use → List ℕ → ChannelEvent → Type 0
IsPutUsing uses name (Put conn serial body now) = IsUse uses (conn_text conn) serial name × (conn < 2 ^ 32)
IsPutUsing uses name event = ⊤

abbrev pub IsChannelUsing : List Use → List ℕ × List ChannelEvent → Type 0
IsChannelUsing uses c = AllByRecursion (IsPutUsing uses c.0) c.1

-- WORLDS

-- with these uses, and this client's name for each connection
pub record IsUsing (uses : List Use) (owner : List ℕ → Option (List ℕ)) (world : World) : Type 0 where
  pub single : AreSingle uses
  pub givers : AreGivenByOne uses
  pub given : (id : List ℕ) (serial : ℕ) (channel : List ℕ) → IsUse uses id serial channel → IsGivenId world.book id
  pub owned : (id name : List ℕ) → owner id ≡ Some name → IsGivenId world.book id
  -- those of the connection of entries that no client puts, which no client holds
  pub fed : AreBelow uses (conn_text feed_conn) world.fed
  pub nobody : (name : List ℕ) → owner (conn_text feed_conn) ≡ Some name → ⊥
  pub apart : AreDistinct (names_of world.channels)
  pub puts : AllByRecursion (IsChannelUsing uses) world.channels
  pub links : AllByRecursion (IsLinkUsing uses (names_of world.channels)) world.transports
  pub each : AllByRecursion (IsClientUsing uses owner world) world.clients

-- there are such uses
pub record HasUses (world : World) : Type 0 where
  pub uses : List Use
  pub owner : List ℕ → Option (List ℕ)
  pub fits : IsUsing uses owner world
