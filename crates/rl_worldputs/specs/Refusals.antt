-- Why what a NACK tells holds of all channels, as what every action keeps: each refusal is of a Put that a channel refused,
-- or of a frame that an actor took up for a channel that a full directory has not.
use Rattle.std.specs.Prelude.{◌≡◌, ℕ, ⊤, true, List, take, Option, Some, None, ◌⊎◌}
use Rattle.std.specs.List.{AllByRecursion}
use Rattle.rl_ids.specs.Forms.{conn_text}
use Rattle.rl_types.specs.declared.frames.Frame.{Frame}
use Rattle.rl_types.specs.declared.frames.Frame.TheVariants as frames
use Rattle.rl_events.specs.declared.book.BookEvent.{BookEvent}
use Rattle.rl_events.specs.declared.book.BookEvent.TheVariants.{End}
use Rattle.rl_events.specs.declared.channel.Outcome.TheVariants.{Refused}
use Rattle.rl_runs.specs.declared.findings.Answer.{Answer}
use Rattle.rl_runs.specs.declared.findings.Answer.TheVariants.{Nack}
use Rattle.rl_connbook.specs.Records.{Answered}
use Rattle.rl_connbook.specs.Laws.{SomeOf}
use Rattle.rl_directory.specs.Directory.{number_of, is_full}
use Rattle.rl_clientmodel.specs.States.{ClientState}
use Rattle.rl_actormodel.specs.declared.parts.Holder.{Holder}
use Rattle.rl_actormodel.specs.declared.parts.Wish.{Wish}
use Rattle.rl_actormodel.specs.declared.parts.Wish.TheVariants as wishes
use Rattle.rl_actormodel.specs.State as actor
use Rattle.rl_worldmodel.specs.World.{World, Transport}
use Rattle.rl_worldtold.specs.Told.{IsRefused}
use Rattle.rl_worldtold.specs.Truth.{Channels, names_of, Decides, OnHolder}

-- FRAMES THAT WERE TAKEN UP

-- the frame has this serial, and is of this channel
abbrev pub IsOf : ℕ → List ℕ → Frame → Type 0
IsOf serial channel (frames.Message head items) = (head.msg ≡ Some serial) × (head.channel ≡ channel)
IsOf serial channel (frames.Presence head items) = (head.msg ≡ Some serial) × (head.channel ≡ channel)
IsOf serial channel (frames.Object head ops) = (head.msg ≡ Some serial) × (head.channel ≡ channel)
IsOf serial channel frame = ⊥

-- the actor serves this connection, and took up such a frame
abbrev pub HasTaken : ℕ → ℕ → List ℕ → Transport → Type 0
HasTaken conn serial channel t = OnHolder t.actor.holder (λ h. h.conn ≡ conn) × SomeOf (IsOf serial channel) (take t.to_service.got t.to_service.put)

abbrev pub IsTakenUp : List Transport → ℕ → ℕ → List ℕ → Type 0
IsTakenUp transports conn serial channel = SomeOf (HasTaken conn serial channel) transports

-- REFUSALS

-- the directory is full, and has no number for the channel of a frame with this serial
pub record IsShutOut (names : List (List ℕ)) (transports : List Transport) (conn : ℕ) (serial : ℕ) : Type 0 where
  pub channel : List ℕ
  pub full : is_full names ≡ true
  pub none : number_of channel names ≡ None
  pub taken : IsTakenUp transports conn serial channel

abbrev pub IsRefusal : Channels → List Transport → ℕ → ℕ → ℕ → Type 0
IsRefusal channels transports conn serial code =
    Decides channels conn serial (IsRefused code) ⊎ IsShutOut (names_of channels) transports conn serial

-- WHAT THE SERVICE HAS IN HAND

-- what is put was taken up, and what is refused is so
abbrev pub IsWishSo : (ℕ → ℕ → ℕ → Type 0) → (ℕ → ℕ → List ℕ → Type 0) → Wish → Type 0
IsWishSo R G (wishes.Begin p h) = G h.conn p.serial p.channel
IsWishSo R G (wishes.AskToPut p h) = G h.conn p.serial p.channel
IsWishSo R G (wishes.Finish p h (Some (Refused code))) = R h.conn p.serial code
IsWishSo R G wish = ⊤

abbrev pub IsFrameSo : (ℕ → ℕ → ℕ → Type 0) → Option Holder → Frame → Type 0
IsFrameSo R holder (frames.Nack serial count code) = OnHolder holder (λ h. R h.conn serial code)
IsFrameSo R holder frame = ⊤

abbrev pub IsEndSo : (ℕ → ℕ → ℕ → Type 0) → BookEvent → Type 0
IsEndSo R (End conn generation serial (Some (Refused code))) = R conn serial code
IsEndSo R event = ⊤

pub record IsActorSo (R : ℕ → ℕ → ℕ → Type 0) (G : ℕ → ℕ → List ℕ → Type 0) (s : actor.State) : Type 0 where
  pub wishing : IsWishSo R G s.wish
  pub out : AllByRecursion (IsFrameSo R s.holder) s.waiting

pub record IsLinkSo (R : ℕ → ℕ → ℕ → Type 0) (G : ℕ → ℕ → List ℕ → Type 0) (t : Transport) : Type 0 where
  pub of_actor : IsActorSo R G t.actor
  pub on_way : AllByRecursion (IsFrameSo R t.actor.holder) t.to_client.put

-- WORLDS

pub record IsRefusing (world : World) : Type 0 where
  pub ends : AllByRecursion (λ (a : Answered). IsEndSo (IsRefusal world.channels world.transports) a.event) world.book
  pub links : AllByRecursion (IsLinkSo (IsRefusal world.channels world.transports) (IsTakenUp world.transports)) world.transports

-- what a client lists
abbrev pub IsAnswerSo : (ℕ → ℕ → ℕ → Type 0) → Answer → Type 0
IsAnswerSo R (Nack id serial code) = (conn : ℕ) × (conn_text conn ≡ id) × R conn serial code
IsAnswerSo R answer = ⊤

abbrev pub AreAnswersSo : World → Type 0
AreAnswersSo world = AllByRecursion (λ (c : List ℕ × ClientState). AllByRecursion (IsAnswerSo (IsRefusal world.channels world.transports)) c.1.answers) world.clients
