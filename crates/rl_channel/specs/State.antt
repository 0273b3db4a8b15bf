-- What a channel keeps, and the history that it stands for.
use Rattle.std.specs.Prelude.{◌≡◌, ℕ, List, ◌∷◌, Bool, true, false, ◌+◌, max, Option, Some, None}
use Rattle.std.specs.List.{AllByRecursion}
use Rattle.rl_events.specs.declared.channel.ChannelEvent.{ChannelEvent}
use Rattle.rl_events.specs.declared.channel.ChannelEvent.TheVariants.{Put, Join, Gone, Tick, Census}
use Rattle.rl_events.specs.declared.channel.ChannelReply.{ChannelReply}
use Rattle.rl_events.specs.declared.channel.Verdict.{Verdict}
use Rattle.rl_types.specs.declared.messages.Body.{Body}
use Rattle.rl_types.specs.declared.messages.Entry.{Entry}
use Rattle.rl_types.specs.declared.objects.ObjectState.{ObjectState}
use Rattle.rl_objmodel.specs.Held.{Held}
use Rattle.rl_objmodel.specs.Operations.{Stamped, id_of}
use Rattle.rl_ids.specs.Objects.{IsIdInRange}
use Rattle.rl_channel.specs.Steps.{settled_at, verdict_of}
use Rattle.rl_types.specs.declared.presence.PresenceItem.{PresenceItem}
use Rattle.rl_model.specs.History.{clock}
use Rattle.rl_model.specs.Ids.{filled}
use Rattle.rl_model.specs.Verdict.{log}
use Rattle.rl_model.specs.Members.{members}
use Rattle.rl_model.specs.Objects.{operated}
use Rattle.rl_model.specs.Parts.{Parts, parts_of}
use Rattle.rl_model.specs.Reply.{gone_place, objects_at, reply, states_at}
use Rattle.rl_chanlog.specs.Keeps.{ChanLogView, Keeps}
use Rattle.rl_channel.specs.declared.channel.ChannelSetup.{ChannelSetup}

pub record ChannelState : Type 0 where
  pub setup : ChannelSetup
  pub log : ChanLogView
  pub members : List PresenceItem
  pub objects : List Held
  pub clock : ℕ

-- the moments of the ids that these operations name fit their type
abbrev pub IdsFit : List Stamped → Type 0
IdsFit latest = AllByRecursion (λ (one : Stamped). IsIdInRange (id_of one)) latest

-- the objects are those that this history leaves
pub record KeepsObjects (site : List ℕ) (objects : List Held) (past : List ChannelEvent) : Type 0 where
  pub same : objects ≡ objects_at site past
  pub fit : IdsFit (operated (log site past))

-- what is kept is what this history leaves of a channel of this site. The latest event is given first
pub record StandsAt (site : List ℕ) (state : ChannelState) (past : List ChannelEvent) : Type 0 where
  pub keeps : Keeps state.log (parts_of site past)
  pub members : state.members ≡ members (log site past)
  pub objects : KeepsObjects site state.objects past
  pub clock : state.clock ≡ clock past

-- the channel stands for this history
abbrev pub StandsFor : ChannelState → List ChannelEvent → Type 0
StandsFor state past = StandsAt state.setup.site state past

-- a Put
pub record Putting : Type 0 where
  pub conn : ℕ
  pub serial : ℕ
  pub body : Body
  pub now : ℕ

-- the entry of a Put that is added to what is kept
abbrev pub next_entry : ChannelState → ℕ → ℕ → Body → ℕ → Entry
next_entry state conn serial body now =
    record {
      place = state.log.head + 1;
      stamp = max now state.clock;
      conn = conn;
      serial = Some serial;
      body = filled state.setup.site (state.log.head + 1) conn serial (max now state.clock) body;
    }

-- after this history a Put is answered so, and what is kept after it stands for the history with it
abbrev pub IsDecided : ChannelState → ChannelState → List ChannelEvent → Putting → Verdict → Type 0
IsDecided old new past put answer =
    (answer ≡ verdict_of old.setup.site past put.conn put.serial put.body put.now) × StandsFor new (Put put.conn put.serial put.body put.now ∷ past)

-- of each history that the channel stood for: a Put after it is answered so, and what is kept now stands for the history
-- with the Put
abbrev pub Decides : ChannelState → ChannelState → Putting → Verdict → Type 0
Decides old new put answer = (past : List ChannelEvent) → StandsFor old past → IsDecided old new past put answer

-- the same of each history after which no rule before the limit of members decides the Put
abbrev pub DecidesLate : ChannelState → ChannelState → Putting → Verdict → Type 0
DecidesLate old new put answer =
    (past : List ChannelEvent) → StandsFor old past → settled_at old.setup.site past put.conn put.serial put.body ≡ None → IsDecided old new past put answer

-- now the channel stands for each history that it stood for
abbrev pub Stays : ChannelState → ChannelState → Type 0
Stays old new = (past : List ChannelEvent) → StandsFor old past → StandsFor new past

-- now its log stands for all that it stood for
abbrev pub StaysLog : ChannelState → ChannelState → Type 0
StaysLog old new = (parts : Parts) → Keeps old.log parts → Keeps new.log parts

-- the members that a history leaves of this channel
abbrev pub members_after : ChannelState → List ChannelEvent → List PresenceItem
members_after state past = members (log state.setup.site past)

-- the objects that it leaves of it, as pages show them
abbrev pub objects_after : ChannelState → List ChannelEvent → List ObjectState
objects_after state past = states_at state.setup.site past

-- of each history that the channel stood for: a connection that is gone after it is answered so, and what is kept now
-- stands for the history with that
abbrev pub Loses : ChannelState → ChannelState → ℕ → ℕ → Option ℕ → Type 0
Loses old new conn now place =
    (past : List ChannelEvent) → StandsFor old past → (place ≡ gone_place old.setup.site past conn now) × StandsFor new (Gone conn now ∷ past)

-- after each history that the channel stands for, this is the reply to the event
abbrev pub Replies : ChannelState → ChannelEvent → ChannelReply → Type 0
Replies state event answer = (past : List ChannelEvent) → StandsFor state past → answer ≡ reply state.setup.epoch state.setup.site past event

-- of each history that the channel stood for: this is the reply to the event after it, and what is kept now stands for
-- the history with the event
abbrev pub Steps : ChannelState → ChannelState → ChannelEvent → ChannelReply → Type 0
Steps old new event answer =
    (past : List ChannelEvent) → StandsFor old past → (answer ≡ reply old.setup.epoch old.setup.site past event) × StandsFor new (event ∷ past)

-- the events that take no memory
abbrev pub is_spare : ChannelEvent → Bool
is_spare (Join asked) = true
is_spare (Tick now) = true
is_spare Census = true
is_spare _ = false
