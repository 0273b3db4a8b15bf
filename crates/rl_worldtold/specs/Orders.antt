-- Why histories are orderly, as what every action keeps: a connection with a call in flight stands, and a channel is told
-- only of connections that do not stand any more.
use Rattle.std.specs.Prelude.{ℕ, ◌+◌, ◌-◌, ◌^◌, ◌≤◌, ◌<◌, ⊤, ◌==◌, if◌then◌else◌, List, [], ◌∷◌, Option, Some, None}
use Rattle.std.specs.List.{AllByRecursion}
use Rattle.rl_events.specs.declared.channel.ChannelEvent.{ChannelEvent}
use Rattle.rl_events.specs.declared.channel.ChannelEvent.TheVariants.{Gone}
use Rattle.rl_connbook.specs.Records.{Answered, busy_of, story}
use Rattle.rl_connbook.specs.Book.{numbers, last_number}
use Rattle.rl_connbook.specs.Laws.{IsIn}
use Rattle.rl_actormodel.specs.declared.parts.Wish.{Wish}
use Rattle.rl_actormodel.specs.declared.parts.Wish.TheVariants as wishes
use Rattle.rl_worldmodel.specs.World.{World, Transport, the_range}
use Rattle.rl_worldtold.specs.Orderly.{ArePutsBefore}

-- PUTS IN FLIGHT

-- between a Begin that was answered Go and its End an actor has one of three wishes: the connection for which it puts
abbrev pub flight : Wish → Option ℕ
flight (wishes.AskToPut p holder) = Some holder.conn
flight (wishes.Put p holder number) = Some holder.conn
flight (wishes.Finish p holder outcome) = Some holder.conn
flight wish = None

-- one, where it is this connection
abbrev pub one : ℕ → Option ℕ → ℕ
one conn None = 0
one conn (Some c) = if c == conn then 1 else 0

-- how many puts of a connection are in flight
abbrev pub in_flight : ℕ → List Transport → ℕ
in_flight conn [] = 0
in_flight conn (t ∷ ts) = one conn (flight t.actor.wish) + in_flight conn ts

-- THE BOOK

-- a number that was given and does not stand any more
pub record IsSpent (book : List Answered) (conn : ℕ) : Type 0 where
  pub real : 1 ≤ conn
  pub given : conn ≤ last_number the_range book
  pub away : IsIn conn (numbers book) → ⊥

-- the numbers that stand were given
abbrev pub AreWithin : List Answered → Type 0
AreWithin book = AllByRecursion (λ n. (the_range.after < n) × (n ≤ last_number the_range book)) (numbers book)

-- a busy count is not below the puts in flight; one that stands at its type's end says nothing
abbrev pub Counts : ℕ → ℕ → Type 0
Counts flights busy = busy < 2 ^ 64 - 1 → flights ≤ busy

-- each connection with a put in flight stands, and its busy count is not below its puts in flight
pub record IsHolding (book : List Answered) (flights : ℕ → ℕ) : Type 0 where
  pub within : AreWithin book
  pub standing : (conn : ℕ) → 1 ≤ flights conn → IsIn conn (numbers book)
  pub busy : (conn : ℕ) → Counts (flights conn) (busy_of (story conn book))

-- HISTORIES

abbrev pub IsGoneBy : (ℕ → Type 0) → ChannelEvent → Type 0
IsGoneBy P (Gone conn now) = P conn
IsGoneBy P event = ⊤

-- each Gone is of a connection that was given up, and no Put comes after it
pub record IsOrderedPast (book : List Answered) (past : List ChannelEvent) : Type 0 where
  pub gone : AllByRecursion (IsGoneBy (IsSpent book)) past
  pub puts : ArePutsBefore past

-- WORLDS

pub record IsOrderedBy (book : List Answered) (queue : List (ℕ × ℕ)) (channels : List (List ℕ × List ChannelEvent)) (flights : ℕ → ℕ) : Type 0 where
  pub holding : IsHolding book flights
  pub queued : AllByRecursion (λ (pair : ℕ × ℕ). IsSpent book pair.0) queue
  pub each : AllByRecursion (λ (c : List ℕ × List ChannelEvent). IsOrderedPast book c.1) channels

abbrev pub IsOrdered : World → Type 0
IsOrdered world = IsOrderedBy world.book world.queue world.channels (λ conn. in_flight conn world.transports)
