-- Why no client lists a connection and serial twice, as what every action keeps: with each CONNECTED a client has its own
-- connection again, or one of which it has listed nothing.
use Rattle.std.specs.Prelude.{◌≡◌, ℕ, ◌≤◌, ◌<◌, false, List, [], map, Option, Some, None, ◌⊎◌, slice_get}
use Rattle.std.specs.List.{AllByRecursion}
use Rattle.rl_ids.specs.Forms.{conn_text}
use Rattle.rl_types.specs.declared.states.ConnState.TheVariants as conn
use Rattle.rl_runs.specs.declared.findings.Answer.{Answer}
use Rattle.rl_ackq.specs.declared.pending.Pending.{Pending}
use Rattle.rl_ackq.specs.Queue.{Queue, RiseFrom}
use Rattle.rl_connbook.specs.Records.{Answered}
use Rattle.rl_connbook.specs.Book.{last_number}
use Rattle.rl_clientmodel.specs.States.{ClientState}
use Rattle.rl_clientmodel.specs.Keys.{before_mark}
use Rattle.rl_actormodel.specs.declared.parts.Holder.{Holder}
use Rattle.rl_actormodel.specs.declared.parts.Wish.{Wish}
use Rattle.rl_actormodel.specs.declared.parts.Wish.TheVariants as wishes
use Rattle.rl_actormodel.specs.State as actor
use Rattle.rl_worldmodel.specs.World.{World, Transport, the_range, latest}
use Rattle.rl_worldtold.specs.Listed.{pair_of, AreDistinct}

-- ONE CLIENT

-- an answer of the connection held is of a serial that was given and does not wait
abbrev pub IsOld : Option (List ℕ) → Queue → Answer → Type 0
IsOld id queue answer =
    id ≡ Some (pair_of answer).0 → ((pair_of answer).1 < queue.next) × AllByRecursion (λ (one : Pending). one.serial ≡ (pair_of answer).1 → ⊥) queue.pending

pub record IsOnce (id : Option (List ℕ)) (queue : Queue) (answers : List Answer) : Type 0 where
  pub rise : RiseFrom 0 queue.pending queue.next
  pub distinct : AreDistinct (map pair_of answers)
  pub old : AllByRecursion (IsOld id queue) answers

abbrev pub IsListedOnce : ClientState → Type 0
IsListedOnce state = IsOnce state.id state.queue state.answers

-- no answer is of this connection
abbrev pub IsUnheard : List ℕ → List Answer → Type 0
IsUnheard id answers = AllByRecursion (λ a. (pair_of a).0 ≡ id → ⊥) answers

-- an answer is of a connection that was given
abbrev pub IsGiven : List Answered → Answer → Type 0
IsGiven book a = (conn : ℕ) × (conn_text conn ≡ (pair_of a).0) × (conn ≤ last_number the_range book)

-- of a client by itself
pub record IsOwn (book : List Answered) (state : ClientState) : Type 0 where
  pub once : IsListedOnce state
  pub keyed : (key : List ℕ) → state.key ≡ Some key → state.id ≡ Some (before_mark key)
  pub new : state.conn ≡ conn.Initialized → state.answers ≡ []
  pub given : AllByRecursion (IsGiven book) state.answers

-- WHAT A CLIENT THAT CONNECTS MAY BE TOLD

-- the key by which an actor wants a connection back
abbrev pub asks : Wish → Option (List ℕ)
asks (wishes.Resume key) = Some key
asks wish = None

abbrev pub IsBelow : List Answered → Option Holder → Type 0
IsBelow book holder = (h : Holder) → holder ≡ Some h → h.conn ≤ last_number the_range book

-- the actor has a connection that is the client's own, or of which the client listed nothing; and asks for one by the
-- client's key alone
pub record MayTell (state : ClientState) (s : actor.State) : Type 0 where
  pub held : (h : Holder) → s.holder ≡ Some h → (state.id ≡ Some (conn_text h.conn)) ⊎ IsUnheard (conn_text h.conn) state.answers
  pub asked : (key : List ℕ) → asks s.wish ≡ Some key → state.key ≡ Some key

abbrev pub IsReady : World → List ℕ → ClientState → Type 0
IsReady world name state = state.conn ≡ conn.Connecting → (k : ℕ) (t : Transport) → latest name world ≡ Some k → slice_get world.transports k ≡ Some t → t.cut ≡ false → MayTell state t.actor

-- WORLDS

pub record IsTellable (world : World) (c : List ℕ × ClientState) : Type 0 where
  pub own : IsOwn world.book c.1
  pub ready : IsReady world c.0 c.1

pub record IsTelling (world : World) : Type 0 where
  pub holders : AllByRecursion (λ (t : Transport). IsBelow world.book t.actor.holder) world.transports
  pub clients : AllByRecursion (IsTellable world) world.clients
