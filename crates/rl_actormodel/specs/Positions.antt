-- To which place a session came, by the actor's inputs alone.
use Rattle.std.specs.Prelude.{◌≡◌, ℕ, ◌+◌, ◌==◌, if◌then◌else◌, List, [], ◌∷◌, length, Option, Some, None, option_map}
use Rattle.rl_types.specs.declared.messages.Entry.{Entry}
use Rattle.rl_runs.specs.declared.commands.Hello.{Hello}
use Rattle.rl_events.specs.declared.channel.ChannelEvent.TheVariants as events
use Rattle.rl_events.specs.declared.channel.ChannelReply.TheVariants as channel
use Rattle.rl_events.specs.declared.channel.ReadReply.TheVariants.{Run}
use Rattle.rl_events.specs.declared.calls.DirEvent.TheVariants.{Ask}
use Rattle.rl_events.specs.declared.calls.DirReply.TheVariants as directory
use Rattle.rl_events.specs.declared.calls.Call.TheVariants as calls
use Rattle.rl_events.specs.declared.calls.Reply.TheVariants as replies
use Rattle.rl_actormodel.specs.declared.parts.Session.{Session}
use Rattle.rl_names.specs.Names.{at}
use Rattle.rl_actormodel.specs.State.{begun}
use Rattle.rl_actormodel.specs.Inputs.{Input, Absorbed, after}
use Rattle.rl_actormodel.specs.Conditions.{AreAllowed}

-- so many entries more
abbrev pub further : List Entry → Option ℕ → Option ℕ
further entries before = option_map (λ (place : ℕ). place + length entries) before

-- a Join of the channel of this number tells the place, and each entry of a Read of it is one more
abbrev pub place_after : ℕ → Input → Option ℕ → Option ℕ
place_after number (Absorbed (calls.Chan other (events.Join asked)) (replies.Chan (channel.Joined serial resumed presence objects)) now) before =
    if other == number then Some serial.place else before
place_after number (Absorbed (calls.Chan other (events.Read from most)) (replies.Chan (channel.Read (Run entries))) now) before =
    if other == number then further entries before else before
place_after number input before = before

-- the place told by the last Join of the channel of this number, and one more for each entry read since
abbrev pub place_come_to : ℕ → List Input → Option ℕ
place_come_to number [] = None
place_come_to number (input ∷ before) = place_after number input (place_come_to number before)

-- the directory gives each number to one name
abbrev pub IsNamed : (ℕ → List ℕ) → Input → Type 0
IsNamed name_of (Absorbed (calls.Dir (Ask name)) (replies.Dir (directory.At number)) now) = name_of number ≡ name
IsNamed name_of input = Unit {0}

abbrev pub AreNamed : (ℕ → List ℕ) → List Input → Type 0
AreNamed name_of [] = Unit {0}
AreNamed name_of (input ∷ before) = IsNamed name_of input × AreNamed name_of before

-- a session is on the channel that has its name, at the place to which it came
pub record IsPlaced (name_of : ℕ → List ℕ) (inputs : List Input) (name : List ℕ) (session : Session) : Type 0 where
  pub channel_is : name_of session.number ≡ name
  pub place_is : place_come_to session.number inputs ≡ Some session.position

-- the position of each session is the place told when it began and one more for each entry of its reads since
abbrev pub PositionsAreKept : Type 0
PositionsAreKept =
    (name_of : ℕ → List ℕ) (hello : Hello) (start : ℕ) (inputs : List Input)
    → AreAllowed inputs (begun hello start) → AreNamed name_of inputs
    → (name : List ℕ) (session : Session) → at name (after hello start inputs).sessions ≡ Some session → IsPlaced name_of inputs name session
