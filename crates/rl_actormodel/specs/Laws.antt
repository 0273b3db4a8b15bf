-- What is true of one actor whose inputs meet the conditions of its calls.
use Rattle.std.specs.Prelude.{◌≡◌, ℕ, ◌≤◌, Bool, true, false, List, [], ◌∷◌, ◌++◌, length, Some, None}
use Rattle.rl_numbers.specs.declared.limits.TheConstants.{MAX_OUTBOX}
use Rattle.rl_types.specs.declared.frames.Frame.{Frame}
use Rattle.rl_types.specs.declared.frames.Frame.TheVariants as frames
use Rattle.rl_runs.specs.declared.commands.Hello.{Hello}
use Rattle.rl_events.specs.declared.calls.End.{End}
use Rattle.rl_actormodel.specs.declared.parts.Wish.{Wish}
use Rattle.rl_actormodel.specs.declared.parts.Wish.TheVariants as wishes
use Rattle.rl_actormodel.specs.declared.parts.Holder.{Holder}
use Rattle.rl_actormodel.specs.State.{State, begun, is_free}
use Rattle.rl_actormodel.specs.Takes.{Came, A}
use Rattle.rl_actormodel.specs.Inputs.{Input, Took, after, put_out}
use Rattle.rl_actormodel.specs.Conditions.{AreAllowed}

-- AN END IS AN END

-- the actor stays ended as it was, and has put out the same frames
pub record IsSilent (hello : Hello) (start : ℕ) (before : List Input) (why : End) (more : List Input) : Type 0 where
  pub over : (after hello start (more ++ before)).ended ≡ Some why
  pub same : put_out hello start (more ++ before) ≡ put_out hello start before

-- an actor that is ended puts out nothing more but what waited
abbrev pub EndedIsSilent : Type 0
EndedIsSilent =
    (hello : Hello) (start : ℕ) (before more : List Input) (why : End)
    → (after hello start before).ended ≡ Some why → AreAllowed (more ++ before) (begun hello start) → IsSilent hello start before why more

-- THE CONNECTION

-- an actor that is not ended and wants no call serves a connection: so a put and a CLOSE have one to name
abbrev pub FreeIsConnected : Type 0
FreeIsConnected =
    (hello : Hello) (start : ℕ) (inputs : List Input)
    → AreAllowed inputs (begun hello start) → is_free (after hello start inputs) ≡ true
    → (holder : Holder) × ((after hello start inputs).holder ≡ Some holder)

-- ATTACH AND DETACH

-- what is asked by a frame, and what is answered by one, by the channel's name
pub data Ask : Type 0 where
  ToAttach : (channel : List ℕ) → Ask
  ToDetach : (channel : List ℕ) → Ask

abbrev pub ask_of : Frame → List Ask
ask_of (frames.Attach channel serial) = ToAttach channel ∷ []
ask_of (frames.Detach channel) = ToDetach channel ∷ []
ask_of frame = []

abbrev pub ask_in : Came → List Ask
ask_in (A frame) = ask_of frame
ask_in came = []

abbrev pub asks_in : Input → List Ask
asks_in (Took came now) = ask_in came
asks_in input = []

-- all ATTACHs and DETACHs that were taken up, in order
abbrev pub asks : List Input → List Ask
asks [] = []
asks (input ∷ before) = asks before ++ asks_in input

-- an ATTACH is answered by ATTACHED or by the channel's ERROR, a DETACH by DETACHED
abbrev pub answer_of : Frame → List Ask
answer_of (frames.Attached channel serial flags code) = ToAttach channel ∷ []
answer_of (frames.Error (Some channel) code) = ToAttach channel ∷ []
answer_of (frames.Detached channel code) = ToDetach channel ∷ []
answer_of frame = []

-- all answers among these frames, in order
abbrev pub answers : List Frame → List Ask
answers [] = []
answers (frame ∷ more) = answer_of frame ++ answers more

-- the ATTACH in hand
abbrev pub owed : Wish → List Ask
owed (wishes.AskToAttach asked) = ToAttach asked.channel ∷ []
owed (wishes.Join asked number) = ToAttach asked.channel ∷ []
owed wish = []

-- nothing is left without an answer, or one ATTACH
abbrev pub is_one_attach : List Ask → Bool
is_one_attach [] = true
is_one_attach (ToAttach channel ∷ []) = true
is_one_attach left = false

-- what was asked is what was answered, then what is in hand, then what is left without an answer: nothing unless the
-- actor is ended, and then at most one ATTACH
pub record AreAnswered (inputs : List Input) (s : State) (out : List Frame) : Type 0 where
  pub left : List Ask
  pub all : answers out ++ (owed s.wish ++ left) ≡ asks inputs
  pub none : s.ended ≡ None → left ≡ []
  pub quiet : (why : End) → s.ended ≡ Some why → owed s.wish ≡ []
  pub few : is_one_attach left ≡ true

-- each ATTACH and each DETACH is answered once, in order
abbrev pub AnsweredInOrder : Type 0
AnsweredInOrder =
    (hello : Hello) (start : ℕ) (inputs : List Input)
    → AreAllowed inputs (begun hello start) → AreAnswered inputs (after hello start inputs) (put_out hello start inputs)

-- THE OUTBOX

-- no more frames wait than may
abbrev pub OutboxIsBounded : Type 0
OutboxIsBounded =
    (hello : Hello) (start : ℕ) (inputs : List Input)
    → AreAllowed inputs (begun hello start) → length (after hello start inputs).waiting ≤ MAX_OUTBOX
