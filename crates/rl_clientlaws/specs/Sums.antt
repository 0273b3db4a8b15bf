-- What becomes of the frames that a client queues: each is answered, waits, or was given up (RTN7). (This project's own.)
use Rattle.std.specs.Prelude.{◌≡◌, ℕ, ◌+◌, ◌-◌, ◌^◌, min, Bool, true, false, if◌then◌else◌, List, [], ◌∷◌, length, Option, Some, None}
use Rattle.rl_types.specs.declared.frames.Frame.{Frame}
use Rattle.rl_types.specs.declared.frames.Frame.TheVariants as frames
use Rattle.rl_runs.specs.declared.commands.Command.{Command}
use Rattle.rl_runs.specs.declared.commands.Command.TheVariants as commands
use Rattle.rl_connsm.specs.Rules.{forgets_connection}
use Rattle.rl_connsm.specs.declared.table.ConnEvent.{ConnEvent}
use Rattle.rl_connsm.specs.declared.table.ConnEvent.TheVariants as events
use Rattle.rl_ackq.specs.Queue.{Queue}
use Rattle.rl_names.specs.Names.{at}
use Rattle.rl_clientmodel.specs.Channels.{ClientChannel}
use Rattle.rl_clientmodel.specs.Answers.{is_answer}
use Rattle.rl_clientmodel.specs.Commands.{Refusal, refusal}
use Rattle.rl_clientmodel.specs.Hearing.{all_numbered, entering}
use Rattle.rl_clientmodel.specs.Inputs.{Input, Told, Heard, Unlinked, Ticked, Recovers, after, run}
use Rattle.rl_clientmodel.specs.States.{ClientState, new_state, state_after}
use Rattle.rl_clientmodel.specs.Times.{is_past_ttl, is_silent}

-- WHAT IS QUEUED

-- commands that need acknowledgement queue one frame each
abbrev pub queues_of : Command → ℕ
queues_of (commands.Publish name items) = 1
queues_of (commands.Enter name client payload) = 1
queues_of (commands.Update name client payload) = 1
queues_of (commands.Leave name client) = 1
queues_of (commands.Operate name ops) = 1
queues_of command = 0

-- unless they are refused
abbrev pub told_queues : Option Refusal → Command → ℕ
told_queues None command = queues_of command
told_queues (Some refusal) command = 0

-- own members that enter again, with the answer that their channel awaits, as far as there is room
abbrev pub entered_queues : Bool → List ℕ → ClientChannel → Queue → ℕ
entered_queues false name channel queue = 0
entered_queues true name channel queue = length (all_numbered (entering name channel.own) queue)

abbrev pub attached_queues : Option ClientChannel → List ℕ → Queue → ℕ
attached_queues None name queue = 0
attached_queues (Some channel) name queue = entered_queues (is_answer channel) name channel queue

abbrev pub heard_queues : Frame → ClientState → ℕ
heard_queues (frames.Attached name told flags code) state = attached_queues (at name state.channels) name state.queue
heard_queues frame state = 0

-- how many frames an input queues
abbrev pub queued_by : Input → ClientState → ℕ
queued_by (Told command now) state = told_queues (refusal command state) command
queued_by (Heard None now) state = 0
queued_by (Heard (Some frame) now) state = heard_queues frame state
queued_by (Unlinked now) state = 0
queued_by (Ticked now) state = 0
queued_by (Recovers key) state = 0

-- WHAT IS GIVEN UP

-- where an event gives the connection up, all frames that wait
abbrev pub given_up_at : ConnEvent → ClientState → ℕ
given_up_at event state = if forgets_connection (state_after event state) then length state.queue.pending else 0

abbrev pub told_gives_up : Option Refusal → Command → ClientState → ℕ
told_gives_up (Some refusal) command state = 0
told_gives_up None commands.Connect state = given_up_at events.Connect state
told_gives_up None commands.Close state = given_up_at events.CloseAsked state
told_gives_up None commands.Die state = given_up_at events.Died state
told_gives_up None command state = 0

abbrev pub error_gives_up : Option (List ℕ) → ClientState → ℕ
error_gives_up None state = given_up_at events.Fatal state
error_gives_up (Some channel) state = 0

abbrev pub heard_gives_up : Frame → ClientState → ℕ
heard_gives_up (frames.Disconnected code) state = given_up_at events.Disconnected state
heard_gives_up frames.Closed state = given_up_at events.ClosedGot state
heard_gives_up (frames.Error channel code) state = error_gives_up channel state
heard_gives_up frame state = 0

abbrev pub time_gives_up : Bool → Bool → ClientState → ℕ
time_gives_up true silent state = given_up_at events.Ttl state
time_gives_up false true state = given_up_at events.Down state
time_gives_up false false state = 0

-- how many frames an input gives up
abbrev pub given_up_by : Input → ClientState → ℕ
given_up_by (Told command now) state = told_gives_up (refusal command state) command state
given_up_by (Heard None now) state = 0
given_up_by (Heard (Some frame) now) state = heard_gives_up frame state
given_up_by (Unlinked now) state = given_up_at events.Down state
given_up_by (Ticked now) state = time_gives_up (is_past_ttl now state) (is_silent now state) state
given_up_by (Recovers key) state = 0

-- OVER ALL INPUTS, of which the latest stands first

abbrev pub all_queued : List Input → ClientState → ℕ
all_queued [] state = 0
all_queued (input ∷ before) state = all_queued before state + queued_by input (run before state)

abbrev pub all_given_up : List Input → ClientState → ℕ
all_given_up [] state = 0
all_given_up (input ∷ before) state = all_given_up before state + given_up_by input (run before state)

-- each frame that was queued was answered, waits, or was given up; those that were given up are counted
pub record IsAccountedFor (client : List ℕ) (inputs : List Input) : Type 0 where
  pub sum :
      length (after client inputs).answers + length (after client inputs).queue.pending + all_given_up inputs (new_state client)
      ≡ all_queued inputs (new_state client)
  pub counted : (after client inputs).dropped ≡ min (all_given_up inputs (new_state client)) (2 ^ 64 - 1)

-- whatever a client is told and hears
abbrev pub FramesAreAccountedFor : Type 0
FramesAreAccountedFor = (client : List ℕ) (inputs : List Input) → IsAccountedFor client inputs
