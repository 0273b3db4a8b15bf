-- What some commands make of a client: the words of which its calls speak.
use Rattle.std.specs.Prelude.{ℕ, List, Some, None}
use Rattle.rl_types.specs.declared.presence.PresenceAction.{PresenceAction}
use Rattle.rl_types.specs.declared.presence.PresenceAction.TheVariants as presence
use Rattle.rl_names.specs.Names.{at}
use Rattle.rl_clientmodel.specs.Commands.{attach_step, channel_or_new, enqueued, presence_frame, with_own, without_own}
use Rattle.rl_clientmodel.specs.States.{ClientState, Turn, change_channel, stepped}

-- a channel attaches, known or not
abbrev pub attaching : List ℕ → ℕ → ClientState → Turn
attaching name now state = stepped (attach_step now state) name (Some (channel_or_new (at name state.channels))) state

-- an own member enters, or its data change
abbrev pub acting_for : PresenceAction → List ℕ → List ℕ → List ℕ → ClientState → Turn
acting_for action name client payload state =
    enqueued (presence_frame action name client (Some payload)) (change_channel name (with_own client payload) state)

-- an own member leaves
abbrev pub leaving : List ℕ → List ℕ → ClientState → Turn
leaving name client state =
    enqueued (presence_frame presence.Leave name client None) (change_channel name (without_own client) state)
