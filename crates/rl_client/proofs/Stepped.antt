-- What a step of one channel makes of a client.
use Rattle.std.proofs.Common.{◌≡◌, ℕ, List, refl}
use Rattle.std.specs.Prelude.{Option, Some, None}
use Rattle.rl_names.specs.Names.{at}
use Rattle.rl_clientmodel.specs.declared.steps.ChannelStep.{ChannelStep}
use Rattle.rl_clientmodel.specs.Channels.{ClientChannel, channel_after, new_channel}
use Rattle.rl_clientmodel.specs.Commands.{channel_or_new}
use Rattle.rl_clientmodel.specs.States.{ClientState, sending, step_channel, stepped}
use Rattle.rl_clientchannels.specs.Changes.{asks_at, asks_if, changed_at, changed_if}

stepped_by : (step : ChannelStep) (name : List ℕ) (found : Option ClientChannel) (state : ClientState) → stepped step name found state ≡ sending (asks_if step name found) (record state { channels = changed_if name (channel_after step) found state.channels })
stepped_by step name None state = refl
stepped_by step name (Some channel) state = refl

pub stepped_is : (step : ChannelStep) (name : List ℕ) (state : ClientState) → step_channel step name state ≡ sending (asks_at step name state.channels) (record state { channels = changed_at name (channel_after step) state.channels })
stepped_is step name state = stepped_by step name (at name state.channels) state

-- a channel that is known, or a new one
pub known_is : (step : ChannelStep) (name : List ℕ) (channel : ClientChannel) (state : ClientState) → at name state.channels ≡ Some channel → step_channel step name state ≡ stepped step name (Some (channel_or_new (at name state.channels))) state
known_is step name channel state is = rw is refl

pub unknown_is : (step : ChannelStep) (name : List ℕ) (state : ClientState) → at name state.channels ≡ None → stepped step name (Some new_channel) state ≡ stepped step name (Some (channel_or_new (at name state.channels))) state
unknown_is step name state is = rw is refl
