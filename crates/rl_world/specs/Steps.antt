-- What a line makes of what is kept, where the channel machine has no part in it.
use Rattle.std.specs.Prelude.{ℕ, List, option_map}
use Rattle.rl_events.specs.declared.channel.ChannelEvent.{ChannelEvent}
use Rattle.rl_events.specs.declared.channel.Verdict.{Verdict}
use Rattle.rl_types.specs.declared.messages.Body.{Body}
use Rattle.rl_model.specs.Records.{the_site}
use Rattle.rl_channel.specs.Steps.{verdict_of}
use Rattle.rl_runs.specs.declared.commands.Command.{Command}
use Rattle.rl_types.specs.declared.states.ConnState.{ConnState}
use Rattle.rl_model.specs.declared.plain.Client.{Client}
use Rattle.rl_model.specs.Client.{act}
use Rattle.rl_world.specs.State.{WorldState}

-- the client does what it is told
abbrev pub acted : Command → WorldState → WorldState
acted command state = record state { client = option_map (act command) state.client }

-- the client's connection changes
abbrev pub with_conn : (ConnState → ConnState) → WorldState → WorldState
with_conn change state = record state { client = option_map (λ (client : Client). record client { conn = change client.conn }) state.client }

-- what a put at moment 0 is answered
abbrev pub put_verdict : List ChannelEvent → ℕ → ℕ → Body → Verdict
put_verdict past conn serial body = verdict_of the_site past conn serial body 0
