-- A world whose client is to be served.
use Rattle.std.specs.Prelude.{◌≡◌, ℕ, Bool, true, false, [], List, Option, Some, None}
use Rattle.rl_types.specs.declared.states.ConnState.{ConnState}
use Rattle.rl_types.specs.declared.states.ConnState.TheVariants.{Connecting, Connected}
use Rattle.rl_model.specs.declared.plain.Client.{Client}
use Rattle.rl_model.specs.declared.plain.Sent.{Sent}
use Rattle.rl_model.specs.Client.{connected}
use Rattle.rl_ids.specs.Forms.{conn_text}
use Rattle.rl_runs.specs.declared.findings.Answer.{Answer}
use Rattle.rl_runs.specs.declared.findings.Answer.TheVariants.{Ack, Nack}
use Rattle.rl_model.specs.World.{World, with_client, the_conn}
use Rattle.rl_world.specs.State.{WorldState, Shows}

-- a connecting client is connected, and a connected one stays; no other is to be served
abbrev pub IsReady : ConnState → Client → Client → Bool → Type 0
IsReady Connecting old new is = (is ≡ true) × (new ≡ connected old)
IsReady Connected old new is = (is ≡ true) × (new ≡ old)
IsReady _ old new is = (is ≡ false) × (new ≡ old)

abbrev pub IsReadyFrom : ConnState → World → Client → WorldState → Bool → Type 0
IsReadyFrom Connecting world client new is = (is ≡ true) × Shows new (with_client world (connected client))
IsReadyFrom Connected world client new is = (is ≡ true) × Shows new (with_client world client)
IsReadyFrom _ world client new is = (is ≡ false) × Shows new world

-- the same of a world, which may have no client
abbrev pub MakesReady : World → Option Client → WorldState → Bool → Type 0
MakesReady world None new is = (is ≡ false) × Shows new world
MakesReady world (Some client) new is = IsReadyFrom client.conn world client new is

abbrev pub TakesFrom : Option Client → WorldState → WorldState → List Sent → Type 0
TakesFrom None old new sent = (new ≡ old) × (sent ≡ [])
TakesFrom (Some client) old new sent = (new ≡ record old { client = Some (record client { sent = [] }) }) × (sent ≡ client.sent)

-- what the client has sent is taken away: nothing, where there is no client
abbrev pub TakesSent : WorldState → WorldState → List Sent → Type 0
TakesSent old new sent = TakesFrom old.client old new sent

-- the acknowledgement of the client's message with this serial, or its refusal with this code
abbrev pub acknowledgement : ℕ → Option ℕ → Answer
acknowledgement serial None = Ack (conn_text the_conn) serial
acknowledgement serial (Some code) = Nack (conn_text the_conn) serial code
