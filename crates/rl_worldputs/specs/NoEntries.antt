-- A refused Put has no entry on any channel (RTN7a).
use Rattle.std.specs.Prelude.{◌≡◌, ℕ, ⊤, List, Some}
use Rattle.std.specs.List.{AllByRecursion}
use Rattle.rl_ids.specs.Forms.{conn_text}
use Rattle.rl_types.specs.declared.messages.Entry.{Entry}
use Rattle.rl_events.specs.declared.channel.ChannelEvent.{ChannelEvent}
use Rattle.rl_runs.specs.declared.findings.Answer.{Answer}
use Rattle.rl_runs.specs.declared.findings.Answer.TheVariants.{Nack}
use Rattle.rl_model.specs.Verdict.{log}
use Rattle.rl_clientmodel.specs.States.{ClientState}
use Rattle.rl_worldmodel.specs.World.{World, the_site}
use Rattle.rl_worldtold.specs.Runs.{HoldsOfRuns}

-- no channel's log has an entry of the connection with this id, with this serial
abbrev pub HasNoEntry : World → List ℕ → ℕ → Type 0
HasNoEntry world id serial =
    AllByRecursion (λ (c : List ℕ × List ChannelEvent). AllByRecursion (λ (e : Entry). conn_text e.conn ≡ id → e.serial ≡ Some serial → ⊥) (log the_site c.1)) world.channels

-- so where an acknowledgement is a NACK
abbrev pub IsOfNoEntry : World → Answer → Type 0
IsOfNoEntry world (Nack id serial code) = HasNoEntry world id serial
IsOfNoEntry world answer = ⊤

abbrev pub AllOfNoEntry : World → Type 0
AllOfNoEntry world = AllByRecursion (λ (c : List ℕ × ClientState). AllByRecursion (IsOfNoEntry world) c.1.answers) world.clients

-- each NACK that a client lists is so
abbrev pub RefusedHasNoEntry : Type 0
RefusedHasNoEntry = HoldsOfRuns AllOfNoEntry
