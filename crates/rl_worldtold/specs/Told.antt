-- What acknowledgements may be trusted for (RTN7a).
use Rattle.std.specs.Prelude.{◌≡◌, ℕ, ⊤, true, List, Option, Some, ◌⊎◌}
use Rattle.std.specs.List.{AllByRecursion}
use Rattle.rl_numbers.specs.declared.codes.TheConstants.{CHANNEL_LIMIT}
use Rattle.rl_ids.specs.Forms.{conn_text}
use Rattle.rl_events.specs.declared.channel.ChannelEvent.{ChannelEvent}
use Rattle.rl_events.specs.declared.channel.ChannelEvent.TheVariants.{Put}
use Rattle.rl_events.specs.declared.channel.Verdict.{Verdict}
use Rattle.rl_events.specs.declared.channel.Verdict.TheVariants.{Done}
use Rattle.rl_events.specs.declared.channel.Outcome.TheVariants.{Taken, Refused}
use Rattle.rl_runs.specs.declared.findings.Answer.{Answer}
use Rattle.rl_runs.specs.declared.findings.Answer.TheVariants.{Ack, Nack}
use Rattle.rl_connbook.specs.Laws.{SomeOf}
use Rattle.rl_directory.specs.Directory.{is_full}
use Rattle.rl_model.specs.Verdict.{Decision, decisions}
use Rattle.rl_clientmodel.specs.States.{ClientState}
use Rattle.rl_worldmodel.specs.World.{World, the_site, names}
use Rattle.rl_worldtold.specs.Runs.{HoldsOfRuns}

-- WHAT CHANNELS DECIDED

-- a Put of the connection with this id, with this serial
abbrev pub IsPutOf : List ℕ → ℕ → ChannelEvent → Type 0
IsPutOf id serial (Put conn s body now) = (conn_text conn ≡ id) × (s ≡ serial)
IsPutOf id serial event = ⊥

-- it was taken
abbrev pub IsTaken : Option Verdict → Type 0
IsTaken (Some (Done (Taken place))) = ⊤
IsTaken verdict = ⊥

-- it was refused with this code
abbrev pub IsRefused : ℕ → Option Verdict → Type 0
IsRefused code verdict = verdict ≡ Some (Done (Refused code))

-- some channel's history has a Put of them that was decided so
abbrev pub IsDecided : World → List ℕ → ℕ → (Option Verdict → Type 0) → Type 0
IsDecided world id serial P =
    SomeOf (λ (c : List ℕ × List ChannelEvent). SomeOf (λ (d : Decision). IsPutOf id serial d.event × P d.verdict) (decisions the_site c.1)) world.channels

-- WHAT CLIENTS WERE TOLD

-- an ACK is of a Put that was taken; a NACK of one that was refused with its code, or else its code is that of a directory
-- which is full
abbrev pub IsTold : World → Answer → Type 0
IsTold world (Ack id serial) = IsDecided world id serial IsTaken
IsTold world (Nack id serial code) = IsDecided world id serial (IsRefused code) ⊎ ((is_full (names world) ≡ true) × (code ≡ CHANNEL_LIMIT))

abbrev pub AllTold : World → Type 0
AllTold world = AllByRecursion (λ (c : List ℕ × ClientState). AllByRecursion (IsTold world) c.1.answers) world.clients

-- each acknowledgement that a client lists is so
abbrev pub AnswersAreTold : Type 0
AnswersAreTold = HoldsOfRuns AllTold
