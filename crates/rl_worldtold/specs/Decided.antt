-- A channel decides a connection's serial once.
use Rattle.std.specs.Prelude.{◌≡◌, ℕ, List, Some}
use Rattle.std.specs.List.{AllByRecursion}
use Rattle.rl_types.specs.declared.messages.Entry.{Entry}
use Rattle.rl_events.specs.declared.channel.ChannelEvent.{ChannelEvent}
use Rattle.rl_events.specs.declared.channel.Verdict.TheVariants.{Done}
use Rattle.rl_events.specs.declared.channel.Outcome.{Outcome}
use Rattle.rl_events.specs.declared.channel.Outcome.TheVariants.{Refused}
use Rattle.rl_connbook.specs.Laws.{SomeOf}
use Rattle.rl_model.specs.Verdict.{Decision, decisions, log}
use Rattle.rl_worldmodel.specs.World.{World, the_site}
use Rattle.rl_worldtold.specs.Truth.{IsPutBy}
use Rattle.rl_worldtold.specs.Runs.{HoldsOfRuns}

-- a Put of this connection and serial, decided with this outcome
abbrev pub IsDecidedAs : ℕ → ℕ → Outcome → Decision → Type 0
IsDecidedAs conn serial outcome d = IsPutBy conn serial d.event × (d.verdict ≡ Some (Done outcome))

-- however often a connection's serial was put, it has one outcome; and where that is a refusal, no entry
pub record DecidesOnce (past : List ChannelEvent) : Type 0 where
  pub one : (conn serial : ℕ) (first second : Outcome) → SomeOf (IsDecidedAs conn serial first) (decisions the_site past) → SomeOf (IsDecidedAs conn serial second) (decisions the_site past) → first ≡ second
  pub none : (conn serial code : ℕ) → SomeOf (IsDecidedAs conn serial (Refused code)) (decisions the_site past)
      → AllByRecursion (λ (e : Entry). e.conn ≡ conn → e.serial ≡ Some serial → ⊥) (log the_site past)

abbrev pub HasDecidedOnce : World → Type 0
HasDecidedOnce world = AllByRecursion (λ (c : List ℕ × List ChannelEvent). DecidesOnce c.1) world.channels

-- so each channel of a world
abbrev pub ChannelsDecideOnce : Type 0
ChannelsDecideOnce = HoldsOfRuns HasDecidedOnce
