-- What is live of a channel's objects, by its log.
use Rattle.std.specs.Prelude.{⊤, ◌≡◌, ℕ, List, map}
use Rattle.std.specs.List.{AllByRecursion}
use Rattle.rl_types.specs.declared.messages.Body.{Body}
use Rattle.rl_types.specs.declared.messages.Body.TheVariants.{Objects}
use Rattle.rl_events.specs.declared.channel.ChannelEvent.{ChannelEvent}
use Rattle.rl_events.specs.declared.channel.ChannelEvent.TheVariants.{Put}
use Rattle.rl_objmodel.specs.Objects.{objects}
use Rattle.rl_objmodel.specs.Steps.{live_states}
use Rattle.rl_objmodel.specs.Following.{IsOpInRange}
use Rattle.rl_objmodel.specs.Living.{shown_objects, object_read}
use Rattle.rl_model.specs.Objects.{operated}
use Rattle.rl_model.specs.Verdict.{log}
use Rattle.rl_model.specs.Reply.{objects_at}

-- the ids that a body's operations name fit, those in their values among them
abbrev pub OpsOfBodyFit : Body → Type 0
OpsOfBodyFit (Objects ops) = AllByRecursion IsOpInRange ops
OpsOfBodyFit _ = ⊤

abbrev pub PutFits : ChannelEvent → Type 0
PutFits (Put conn serial body now) = OpsOfBodyFit body
PutFits _ = ⊤

-- what is live of the objects that a channel keeps is what is live by its whole log, as pages show it and as it reads
abbrev pub ChannelsShowLive : Type 0
ChannelsShowLive = (site : List ℕ) (past : List ChannelEvent) → AllByRecursion PutFits past
    → (live_states (objects_at site past) ≡ shown_objects (operated (log site past))) × (map object_read (live_states (objects_at site past)) ≡ objects (operated (log site past)))
