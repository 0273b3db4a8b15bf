-- Whatever a script does is done by actions, one after another.
use Rattle.std.specs.Prelude.{◌≡◌, Bool, true, false, List}
use Rattle.std.specs.List.{AllByRecursion}
use Rattle.rl_runs.specs.declared.script.Line.{Line}
use Rattle.rl_runs.specs.declared.script.Line.TheVariants.{Settle}
use Rattle.rl_worldmodel.specs.World.{World, empty_world}
use Rattle.rl_worldmodel.specs.Actions.{Action, Steps, Pages, Polls, Reaps, Gets, all_done}
use Rattle.rl_worldmodel.specs.Lines.{actions_of, after_line, final}

-- actions lead from a world to another
abbrev pub Leads : World → World → Type 0
Leads world after = (actions : List Action) × (all_done actions world ≡ after)

-- an action of the rounds of a settling
abbrev pub is_of_round : Action → Bool
is_of_round (Steps k) = true
is_of_round (Pages k channel) = true
is_of_round (Polls k channel) = true
is_of_round Reaps = true
is_of_round (Gets name) = true
is_of_round action = false

abbrev pub AreOfRounds : List Action → Type 0
AreOfRounds actions = AllByRecursion (λ action. is_of_round action ≡ true) actions

-- such actions lead from a world to another
abbrev pub RoundsLead : World → World → Type 0
RoundsLead world after = (actions : List Action) × AreOfRounds actions × (all_done actions world ≡ after)

-- what `settle` leaves is led to by actions of rounds alone; what each other line leaves, by the actions that it stands for
abbrev pub LineActs : World → Line → Type 0
LineActs world Settle = RoundsLead world (after_line world Settle)
LineActs world line = after_line world line ≡ all_done (actions_of line world) world

abbrev pub LinesAct : Type 0
LinesAct = (world : World) (line : Line) → LineActs world line

-- actions lead from the empty world to what a script leaves. So what every action keeps holds of every script
abbrev pub ScriptsAct : Type 0
ScriptsAct = (script : List Line) → Leads empty_world (final script)
