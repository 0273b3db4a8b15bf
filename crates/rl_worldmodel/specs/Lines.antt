-- What the lines of a script do: the world that they make, one after another, of an empty one.
use Rattle.std.specs.Prelude.{ℕ, List, [], ◌∷◌, replicate, fold, Option, Some, None}
use Rattle.rl_runs.specs.declared.script.Line.{Line}
use Rattle.rl_runs.specs.declared.script.Line.TheVariants as lines
use Rattle.rl_worldmodel.specs.World.{World, empty_world, transport_of}
use Rattle.rl_worldmodel.specs.Services.{message}
use Rattle.rl_worldmodel.specs.Actions.{Action, Declares, Opens, Cuts, Recovers, Obeys, Gets, LooksAtTime, Steps, Pages, Polls, Passes, Expires, Reaps, Ages, Asks, Feeds, all_done}
use Rattle.rl_worldmodel.specs.Settling.{settles}

-- the action on a transport, where there is one
abbrev pub on_its : Option ℕ → (ℕ → Action) → List Action
on_its None action = []
on_its (Some k) action = action k ∷ []

-- the actions that a line stands for: one, or none where it names a transport that is not there; those of a feed are to ask
-- for the name and to put each entry. What `settle` stands for is in Settling
abbrev pub actions_of : Line → World → List Action
actions_of (lines.Client name) world = Declares name ∷ []
actions_of (lines.Open name) world = Opens name ∷ []
actions_of (lines.Cut name) world = Cuts name ∷ []
actions_of (lines.Recover name other) world = Recovers name other ∷ []
actions_of (lines.Act name command) world = Obeys name command ∷ []
actions_of (lines.Get name) world = Gets name ∷ []
actions_of (lines.Step name index) world = on_its (transport_of name index world) (λ k. Steps k)
actions_of (lines.Page name index channel) world = on_its (transport_of name index world) (λ k. Pages k channel)
actions_of (lines.Poll name index channel) world = on_its (transport_of name index world) (λ k. Polls k channel)
actions_of (lines.Timer name) world = LooksAtTime name ∷ []
actions_of (lines.Tick span) world = Passes span ∷ []
actions_of lines.Expire world = Expires ∷ []
actions_of lines.Reap world = Reaps ∷ []
actions_of (lines.Age channel) world = Ages channel ∷ []
actions_of (lines.Feed channel count text) world = Asks channel ∷ replicate count (Feeds channel (message None text))
actions_of (lines.FeedId channel id text) world = Asks channel ∷ Feeds channel (message (Some id) text) ∷ []
actions_of lines.Settle world = []

abbrev pub after_line : World → Line → World
after_line world lines.Settle = settles world
after_line world line = all_done (actions_of line world) world

-- the world after lines, in order
abbrev pub after_lines : List Line → World → World
after_lines script world = fold after_line world script

-- the world that a script leaves
abbrev pub final : List Line → World
final script = after_lines script empty_world
