-- No client lists an acknowledgement of one connection and serial twice (RTN7).
use Rattle.std.specs.Prelude.{◌≢◌, ℕ, ⊤, List, [], ◌∷◌, map}
use Rattle.std.specs.List.{AllByRecursion}
use Rattle.rl_runs.specs.declared.findings.Answer.{Answer}
use Rattle.rl_runs.specs.declared.findings.Answer.TheVariants.{Ack, Nack}
use Rattle.rl_clientmodel.specs.States.{ClientState}
use Rattle.rl_worldmodel.specs.World.{World}
use Rattle.rl_worldtold.specs.Runs.{HoldsOfRuns}

-- the connection's id and the serial that an acknowledgement is of
abbrev pub pair_of : Answer → List ℕ × ℕ
pair_of (Ack id serial) = (id, serial)
pair_of (Nack id serial code) = (id, serial)

abbrev pub AreDistinct : {X : Type 0} → List X → Type 0
AreDistinct [] = ⊤
AreDistinct (x ∷ xs) = AllByRecursion (λ y. x ≢ y) xs × AreDistinct xs

abbrev pub ListsEachOnce : ClientState → Type 0
ListsEachOnce state = AreDistinct (map pair_of state.answers)

abbrev pub AllListOnce : World → Type 0
AllListOnce world = AllByRecursion (λ (c : List ℕ × ClientState). ListsEachOnce c.1) world.clients

-- no client lists a connection and serial twice
abbrev pub NoneIsListedTwice : Type 0
NoneIsListedTwice = HoldsOfRuns AllListOnce
