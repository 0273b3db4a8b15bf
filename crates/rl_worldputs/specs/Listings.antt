-- A connection and serial is listed by one client alone (RTN7).
use Rattle.std.specs.Prelude.{◌≡◌, ℕ, List, Some}
use Rattle.rl_runs.specs.declared.findings.Answer.{Answer}
use Rattle.rl_connbook.specs.Laws.{SomeOf}
use Rattle.rl_clientmodel.specs.States.{ClientState}
use Rattle.rl_worldmodel.specs.World.{World, client_at}
use Rattle.rl_worldtold.specs.Listed.{pair_of}
use Rattle.rl_worldtold.specs.Runs.{HoldsOfRuns}

-- the client lists an acknowledgement of this connection's id and serial
abbrev pub IsListedBy : List ℕ → ℕ → ClientState → Type 0
IsListedBy id serial state = SomeOf (λ (a : Answer). ((pair_of a).0 ≡ id) × ((pair_of a).1 ≡ serial)) state.answers

-- two clients that list one are one
abbrev pub ListsApart : World → Type 0
ListsApart world =
    (one two : List ℕ) (first second : ClientState) (id : List ℕ) (serial : ℕ) → client_at one world ≡ Some first → client_at two world ≡ Some second
    → IsListedBy id serial first → IsListedBy id serial second → one ≡ two

-- with `NoneIsListedTwice`: no connection and serial is listed twice
abbrev pub NoneIsListedByTwo : Type 0
NoneIsListedByTwo = HoldsOfRuns ListsApart
