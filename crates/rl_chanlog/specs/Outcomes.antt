-- The last outcome of each connection.
use Rattle.std.specs.Prelude.{◌≡◌, ◌≢◌, ℕ, List, Option, None, nat_eq, option_and_then}
use Rattle.std.specs.Map.{lookup}
use Rattle.rl_events.specs.declared.channel.Outcome.{Outcome}

-- what a contract sees of the outcomes
pub record OutcomesView : Type 0 where
  pub entries : List (ℕ × Option (ℕ × Outcome))  -- of each connection with a place, its last serial and outcome

-- what is kept at a connection's place
abbrev pub kept_in : ℕ → List (ℕ × Option (ℕ × Outcome)) → Option (ℕ × Outcome)
kept_in conn places = option_and_then (λ (kept : Option (ℕ × Outcome)). kept) (lookup (nat_eq conn) places)

-- the connection has a place
abbrev pub IsPlaced : ℕ → List (ℕ × Option (ℕ × Outcome)) → Type 0
IsPlaced conn places = lookup (nat_eq conn) places ≢ None

-- the last serial and outcome of a connection
abbrev pub outcome_in : ℕ → OutcomesView → Option (ℕ × Outcome)
outcome_in conn view = kept_in conn view.entries

-- the connection has a place, so that its next outcome takes no memory
abbrev pub HasPlace : ℕ → OutcomesView → Type 0
HasPlace conn view = IsPlaced conn view.entries

-- the outcomes stand for what is kept of each connection
abbrev pub KeepsOutcomes : OutcomesView → (ℕ → Option (ℕ × Outcome)) → Type 0
KeepsOutcomes view kept = (conn : ℕ) → outcome_in conn view ≡ kept conn
