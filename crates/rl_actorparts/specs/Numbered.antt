-- The names that are kept by number, beside the sessions.
use Rattle.std.specs.Prelude.{◌≡◌, ℕ, List, Option, Some}
use Rattle.std.specs.Ordering.{nat_cmp}
use Rattle.std.specs.Cmp.Lexicographic.{slice_cmp}
use Rattle.std.specs.List.Sorted.{IsStrictlySortedBy}
use Rattle.std.specs.Map.{keys_of, lookup}
use Rattle.std.specs.BTreeMap.{is_at}
use Rattle.rl_names.specs.Names.{at}
use Rattle.rl_actormodel.specs.declared.parts.Session.{Session}
use Rattle.rl_actormodel.specs.State.{numbered}
use Rattle.rl_actorparts.specs.Runs.{Sessions}

abbrev pub Names : Type 0
Names = List (ℕ × List ℕ)

abbrev pub name_at : ℕ → Names → Option (List ℕ)
name_at number names = lookup (is_at (nat_cmp number)) names

-- the sessions are in order, and the name of each stands at its number
pub record AreNamed (sessions : Sessions) (names : Names) : Type 0 where
  pub rises : IsStrictlySortedBy (slice_cmp nat_cmp) (keys_of sessions)
  pub named : (name : List ℕ) (session : Session) → at name sessions ≡ Some session → name_at session.number names ≡ Some name

-- the number has no other name
abbrev pub IsFreeFor : ℕ → List ℕ → Names → Type 0
IsFreeFor number name names = (other : List ℕ) → name_at number names ≡ Some other → other ≡ name

-- the session on the channel of this number, in its place
pub record IsFound (number : ℕ) (sessions : Sessions) (e : List ℕ × Session) : Type 0 where
  pub first : numbered number sessions ≡ Some e
  pub stands : at e.0 sessions ≡ Some e.1
  pub rises : IsStrictlySortedBy (slice_cmp nat_cmp) (keys_of sessions)
