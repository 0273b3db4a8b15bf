-- What is kept beside the names: the number of each, by name.
use Rattle.std.specs.Prelude.{◌≡◌, ℕ, List}
use Rattle.std.specs.Ordering.{nat_cmp}
use Rattle.std.specs.Cmp.Lexicographic.{slice_cmp}
use Rattle.std.specs.Map.{lookup}
use Rattle.std.specs.BTreeMap.{is_at}
use Rattle.rl_directory.specs.Directory.{number_of}

-- each name has the number by which it stands among the names, and no other text has one
pub record AreNumbers (names : List (List ℕ)) (numbers : List (List ℕ × ℕ)) : Type 0 where
  pub found : (name : List ℕ) → lookup (is_at (slice_cmp nat_cmp name)) numbers ≡ number_of name names
