-- What is kept by name: entries in order of the names' bytes, each name once.
use Rattle.std.specs.Prelude.{ℕ, List, map, Option}
use Rattle.std.specs.Ordering.{nat_cmp}
use Rattle.std.specs.Cmp.Lexicographic.{slice_cmp}
use Rattle.std.specs.Map.{lookup, remove_entry}
use Rattle.std.specs.BTreeMap.{is_at, insert_entry}

module _ {V : Type 0} where
  -- what stands under a name
  abbrev pub at : List ℕ → List (List ℕ × V) → Option V
  at name entries = lookup (is_at (slice_cmp nat_cmp name)) entries

  -- with this value under the name, in place of an earlier one
  abbrev pub with_entry : List ℕ → V → List (List ℕ × V) → List (List ℕ × V)
  with_entry name value entries = insert_entry (slice_cmp nat_cmp) entries name value

  -- with nothing under the name
  abbrev pub without : List ℕ → List (List ℕ × V) → List (List ℕ × V)
  without name entries = remove_entry (is_at (slice_cmp nat_cmp name)) entries

  -- each value changed
  abbrev pub each : (V → V) → List (List ℕ × V) → List (List ℕ × V)
  each change entries = map (λ (e : List ℕ × V). (e.0, change e.1)) entries
