-- What a shelf ends as, where a reference to one of its values is returned.
use Rattle.std.specs.Prelude.{ℕ, List, Option}
use Rattle.std.specs.Borrow.{LendsIf, MutBor, Fml, RattleType}
use Rattle.std.specs.Map.{set_value}
use Rattle.std.specs.BTreeMap.{is_at}
use Rattle.std.specs.Ordering.{nat_cmp}
use Rattle.rl_connbook.specs.contracts.shelf.Shelf.{the_row}

module _ (T : RattleType) (s : MutBor (List (ℕ × T.Denot))) (number : ℕ) where
  -- once the borrow r ends, the number has the last value written through r; at `None` the shelf stays as it is
  abbrev pub lends_get : Option (MutBor T.Denot) → Fml
  lends_get r = LendsIf (the_row T) T s r (set_value (is_at (nat_cmp number)) s.now) s.now
