use Rattle.std.specs.Prelude.{ℕ, List, slice_set}
use Rattle.std.specs.Borrow.{Lends, MutBor, Fml, RattleType}
use Rattle.rl_base.specs.contracts.list.List.{the_row}

module _ (T : RattleType) (s : MutBor (List T.Denot)) where
  -- once the borrow r ends, the item has the last value written through r
  abbrev pub lends_item : ℕ → MutBor T.Denot → Fml
  lends_item i r = Lends (the_row T) T s r (λ w. slice_set s.now i w)
