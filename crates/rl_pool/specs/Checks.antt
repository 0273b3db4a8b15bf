-- When operations are checked: what is asked of the place at which they would enter, and how they are judged there.
use Rattle.std.specs.Prelude.{ℕ, ◌+◌, ◌<◌, List, [], ◌∷◌, map, Option, None}
use Rattle.std.specs.List.{AllByRecursion}
use Rattle.rl_ids.specs.declared.serials.OpSerial.{OpSerial}
use Rattle.rl_types.specs.declared.objects.ObjectOp.{ObjectOp}
use Rattle.rl_objmodel.specs.Held.{Write, Cells, HeldBody, Sum, Keys, Held}
use Rattle.rl_objmodel.specs.Rules.{or_next, serial_at}
use Rattle.rl_objmodel.specs.Steps.{pool_op_rule}
use Rattle.rl_object.specs.Unnumbered.{unnumbered_held}
use Rattle.rl_pool.specs.Changes.{op_entered}

abbrev pub cells_of : HeldBody → Cells
cells_of (Sum sum) = []
cells_of (Keys cells) = cells

-- each serial that an object holds, of a site or of a cell, has a smaller place
pub record HoldsBelow (place : ℕ) (held : Held) : Type 0 where
  pub sites : AllByRecursion (λ (site : List ℕ × OpSerial). site.1.place < place) held.sites
  pub cells : AllByRecursion (λ (cell : List ℕ × Write). cell.1.serial.place < place) (cells_of held.body)

-- each serial that the objects hold has a smaller place: what enters at this place is the newest. Such a place there
-- always is
pub record AreBelow (place : ℕ) (pool : List Held) : Type 0 where
  pub all : AllByRecursion (HoldsBelow place) pool

-- AS THE CODE JUDGES

-- the code of the first rule that operations break, where they enter at places one after another
abbrev pub numbered_rules : List ℕ → ℕ → ℕ → List Held → List ObjectOp → Option ℕ
numbered_rules site now n pool [] = None
numbered_rules site now n pool (op ∷ ops) =
    or_next (pool_op_rule now pool (op_entered now (serial_at site (n + 1) 0) op.op pool) op.op)
    (numbered_rules site now (n + 1) (op_entered now (serial_at site (n + 1) 0) op.op pool) ops)

abbrev pub unnumbered_pool : List Held → List Held
unnumbered_pool pool = map unnumbered_held pool
