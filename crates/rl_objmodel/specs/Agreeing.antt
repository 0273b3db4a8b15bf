-- Pools that took the same operations, each site's in the same order, agree.
use Rattle.std.specs.Prelude.{⊤, ◌≡◌, ℕ, Bool, true, false, ◌&&◌, List, [], ◌∷◌, filter, map, Option, Some, None, is_some, bytes_eq}
use Rattle.std.specs.List.{list_any, list_all, AllByRecursion}
use Rattle.std.specs.Ordering.{is_eq}
use Rattle.rl_ids.specs.declared.serials.OpSerial.{OpSerial}
use Rattle.rl_ids.specs.Objects.{id_cmp, IsIdInRange}
use Rattle.rl_types.specs.declared.objects.ObjectOp.{ObjectOp}
use Rattle.rl_objmodel.specs.Operations.{Stamped, id_in, is_create}
use Rattle.rl_objmodel.specs.Held.{Held}
use Rattle.rl_objmodel.specs.Steps.{pool_outcome, pool_after_op, states}
use Rattle.rl_objmodel.specs.Commuting.{is_range}

abbrev pub has_site : List ℕ → Option OpSerial → Bool
has_site site None = false
has_site site (Some serial) = bytes_eq site serial.site

abbrev pub is_of_site : List ℕ → ObjectOp → Bool
is_of_site site op = has_site site op.serial

abbrev pub has_serial : ObjectOp → Bool
has_serial op = is_some op.serial

-- the same operations, each with a serial, and each site's in the same order
pub record SameBySite (xs ys : List ObjectOp) : Type 0 where
  pub serials : list_all has_serial xs ≡ true
  pub others : list_all has_serial ys ≡ true
  pub same : (site : List ℕ) → filter (is_of_site site) xs ≡ filter (is_of_site site) ys

-- both create one object
abbrev pub are_both : ObjectOp → ObjectOp → Bool
are_both one other = is_create one.op && is_create other.op && is_eq (id_cmp (id_in one.op) (id_in other.op))

-- no object is created twice
abbrev pub CreatesOnce : List ObjectOp → Type 0
CreatesOnce [] = ⊤
CreatesOnce (op ∷ ops) = (list_any (are_both op) ops ≡ false) × CreatesOnce ops

-- the ids that they name fit
abbrev pub AreInRange : List ObjectOp → Type 0
AreInRange ops = AllByRecursion (λ (op : ObjectOp). IsIdInRange (id_in op.op)) ops

-- pools after operations, each with its own stamp, the earliest first

abbrev pub ops_of : List Stamped → List ObjectOp
ops_of taken = map (λ (one : Stamped). one.op) taken

abbrev pub pool_taking : List Stamped → List Held → List Held
pool_taking [] pool = pool
pool_taking (one ∷ more) pool = pool_taking more (pool_after_op one.stamp one.op pool)

-- none of them brings a sum past its range
abbrev pub NonePasses : List Stamped → List Held → Type 0
NonePasses [] pool = ⊤
NonePasses (one ∷ more) pool = (is_range (pool_outcome one.op pool) ≡ false) × NonePasses more (pool_after_op one.stamp one.op pool)

-- pools that showed the same, and took lists that have each site's operations in the same order, show the same, whenever
-- they took them, where no object is created twice, no sum passes its range and nothing is collected
abbrev pub PoolsAgree : Type 0
PoolsAgree = (xs ys : List Stamped) (pool other : List Held) → states pool ≡ states other → SameBySite (ops_of xs) (ops_of ys) → CreatesOnce (ops_of xs)
    → AreInRange (ops_of xs) → NonePasses xs pool → NonePasses ys other → states (pool_taking xs pool) ≡ states (pool_taking ys other)
