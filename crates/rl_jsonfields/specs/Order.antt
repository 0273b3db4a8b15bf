-- The members of each object in a value come in the order of their keys, each once, as in every value that is
-- read of a text.
use Rattle.std.specs.Prelude.{ℕ, ◌≡◌, ⊤, List, [], ◌∷◌}
use Rattle.std.specs.declared.cmp.Ordering.{Ordering}
use Rattle.std.specs.declared.cmp.Ordering.TheVariants.{Less}
use Rattle.std.specs.Cmp.Lexicographic.{slice_cmp}
use Rattle.std.specs.Ordering.{nat_cmp}
use Rattle.serde_json.specs.Data.{Data, null, boolean, number, string, array, object, Items, no_items, item, Members, no_members, member}

-- keys are compared byte by byte
abbrev pub cmp : List ℕ → List ℕ → Ordering
cmp k l = slice_cmp nat_cmp k l

-- k is before each key
abbrev pub Before : List ℕ → Members → Type 0
Before k no_members = ⊤
Before k (member l d ms) = (cmp k l ≡ Less) × Before k ms

-- at every level
abbrev mutual
  pub Ordered : Data → Type 0
  Ordered null = ⊤
  Ordered (boolean b) = ⊤
  Ordered (number n) = ⊤
  Ordered (string s) = ⊤
  Ordered (array ds) = ItemsOrdered ds
  Ordered (object ms) = MembersOrdered ms

  pub ItemsOrdered : Items → Type 0
  ItemsOrdered no_items = ⊤
  ItemsOrdered (item d ds) = Ordered d × ItemsOrdered ds

  pub MembersOrdered : Members → Type 0
  MembersOrdered no_members = ⊤
  MembersOrdered (member k d ms) = Before k ms × Ordered d × MembersOrdered ms

-- ---- lists of pairs with a key

-- k is before each key
abbrev pub IsFirst : {A : Type 0} → List ℕ → List (List ℕ × A) → Type 0
IsFirst k [] = ⊤
IsFirst k (e ∷ es) = (cmp k e.0 ≡ Less) × IsFirst k es

-- each key is before all later ones
abbrev pub Rise : {A : Type 0} → List (List ℕ × A) → Type 0
Rise [] = ⊤
Rise (e ∷ es) = IsFirst e.0 es × Rise es
