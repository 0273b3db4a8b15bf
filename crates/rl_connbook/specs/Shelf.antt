-- Values under numbers, which stand in slots.
use Rattle.std.specs.Prelude.{◌≡◌, ℕ, ◌≢◌, List, [], ◌∷◌, length, Option, Some, None, IsSome, ⊤}
use Rattle.std.specs.List.{AllByRecursion}
use Rattle.std.specs.List.Sorted.{IsStrictlySortedBy}
use Rattle.std.specs.Map.{keys_of}
use Rattle.std.specs.Ordering.{nat_cmp}
use Rattle.slab.specs.Slab.{Slab, get, slab_len}

-- no two numbers have the same slot
abbrev pub AreApart : List (ℕ × ℕ) → Type 0
AreApart [] = ⊤
AreApart (e ∷ es) = AllByRecursion (λ q. q.1 ≢ e.1) es × AreApart es

module _ {T : Type 0} where
  -- a number with what its slot has, before others
  abbrev pub entry : ℕ → Option T → List (ℕ × T) → List (ℕ × T)
  entry n None rest = rest
  entry n (Some value) rest = (n, value) ∷ rest

  -- each number, which stands with its slot, with the value that the slot has
  abbrev pub joined : List (ℕ × ℕ) → (ℕ → Option T) → List (ℕ × T)
  joined [] at = []
  joined (e ∷ es) at = entry e.0 (at e.1) (joined es at)

  -- the numbers rise, each has a slot of its own with a value, and there are no other values
  pub record IsShelved (es : List (ℕ × ℕ)) (slots : Slab T) : Type 0 where
    pub rises : IsStrictlySortedBy nat_cmp (keys_of es)
    pub held : AllByRecursion (λ e. IsSome (get slots e.1)) es
    pub apart : AreApart es
    pub all : slab_len slots ≡ length es
