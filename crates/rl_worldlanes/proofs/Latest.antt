-- A client's latest transport is its own, and stays the latest where owners stay.
use Rattle.std.proofs.Common.{◌≡◌, ℕ, suc, ◌+◌, Bool, true, false, List, [], ◌∷◌, map, refl, sym, ◌∙◌, ap, subst, arith}
use Rattle.std.specs.Prelude.{Some, slice_get, bytes_eq, if◌then◌else◌}
use Rattle.rl_worldmodel.specs.World.{World, Transport, owned, latest, last_of}

-- whose owners are these
abbrev pub owned_by : List ℕ → ℕ → List (List ℕ) → List ℕ
owned_by name k [] = []
owned_by name k (owner ∷ more) = if bytes_eq name owner then k ∷ owned_by name (suc k) more else owned_by name (suc k) more

same_if : (b : Bool) (k : ℕ) (xs ys : List ℕ) → xs ≡ ys → (if b then k ∷ xs else xs) ≡ (if b then k ∷ ys else ys)
same_if true k xs ys same = ap (λ (zs : List ℕ). k ∷ zs) same
same_if false k xs ys same = same

pub by_owners : (name : List ℕ) (k : ℕ) (ts : List Transport) → owned name k ts ≡ owned_by name k (map (λ (t : Transport). t.owner) ts)
by_owners name k [] = refl
by_owners name k (t ∷ ts) = same_if (bytes_eq name t.owner) k _ _ (by_owners name (suc k) ts)

pub latest_kept : (name : List ℕ) (world after : World) → map (λ (t : Transport). t.owner) after.transports ≡ map (λ (t : Transport). t.owner) world.transports → latest name after ≡ latest name world
latest_kept name world after same =
    ap last_of (by_owners name 0 after.transports ∙ ap (owned_by name 0) same ∙ sym (by_owners name 0 world.transports))

-- THE OWNER OF THE LATEST

-- the transport of this number, counted from the first one, is the client's
pub record IsOwned (name : List ℕ) (first : ℕ) (ts : List Transport) (k : ℕ) : Type 0 where
  pub index : ℕ
  pub at : k ≡ first + index
  pub own : (t : Transport) → slice_get ts index ≡ Some t → bytes_eq name t.owner ≡ true

owned_later : (name : List ℕ) (first : ℕ) (t : Transport) (ts : List Transport) (k : ℕ) → IsOwned name (suc first) ts k → IsOwned name first (t ∷ ts) k
owned_later name first t ts k h = record { index = suc h.index; at = omega (arith, h.at); own = λ u found. h.own u found }

last_by : (name : List ℕ) (first : ℕ) (t : Transport) (ts : List Transport) (k : ℕ) (b : Bool) (rest : List ℕ) → bytes_eq name t.owner ≡ b
    → (last_of rest ≡ Some k → IsOwned name (suc first) ts k) → last_of (if b then first ∷ rest else rest) ≡ Some k → IsOwned name first (t ∷ ts) k
last_by name first t ts k false rest is later last = owned_later name first t ts k (later last)
last_by name first t ts k true [] is later last =
    let same : first ≡ k = cc in
    record { index = 0; at = omega (arith, same); own = λ u found. (let it : t ≡ u = cc in ap (λ (v : Transport). bytes_eq name v.owner) (sym it) ∙ is) }
last_by name first t ts k true (next ∷ rest) is later last = owned_later name first t ts k (later last)

last_owned : (name : List ℕ) (first : ℕ) (ts : List Transport) (k : ℕ) → last_of (owned name first ts) ≡ Some k → IsOwned name first ts k
last_owned name first [] k last = absurd (cc)
last_owned name first (t ∷ ts) k last =
    last_by name first t ts k (bytes_eq name t.owner) (owned name (suc first) ts) refl (λ more. last_owned name (suc first) ts k more) last

-- it is its own
pub latest_owner : (name : List ℕ) (world : World) (k : ℕ) (t : Transport) → latest name world ≡ Some k → slice_get world.transports k ≡ Some t → bytes_eq name t.owner ≡ true
latest_owner name world k t last found = of_owned (last_owned name 0 world.transports k last) where
  of_owned : IsOwned name 0 world.transports k → bytes_eq name t.owner ≡ true
  of_owned h = let same : k ≡ h.index = omega (arith, h.at) in h.own t (subst (λ (j : ℕ). slice_get world.transports j ≡ Some t) same found)
