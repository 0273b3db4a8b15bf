-- The ids that are remembered.
use Rattle.std.specs.Prelude.{◌≡◌, ℕ, ◌-◌, ◌≤◌, if◌then◌else◌, nat_lt, List, [], ◌∷◌, map, take, drop, find, Option, Some, None, option_map, bytes_eq, string_bytes, String}
use Rattle.std.specs.Map.{lookup}
use Rattle.rl_numbers.specs.declared.limits.TheConstants.{MAX_REMEMBERED}
use Rattle.rl_model.specs.Verdict.{Added, has_given}

-- what a contract sees of the ids
pub record IdsView : Type 0 where
  pub recent : List (List ℕ × ℕ)  -- the ids of the last entries, each with its place
  pub earlier : List (List ℕ × ℕ)  -- the ids of the 8,192 entries before these
  pub count : ℕ  -- so many entries have their ids in recent
  pub spare : ℕ  -- so many more ids take no memory

-- the entries of a map, with the bytes of each key
abbrev pub texts_of : {Y : Type 0} → List (String Y × ℕ) → List (List ℕ × ℕ)
texts_of entries = map (λ entry. (string_bytes entry.0, entry.1)) entries

-- the place at which an id stands
abbrev pub place_in : List ℕ → List (List ℕ × ℕ) → Option ℕ
place_in id ids = lookup (bytes_eq id) ids

-- the place of the first of these, the latest first, that was given this id
abbrev pub latest : List ℕ → List Added → Option ℕ
latest id added = option_map (λ (a : Added). a.place) (find (has_given id) added)

-- the places count down from this one to 1
abbrev pub CountDown : ℕ → List Added → Type 0
CountDown head [] = head ≡ 0
CountDown head (one ∷ earlier) = (one.place ≡ head) × (1 ≤ head) × CountDown (head - 1) earlier

-- the ids stand for those of all entries, the latest first
pub record KeepsIds (view : IdsView) (added : List Added) : Type 0 where
  pub recent : (id : List ℕ) → place_in id view.recent ≡ latest id (take view.count added)
  pub earlier : (id : List ℕ) → place_in id view.earlier ≡ latest id (take MAX_REMEMBERED (drop view.count added))

-- a place that is among so many last ones up to the head
abbrev pub if_near : ℕ → ℕ → Option ℕ → Option ℕ
if_near most head None = None
if_near most head (Some place) = if nat_lt (head - place) most then Some place else None

abbrev pub or_earlier : Option ℕ → Option ℕ → Option ℕ
or_earlier None earlier = earlier
or_earlier (Some place) earlier = Some place

-- the place that is found for an id
abbrev pub remembered_at : ℕ → List ℕ → IdsView → Option ℕ
remembered_at head id view = if_near MAX_REMEMBERED head (or_earlier (place_in id view.recent) (place_in id view.earlier))
