-- A channel changed where it stands in the map.
use Rattle.std.proofs.Common.{◌≡◌, ℕ, cond, List, [], ◌∷◌, refl, ap, sym, ◌∙◌}
use Rattle.std.specs.Prelude.{Option, Some, None}
use Rattle.std.specs.declared.cmp.Ordering.{Ordering}
use Rattle.std.specs.declared.cmp.Ordering.TheVariants.{Less, Equal, Greater}
use Rattle.std.specs.Ordering.{nat_cmp, match_ordering, is_eq}
use Rattle.std.specs.Cmp.{IsTotalOrder}
use Rattle.std.specs.Cmp.Lexicographic.{slice_cmp, nat_list_cmp_total}
use Rattle.std.specs.List.{AllByRecursion}
use Rattle.std.specs.List.Sorted.{IsStrictlySortedBy}
use Rattle.std.specs.Map.{lookup, set_value, keys_of}
use Rattle.std.specs.BTreeMap.{is_at, insert_entry}
use Rattle.std.proofs.lemmas.Map.Steps.{set_value_same}
use Rattle.rl_names.specs.Names.{at}
use Rattle.rl_clientmodel.specs.Channels.{ClientChannel}
use Rattle.rl_clientchannels.specs.Changes.{AreChannels, changed_if, changed_at}

module _ {K : Type 0} (cmp : K → K → Ordering) (laws : IsTotalOrder cmp) where
  above_all : (k : K) (q : K) (es : List K) → cmp k q ≡ Less → AllByRecursion (λ p. cmp q p ≡ Less) es → AllByRecursion (λ p. cmp k p ≡ Less) es
  above_all k q [] less all = tt
  above_all k q (p ∷ es) less all = (laws.trans k q p less all.0, above_all k q es less all.1)

module _ {K V : Type 0} (cmp : K → K → Ordering) (laws : IsTotalOrder cmp) where
  -- a key below all is not found
  above_none : (k : K) (es : List (K × V)) → AllByRecursion (λ q. cmp k q ≡ Less) (keys_of es) → lookup (is_at (cmp k)) es ≡ None
  above_none k [] all = refl
  above_none k (e ∷ es) all = ap (λ (o : Ordering). cond (is_eq o) (Some e.1) (lookup (is_at (cmp k)) es)) all.0 ∙ above_none k es all.1

  put_by : (o : Ordering) (k : K) (v w : V) (e : K × V) (es : List (K × V)) → cmp k e.0 ≡ o → AllByRecursion (λ q. cmp e.0 q ≡ Less) (keys_of es) → cond (is_eq o) (Some e.1) (lookup (is_at (cmp k)) es) ≡ Some w → (lookup (is_at (cmp k)) es ≡ Some w → insert_entry cmp es k v ≡ set_value (is_at (cmp k)) es v) → match_ordering o ((k, v) ∷ e ∷ es) ((e.0, v) ∷ es) (e ∷ insert_entry cmp es k v) ≡ cond (is_eq o) ((e.0, v) ∷ es) (e ∷ set_value (is_at (cmp k)) es v)
  put_by Less k v w e es is rises found rest =
      let none : lookup (is_at (cmp k)) es ≡ None = above_none k es (above_all cmp laws k e.0 (keys_of es) is rises) in
      let never : None ≡ Some w = sym none ∙ found in
      cc
  put_by Equal k v w e es is rises found rest = refl
  put_by Greater k v w e es is rises found rest = ap (λ (xs : List (K × V)). e ∷ xs) (rest found)

  pub put_is_set : (k : K) (v w : V) (es : List (K × V)) → IsStrictlySortedBy cmp (keys_of es) → lookup (is_at (cmp k)) es ≡ Some w → insert_entry cmp es k v ≡ set_value (is_at (cmp k)) es v
  unfolding IsStrictlySortedBy
  put_is_set k v w [] rises found = cc
  put_is_set k v w (e ∷ es) rises found = put_by (cmp k e.0) k v w e es refl rises.0 found (put_is_set k v w es rises.1)

abbrev pub set_at : List ℕ → List (List ℕ × ClientChannel) → ClientChannel → List (List ℕ × ClientChannel)
set_at name channels part = set_value (is_at (slice_cmp nat_cmp name)) channels part

-- what was written through the reference that was found
pub changed_some : (name : List ℕ) (change : ClientChannel → ClientChannel) (part new : ClientChannel) (channels : List (List ℕ × ClientChannel)) → AreChannels channels → at name channels ≡ Some part → new ≡ change part → set_at name channels new ≡ changed_at name change channels
changed_some name change part new channels rises found is =
    ap (set_at name channels) is
    ∙ sym (put_is_set (slice_cmp nat_cmp) nat_list_cmp_total name (change part) part channels rises found)
    ∙ sym (ap (λ (found : Option ClientChannel). changed_if name change found channels) found)

-- what was found is written again
pub written_same : (name : List ℕ) (part new : ClientChannel) (channels : List (List ℕ × ClientChannel)) → at name channels ≡ Some part → new ≡ part → set_at name channels new ≡ channels
written_same name part new channels found is = ap (set_at name channels) is ∙ set_value_same (is_at (slice_cmp nat_cmp name)) channels part found
