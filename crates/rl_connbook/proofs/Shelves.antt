-- Values under numbers, by what is done to the slots and to the numbers.
use Rattle.std.proofs.Common.{◌≡◌, ◌≢◌, ℕ, suc, ◌+◌, Bool, true, false, cond, List, [], ◌∷◌, length, get_or, inl, inr, refl, ap, sym, subst, ◌∙◌, arith}
use Rattle.std.specs.Prelude.{Option, Some, None, is_some, IsSome}
use Rattle.std.specs.List.{AllByRecursion}
use Rattle.std.specs.List.Sorted.{IsStrictlySortedBy}
use Rattle.std.specs.Map.{lookup, set_value, remove_entry, keys_of}
use Rattle.std.specs.BTreeMap.{is_at, insert_entry}
use Rattle.std.specs.Ordering.{nat_cmp, match_ordering}
use Rattle.std.specs.declared.cmp.Ordering.{Ordering}
use Rattle.std.specs.declared.cmp.Ordering.TheVariants.{Less, Equal, Greater}
use Rattle.std.proofs.lemmas.Bool.{cases_eq}
use Rattle.std.proofs.lemmas.List.Sums.{sum_by-set}
use Rattle.slab.specs.Slab.{Slab, get, slab_len, with_value, ContainsKey, Updates}
use Rattle.slab.proofs.SlabLemmas.{ContainsKey-within, Updates-with_value}
use Rattle.rl_connbook.specs.Shelf.{AreApart, entry, joined, IsShelved}

none_by : (o : Option ℕ) → is_some o ≡ false → o ≡ None
none_by None h = refl
none_by (Some k) h = cc

-- without a number
abbrev taken : {X : Type 0} → ℕ → List (ℕ × X) → List (ℕ × X)
taken n es = remove_entry (is_at (nat_cmp n)) es

-- the slots of other numbers
abbrev AllOther : ℕ → List (ℕ × ℕ) → Type 0
AllOther slot es = AllByRecursion (λ q. q.1 ≢ slot) es

module _ {T : Type 0} where
  -- THE NUMBERS

  keys_by : (n : ℕ) (o : Option T) (rest : List (ℕ × T)) (ns : List ℕ) → IsSome o → keys_of rest ≡ ns → keys_of (entry n o rest) ≡ n ∷ ns
  keys_by n (Some value) rest ns some h = ap (λ ms. n ∷ ms) h
  keys_by n None rest ns some h = cc

  pub keys_joined : (es : List (ℕ × ℕ)) (at : ℕ → Option T) → AllByRecursion (λ e. IsSome (at e.1)) es → keys_of (joined es at) ≡ keys_of es
  keys_joined [] at held = refl
  keys_joined (e ∷ es) at held = keys_by e.0 (at e.1) (joined es at) (keys_of es) held.0 (keys_joined es at held.1)

  length_by : (n : ℕ) (o : Option T) (rest : List (ℕ × T)) → IsSome o → length (entry n o rest) ≡ suc (length rest)
  length_by n (Some value) rest some = refl
  length_by n None rest some = cc

  pub length_joined : (es : List (ℕ × ℕ)) (at : ℕ → Option T) → AllByRecursion (λ e. IsSome (at e.1)) es → length (joined es at) ≡ length es
  length_joined [] at held = refl
  length_joined (e ∷ es) at held = length_by e.0 (at e.1) (joined es at) held.0 ∙ ap suc (length_joined es at held.1)

  -- FOUND BY NUMBER

  -- what a slot has, where there is one
  abbrev pub of_slot : (ℕ → Option T) → Option ℕ → Option T
  of_slot at None = None
  of_slot at (Some slot) = at slot

  found_by : (n m : ℕ) (o : Option T) (rest : List (ℕ × T)) → IsSome o → lookup (is_at (nat_cmp n)) (entry m o rest) ≡ cond (is_at (nat_cmp n) m) o (lookup (is_at (nat_cmp n)) rest)
  found_by n m (Some value) rest some = refl
  found_by n m None rest some = cc

  pick : (b : Bool) (slot : ℕ) (at : ℕ → Option T) (later : Option ℕ) (rest : Option T) → rest ≡ of_slot at later → cond b (at slot) rest ≡ of_slot at (cond b (Some slot) later)
  pick true slot at later rest h = refl
  pick false slot at later rest h = h

  pub found : (n : ℕ) (es : List (ℕ × ℕ)) (at : ℕ → Option T) → AllByRecursion (λ e. IsSome (at e.1)) es → lookup (is_at (nat_cmp n)) (joined es at) ≡ of_slot at (lookup (is_at (nat_cmp n)) es)
  found n [] at held = refl
  found n (e ∷ es) at held =
      found_by n e.0 (at e.1) (joined es at) held.0
      ∙ pick (is_at (nat_cmp n) e.0) e.1 at (lookup (is_at (nat_cmp n)) es) _ (found n es at held.1)

  some_by : (n k : ℕ) (b : Bool) (at : ℕ → Option T) (o : Option T) (later : Option ℕ) → IsSome o → is_some later ≡ is_some (of_slot at later) → is_some (cond b (Some k) later) ≡ is_some (cond b o (of_slot at later))
  some_by n k true at o later some rest = sym some
  some_by n k false at o later some rest = rest

  -- a number has a slot where it has a value
  pub found_some : (n : ℕ) (es : List (ℕ × ℕ)) (at : ℕ → Option T) → AllByRecursion (λ e. IsSome (at e.1)) es → is_some (lookup (is_at (nat_cmp n)) es) ≡ is_some (lookup (is_at (nat_cmp n)) (joined es at))
  found_some n [] at held = refl
  found_some n (e ∷ es) at held =
      let rest = found_some n es at held.1 ∙ ap is_some (found n es at held.1) in
      some_by n e.1 (is_at (nat_cmp n) e.0) at (at e.1) (lookup (is_at (nat_cmp n)) es) held.0 rest
      ∙ ap (λ (o : Option T). is_some (cond (is_at (nat_cmp n) e.0) (at e.1) o)) (sym (found n es at held.1))
      ∙ ap is_some (sym (found_by n e.0 (at e.1) (joined es at) held.0))

  held_by : (b : Bool) (slot : ℕ) (at : ℕ → Option T) (later : Option ℕ) (k : ℕ) → cond b (Some slot) later ≡ Some k → IsSome (at slot) → (later ≡ Some k → IsSome (at k)) → IsSome (at k)
  held_by true slot at later k h here rest = cc
  held_by false slot at later k h here rest = rest h

  -- a number's slot has a value
  pub held_at : (n k : ℕ) (es : List (ℕ × ℕ)) (at : ℕ → Option T) → AllByRecursion (λ e. IsSome (at e.1)) es → lookup (is_at (nat_cmp n)) es ≡ Some k → IsSome (at k)
  held_at n k [] at held h = cc
  held_at n k (e ∷ es) at held h = held_by (is_at (nat_cmp n) e.0) e.1 at (lookup (is_at (nat_cmp n)) es) k h held.0 (λ later. held_at n k es at held.1 later)

  -- OTHER SLOTS

  -- the slots at and now have the same, but for one slot
  abbrev pub SameBut : ℕ → (ℕ → Option T) → (ℕ → Option T) → Type 0
  SameBut k at now = (other : ℕ) → other ≢ k → now other ≡ at other

  same_joined : (k : ℕ) (es : List (ℕ × ℕ)) (at now : ℕ → Option T) → SameBut k at now → AllOther k es → joined es now ≡ joined es at
  same_joined k [] at now same other = refl
  same_joined k (e ∷ es) at now same other =
      ap (λ o. entry e.0 o (joined es now)) (same e.1 other.0)
      ∙ ap (λ rest. entry e.0 (at e.1) rest) (same_joined k es at now same other.1)

  same_held : (k : ℕ) (es : List (ℕ × ℕ)) (at now : ℕ → Option T) → SameBut k at now → AllOther k es → AllByRecursion (λ e. IsSome (at e.1)) es → AllByRecursion (λ e. IsSome (now e.1)) es
  same_held k [] at now same other held = tt
  same_held k (e ∷ es) at now same other held = (ap is_some (same e.1 other.0) ∙ held.0, same_held k es at now same other.1 held.1)

-- THE SLOTS OF THE NUMBERS

other_by : (b : Bool) (slot k : ℕ) (later : Option ℕ) (m : ℕ) → cond b (Some slot) later ≡ Some k → slot ≢ m → (later ≡ Some k → k ≢ m) → k ≢ m
other_by true slot k later m h here rest = λ same. here (cc)
other_by false slot k later m h here rest = rest h

-- a number's slot is among the slots
other_slot : (n k m : ℕ) (es : List (ℕ × ℕ)) → lookup (is_at (nat_cmp n)) es ≡ Some k → AllOther m es → k ≢ m
other_slot n k m [] h other = cc
other_slot n k m (e ∷ es) h other = other_by (is_at (nat_cmp n) e.0) e.1 k (lookup (is_at (nat_cmp n)) es) m h other.0 (λ later. other_slot n k m es later other.1)

untaken_by : (P : ℕ × ℕ → Type 0) (b : Bool) (e : ℕ × ℕ) (es rest : List (ℕ × ℕ)) → P e → AllByRecursion P es → AllByRecursion P rest → AllByRecursion P (cond b es (e ∷ rest))
untaken_by P true e es rest here all later = all
untaken_by P false e es rest here all later = (here, later)

all_taken : (P : ℕ × ℕ → Type 0) (n : ℕ) (es : List (ℕ × ℕ)) → AllByRecursion P es → AllByRecursion P (taken n es)
all_taken P n [] all = tt
all_taken P n (e ∷ es) all = untaken_by P (is_at (nat_cmp n) e.0) e es (taken n es) all.0 all.1 (all_taken P n es all.1)

apart_taken_by : (b : Bool) (n : ℕ) (e : ℕ × ℕ) (es : List (ℕ × ℕ)) → AllOther e.1 es → AreApart es → AreApart (taken n es) → AreApart (cond b es (e ∷ taken n es))
apart_taken_by true n e es other apart rest = apart
apart_taken_by false n e es other apart rest = (all_taken (λ q. q.1 ≢ e.1) n es other, rest)

apart_taken : (n : ℕ) (es : List (ℕ × ℕ)) → AreApart es → AreApart (taken n es)
apart_taken n [] apart = tt
apart_taken n (e ∷ es) apart = apart_taken_by (is_at (nat_cmp n) e.0) n e es apart.0 apart.1 (apart_taken n es apart.1)

gone_by : (b : Bool) (n k : ℕ) (e : ℕ × ℕ) (es : List (ℕ × ℕ)) → AllOther e.1 es → cond b (Some e.1) (lookup (is_at (nat_cmp n)) es) ≡ Some k → (lookup (is_at (nat_cmp n)) es ≡ Some k → AllOther k (taken n es)) → AllOther k (cond b es (e ∷ taken n es))
gone_by true n k e es other h rest =
    let slot : e.1 ≡ k = cc in
    rw slot at other
gone_by false n k e es other h rest = (λ here. other_slot n k e.1 es h other (sym here), rest h)

-- the slot of a number that is taken away is no other's
gone : (n k : ℕ) (es : List (ℕ × ℕ)) → AreApart es → lookup (is_at (nat_cmp n)) es ≡ Some k → AllOther k (taken n es)
gone n k [] apart h = tt
gone n k (e ∷ es) apart h = gone_by (is_at (nat_cmp n) e.0) n k e es apart.0 h (gone n k es apart.1)

absent_by : {X : Type 0} (b : Bool) (e : ℕ × X) (es rest : List (ℕ × X)) (later : Option X) → cond b (Some e.1) later ≡ None → (later ≡ None → rest ≡ es) → cond b es (e ∷ rest) ≡ e ∷ es
absent_by true e es rest later h same = cc
absent_by false e es rest later h same = ap (λ xs. e ∷ xs) (same h)

-- where a number is not there, nothing is taken away
pub absent_taken : {X : Type 0} (n : ℕ) (es : List (ℕ × X)) → lookup (is_at (nat_cmp n)) es ≡ None → taken n es ≡ es
absent_taken n [] h = refl
absent_taken n (e ∷ es) h = absent_by (is_at (nat_cmp n) e.0) e es (taken n es) (lookup (is_at (nat_cmp n)) es) h (absent_taken n es)

all_inserted_by : (P : ℕ × ℕ → Type 0) (o : Ordering) (n k : ℕ) (e : ℕ × ℕ) (es rest : List (ℕ × ℕ)) → ((m : ℕ) → P (m, k)) → P e → AllByRecursion P es → AllByRecursion P rest → AllByRecursion P (match_ordering o ((n, k) ∷ e ∷ es) ((e.0, k) ∷ es) (e ∷ rest))
all_inserted_by P Less n k e es rest new here all later = (new n, (here, all))
all_inserted_by P Equal n k e es rest new here all later = (new e.0, all)
all_inserted_by P Greater n k e es rest new here all later = (here, later)

all_inserted : (P : ℕ × ℕ → Type 0) (n k : ℕ) (es : List (ℕ × ℕ)) → ((m : ℕ) → P (m, k)) → AllByRecursion P es → AllByRecursion P (insert_entry nat_cmp es n k)
all_inserted P n k [] new all = (new n, tt)
all_inserted P n k (e ∷ es) new all = all_inserted_by P (nat_cmp n e.0) n k e es (insert_entry nat_cmp es n k) new all.0 all.1 (all_inserted P n k es new all.1)

apart_inserted_by : (o : Ordering) (n k : ℕ) (e : ℕ × ℕ) (es : List (ℕ × ℕ)) → e.1 ≢ k → AllOther k es → AllOther e.1 es → AreApart es → AreApart (insert_entry nat_cmp es n k) → AreApart (match_ordering o ((n, k) ∷ e ∷ es) ((e.0, k) ∷ es) (e ∷ insert_entry nat_cmp es n k))
apart_inserted_by Less n k e es new all other apart rest = ((new, all), (other, apart))
apart_inserted_by Equal n k e es new all other apart rest = (all, apart)
apart_inserted_by Greater n k e es new all other apart rest = (all_inserted (λ q. q.1 ≢ e.1) n k es (λ m same. new (sym same)) other, rest)

apart_inserted : (n k : ℕ) (es : List (ℕ × ℕ)) → AllOther k es → AreApart es → AreApart (insert_entry nat_cmp es n k)
apart_inserted n k [] all apart = (tt, tt)
apart_inserted n k (e ∷ es) all apart = apart_inserted_by (nat_cmp n e.0) n k e es all.0 all.1 apart.0 apart.1 (apart_inserted n k es all.1 apart.1)

module _ {T : Type 0} where
  abbrev value_set : ℕ → List (ℕ × T) → T → List (ℕ × T)
  value_set n es v = set_value (is_at (nat_cmp n)) es v

  -- A VALUE IS WRITTEN

  set_here : (n : ℕ) (e : ℕ × ℕ) (o : Option T) (rest : List (ℕ × T)) (v : T) → IsSome o → is_at (nat_cmp n) e.0 ≡ true → value_set n (entry e.0 o rest) v ≡ (e.0, v) ∷ rest
  set_here n e (Some old) rest v some is = ap (λ b. cond b ((e.0, v) ∷ rest) ((e.0, old) ∷ value_set n rest v)) is
  set_here n e None rest v some is = cc

  set_past : (n : ℕ) (e : ℕ × ℕ) (o : Option T) (rest : List (ℕ × T)) (v : T) → IsSome o → is_at (nat_cmp n) e.0 ≡ false → value_set n (entry e.0 o rest) v ≡ entry e.0 o (value_set n rest v)
  set_past n e (Some old) rest v some is = ap (λ b. cond b ((e.0, v) ∷ rest) ((e.0, old) ∷ value_set n rest v)) is
  set_past n e None rest v some is = cc

  set_by : (b : Bool) (n k : ℕ) (v : T) (e : ℕ × ℕ) (es : List (ℕ × ℕ)) (at now : ℕ → Option T) → is_at (nat_cmp n) e.0 ≡ b → SameBut k at now → now k ≡ Some v → IsSome (at e.1) → AllOther e.1 es → cond b (Some e.1) (lookup (is_at (nat_cmp n)) es) ≡ Some k → (lookup (is_at (nat_cmp n)) es ≡ Some k → joined es now ≡ value_set n (joined es at) v) → entry e.0 (now e.1) (joined es now) ≡ value_set n (entry e.0 (at e.1) (joined es at)) v
  set_by true n k v e es at now is same new some apart h rest =
      let slot : e.1 ≡ k = cc in
      let other : AllOther k es = rw slot at apart in
      ap (λ o. entry e.0 o (joined es now)) (ap now slot ∙ new)
      ∙ ap (λ js. (e.0, v) ∷ js) (same_joined k es at now same other)
      ∙ sym (set_here n e (at e.1) (joined es at) v some is)
  set_by false n k v e es at now is same new some apart h rest =
      ap (λ o. entry e.0 o (joined es now)) (same e.1 (λ here. other_slot n k e.1 es h apart (sym here)))
      ∙ ap (λ js. entry e.0 (at e.1) js) (rest h)
      ∙ sym (set_past n e (at e.1) (joined es at) v some is)

  pub set_joined : (n k : ℕ) (v : T) (es : List (ℕ × ℕ)) (at now : ℕ → Option T) → SameBut k at now → now k ≡ Some v → AllByRecursion (λ e. IsSome (at e.1)) es → AreApart es → lookup (is_at (nat_cmp n)) es ≡ Some k → joined es now ≡ value_set n (joined es at) v
  set_joined n k v [] at now same new held apart h = refl
  set_joined n k v (e ∷ es) at now same new held apart h =
      set_by (is_at (nat_cmp n) e.0) n k v e es at now refl same new held.0 apart.0 h (set_joined n k v es at now same new held.1 apart.1)

  held_one : (k slot : ℕ) (v : T) (at now : ℕ → Option T) → SameBut k at now → now k ≡ Some v → IsSome (at slot) → IsSome (now slot)
  held_one k slot v at now same new some =
      elim (cases_eq slot k) [
        | inl here ↦ ap is_some (ap now here ∙ new)
        | inr there ↦ ap is_some (same slot there) ∙ some
      ]

  -- slots that had a value have one
  pub set_held : (k : ℕ) (v : T) (es : List (ℕ × ℕ)) (at now : ℕ → Option T) → SameBut k at now → now k ≡ Some v → AllByRecursion (λ e. IsSome (at e.1)) es → AllByRecursion (λ e. IsSome (now e.1)) es
  set_held k v [] at now same new held = tt
  set_held k v (e ∷ es) at now same new held = (held_one k e.1 v at now same new held.0, set_held k v es at now same new held.1)

  count_same : (s : Slab T) (k : ℕ) (v : T) → ContainsKey s k → slab_len (with_value s k v) ≡ slab_len s
  count_same s k v some =
      let was : ◌≡◌ {A = ℕ} (cond (is_some (get_or s.slots k None)) 1 0) 1 = ap (λ b. cond b 1 0) some in
      let one = sum_by-set (λ (o : Option T). cond (is_some o) 1 0) s.slots k (Some v) None (ContainsKey-within s k some) in
      omega (arith, one, was)

  pub shelved_set : (n k : ℕ) (v : T) (es : List (ℕ × ℕ)) (s : Slab T) → IsShelved es s → lookup (is_at (nat_cmp n)) es ≡ Some k → IsShelved es (with_value s k v)
  shelved_set n k v es s h found =
      let some : ContainsKey s k = held_at n k es (get s) h.held found in
      let updates = Updates-with_value s k v some in
      record {
        rises = h.rises;
        held = set_held k v es (get s) (get (with_value s k v)) updates.others updates.changed h.held;
        apart = h.apart;
        all = count_same s k v some ∙ h.all;
      }

  pub joined_set : (n k : ℕ) (v : T) (es : List (ℕ × ℕ)) (s : Slab T) → IsShelved es s → lookup (is_at (nat_cmp n)) es ≡ Some k → joined es (get (with_value s k v)) ≡ value_set n (joined es (get s)) v
  joined_set n k v es s h found =
      let some : ContainsKey s k = held_at n k es (get s) h.held found in
      let updates = Updates-with_value s k v some in
      set_joined n k v es (get s) (get (with_value s k v)) updates.others updates.changed h.held h.apart found

  -- A NUMBER IS TAKEN AWAY

  take_here : (n : ℕ) (e : ℕ × ℕ) (o : Option T) (rest : List (ℕ × T)) → IsSome o → is_at (nat_cmp n) e.0 ≡ true → taken n (entry e.0 o rest) ≡ rest
  take_here n e (Some old) rest some is = ap (λ b. cond b rest ((e.0, old) ∷ taken n rest)) is
  take_here n e None rest some is = cc

  take_past : (n : ℕ) (e : ℕ × ℕ) (o : Option T) (rest : List (ℕ × T)) → IsSome o → is_at (nat_cmp n) e.0 ≡ false → taken n (entry e.0 o rest) ≡ entry e.0 o (taken n rest)
  take_past n e (Some old) rest some is = ap (λ b. cond b rest ((e.0, old) ∷ taken n rest)) is
  take_past n e None rest some is = cc

  take_by : (b : Bool) (n k : ℕ) (e : ℕ × ℕ) (es : List (ℕ × ℕ)) (at now : ℕ → Option T) → is_at (nat_cmp n) e.0 ≡ b → SameBut k at now → IsSome (at e.1) → AllOther e.1 es → cond b (Some e.1) (lookup (is_at (nat_cmp n)) es) ≡ Some k → (lookup (is_at (nat_cmp n)) es ≡ Some k → joined (taken n es) now ≡ taken n (joined es at)) → joined (cond b es (e ∷ taken n es)) now ≡ taken n (entry e.0 (at e.1) (joined es at))
  take_by true n k e es at now is same some apart h rest =
      let slot : e.1 ≡ k = cc in
      let other : AllOther k es = rw slot at apart in
      same_joined k es at now same other
      ∙ sym (take_here n e (at e.1) (joined es at) some is)
  take_by false n k e es at now is same some apart h rest =
      ap (λ o. entry e.0 o (joined (taken n es) now)) (same e.1 (λ here. other_slot n k e.1 es h apart (sym here)))
      ∙ ap (λ js. entry e.0 (at e.1) js) (rest h)
      ∙ sym (take_past n e (at e.1) (joined es at) some is)

  pub take_joined : (n k : ℕ) (es : List (ℕ × ℕ)) (at now : ℕ → Option T) → SameBut k at now → AllByRecursion (λ e. IsSome (at e.1)) es → AreApart es → lookup (is_at (nat_cmp n)) es ≡ Some k → joined (taken n es) now ≡ taken n (joined es at)
  take_joined n k [] at now same held apart h = cc
  take_joined n k (e ∷ es) at now same held apart h =
      take_by (is_at (nat_cmp n) e.0) n k e es at now refl same held.0 apart.0 h (take_joined n k es at now same held.1 apart.1)

  pub shelved_take : (n k : ℕ) (es left : List (ℕ × ℕ)) (s now : Slab T) → IsShelved es s → lookup (is_at (nat_cmp n)) es ≡ Some k → left ≡ taken n es → IsStrictlySortedBy nat_cmp (keys_of left) → length left + 1 ≡ length es → Updates s now k None → slab_len now + 1 ≡ slab_len s → IsShelved left now
  shelved_take n k es left s now h found is rises less updates fewer =
      let still = same_held k (taken n es) (get s) (get now) updates.others (gone n k es h.apart found) (all_taken (λ e. IsSome (get s e.1)) n es h.held) in
      record {
        rises = rises;
        held = subst (λ (xs : List (ℕ × ℕ)). AllByRecursion (λ e. IsSome (get now e.1)) xs) (sym is) still;
        apart = subst AreApart (sym is) (apart_taken n es h.apart);
        all = omega (arith, less, fewer, h.all);
      }

  pub joined_take : (n k : ℕ) (es left : List (ℕ × ℕ)) (s now : Slab T) → IsShelved es s → lookup (is_at (nat_cmp n)) es ≡ Some k → left ≡ taken n es → Updates s now k None → joined left (get now) ≡ taken n (joined es (get s))
  joined_take n k es left s now h found is updates =
      ap (λ (xs : List (ℕ × ℕ)). joined xs (get now)) is
      ∙ take_joined n k es (get s) (get now) updates.others h.held h.apart found

  -- A NEW NUMBER

  vacant_other_by : (k slot : ℕ) (at : ℕ → Option T) → at k ≡ None → IsSome (at slot) → slot ≢ k
  vacant_other_by k slot at none some = λ same. cc (sym (ap is_some (ap at same ∙ none)) ∙ some)

  -- a vacant slot is no number's
  vacant_other : (k : ℕ) (es : List (ℕ × ℕ)) (at : ℕ → Option T) → at k ≡ None → AllByRecursion (λ e. IsSome (at e.1)) es → AllOther k es
  vacant_other k [] at none held = tt
  vacant_other k (e ∷ es) at none held = (vacant_other_by k e.1 at none held.0, vacant_other k es at none held.1)

  insert_by : (o : Ordering) (n : ℕ) (v : T) (m : ℕ) (w : Option T) (js : List (ℕ × T)) → IsSome w → nat_cmp n m ≡ o → insert_entry nat_cmp (entry m w js) n v ≡ match_ordering o ((n, v) ∷ entry m w js) ((m, v) ∷ js) (entry m w (insert_entry nat_cmp js n v))
  insert_by o n v m (Some u) js some is = ap (λ (c : Ordering). match_ordering c ((n, v) ∷ (m, u) ∷ js) ((m, v) ∷ js) ((m, u) ∷ insert_entry nat_cmp js n v)) is
  insert_by o n v m None js some is = cc

  joined_by : (o : Ordering) (n k : ℕ) (v : T) (e : ℕ × ℕ) (es : List (ℕ × ℕ)) (now : ℕ → Option T) → now k ≡ Some v → joined (insert_entry nat_cmp es n k) now ≡ insert_entry nat_cmp (joined es now) n v → joined (match_ordering o ((n, k) ∷ e ∷ es) ((e.0, k) ∷ es) (e ∷ insert_entry nat_cmp es n k)) now ≡ match_ordering o ((n, v) ∷ entry e.0 (now e.1) (joined es now)) ((e.0, v) ∷ joined es now) (entry e.0 (now e.1) (insert_entry nat_cmp (joined es now) n v))
  joined_by Less n k v e es now new rest = ap (λ (o : Option T). entry n o (entry e.0 (now e.1) (joined es now))) new
  joined_by Equal n k v e es now new rest = ap (λ (o : Option T). entry e.0 o (joined es now)) new
  joined_by Greater n k v e es now new rest = ap (λ (js : List (ℕ × T)). entry e.0 (now e.1) js) rest

  joined_inserted : (n k : ℕ) (v : T) (es : List (ℕ × ℕ)) (now : ℕ → Option T) → now k ≡ Some v → AllByRecursion (λ e. IsSome (now e.1)) es → joined (insert_entry nat_cmp es n k) now ≡ insert_entry nat_cmp (joined es now) n v
  joined_inserted n k v [] now new held = ap (λ (o : Option T). entry n o []) new
  joined_inserted n k v (e ∷ es) now new held =
      joined_by (nat_cmp n e.0) n k v e es now new (joined_inserted n k v es now new held.1)
      ∙ sym (insert_by (nat_cmp n e.0) n v e.0 (now e.1) (joined es now) held.0 refl)

  pub shelved_insert : (n k : ℕ) (v : T) (es more : List (ℕ × ℕ)) (s now : Slab T) → IsShelved es s → get s k ≡ None → more ≡ insert_entry nat_cmp es n k → IsStrictlySortedBy nat_cmp (keys_of more) → length more ≡ length es + 1 → Updates s now k (Some v) → slab_len now ≡ slab_len s + 1 → IsShelved more now
  shelved_insert n k v es more s now h none is rises one updates count =
      let other = vacant_other k es (get s) none h.held in
      let still = same_held k es (get s) (get now) updates.others other h.held in
      let held = all_inserted (λ e. IsSome (get now e.1)) n k es (λ m. ap is_some updates.changed) still in
      record {
        rises = rises;
        held = subst (λ (xs : List (ℕ × ℕ)). AllByRecursion (λ e. IsSome (get now e.1)) xs) (sym is) held;
        apart = subst AreApart (sym is) (apart_inserted n k es other h.apart);
        all = omega (arith, one, count, h.all);
      }

  pub joined_insert : (n k : ℕ) (v : T) (es more : List (ℕ × ℕ)) (s now : Slab T) → IsShelved es s → get s k ≡ None → more ≡ insert_entry nat_cmp es n k → Updates s now k (Some v) → joined more (get now) ≡ insert_entry nat_cmp (joined es (get s)) n v
  joined_insert n k v es more s now h none is updates =
      let other = vacant_other k es (get s) none h.held in
      let still = same_held k es (get s) (get now) updates.others other h.held in
      ap (λ (xs : List (ℕ × ℕ)). joined xs (get now)) is
      ∙ joined_inserted n k v es (get now) updates.changed still
      ∙ ap (λ (js : List (ℕ × T)). insert_entry nat_cmp js n v) (same_joined k es (get s) (get now) updates.others other)

  -- a number without a value has no slot
  pub no_slot : (n : ℕ) (es : List (ℕ × ℕ)) (s : Slab T) → IsShelved es s → lookup (is_at (nat_cmp n)) (joined es (get s)) ≡ None → lookup (is_at (nat_cmp n)) es ≡ None
  no_slot n es s h none = none_by (lookup (is_at (nat_cmp n)) es) (found_some n es (get s) h.held ∙ ap is_some none)

  -- room does not change what is there
  pub shelved_room : (es : List (ℕ × ℕ)) (s more : Slab T) → more ≡ record s { capacity = more.capacity } → IsShelved es s → IsShelved es more
  shelved_room es s more is h = subst (IsShelved es) (sym is) (record { rises = h.rises; held = h.held; apart = h.apart; all = h.all })
