-- A place among texts in order.
use Rattle.std.proofs.Common.{◌≡◌, ℕ, zero, suc, ◌<◌, Bool, true, false, cond, List, [], ◌∷◌, length, refl, ap, sym, subst, ◌∙◌, arith, get_or}
use Rattle.std.specs.Prelude.{insert, slice_set, filter, bytes_eq, Some, None}
use Rattle.std.specs.List.{AllByRecursion}
use Rattle.std.specs.List.Sorted.{IsPartitionedBy}
use Rattle.std.specs.declared.cmp.Ordering.{Ordering}
use Rattle.std.specs.declared.cmp.Ordering.TheVariants.{Less, Equal, Greater}
use Rattle.std.specs.Ordering.{nat_cmp, match_ordering, is_lt, is_eq, ordering_reverse}
use Rattle.std.specs.Cmp.Lexicographic.{slice_cmp}
use Rattle.std.proofs.lemmas.Cmp.{nat_list_cmp_total, tied_itself}
use Rattle.std.proofs.lemmas.Slice.Eq.{bytes_eq-Decides}
use Rattle.std.proofs.lemmas.Map.Text.{is_eq-slice_cmp}
use Rattle.rl_objmodel.specs.Places.{at_text, with_at, AreRising, IsRising, is_before, IsPlace, IsHeldAt, IsMissedAt}

-- TEXTS

pub before_all : (a b c : List ℕ) → slice_cmp nat_cmp a b ≡ Less → slice_cmp nat_cmp b c ≡ Less → slice_cmp nat_cmp a c ≡ Less
before_all a b c h k = nat_list_cmp_total.trans a b c h k

turned : (a b : List ℕ) → slice_cmp nat_cmp a b ≡ ordering_reverse (slice_cmp nat_cmp b a)
turned a b = nat_list_cmp_total.antisymm a b

pub less_of_greater : (a b : List ℕ) → slice_cmp nat_cmp a b ≡ Greater → slice_cmp nat_cmp b a ≡ Less
less_of_greater a b h = turned b a ∙ ap ordering_reverse h

pub greater_of_less : (a b : List ℕ) → slice_cmp nat_cmp a b ≡ Less → slice_cmp nat_cmp b a ≡ Greater
greater_of_less a b h = turned b a ∙ ap ordering_reverse h

pub texts_same : (a b : List ℕ) → bytes_eq a b ≡ true → a ≡ b
texts_same a b h = (bytes_eq-Decides a b).0 h

pub texts_itself : (a : List ℕ) → bytes_eq a a ≡ true
texts_itself a = (bytes_eq-Decides a a).1 refl

is_eq_is : (a b : List ℕ) → bytes_eq a b ≡ is_eq (slice_cmp nat_cmp a b)
is_eq_is a b = sym (is_eq-slice_cmp a b)

pub equal_same : (a b : List ℕ) → slice_cmp nat_cmp a b ≡ Equal → a ≡ b
equal_same a b h = texts_same a b (is_eq_is a b ∙ ap is_eq h)

pub eq_of_equal : (a b : List ℕ) → slice_cmp nat_cmp a b ≡ Equal → bytes_eq a b ≡ true
eq_of_equal a b h = is_eq_is a b ∙ ap is_eq h

pub eq_of_less : (a b : List ℕ) → slice_cmp nat_cmp a b ≡ Less → bytes_eq a b ≡ false
eq_of_less a b h = is_eq_is a b ∙ ap is_eq h

pub eq_of_greater : (a b : List ℕ) → slice_cmp nat_cmp a b ≡ Greater → bytes_eq a b ≡ false
eq_of_greater a b h = is_eq_is a b ∙ ap is_eq h

lt_less : (o : Ordering) → is_lt o ≡ true → o ≡ Less
lt_less Less h = refl
lt_less Equal h = cc
lt_less Greater h = cc

-- IN ORDER

module _ {T : Type 0} where
  abbrev pub AllLater : List ℕ → List (List ℕ × T) → Type 0
  AllLater text all = AllByRecursion (λ one. slice_cmp nat_cmp text one.0 ≡ Less) all

  pub later_all : (a b : List ℕ) (all : List (List ℕ × T)) → slice_cmp nat_cmp a b ≡ Less → AllLater b all → AllLater a all
  later_all a b [] h later = tt
  later_all a b (one ∷ all) h later = (before_all a b one.0 h later.0, later_all a b all h later.1)

  later_with_at : (a text : List ℕ) (x : T) (one : List ℕ × T) (all : List (List ℕ × T)) (o : Ordering) → slice_cmp nat_cmp a text ≡ Less → AllLater a (one ∷ all) → AllLater a (with_at text x all) → AllLater a (match_ordering o ((text, x) ∷ one ∷ all) ((text, x) ∷ all) (one ∷ with_at text x all))
  later_with_at a text x one all Less h later rest = (h, later)
  later_with_at a text x one all Equal h later rest = (h, later.1)
  later_with_at a text x one all Greater h later rest = (later.0, rest)

  later_with : (a text : List ℕ) (x : T) (all : List (List ℕ × T)) → slice_cmp nat_cmp a text ≡ Less → AllLater a all → AllLater a (with_at text x all)
  later_with a text x [] h later = (h, tt)
  later_with a text x (one ∷ all) h later = later_with_at a text x one all (slice_cmp nat_cmp text one.0) h later (later_with a text x all h later.1)

  later_tied : (a b : List ℕ) (all : List (List ℕ × T)) → slice_cmp nat_cmp a b ≡ Equal → AllLater b all → AllLater a all
  later_tied a b all h later = subst (λ (t : List ℕ). AllLater t all) (sym (equal_same a b h)) later

  rising_with_at : (text : List ℕ) (x : T) (one : List ℕ × T) (all : List (List ℕ × T)) (o : Ordering) → slice_cmp nat_cmp text one.0 ≡ o → AreRising (one ∷ all) → AreRising (with_at text x all) → AreRising (match_ordering o ((text, x) ∷ one ∷ all) ((text, x) ∷ all) (one ∷ with_at text x all))
  rising_with_at text x one all Less h rising rest = ((h, later_all text one.0 all h rising.0), rising)
  rising_with_at text x one all Equal h rising rest = (later_tied text one.0 all h rising.0, rising.1)
  rising_with_at text x one all Greater h rising rest = (later_with one.0 text x all (less_of_greater text one.0 h) rising.0, rest)

  rising_with : (text : List ℕ) (x : T) (all : List (List ℕ × T)) → AreRising all → AreRising (with_at text x all)
  rising_with text x [] rising = (tt, tt)
  rising_with text x (one ∷ all) rising = rising_with_at text x one all (slice_cmp nat_cmp text one.0) refl rising (rising_with text x all rising.1)

  pub is_rising_with : (text : List ℕ) (x : T) (all : List (List ℕ × T)) → IsRising all → IsRising (with_at text x all)
  is_rising_with text x all h = record { rising = rising_with text x all h.rising }

  later_kept_at : (a : List ℕ) (one : List ℕ × T) (all : List (List ℕ × T)) (b : Bool) → slice_cmp nat_cmp a one.0 ≡ Less → AllLater a all → AllLater a (cond b (one ∷ all) all)
  later_kept_at a one all true h later = (h, later)
  later_kept_at a one all false h later = later

  later_kept : (a : List ℕ) (keep : List ℕ × T → Bool) (all : List (List ℕ × T)) → AllLater a all → AllLater a (filter keep all)
  later_kept a keep [] later = tt
  later_kept a keep (one ∷ all) later = later_kept_at a one (filter keep all) (keep one) later.0 (later_kept a keep all later.1)

  rising_kept_at : (one : List ℕ × T) (all : List (List ℕ × T)) (b : Bool) → AllLater one.0 all → AreRising all → AreRising (cond b (one ∷ all) all)
  rising_kept_at one all true later rest = (later, rest)
  rising_kept_at one all false later rest = rest

  rising_kept : (keep : List ℕ × T → Bool) (all : List (List ℕ × T)) → AreRising all → AreRising (filter keep all)
  rising_kept keep [] rising = tt
  rising_kept keep (one ∷ all) rising = rising_kept_at one (filter keep all) (keep one) (later_kept one.0 keep all rising.0) (rising_kept keep all rising.1)

  pub is_rising_kept : (keep : List ℕ × T → Bool) (all : List (List ℕ × T)) → IsRising all → IsRising (filter keep all)
  is_rising_kept keep all h = record { rising = rising_kept keep all h.rising }

  -- A PLACE

  later_at : (text : List ℕ) (all : List (List ℕ × T)) → AllLater text all → (j : ℕ) (d : List ℕ × T) → j < length all → slice_cmp nat_cmp text (get_or all j d).0 ≡ Less
  later_at text [] later j d h = absurd (omega arith)
  later_at text (one ∷ all) later zero d h = later.0
  later_at text (one ∷ all) later (suc j) d h = later_at text all later.1 j d (omega arith)

  before_earlier : (text : List ℕ) (one other : List ℕ × T) → slice_cmp nat_cmp one.0 other.0 ≡ Less → is_before text other ≡ true → is_before text one ≡ true
  before_earlier text one other h is = ap is_lt (before_all one.0 other.0 text h (lt_less _ is))

  parted : (text : List ℕ) (all : List (List ℕ × T)) → AreRising all → IsPartitionedBy (is_before text) all
  parted text [] rising i j d h k is = absurd (omega arith)
  parted text (p ∷ ps) rising zero zero d h k is = is
  parted text (p ∷ ps) rising zero (suc j) d h k is = before_earlier text p (get_or ps j d) (later_at p.0 ps rising.0 j d (omega arith)) is
  parted text (p ∷ ps) rising (suc i) zero d h k is = absurd (omega arith)
  parted text (p ∷ ps) rising (suc i) (suc j) d h k is = parted text ps rising.1 i j d (omega arith) (omega arith) is

  pub parted_before : (text : List ℕ) (all : List (List ℕ × T)) → IsRising all → IsPartitionedBy (is_before text) all
  parted_before text all h = parted text all h.rising

  inside : (text : List ℕ) (p : List ℕ × T) (ps : List (List ℕ × T)) (at : ℕ) → IsPlace text (p ∷ ps) (suc at) → IsPlace text ps at
  inside text p ps at h = record {
    within = omega (arith, h.within);
    below = λ k d low high. h.below (suc k) d (omega arith) (omega arith);
    above = λ k d low high. h.above (suc k) d (omega arith) (omega arith);
  }

  pub held_inside : (text : List ℕ) (p : List ℕ × T) (ps : List (List ℕ × T)) (at : ℕ) → IsHeldAt text (p ∷ ps) (suc at) → IsHeldAt text ps at
  held_inside text p ps at h = record {
    place = inside text p ps at h.place;
    within = omega (arith, h.within);
    same = λ d. h.same d;
  }

  missed_inside : (text : List ℕ) (p : List ℕ × T) (ps : List (List ℕ × T)) (at : ℕ) → IsMissedAt text (p ∷ ps) (suc at) → IsMissedAt text ps at
  missed_inside text p ps at h = record {
    place = inside text p ps at h.place;
    other = λ d k. h.other d (omega arith);
  }

  after_at : (text : List ℕ) (p : List ℕ × T) (o : Ordering) → slice_cmp nat_cmp text p.0 ≡ o → is_before text p ≡ false → bytes_eq text p.0 ≡ false → o ≡ Less
  after_at text p Less e late other = refl
  after_at text p Equal e late other = cc (sym other ∙ eq_of_equal text p.0 e)
  after_at text p Greater e late other = cc (sym late ∙ ap is_lt (less_of_greater text p.0 e))

  after_place : (text : List ℕ) (p : List ℕ × T) → is_before text p ≡ false → bytes_eq text p.0 ≡ false → slice_cmp nat_cmp text p.0 ≡ Less
  after_place text p late other = after_at text p (slice_cmp nat_cmp text p.0) refl late other

  pub before_place : (text : List ℕ) (p : List ℕ × T) → is_before text p ≡ true → slice_cmp nat_cmp text p.0 ≡ Greater
  before_place text p is = greater_of_less p.0 text (lt_less _ is)

  same_place : (text : List ℕ) (p : List ℕ × T) → bytes_eq text p.0 ≡ true → slice_cmp nat_cmp text p.0 ≡ Equal
  same_place text p is = ap (λ (t : List ℕ). slice_cmp nat_cmp text t) (sym (texts_same text p.0 is)) ∙ tied_itself nat_list_cmp_total text

  pub with_less : (text : List ℕ) (x : T) (p : List ℕ × T) (ps : List (List ℕ × T)) → slice_cmp nat_cmp text p.0 ≡ Less → with_at text x (p ∷ ps) ≡ (text, x) ∷ p ∷ ps
  with_less text x p ps h = rw h refl

  pub with_equal : (text : List ℕ) (x : T) (p : List ℕ × T) (ps : List (List ℕ × T)) → slice_cmp nat_cmp text p.0 ≡ Equal → with_at text x (p ∷ ps) ≡ (text, x) ∷ ps
  with_equal text x p ps h = rw h refl

  pub with_greater : (text : List ℕ) (x : T) (p : List ℕ × T) (ps : List (List ℕ × T)) → slice_cmp nat_cmp text p.0 ≡ Greater → with_at text x (p ∷ ps) ≡ p ∷ with_at text x ps
  with_greater text x p ps h = rw h refl

  pub at_first : (text : List ℕ) (p : List ℕ × T) (ps : List (List ℕ × T)) → bytes_eq text p.0 ≡ true → at_text text (p ∷ ps) ≡ Some p.1
  at_first text p ps h = rw h refl

  pub at_more : (text : List ℕ) (p : List ℕ × T) (ps : List (List ℕ × T)) → bytes_eq text p.0 ≡ false → at_text text (p ∷ ps) ≡ at_text text ps
  at_more text p ps h = rw h refl

  pub inserted_with : (text : List ℕ) (x : T) (all : List (List ℕ × T)) (at : ℕ) → IsMissedAt text all at → insert all at (text, x) ≡ with_at text x all
  inserted_with text x [] zero h = refl
  inserted_with text x [] (suc at) h = absurd (omega (arith, h.place.within))
  inserted_with text x (p ∷ ps) zero h =
      sym (with_less text x p ps (after_place text p (h.place.above 0 p (omega arith) (omega arith)) (h.other p (omega arith))))
  inserted_with text x (p ∷ ps) (suc at) h =
      ap (λ (more : List (List ℕ × T)). p ∷ more) (inserted_with text x ps at (missed_inside text p ps at h))
      ∙ sym (with_greater text x p ps (before_place text p (h.place.below 0 p (omega arith) (omega arith))))

  pub replaced_with : (text : List ℕ) (x : T) (all : List (List ℕ × T)) (at : ℕ) → IsHeldAt text all at → slice_set all at (text, x) ≡ with_at text x all
  replaced_with text x [] at h = absurd (omega (arith, h.within))
  replaced_with text x (p ∷ ps) zero h = sym (with_equal text x p ps (same_place text p (h.same p)))
  replaced_with text x (p ∷ ps) (suc at) h =
      ap (λ (more : List (List ℕ × T)). p ∷ more) (replaced_with text x ps at (held_inside text p ps at h))
      ∙ sym (with_greater text x p ps (before_place text p (h.place.below 0 p (omega arith) (omega arith))))

  pub held_there : (text : List ℕ) (all : List (List ℕ × T)) (at : ℕ) (d : List ℕ × T) → IsHeldAt text all at → at_text text all ≡ Some (get_or all at d).1
  held_there text [] at d h = absurd (omega (arith, h.within))
  held_there text (p ∷ ps) zero d h = at_first text p ps (h.same p)
  held_there text (p ∷ ps) (suc at) d h =
      at_more text p ps (eq_of_greater text p.0 (before_place text p (h.place.below 0 p (omega arith) (omega arith))))
      ∙ held_there text ps at d (held_inside text p ps at h)

  pub none_later : (text : List ℕ) (all : List (List ℕ × T)) → AllLater text all → at_text text all ≡ None
  none_later text [] later = refl
  none_later text (p ∷ ps) later = at_more text p ps (eq_of_less text p.0 later.0) ∙ none_later text ps later.1

  missed_at : (text : List ℕ) (all : List (List ℕ × T)) (at : ℕ) → AreRising all → IsMissedAt text all at → at_text text all ≡ None
  missed_at text [] at rising h = refl
  missed_at text (p ∷ ps) zero rising h =
      let less = after_place text p (h.place.above 0 p (omega arith) (omega arith)) (h.other p (omega arith)) in
      none_later text (p ∷ ps) (less, later_all text p.0 ps less rising.0)
  missed_at text (p ∷ ps) (suc at) rising h =
      at_more text p ps (eq_of_greater text p.0 (before_place text p (h.place.below 0 p (omega arith) (omega arith))))
      ∙ missed_at text ps at rising.1 (missed_inside text p ps at h)

  pub missed_there : (text : List ℕ) (all : List (List ℕ × T)) (at : ℕ) → IsRising all → IsMissedAt text all at → at_text text all ≡ None
  missed_there text all at rising h = missed_at text all at rising.rising h

  -- WHAT IS THERE AFTERWARDS

  there_with_at : (text : List ℕ) (x : T) (one : List ℕ × T) (all : List (List ℕ × T)) (o : Ordering) → slice_cmp nat_cmp text one.0 ≡ o → at_text text (with_at text x all) ≡ Some x → at_text text (match_ordering o ((text, x) ∷ one ∷ all) ((text, x) ∷ all) (one ∷ with_at text x all)) ≡ Some x
  there_with_at text x one all Less h rest = at_first text (text, x) (one ∷ all) (texts_itself text)
  there_with_at text x one all Equal h rest = at_first text (text, x) all (texts_itself text)
  there_with_at text x one all Greater h rest = at_more text one (with_at text x all) (eq_of_greater text one.0 h) ∙ rest

  pub there_with : (text : List ℕ) (x : T) (all : List (List ℕ × T)) → at_text text (with_at text x all) ≡ Some x
  there_with text x [] = at_first text (text, x) [] (texts_itself text)
  there_with text x (one ∷ all) = there_with_at text x one all (slice_cmp nat_cmp text one.0) refl (there_with text x all)

  unchanged_at : (text : List ℕ) (x : T) (one : List ℕ × T) (all : List (List ℕ × T)) (o : Ordering) → slice_cmp nat_cmp text one.0 ≡ o → AreRising (one ∷ all) → at_text text (one ∷ all) ≡ Some x → (at_text text all ≡ Some x → with_at text x all ≡ all) → match_ordering o ((text, x) ∷ one ∷ all) ((text, x) ∷ all) (one ∷ with_at text x all) ≡ one ∷ all
  unchanged_at text x one all Less h rising is rest = cc (sym (none_later text (one ∷ all) (h, later_all text one.0 all h rising.0)) ∙ is)
  unchanged_at text x one all Equal h rising is rest =
      let e : Some one.1 ≡ Some x = sym (at_first text one all (eq_of_equal text one.0 h)) ∙ is in
      let same : x ≡ one.1 = cc in
      ap (λ (more : List ℕ × T). more ∷ all) (ap (λ (t : List ℕ). (t, x)) (equal_same text one.0 h) ∙ ap (λ (y : T). (one.0, y)) same)
  unchanged_at text x one all Greater h rising is rest =
      ap (λ (more : List (List ℕ × T)). one ∷ more) (rest (sym (at_more text one all (eq_of_greater text one.0 h)) ∙ is))

  unchanged : (text : List ℕ) (x : T) (all : List (List ℕ × T)) → AreRising all → at_text text all ≡ Some x → with_at text x all ≡ all
  unchanged text x [] rising is = cc
  unchanged text x (one ∷ all) rising is = unchanged_at text x one all (slice_cmp nat_cmp text one.0) refl rising is (unchanged text x all rising.1)

  pub same_with : (text : List ℕ) (x : T) (all : List (List ℕ × T)) → IsRising all → at_text text all ≡ Some x → with_at text x all ≡ all
  same_with text x all rising is = unchanged text x all rising.rising is
