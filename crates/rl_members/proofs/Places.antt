-- A place among members in order of key.
use Rattle.std.proofs.Common.{◌≡◌, ℕ, zero, suc, ◌<◌, Bool, true, false, cond, List, [], ◌∷◌, length, drop, refl, ap, sym, ◌∙◌, arith, get_or}
use Rattle.std.specs.Prelude.{insert, remove, slice_set, not, filter, Some}
use Rattle.std.specs.List.{list_any}
use Rattle.std.specs.List.Sorted.{IsPartitionedBy}
use Rattle.std.specs.declared.cmp.Ordering.{Ordering}
use Rattle.std.specs.declared.cmp.Ordering.TheVariants.{Less, Equal, Greater}
use Rattle.std.specs.Ordering.{match_ordering, is_lt, is_eq}
use Rattle.rl_ids.specs.declared.members.MemberKey.{MemberKey}
use Rattle.rl_types.specs.declared.presence.PresenceItem.{PresenceItem}
use Rattle.rl_model.specs.Members.{key_of, key_cmp, is_of, is_past}
use Rattle.rl_members.specs.Held.{with_member, AreRising, IsRising, is_before, is_upto, IsPlace, IsHeldAt, IsMissedAt}
use Rattle.rl_members.proofs.Keys.{keys_total, before_all, less_of_greater, greater_of_less, is_of_is, of_same, of_less, of_greater, before_itself}
use Rattle.rl_members.proofs.Laws.{AllLater, others, others_first, others_more, others_later, with_less, with_equal, with_greater, first}

lt_less : (o : Ordering) → is_lt o ≡ true → o ≡ Less
lt_less Less h = refl
lt_less Equal h = cc
lt_less Greater h = cc

clash : {A : Type 0} (b : Bool) → b ≡ true → b ≡ false → A
clash b t f = cc (sym t ∙ f)

-- IN ORDER

later_all : (a b : MemberKey) (items : List PresenceItem) → key_cmp a b ≡ Less → AllLater b items → AllLater a items
later_all a b [] h all = tt
later_all a b (item ∷ items) h all = (before_all a b (key_of item) h all.0, later_all a b items h all.1)

later_with_at : (a : MemberKey) (item other : PresenceItem) (items : List PresenceItem) (o : Ordering) → key_cmp a (key_of item) ≡ Less → AllLater a (other ∷ items) → AllLater a (with_member item items) → AllLater a (match_ordering o (item ∷ other ∷ items) (item ∷ items) (other ∷ with_member item items))
later_with_at a item other items Less h all rest = (h, all)
later_with_at a item other items Equal h all rest = (h, all.1)
later_with_at a item other items Greater h all rest = (all.0, rest)

later_with : (a : MemberKey) (item : PresenceItem) (items : List PresenceItem) → key_cmp a (key_of item) ≡ Less → AllLater a items → AllLater a (with_member item items)
later_with a item [] h all = (h, tt)
later_with a item (other ∷ items) h all = later_with_at a item other items (key_cmp (key_of item) (key_of other)) h all (later_with a item items h all.1)

later_tied : (a b : MemberKey) (items : List PresenceItem) → key_cmp a b ≡ Equal → AllLater b items → AllLater a items
later_tied a b [] h all = tt
later_tied a b (item ∷ items) h all = (keys_total.congr a b (key_of item) h ∙ all.0, later_tied a b items h all.1)

rising_with_at : (item other : PresenceItem) (items : List PresenceItem) (o : Ordering) → key_cmp (key_of item) (key_of other) ≡ o → AreRising (other ∷ items) → AreRising (with_member item items) → AreRising (match_ordering o (item ∷ other ∷ items) (item ∷ items) (other ∷ with_member item items))
rising_with_at item other items Less h all rest = ((h, later_all (key_of item) (key_of other) items h all.0), all)
rising_with_at item other items Equal h all rest = (later_tied (key_of item) (key_of other) items h all.0, all.1)
rising_with_at item other items Greater h all rest = (later_with (key_of other) item items (less_of_greater (key_of item) (key_of other) h) all.0, rest)

rising_with : (item : PresenceItem) (items : List PresenceItem) → AreRising items → AreRising (with_member item items)
rising_with item [] all = (tt, tt)
rising_with item (other ∷ items) all = rising_with_at item other items (key_cmp (key_of item) (key_of other)) refl all (rising_with item items all.1)

pub is_rising_with : (item : PresenceItem) (items : List PresenceItem) → IsRising items → IsRising (with_member item items)
is_rising_with item items h = record { rising = rising_with item items h.rising }

later_kept_at : (a : MemberKey) (item : PresenceItem) (items : List PresenceItem) (b : Bool) → key_cmp a (key_of item) ≡ Less → AllLater a items → AllLater a (cond b (item ∷ items) items)
later_kept_at a item items true h all = (h, all)
later_kept_at a item items false h all = all

later_kept : (a : MemberKey) (keep : PresenceItem → Bool) (items : List PresenceItem) → AllLater a items → AllLater a (filter keep items)
later_kept a keep [] all = tt
later_kept a keep (item ∷ items) all = later_kept_at a item (filter keep items) (keep item) all.0 (later_kept a keep items all.1)

rising_kept_at : (item : PresenceItem) (items : List PresenceItem) (b : Bool) → AllLater (key_of item) items → AreRising items → AreRising (cond b (item ∷ items) items)
rising_kept_at item items true all rest = (all, rest)
rising_kept_at item items false all rest = rest

rising_kept : (keep : PresenceItem → Bool) (items : List PresenceItem) → AreRising items → AreRising (filter keep items)
rising_kept keep [] all = tt
rising_kept keep (item ∷ items) all = rising_kept_at item (filter keep items) (keep item) (later_kept (key_of item) keep items all.0) (rising_kept keep items all.1)

pub is_rising_kept : (keep : PresenceItem → Bool) (items : List PresenceItem) → IsRising items → IsRising (filter keep items)
is_rising_kept keep items h = record { rising = rising_kept keep items h.rising }

-- A TEST THAT HOLDS UP TO A PLACE

later_at : (key : MemberKey) (items : List PresenceItem) → AllLater key items → (j : ℕ) (d : PresenceItem) → j < length items → key_cmp key (key_of (get_or items j d)) ≡ Less
later_at key [] all j d h = absurd (omega arith)
later_at key (item ∷ items) all zero d h = all.0
later_at key (item ∷ items) all (suc j) d h = later_at key items all.1 j d (omega arith)

before_earlier : (key : MemberKey) (one other : PresenceItem) → key_cmp (key_of one) (key_of other) ≡ Less → is_before key other ≡ true → is_before key one ≡ true
before_earlier key one other h is = ap is_lt (before_all (key_of one) (key_of other) key h (lt_less _ is))

upto_at : (key : MemberKey) (one other : PresenceItem) (b : Bool) → is_lt (key_cmp key (key_of one)) ≡ b → key_cmp (key_of one) (key_of other) ≡ Less → is_upto key other ≡ true → not b ≡ true
upto_at key one other true e h is =
    let less : is_lt (key_cmp key (key_of other)) ≡ true = ap is_lt (before_all key (key_of one) (key_of other) (lt_less _ e) h) in
    sym (ap not less) ∙ is
upto_at key one other false e h is = refl

upto_earlier : (key : MemberKey) (one other : PresenceItem) → key_cmp (key_of one) (key_of other) ≡ Less → is_upto key other ≡ true → is_upto key one ≡ true
upto_earlier key one other h is = upto_at key one other (is_lt (key_cmp key (key_of one))) refl h is

parted : (test : PresenceItem → Bool) (items : List PresenceItem) → ((one other : PresenceItem) → key_cmp (key_of one) (key_of other) ≡ Less → test other ≡ true → test one ≡ true) → AreRising items → IsPartitionedBy test items
parted test [] earlier all i j d h k is = absurd (omega arith)
parted test (p ∷ ps) earlier all zero zero d h k is = is
parted test (p ∷ ps) earlier all zero (suc j) d h k is = earlier p (get_or ps j d) (later_at (key_of p) ps all.0 j d (omega arith)) is
parted test (p ∷ ps) earlier all (suc i) zero d h k is = absurd (omega arith)
parted test (p ∷ ps) earlier all (suc i) (suc j) d h k is = parted test ps earlier all.1 i j d (omega arith) (omega arith) is

pub parted_before : (key : MemberKey) (items : List PresenceItem) → IsRising items → IsPartitionedBy (is_before key) items
parted_before key items h = parted (is_before key) items (before_earlier key) h.rising

pub parted_upto : (key : MemberKey) (items : List PresenceItem) → IsRising items → IsPartitionedBy (is_upto key) items
parted_upto key items h = parted (is_upto key) items (upto_earlier key) h.rising

inside : (test : PresenceItem → Bool) (p : PresenceItem) (ps : List PresenceItem) (at : ℕ) → IsPlace test (p ∷ ps) (suc at) → IsPlace test ps at
inside test p ps at h = record {
  within = omega (arith, h.within);
  below = λ k d low high. h.below (suc k) d (omega arith) (omega arith);
  above = λ k d low high. h.above (suc k) d (omega arith) (omega arith);
}

-- PAST A KEY

past_of : (b : Bool) → not b ≡ false → b ≡ true
past_of true h = refl
past_of false h = cc

upto_of : (b : Bool) → not b ≡ true → b ≡ false
upto_of true h = cc
upto_of false h = refl

all_past : (key : MemberKey) (p : PresenceItem) (ps : List PresenceItem) (b : Bool) → is_past (Some key) p ≡ b → b ≡ true → filter (is_past (Some key)) ps ≡ ps → filter (is_past (Some key)) (p ∷ ps) ≡ p ∷ ps
all_past key p ps b is h rest = rw (is ∙ h) (ap (first p) rest)

none_past : (key : MemberKey) (p : PresenceItem) (ps : List PresenceItem) → is_past (Some key) p ≡ false → filter (is_past (Some key)) (p ∷ ps) ≡ filter (is_past (Some key)) ps
none_past key p ps h = rw h refl

pub dropped_past : (key : MemberKey) (items : List PresenceItem) (at : ℕ) → IsPlace (is_upto key) items at → drop at items ≡ filter (is_past (Some key)) items
dropped_past key [] zero h = refl
dropped_past key [] (suc at) h = refl
dropped_past key (p ∷ ps) zero h =
    let rest : IsPlace (is_upto key) ps zero = record {
      within = omega arith;
      below = λ k d low high. absurd (omega arith);
      above = λ k d low high. h.above (suc k) d (omega arith) (omega arith);
    } in
    sym (all_past key p ps _ refl (past_of _ (h.above 0 p (omega arith) (omega arith))) (sym (dropped_past key ps zero rest)))
dropped_past key (p ∷ ps) (suc at) h =
    dropped_past key ps at (inside (is_upto key) p ps at h) ∙ sym (none_past key p ps (upto_of _ (h.below 0 p (omega arith) (omega arith))))

-- ONE KEY'S PLACE

after_at : (key : MemberKey) (p : PresenceItem) (o : Ordering) → key_cmp key (key_of p) ≡ o → is_before key p ≡ false → is_of key p ≡ false → o ≡ Less
after_at key p Less e h k = refl
after_at key p Equal e h k = clash (is_of key p) (is_of_is key p ∙ ap is_eq e) k
after_at key p Greater e h k = clash (is_before key p) (ap is_lt (less_of_greater key (key_of p) e)) h

after_place : (key : MemberKey) (p : PresenceItem) → is_before key p ≡ false → is_of key p ≡ false → key_cmp key (key_of p) ≡ Less
after_place key p h k = after_at key p (key_cmp key (key_of p)) refl h k

before_place : (key : MemberKey) (p : PresenceItem) → is_before key p ≡ true → key_cmp key (key_of p) ≡ Greater
before_place key p h = greater_of_less (key_of p) key (lt_less _ h)

same_place : (key : MemberKey) (p : PresenceItem) → is_of key p ≡ true → key_cmp key (key_of p) ≡ Equal
same_place key p h = rw (of_same key p h) (before_itself (key_of p))

held_inside : (key : MemberKey) (p : PresenceItem) (ps : List PresenceItem) (at : ℕ) → IsHeldAt key (p ∷ ps) (suc at) → IsHeldAt key ps at
held_inside key p ps at h = record {
  place = inside (is_before key) p ps at h.place;
  within = omega (arith, h.within);
  same = λ d. h.same d;
}

missed_inside : (key : MemberKey) (p : PresenceItem) (ps : List PresenceItem) (at : ℕ) → IsMissedAt key (p ∷ ps) (suc at) → IsMissedAt key ps at
missed_inside key p ps at h = record {
  place = inside (is_before key) p ps at h.place;
  other = λ d k. h.other d (omega arith);
}

pub inserted_with : (item : PresenceItem) (items : List PresenceItem) (at : ℕ) → IsMissedAt (key_of item) items at → insert items at item ≡ with_member item items
inserted_with item [] zero h = refl
inserted_with item [] (suc at) h = absurd (omega (arith, h.place.within))
inserted_with item (p ∷ ps) zero h =
    sym (with_less item p ps (after_place (key_of item) p (h.place.above 0 p (omega arith) (omega arith)) (h.other p (omega arith))))
inserted_with item (p ∷ ps) (suc at) h =
    ap (first p) (inserted_with item ps at (missed_inside (key_of item) p ps at h))
    ∙ sym (with_greater item p ps (before_place (key_of item) p (h.place.below 0 p (omega arith) (omega arith))))

pub replaced_with : (item : PresenceItem) (items : List PresenceItem) (at : ℕ) → IsHeldAt (key_of item) items at → slice_set items at item ≡ with_member item items
replaced_with item [] at h = absurd (omega (arith, h.within))
replaced_with item (p ∷ ps) zero h = sym (with_equal item p ps (same_place (key_of item) p (h.same p)))
replaced_with item (p ∷ ps) (suc at) h =
    ap (first p) (replaced_with item ps at (held_inside (key_of item) p ps at h))
    ∙ sym (with_greater item p ps (before_place (key_of item) p (h.place.below 0 p (omega arith) (omega arith))))

pub removed_others : (key : MemberKey) (items : List PresenceItem) (at : ℕ) → AreRising items → IsHeldAt key items at → remove items at ≡ others key items
removed_others key [] at rising h = absurd (omega (arith, h.within))
removed_others key (p ∷ ps) zero rising h =
    let later : AllLater key ps = rw (of_same key p (h.same p)) rising.0 in
    sym (others_first key p ps (h.same p) ∙ others_later key ps later)
removed_others key (p ∷ ps) (suc at) rising h =
    ap (first p) (removed_others key ps at rising.1 (held_inside key p ps at h))
    ∙ sym (others_more key p ps (of_greater key p (before_place key p (h.place.below 0 p (omega arith) (omega arith)))))

any_first : (key : MemberKey) (p : PresenceItem) (ps : List PresenceItem) → is_of key p ≡ true → list_any (is_of key) (p ∷ ps) ≡ true
any_first key p ps h = rw h refl

any_more : (key : MemberKey) (p : PresenceItem) (ps : List PresenceItem) → is_of key p ≡ false → list_any (is_of key) (p ∷ ps) ≡ list_any (is_of key) ps
any_more key p ps h = rw h refl

pub held_here : (key : MemberKey) (items : List PresenceItem) (at : ℕ) → IsHeldAt key items at → list_any (is_of key) items ≡ true
held_here key [] at h = absurd (omega (arith, h.within))
held_here key (p ∷ ps) zero h = any_first key p ps (h.same p)
held_here key (p ∷ ps) (suc at) h =
    any_more key p ps (of_greater key p (before_place key p (h.place.below 0 p (omega arith) (omega arith))))
    ∙ held_here key ps at (held_inside key p ps at h)

none_later : (key : MemberKey) (items : List PresenceItem) → AllLater key items → list_any (is_of key) items ≡ false
none_later key [] all = refl
none_later key (p ∷ ps) all = any_more key p ps (of_less key p all.0) ∙ none_later key ps all.1

missed_both : (key : MemberKey) (items : List PresenceItem) (at : ℕ) → AreRising items → IsMissedAt key items at → (list_any (is_of key) items ≡ false) × (others key items ≡ items)
missed_both key [] at rising h = (refl, refl)
missed_both key (p ∷ ps) zero rising h =
    let less = after_place key p (h.place.above 0 p (omega arith) (omega arith)) (h.other p (omega arith)) in
    let all : AllLater key (p ∷ ps) = (less, later_all key (key_of p) ps less rising.0) in
    (none_later key (p ∷ ps) all, others_later key (p ∷ ps) all)
missed_both key (p ∷ ps) (suc at) rising h =
    let more = missed_both key ps at rising.1 (missed_inside key p ps at h) in
    let no = of_greater key p (before_place key p (h.place.below 0 p (omega arith) (omega arith))) in
    (any_more key p ps no ∙ more.0, others_more key p ps no ∙ ap (first p) more.1)

pub missed_none : (key : MemberKey) (items : List PresenceItem) (at : ℕ) → IsRising items → IsMissedAt key items at → list_any (is_of key) items ≡ false
missed_none key items at rising h = (missed_both key items at rising.rising h).0

pub missed_others : (key : MemberKey) (items : List PresenceItem) (at : ℕ) → IsRising items → IsMissedAt key items at → items ≡ others key items
missed_others key items at rising h = sym (missed_both key items at rising.rising h).1
