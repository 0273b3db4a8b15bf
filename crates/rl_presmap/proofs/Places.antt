-- A place among keys that rise.
use Rattle.std.proofs.Common.{◌≡◌, ℕ, zero, suc, ◌<◌, Bool, true, false, cond, List, [], ◌∷◌, length, refl, ap, sym, ◌∙◌, arith, get_or}
use Rattle.std.specs.Prelude.{filter, Some, None}
use Rattle.std.specs.List.{AllByRecursion}
use Rattle.std.specs.List.Sorted.{IsPartitionedBy}
use Rattle.std.specs.declared.cmp.Ordering.{Ordering}
use Rattle.std.specs.declared.cmp.Ordering.TheVariants.{Less, Equal, Greater}
use Rattle.std.specs.Ordering.{is_lt, is_eq}
use Rattle.rl_ids.specs.declared.members.MemberKey.{MemberKey}
use Rattle.rl_model.specs.Members.{key_of, key_cmp}
use Rattle.rl_presmap.specs.declared.held.Held.{Held}
use Rattle.rl_presmap.specs.Held.{AreRising, is_held_of, is_before, is_behind, slot, IsPlace, IsHeldAt, IsMissedAt}
use Rattle.rl_presmap.proofs.Keys.{before_all, less_of_greater, greater_of_less, is_of_is, of_same, of_less, of_greater, before_itself}

pub lt_less : (o : Ordering) → is_lt o ≡ true → o ≡ Less
lt_less Less h = refl
lt_less Equal h = cc
lt_less Greater h = cc

pub clash : {A : Type 0} (b : Bool) → b ≡ true → b ≡ false → A
clash b t f = cc (sym t ∙ f)

-- ALL OF LATER KEYS

abbrev pub AllLater : MemberKey → List Held → Type 0
AllLater key held = AllByRecursion (λ other. key_cmp key (key_of other.item) ≡ Less) held

pub later_all : (a b : MemberKey) (held : List Held) → key_cmp a b ≡ Less → AllLater b held → AllLater a held
later_all a b [] h all = tt
later_all a b (one ∷ held) h all = (before_all a b (key_of one.item) h all.0, later_all a b held h all.1)

later_at : (key : MemberKey) (held : List Held) → AllLater key held → (j : ℕ) (d : Held) → j < length held → key_cmp key (key_of (get_or held j d).item) ≡ Less
later_at key [] all j d h = absurd (omega arith)
later_at key (one ∷ held) all zero d h = all.0
later_at key (one ∷ held) all (suc j) d h = later_at key held all.1 j d (omega arith)

before_earlier : (key : MemberKey) (one other : Held) → key_cmp (key_of one.item) (key_of other.item) ≡ Less → is_before key other ≡ true → is_before key one ≡ true
before_earlier key one other h is = ap is_lt (before_all (key_of one.item) (key_of other.item) key h (lt_less _ is))

pub parted : (key : MemberKey) (held : List Held) → AreRising held → IsPartitionedBy (is_before key) held
parted key [] all i j d h k is = absurd (omega arith)
parted key (p ∷ ps) all zero zero d h k is = is
parted key (p ∷ ps) all zero (suc j) d h k is = before_earlier key p (get_or ps j d) (later_at (key_of p.item) ps all.0 j d (omega arith)) is
parted key (p ∷ ps) all (suc i) zero d h k is = absurd (omega arith)
parted key (p ∷ ps) all (suc i) (suc j) d h k is = parted key ps all.1 i j d (omega arith) (omega arith) is

inside : (test : Held → Bool) (p : Held) (ps : List Held) (at : ℕ) → IsPlace test (p ∷ ps) (suc at) → IsPlace test ps at
inside test p ps at h = record {
  within = omega (arith, h.within);
  below = λ k d low high. h.below (suc k) d (omega arith) (omega arith);
  above = λ k d low high. h.above (suc k) d (omega arith) (omega arith);
}

-- FILTERS

abbrev first : Held → List Held → List Held
first p ps = p ∷ ps

pub kept : (test : Held → Bool) (p : Held) (ps : List Held) → test p ≡ true → filter test (p ∷ ps) ≡ p ∷ filter test ps
kept test p ps h = ap (λ b. cond b (p ∷ filter test ps) (filter test ps)) h

pub left : (test : Held → Bool) (p : Held) (ps : List Held) → test p ≡ false → filter test (p ∷ ps) ≡ filter test ps
left test p ps h = ap (λ b. cond b (p ∷ filter test ps) (filter test ps)) h

pub found : (key : MemberKey) (p : Held) (ps : List Held) → is_held_of key p ≡ true → slot key (p ∷ ps) ≡ Some p
found key p ps h = ap (λ b. cond b (Some p) (slot key ps)) h

pub passed : (key : MemberKey) (p : Held) (ps : List Held) → is_held_of key p ≡ false → slot key (p ∷ ps) ≡ slot key ps
passed key p ps h = ap (λ b. cond b (Some p) (slot key ps)) h

-- HOW A KEY STANDS TO WHAT IS HELD

pub is_less : (key : MemberKey) (p : Held) → key_cmp key (key_of p.item) ≡ Less → (is_before key p ≡ false) × (is_behind key p ≡ true) × (is_held_of key p ≡ false)
is_less key p h = (ap is_lt (greater_of_less key (key_of p.item) h), ap is_lt h, of_less key p.item h)

pub is_greater : (key : MemberKey) (p : Held) → key_cmp key (key_of p.item) ≡ Greater → (is_before key p ≡ true) × (is_behind key p ≡ false) × (is_held_of key p ≡ false)
is_greater key p h = (ap is_lt (less_of_greater key (key_of p.item) h), ap is_lt h, of_greater key p.item h)

pub is_same : (key : MemberKey) (p : Held) → is_held_of key p ≡ true → (is_before key p ≡ false) × (is_behind key p ≡ false)
is_same key p h =
    let e : key_cmp key (key_of p.item) ≡ Equal = ap (λ (k : MemberKey). key_cmp key k) (sym (of_same key p.item h)) ∙ before_itself key in
    (ap (λ (k : MemberKey). is_lt (key_cmp (key_of p.item) k)) (of_same key p.item h) ∙ ap is_lt (before_itself (key_of p.item)), ap is_lt e)

after_at : (key : MemberKey) (p : Held) (o : Ordering) → key_cmp key (key_of p.item) ≡ o → is_before key p ≡ false → is_held_of key p ≡ false → o ≡ Less
after_at key p Less e h k = refl
after_at key p Equal e h k = clash (is_held_of key p) (is_of_is key p.item ∙ ap is_eq e) k
after_at key p Greater e h k = clash (is_before key p) (is_greater key p e).0 h

after_place : (key : MemberKey) (p : Held) → is_before key p ≡ false → is_held_of key p ≡ false → key_cmp key (key_of p.item) ≡ Less
after_place key p h k = after_at key p (key_cmp key (key_of p.item)) refl h k

before_place : (key : MemberKey) (p : Held) → is_before key p ≡ true → key_cmp key (key_of p.item) ≡ Greater
before_place key p h = greater_of_less (key_of p.item) key (lt_less _ h)

-- all of later keys are behind
record AllBehind (key : MemberKey) (held : List Held) : Type 0 where
  none : filter (is_before key) held ≡ []
  all : filter (is_behind key) held ≡ held
  missed : slot key held ≡ None

behind : (key : MemberKey) (held : List Held) → AllLater key held → AllBehind key held
behind key [] all = record { none = refl; all = refl; missed = refl }
behind key (p ∷ ps) all =
    let rest = behind key ps all.1 in
    let is = is_less key p all.0 in
    record {
      none = left (is_before key) p ps is.0 ∙ rest.none;
      all = kept (is_behind key) p ps is.1 ∙ ap (first p) rest.all;
      missed = passed key p ps is.2 ∙ rest.missed;
    }

-- ONE KEY'S PLACE

pub held_at : (key : MemberKey) (held : List Held) (at : ℕ) → AreRising held → IsPlace (is_before key) held at → at < length held
    → ((d : Held) → is_held_of key (get_or held at d) ≡ true) → IsHeldAt key held at
held_at key [] at rising h low same = absurd (omega arith)
held_at key (p ∷ ps) zero rising h low same =
    let is = is_same key p (same p) in
    let e : key ≡ key_of p.item = of_same key p.item (same p) in
    let later : AllLater key ps = rw e rising.0 in
    let rest = behind key ps later in
    record {
      within = omega arith;
      front = sym (left (is_before key) p ps is.0 ∙ rest.none);
      back = sym (left (is_behind key) p ps is.1 ∙ rest.all);
      here = found key p ps (same p);
    }
held_at key (p ∷ ps) (suc at) rising h low same =
    let rest = held_at key ps at rising.1 (inside (is_before key) p ps at h) (omega arith) (λ d. same d) in
    let is = is_greater key p (before_place key p (h.below 0 p (omega arith) (omega arith))) in
    record {
      within = omega (arith, rest.within);
      front = ap (first p) rest.front ∙ sym (kept (is_before key) p ps is.0);
      back = rest.back ∙ sym (left (is_behind key) p ps is.1);
      here = passed key p ps is.2 ∙ rest.here;
    }

pub missed_at : (key : MemberKey) (held : List Held) (at : ℕ) → AreRising held → IsPlace (is_before key) held at
    → ((d : Held) → at < length held → is_held_of key (get_or held at d) ≡ false) → IsMissedAt key held at
missed_at key [] zero rising h other = record { within = omega arith; front = refl; back = refl; none = refl }
missed_at key [] (suc at) rising h other = absurd (omega (arith, h.within))
missed_at key (p ∷ ps) zero rising h other =
    let less = after_place key p (h.above 0 p (omega arith) (omega arith)) (other p (omega arith)) in
    let all : AllLater key (p ∷ ps) = (less, later_all key (key_of p.item) ps less rising.0) in
    let rest = behind key (p ∷ ps) all in
    record { within = omega arith; front = sym rest.none; back = sym rest.all; none = rest.missed }
missed_at key (p ∷ ps) (suc at) rising h other =
    let rest = missed_at key ps at rising.1 (inside (is_before key) p ps at h) (λ d k. other d (omega arith)) in
    let is = is_greater key p (before_place key p (h.below 0 p (omega arith) (omega arith))) in
    record {
      within = omega (arith, rest.within);
      front = ap (first p) rest.front ∙ sym (kept (is_before key) p ps is.0);
      back = rest.back ∙ sym (left (is_behind key) p ps is.1);
      none = passed key p ps is.2 ∙ rest.none;
    }
