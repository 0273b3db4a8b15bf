-- Operations of two sites on one object leave the same in either order.
use Rattle.std.proofs.Common.{◌≡◌, ℕ, Bool, true, false, cond, List, [], ◌∷◌, refl, ap, sym, subst, ◌∙◌, arith}
use Rattle.std.specs.Prelude.{◌&&◌, ◌||◌, not, bytes_eq, Option, Some, None, is_none, ℤ, ◌+ℤ◌}
use Rattle.std.proofs.lemmas.Int.{ints}
use Rattle.std.specs.declared.cmp.Ordering.{Ordering}
use Rattle.std.specs.declared.cmp.Ordering.TheVariants.{Less, Equal, Greater}
use Rattle.std.specs.Ordering.{nat_cmp, match_ordering, is_lt, ordering_reverse, ordering_then}
use Rattle.std.specs.Cmp.{IsTotalOrder}
use Rattle.std.specs.Cmp.Lexicographic.{slice_cmp}
use Rattle.std.proofs.lemmas.Cmp.{nat_list_cmp_total, nat_cmp_total, on_total, then_total, tied_itself}
use Rattle.rl_ids.specs.declared.objects.MapValue.{MapValue}
use Rattle.rl_ids.specs.declared.serials.OpSerial.{OpSerial}
use Rattle.rl_ids.specs.Objects.{serial_cmp, is_below}
use Rattle.rl_ids.specs.declared.objects.ObjectId.{ObjectId}
use Rattle.rl_types.specs.declared.objects.Op.{Op}
use Rattle.rl_types.specs.declared.objects.Op.TheVariants.{MapCreate, MapSet, MapRemove, CounterCreate, CounterInc, Delete}
use Rattle.rl_objmodel.specs.declared.plain.Applied.TheVariants as outcomes
use Rattle.rl_objmodel.specs.Operations.{is_create, is_delete}
use Rattle.rl_objmodel.specs.Held.{Write, Cells, value_written, removal, HeldBody, Sum, Keys, Held}
use Rattle.rl_objmodel.specs.Objects.{greater}
use Rattle.rl_objmodel.specs.Places.{at_text, with_at}
use Rattle.rl_objmodel.specs.Steps.{is_above, passes, with_site, with_write, with_writes, entry_writes, on_cells, on_sum, added, body_passes_range, is_misplaced, outcome, emptied, changed, body_after, held_by, held_with, held_if, held_after}
use Rattle.rl_objmodel.specs.Commuting.{is_range, EitherOrder}
use Rattle.rl_objmodel.proofs.PlacesHeld.{texts_same, texts_itself, equal_same, eq_of_equal, less_of_greater, greater_of_less, there_with}

-- SERIALS

pub serials_total : IsTotalOrder serial_cmp
serials_total = then_total (on_total (λ (s : OpSerial). s.place) nat_cmp_total) (then_total (on_total (λ (s : OpSerial). s.index) nat_cmp_total) (on_total (λ (s : OpSerial). s.site) nat_list_cmp_total))

lt_is : (o : Ordering) → is_lt o ≡ true → o ≡ Less
lt_is Less h = refl
lt_is Equal h = cc
lt_is Greater h = cc

below_trans : (a b c : OpSerial) → is_below a b ≡ true → is_below b c ≡ true → is_below a c ≡ true
below_trans a b c h k = ap is_lt (serials_total.trans a b c (lt_is _ h) (lt_is _ k))

then_equal : (o p : Ordering) → ordering_then o p ≡ Equal → p ≡ Equal
then_equal Less p h = cc
then_equal Equal p h = h
then_equal Greater p h = cc

not_tied : (a b : OpSerial) → bytes_eq a.site b.site ≡ false → serial_cmp a b ≡ Equal → true ≡ false
not_tied a b h e =
    let inner = then_equal (nat_cmp a.place b.place) (ordering_then (nat_cmp a.index b.index) (slice_cmp nat_cmp a.site b.site)) e in
    sym (eq_of_equal a.site b.site (then_equal (nat_cmp a.index b.index) (slice_cmp nat_cmp a.site b.site) inner)) ∙ h

turn_at : (o : Ordering) → (o ≡ Equal → true ≡ false) → is_lt (ordering_reverse o) ≡ not (is_lt o)
turn_at Less h = refl
turn_at Equal h = cc (h refl)
turn_at Greater h = refl

-- of two sites' serials one is smaller
turned : (a b : OpSerial) → bytes_eq a.site b.site ≡ false → is_below b a ≡ not (is_below a b)
turned a b h = ap is_lt (serials_total.antisymm b a) ∙ turn_at (serial_cmp a b) (not_tied a b h)

-- WRITES AT ONE KEY

pick : (v w x : Write) → bytes_eq w.serial.site x.serial.site ≡ false → (vw vx wx : Bool) → is_below v.serial w.serial ≡ vw → is_below v.serial x.serial ≡ vx → is_below w.serial x.serial ≡ wx
    → greater (Some (cond vw w v)) x ≡ greater (Some (cond vx x v)) w
pick v w x apart true true true a b c = ap (λ (t : Bool). cond t x w) c ∙ sym (ap (λ (t : Bool). cond t w x) (turned w.serial x.serial apart ∙ ap not c))
pick v w x apart true true false a b c = ap (λ (t : Bool). cond t x w) c ∙ sym (ap (λ (t : Bool). cond t w x) (turned w.serial x.serial apart ∙ ap not c))
pick v w x apart true false true a b c = cc (sym (below_trans v.serial w.serial x.serial a c) ∙ b)
pick v w x apart true false false a b c = ap (λ (t : Bool). cond t x w) c ∙ sym (ap (λ (t : Bool). cond t w v) a)
pick v w x apart false true true a b c = ap (λ (t : Bool). cond t x v) b ∙ sym (ap (λ (t : Bool). cond t w x) (turned w.serial x.serial apart ∙ ap not c))
pick v w x apart false true false a b c = cc (sym (below_trans v.serial x.serial w.serial b (turned w.serial x.serial apart ∙ ap not c)) ∙ a)
pick v w x apart false false wx a b c = ap (λ (t : Bool). cond t x v) b ∙ sym (ap (λ (t : Bool). cond t w v) a)

first_at : (w x : Write) → bytes_eq w.serial.site x.serial.site ≡ false → (wx : Bool) → is_below w.serial x.serial ≡ wx → cond wx x w ≡ greater (Some x) w
first_at w x apart true c = sym (ap (λ (t : Bool). cond t w x) (turned w.serial x.serial apart ∙ ap not c))
first_at w x apart false c = sym (ap (λ (t : Bool). cond t w x) (turned w.serial x.serial apart ∙ ap not c))

greater_either : (there : Option Write) (w x : Write) → bytes_eq w.serial.site x.serial.site ≡ false → greater (Some (greater there w)) x ≡ greater (Some (greater there x)) w
greater_either None w x apart = first_at w x apart (is_below w.serial x.serial) refl
greater_either (Some v) w x apart = pick v w x apart (is_below v.serial w.serial) (is_below v.serial x.serial) (is_below w.serial x.serial) refl refl refl

-- TEXTS WITH SOMETHING AT EACH

before : (a b c : List ℕ) → slice_cmp nat_cmp a b ≡ Less → slice_cmp nat_cmp b c ≡ Less → slice_cmp nat_cmp a c ≡ Less
before a b c h k = nat_list_cmp_total.trans a b c h k

equal_less : (a b c : List ℕ) → slice_cmp nat_cmp a b ≡ Less → slice_cmp nat_cmp c b ≡ Equal → slice_cmp nat_cmp a c ≡ Less
equal_less a b c h k = ap (slice_cmp nat_cmp a) (equal_same c b k) ∙ h

apart_of : (t u : List ℕ) → bytes_eq t u ≡ false → slice_cmp nat_cmp t u ≡ Equal → true ≡ false
apart_of t u h e = sym (eq_of_equal t u e) ∙ h

module _ {T : Type 0} where
  with_less : (text : List ℕ) (x : T) (p : List ℕ × T) (ps : List (List ℕ × T)) → slice_cmp nat_cmp text p.0 ≡ Less → with_at text x (p ∷ ps) ≡ (text, x) ∷ p ∷ ps
  with_less text x p ps h = rw h refl

  with_equal : (text : List ℕ) (x : T) (p : List ℕ × T) (ps : List (List ℕ × T)) → slice_cmp nat_cmp text p.0 ≡ Equal → with_at text x (p ∷ ps) ≡ (text, x) ∷ ps
  with_equal text x p ps h = rw h refl

  with_more : (text : List ℕ) (x : T) (p : List ℕ × T) (ps : List (List ℕ × T)) → slice_cmp nat_cmp text p.0 ≡ Greater → with_at text x (p ∷ ps) ≡ p ∷ with_at text x ps
  with_more text x p ps h = rw h refl

  twice_at : (text : List ℕ) (x y : T) (p : List ℕ × T) (ps : List (List ℕ × T)) (o : Ordering) → slice_cmp nat_cmp text p.0 ≡ o → with_at text y (with_at text x ps) ≡ with_at text y ps → with_at text y (match_ordering o ((text, x) ∷ p ∷ ps) ((text, x) ∷ ps) (p ∷ with_at text x ps)) ≡ match_ordering o ((text, y) ∷ p ∷ ps) ((text, y) ∷ ps) (p ∷ with_at text y ps)
  twice_at text x y p ps Less h rest = with_equal text y (text, x) (p ∷ ps) (tied_itself nat_list_cmp_total text)
  twice_at text x y p ps Equal h rest = with_equal text y (text, x) ps (tied_itself nat_list_cmp_total text)
  twice_at text x y p ps Greater h rest = with_more text y p (with_at text x ps) h ∙ ap (λ (all : List (List ℕ × T)). p ∷ all) rest

  pub twice : (text : List ℕ) (x y : T) (all : List (List ℕ × T)) → with_at text y (with_at text x all) ≡ with_at text y all
  twice text x y [] = with_equal text y (text, x) [] (tied_itself nat_list_cmp_total text)
  twice text x y (p ∷ ps) = twice_at text x y p ps (slice_cmp nat_cmp text p.0) refl (twice text x y ps)

  -- what is at another text
  other_at : (text other : List ℕ) (x : T) (p : List ℕ × T) (ps : List (List ℕ × T)) (o : Ordering) → bytes_eq other text ≡ false → slice_cmp nat_cmp text p.0 ≡ o → at_text other (with_at text x ps) ≡ at_text other ps → at_text other (match_ordering o ((text, x) ∷ p ∷ ps) ((text, x) ∷ ps) (p ∷ with_at text x ps)) ≡ at_text other (p ∷ ps)
  other_at text other x p ps Less apart h rest = ap (λ (b : Bool). cond b (Some x) (at_text other (p ∷ ps))) apart
  other_at text other x p ps Equal apart h rest =
      ap (λ (b : Bool). cond b (Some x) (at_text other ps)) apart
      ∙ sym (ap (λ (b : Bool). cond b (Some p.1) (at_text other ps)) (ap (bytes_eq other) (sym (equal_same text p.0 h)) ∙ apart))
  other_at text other x p ps Greater apart h rest = ap (λ (o : Option T). cond (bytes_eq other p.0) (Some p.1) o) rest

  pub there_other : (text other : List ℕ) (x : T) (all : List (List ℕ × T)) → bytes_eq other text ≡ false → at_text other (with_at text x all) ≡ at_text other all
  there_other text other x [] apart = ap (λ (b : Bool). cond b (Some x) None) apart
  there_other text other x (p ∷ ps) apart = other_at text other x p ps (slice_cmp nat_cmp text p.0) apart refl (there_other text other x ps apart)

  -- two texts

  -- one is before the other, at the front
  front : (t u : List ℕ) (x y : T) (all : List (List ℕ × T)) → slice_cmp nat_cmp t u ≡ Less → with_at u y ((t, x) ∷ all) ≡ (t, x) ∷ with_at u y all
  front t u x y all h = with_more u y (t, x) all (greater_of_less t u h)

  both_less : (t u : List ℕ) (x y : T) (p : List ℕ × T) (ps : List (List ℕ × T)) (o : Ordering) → slice_cmp nat_cmp t u ≡ o → (o ≡ Equal → true ≡ false) → slice_cmp nat_cmp t p.0 ≡ Less → slice_cmp nat_cmp u p.0 ≡ Less → with_at u y ((t, x) ∷ p ∷ ps) ≡ with_at t x ((u, y) ∷ p ∷ ps)
  both_less t u x y p ps Less e apart h k =
      front t u x y (p ∷ ps) e ∙ ap (λ (all : List (List ℕ × T)). (t, x) ∷ all) (with_less u y p ps k) ∙ sym (with_less t x (u, y) (p ∷ ps) e)
  both_less t u x y p ps Equal e apart h k = cc (apart refl)
  both_less t u x y p ps Greater e apart h k =
      with_less u y (t, x) (p ∷ ps) (less_of_greater t u e) ∙ sym (front u t y x (p ∷ ps) (less_of_greater t u e) ∙ ap (λ (all : List (List ℕ × T)). (u, y) ∷ all) (with_less t x p ps h))

  -- the first stands before, the second at the front
  less_equal : (t u : List ℕ) (x y : T) (p : List ℕ × T) (ps : List (List ℕ × T)) → slice_cmp nat_cmp t p.0 ≡ Less → slice_cmp nat_cmp u p.0 ≡ Equal → with_at u y ((t, x) ∷ p ∷ ps) ≡ with_at t x ((u, y) ∷ ps)
  less_equal t u x y p ps h k =
      let less = equal_less t p.0 u h k in
      front t u x y (p ∷ ps) less ∙ ap (λ (all : List (List ℕ × T)). (t, x) ∷ all) (with_equal u y p ps k) ∙ sym (with_less t x (u, y) ps less)

  -- the first stands before, the second behind
  less_more : (t u : List ℕ) (x y : T) (p : List ℕ × T) (ps : List (List ℕ × T)) → slice_cmp nat_cmp t p.0 ≡ Less → slice_cmp nat_cmp u p.0 ≡ Greater → with_at u y ((t, x) ∷ p ∷ ps) ≡ with_at t x (p ∷ with_at u y ps)
  less_more t u x y p ps h k =
      front t u x y (p ∷ ps) (before t p.0 u h (less_of_greater u p.0 k)) ∙ ap (λ (all : List (List ℕ × T)). (t, x) ∷ all) (with_more u y p ps k) ∙ sym (with_less t x p (with_at u y ps) h)

  -- the first stands at the front, the second behind
  equal_more : (t u : List ℕ) (x y : T) (p : List ℕ × T) (ps : List (List ℕ × T)) → slice_cmp nat_cmp t p.0 ≡ Equal → slice_cmp nat_cmp u p.0 ≡ Greater → with_at u y ((t, x) ∷ ps) ≡ with_at t x (p ∷ with_at u y ps)
  equal_more t u x y p ps h k =
      let less : slice_cmp nat_cmp t u ≡ Less = ap (λ (text : List ℕ). slice_cmp nat_cmp text u) (equal_same t p.0 h) ∙ less_of_greater u p.0 k in
      front t u x y ps less ∙ sym (with_equal t x p (with_at u y ps) h)

  either_at : (t u : List ℕ) (x y : T) (p : List ℕ × T) (ps : List (List ℕ × T)) (o q : Ordering) → (slice_cmp nat_cmp t u ≡ Equal → true ≡ false) → slice_cmp nat_cmp t p.0 ≡ o → slice_cmp nat_cmp u p.0 ≡ q → with_at u y (with_at t x ps) ≡ with_at t x (with_at u y ps)
      → with_at u y (match_ordering o ((t, x) ∷ p ∷ ps) ((t, x) ∷ ps) (p ∷ with_at t x ps)) ≡ with_at t x (match_ordering q ((u, y) ∷ p ∷ ps) ((u, y) ∷ ps) (p ∷ with_at u y ps))
  either_at t u x y p ps Less Less apart h k rest = both_less t u x y p ps (slice_cmp nat_cmp t u) refl apart h k
  either_at t u x y p ps Less Equal apart h k rest = less_equal t u x y p ps h k
  either_at t u x y p ps Less Greater apart h k rest = less_more t u x y p ps h k
  either_at t u x y p ps Equal Less apart h k rest = sym (less_equal u t y x p ps k h)
  either_at t u x y p ps Equal Equal apart h k rest = cc (apart (ap (slice_cmp nat_cmp t) (equal_same u p.0 k) ∙ h))
  either_at t u x y p ps Equal Greater apart h k rest = equal_more t u x y p ps h k
  either_at t u x y p ps Greater Less apart h k rest = sym (less_more u t y x p ps k h)
  either_at t u x y p ps Greater Equal apart h k rest = sym (equal_more u t y x p ps k h)
  either_at t u x y p ps Greater Greater apart h k rest = with_more u y p (with_at t x ps) k ∙ ap (λ (all : List (List ℕ × T)). p ∷ all) rest ∙ sym (with_more t x p (with_at u y ps) h)

  alone_at : (t u : List ℕ) (x y : T) (o : Ordering) → slice_cmp nat_cmp t u ≡ o → (o ≡ Equal → true ≡ false) → with_at u y ((t, x) ∷ []) ≡ with_at t x ((u, y) ∷ [])
  alone_at t u x y Less e apart = front t u x y [] e ∙ sym (with_less t x (u, y) [] e)
  alone_at t u x y Equal e apart = cc (apart refl)
  alone_at t u x y Greater e apart = with_less u y (t, x) [] (less_of_greater t u e) ∙ sym (front u t y x [] (less_of_greater t u e))

  pub with_either : (t u : List ℕ) (x y : T) (all : List (List ℕ × T)) → bytes_eq t u ≡ false → with_at u y (with_at t x all) ≡ with_at t x (with_at u y all)
  with_either t u x y [] apart = alone_at t u x y (slice_cmp nat_cmp t u) refl (apart_of t u apart)
  with_either t u x y (p ∷ ps) apart = either_at t u x y p ps (slice_cmp nat_cmp t p.0) (slice_cmp nat_cmp u p.0) (apart_of t u apart) refl refl (with_either t u x y ps apart)

-- WRITES

write_same : (key : List ℕ) (w x : Write) (cells : Cells) → bytes_eq w.serial.site x.serial.site ≡ false → with_write key x (with_write key w cells) ≡ with_write key w (with_write key x cells)
write_same key w x cells apart =
    there_twice w x ∙ ap (λ (one : Write). with_at key one cells) (greater_either (at_text key cells) w x apart) ∙ sym (there_twice x w)
  where
    there_twice : (w x : Write) → with_write key x (with_write key w cells) ≡ with_at key (greater (Some (greater (at_text key cells) w)) x) cells
    there_twice w x =
        ap (λ (o : Option Write). with_at key (greater o x) (with_write key w cells)) (there_with key (greater (at_text key cells) w) cells)
        ∙ twice key (greater (at_text key cells) w) (greater (Some (greater (at_text key cells) w)) x) cells

write_apart : (key other : List ℕ) (w x : Write) (cells : Cells) → bytes_eq key other ≡ false → bytes_eq other key ≡ false → with_write other x (with_write key w cells) ≡ with_write key w (with_write other x cells)
write_apart key other w x cells apart back =
    ap (λ (o : Option Write). with_at other (greater o x) (with_write key w cells)) (there_other key other (greater (at_text key cells) w) cells back)
    ∙ with_either key other (greater (at_text key cells) w) (greater (at_text other cells) x) cells apart
    ∙ sym (ap (λ (o : Option Write). with_at key (greater o w) (with_write other x cells)) (there_other other key (greater (at_text other cells) x) cells apart))

pub eq_back : (a b : List ℕ) (c : Bool) → bytes_eq a b ≡ c → bytes_eq b a ≡ c
eq_back a b true h = ap (λ (t : List ℕ). bytes_eq t a) (sym (texts_same a b h)) ∙ texts_itself a
eq_back a b false h = not_same a b h (bytes_eq b a) refl
  where
    not_same : (a b : List ℕ) → bytes_eq a b ≡ false → (c : Bool) → bytes_eq b a ≡ c → bytes_eq b a ≡ false
    not_same a b h true e = cc (sym h ∙ ap (λ (t : List ℕ). bytes_eq t b) (sym (texts_same b a e)) ∙ texts_itself b)
    not_same a b h false e = e

write_by : (key other : List ℕ) (w x : Write) (cells : Cells) (b : Bool) → bytes_eq key other ≡ b → bytes_eq w.serial.site x.serial.site ≡ false → with_write other x (with_write key w cells) ≡ with_write key w (with_write other x cells)
write_by key other w x cells true e apart =
    subst (λ (k : List ℕ). with_write k x (with_write key w cells) ≡ with_write key w (with_write k x cells)) (texts_same key other e) (write_same key w x cells apart)
write_by key other w x cells false e apart = write_apart key other w x cells e (eq_back key other false e)

-- two sites' writes, whatever their keys
pub write_either : (key other : List ℕ) (w x : Write) (cells : Cells) → bytes_eq w.serial.site x.serial.site ≡ false → with_write other x (with_write key w cells) ≡ with_write key w (with_write other x cells)
write_either key other w x cells apart = write_by key other w x cells (bytes_eq key other) refl apart

abbrev Entries : Type 0
Entries = List (List ℕ × MapValue)

-- a create's entries, and a write of another site
entries_either : (serial : OpSerial) (entries : Entries) (other : List ℕ) (x : Write) (cells : Cells) → bytes_eq serial.site x.serial.site ≡ false → with_write other x (with_writes (entry_writes serial entries) cells) ≡ with_writes (entry_writes serial entries) (with_write other x cells)
entries_either serial [] other x cells apart = refl
entries_either serial (entry ∷ entries) other x cells apart =
    entries_either serial entries other x (with_write entry.0 (value_written serial entry.1) cells) apart
    ∙ ap (with_writes (entry_writes serial entries)) (write_either entry.0 other (value_written serial entry.1) x cells apart)

-- two creates' entries
all_either : (serial other : OpSerial) (entries more : Entries) (cells : Cells) → bytes_eq serial.site other.site ≡ false → with_writes (entry_writes other more) (with_writes (entry_writes serial entries) cells) ≡ with_writes (entry_writes serial entries) (with_writes (entry_writes other more) cells)
all_either serial other entries [] cells apart = refl
all_either serial other entries (one ∷ more) cells apart =
    ap (with_writes (entry_writes other more)) (entries_either serial entries one.0 (value_written other one.1) cells apart)
    ∙ all_either serial other entries more (with_write one.0 (value_written other one.1) cells) apart

-- BODIES

abbrev CommuteAt : (HeldBody → HeldBody) → (HeldBody → HeldBody) → HeldBody → Type 0
CommuteAt f g body = g (f body) ≡ f (g body)

on_both_cells : (f g : Cells → Cells) → ((cells : Cells) → g (f cells) ≡ f (g cells)) → (body : HeldBody) → CommuteAt (on_cells f) (on_cells g) body
on_both_cells f g h (Sum sum) = refl
on_both_cells f g h (Keys cells) = ap Keys (h cells)

on_sums : (a b : ℤ) (body : HeldBody) → CommuteAt (on_sum (λ sum. sum +ℤ a)) (on_sum (λ sum. sum +ℤ b)) body
on_sums a b (Sum sum) = ap Sum (swapped sum a b)
  where
    swapped : (s a b : ℤ) → (s +ℤ a) +ℤ b ≡ (s +ℤ b) +ℤ a
    swapped s a b = omega (arith, ints)
on_sums a b (Keys cells) = refl

cells_sum : (f : Cells → Cells) (a : ℤ) (body : HeldBody) → CommuteAt (on_cells f) (on_sum (λ sum. sum +ℤ a)) body
cells_sum f a (Sum sum) = refl
cells_sum f a (Keys cells) = refl

sum_cells : (f : Cells → Cells) (a : ℤ) (body : HeldBody) → CommuteAt (on_sum (λ sum. sum +ℤ a)) (on_cells f) body
sum_cells f a (Sum sum) = refl
sum_cells f a (Keys cells) = refl

-- what an operation that is no deletion does to a body: it writes to cells, or adds to a sum
changes_either : (stamp : ℕ) (serial other : OpSerial) (op op2 : Op) (body : HeldBody) → bytes_eq serial.site other.site ≡ false → is_delete op ≡ false → is_delete op2 ≡ false → CommuteAt (changed stamp serial op) (changed stamp other op2) body
changes_either stamp s o (MapCreate id es) (MapCreate id2 es2) body apart h k = on_both_cells _ _ (λ cells. all_either s o es es2 cells apart) body
changes_either stamp s o (MapCreate id es) (MapSet id2 key value) body apart h k = on_both_cells _ _ (λ cells. entries_either s es key (value_written o value) cells apart) body
changes_either stamp s o (MapCreate id es) (MapRemove id2 key) body apart h k = on_both_cells _ _ (λ cells. entries_either s es key (removal o stamp) cells apart) body
changes_either stamp s o (MapCreate id es) (CounterCreate id2 n) body apart h k = cells_sum _ n body
changes_either stamp s o (MapCreate id es) (CounterInc id2 n) body apart h k = cells_sum _ n body
changes_either stamp s o (MapSet id key value) (MapCreate id2 es) body apart h k = on_both_cells _ _ (λ cells. sym (entries_either o es key (value_written s value) cells (eq_back s.site o.site false apart))) body
changes_either stamp s o (MapSet id key value) (MapSet id2 key2 value2) body apart h k = on_both_cells _ _ (λ cells. write_either key key2 (value_written s value) (value_written o value2) cells apart) body
changes_either stamp s o (MapSet id key value) (MapRemove id2 key2) body apart h k = on_both_cells _ _ (λ cells. write_either key key2 (value_written s value) (removal o stamp) cells apart) body
changes_either stamp s o (MapSet id key value) (CounterCreate id2 n) body apart h k = cells_sum _ n body
changes_either stamp s o (MapSet id key value) (CounterInc id2 n) body apart h k = cells_sum _ n body
changes_either stamp s o (MapRemove id key) (MapCreate id2 es) body apart h k = on_both_cells _ _ (λ cells. sym (entries_either o es key (removal s stamp) cells (eq_back s.site o.site false apart))) body
changes_either stamp s o (MapRemove id key) (MapSet id2 key2 value2) body apart h k = on_both_cells _ _ (λ cells. write_either key key2 (removal s stamp) (value_written o value2) cells apart) body
changes_either stamp s o (MapRemove id key) (MapRemove id2 key2) body apart h k = on_both_cells _ _ (λ cells. write_either key key2 (removal s stamp) (removal o stamp) cells apart) body
changes_either stamp s o (MapRemove id key) (CounterCreate id2 n) body apart h k = cells_sum _ n body
changes_either stamp s o (MapRemove id key) (CounterInc id2 n) body apart h k = cells_sum _ n body
changes_either stamp s o (CounterCreate id n) (MapCreate id2 es) body apart h k = sum_cells _ n body
changes_either stamp s o (CounterCreate id n) (MapSet id2 key value) body apart h k = sum_cells _ n body
changes_either stamp s o (CounterCreate id n) (MapRemove id2 key) body apart h k = sum_cells _ n body
changes_either stamp s o (CounterCreate id n) (CounterCreate id2 n2) body apart h k = on_sums n n2 body
changes_either stamp s o (CounterCreate id n) (CounterInc id2 n2) body apart h k = on_sums n n2 body
changes_either stamp s o (CounterInc id n) (MapCreate id2 es) body apart h k = sum_cells _ n body
changes_either stamp s o (CounterInc id n) (MapSet id2 key value) body apart h k = sum_cells _ n body
changes_either stamp s o (CounterInc id n) (MapRemove id2 key) body apart h k = sum_cells _ n body
changes_either stamp s o (CounterInc id n) (CounterCreate id2 n2) body apart h k = on_sums n n2 body
changes_either stamp s o (CounterInc id n) (CounterInc id2 n2) body apart h k = on_sums n n2 body
changes_either stamp s o (Delete id) op2 body apart h k = cc
changes_either stamp s o (MapCreate id es) (Delete id2) body apart h k = cc
changes_either stamp s o (MapSet id key value) (Delete id2) body apart h k = cc
changes_either stamp s o (MapRemove id key) (Delete id2) body apart h k = cc
changes_either stamp s o (CounterCreate id n) (Delete id2) body apart h k = cc
changes_either stamp s o (CounterInc id n) (Delete id2) body apart h k = cc

-- ONE OBJECT

abbrev object_with : ObjectId → List (List ℕ × OpSerial) → Option ℕ → Bool → HeldBody → Held
object_with id sites deleted created body = record { id = id; sites = sites; deleted = deleted; created = created; body = body }

emptied_on : (f : Cells → Cells) (body : HeldBody) → emptied (on_cells f body) ≡ emptied body
emptied_on f (Sum sum) = refl
emptied_on f (Keys cells) = refl

emptied_sum : (n : ℤ) (body : HeldBody) → emptied (on_sum (λ sum. sum +ℤ n) body) ≡ emptied body
emptied_sum n (Sum sum) = refl
emptied_sum n (Keys cells) = refl

emptied_twice : (body : HeldBody) → emptied (emptied body) ≡ emptied body
emptied_twice (Sum sum) = refl
emptied_twice (Keys cells) = refl

emptied_changed : (stamp : ℕ) (s : OpSerial) (op : Op) (body : HeldBody) → emptied (changed stamp s op body) ≡ emptied body
emptied_changed stamp s (MapCreate id es) body = emptied_on _ body
emptied_changed stamp s (MapSet id key value) body = emptied_on _ body
emptied_changed stamp s (MapRemove id key) body = emptied_on _ body
emptied_changed stamp s (CounterCreate id n) body = emptied_sum n body
emptied_changed stamp s (CounterInc id n) body = emptied_sum n body
emptied_changed stamp s (Delete id) body = emptied_twice body

emptied_if : (b : Bool) (body changed : HeldBody) → emptied changed ≡ emptied body → emptied (cond b body changed) ≡ emptied body
emptied_if true body changed h = refl
emptied_if false body changed h = h

bodies : (p q created : Bool) (f g : HeldBody → HeldBody) (body : HeldBody) → (p && q) ≡ false → CommuteAt f g body → cond (q && (p || created)) (cond (p && created) body (f body)) (g (cond (p && created) body (f body))) ≡ cond (p && (q || created)) (cond (q && created) body (g body)) (f (cond (q && created) body (g body)))
bodies true true created f g body once h = cc
bodies true false true f g body once h = refl
bodies true false false f g body once h = h
bodies false true true f g body once h = refl
bodies false true false f g body once h = h
bodies false false created f g body once h = h

or_swap : (a b c : Bool) → (a || (b || c)) ≡ (b || (a || c))
or_swap true true c = refl
or_swap true false c = refl
or_swap false true c = refl
or_swap false false c = refl

module _ (stamp : ℕ) where
  abbrev Sites : Type 0
  Sites = List (List ℕ × OpSerial)

  stays : (s : OpSerial) (op : Op) (id : ObjectId) (sites : Sites) (created : Bool) (body : HeldBody) → is_delete op ≡ false → held_with stamp s op (object_with id sites None created body) ≡ object_with id (with_site s sites) None (is_create op || created) (body_after stamp s op created body)
  stays s op id sites created body h = rw h refl

  goes : (s : OpSerial) (op : Op) (id : ObjectId) (sites : Sites) (created : Bool) (body : HeldBody) → is_delete op ≡ true → held_with stamp s op (object_with id sites None created body) ≡ object_with id (with_site s sites) (Some stamp) false (emptied body)
  goes s (Delete i) id sites created body h = refl
  goes s (MapCreate i es) id sites created body h = cc
  goes s (MapSet i key value) id sites created body h = cc
  goes s (MapRemove i key) id sites created body h = cc
  goes s (CounterCreate i n) id sites created body h = cc
  goes s (CounterInc i n) id sites created body h = cc

  sites_either : (s o : OpSerial) (sites : Sites) → bytes_eq s.site o.site ≡ false → with_site o (with_site s sites) ≡ with_site s (with_site o sites)
  sites_either s o sites apart = with_either s.site o.site s o sites apart

  -- one deletes, the other does not
  goes_stays : (s o : OpSerial) (op op2 : Op) (id : ObjectId) (sites : Sites) (created : Bool) (body : HeldBody) → bytes_eq s.site o.site ≡ false → is_delete op ≡ true → is_delete op2 ≡ false
      → held_with stamp o op2 (held_with stamp s op (object_with id sites None created body)) ≡ held_with stamp s op (held_with stamp o op2 (object_with id sites None created body))
  goes_stays s o op op2 id sites created body apart h k =
      ap (held_with stamp o op2) (goes s op id sites created body h)
      ∙ ap (λ (xs : Sites). object_with id xs (Some stamp) false (emptied body)) (sites_either s o sites apart)
      ∙ ap (object_with id (with_site s (with_site o sites)) (Some stamp) false) (sym (emptied_if (is_create op2 && created) body (changed stamp o op2 body) (emptied_changed stamp o op2 body)))
      ∙ sym (goes s op id (with_site o sites) (is_create op2 || created) (body_after stamp o op2 created body) h)
      ∙ sym (ap (held_with stamp s op) (stays o op2 id sites created body k))

  alive : (s o : OpSerial) (op op2 : Op) (id : ObjectId) (sites : Sites) (created : Bool) (body : HeldBody) (b b2 : Bool) → is_delete op ≡ b → is_delete op2 ≡ b2 → bytes_eq s.site o.site ≡ false → (is_create op && is_create op2) ≡ false
      → held_with stamp o op2 (held_with stamp s op (object_with id sites None created body)) ≡ held_with stamp s op (held_with stamp o op2 (object_with id sites None created body))
  alive s o op op2 id sites created body true true h k apart once =
      ap (held_with stamp o op2) (goes s op id sites created body h)
      ∙ ap (λ (xs : Sites). object_with id xs (Some stamp) false (emptied body)) (sites_either s o sites apart)
      ∙ sym (ap (held_with stamp s op) (goes o op2 id sites created body k))
  alive s o op op2 id sites created body true false h k apart once = goes_stays s o op op2 id sites created body apart h k
  alive s o op op2 id sites created body false true h k apart once = sym (goes_stays o s op2 op id sites created body (eq_back s.site o.site false apart) k h)
  alive s o op op2 id sites created body false false h k apart once =
      ap (held_with stamp o op2) (stays s op id sites created body h)
      ∙ stays o op2 id (with_site s sites) (is_create op || created) (body_after stamp s op created body) k
      ∙ ap (λ (xs : Sites). object_with id xs None (is_create op2 || (is_create op || created)) (body_after stamp o op2 (is_create op || created) (body_after stamp s op created body))) (sites_either s o sites apart)
      ∙ ap (λ (c : Bool). object_with id (with_site s (with_site o sites)) None c (body_after stamp o op2 (is_create op || created) (body_after stamp s op created body))) (or_swap (is_create op2) (is_create op) created)
      ∙ ap (object_with id (with_site s (with_site o sites)) None (is_create op || (is_create op2 || created))) (bodies (is_create op) (is_create op2) created (changed stamp s op) (changed stamp o op2) body once (changes_either stamp s o op op2 body apart h k))
      ∙ sym (stays s op id (with_site o sites) (is_create op2 || created) (body_after stamp o op2 created body) h)
      ∙ sym (ap (held_with stamp s op) (stays o op2 id sites created body k))

  pub parts : (s o : OpSerial) (op op2 : Op) (id : ObjectId) (sites : Sites) (deleted : Option ℕ) (created : Bool) (body : HeldBody) → bytes_eq s.site o.site ≡ false → (is_create op && is_create op2) ≡ false
      → held_with stamp o op2 (held_with stamp s op (object_with id sites deleted created body)) ≡ held_with stamp s op (held_with stamp o op2 (object_with id sites deleted created body))
  parts s o op op2 id sites (Some d) created body apart once = ap (λ (xs : Sites). object_with id xs (Some d) created body) (sites_either s o sites apart)
  parts s o op op2 id sites None created body apart once = alive s o op op2 id sites created body (is_delete op) (is_delete op2) refl refl apart once

  -- THE SITE TEST

  abbrev pub skips : OpSerial → Op → Held → Bool
  skips serial op held = is_misplaced op held || not (passes serial held.sites)

  abbrev pub taken : OpSerial → Op → Held → Held
  taken serial op held = cond (skips serial op held) held (held_with stamp serial op held)

  if_applied : (b r : Bool) (new old : Held) → is_range (cond b outcomes.Skipped (cond r outcomes.Range outcomes.Applied)) ≡ false → held_if (cond b outcomes.Skipped (cond r outcomes.Range outcomes.Applied)) new old ≡ cond b old new
  if_applied true r new old h = refl
  if_applied false true new old h = cc
  if_applied false false new old h = refl

  pub after_taken : (serial : OpSerial) (op : Op) (held : Held) → is_range (outcome serial op held) ≡ false → held_after stamp serial op held ≡ taken serial op held
  after_taken serial op held h = if_applied (skips serial op held) (is_none held.deleted && body_passes_range held.body (added op held.created)) (held_with stamp serial op held) held h

  test_by : (s o : OpSerial) (op op2 : Op) (held : Held) (deleted : Option ℕ) → bytes_eq s.site o.site ≡ false → skips o op2 (held_by deleted stamp s op held) ≡ skips o op2 held
  test_by s o op op2 held (Some d) apart = ap (λ (there : Option OpSerial). is_misplaced op2 held || not (is_above there o)) (there_other s.site o.site s held.sites (eq_back s.site o.site false apart))
  test_by s o op op2 held None apart = ap (λ (there : Option OpSerial). is_misplaced op2 held || not (is_above there o)) (there_other s.site o.site s held.sites (eq_back s.site o.site false apart))

  pub test_stays : (s o : OpSerial) (op op2 : Op) (held : Held) → bytes_eq s.site o.site ≡ false → skips o op2 (held_with stamp s op held) ≡ skips o op2 held
  test_stays s o op op2 held apart = test_by s o op op2 held held.deleted apart

  skipped : (s : OpSerial) (op : Op) (held : Held) → skips s op held ≡ true → taken s op held ≡ held
  skipped s op held h = ap (λ (b : Bool). cond b held (held_with stamp s op held)) h

  done : (s : OpSerial) (op : Op) (held : Held) → skips s op held ≡ false → taken s op held ≡ held_with stamp s op held
  done s op held h = ap (λ (b : Bool). cond b held (held_with stamp s op held)) h

  pub taken_either : (s o : OpSerial) (op op2 : Op) (held : Held) (b b2 : Bool) → skips s op held ≡ b → skips o op2 held ≡ b2 → bytes_eq s.site o.site ≡ false → (is_create op && is_create op2) ≡ false → taken o op2 (taken s op held) ≡ taken s op (taken o op2 held)
  taken_either s o op op2 held true true h k apart once =
      ap (taken o op2) (skipped s op held h) ∙ skipped o op2 held k ∙ sym (skipped s op held h) ∙ sym (ap (taken s op) (skipped o op2 held k))
  taken_either s o op op2 held true false h k apart once =
      ap (taken o op2) (skipped s op held h) ∙ done o op2 held k
      ∙ sym (skipped s op (held_with stamp o op2 held) (test_stays o s op2 op held (eq_back s.site o.site false apart) ∙ h))
      ∙ sym (ap (taken s op) (done o op2 held k))
  taken_either s o op op2 held false true h k apart once =
      ap (taken o op2) (done s op held h)
      ∙ skipped o op2 (held_with stamp s op held) (test_stays s o op op2 held apart ∙ k)
      ∙ sym (done s op held h) ∙ sym (ap (taken s op) (skipped o op2 held k))
  taken_either s o op op2 held false false h k apart once =
      ap (taken o op2) (done s op held h)
      ∙ done o op2 (held_with stamp s op held) (test_stays s o op op2 held apart ∙ k)
      ∙ parts s o op op2 held.id held.sites held.deleted held.created held.body apart once
      ∙ sym (done s op (held_with stamp o op2 held) (test_stays o s op2 op held (eq_back s.site o.site false apart) ∙ h))
      ∙ sym (ap (taken s op) (done o op2 held k))

pub either_order : EitherOrder
either_order stamp s o op op2 held apart once range =
    after_taken stamp o op2 (held_after stamp s op held) range.next
    ∙ ap (taken stamp o op2) (after_taken stamp s op held range.one)
    ∙ taken_either stamp s o op op2 held (skips stamp s op held) (skips stamp o op2 held) refl refl apart once
    ∙ ap (taken stamp s op) (sym (after_taken stamp o op2 held range.other_one))
    ∙ sym (after_taken stamp s op (held_after stamp o op2 held) range.other_next)
