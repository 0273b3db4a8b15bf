-- What holds of a value that was read: steps, shapes, fields.
use Rattle.std.proofs.Common.{◌≡◌, ◌≤◌, ℕ, ℤ, pos, negsuc, Bool, true, false, cond, List, length, Option, Some, None, Ok, Err, refl, ap, subst, leb, arith}
use Rattle.std.specs.Prelude.{int_le, ◌-◌, ◌^◌, IfSome, option_and_then, ◌&&◌}
use Rattle.std.proofs.lemmas.Bool.{leb-true, le-leb}
use Rattle.serde_json.specs.Data.{Data}
use Rattle.serde_json.specs.Find.{as_str, as_u64, as_number}
use Rattle.rl_types.specs.declared.frames.WireFault.{WireFault}
use Rattle.rl_jsonfields.specs.declared.names.Field.{Field}
use Rattle.rl_jsonfields.specs.Fields.{Reads, ◌>>=◌, IsSigned, min_signed, max_signed, between, whole, signed, in_range, sized, whole_in, text_in, field, shaped, required_from, optional_from, required, optional}

-- ---- steps

-- the value of a step that did not fail
pub bind_ok : {A B : Type 0} (r : Reads A) (f : A → Reads B) (y : B) → (r >>= f) ≡ Ok y → (x : A) × (r ≡ Ok x) × (f x ≡ Ok y)
bind_ok (Ok x) f y e = (x, refl, e)
bind_ok (Err d) f y e = absurd cc

abbrev pub done : {A : Type 0} → A → Reads A
done x = Ok x

pub ok_is : {A : Type 0} (x y : A) → done x ≡ done y → x ≡ y
ok_is x y e = cc

pub guard_ok : {A : Type 0} (b : Bool) (d : WireFault) (r : Reads A) (y : A) → cond b (Err d) r ≡ Ok y → (b ≡ false) × (r ≡ Ok y)
guard_ok true d r y e = absurd cc
guard_ok false d r y e = (refl, e)

pub some_is : {A : Type 0} (x y : A) → Some x ≡ Some y → x ≡ y
some_is x y e = cc

-- ---- ranges and lengths

both_true : (a b : Bool) → a ≡ true → b ≡ true → (a && b) ≡ true
both_true true true h k = refl
both_true true false h k = absurd cc
both_true false b h k = absurd cc

first_true : (a b : Bool) → (a && b) ≡ true → a ≡ true
first_true true b h = refl
first_true false b h = absurd cc

second_true : (a b : Bool) → (a && b) ≡ true → b ≡ true
second_true true b h = h
second_true false b h = absurd cc

-- a value that a test lets through
passed : {A : Type 0} (b : Bool) (x y : A) → cond b (Some x) None ≡ Some y → (b ≡ true) × (x ≡ y)
passed true x y e = (refl, some_is x y e)
passed false x y e = absurd cc

pub in_range_within : (low high n : ℕ) → low ≤ n → n ≤ high → in_range low high n ≡ Some n
in_range_within low high n h k = ap (λ b. cond b (Some n) None) (both_true (leb low n) (leb n high) (le-leb low n h) (le-leb n high k))

pub in_range_is : (low high n m : ℕ) → in_range low high n ≡ Some m → (n ≡ m) × (low ≤ m) × (m ≤ high)
in_range_is low high n m e =
    let p = passed (leb low n && leb n high) n m e in
    let low_ok : low ≤ n = leb-true low n (first_true (leb low n) (leb n high) p.0) in
    let high_ok : n ≤ high = leb-true n high (second_true (leb low n) (leb n high) p.0) in
    (p.1, subst (λ x. low ≤ x) p.1 low_ok, subst (λ x. x ≤ high) p.1 high_ok)

pub sized_within : (low high : ℕ) (s : List ℕ) → low ≤ length s → length s ≤ high → sized low high s ≡ Some s
sized_within low high s h k = ap (λ b. cond b (Some s) None) (both_true (leb low (length s)) (leb (length s) high) (le-leb low (length s) h) (le-leb (length s) high k))

pub sized_is : (low high : ℕ) (s t : List ℕ) → sized low high s ≡ Some t → (s ≡ t) × (low ≤ length t) × (length t ≤ high)
sized_is low high s t e =
    let p = passed (leb low (length s) && leb (length s) high) s t e in
    let low_ok : low ≤ length s = leb-true low (length s) (first_true (leb low (length s)) (leb (length s) high) p.0) in
    let high_ok : length s ≤ high = leb-true (length s) high (second_true (leb low (length s)) (leb (length s) high) p.0) in
    (p.1, subst (λ x. low ≤ length x) p.1 low_ok, subst (λ x. length x ≤ high) p.1 high_ok)

-- ---- shapes

pub whole_within : (low high : ℕ) (o : Option ℕ) (m : ℕ) → option_and_then (in_range low high) o ≡ Some m → (low ≤ m) × (m ≤ high)
whole_within low high None m e = absurd cc
whole_within low high (Some n) m e = let r = in_range_is low high n m e in (r.1, r.2)

pub text_within : (low high : ℕ) (o : Option (List ℕ)) (t : List ℕ) → option_and_then (sized low high) o ≡ Some t → (low ≤ length t) × (length t ≤ high)
text_within low high None t e = absurd cc
text_within low high (Some s) t e = let r = sized_is low high s t e in (r.1, r.2)

-- ---- fields

pub shaped_ok : {A : Type 0} (f : Field) (o : Option A) (x : A) → shaped f o ≡ Ok x → o ≡ Some x
shaped_ok f None x e = absurd cc
shaped_ok f (Some y) x e = ap Some (ok_is y x e)

pub required_from_ok : {A : Type 0} (shape : Data → Option A) (f : Field) (o : Option Data) (x : A) → required_from shape f o ≡ Ok x → (v : Data) × (shape v ≡ Some x)
required_from_ok shape f None x e = absurd cc
required_from_ok shape f (Some v) x e = (v, shaped_ok f (shape v) x e)

pub optional_from_ok : {A : Type 0} (shape : Data → Option A) (f : Field) (o : Option Data) (x : Option A) → optional_from shape f o ≡ Ok x → IfSome x (λ y. (v : Data) × (shape v ≡ Some y))
optional_from_ok shape f None None e = tt
optional_from_ok shape f None (Some y) e = absurd cc
optional_from_ok shape f (Some v) x e =
    let a = bind_ok (shaped f (shape v)) (λ y. Ok (Some y)) x e in
    let k : Some a.0 ≡ x = ok_is (Some a.0) x a.2 in
    subst (λ z. IfSome z (λ y. (v : Data) × (shape v ≡ Some y))) k (v, shaped_ok f (shape v) a.0 a.1)

-- what was read at a field has its shape
pub required_ok : {A : Type 0} (shape : Data → Option A) (f : Field) (d : Data) (x : A) → required shape f d ≡ Ok x → (v : Data) × (shape v ≡ Some x)
unfolding required
required_ok shape f d x e = required_from_ok shape f (field f d) x e

pub optional_ok : {A : Type 0} (shape : Data → Option A) (f : Field) (d : Data) (x : Option A) → optional shape f d ≡ Ok x → IfSome x (λ y. (v : Data) × (shape v ≡ Some y))
unfolding optional
optional_ok shape f d x e = optional_from_ok shape f (field f d) x e

-- what was read at a field, and where
required_where_from : {A : Type 0} (shape : Data → Option A) (f : Field) (o : Option Data) (x : A) → required_from shape f o ≡ Ok x → (v : Data) × (o ≡ Some v) × (shape v ≡ Some x)
required_where_from shape f None x e = absurd cc
required_where_from shape f (Some v) x e = (v, refl, shaped_ok f (shape v) x e)

optional_where_from : {A : Type 0} (shape : Data → Option A) (f : Field) (o : Option Data) (x : Option A) → optional_from shape f o ≡ Ok x → IfSome x (λ y. (v : Data) × (o ≡ Some v) × (shape v ≡ Some y))
optional_where_from shape f None None e = tt
optional_where_from shape f None (Some y) e = absurd cc
optional_where_from shape f (Some v) x e =
    let a = bind_ok (shaped f (shape v)) (λ y. Ok (Some y)) x e in
    subst (λ z. IfSome z (λ y. (w : Data) × (Some v ≡ Some w) × (shape w ≡ Some y))) (ok_is (Some a.0) x a.2) (v, refl, shaped_ok f (shape v) a.0 a.1)

pub required_where : {A : Type 0} (shape : Data → Option A) (f : Field) (d : Data) (x : A) → required shape f d ≡ Ok x → (v : Data) × (field f d ≡ Some v) × (shape v ≡ Some x)
unfolding required
required_where shape f d x e = required_where_from shape f (field f d) x e

pub optional_where : {A : Type 0} (shape : Data → Option A) (f : Field) (d : Data) (x : Option A) → optional shape f d ≡ Ok x → IfSome x (λ y. (v : Data) × (field f d ≡ Some v) × (shape v ≡ Some y))
unfolding optional
optional_where shape f d x e = optional_where_from shape f (field f d) x e

-- a number that was read is in its range, and a text has a length in its range
pub required_number : (low high : ℕ) (f : Field) (d : Data) (n : ℕ) → required (whole_in low high) f d ≡ Ok n → (low ≤ n) × (n ≤ high)
required_number low high f d n e =
    let a = required_ok (whole_in low high) f d n e in
    whole_within low high (option_and_then as_u64 (as_number a.0)) n a.1

optional_number_at : (low high : ℕ) (o : Option ℕ) → IfSome o (λ n. (v : Data) × (whole_in low high v ≡ Some n)) → IfSome o (λ n. (low ≤ n) × (n ≤ high))
optional_number_at low high None h = tt
optional_number_at low high (Some n) h = whole_within low high (option_and_then as_u64 (as_number h.0)) n h.1

pub optional_number : (low high : ℕ) (f : Field) (d : Data) (o : Option ℕ) → optional (whole_in low high) f d ≡ Ok o → IfSome o (λ n. (low ≤ n) × (n ≤ high))
optional_number low high f d o e = optional_number_at low high o (optional_ok (whole_in low high) f d o e)

pub required_text : (low high : ℕ) (f : Field) (d : Data) (s : List ℕ) → required (text_in low high) f d ≡ Ok s → (low ≤ length s) × (length s ≤ high)
required_text low high f d s e =
    let a = required_ok (text_in low high) f d s e in
    text_within low high (as_str a.0) s a.1

optional_text_at : (low high : ℕ) (o : Option (List ℕ)) → IfSome o (λ s. (v : Data) × (text_in low high v ≡ Some s)) → IfSome o (λ s. (low ≤ length s) × (length s ≤ high))
optional_text_at low high None h = tt
optional_text_at low high (Some s) h = text_within low high (as_str h.0) s h.1

pub optional_text : (low high : ℕ) (f : Field) (d : Data) (o : Option (List ℕ)) → optional (text_in low high) f d ≡ Ok o → IfSome o (λ s. (low ≤ length s) × (length s ≤ high))
optional_text low high f d o e = optional_text_at low high o (optional_ok (text_in low high) f d o e)

-- ---- whole numbers with a sign

-- what the tests say of a number
tested : (z : ℤ) → (int_le min_signed z && int_le z max_signed) ≡ true → IsSigned z
tested (pos n) e = omega (arith, leb-true n (2 ^ 63 - 1) e)
tested (negsuc n) e = omega (arith, leb-true n (2 ^ 63 - 1) (first_true (leb n (2 ^ 63 - 1)) true e))

fits_tests : (z : ℤ) → IsSigned z → (int_le min_signed z && int_le z max_signed) ≡ true
fits_tests (pos n) h = le-leb n (2 ^ 63 - 1) (omega (arith, h))
fits_tests (negsuc n) h = both_true (leb n (2 ^ 63 - 1)) true (le-leb n (2 ^ 63 - 1) (omega (arith, h))) refl

pub between_is : (z w : ℤ) → between min_signed max_signed z ≡ Some w → IsSigned w
between_is z w e =
    let p = passed (int_le min_signed z && int_le z max_signed) z w e in
    subst IsSigned p.1 (tested z p.0)

pub between_within : (z : ℤ) → IsSigned z → between min_signed max_signed z ≡ Some z
between_within z h = ap (λ b. cond b (Some z) None) (fits_tests z h)

signed_within : (o : Option ℤ) (w : ℤ) → option_and_then (between min_signed max_signed) o ≡ Some w → IsSigned w
signed_within None w e = absurd cc
signed_within (Some z) w e = between_is z w e

pub signed_is : (d : Data) (w : ℤ) → signed d ≡ Some w → IsSigned w
signed_is d w e = signed_within (whole d) w e

pub required_signed : (f : Field) (d : Data) (z : ℤ) → required signed f d ≡ Ok z → IsSigned z
required_signed f d z e = let a = required_ok signed f d z e in signed_is a.0 z a.1

optional_signed_at : (o : Option ℤ) → IfSome o (λ z. (v : Data) × (signed v ≡ Some z)) → IfSome o IsSigned
optional_signed_at None h = tt
optional_signed_at (Some z) h = signed_is h.0 z h.1

pub optional_signed : (f : Field) (d : Data) (o : Option ℤ) → optional signed f d ≡ Ok o → IfSome o IsSigned
optional_signed f d o e = optional_signed_at o (optional_ok signed f d o e)
