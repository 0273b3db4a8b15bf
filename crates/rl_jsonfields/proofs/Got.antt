-- What a reader finds in an object that was written.
use Rattle.std.proofs.Common.{◌≡◌, ◌≤◌, ℕ, ℤ, pos, negsuc, ◌==◌, Bool, true, false, cond, bytes_eq, List, length, Option, Some, None, option_map, Ok, refl, sym, ap, ◌∙◌}
use Rattle.std.specs.Prelude.{IfSome, unwrap_or}
use Rattle.std.proofs.lemmas.Bool.{eqb-true}
use Rattle.std.proofs.lemmas.Slice.Eq.{bytes_eq-Decides}
use Rattle.serde_json.specs.Data.{Data, boolean, string, object, Members, put}
use Rattle.serde_json.specs.Find.{get_member}
use Rattle.serde_json.proofs.Views.{get_member-put, get_member-put_other}
use Rattle.rl_jsonfields.specs.declared.names.Field.{Field}
use Rattle.rl_jsonfields.specs.Names.{spelled}
use Rattle.rl_jsonfields.specs.Fields.{IsSigned, whole, signed, truth, some_members, text, text_in, whole_in, present, required, optional, flag}
use Rattle.rl_jsonfields.specs.Texts.{num, integer, with_some, text_unless, number_unless}
use Rattle.rl_jsonfields.proofs.Apart.{index, same_name, other_name}
use Rattle.rl_jsonfields.proofs.Shapes.{in_range_within, sized_within, between_within}

abbrev pub found : Field → Members → Option Data
found f ms = get_member (spelled f) ms

abbrev pub or_else : Option Data → Option Data → Option Data
or_else None q = q
or_else (Some d) q = Some d

at : (f g : Field) (d : Data) (ms : Members) (b : Bool) → (index f == index g) ≡ b → found f (put (spelled g) d ms) ≡ cond b (Some d) (found f ms)
at f g d ms true e = ap (λ k. get_member k (put (spelled g) d ms)) (same_name f g e) ∙ get_member-put (spelled g) d ms
at f g d ms false e = get_member-put_other (spelled f) (spelled g) d ms (other_name f g e)

pub found-put : (f g : Field) (d : Data) (ms : Members) → found f (put (spelled g) d ms) ≡ cond (index f == index g) (Some d) (found f ms)
found-put f g d ms = at f g d ms (index f == index g) refl

same : (b : Bool) (q : Option Data) → q ≡ cond b q q
same true q = refl
same false q = refl

pub found-with_some : (f g : Field) (o : Option Data) (ms : Members) → found f (with_some g o ms) ≡ cond (index f == index g) (or_else o (found f ms)) (found f ms)
found-with_some f g None ms = same (index f == index g) (found f ms)
found-with_some f g (Some d) ms = found-put f g d ms

pub or_else_none : (o : Option Data) → or_else o None ≡ o
or_else_none None = refl
or_else_none (Some d) = refl

-- what is written at one field, and what of the others
pub ruleset found_rules = (found-put, found-with_some, or_else_none)

-- ---- what a reader gives of what is found

pub required_found : {A : Type 0} (shape : Data → Option A) (f : Field) (ms : Members) (v : Data) (x : A) → found f ms ≡ Some v → present v ≡ Some v → shape v ≡ Some x → required shape f (object ms) ≡ Ok x
unfolding required
required_found shape f ms v x e p s = rw (e, p, s) refl

pub optional_found : {A : Type 0} (shape : Data → Option A) (back : A → Data) (f : Field) (ms : Members) (o : Option A) → found f ms ≡ option_map back o → ((x : A) → present (back x) ≡ Some (back x)) → IfSome o (λ x. shape (back x) ≡ Some x)
    → optional shape f (object ms) ≡ Ok o
unfolding optional
optional_found shape back f ms None e p s = rw e refl
optional_found shape back f ms (Some x) e p s = rw (e, p x, s) refl

pub optional_found_one : {A : Type 0} (shape : Data → Option A) (f : Field) (ms : Members) (v : Data) (x : A) → found f ms ≡ Some v → present v ≡ Some v → shape v ≡ Some x → optional shape f (object ms) ≡ Ok (Some x)
unfolding optional
optional_found_one shape f ms v x e p s = rw (e, p, s) refl

pub optional_found_none : {A : Type 0} (shape : Data → Option A) (f : Field) (ms : Members) → found f ms ≡ None → optional shape f (object ms) ≡ Ok None
unfolding optional
optional_found_none shape f ms e = rw e refl

each_text : (o : Option (List ℕ)) → IfSome o (λ x. text (string x) ≡ Some x)
each_text None = tt
each_text (Some s) = refl

-- a text of any length
pub text_found : (f : Field) (ms : Members) (o : Option (List ℕ)) → found f ms ≡ option_map string o → optional text f (object ms) ≡ Ok o
text_found f ms o e = optional_found text string f ms o e (λ x. refl) (each_text o)

pub required_text_found : (f : Field) (ms : Members) (s : List ℕ) → found f ms ≡ Some (string s) → required text f (object ms) ≡ Ok s
required_text_found f ms s e = required_found text f ms (string s) s e refl refl

-- a text of low to high bytes
pub required_sized_found : (low high : ℕ) (f : Field) (ms : Members) (s : List ℕ) → found f ms ≡ Some (string s) → low ≤ length s → length s ≤ high → required (text_in low high) f (object ms) ≡ Ok s
required_sized_found low high f ms s e h k = required_found (text_in low high) f ms (string s) s e refl (sized_within low high s h k)

each_sized : (low high : ℕ) (o : Option (List ℕ)) → IfSome o (λ s. (low ≤ length s) × (length s ≤ high)) → IfSome o (λ s. text_in low high (string s) ≡ Some s)
each_sized low high None h = tt
each_sized low high (Some s) h = sized_within low high s h.0 h.1

pub sized_found : (low high : ℕ) (f : Field) (ms : Members) (o : Option (List ℕ)) → found f ms ≡ option_map string o → IfSome o (λ s. (low ≤ length s) × (length s ≤ high)) → optional (text_in low high) f (object ms) ≡ Ok o
sized_found low high f ms o e h = optional_found (text_in low high) string f ms o e (λ x. refl) (each_sized low high o h)

-- a number from low to high
pub required_number_found : (low high : ℕ) (f : Field) (ms : Members) (n : ℕ) → found f ms ≡ Some (num n) → low ≤ n → n ≤ high → required (whole_in low high) f (object ms) ≡ Ok n
required_number_found low high f ms n e h k = required_found (whole_in low high) f ms (num n) n e refl (in_range_within low high n h k)

each_number : (low high : ℕ) (o : Option ℕ) → IfSome o (λ n. (low ≤ n) × (n ≤ high)) → IfSome o (λ n. whole_in low high (num n) ≡ Some n)
each_number low high None h = tt
each_number low high (Some n) h = in_range_within low high n h.0 h.1

pub number_found : (low high : ℕ) (f : Field) (ms : Members) (o : Option ℕ) → found f ms ≡ option_map num o → IfSome o (λ n. (low ≤ n) × (n ≤ high)) → optional (whole_in low high) f (object ms) ≡ Ok o
number_found low high f ms o e h = optional_found (whole_in low high) num f ms o e (λ x. refl) (each_number low high o h)

-- a whole number with a sign
whole_again : (z : ℤ) → whole (integer z) ≡ Some z
whole_again (pos n) = refl
whole_again (negsuc n) = refl

pub signed_again : (z : ℤ) → IsSigned z → signed (integer z) ≡ Some z
signed_again z h = rw (whole_again z) (between_within z h)

pub required_signed_found : (f : Field) (ms : Members) (z : ℤ) → found f ms ≡ Some (integer z) → IsSigned z → required signed f (object ms) ≡ Ok z
required_signed_found f ms z e h = required_found signed f ms (integer z) z e refl (signed_again z h)

pub optional_signed_found : (f : Field) (ms : Members) (z : ℤ) → found f ms ≡ Some (integer z) → IsSigned z → optional signed f (object ms) ≡ Ok (Some z)
optional_signed_found f ms z e h = optional_found_one signed f ms (integer z) z e refl (signed_again z h)

-- a truth value
pub flag_found : (f : Field) (ms : Members) (b : Bool) → found f ms ≡ Some (boolean b) → flag f (object ms) ≡ Ok b
unfolding flag
flag_found f ms b e = rw (optional_found_one truth f ms (boolean b) b e refl refl) refl

pub flag_absent : (f : Field) (ms : Members) → found f ms ≡ None → flag f (object ms) ≡ Ok false
unfolding flag
flag_absent f ms e = rw (optional_found_none truth f ms e) refl

-- an object with free keys
pub required_members_found : (f : Field) (ms inside : Members) → found f ms ≡ Some (object inside) → required some_members f (object ms) ≡ Ok inside
required_members_found f ms inside e = required_found some_members f ms (object inside) inside e refl refl

pub optional_members_found : (f : Field) (ms inside : Members) → found f ms ≡ Some (object inside) → optional some_members f (object ms) ≡ Ok (Some inside)
optional_members_found f ms inside e = optional_found_one some_members f ms (object inside) inside e refl refl

-- ---- what is left out where it is the default

text_same_at : (b : Bool) (t s : List ℕ) → bytes_eq s t ≡ b → unwrap_or (cond b None (Some s)) t ≡ s
text_same_at true t s e = sym ((bytes_eq-Decides s t).0 e)
text_same_at false t s e = refl

pub text_unless_same : (t s : List ℕ) → unwrap_or (text_unless t s) t ≡ s
text_unless_same t s = text_same_at (bytes_eq s t) t s refl

number_same_at : (b : Bool) (t n : ℕ) → (n == t) ≡ b → unwrap_or (cond b None (Some n)) t ≡ n
number_same_at true t n e = sym (eqb-true n t e)
number_same_at false t n e = refl

pub number_unless_same : (t n : ℕ) → unwrap_or (number_unless t n) t ≡ n
number_unless_same t n = number_same_at (n == t) t n refl

unless_at : {A : Type 0} (b : Bool) (x : A) (P : A → Type 0) → P x → IfSome (cond b None (Some x)) P
unless_at true x P h = tt
unless_at false x P h = h

pub text_unless_has : (t s : List ℕ) (P : List ℕ → Type 0) → P s → IfSome (text_unless t s) P
text_unless_has t s P h = unless_at (bytes_eq s t) s P h

pub number_unless_has : (t n : ℕ) (P : ℕ → Type 0) → P n → IfSome (number_unless t n) P
number_unless_has t n P h = unless_at (n == t) n P h
