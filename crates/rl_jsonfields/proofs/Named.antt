-- No reader of fields answers want of memory, or that the bytes are no object.
use Rattle.std.proofs.Common.{◌≡◌, ℕ, List, ◌+◌, Bool, true, false, cond, Option, Some, None, Ok, Err, subst}
use Rattle.std.specs.Prelude.{⊤}
use Rattle.serde_json.specs.Data.{Data, Items, no_items, item, Members, no_members, member}
use Rattle.rl_types.specs.declared.frames.WireFault.{WireFault}
use Rattle.rl_types.specs.declared.frames.WireFault.TheVariants.{TooLong, NotText, NotJson, NotObject, Missing, BadField, NoMemory}
use Rattle.rl_jsonfields.specs.declared.names.Field.{Field}
use Rattle.rl_jsonfields.specs.Fields.{Reads, ◌>>=◌, field, shaped, required_from, optional_from, truth, required, optional, flag, each, each_at, each_member}

abbrev pub IsNamed : WireFault → Type 0
IsNamed NoMemory = ⊥
IsNamed TooLong = ⊤
IsNamed NotText = ⊤
IsNamed NotJson = ⊤
IsNamed NotObject = ⊤
IsNamed (Missing n) = ⊤
IsNamed (BadField n) = ⊤

abbrev pub Named : {A : Type 0} → Reads A → Type 0
Named (Ok x) = ⊤
Named (Err e) = IsNamed e

pub then_named : {A B : Type 0} (r : Reads A) (f : A → Reads B) → Named r → ((x : A) → Named (f x)) → Named (r >>= f)
then_named (Ok x) f h k = k x
then_named (Err e) f h k = h

pub shaped_named : {A : Type 0} (f : Field) (o : Option A) → Named (shaped f o)
shaped_named f None = tt
shaped_named f (Some x) = tt

required_from_named : {A : Type 0} (shape : Data → Option A) (f : Field) (o : Option Data) → Named (required_from shape f o)
required_from_named shape f None = tt
required_from_named shape f (Some v) = shaped_named f (shape v)

optional_from_named : {A : Type 0} (shape : Data → Option A) (f : Field) (o : Option Data) → Named (optional_from shape f o)
optional_from_named shape f None = tt
optional_from_named shape f (Some v) = then_named (shaped f (shape v)) _ (shaped_named f (shape v)) (λ x. tt)

pub required_named : {A : Type 0} (shape : Data → Option A) (f : Field) (d : Data) → Named (required shape f d)
unfolding required
required_named shape f d = required_from_named shape f (field f d)

pub optional_named : {A : Type 0} (shape : Data → Option A) (f : Field) (d : Data) → Named (optional shape f d)
unfolding optional
optional_named shape f d = optional_from_named shape f (field f d)

pub flag_named : (f : Field) (d : Data) → Named (flag f d)
unfolding flag
flag_named f d = then_named _ _ (optional_named truth f d) (λ b. tt)

pub each_member_named : {A : Type 0} (one : List ℕ → Data → Reads A) (ms : Members) → ((k : List ℕ) (d : Data) → Named (one k d)) → Named (each_member one ms)
unfolding each_member
each_member_named one no_members h = tt
each_member_named one (member k d ms) h = then_named _ _ (h k d) (λ x. then_named _ _ (each_member_named one ms h) (λ xs. tt))

pub each_named : {A : Type 0} (one : Data → Reads A) (ds : Items) → ((d : Data) → Named (one d)) → Named (each one ds)
unfolding each
each_named one no_items h = tt
each_named one (item d ds) h = then_named _ _ (h d) (λ x. then_named _ _ (each_named one ds h) (λ xs. tt))

pub each_at_named : {A : Type 0} (one : ℕ → Data → Reads A) (i : ℕ) (ds : Items) → ((i : ℕ) (d : Data) → Named (one i d)) → Named (each_at one i ds)
unfolding each_at
each_at_named one i no_items h = tt
each_at_named one i (item d ds) h = then_named _ _ (h i d) (λ x. then_named _ _ (each_at_named one (i + 1) ds h) (λ xs. tt))

pub choice_named : {A : Type 0} (b : Bool) (x y : Reads A) → Named x → Named y → Named (cond b x y)
choice_named true x y h k = h
choice_named false x y h k = k

pub not_memory : {A : Type 0} (r : Reads A) → Named r → r ≡ Err NoMemory → ⊥
not_memory {A} r h e = subst (Named {A = A}) e h
