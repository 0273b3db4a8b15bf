-- How a field of a JSON object is read. The first fault wins.
use Rattle.std.specs.Prelude.{◌≡◌, ℕ, ◌+◌, ◌-◌, ◌^◌, ◌<◌, Bool, false, ◌&&◌, ℤ, pos, negsuc, int_le, List, [], ◌∷◌, length, Option, Some, None, option_and_then, unwrap_or, Result, Ok, Err, nat_le, if◌then◌else◌}
use Rattle.serde_json.specs.Data.{Data, null, boolean, number, string, array, object, Items, no_items, item, Members, no_members, member}
use Rattle.serde_json.specs.Find.{get, get_member, as_bool, as_number, as_str, as_array, as_object, as_u64, as_integer}
use Rattle.rl_jsonfields.specs.declared.names.Field.{Field}
use Rattle.rl_jsonfields.specs.Names.{spelled}
use Rattle.rl_types.specs.declared.frames.WireFault.{WireFault}
use Rattle.rl_types.specs.declared.frames.WireFault.TheVariants.{TooLong, NotText, NotJson, NotObject, Missing, BadField, NoMemory}

-- A value, or the first fault.
abbrev pub Reads : Type 0 → Type 0
Reads A = Result A WireFault

infixl 10 ◌>>=◌
abbrev pub ◌>>=◌ : {A B : Type 0} → Result A WireFault → (A → Result B WireFault) → Result B WireFault
(Ok x) >>= f = f x
(Err e) >>= f = Err e

-- What a call answered is what reading gives, unless memory ran out.
abbrev pub Fails : {A : Type 0} → WireFault → Reads A → Type 0
Fails NoMemory read = Unit {0}
Fails TooLong read = read ≡ Err TooLong
Fails NotText read = read ≡ Err NotText
Fails NotJson read = read ≡ Err NotJson
Fails NotObject read = read ≡ Err NotObject
Fails (Missing name) read = read ≡ Err (Missing name)
Fails (BadField name) read = read ≡ Err (BadField name)

abbrev pub Gives : {A : Type 0} → Result A WireFault → Reads A → Type 0
Gives (Ok x) read = read ≡ Ok x
Gives (Err e) read = Fails e read

-- The same of a call whose answer stands for what reading gives.
abbrev pub GivesBy : {X A : Type 0} → (X → A) → Result X WireFault → Reads A → Type 0
GivesBy see (Ok x) read = read ≡ Ok (see x)
GivesBy see (Err e) read = Fails e read

-- A field whose value is null counts as absent.
abbrev pub present : Data → Option Data
present null = None
present (boolean b) = Some (boolean b)
present (number n) = Some (number n)
present (string s) = Some (string s)
present (array ds) = Some (array ds)
present (object ms) = Some (object ms)

abbrev pub field : Field → Data → Option Data
field f d = option_and_then present (get (spelled f) d)

-- ---- shapes

abbrev pub in_range : ℕ → ℕ → ℕ → Option ℕ
in_range low high n = if nat_le low n && nat_le n high then Some n else None

-- a number written without fraction and exponent, and not -0
abbrev pub whole : Data → Option ℤ
whole d = option_and_then as_integer (as_number d)

-- a whole number from low to high
abbrev pub whole_in : ℕ → ℕ → Data → Option ℕ
whole_in low high d = option_and_then (in_range low high) (option_and_then as_u64 (as_number d))

-- the least and the greatest whole number of 64 bits with a sign
abbrev pub min_signed : ℤ
min_signed = negsuc (2 ^ 63 - 1)

abbrev pub max_signed : ℤ
max_signed = pos (2 ^ 63 - 1)

-- it is from the least to the greatest
abbrev pub IsSigned : ℤ → Type 0
IsSigned (pos n) = n < 2 ^ 63
IsSigned (negsuc n) = n < 2 ^ 63

abbrev pub between : ℤ → ℤ → ℤ → Option ℤ
between low high z = if int_le low z && int_le z high then Some z else None

-- a whole number of 64 bits with a sign
abbrev pub signed : Data → Option ℤ
signed d = option_and_then (between min_signed max_signed) (whole d)

-- a truth value
abbrev pub truth : Data → Option Bool
truth d = as_bool d

abbrev pub text : Data → Option (List ℕ)
text d = as_str d

abbrev pub sized : ℕ → ℕ → List ℕ → Option (List ℕ)
sized low high s = if nat_le low (length s) && nat_le (length s) high then Some s else None

-- a text of low to high bytes
abbrev pub text_in : ℕ → ℕ → Data → Option (List ℕ)
text_in low high d = option_and_then (sized low high) (as_str d)

abbrev pub an_object : Data → Option Data
an_object null = None
an_object (boolean b) = None
an_object (number n) = None
an_object (string s) = None
an_object (array ds) = None
an_object (object ms) = Some (object ms)

-- an object, as its members
abbrev pub some_members : Data → Option Members
some_members d = as_object d

-- a list
abbrev pub any_items : Data → Option Items
any_items d = as_array d

abbrev pub not_empty : Items → Option Items
not_empty no_items = None
not_empty (item d ds) = Some (item d ds)

-- a list with at least one item
abbrev pub some_items : Data → Option Items
some_items d = option_and_then not_empty (as_array d)

-- ---- fields

abbrev pub shaped : {A : Type 0} → Field → Option A → Reads A
shaped f None = Err (BadField (spelled f))
shaped f (Some x) = Ok x

abbrev pub required_from : {A : Type 0} → (Data → Option A) → Field → Option Data → Reads A
required_from shape f None = Err (Missing (spelled f))
required_from shape f (Some v) = shaped f (shape v)

abbrev pub optional_from : {A : Type 0} → (Data → Option A) → Field → Option Data → Reads (Option A)
optional_from shape f None = Ok None
optional_from shape f (Some v) = shaped f (shape v) >>= λ x. Ok (Some x)

-- A field that has to be there.
unfoldable pub required : {A : Type 0} → (Data → Option A) → Field → Data → Reads A
required shape f d = required_from shape f (field f d)

-- A field that may be absent.
unfoldable pub optional : {A : Type 0} → (Data → Option A) → Field → Data → Reads (Option A)
optional shape f d = optional_from shape f (field f d)

-- A truth value; absent it is false.
unfoldable pub flag : Field → Data → Reads Bool
flag f d = do
  b ← optional truth f d
  Ok (unwrap_or b false)

-- the text at a field, where there is one
abbrev pub text_at : Field → Data → Option (List ℕ)
text_at f d = option_and_then text (field f d)

-- Each item in order.
unfoldable pub each : {A : Type 0} → (Data → Reads A) → Items → Reads (List A)
each one no_items = Ok []
each one (item d ds) = do
  first ← one d
  others ← each one ds
  Ok (first ∷ others)

-- Each item in order, with its index, counted from i.
unfoldable pub each_at : {A : Type 0} → (ℕ → Data → Reads A) → ℕ → Items → Reads (List A)
each_at one i no_items = Ok []
each_at one i (item d ds) = do
  first ← one i d
  others ← each_at one (i + 1) ds
  Ok (first ∷ others)

-- Each member of an object with its key, in the order of the keys.
unfoldable pub each_member : {A : Type 0} → (List ℕ → Data → Reads A) → Members → Reads (List A)
each_member one no_members = Ok []
each_member one (member k d ms) = do
  first ← one k d
  others ← each_member one ms
  Ok (first ∷ others)

-- ---- what is taken out

-- members with other names than this one are as before
abbrev pub LeavesOthers : List ℕ → Members → Members → Type 0
LeavesOthers name old new = (k : List ℕ) → (k ≡ name → ⊥) → get_member k new ≡ get_member k old

-- fields with other names than this one are as before
abbrev pub LeavesFields : Field → Data → Data → Type 0
LeavesFields name old new = (other : Field) → (spelled other ≡ spelled name → ⊥) → field other new ≡ field other old
