-- How the fields of an object are written. The members stand in the order of their names, by `put`.
use Rattle.std.specs.Prelude.{ℕ, ◌==◌, ℤ, List, [], ◌∷◌, bytes_eq, Option, Some, None, option_map, if◌then◌else◌}
use Rattle.serde_json.specs.Data.{Data, number, unsigned, string, Members, no_members, put}
use Rattle.serde_json.specs.Find.{of_integer}
use Rattle.rl_jsonfields.specs.declared.names.Field.{Field}
use Rattle.rl_jsonfields.specs.Names.{spelled}

abbrev pub num : ℕ → Data
num n = number (unsigned n)

abbrev pub integer : ℤ → Data
integer z = number (of_integer z)

-- a field, and a field that may be left out
abbrev pub with : Field → Data → Members → Members
with f d ms = put (spelled f) d ms

abbrev pub with_some : Field → Option Data → Members → Members
with_some f None ms = ms
with_some f (Some d) ms = put (spelled f) d ms

abbrev pub with_text : Field → Option (List ℕ) → Members → Members
with_text f s ms = with_some f (option_map string s) ms

abbrev pub with_number : Field → Option ℕ → Members → Members
with_number f n ms = with_some f (option_map num n) ms

-- what is written of a text or a number that is left out where it is the default
abbrev pub text_unless : List ℕ → List ℕ → Option (List ℕ)
text_unless default s = if bytes_eq s default then None else Some s

abbrev pub number_unless : ℕ → ℕ → Option ℕ
number_unless default n = if n == default then None else Some n

-- the members that are written of a list, whichever order they come in
unfoldable pub member_of_each : {A : Type 0} → (A → List ℕ) → (A → Data) → List A → Members
member_of_each key value [] = no_members
member_of_each key value (x ∷ xs) = put (key x) (value x) (member_of_each key value xs)
