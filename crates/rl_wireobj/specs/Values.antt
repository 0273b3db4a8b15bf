-- What a key of a map holds, and ids and serials: how they are read, and how they are written.
use Rattle.std.specs.Prelude.{ℕ, nat_lt, Bool, List, Option, Some, None, option_map, option_and_then, if◌then◌else◌}
use Rattle.std.specs.List.{list_all}
use Rattle.base64.specs.Engines.{standard}
use Rattle.base64.specs.GeneralPurpose.{decoded_of, encode_of}
use Rattle.serde_json.specs.Data.{Data, boolean, string, object, Members, no_members}
use Rattle.serde_json.specs.Find.{as_str}
use Rattle.rl_ids.specs.Objects.{object_id_of, object_id_text, op_serial_of}
use Rattle.rl_ids.specs.declared.objects.ObjectId.{ObjectId}
use Rattle.rl_ids.specs.declared.objects.MapValue.{MapValue}
use Rattle.rl_ids.specs.declared.objects.MapValue.TheVariants as values
use Rattle.rl_ids.specs.declared.serials.OpSerial.{OpSerial}
use Rattle.rl_jsonfields.specs.declared.names.Field.TheVariants as fields
use Rattle.rl_jsonfields.specs.Fields.{signed, truth, an_object, field}
use Rattle.rl_jsonfields.specs.Texts.{integer, with}

-- an object's id, and an operation's serial
abbrev pub an_id : Data → Option ObjectId
an_id d = option_and_then object_id_of (as_str d)

abbrev pub a_serial : Data → Option OpSerial
a_serial d = option_and_then op_serial_of (as_str d)

-- ---- reading a value

-- a reference, a text, a whole number, a truth value, and bytes as padded base64
abbrev pub a_reference : Data → Option MapValue
a_reference d = option_map values.Ref (an_id d)

abbrev pub a_text : Data → Option MapValue
a_text d = option_map values.Text (as_str d)

abbrev pub a_number : Data → Option MapValue
a_number d = option_map values.Whole (signed d)

abbrev pub a_truth : Data → Option MapValue
a_truth d = option_map values.Bool (truth d)

-- each number of a decoded text is a byte, which no decoded text fails
abbrev pub are_bytes : List ℕ → Bool
are_bytes bytes = list_all (λ b. nat_lt b 256) bytes

abbrev pub if_bytes : List ℕ → Option (List ℕ)
if_bytes bytes = if are_bytes bytes then Some bytes else None

abbrev pub bytes_of : List ℕ → Option (List ℕ)
bytes_of t = option_and_then if_bytes (decoded_of standard t)

abbrev pub some_bytes : Data → Option MapValue
some_bytes d = option_map values.Bytes (option_and_then bytes_of (as_str d))

-- exactly one of five fields
abbrev pub only_one : (id text number truth bytes : Option Data) → Option MapValue
only_one (Some d) None None None None = a_reference d
only_one None (Some d) None None None = a_text d
only_one None None (Some d) None None = a_number d
only_one None None None (Some d) None = a_truth d
only_one None None None None (Some d) = some_bytes d
only_one _ _ _ _ _ = None

unfoldable pub value_in : Data → Option MapValue
value_in o = only_one (field fields.ObjectId o) (field fields.String o) (field fields.Number o) (field fields.Boolean o) (field fields.Bytes o)

-- DATA: an object with exactly one of them
abbrev pub a_value : Data → Option MapValue
a_value d = option_and_then value_in (an_object d)

-- ---- writing a value

abbrev pub with_value : MapValue → Members → Members
with_value (values.Text t) ms = with fields.String (string t) ms
with_value (values.Whole n) ms = with fields.Number (integer n) ms
with_value (values.Bool b) ms = with fields.Boolean (boolean b) ms
with_value (values.Bytes bytes) ms = with fields.Bytes (string (encode_of standard bytes)) ms
with_value (values.Ref id) ms = with fields.ObjectId (string (object_id_text id)) ms

unfoldable pub value_json : MapValue → Data
value_json v = object (with_value v no_members)
