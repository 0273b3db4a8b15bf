-- The tokens of scripts that rl_model's Script has not: transports, ids, objects, keys, values. (This project's own.)
use Rattle.std.specs.Prelude.{ℕ, zero, suc, ◌+◌, ◌-◌, ◌*◌, ◌^◌, ℤ, pos, neg_ℤ, Bool, true, false, if◌then◌else◌, List, [], ◌∷◌, length, take, drop, Option, Some, None, option_map, bytes_eq, codes}
use Rattle.std.specs.List.{after_first}
use Rattle.rl_numbers.specs.declared.limits.TheConstants.{MAX_OBJECT_MILLIS, MAX_TEXT}
use Rattle.rl_ids.specs.Objects.{before_at, behind_at, object_hash, object_id_of}
use Rattle.rl_ids.specs.declared.objects.ObjectKind.{ObjectKind}
use Rattle.rl_ids.specs.declared.objects.ObjectKind.TheVariants as kinds
use Rattle.rl_ids.specs.declared.objects.ObjectId.{ObjectId}
use Rattle.rl_ids.specs.declared.objects.ObjectId.TheVariants.{Made}
use Rattle.rl_ids.specs.declared.objects.MapValue.{MapValue}
use Rattle.rl_ids.specs.declared.objects.MapValue.TheVariants as values
use Rattle.rl_model.specs.Script.{is_space, is_between, is_digit, is_name, number_within}

-- PARTS OF A LINE

-- what follows so many spaces
abbrev pub rest_after : ℕ → List ℕ → List ℕ
rest_after zero line = line
rest_after (suc n) line = rest_after n (after_first is_space line)

-- the text begins with this one
abbrev pub begins : List ℕ → List ℕ → Bool
begins start text = bytes_eq start (take (length start) text)

-- what follows a beginning
abbrev pub behind : List ℕ → List ℕ → List ℕ
behind start text = drop (length start) text

-- NUMBERS WITH A SIGN

abbrev pub negative : ℕ → ℤ
negative n = neg_ℤ (pos n)

-- the whole number of a token that is one of 64 bits, with a `-` or without. `-0` is one, and is 0
abbrev pub whole_of : List ℕ → Option ℤ
whole_of token =
    if begins (codes "-") token then option_map negative (number_within 0 (2 ^ 63) (behind (codes "-") token))
    else option_map pos (number_within 0 (2 ^ 63 - 1) token)

-- OBJECTS

abbrev pub made_at : ObjectKind → List ℕ → Option ℕ → Option ObjectId
made_at kind nonce None = None
made_at kind nonce (Some millis) = Some (Made kind (object_hash [] nonce) millis)

-- the id that a client makes of NONCE@MILLIS, with the empty initial value (RTO14)
abbrev pub made_of : ObjectKind → List ℕ → Option ObjectId
made_of kind text =
    if is_name (before_at text) then made_at kind (before_at text) (number_within 0 MAX_OBJECT_MILLIS (behind_at text)) else None

-- an object's id, or of what one is to be made
abbrev pub object_of : List ℕ → Option ObjectId
object_of token =
    if begins (codes "counter/") token then made_of kinds.Counter (behind (codes "counter/") token)
    else if begins (codes "map/") token then made_of kinds.Map (behind (codes "map/") token)
    else object_id_of token

-- VALUES OF MAPS

abbrev pub text_value : List ℕ → Option MapValue
text_value text = if is_between 1 MAX_TEXT (length text) then Some (values.Text text) else None

abbrev pub whole_value : Option ℤ → Option MapValue
whole_value None = None
whole_value (Some number) = Some (values.Whole number)

abbrev pub ref_value : Option ObjectId → Option MapValue
ref_value None = None
ref_value (Some id) = Some (values.Ref id)

-- a lower-case hexadecimal digit
abbrev pub hex_digit : ℕ → Option ℕ
hex_digit byte =
    if is_digit byte then Some (byte - 48) else if is_between 97 102 byte then Some (byte - 87) else None

abbrev pub byte_before : Option ℕ → Option ℕ → Option (List ℕ) → Option (List ℕ)
byte_before (Some high) (Some low) (Some bytes) = Some ((high * 16 + low) ∷ bytes)
byte_before high low bytes = None

-- the bytes that pairs of these digits spell
abbrev pub bytes_of : List ℕ → Option (List ℕ)
bytes_of [] = Some []
bytes_of (high ∷ []) = None
bytes_of (high ∷ low ∷ more) = byte_before (hex_digit high) (hex_digit low) (bytes_of more)

-- at least one byte
abbrev pub bytes_value : Option (List ℕ) → Option MapValue
bytes_value None = None
bytes_value (Some []) = None
bytes_value (Some (byte ∷ bytes)) = Some (values.Bytes (byte ∷ bytes))

abbrev pub value_of : List ℕ → Option MapValue
value_of rest =
    if begins (codes "text:") rest then text_value (behind (codes "text:") rest)
    else if begins (codes "whole:") rest then whole_value (whole_of (behind (codes "whole:") rest))
    else if bytes_eq (codes "bool:true") rest then Some (values.Bool true)
    else if bytes_eq (codes "bool:false") rest then Some (values.Bool false)
    else if begins (codes "bytes:") rest then bytes_value (bytes_of (behind (codes "bytes:") rest))
    else if begins (codes "ref:") rest then ref_value (object_of (behind (codes "ref:") rest))
    else None
