-- Small keys and texts, with which the definitions are tried.
use Rattle.std.specs.Prelude.{ℕ, ◌≡◌, List, [], ◌∷◌, ◌++◌, Some, None, codes, replicate}
use Rattle.rl_runs.specs.declared.commands.RecoveryKey.{RecoveryKey}
use Rattle.rl_recovery.specs.Keys.{Held, key_of, key_text}

abbrev pub key_with : List ℕ → ℕ → List Held → RecoveryKey
key_with key next serials = record { key = key; next = next; serials = serials }

-- a channel with a place of epoch 1
abbrev pub held : List ℕ → ℕ → Held
held name place = (name, record { epoch = 1; place = place })

-- that place's text, up to its last digit
abbrev pub serial_front : List ℕ
serial_front = codes "\"00000000-0000-0000-0000-000000000001:000000000000000"

-- a text with these members of `channelSerials`
abbrev pub with_channels : List ℕ → List ℕ
with_channels members = codes "{\"channelSerials\":{" ++ members ++ codes "},\"connectionKey\":\"k\",\"msgSerial\":0}"

-- a text with this number
abbrev pub with_number : List ℕ → List ℕ
with_number number = codes "{\"channelSerials\":{},\"connectionKey\":\"k\",\"msgSerial\":" ++ number ++ codes "}"

-- a member with place 5
abbrev pub at_five : List ℕ → List ℕ
at_five name = codes "\"" ++ name ++ codes "\":" ++ serial_front ++ codes "5\""

-- two members, in order
abbrev pub two_members : List ℕ
two_members = codes "\"Room\":" ++ serial_front ++ codes "1\"," ++ at_five (codes "room")

-- a name of so many bytes
abbrev pub long_name : ℕ → List ℕ
long_name count = replicate count 120

-- what keys are written as
pub record Written : Type 0 where
  pub no_channel : key_text (key_with (codes "c00000001!0000000000000007") 3 []) ≡ codes "{\"channelSerials\":{},\"connectionKey\":\"c00000001!0000000000000007\",\"msgSerial\":3}"
  pub one_channel : key_text (key_with (codes "k") 0 (held (codes "room") 5 ∷ [])) ≡ with_channels (at_five (codes "room"))
  pub two_channels : key_text (key_with (codes "k") 0 (held (codes "Room") 1 ∷ held (codes "room") 5 ∷ [])) ≡ with_channels two_members
  pub quoted_name : key_text (key_with (codes "k") 0 (held (codes "a\"\\b") 5 ∷ [])) ≡ with_channels (at_five (codes "a\\\"\\\\b"))
  pub out_of_order : key_text (key_with (codes "k") 0 (held (codes "room") 5 ∷ held (codes "Room") 1 ∷ [])) ≡ with_channels two_members
  pub name_twice : key_text (key_with (codes "k") 0 (held (codes "room") 5 ∷ held (codes "room") 1 ∷ [])) ≡ with_channels (at_five (codes "room"))

-- what texts are read as
pub record Read : Type 0 where
  pub no_channel : key_of (with_number (codes "3")) ≡ Some (key_with (codes "k") 3 [])
  pub one_channel : key_of (with_channels (at_five (codes "room"))) ≡ Some (key_with (codes "k") 0 (held (codes "room") 5 ∷ []))
  pub sorted : key_of (with_channels (at_five (codes "room") ++ codes "," ++ at_five (codes "Room"))) ≡ Some (key_with (codes "k") 0 (held (codes "Room") 5 ∷ held (codes "room") 5 ∷ []))
  pub channel_twice : key_of (with_channels (codes "\"room\":7," ++ at_five (codes "room"))) ≡ Some (key_with (codes "k") 0 (held (codes "room") 5 ∷ []))
  pub any_order : key_of (codes " { \"msgSerial\" : 3 , \"other\" : [ 1 , null ] , \"connectionKey\" : \"\" , \"channelSerials\" : { } } ") ≡ Some (key_with [] 3 [])
  pub field_twice : key_of (codes "{\"msgSerial\":\"x\",\"channelSerials\":{},\"connectionKey\":\"k\",\"msgSerial\":4}") ≡ Some (key_with (codes "k") 4 [])
  pub greatest_number : key_of (with_number (codes "9007199254740991")) ≡ Some (key_with (codes "k") 9007199254740991 [])
  pub longest_name : key_of (with_channels (at_five (long_name 256))) ≡ Some (key_with (codes "k") 0 (held (long_name 256) 5 ∷ []))

-- which texts are no keys
pub record NotRead : Type 0 where
  pub empty : key_of [] ≡ None
  pub list : key_of (codes "[]") ≡ None
  pub cut_off : key_of (codes "{\"channelSerials\":{},\"connectionKey\":\"k\",\"msgSerial\":3") ≡ None
  pub something_after : key_of (with_number (codes "3") ++ codes "x") ≡ None
  pub no_serials : key_of (codes "{\"connectionKey\":\"k\",\"msgSerial\":3}") ≡ None
  pub no_key : key_of (codes "{\"channelSerials\":{},\"msgSerial\":3}") ≡ None
  pub no_number : key_of (codes "{\"channelSerials\":{},\"connectionKey\":\"k\"}") ≡ None
  pub null_number : key_of (with_number (codes "null")) ≡ None
  pub text_number : key_of (with_number (codes "\"3\"")) ≡ None
  pub below : key_of (with_number (codes "-1")) ≡ None
  pub above : key_of (with_number (codes "9007199254740992")) ≡ None
  pub other_key : key_of (codes "{\"channelSerials\":{},\"connectionKey\":7,\"msgSerial\":3}") ≡ None
  pub serials_in_a_list : key_of (codes "{\"channelSerials\":[],\"connectionKey\":\"k\",\"msgSerial\":3}") ≡ None
  pub empty_name : key_of (with_channels (at_five [])) ≡ None
  pub too_long_name : key_of (with_channels (at_five (long_name 257))) ≡ None
  pub other_serial : key_of (with_channels (codes "\"room\":\"abc\"")) ≡ None
  pub upper_case_digit : key_of (with_channels (codes "\"room\":" ++ serial_front ++ codes "A\"")) ≡ None
  pub null_serial : key_of (with_channels (codes "\"room\":null")) ≡ None
  pub one_of_two : key_of (with_channels (at_five (codes "room") ++ codes ",\"zoom\":5")) ≡ None
