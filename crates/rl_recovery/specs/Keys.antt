-- Recovery keys as texts: how a text is read, how a key is written, and which keys clients give.
use Rattle.std.specs.Prelude.{ℕ, Bool, ◌&&◌, ◌≤◌, ◌<◌, List, length, nat_le, nat_lt, Option, Some, None, option_and_then, Ok, Err, if◌then◌else◌}
use Rattle.std.specs.List.{All}
use Rattle.serde_json.specs.Data.{Data, string, object, Members, no_members}
use Rattle.serde_json.specs.Find.{as_str}
use Rattle.serde_json.specs.Read.{read}
use Rattle.serde_json.specs.Written.{compact_text}
use Rattle.rl_numbers.specs.declared.limits.TheConstants.{MAX_MESSAGE_SERIAL, MAX_CHANNEL_NAME}
use Rattle.rl_ids.specs.Forms.{serial_of, serial_text, IsSerial}
use Rattle.rl_ids.specs.declared.serials.ChannelSerial.{ChannelSerial}
use Rattle.rl_runs.specs.declared.commands.RecoveryKey.{RecoveryKey}
use Rattle.rl_jsonfields.specs.declared.names.Field.TheVariants as fields
use Rattle.rl_jsonfields.specs.Fields.{Reads, ◌>>=◌, text, whole_in, some_members, shaped, required, each_member}
use Rattle.rl_jsonfields.specs.Order.{Rise}
use Rattle.rl_jsonfields.specs.Texts.{num, with, member_of_each}

-- a channel's name with the serial that is held there
abbrev pub Held : Type 0
Held = List ℕ × ChannelSerial

abbrev pub name_of : Held → List ℕ
name_of held = held.0

-- ---- reading

-- a channel's name has at least 1 byte, and at most 256
abbrev pub is_name : List ℕ → Bool
is_name name = nat_lt 0 (length name) && nat_le (length name) MAX_CHANNEL_NAME

-- a text in the form of a channel serial
abbrev pub a_serial : Data → Option ChannelSerial
a_serial d = option_and_then serial_of (as_str d)

-- the serial that stands under a channel's name
abbrev pub serial_under : List ℕ → Data → Option ChannelSerial
serial_under name d = if is_name name then a_serial d else None

-- a member of `channelSerials`
unfoldable pub held_at : List ℕ → Data → Reads Held
held_at name d = do
  serial ← shaped fields.ChannelSerials (serial_under name d)
  Ok (name, serial)

-- all of them, in the order of the names' bytes
unfoldable pub serials_in : Data → Reads (List Held)
serials_in d = do
  members ← required some_members fields.ChannelSerials d
  each_member held_at members

-- the three fields of the object; a value that is no object has none
unfoldable pub key_in : Data → Reads RecoveryKey
key_in d = do
  key ← required text fields.ConnectionKey d
  next ← required (whole_in 0 MAX_MESSAGE_SERIAL) fields.MsgSerial d
  serials ← serials_in d
  Ok (record { key = key; next = next; serials = serials })

-- what has a fault is no key, whichever fault it is
abbrev pub if_read : Reads RecoveryKey → Option RecoveryKey
if_read (Ok key) = Some key
if_read (Err fault) = None

abbrev pub value_key : Option Data → Option RecoveryKey
value_key None = None
value_key (Some d) = if_read (key_in d)

-- the recovery key that a text is
unfoldable pub key_of : List ℕ → Option RecoveryKey
key_of t = value_key (read t)

-- ---- writing

abbrev pub serial_json : Held → Data
serial_json held = string (serial_text held.1)

unfoldable pub serials_json : List Held → Data
serials_json serials = object (member_of_each name_of serial_json serials)

-- the members stand in the order of their names, whatever order they are put in
unfoldable pub key_members : RecoveryKey → Members
key_members key = with fields.MsgSerial (num key.next) (with fields.ConnectionKey (string key.key) (with fields.ChannelSerials (serials_json key.serials) no_members))

abbrev pub key_value : RecoveryKey → Data
key_value key = object (key_members key)

-- the text of a recovery key
abbrev pub key_text : RecoveryKey → List ℕ
key_text key = compact_text (key_value key)

-- ---- which keys clients give

abbrev pub IsName : List ℕ → Type 0
IsName name = (0 < length name) × (length name ≤ MAX_CHANNEL_NAME)

abbrev pub IsHeld : Held → Type 0
IsHeld held = IsName held.0 × IsSerial held.1

-- A message serial of 53 bits, and serials under the names of channels, which rise byte by byte: so no name stands
-- there twice.
abbrev pub IsRecoveryKey : RecoveryKey → Type 0
IsRecoveryKey key = (key.next ≤ MAX_MESSAGE_SERIAL) × Rise key.serials × All IsHeld key.serials
