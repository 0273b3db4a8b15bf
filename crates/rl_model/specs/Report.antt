-- The text of a report, line by line. (This project's own.)
use Rattle.std.specs.Prelude.{ℕ, Bool, true, false, ◌||◌, if◌then◌else◌, ◌==◌, nat_lt, List, [], ◌∷◌, ◌++◌, flat_map, count_by, is_some, Option, Some, None, decimal, codes}
use Rattle.rl_base.specs.Digits.{fixed_text}
use Rattle.rl_ids.specs.Forms.{conn_text}
use Rattle.rl_ids.specs.declared.serials.ChannelSerial.{ChannelSerial}
use Rattle.std.specs.Fmt.{signed_decimal}
use Rattle.rl_ids.specs.Objects.{object_id_text}
use Rattle.rl_ids.specs.declared.objects.ObjectId.{ObjectId}
use Rattle.rl_ids.specs.declared.objects.MapValue.{MapValue}
use Rattle.rl_ids.specs.declared.objects.MapValue.TheVariants as values
use Rattle.rl_types.specs.declared.objects.Op.{Op}
use Rattle.rl_types.specs.declared.objects.Op.TheVariants as ops
use Rattle.rl_types.specs.declared.objects.ObjectOp.{ObjectOp}
use Rattle.rl_types.specs.declared.objects.MapCell.{MapCell}
use Rattle.rl_types.specs.declared.objects.ObjectBody.{ObjectBody}
use Rattle.rl_types.specs.declared.objects.ObjectBody.TheVariants as bodies
use Rattle.rl_types.specs.declared.objects.ObjectState.{ObjectState}
use Rattle.rl_types.specs.declared.messages.Item.{Item}
use Rattle.rl_types.specs.declared.presence.PresenceItem.{PresenceItem}
use Rattle.rl_types.specs.declared.presence.PresenceAction.{PresenceAction}
use Rattle.rl_types.specs.declared.presence.PresenceAction.TheVariants as presence
use Rattle.rl_types.specs.declared.messages.Body.{Body}
use Rattle.rl_types.specs.declared.messages.Body.TheVariants.{Messages, Presence, Objects}
use Rattle.rl_types.specs.declared.messages.Entry.{Entry}
use Rattle.rl_types.specs.declared.messages.Given.{Given}
use Rattle.rl_types.specs.declared.messages.Given.TheVariants.{Ours, Other}
use Rattle.rl_types.specs.States.{conn_word, chan_word}
use Rattle.rl_runs.specs.declared.findings.Answer.{Answer}
use Rattle.rl_runs.specs.declared.findings.Answer.TheVariants.{Ack, Nack}
use Rattle.rl_runs.specs.declared.findings.Cause.{Cause}
use Rattle.rl_runs.specs.declared.findings.Cause.TheVariants.{Opened, NotRetained, Recovered, Moved, Jump}
use Rattle.rl_runs.specs.declared.findings.Segment.{Segment}
use Rattle.rl_runs.specs.declared.findings.ChannelFindings.{ChannelFindings}
use Rattle.rl_runs.specs.declared.findings.ChannelView.{ChannelView}
use Rattle.rl_runs.specs.declared.findings.ClientFindings.{ClientFindings}
use Rattle.rl_runs.specs.declared.findings.Findings.{Findings}

-- words with a space before each
abbrev pub spaced : List (List ℕ) → List ℕ
spaced words = flat_map (λ word. 32 ∷ word) words

abbrev pub line : List ℕ → List (List ℕ) → List ℕ
line first words = first ++ spaced words ++ 10 ∷ []

-- TEXTS

-- a quote and a backslash get a backslash; a control character is `\u` and four hexadecimal digits
abbrev pub quoted_byte : ℕ → List ℕ
quoted_byte byte =
    if (byte == 34) || (byte == 92) then 92 ∷ byte ∷ []
    else if nat_lt byte 32 || (byte == 127) then codes "\\u" ++ fixed_text 16 4 byte
    else byte ∷ []

abbrev pub quoted : List ℕ → List ℕ
quoted text = 34 ∷ flat_map quoted_byte text ++ 34 ∷ []

abbrev pub dash : List ℕ
dash = codes "-"

abbrev pub quoted_or_dash : Option (List ℕ) → List ℕ
quoted_or_dash None = dash
quoted_or_dash (Some text) = quoted text

abbrev pub number_or_dash : Option ℕ → List ℕ
number_or_dash None = dash
number_or_dash (Some number) = decimal number

abbrev pub text_or_dash : Option (List ℕ) → List ℕ
text_or_dash None = dash
text_or_dash (Some text) = text

-- BODIES

abbrev pub item_words : Item → List (List ℕ)
item_words item = codes "|" ∷ quoted_or_dash item.id ∷ quoted_or_dash item.name ∷ quoted_or_dash item.payload ∷ []

abbrev pub action_word : PresenceAction → List ℕ
action_word presence.Absent = codes "absent"
action_word presence.Present = codes "present"
action_word presence.Enter = codes "enter"
action_word presence.Leave = codes "leave"
action_word presence.Update = codes "update"

abbrev pub presence_words : PresenceItem → List (List ℕ)
presence_words item = codes "|" ∷ action_word item.action ∷ quoted item.client ∷ quoted_or_dash item.payload ∷ []

-- a value of a map
abbrev pub bool_word : Bool → List ℕ
bool_word true = codes "true"
bool_word false = codes "false"

abbrev pub byte_word : ℕ → List ℕ
byte_word byte = fixed_text 16 2 byte

abbrev pub value_word : MapValue → List ℕ
value_word (values.Text text) = quoted text
value_word (values.Whole number) = signed_decimal number
value_word (values.Bool truth) = bool_word truth
value_word (values.Bytes bytes) = codes "hex:" ++ flat_map byte_word bytes
value_word (values.Ref id) = codes "ref:" ++ object_id_text id

-- what an operation does. A map's first entries are not printed
abbrev pub op_words : ObjectOp → List (List ℕ)
op_words op = codes "|" ∷ done_words op.op
  where
    done_words : Op → List (List ℕ)
    done_words (ops.MapCreate id entries) = codes "map" ∷ object_id_text id ∷ []
    done_words (ops.MapSet id key value) = codes "set" ∷ object_id_text id ∷ quoted key ∷ value_word value ∷ []
    done_words (ops.MapRemove id key) = codes "remove" ∷ object_id_text id ∷ quoted key ∷ []
    done_words (ops.CounterCreate id count) = codes "counter" ∷ object_id_text id ∷ signed_decimal count ∷ []
    done_words (ops.CounterInc id amount) = codes "inc" ∷ object_id_text id ∷ signed_decimal amount ∷ []
    done_words (ops.Delete id) = codes "delete" ∷ object_id_text id ∷ []

abbrev pub body_words : Body → List (List ℕ)
body_words (Messages items) = codes "message" ∷ flat_map item_words items
body_words (Presence items) = codes "presence" ∷ flat_map presence_words items
body_words (Objects ops) = codes "objects" ∷ flat_map op_words ops

-- CHANNELS

abbrev pub entry_line : Entry → List ℕ
entry_line entry =
    line (codes "entry")
    (decimal entry.place ∷ decimal entry.stamp ∷ conn_text entry.conn ∷ number_or_dash entry.serial ∷ body_words entry.body)

abbrev pub channel_lines : ChannelFindings → List ℕ
channel_lines channel =
    line (codes "channel") (channel.name ∷ codes "first" ∷ decimal channel.first ∷ codes "head" ∷ decimal channel.head ∷ [])
    ++ flat_map entry_line channel.entries

-- CLIENTS

abbrev pub answer_line : Answer → List ℕ
answer_line (Ack conn serial) = line (codes "ack") (conn ∷ decimal serial ∷ [])
answer_line (Nack conn serial code) = line (codes "nack") (conn ∷ decimal serial ∷ decimal code ∷ [])

-- a serial of the run's epoch by its place
abbrev pub serial_word : ℕ → ChannelSerial → List ℕ
serial_word epoch serial = if serial.epoch == epoch then decimal serial.place else codes "other"

abbrev pub given_word : ℕ → Given → List ℕ
given_word epoch (Ours serial) = serial_word epoch serial
given_word epoch (Other text) = codes "other"

abbrev pub cause_words : ℕ → Cause → List (List ℕ)
cause_words epoch Opened = codes "opened" ∷ []
cause_words epoch (NotRetained asked) = codes "notretained" ∷ given_word epoch asked ∷ []
cause_words epoch (Recovered asked) = codes "recovered" ∷ given_word epoch asked ∷ []
cause_words epoch (Moved held told) = codes "moved" ∷ given_word epoch held ∷ serial_word epoch told ∷ []
cause_words epoch (Jump held told) = codes "jump" ∷ serial_word epoch held ∷ serial_word epoch told ∷ []

abbrev pub got_line : ℕ × Body → List ℕ
got_line got = line (codes "got") (decimal got.0 ∷ body_words got.1)

abbrev pub segment_lines : ℕ → Segment → List ℕ
segment_lines epoch segment =
    line (codes "segment") (decimal segment.start ∷ cause_words epoch segment.cause) ++ flat_map got_line segment.got

-- a place, whatever the epoch
abbrev pub held_word : Option ChannelSerial → List ℕ
held_word None = dash
held_word (Some serial) = decimal serial.place

abbrev pub yes_or_no : Bool → List ℕ
yes_or_no true = codes "yes"
yes_or_no false = codes "no"

abbrev pub member_line : PresenceItem → List ℕ
member_line member = line (codes "member") (member.conn ∷ quoted member.client ∷ quoted_or_dash member.payload ∷ [])

-- a key of a map that has a value
abbrev pub key_line : List ℕ → Option MapValue → List ℕ
key_line key None = []
key_line key (Some value) = line (codes "key") (quoted key ∷ value_word value ∷ [])

abbrev pub cell_line : List ℕ × MapCell → List ℕ
cell_line cell = key_line cell.0 cell.1.value

abbrev pub has_value : List ℕ × MapCell → Bool
has_value cell = is_some cell.1.value

-- a counter with its value, a map with the number of its keys and each of them
abbrev pub held_lines : ObjectId → ObjectBody → List ℕ
held_lines id (bodies.Counter sum) = line (codes "counter") (object_id_text id ∷ signed_decimal sum ∷ [])
held_lines id (bodies.Map cells) =
    line (codes "map") (object_id_text id ∷ decimal (count_by has_value cells) ∷ []) ++ flat_map cell_line cells

abbrev pub object_lines : ObjectState → List ℕ
object_lines state = held_lines state.id state.body

abbrev pub view_lines : ℕ → ChannelView → List ℕ
view_lines epoch view =
    line (codes "record") (view.name ∷ chan_word view.state ∷ held_word view.held ∷ [])
    ++ flat_map (segment_lines epoch) view.runs.segments
    ++ line (codes "members") (view.name ∷ yes_or_no view.members_whole ∷ [])
    ++ flat_map member_line view.members
    ++ line (codes "objects") (view.name ∷ yes_or_no view.objects_whole ∷ [])
    ++ flat_map object_lines view.objects

abbrev pub client_lines : ℕ → ClientFindings → List ℕ
client_lines epoch client =
    line (codes "client")
    (client.name ∷ conn_word client.state ∷ text_or_dash client.conn
    ∷ codes "pending" ∷ decimal client.pending ∷ codes "dropped" ∷ decimal client.dropped ∷ [])
    ++ flat_map answer_line client.answers
    ++ flat_map (view_lines epoch) client.views

abbrev pub report : Findings → List ℕ
report findings =
    codes "report\n"
    ++ flat_map channel_lines findings.channels
    ++ flat_map (client_lines findings.epoch) findings.clients
    ++ codes "end\n"
