-- The grammar of scripts: what a line says, and which line is the first that is refused, and why.
-- (This project's own.)
use Rattle.std.specs.Prelude.{ℕ, suc, ◌+◌, ◌-◌, ◌*◌, slice_get, Bool, true, false, ◌&&◌, ◌||◌, not, if◌then◌else◌, ◌==◌, nat_lt, nat_le, List, [], ◌∷◌, ◌++◌, length, count_by, sum_by, filter_map, is_none, Option, Some, None, Result, Ok, Err, bytes_eq, codes}
use Rattle.rl_numbers.specs.declared.limits.TheConstants.{MAX_CLIENTS, MAX_COUNT, MAX_FED_TEXT, MAX_GIVEN, MAX_NAME, MAX_PUBLISHED, MAX_PUT, MAX_SCRIPT_LINES, MAX_SCRIPT_SIZE, MAX_TEXT, MAX_WORD}
use Rattle.std.specs.List.{list_all, list_any, slice_split, after_first}
use Rattle.std.specs.Str.{is_utf8}
use Rattle.std.specs.Str.Lines.{lines}
use Rattle.rl_runs.specs.declared.script.Line.{Line}
use Rattle.rl_runs.specs.declared.script.Line.TheVariants.{Client, Open, Cut, Act, Feed, Settle}
use Rattle.rl_runs.specs.declared.commands.Command.TheVariants.{Attach, AttachAt, Publish}
use Rattle.rl_runs.specs.declared.script.ScriptCause.{ScriptCause}
use Rattle.rl_runs.specs.declared.script.ScriptCause.TheVariants as cause
use Rattle.rl_types.specs.declared.messages.Item.{Item}

-- LIMITS

abbrev pub is_feed : ℕ → Bool
is_feed byte = byte == 10

abbrev pub is_open : Option ℕ → Bool
is_open None = false
is_open (Some byte) = not (is_feed byte)

-- whether something follows the last line feed
abbrev pub ends_open : List ℕ → Bool
ends_open bytes = is_open (slice_get bytes (length bytes - 1))

-- the lines, of which the last may lack its line feed
abbrev pub line_count : List ℕ → ℕ
line_count bytes = count_by is_feed bytes + (if ends_open bytes then 1 else 0)

-- more bytes or more lines than a script may have
abbrev pub is_too_long : List ℕ → Bool
is_too_long bytes = nat_lt MAX_SCRIPT_SIZE (length bytes) || nat_lt MAX_SCRIPT_LINES (line_count bytes)

-- TOKENS

abbrev pub is_space : ℕ → Bool
is_space byte = byte == 32

abbrev pub is_between : ℕ → ℕ → ℕ → Bool
is_between low high n = nat_le low n && nat_le n high

abbrev pub is_digit : ℕ → Bool
is_digit byte = is_between 48 57 byte

-- a letter, a digit or _
abbrev pub is_name_byte : ℕ → Bool
is_name_byte byte = is_between 65 90 byte || is_between 97 122 byte || is_digit byte || (byte == 95)

-- the same, or a hyphen
abbrev pub is_channel_byte : ℕ → Bool
is_channel_byte byte = is_name_byte byte || (byte == 45)

abbrev pub is_name : List ℕ → Bool
is_name token = is_between 1 MAX_NAME (length token) && list_all is_name_byte token

abbrev pub is_channel : List ℕ → Bool
is_channel token = is_between 1 MAX_WORD (length token) && list_all is_channel_byte token

-- the number that digits spell, after what was there before them
abbrev pub digits_value : ℕ → List ℕ → ℕ
digits_value before [] = before
digits_value before (digit ∷ digits) = digits_value (before * 10 + (digit - 48)) digits

-- a zero with digits behind it
abbrev pub has_leading_zero : List ℕ → Bool
has_leading_zero (digit ∷ next ∷ digits) = digit == 48
has_leading_zero _ = false

-- decimal digits without leading zeros
abbrev pub is_decimal : List ℕ → Bool
is_decimal token = nat_lt 0 (length token) && list_all is_digit token && not (has_leading_zero token)

-- the number of a token that is one within these bounds
abbrev pub number_within : ℕ → ℕ → List ℕ → Option ℕ
number_within low high token =
    if is_decimal token && is_between low high (digits_value 0 token) then Some (digits_value 0 token) else None

-- what follows the third space
abbrev pub rest_of_line : List ℕ → List ℕ
rest_of_line line = after_first is_space (after_first is_space (after_first is_space line))

-- ONE LINE

-- what a line says by itself: nothing where it is blank; or why it is refused
abbrev pub Said : Type 0
Said = Result (Option Line) ScriptCause

-- the cause of the first test that fails, or else what follows
abbrev pub unless : Bool → ScriptCause → Said → Said
unless true fault next = next
unless false fault next = Err fault

abbrev pub with_number : Option ℕ → (ℕ → Said) → Said
with_number None next = Err cause.Number
with_number (Some number) next = next number

abbrev pub says : Line → Said
says line = Ok (Some line)

abbrev pub one_item : List ℕ → List Item
one_item text = record { id = None; name = None; payload = Some text; encoding = None; client = None } ∷ []

abbrev pub client_line : List (List ℕ) → Said
client_line (name ∷ []) = unless (is_name name) cause.Name (says (Client name))
client_line _ = Err cause.Count

abbrev pub open_line : List (List ℕ) → Said
open_line (name ∷ []) = unless (is_name name) cause.Name (says (Open name))
open_line _ = Err cause.Count

abbrev pub cut_line : List (List ℕ) → Said
cut_line (name ∷ []) = unless (is_name name) cause.Name (says (Cut name))
cut_line _ = Err cause.Count

abbrev pub attach_line : List (List ℕ) → Said
attach_line (name ∷ channel ∷ []) =
    unless (is_name name) cause.Name (unless (is_channel channel) cause.Channel (says (Act name (Attach channel))))
attach_line _ = Err cause.Count

abbrev pub attach_at_line : List (List ℕ) → Said
attach_at_line (name ∷ channel ∷ epoch ∷ place ∷ []) =
    unless (is_name name) cause.Name (unless (is_channel channel) cause.Channel
    (with_number (number_within 0 MAX_GIVEN epoch) (λ e.
    with_number (number_within 0 MAX_GIVEN place) (λ p.
    says (Act name (AttachAt channel (record { epoch = e; place = p })))))))
attach_at_line _ = Err cause.Count

-- the text is the rest of the line, spaces and all
abbrev pub pub_line : List ℕ → List (List ℕ) → Said
pub_line text (name ∷ channel ∷ word ∷ words) =
    unless (is_name name) cause.Name (unless (is_channel channel) cause.Channel
    (unless (is_between 1 MAX_TEXT (length text)) cause.Text (says (Act name (Publish channel (one_item text))))))
pub_line text _ = Err cause.Count

abbrev pub feed_line : List ℕ → List (List ℕ) → Said
feed_line text (channel ∷ count ∷ word ∷ words) =
    unless (is_channel channel) cause.Channel
    (with_number (number_within 1 MAX_COUNT count) (λ n.
    unless (is_between 1 MAX_FED_TEXT (length text)) cause.Text (says (Feed channel n text))))
feed_line text _ = Err cause.Count

abbrev pub settle_line : List (List ℕ) → Said
settle_line [] = says Settle
settle_line _ = Err cause.Count

abbrev pub line_by_word : List ℕ → List (List ℕ) → Said
line_by_word line [] = Ok None
line_by_word line (word ∷ tokens) =
    if bytes_eq word (codes "client") then client_line tokens
    else if bytes_eq word (codes "open") then open_line tokens
    else if bytes_eq word (codes "cut") then cut_line tokens
    else if bytes_eq word (codes "attach") then attach_line tokens
    else if bytes_eq word (codes "attachat") then attach_at_line tokens
    else if bytes_eq word (codes "pub") then pub_line (rest_of_line line) tokens
    else if bytes_eq word (codes "feed") then feed_line (rest_of_line line) tokens
    else if bytes_eq word (codes "settle") then settle_line tokens
    else Err cause.Word

-- an empty line or a comment
abbrev pub is_blank : List ℕ → Bool
is_blank [] = true
is_blank (byte ∷ bytes) = byte == 35

abbrev pub line_of : List ℕ → Said
line_of line =
    unless (is_utf8 line) cause.Text (if is_blank line then Ok None else line_by_word line (slice_split is_space line))

-- A LINE AFTER OTHERS

abbrev pub name_declared : Line → Option (List ℕ)
name_declared (Client name) = Some name
name_declared _ = None

-- the names of the clients, in order of declaration
abbrev pub declared_names : List Line → List (List ℕ)
declared_names before = filter_map name_declared before

abbrev pub name_used : Line → Option (List ℕ)
name_used (Open name) = Some name
name_used (Cut name) = Some name
name_used (Act name command) = Some name
name_used _ = None

abbrev pub channel_named : Line → Option (List ℕ)
channel_named (Act name (Attach channel)) = Some channel
channel_named (Act name (AttachAt channel serial)) = Some channel
channel_named (Act name (Publish channel items)) = Some channel
channel_named (Feed channel count text) = Some channel
channel_named _ = None

-- the channels that the lines name, in order
abbrev pub channels_named : List Line → List (List ℕ)
channels_named before = filter_map channel_named before

abbrev pub is_publish : Line → Bool
is_publish (Act name (Publish channel items)) = true
is_publish _ = false

abbrev pub fed_by : Line → ℕ
fed_by (Feed channel count text) = count
fed_by _ = 0

-- how many messages the lines publish and feed
abbrev pub published : List Line → ℕ
published before = count_by is_publish before

abbrev pub fed : List Line → ℕ
fed before = sum_by fed_by before

abbrev pub is_settle : Line → Bool
is_settle Settle = true
is_settle _ = false

abbrev pub ends_settled : List Line → Bool
ends_settled [] = false
ends_settled (line ∷ []) = is_settle line
ends_settled (line ∷ next ∷ lines) = ends_settled (next ∷ lines)

abbrev pub is_declared : List ℕ → List Line → Bool
is_declared name before = list_any (bytes_eq name) (declared_names before)

abbrev pub may_declare : Option (List ℕ) → List Line → Bool
may_declare None before = true
may_declare (Some name) before = not (is_declared name before) && nat_lt (length (declared_names before)) MAX_CLIENTS

abbrev pub may_use : Option (List ℕ) → List Line → Bool
may_use None before = true
may_use (Some name) before = is_declared name before

-- a name is declared once, before it is used, and not too many are
abbrev pub in_order : List Line → Line → Bool
in_order before line = may_declare (name_declared line) before && may_use (name_used line) before

-- what is built so far: one client, one channel, a drop only right after a settle, and so many messages published,
-- and published and fed, at most
abbrev pub is_first_client : List Line → Line → Bool
is_first_client before line = is_none (name_declared line) || nat_lt (length (declared_names before)) 1

abbrev pub is_only_channel : Option (List ℕ) → List Line → Bool
is_only_channel None before = true
is_only_channel (Some channel) before = list_all (bytes_eq channel) (channels_named before)

abbrev pub is_cut : Line → Bool
is_cut (Cut name) = true
is_cut _ = false

abbrev pub in_scope : List Line → Line → Bool
in_scope before line =
    is_first_client before line
    && is_only_channel (channel_named line) before
    && (not (is_cut line) || ends_settled before)
    && nat_le (published (before ++ line ∷ [])) MAX_PUBLISHED
    && nat_le (published (before ++ line ∷ []) + fed (before ++ line ∷ [])) MAX_PUT

abbrev pub placed : List Line → Option Line → Said
placed before None = Ok None
placed before (Some line) =
    unless (in_order before line) cause.Order (unless (in_scope before line) cause.Word (says line))

abbrev pub line_after : List Line → Said → Said
line_after before (Ok line) = placed before line
line_after before (Err fault) = Err fault

-- WHOLE SCRIPTS

-- a refusal: the number of the line, from 1, and the cause
abbrev pub Refusal : Type 0
Refusal = ℕ × ScriptCause

abbrev pub with_line : List Line → Option Line → List Line
with_line before None = before
with_line before (Some line) = before ++ line ∷ []

abbrev pub go_on : ℕ → Said → List Line → (List Line → Result (List Line) Refusal) → Result (List Line) Refusal
go_on number (Ok line) before rest = rest (with_line before line)
go_on number (Err fault) before rest = Err (number, fault)

-- what the lines from this number on say after the lines before them
abbrev pub script_from : List (List ℕ) → ℕ → List Line → Result (List Line) Refusal
script_from [] number before = Ok before
script_from (text ∷ texts) number before =
    go_on number (line_after before (line_of text)) before (script_from texts (suc number))

-- what the bytes of a script say: its lines, or the first line that is refused
abbrev pub script_of : List ℕ → Result (List Line) Refusal
script_of bytes = script_from (lines bytes) 1 []
