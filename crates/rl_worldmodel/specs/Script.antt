-- The grammar of all lines: what a line says, and which line is the first that is refused, and why. (This project's own. Its
-- plain tokens are those of rl_model's Script.)
use Rattle.std.specs.Prelude.{ℕ, suc, ◌+◌, ℤ, Bool, true, false, ◌&&◌, ◌||◌, not, if◌then◌else◌, nat_lt, nat_le, List, [], ◌∷◌, ◌++◌, length, sum_by, filter_map, Option, Some, None, Result, Ok, Err, bytes_eq, codes}
use Rattle.std.specs.List.{list_all, list_any, slice_split}
use Rattle.std.specs.Str.{is_utf8}
use Rattle.std.specs.Str.Lines.{lines}
use Rattle.rl_numbers.specs.declared.limits.TheConstants.{MAX_CLIENTS, MAX_COUNT, MAX_FED, MAX_FED_TEXT, MAX_GIVEN, MAX_TEXT, MAX_TICK, MAX_TRANSPORTS}
use Rattle.rl_ids.specs.declared.objects.ObjectId.{ObjectId}
use Rattle.rl_ids.specs.declared.objects.MapValue.{MapValue}
use Rattle.rl_types.specs.declared.objects.Op.{Op}
use Rattle.rl_types.specs.declared.objects.Op.TheVariants as ops
use Rattle.rl_runs.specs.declared.script.ScriptCause.{ScriptCause}
use Rattle.rl_runs.specs.declared.script.ScriptCause.TheVariants as cause
use Rattle.rl_runs.specs.declared.commands.Command.{Command}
use Rattle.rl_runs.specs.declared.commands.Command.TheVariants.{Close, Attach, AttachAt, Detach, Publish, Enter, Update, Leave, Operate}
use Rattle.rl_runs.specs.declared.script.Line.{Line}
use Rattle.rl_runs.specs.declared.script.Line.TheVariants.{Client, Open, Cut, Recover, Act, Get, Step, Page, Poll, Timer, Tick, Expire, Reap, Age, Feed, FeedId, Settle}
use Rattle.rl_model.specs.Script.{is_space, is_name, is_channel, is_between, is_blank, number_within}
use Rattle.rl_worldmodel.specs.Services.{one_item}
use Rattle.rl_worldmodel.specs.Tokens.{rest_after, whole_of, object_of, value_of}

-- TOKENS

-- what a line says by itself: nothing where it is blank; or why it is refused
abbrev pub Said : Type 0
Said = Result (Option Line) ScriptCause

abbrev pub says : Line → Said
says line = Ok (Some line)

-- the cause of the first test that fails, or else what follows
abbrev pub unless : Bool → ScriptCause → Said → Said
unless true fault next = next
unless false fault next = Err fault

-- the same of a token that has to be something
module _ {X : Type 0} where
  abbrev pub with_found : ScriptCause → Option X → (X → Said) → Said
  with_found fault None next = Err fault
  with_found fault (Some found) next = next found

abbrev pub named : List ℕ → Said → Said
named name next = unless (is_name name) cause.Name next

abbrev pub on_channel : List ℕ → Said → Said
on_channel name next = unless (is_channel name) cause.Channel next

-- a message id
abbrev pub with_id : List ℕ → Said → Said
with_id id next = unless (is_channel id) cause.Name next

-- a map's key
abbrev pub with_key : List ℕ → Said → Said
with_key key next = unless (is_channel key) cause.Key next

-- a text of so many bytes at most
abbrev pub with_text : ℕ → List ℕ → Said → Said
with_text most text next = unless (is_between 1 most (length text)) cause.Text next

abbrev pub with_number : ℕ → ℕ → List ℕ → (ℕ → Said) → Said
with_number low high token next = with_found cause.Number (number_within low high token) next

abbrev pub with_whole : List ℕ → (ℤ → Said) → Said
with_whole token next = with_found cause.Number (whole_of token) next

abbrev pub with_object : List ℕ → (ObjectId → Said) → Said
with_object token next = with_found cause.Object (object_of token) next

abbrev pub with_value : List ℕ → (MapValue → Said) → Said
with_value rest next = with_found cause.Value (value_of rest) next

abbrev pub is_slash : ℕ → Bool
is_slash byte = is_between 47 47 byte

-- a transport: a client's name, or that, a slash and a number
abbrev pub transport_in : List (List ℕ) → (List ℕ → Option ℕ → Said) → Said
transport_in (name ∷ []) next = named name (next name None)
transport_in (name ∷ number ∷ []) next =
    named name (with_found cause.Name (number_within 1 MAX_TRANSPORTS number) (λ index. next name (Some index)))
transport_in parts next = Err cause.Name

abbrev pub with_transport : List ℕ → (List ℕ → Option ℕ → Said) → Said
with_transport token next = transport_in (slice_split is_slash token) next

-- LINES BY THEIR TOKENS

abbrev pub word_line : Line → List (List ℕ) → Said
word_line line [] = says line
word_line line tokens = Err cause.Count

abbrev pub name_line : (List ℕ → Line) → List (List ℕ) → Said
name_line line (name ∷ []) = named name (says (line name))
name_line line tokens = Err cause.Count

abbrev pub recover_line : List (List ℕ) → Said
recover_line (name ∷ other ∷ []) = named name (named other (says (Recover name other)))
recover_line tokens = Err cause.Count

-- a client's command on a channel
abbrev pub channel_line : (List ℕ → Command) → List (List ℕ) → Said
channel_line command (name ∷ channel ∷ []) = named name (on_channel channel (says (Act name (command channel))))
channel_line command tokens = Err cause.Count

abbrev pub attach_at_line : List (List ℕ) → Said
attach_at_line (name ∷ channel ∷ epoch ∷ place ∷ []) =
    named name (on_channel channel
    (with_number 0 MAX_GIVEN epoch (λ e.
    with_number 0 MAX_GIVEN place (λ p.
    says (Act name (AttachAt channel (record { epoch = e; place = p })))))))
attach_at_line tokens = Err cause.Count

-- a text is the rest of the line, spaces and all
abbrev pub pub_line : List ℕ → List (List ℕ) → Said
pub_line text (name ∷ channel ∷ word ∷ words) =
    named name (on_channel channel (with_text MAX_TEXT text (says (Act name (Publish channel (one_item None text))))))
pub_line text tokens = Err cause.Count

abbrev pub pub_id_line : List ℕ → List (List ℕ) → Said
pub_id_line text (name ∷ channel ∷ id ∷ word ∷ words) =
    named name (on_channel channel (with_id id
    (with_text MAX_TEXT text (says (Act name (Publish channel (one_item (Some id) text)))))))
pub_id_line text tokens = Err cause.Count

-- a member with its data
abbrev pub member_line : (List ℕ → List ℕ → List ℕ → Command) → List ℕ → List (List ℕ) → Said
member_line command text (name ∷ channel ∷ who ∷ word ∷ words) =
    named name (on_channel channel (named who (with_text MAX_TEXT text (says (Act name (command channel who text))))))
member_line command text tokens = Err cause.Count

abbrev pub leave_line : List (List ℕ) → Said
leave_line (name ∷ channel ∷ who ∷ []) = named name (on_channel channel (named who (says (Act name (Leave channel who)))))
leave_line tokens = Err cause.Count

-- one operation
abbrev pub operates : List ℕ → List ℕ → Op → Said
operates name channel op = says (Act name (Operate channel (op ∷ [])))

-- on an object
abbrev pub object_line : (ObjectId → Op) → List (List ℕ) → Said
object_line op (name ∷ channel ∷ object ∷ []) =
    named name (on_channel channel (with_object object (λ id. operates name channel (op id))))
object_line op tokens = Err cause.Count

-- on an object, with a whole number
abbrev pub number_line : (ObjectId → ℤ → Op) → List (List ℕ) → Said
number_line op (name ∷ channel ∷ object ∷ number ∷ []) =
    named name (on_channel channel (with_object object (λ id. with_whole number (λ n. operates name channel (op id n)))))
number_line op tokens = Err cause.Count

-- on a map's key
abbrev pub key_line : (ObjectId → List ℕ → Op) → List (List ℕ) → Said
key_line op (name ∷ channel ∷ object ∷ key ∷ []) =
    named name (on_channel channel (with_object object (λ id. with_key key (operates name channel (op id key)))))
key_line op tokens = Err cause.Count

-- a value is the rest of the line
abbrev pub set_line : List ℕ → List (List ℕ) → Said
set_line rest (name ∷ channel ∷ object ∷ key ∷ word ∷ words) =
    named name (on_channel channel (with_object object (λ id.
    with_key key (with_value rest (λ value. operates name channel (ops.MapSet id key value))))))
set_line rest tokens = Err cause.Count

abbrev pub step_line : List (List ℕ) → Said
step_line (transport ∷ []) = with_transport transport (λ name index. says (Step name index))
step_line tokens = Err cause.Count

-- a transport's channel
abbrev pub session_line : (List ℕ → Option ℕ → List ℕ → Line) → List (List ℕ) → Said
session_line line (transport ∷ channel ∷ []) =
    with_transport transport (λ name index. on_channel channel (says (line name index channel)))
session_line line tokens = Err cause.Count

abbrev pub tick_line : List (List ℕ) → Said
tick_line (span ∷ []) = with_number 0 MAX_TICK span (λ ms. says (Tick ms))
tick_line tokens = Err cause.Count

abbrev pub age_line : List (List ℕ) → Said
age_line (channel ∷ []) = on_channel channel (says (Age channel))
age_line tokens = Err cause.Count

abbrev pub feed_line : List ℕ → List (List ℕ) → Said
feed_line text (channel ∷ count ∷ word ∷ words) =
    on_channel channel (with_number 1 MAX_COUNT count (λ n. with_text MAX_FED_TEXT text (says (Feed channel n text))))
feed_line text tokens = Err cause.Count

abbrev pub feed_id_line : List ℕ → List (List ℕ) → Said
feed_id_line text (channel ∷ id ∷ word ∷ words) =
    on_channel channel (with_id id (with_text MAX_FED_TEXT text (says (FeedId channel id text))))
feed_id_line text tokens = Err cause.Count

-- ONE LINE

abbrev pub line_by_word : List ℕ → List (List ℕ) → Said
line_by_word line [] = Ok None
line_by_word line (word ∷ tokens) =
    if bytes_eq word (codes "client") then name_line (λ name. Client name) tokens
    else if bytes_eq word (codes "open") then name_line (λ name. Open name) tokens
    else if bytes_eq word (codes "cut") then name_line (λ name. Cut name) tokens
    else if bytes_eq word (codes "close") then name_line (λ name. Act name Close) tokens
    else if bytes_eq word (codes "recover") then recover_line tokens
    else if bytes_eq word (codes "attach") then channel_line (λ channel. Attach channel) tokens
    else if bytes_eq word (codes "detach") then channel_line (λ channel. Detach channel) tokens
    else if bytes_eq word (codes "attachat") then attach_at_line tokens
    else if bytes_eq word (codes "pub") then pub_line (rest_after 3 line) tokens
    else if bytes_eq word (codes "pubid") then pub_id_line (rest_after 4 line) tokens
    else if bytes_eq word (codes "enter") then member_line (λ channel who text. Enter channel who text) (rest_after 4 line) tokens
    else if bytes_eq word (codes "update") then member_line (λ channel who text. Update channel who text) (rest_after 4 line) tokens
    else if bytes_eq word (codes "leave") then leave_line tokens
    else if bytes_eq word (codes "counter") then number_line (λ id n. ops.CounterCreate id n) tokens
    else if bytes_eq word (codes "map") then object_line (λ id. ops.MapCreate id []) tokens
    else if bytes_eq word (codes "set") then set_line (rest_after 5 line) tokens
    else if bytes_eq word (codes "remove") then key_line (λ id key. ops.MapRemove id key) tokens
    else if bytes_eq word (codes "inc") then number_line (λ id n. ops.CounterInc id n) tokens
    else if bytes_eq word (codes "delete") then object_line (λ id. ops.Delete id) tokens
    else if bytes_eq word (codes "get") then name_line (λ name. Get name) tokens
    else if bytes_eq word (codes "step") then step_line tokens
    else if bytes_eq word (codes "page") then session_line (λ name index channel. Page name index channel) tokens
    else if bytes_eq word (codes "poll") then session_line (λ name index channel. Poll name index channel) tokens
    else if bytes_eq word (codes "timer") then name_line (λ name. Timer name) tokens
    else if bytes_eq word (codes "tick") then tick_line tokens
    else if bytes_eq word (codes "expire") then word_line Expire tokens
    else if bytes_eq word (codes "reap") then word_line Reap tokens
    else if bytes_eq word (codes "age") then age_line tokens
    else if bytes_eq word (codes "feed") then feed_line (rest_after 3 line) tokens
    else if bytes_eq word (codes "feedid") then feed_id_line (rest_after 3 line) tokens
    else if bytes_eq word (codes "settle") then word_line Settle tokens
    else Err cause.Word

abbrev pub line_of : List ℕ → Said
line_of line =
    unless (is_utf8 line) cause.Text (if is_blank line then Ok None else line_by_word line (slice_split is_space line))

-- A LINE AFTER OTHERS

abbrev pub name_declared : Line → Option (List ℕ)
name_declared (Client name) = Some name
name_declared line = None

-- the names of the clients, in order of declaration
abbrev pub declared_names : List Line → List (List ℕ)
declared_names before = filter_map name_declared before

-- the clients that a line speaks of
abbrev pub names_used : Line → List (List ℕ)
names_used (Open name) = name ∷ []
names_used (Cut name) = name ∷ []
names_used (Recover name other) = name ∷ other ∷ []
names_used (Act name command) = name ∷ []
names_used (Get name) = name ∷ []
names_used (Step name index) = name ∷ []
names_used (Page name index channel) = name ∷ []
names_used (Poll name index channel) = name ∷ []
names_used (Timer name) = name ∷ []
names_used line = []

-- how many entries a line feeds
abbrev pub fed_by : Line → ℕ
fed_by (Feed channel count text) = count
fed_by (FeedId channel id text) = 1
fed_by line = 0

abbrev pub is_declared : List Line → List ℕ → Bool
is_declared before name = list_any (bytes_eq name) (declared_names before)

abbrev pub may_declare : Option (List ℕ) → List Line → Bool
may_declare None before = true
may_declare (Some name) before = not (is_declared before name) && nat_lt (length (declared_names before)) MAX_CLIENTS

-- a name is declared once, before it is used, and not too many are
abbrev pub in_order : List Line → Line → Bool
in_order before line = may_declare (name_declared line) before && list_all (is_declared before) (names_used line)

-- not too many entries are fed in all
abbrev pub fits_total : List Line → Line → Bool
fits_total before line = nat_le (sum_by fed_by before + fed_by line) MAX_FED

-- a race has clients that work side by side, and one worker for the service: no line of it takes the service or a link apart
abbrev pub is_race_line : Line → Bool
is_race_line (Recover name other) = false
is_race_line (Act name (AttachAt channel serial)) = false
is_race_line (Get name) = false
is_race_line (Step name index) = false
is_race_line (Page name index channel) = false
is_race_line (Poll name index channel) = false
is_race_line (Timer name) = false
is_race_line (Feed channel count text) = false
is_race_line (FeedId channel id text) = false
is_race_line line = true

-- whether a line may stand after these, in a script or in a race
abbrev pub placed : Bool → List Line → Option Line → Said
placed race before None = Ok None
placed race before (Some line) =
    unless (in_order before line) cause.Order
    (unless (fits_total before line) cause.Total
    (unless (not race || is_race_line line) cause.Race (says line)))

abbrev pub line_after : Bool → List Line → Said → Said
line_after race before (Ok line) = placed race before line
line_after race before (Err fault) = Err fault

-- WHOLE SCRIPTS

-- a refusal: the number of the line, from 1, and the cause
abbrev pub LineRefusal : Type 0
LineRefusal = ℕ × ScriptCause

abbrev pub with_line : List Line → Option Line → List Line
with_line before None = before
with_line before (Some line) = before ++ line ∷ []

abbrev pub then_rest : ℕ → Said → List Line → (List Line → Result (List Line) LineRefusal) → Result (List Line) LineRefusal
then_rest number (Ok line) before rest = rest (with_line before line)
then_rest number (Err fault) before rest = Err (number, fault)

-- what the lines from this number on say after the lines before them
abbrev pub script_from : Bool → List (List ℕ) → ℕ → List Line → Result (List Line) LineRefusal
script_from race [] number before = Ok before
script_from race (text ∷ texts) number before =
    then_rest number (line_after race before (line_of text)) before (script_from race texts (suc number))

-- what the bytes of a script say, or of a race: its lines, or the first line that is refused
abbrev pub script_of : Bool → List ℕ → Result (List Line) LineRefusal
script_of race bytes = script_from race (lines bytes) 1 []
