-- The tokens that are written for a MESSAGE frame are those of its JSON value.
use Rattle.std.proofs.Common.{◌≡◌, ℕ, ◌+◌, ◌<◌, ◌≤◌, take, get_or, List, [], ◌∷◌, ◌++◌, map, length, Option, Some, None, option_map, decimal, Ok, refl, sym, ap, ap₂, ◌∙◌, subst, append_assoc, append-nil}
use Rattle.std.specs.Prelude.{IsUtf8}
use Rattle.std.proofs.lemmas.List.{take_more}
use Rattle.json.specs.Token as tokens
use Rattle.json.specs.Token.{Token}
use Rattle.json.specs.Print.{print}
use Rattle.json.specs.Tree.{json_tokens, items_tokens, members_tokens}
use Rattle.json.specs.Written.{Written, Writes}
use Rattle.serde_json.specs.Data.{Data, string, array, Members, no_members, member, put}
use Rattle.serde_json.specs.Written.{outline, items_outline, members_outline}
use Rattle.serde_json.specs.View.{items_of}
use Rattle.serde_json.proofs.Texts.{print-outline}
use Rattle.rl_numbers.specs.declared.actions.TheConstants.{MESSAGE}
use Rattle.rl_numbers.specs.declared.limits.TheConstants.{MAX_FRAME_SIZE}
use Rattle.rl_ids.specs.Forms.{serial_text}
use Rattle.rl_types.specs.declared.frames.Frame.{Frame}
use Rattle.rl_types.specs.declared.frames.Frame.TheVariants as frames
use Rattle.rl_types.specs.declared.frames.Head.{Head}
use Rattle.rl_types.specs.declared.messages.Item.{Item}
use Rattle.rl_jsonfields.specs.declared.names.Field.{Field}
use Rattle.rl_jsonfields.specs.declared.names.Field.TheVariants as fields
use Rattle.rl_jsonfields.specs.Names.{spelled}
use Rattle.rl_jsonfields.specs.Texts.{num, with, with_text, with_number}
use Rattle.rl_wireitems.specs.Items.{message_value, message_values}
use Rattle.rl_wire.specs.Frames.{frame_at}
use Rattle.rl_wire.specs.Sendable.{IsSendable}
use Rattle.rl_wire.specs.Texts.{action, head_members, frame_members, frame_value, frame_text}
use Rattle.rl_wire.specs.Tokens.{Adds, text_tokens, number_tokens, message_tokens, messages_tokens, front_tokens, list_tokens, back_tokens}
use Rattle.rl_wire.proofs.Law.{text_again}

-- ---- one token, and some after some

pub one : {E : Type 0} {old new : Written} {t : Token} {u : Unit {0}} → Writes {E = E} (Ok u) old new t → Adds old new (t ∷ [])
one w = record { tokens = w.ok; before = w.room.0 }

pub then : {a b c : Written} {xs ys : List Token} → Adds a b xs → Adds b c ys → Adds a c (xs ++ ys)
then {a = a} {xs = xs} {ys = ys} p q = record { tokens = q.tokens ∙ ap (λ ts. ts ++ ys) p.tokens ∙ append_assoc a.tokens xs ys; before = q.before ∙ p.before }

pub nothing : (a : Written) → Adds a a []
nothing a = record { tokens = sym (append-nil a.tokens); before = refl }

pub messages_push : (ms ns : List Item) → messages_tokens (ms ++ ns) ≡ messages_tokens ms ++ messages_tokens ns
messages_push [] ns = refl
messages_push (m ∷ ms) ns = ap (λ ts. message_tokens m ++ ts) (messages_push ms ns) ∙ sym (append_assoc (message_tokens m) (messages_tokens ms) (messages_tokens ns))

pub next_message : {old mid new : Written} (items : List Item) (i : ℕ) (x : Item) → i < length items → x ≡ get_or items i x → Adds old mid (messages_tokens (take i items)) → Adds mid new (message_tokens x)
    → Adds old new (messages_tokens (take (i + 1) items))
next_message {old = old} {new = new} items i x within is p q =
    let more : messages_tokens (take (i + 1) items) ≡ messages_tokens (take i items) ++ message_tokens x =
    ap messages_tokens (take_more items i x within ∙ ap (λ y. take i items ++ y ∷ []) (sym is)) ∙ messages_push (take i items) (x ∷ [])
    ∙ ap (λ ts. messages_tokens (take i items) ++ ts) (append-nil (message_tokens x)) in
    subst (Adds old new) (sym more) (then p q)

-- ---- members in the order of their names

abbrev some_member : Field → Option Data → Members → Members
some_member f None ms = ms
some_member f (Some d) ms = member (spelled f) d ms

abbrev text_member : Field → Option (List ℕ) → Members → Members
text_member f s ms = some_member f (option_map string s) ms

abbrev number_member : Field → Option ℕ → Members → Members
number_member f n ms = some_member f (option_map num n) ms

abbrev tokens_of : Members → List Token
tokens_of ms = members_tokens (members_outline ms)

of_text : (f : Field) (o : Option (List ℕ)) (ms : Members) (ts : List Token) → tokens_of ms ≡ ts → tokens_of (text_member f o ms) ≡ text_tokens f o ++ ts
of_text f None ms ts e = e
of_text f (Some s) ms ts e = ap (λ us. tokens.key (spelled f) ∷ tokens.string s ∷ us) e

of_number : (f : Field) (o : Option ℕ) (ms : Members) (ts : List Token) → tokens_of ms ≡ ts → tokens_of (number_member f o ms) ≡ number_tokens f o ++ ts
of_number f None ms ts e = e
of_number f (Some n) ms ts e = ap (λ us. tokens.key (spelled f) ∷ tokens.number (decimal n) ∷ us) e

-- ---- a message

message_sorted : (id name payload encoding client : Option (List ℕ)) → with_text fields.ClientId client (with_text fields.Encoding encoding (with_text fields.Data payload (with_text fields.Name name (with_text fields.Id id no_members))))
    ≡ text_member fields.ClientId client (text_member fields.Data payload (text_member fields.Encoding encoding (text_member fields.Id id (text_member fields.Name name no_members))))
unfolding spelled
message_sorted None None None None None = refl
message_sorted None None None None (Some c) = refl
message_sorted None None None (Some e) None = refl
message_sorted None None None (Some e) (Some c) = refl
message_sorted None None (Some p) None None = refl
message_sorted None None (Some p) None (Some c) = refl
message_sorted None None (Some p) (Some e) None = refl
message_sorted None None (Some p) (Some e) (Some c) = refl
message_sorted None (Some n) None None None = refl
message_sorted None (Some n) None None (Some c) = refl
message_sorted None (Some n) None (Some e) None = refl
message_sorted None (Some n) None (Some e) (Some c) = refl
message_sorted None (Some n) (Some p) None None = refl
message_sorted None (Some n) (Some p) None (Some c) = refl
message_sorted None (Some n) (Some p) (Some e) None = refl
message_sorted None (Some n) (Some p) (Some e) (Some c) = refl
message_sorted (Some i) None None None None = refl
message_sorted (Some i) None None None (Some c) = refl
message_sorted (Some i) None None (Some e) None = refl
message_sorted (Some i) None None (Some e) (Some c) = refl
message_sorted (Some i) None (Some p) None None = refl
message_sorted (Some i) None (Some p) None (Some c) = refl
message_sorted (Some i) None (Some p) (Some e) None = refl
message_sorted (Some i) None (Some p) (Some e) (Some c) = refl
message_sorted (Some i) (Some n) None None None = refl
message_sorted (Some i) (Some n) None None (Some c) = refl
message_sorted (Some i) (Some n) None (Some e) None = refl
message_sorted (Some i) (Some n) None (Some e) (Some c) = refl
message_sorted (Some i) (Some n) (Some p) None None = refl
message_sorted (Some i) (Some n) (Some p) None (Some c) = refl
message_sorted (Some i) (Some n) (Some p) (Some e) None = refl
message_sorted (Some i) (Some n) (Some p) (Some e) (Some c) = refl

message_is : (m : Item) → json_tokens (outline (message_value m)) ≡ message_tokens m
unfolding message_value
message_is m =
    let name = of_text fields.Name m.name no_members (tokens.end_object ∷ []) refl in
    let id = of_text fields.Id m.id (text_member fields.Name m.name no_members) _ name in
    let encoding = of_text fields.Encoding m.encoding (text_member fields.Id m.id (text_member fields.Name m.name no_members)) _ id in
    let payload = of_text fields.Data m.payload (text_member fields.Encoding m.encoding (text_member fields.Id m.id (text_member fields.Name m.name no_members))) _ encoding in
    let client = of_text fields.ClientId m.client (text_member fields.Data m.payload (text_member fields.Encoding m.encoding (text_member fields.Id m.id (text_member fields.Name m.name no_members)))) _ payload in
    ap (λ ms. tokens.begin_object ∷ tokens_of ms) (message_sorted m.id m.name m.payload m.encoding m.client) ∙ ap (λ ts. tokens.begin_object ∷ ts) client

messages_are : (ms : List Item) → items_tokens (items_outline (items_of (map message_value ms))) ≡ messages_tokens ms ++ tokens.end_array ∷ []
messages_are [] = refl
messages_are (m ∷ ms) = ap₂ (λ a b. a ++ b) (message_is m) (messages_are ms) ∙ sym (append_assoc (message_tokens m) (messages_tokens ms) (tokens.end_array ∷ []))

-- ---- a frame

abbrev after_list : Option ℕ → Option ℕ → Members
after_list msg stamp = number_member fields.MsgSerial msg (number_member fields.Timestamp stamp no_members)

abbrev from_list : Data → Option ℕ → Option ℕ → Members
from_list a msg stamp = member (spelled fields.Messages) a (after_list msg stamp)

head_sorted : (a : Data) (channel : List ℕ) (msg : Option ℕ) (serial conn id : Option (List ℕ)) (stamp : Option ℕ)
    → put (spelled fields.Messages) a (with_number fields.Timestamp stamp (with_text fields.Id id (with_text fields.ConnectionId conn (with_text fields.ChannelSerial serial (with_number fields.MsgSerial msg (with fields.Channel (string channel) (action MESSAGE)))))))
    ≡ member (spelled fields.Action) (num MESSAGE) (member (spelled fields.Channel) (string channel) (text_member fields.ChannelSerial serial (text_member fields.ConnectionId conn (text_member fields.Id id (from_list a msg stamp)))))
unfolding spelled
head_sorted a channel None None None None None = refl
head_sorted a channel None None None None (Some t) = refl
head_sorted a channel None None None (Some i) None = refl
head_sorted a channel None None None (Some i) (Some t) = refl
head_sorted a channel None None (Some c) None None = refl
head_sorted a channel None None (Some c) None (Some t) = refl
head_sorted a channel None None (Some c) (Some i) None = refl
head_sorted a channel None None (Some c) (Some i) (Some t) = refl
head_sorted a channel None (Some s) None None None = refl
head_sorted a channel None (Some s) None None (Some t) = refl
head_sorted a channel None (Some s) None (Some i) None = refl
head_sorted a channel None (Some s) None (Some i) (Some t) = refl
head_sorted a channel None (Some s) (Some c) None None = refl
head_sorted a channel None (Some s) (Some c) None (Some t) = refl
head_sorted a channel None (Some s) (Some c) (Some i) None = refl
head_sorted a channel None (Some s) (Some c) (Some i) (Some t) = refl
head_sorted a channel (Some m) None None None None = refl
head_sorted a channel (Some m) None None None (Some t) = refl
head_sorted a channel (Some m) None None (Some i) None = refl
head_sorted a channel (Some m) None None (Some i) (Some t) = refl
head_sorted a channel (Some m) None (Some c) None None = refl
head_sorted a channel (Some m) None (Some c) None (Some t) = refl
head_sorted a channel (Some m) None (Some c) (Some i) None = refl
head_sorted a channel (Some m) None (Some c) (Some i) (Some t) = refl
head_sorted a channel (Some m) (Some s) None None None = refl
head_sorted a channel (Some m) (Some s) None None (Some t) = refl
head_sorted a channel (Some m) (Some s) None (Some i) None = refl
head_sorted a channel (Some m) (Some s) None (Some i) (Some t) = refl
head_sorted a channel (Some m) (Some s) (Some c) None None = refl
head_sorted a channel (Some m) (Some s) (Some c) None (Some t) = refl
head_sorted a channel (Some m) (Some s) (Some c) (Some i) None = refl
head_sorted a channel (Some m) (Some s) (Some c) (Some i) (Some t) = refl

frame_is : (h : Head) (ms : List Item) → json_tokens (outline (frame_value (frames.Message h ms))) ≡ front_tokens h ++ (list_tokens ms ++ back_tokens h)
unfolding frame_members head_members message_values
frame_is h ms =
    let serial = option_map serial_text h.serial in
    let a = array (items_of (map message_value ms)) in
    let stamp = of_number fields.Timestamp h.stamp no_members (tokens.end_object ∷ []) refl in
    let back : tokens_of (after_list h.msg h.stamp) ≡ back_tokens h = of_number fields.MsgSerial h.msg (number_member fields.Timestamp h.stamp no_members) _ stamp in
    let rest = list_tokens ms ++ back_tokens h in
    let list : tokens_of (from_list a h.msg h.stamp) ≡ rest = ap₂ (λ ts us. tokens.key (spelled fields.Messages) ∷ tokens.begin_array ∷ (ts ++ us)) (messages_are ms) back in
    let id = of_text fields.Id h.id (from_list a h.msg h.stamp) rest list in
    let conn = of_text fields.ConnectionId h.conn (text_member fields.Id h.id (from_list a h.msg h.stamp)) (text_tokens fields.Id h.id ++ rest) id in
    let all = of_text fields.ChannelSerial serial (text_member fields.ConnectionId h.conn (text_member fields.Id h.id (from_list a h.msg h.stamp))) (text_tokens fields.ConnectionId h.conn ++ (text_tokens fields.Id h.id ++ rest)) conn in
    let front = λ (ts : List Token). tokens.begin_object ∷ tokens.key (spelled fields.Action) ∷ tokens.number (decimal MESSAGE) ∷ tokens.key (spelled fields.Channel) ∷ tokens.string h.channel ∷ ts in
    let s = text_tokens fields.ChannelSerial serial in
    let c = text_tokens fields.ConnectionId h.conn in
    let i = text_tokens fields.Id h.id in
    let grouped : s ++ (c ++ (i ++ rest)) ≡ (s ++ (c ++ i)) ++ rest = ap (λ ts. s ++ ts) (sym (append_assoc c i rest)) ∙ sym (append_assoc s (c ++ i) rest) in
    ap (λ x. tokens.begin_object ∷ tokens_of x) (head_sorted a h.channel h.msg serial h.conn h.id h.stamp) ∙ ap front (all ∙ grouped)

pub frame_printed : (h : Head) (ms : List Item) (ts : List Token) → ts ≡ front_tokens h ++ (list_tokens ms ++ back_tokens h) → print ts ≡ frame_text (frames.Message h ms)
frame_printed h ms ts e = ap print (e ∙ sym (frame_is h ms)) ∙ print-outline (frame_value (frames.Message h ms))

pub reads_same : (f : Frame) (bs : List ℕ) → bs ≡ frame_text f → IsUtf8 bs → IsSendable f → length bs ≤ MAX_FRAME_SIZE → frame_at bs ≡ Ok (Some f)
reads_same f bs e u sendable short = ap frame_at e ∙ text_again f sendable (subst IsUtf8 e u) (subst (λ t. length t ≤ MAX_FRAME_SIZE) e short)
