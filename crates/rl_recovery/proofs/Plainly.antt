-- A text is a key exactly where it is an object with the key's three members.
use Rattle.std.proofs.Common.{◌≡◌, ◌≤◌, ◌↔◌, ℕ, List, [], ◌∷◌, Option, Some, None, Ok, Err, refl, sym, ap, subst, ◌∙◌, arith}
use Rattle.std.specs.Prelude.{option_and_then}
use Rattle.serde_json.specs.Data.{Data, null, boolean, number, unsigned, negative, float, string, array, object, Members, no_members, member}
use Rattle.serde_json.specs.Find.{as_str}
use Rattle.serde_json.specs.Read.{read}
use Rattle.rl_numbers.specs.declared.limits.TheConstants.{MAX_MESSAGE_SERIAL}
use Rattle.rl_ids.specs.Forms.{serial_text}
use Rattle.rl_ids.specs.declared.serials.ChannelSerial.{ChannelSerial}
use Rattle.rl_ids.proofs.SerialTexts.{serial_only}
use Rattle.rl_runs.specs.declared.commands.RecoveryKey.{RecoveryKey}
use Rattle.rl_jsonfields.specs.declared.names.Field.{Field}
use Rattle.rl_jsonfields.specs.declared.names.Field.TheVariants as fields
use Rattle.rl_jsonfields.specs.Names.{spelled}
use Rattle.rl_jsonfields.specs.Fields.{Reads, text, whole_in, some_members, present, shaped, required, each_member}
use Rattle.rl_jsonfields.proofs.Got.{found, required_text_found, required_number_found, required_members_found}
use Rattle.rl_jsonfields.proofs.Shapes.{bind_ok, ok_is, some_is, shaped_ok, required_where, in_range_is}
use Rattle.rl_recovery.specs.Keys.{Held, is_name, a_serial, serial_under, held_at, serials_in, key_in, if_read, value_key, key_of}
use Rattle.rl_recovery.specs.Objects.{AreSerials, IsKeyObject, IsKeyText}
use Rattle.rl_recovery.proofs.Again.{held_again}
use Rattle.rl_recovery.proofs.Fits.{held_parts, chosen}

-- ---- what is read is such an object

present_is : (d v : Data) → present d ≡ Some v → d ≡ v
present_is null v e = absurd cc
present_is (boolean b) v e = some_is (boolean b) v e
present_is (number n) v e = some_is (number n) v e
present_is (string s) v e = some_is (string s) v e
present_is (array ds) v e = some_is (array ds) v e
present_is (object ms) v e = some_is (object ms) v e

member_is : (o : Option Data) (v : Data) → option_and_then present o ≡ Some v → o ≡ Some v
member_is None v e = absurd cc
member_is (Some d) v e = ap Some (present_is d v e)

text_is : (d : Data) (s : List ℕ) → as_str d ≡ Some s → d ≡ string s
text_is null s e = absurd cc
text_is (boolean b) s e = absurd cc
text_is (number n) s e = absurd cc
text_is (string t) s e = ap string (some_is t s e)
text_is (array ds) s e = absurd cc
text_is (object ms) s e = absurd cc

number_is : (d : Data) (n : ℕ) → whole_in 0 MAX_MESSAGE_SERIAL d ≡ Some n → (d ≡ number (unsigned n)) × (n ≤ MAX_MESSAGE_SERIAL)
number_is null n e = absurd cc
number_is (boolean b) n e = absurd cc
number_is (number (unsigned m)) n e = let r = in_range_is 0 MAX_MESSAGE_SERIAL m n e in (ap (λ x. number (unsigned x)) r.0, r.2)
number_is (number (negative z)) n e = absurd cc
number_is (number (float x)) n e = absurd cc
number_is (string t) n e = absurd cc
number_is (array ds) n e = absurd cc
number_is (object ms) n e = absurd cc

object_is : (d : Data) (ms : Members) → some_members d ≡ Some ms → d ≡ object ms
object_is null ms e = absurd cc
object_is (boolean b) ms e = absurd cc
object_is (number n) ms e = absurd cc
object_is (string s) ms e = absurd cc
object_is (array ds) ms e = absurd cc
object_is (object ns) ms e = let k : ns ≡ ms = cc in ap object k

-- what a required field is of an object
at : {A : Type 0} (shape : Data → Option A) (f : Field) (ms : Members) (x : A) → required shape f (object ms) ≡ Ok x → (v : Data) × (found f ms ≡ Some v) × (shape v ≡ Some x)
at shape f ms x e = let a = required_where shape f (object ms) x e in (a.0, member_is (found f ms) a.0 a.1, a.2)

serial_is : (d : Data) (s : ChannelSerial) → a_serial d ≡ Some s → d ≡ string (serial_text s)
serial_is null s e = absurd cc
serial_is (boolean b) s e = absurd cc
serial_is (number n) s e = absurd cc
serial_is (string t) s e = ap string (serial_only t s e).0
serial_is (array ds) s e = absurd cc
serial_is (object ms) s e = absurd cc

value_at : (name : List ℕ) (d : Data) (held : Held) → held_at name d ≡ Ok held → d ≡ string (serial_text held.1)
unfolding held_at
value_at name d held e =
    let a = bind_ok (shaped fields.ChannelSerials (serial_under name d)) _ held e in
    let b = chosen (is_name name) (a_serial d) a.0 (shaped_ok fields.ChannelSerials (serial_under name d) a.0 a.1) in
    subst (λ x. d ≡ string (serial_text x.1)) (ok_is (name, a.0) held a.2) (serial_is d a.0 b.1)

each_is : (ms : Members) (ss : List Held) → each_member held_at ms ≡ Ok ss → AreSerials ms ss
unfolding each_member
each_is no_members ss e = subst (AreSerials no_members) (ok_is [] ss e) tt
each_is (member name d ms) ss e =
    let a = bind_ok (held_at name d) _ ss e in
    let b = bind_ok (each_member held_at ms) _ ss a.2 in
    let parts = held_parts name d a.0 a.1 in
    subst (AreSerials (member name d ms)) (ok_is (a.0 ∷ b.0) ss b.2) (parts.0, value_at name d a.0 a.1, parts.1, each_is ms b.0 b.1)

serials_are : (ms : Members) (ss : List Held) → serials_in (object ms) ≡ Ok ss → (channels : Members) × (found fields.ChannelSerials ms ≡ Some (object channels)) × AreSerials channels ss
unfolding serials_in
serials_are ms ss e =
    let a = bind_ok (required some_members fields.ChannelSerials (object ms)) _ ss e in
    let b = at some_members fields.ChannelSerials ms a.0 a.1 in
    (a.0, b.1 ∙ ap Some (object_is b.0 a.0 b.2), each_is a.0 ss a.2)

object_key : (ms : Members) (key : RecoveryKey) → key_in (object ms) ≡ Ok key → IsKeyObject ms key
unfolding key_in spelled
object_key ms key e =
    let a = bind_ok (required text fields.ConnectionKey (object ms)) _ key e in
    let b = bind_ok (required (whole_in 0 MAX_MESSAGE_SERIAL) fields.MsgSerial (object ms)) _ key a.2 in
    let c = bind_ok (serials_in (object ms)) _ key b.2 in
    let k = at text fields.ConnectionKey ms a.0 a.1 in
    let n = at (whole_in 0 MAX_MESSAGE_SERIAL) fields.MsgSerial ms b.0 b.1 in
    let whole = number_is n.0 b.0 n.2 in
    let s = serials_are ms c.0 c.1 in
    subst (IsKeyObject ms) (ok_is (record { key = a.0; next = b.0; serials = c.0 }) key c.2)
    (record { connection_key = k.1 ∙ ap Some (text_is k.0 a.0 k.2); message_serial = n.1 ∙ ap Some whole.0; in_range = whole.1; channels = s.0; channel_serials = s.1; are_serials = s.2 })

-- what reads as a key is an object
has_members : (d : Data) (key : RecoveryKey) → key_in d ≡ Ok key → (ms : Members) × (d ≡ object ms)
unfolding key_in required
has_members null key e = absurd cc
has_members (boolean b) key e = absurd cc
has_members (number n) key e = absurd cc
has_members (string s) key e = absurd cc
has_members (array ds) key e = absurd cc
has_members (object ms) key e = (ms, refl)

read_is : (r : Reads RecoveryKey) (key : RecoveryKey) → if_read r ≡ Some key → r ≡ Ok key
read_is (Ok x) key e = ap Ok (some_is x key e)
read_is (Err fault) key e = absurd cc

value_is : (o : Option Data) (key : RecoveryKey) → value_key o ≡ Some key → (ms : Members) × (o ≡ Some (object ms)) × IsKeyObject ms key
value_is None key e = absurd cc
value_is (Some d) key e =
    let r = read_is (key_in d) key e in
    let m = has_members d key r in
    (m.0, ap Some m.1, object_key m.0 key (ap key_in (sym m.1) ∙ r))

is_text : (t : List ℕ) (key : RecoveryKey) → key_of t ≡ Some key → IsKeyText t key
unfolding key_of
is_text t key e = value_is (read t) key e

-- ---- such an object is read

each_read : (ms : Members) (ss : List Held) → AreSerials ms ss → each_member held_at ms ≡ Ok ss
unfolding each_member
each_read no_members [] h = refl
each_read no_members (s ∷ ss) h = absurd h
each_read (member name d ms) [] h = absurd h
each_read (member name d ms) (s ∷ ss) h =
    let one : held_at name d ≡ Ok s = ap (λ n. held_at n d) h.0 ∙ ap (held_at s.0) h.1 ∙ held_again s h.2 in
    rw (one, each_read ms ss h.3) refl

serials_read : (ms channels : Members) (ss : List Held) → found fields.ChannelSerials ms ≡ Some (object channels) → AreSerials channels ss → serials_in (object ms) ≡ Ok ss
unfolding serials_in
serials_read ms channels ss e h = rw (required_members_found fields.ChannelSerials ms channels e) (each_read channels ss h)

object_read : (ms : Members) (key : RecoveryKey) → IsKeyObject ms key → key_in (object ms) ≡ Ok key
unfolding key_in spelled
object_read ms key h =
    rw (required_text_found fields.ConnectionKey ms key.key h.connection_key, required_number_found 0 MAX_MESSAGE_SERIAL fields.MsgSerial ms key.next h.message_serial (omega arith) h.in_range, serials_read ms h.channels key.serials h.channel_serials h.are_serials) refl

is_read : (t : List ℕ) (key : RecoveryKey) → IsKeyText t key → key_of t ≡ Some key
unfolding key_of
is_read t key h = rw (h.1, object_read h.0 key h.2) refl

pub exactly : (t : List ℕ) (key : RecoveryKey) → (key_of t ≡ Some key) ↔ IsKeyText t key
exactly t key = (is_text t key, is_read t key)
