-- What is written of a key is read as it again.
use Rattle.std.proofs.Common.{◌≡◌, ℕ, Bool, true, false, List, length, Some, Ok, refl, ap, ◌∙◌, leb, ltb, All, arith}
use Rattle.std.specs.Prelude.{◌&&◌}
use Rattle.std.proofs.lemmas.Bool.{le-leb, lt-ltb}
use Rattle.serde_json.specs.Data.{Data, string, object, Members, no_members, put}
use Rattle.serde_json.specs.Written.{has_float, compact_text}
use Rattle.rl_numbers.specs.declared.limits.TheConstants.{MAX_MESSAGE_SERIAL, MAX_CHANNEL_NAME}
use Rattle.rl_ids.specs.Forms.{serial_text}
use Rattle.rl_ids.proofs.SerialTexts.{serial_back}
use Rattle.rl_runs.specs.declared.commands.RecoveryKey.{RecoveryKey}
use Rattle.rl_jsonfields.specs.declared.names.Field.TheVariants as fields
use Rattle.rl_jsonfields.specs.Names.{spelled}
use Rattle.rl_jsonfields.specs.Order.{Rise}
use Rattle.rl_jsonfields.specs.Texts.{num}
use Rattle.rl_jsonfields.proofs.Compact.{Plain, nothing_orderly, put_orderly, number_orderly, string_orderly, each_member_orderly, read_compact}
use Rattle.rl_jsonfields.proofs.Flat.{Flat, nothing, text_flat, put_flat, number_flat, string_flat, object_flat, each_member_flat}
use Rattle.rl_jsonfields.proofs.Got.{found, required_text_found, required_number_found, required_members_found, found_rules}
use Rattle.rl_jsonfields.proofs.Rises.{each_again}
use Rattle.rl_recovery.specs.Keys.{Held, name_of, is_name, held_at, serials_in, key_in, key_of, serial_json, serials_json, key_members, key_value, key_text, IsName, IsHeld, IsRecoveryKey}

both_true : (a b : Bool) → a ≡ true → b ≡ true → (a && b) ≡ true
both_true true b h k = k
both_true false b h k = absurd cc

pub name_is : (name : List ℕ) → IsName name → is_name name ≡ true
name_is name h = both_true (ltb 0 (length name)) (leb (length name) MAX_CHANNEL_NAME) (lt-ltb 0 (length name) h.0) (le-leb (length name) MAX_CHANNEL_NAME h.1)

pub held_again : (held : Held) → IsHeld held → held_at held.0 (serial_json held) ≡ Ok held
unfolding held_at
held_again held h = rw (name_is held.0 h.0, serial_back held.1 h.1) refl

serials_again : (ms : Members) (ss : List Held) → found fields.ChannelSerials ms ≡ Some (serials_json ss) → Rise ss → All IsHeld ss → serials_in (object ms) ≡ Ok ss
unfolding serials_in serials_json
serials_again ms ss e rise all =
    rw (required_members_found fields.ChannelSerials ms _ e) (each_again (λ s. string (serial_text s)) held_at IsHeld held_again ss rise all)

value_again : (key : RecoveryKey) → IsRecoveryKey key → key_in (key_value key) ≡ Ok key
unfolding key_in key_members
value_again key h =
    let ms = put (spelled fields.MsgSerial) (num key.next) (put (spelled fields.ConnectionKey) (string key.key) (put (spelled fields.ChannelSerials) (serials_json key.serials) no_members)) in
    let a : found fields.ConnectionKey ms ≡ Some (string key.key) = simp found_rules in
    let b : found fields.MsgSerial ms ≡ Some (num key.next) = simp found_rules in
    let c : found fields.ChannelSerials ms ≡ Some (serials_json key.serials) = simp found_rules in
    rw (required_text_found fields.ConnectionKey ms key.key a, required_number_found 0 MAX_MESSAGE_SERIAL fields.MsgSerial ms key.next b (omega arith) h.0, serials_again ms key.serials c h.1 h.2) refl

-- ---- the text is read as the value

serials_flat : (ss : List Held) → Flat 1 (serials_json ss)
unfolding serials_json
serials_flat ss = object_flat 0 _ (each_member_flat 0 name_of serial_json ss (λ s. text_flat 0 (serial_text s.1)))

key_flat : (key : RecoveryKey) → Flat 2 (key_value key)
unfolding key_members
key_flat key =
    object_flat 1 _ (number_flat 1 fields.MsgSerial key.next _ (string_flat 1 fields.ConnectionKey key.key _ (put_flat 1 (spelled fields.ChannelSerials) (serials_json key.serials) _ (serials_flat key.serials) (nothing 1))))

held_plain : (held : Held) → IsHeld held → Plain (serial_json held)
held_plain held h = tt

serials_plain : (ss : List Held) → All IsHeld ss → Plain (serials_json ss)
unfolding serials_json
serials_plain ss h = (each_member_orderly name_of serial_json IsHeld ss held_plain h).plain

key_plain : (key : RecoveryKey) → IsRecoveryKey key → Plain (key_value key)
unfolding key_members
key_plain key h =
    (number_orderly fields.MsgSerial key.next _ (omega (arith, h.0)) (string_orderly fields.ConnectionKey key.key _ (put_orderly (spelled fields.ChannelSerials) (serials_json key.serials) _ (serials_plain key.serials h.2) nothing_orderly))).plain

pub written : (key : RecoveryKey) (d : Data) (t : List ℕ) → d ≡ key_value key → (has_float d ≡ false → t ≡ compact_text d) → t ≡ key_text key
written key d t e h = let k : has_float d ≡ false = rw e ((key_flat key).no_float) in h k ∙ ap compact_text e

pub key_again : (key : RecoveryKey) → IsRecoveryKey key → key_of (key_text key) ≡ Some key
unfolding key_of
key_again key h = rw (read_compact (key_value key) (key_plain key h) (omega (arith, (key_flat key).shallow)), value_again key h) refl

pub text_again : (key : RecoveryKey) (t : List ℕ) → t ≡ key_text key → IsRecoveryKey key → key_of t ≡ Some key
text_again key t e h = ap key_of e ∙ key_again key h
