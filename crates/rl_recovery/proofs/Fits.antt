-- What is read is a key such as clients give.
use Rattle.std.proofs.Common.{◌≡◌, ℕ, Bool, true, false, cond, List, length, Option, Some, None, Ok, Err, refl, sym, subst, leb, ltb, All}
use Rattle.std.specs.Prelude.{◌&&◌, IfSome, option_and_then}
use Rattle.std.proofs.lemmas.Bool.{leb-true, ltb-true}
use Rattle.serde_json.specs.Data.{Data}
use Rattle.serde_json.specs.Find.{as_str}
use Rattle.serde_json.specs.Read.{read}
use Rattle.rl_numbers.specs.declared.limits.TheConstants.{MAX_MESSAGE_SERIAL, MAX_CHANNEL_NAME}
use Rattle.rl_ids.specs.Forms.{serial_of, IsSerial}
use Rattle.rl_ids.specs.declared.serials.ChannelSerial.{ChannelSerial}
use Rattle.rl_ids.proofs.SerialTexts.{serial_only}
use Rattle.rl_runs.specs.declared.commands.RecoveryKey.{RecoveryKey}
use Rattle.rl_jsonfields.specs.declared.names.Field.TheVariants as fields
use Rattle.rl_jsonfields.specs.Fields.{Reads, text, whole_in, some_members, shaped, required}
use Rattle.rl_jsonfields.specs.Order.{Ordered, Rise}
use Rattle.rl_jsonfields.proofs.Ordered.{ordered_read, ordered_required}
use Rattle.rl_jsonfields.proofs.Rises.{rises, all_read}
use Rattle.rl_jsonfields.proofs.Shapes.{bind_ok, ok_is, shaped_ok, required_number}
use Rattle.rl_recovery.specs.Keys.{Held, is_name, a_serial, serial_under, held_at, serials_in, key_in, if_read, value_key, key_of, IsName, IsHeld, IsRecoveryKey}

first_true : (a b : Bool) → (a && b) ≡ true → a ≡ true
first_true true b h = refl
first_true false b h = absurd cc

second_true : (a b : Bool) → (a && b) ≡ true → b ≡ true
second_true true b h = h
second_true false b h = absurd cc

name_fits : (name : List ℕ) → is_name name ≡ true → IsName name
name_fits name h =
    (ltb-true 0 (length name) (first_true (ltb 0 (length name)) (leb (length name) MAX_CHANNEL_NAME) h), leb-true (length name) MAX_CHANNEL_NAME (second_true (ltb 0 (length name)) (leb (length name) MAX_CHANNEL_NAME) h))

text_serial : (o : Option (List ℕ)) (s : ChannelSerial) → option_and_then serial_of o ≡ Some s → IsSerial s
text_serial None s e = absurd cc
text_serial (Some t) s e = (serial_only t s e).1

pub chosen : (b : Bool) (o : Option ChannelSerial) (s : ChannelSerial) → cond b o None ≡ Some s → (b ≡ true) × (o ≡ Some s)
chosen true o s e = (refl, e)
chosen false o s e = absurd cc

pub held_parts : (name : List ℕ) (d : Data) (held : Held) → held_at name d ≡ Ok held → (name ≡ held.0) × IsHeld held
unfolding held_at
held_parts name d held e =
    let a = bind_ok (shaped fields.ChannelSerials (serial_under name d)) _ held e in
    let b = chosen (is_name name) (a_serial d) a.0 (shaped_ok fields.ChannelSerials (serial_under name d) a.0 a.1) in
    subst (λ x. (name ≡ x.0) × IsHeld x) (ok_is (name, a.0) held a.2) (refl, (name_fits name b.0, text_serial (as_str d) a.0 b.1))

serials_fit : (d : Data) (ss : List Held) → Ordered d → serials_in d ≡ Ok ss → Rise ss × All IsHeld ss
unfolding serials_in
serials_fit d ss ordered e =
    let a = bind_ok (required some_members fields.ChannelSerials d) _ ss e in
    let inside = ordered_required fields.ChannelSerials d a.0 ordered a.1 in
    (rises held_at (λ k v x h. (held_parts k v x h).0) a.0 ss a.2 inside, all_read held_at IsHeld (λ k v x o h. (held_parts k v x h).1) a.0 ss a.2 inside)

key_in_fits : (d : Data) (key : RecoveryKey) → Ordered d → key_in d ≡ Ok key → IsRecoveryKey key
unfolding key_in
key_in_fits d key ordered e =
    let a = bind_ok (required text fields.ConnectionKey d) _ key e in
    let b = bind_ok (required (whole_in 0 MAX_MESSAGE_SERIAL) fields.MsgSerial d) _ key a.2 in
    let c = bind_ok (serials_in d) _ key b.2 in
    let fit = serials_fit d c.0 ordered c.1 in
    subst IsRecoveryKey (ok_is (record { key = a.0; next = b.0; serials = c.0 }) key c.2) ((required_number 0 MAX_MESSAGE_SERIAL fields.MsgSerial d b.0 b.1).1, fit.0, fit.1)

read_fits : (r : Reads RecoveryKey) → ((key : RecoveryKey) → r ≡ Ok key → IsRecoveryKey key) → IfSome (if_read r) IsRecoveryKey
read_fits (Ok key) h = h key refl
read_fits (Err fault) h = tt

value_fits : (o : Option Data) → ((d : Data) → o ≡ Some d → Ordered d) → IfSome (value_key o) IsRecoveryKey
value_fits None ordered = tt
value_fits (Some d) ordered = read_fits (key_in d) (λ key e. key_in_fits d key (ordered d refl) e)

pub text_fits : (t : List ℕ) → IfSome (key_of t) IsRecoveryKey
unfolding key_of
text_fits t = value_fits (read t) (λ d e. ordered_read t d e)

pub found_fits : (t : List ℕ) (o : Option RecoveryKey) → o ≡ key_of t → IfSome o IsRecoveryKey
found_fits t o e = subst (λ x. IfSome x IsRecoveryKey) (sym e) (text_fits t)

pub key_fits : (t : List ℕ) (key : RecoveryKey) → key_of t ≡ Some key → IsRecoveryKey key
key_fits t key e = subst (λ x. IfSome x IsRecoveryKey) e (text_fits t)
