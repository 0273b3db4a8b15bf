-- Ids, serials and bytes of a base64 text: what is read is in its form, and what is in its form is read again.
use Rattle.std.proofs.Common.{◌≡◌, ℕ, zero, suc, Bool, true, false, cond, List, [], ◌∷◌, Option, Some, None, refl, subst, ltb, lt-ltb, arith}
use Rattle.std.proofs.lemmas.Bool.{ltb-true}
use Rattle.std.specs.Prelude.{◌&&◌, option_and_then}
use Rattle.std.specs.Str.{bytes_eq}
use Rattle.base64.specs.Engines.{standard}
use Rattle.base64.specs.GeneralPurpose.{IsBytes, decoded_of, encode_of}
use Rattle.base64.proofs.EngineFacts.{decode_of-encode_of}
use Rattle.rl_ids.specs.Objects.{object_id_text, is_object_id, IsObjectId, object_id_spelled, object_id_of, op_serial_text, is_op_serial, IsOpSerial, op_serial_spelled, op_serial_of}
use Rattle.rl_ids.specs.declared.objects.ObjectId.{ObjectId}
use Rattle.rl_ids.specs.declared.serials.OpSerial.{OpSerial}
use Rattle.rl_ids.proofs.ObjectTexts.{object_id_back, op_serial_back}
use Rattle.rl_wireobj.specs.Values.{are_bytes, if_bytes, bytes_of}

-- a candidate that both tests let through
passed : {A : Type 0} (a b : Bool) (x y : A) → cond (a && b) (Some x) None ≡ Some y → (a ≡ true) × (x ≡ y)
passed true true x y e = (refl, cc e)
passed true false x y e = absurd cc
passed false b x y e = absurd cc

pub id_only : (t : List ℕ) (id : ObjectId) → object_id_of t ≡ Some id → IsObjectId id
unfolding object_id_of
id_only t id e =
    let p = passed (is_object_id (object_id_spelled t)) (bytes_eq (object_id_text (object_id_spelled t)) t) (object_id_spelled t) id e in
    subst IsObjectId p.1 p.0

pub serial_only : (t : List ℕ) (s : OpSerial) → op_serial_of t ≡ Some s → IsOpSerial s
unfolding op_serial_of
serial_only t s e =
    let p = passed (is_op_serial (op_serial_spelled t)) (bytes_eq (op_serial_text (op_serial_spelled t)) t) (op_serial_spelled t) s e in
    subst IsOpSerial p.1 p.0

pub id_again : (id : ObjectId) → IsObjectId id → object_id_of (object_id_text id) ≡ Some id
id_again id h = object_id_back id (object_id_text id) h refl

pub serial_again : (s : OpSerial) → IsOpSerial s → op_serial_of (op_serial_text s) ≡ Some s
serial_again s h = op_serial_back s (op_serial_text s) h refl

-- numbers that are bytes pass the test, and what passes it is bytes
pub all_bytes : (bytes : List ℕ) → IsBytes bytes → are_bytes bytes ≡ true
all_bytes [] h = refl
all_bytes (b ∷ bytes) h = rw (lt-ltb b 256 (h 0)) (all_bytes bytes (λ i. h (suc i)))

first_true : (a b : Bool) → (a && b) ≡ true → a ≡ true
first_true true b h = refl
first_true false b h = absurd cc

second_true : (a b : Bool) → (a && b) ≡ true → b ≡ true
second_true true b h = h
second_true false b h = absurd cc

are_all : (bytes : List ℕ) → are_bytes bytes ≡ true → IsBytes bytes
are_all [] h i = omega arith
are_all (b ∷ bytes) h zero = ltb-true b 256 (first_true (ltb b 256) (are_bytes bytes) h)
are_all (b ∷ bytes) h (suc i) = are_all bytes (second_true (ltb b 256) (are_bytes bytes) h) i

tested : (b : Bool) (x y : List ℕ) → cond b (Some x) None ≡ Some y → (b ≡ true) × (x ≡ y)
tested true x y e = (refl, cc e)
tested false x y e = absurd cc

decoded_only : (o : Option (List ℕ)) (bytes : List ℕ) → option_and_then if_bytes o ≡ Some bytes → IsBytes bytes
decoded_only None bytes e = absurd cc
decoded_only (Some x) bytes e =
    let p = tested (are_bytes x) x bytes e in
    subst IsBytes p.1 (are_all x p.0)

pub bytes_only : (t bytes : List ℕ) → bytes_of t ≡ Some bytes → IsBytes bytes
bytes_only t bytes e = decoded_only (decoded_of standard t) bytes e

pub bytes_again : (bytes : List ℕ) → IsBytes bytes → bytes_of (encode_of standard bytes) ≡ Some bytes
unfolding decoded_of
bytes_again bytes h = rw (decode_of-encode_of standard bytes refl h, all_bytes bytes h) refl
