-- How long the compact text of a value can be: JSON writes each byte of a text with at most six.
use Rattle.std.proofs.Common.{◌≡◌, refl, ◌≤◌, ◌+◌, ◌*◌, ℕ, suc, pos, negsuc, ℤ, Bool, true, false, cond, bytes_eq, List, [], ◌∷◌, ◌++◌, length, Option, Some, None, Ordering, Less, Equal, Greater, arith, length-append}
use Rattle.std.specs.Prelude.{nat_lt}
use Rattle.std.proofs.lemmas.Fmt.{length-decimal-le}
use Rattle.std.specs.Cmp.Lexicographic.{slice_cmp}
use Rattle.std.specs.Ordering.{nat_cmp, match_ordering}
use Rattle.json.specs.Print.{escape_letter, escape_byte, escape, quoted}
use Rattle.serde_json.specs.Data.{Num, unsigned, negative, float, Data, null, boolean, number, string, array, object, Items, no_items, item, Members, no_members, member, put}
use Rattle.serde_json.specs.Written.{number_text, comma_if, compact_text, items_text, members_text}
use Rattle.rl_types.specs.Weight.{option_len}
use Rattle.rl_jsonfields.specs.declared.names.Field.{Field}
use Rattle.rl_jsonfields.specs.declared.names.Field.TheVariants as fields
use Rattle.rl_jsonfields.specs.Names.{spelled}
use Rattle.rl_jsonfields.specs.Texts.{num, integer, with_text, with_number, text_unless}
use Rattle.rl_jsonfields.proofs.Compact.{IsWhole, Plain, PlainItems, PlainMembers}

-- ---- bounds

abbrev mutual
  pub bound : Data → ℕ
  bound null = 4
  bound (boolean b) = 5
  bound (number n) = 20
  bound (string s) = 6 * length s + 2
  bound (array ds) = items_bound ds + 1
  bound (object ms) = members_bound ms + 1

  pub items_bound : Items → ℕ
  items_bound no_items = 1
  items_bound (item d ds) = bound d + items_bound ds + 1

  -- a name as it is written, a colon and a comma
  pub members_bound : Members → ℕ
  members_bound no_members = 1
  members_bound (member k d ms) = length (quoted k) + 2 + bound d + members_bound ms

-- ---- texts

six : (a b : Bool) (p q r x : ℕ) → length (cond a (92 ∷ p ∷ []) (cond b (92 ∷ 117 ∷ 48 ∷ 48 ∷ q ∷ r ∷ []) (x ∷ []))) ≤ 6
six true b p q r x = omega arith
six false true p q r x = omega arith
six false false p q r x = omega arith

escaped_byte : (x : ℕ) → length (escape_byte x) ≤ 6
unfolding escape_byte
escaped_byte x = six (nat_lt 0 (escape_letter x)) (nat_lt x 32) _ _ _ x

escaped : (s : List ℕ) → length (escape s) ≤ 6 * length s
escaped [] = omega arith
escaped (x ∷ s) = omega (arith, escaped_byte x, escaped s, length-append (escape_byte x) (escape s))

quoted_length : (s : List ℕ) → length (quoted s) ≤ 6 * length s + 2
quoted_length s = omega (arith, escaped s, length-append (escape s) (34 ∷ []))

number_length : (n : Num) → IsWhole n → length (number_text n) ≤ 20
number_length (unsigned n) h = length-decimal-le 20 n (omega arith) (omega (arith, h)) h
number_length (negative (pos n)) h = absurd h
number_length (negative (negsuc n)) h = omega (arith, length-decimal-le 19 (suc n) (omega arith) (omega (arith, h)) (omega (arith, h)))
number_length (float x) h = absurd h

boolean_length : (b : Bool) → length (compact_text (boolean b)) ≤ 5
boolean_length true = omega arith
boolean_length false = omega arith

comma_length : (b : Bool) → length (comma_if b) ≤ 1
comma_length true = omega arith
comma_length false = omega arith

mutual
  pub text_length : (d : Data) → Plain d → length (compact_text d) ≤ bound d
  text_length null h = omega arith
  text_length (boolean b) h = boolean_length b
  text_length (number n) h = number_length n h
  text_length (string s) h = quoted_length s
  text_length (array ds) h = omega (arith, items_length false ds h)
  text_length (object ms) h = omega (arith, members_length false ms h)

  items_length : (later : Bool) (ds : Items) → PlainItems ds → length (items_text later ds) ≤ items_bound ds
  items_length later no_items h = omega arith
  items_length later (item d ds) h =
      omega (arith, comma_length later, text_length d h.0, items_length true ds h.1, length-append (compact_text d) (items_text true ds), length-append (comma_if later) (compact_text d ++ items_text true ds))

  members_length : (later : Bool) (ms : Members) → PlainMembers ms → length (members_text later ms) ≤ members_bound ms
  members_length later no_members h = omega arith
  members_length later (member k d ms) h =
      omega (arith, comma_length later, text_length d h.1, members_length true ms h.2, length-append (compact_text d) (members_text true ms), length-append (quoted k) (58 ∷ (compact_text d ++ members_text true ms)), length-append (comma_if later) (quoted k ++ 58 ∷ (compact_text d ++ members_text true ms)))

-- ---- members that are put

put_at : (o : Ordering) (k l : List ℕ) (d e : Data) (ms rest : Members) → members_bound rest ≤ length (quoted k) + 2 + bound d + members_bound ms
    → members_bound (match_ordering o (member k d (member l e ms)) (member l d ms) (member l e rest)) ≤ length (quoted k) + 2 + bound d + members_bound (member l e ms)
put_at Less k l d e ms rest h = omega arith
put_at Equal k l d e ms rest h = omega arith
put_at Greater k l d e ms rest h = omega (arith, h)

pub put_bound : (k : List ℕ) (d : Data) (ms : Members) → members_bound (put k d ms) ≤ length (quoted k) + 2 + bound d + members_bound ms
put_bound k d no_members = omega arith
put_bound k d (member l e ms) = put_at (slice_cmp nat_cmp k l) k l d e ms (put k d ms) (put_bound k d ms)

-- ---- fields

-- no name has a character that is written otherwise
pub name_cost : (f : Field) → length (quoted (spelled f)) ≡ length (spelled f) + 2
unfolding spelled escape_byte
name_cost fields.Ack = refl
name_cost fields.Action = refl
name_cost fields.Amount = refl
name_cost fields.Boolean = refl
name_cost fields.Bytes = refl
name_cost fields.Channel = refl
name_cost fields.ChannelSerial = refl
name_cost fields.ChannelSerials = refl
name_cost fields.ClientId = refl
name_cost fields.Code = refl
name_cost fields.ConnectionDetails = refl
name_cost fields.ConnectionId = refl
name_cost fields.ConnectionKey = refl
name_cost fields.ConnectionStateTtl = refl
name_cost fields.Count = refl
name_cost fields.Counter = refl
name_cost fields.CounterOp = refl
name_cost fields.Created = refl
name_cost fields.Data = refl
name_cost fields.Encoding = refl
name_cost fields.Entries = refl
name_cost fields.Error = refl
name_cost fields.Flags = refl
name_cost fields.From = refl
name_cost fields.Id = refl
name_cost fields.Key = refl
name_cost fields.Map = refl
name_cost fields.MapOp = refl
name_cost fields.MaxIdleInterval = refl
name_cost fields.MaxMessageSize = refl
name_cost fields.Message = refl
name_cost fields.Messages = refl
name_cost fields.MsgSerial = refl
name_cost fields.Name = refl
name_cost fields.Number = refl
name_cost fields.Object = refl
name_cost fields.ObjectId = refl
name_cost fields.Operation = refl
name_cost fields.Params = refl
name_cost fields.Presence = refl
name_cost fields.Semantics = refl
name_cost fields.Serial = refl
name_cost fields.SiteCode = refl
name_cost fields.SiteTimeserials = refl
name_cost fields.State = refl
name_cost fields.StatusCode = refl
name_cost fields.String = refl
name_cost fields.Timeserial = refl
name_cost fields.Timestamp = refl
name_cost fields.Tombstone = refl

name_length : (f : Field) → length (spelled f) ≤ 18
unfolding spelled
name_length fields.Ack = omega arith
name_length fields.Action = omega arith
name_length fields.Amount = omega arith
name_length fields.Boolean = omega arith
name_length fields.Bytes = omega arith
name_length fields.Channel = omega arith
name_length fields.ChannelSerial = omega arith
name_length fields.ChannelSerials = omega arith
name_length fields.ClientId = omega arith
name_length fields.Code = omega arith
name_length fields.ConnectionDetails = omega arith
name_length fields.ConnectionId = omega arith
name_length fields.ConnectionKey = omega arith
name_length fields.ConnectionStateTtl = omega arith
name_length fields.Count = omega arith
name_length fields.Counter = omega arith
name_length fields.CounterOp = omega arith
name_length fields.Created = omega arith
name_length fields.Data = omega arith
name_length fields.Encoding = omega arith
name_length fields.Entries = omega arith
name_length fields.Error = omega arith
name_length fields.Flags = omega arith
name_length fields.From = omega arith
name_length fields.Id = omega arith
name_length fields.Key = omega arith
name_length fields.Map = omega arith
name_length fields.MapOp = omega arith
name_length fields.MaxIdleInterval = omega arith
name_length fields.MaxMessageSize = omega arith
name_length fields.Message = omega arith
name_length fields.Messages = omega arith
name_length fields.MsgSerial = omega arith
name_length fields.Name = omega arith
name_length fields.Number = omega arith
name_length fields.Object = omega arith
name_length fields.ObjectId = omega arith
name_length fields.Operation = omega arith
name_length fields.Params = omega arith
name_length fields.Presence = omega arith
name_length fields.Semantics = omega arith
name_length fields.Serial = omega arith
name_length fields.SiteCode = omega arith
name_length fields.SiteTimeserials = omega arith
name_length fields.State = omega arith
name_length fields.StatusCode = omega arith
name_length fields.String = omega arith
name_length fields.Timeserial = omega arith
name_length fields.Timestamp = omega arith
name_length fields.Tombstone = omega arith

-- a text, and a number, at a field
pub text_field_bound : (f : Field) (s : List ℕ) (ms : Members) → members_bound (put (spelled f) (string s) ms) ≤ 6 * length s + 120 + members_bound ms
text_field_bound f s ms = omega (arith, name_length f, name_cost f, put_bound (spelled f) (string s) ms)

pub number_field_bound : (f : Field) (n : ℕ) (ms : Members) → members_bound (put (spelled f) (num n) ms) ≤ 140 + members_bound ms
number_field_bound f n ms = omega (arith, name_length f, name_cost f, put_bound (spelled f) (num n) ms)

pub value_field_bound : (f : Field) (d : Data) (ms : Members) → members_bound (put (spelled f) d ms) ≤ bound d + 120 + members_bound ms
value_field_bound f d ms = omega (arith, name_length f, name_cost f, put_bound (spelled f) d ms)

pub some_text_bound : (f : Field) (o : Option (List ℕ)) (ms : Members) → members_bound (with_text f o ms) ≤ 6 * option_len o + 120 + members_bound ms
some_text_bound f None ms = omega arith
some_text_bound f (Some s) ms = text_field_bound f s ms

pub some_number_bound : (f : Field) (o : Option ℕ) (ms : Members) → members_bound (with_number f o ms) ≤ 140 + members_bound ms
some_number_bound f None ms = omega arith
some_number_bound f (Some n) ms = number_field_bound f n ms

unless_length : (b : Bool) (s : List ℕ) → option_len (cond b None (Some s)) ≤ length s
unless_length true s = omega arith
unless_length false s = omega arith

pub text_unless_length : (t s : List ℕ) → option_len (text_unless t s) ≤ length s
text_unless_length t s = unless_length (bytes_eq s t) s

pub integer_field_bound : (f : Field) (z : ℤ) (ms : Members) → members_bound (put (spelled f) (integer z) ms) ≤ 140 + members_bound ms
integer_field_bound f z ms = omega (arith, name_length f, name_cost f, put_bound (spelled f) (integer z) ms)

pub boolean_field_bound : (f : Field) (b : Bool) (ms : Members) → members_bound (put (spelled f) (boolean b) ms) ≤ 140 + members_bound ms
boolean_field_bound f b ms = omega (arith, name_length f, name_cost f, put_bound (spelled f) (boolean b) ms)

-- the same, with the name's own length
pub value_named_bound : (f : Field) (d : Data) (ms : Members) → members_bound (put (spelled f) d ms) ≤ length (spelled f) + 4 + bound d + members_bound ms
value_named_bound f d ms = omega (arith, name_cost f, put_bound (spelled f) d ms)

-- and with a free name
pub each_bound : (k : List ℕ) (d : Data) (ms : Members) → members_bound (put k d ms) ≤ 6 * length k + 4 + bound d + members_bound ms
each_bound k d ms = omega (arith, quoted_length k, put_bound k d ms)
