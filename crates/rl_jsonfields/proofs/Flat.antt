-- A written value has no float, and nests little.
use Rattle.std.proofs.Common.{map, ◌≡◌, ℕ, ℤ, pos, negsuc, ◌≤◌, ◌+◌, ◌∷◌, [], List, Bool, true, false, ◌||◌, Option, Some, None, Ordering, Less, Equal, Greater, refl, arith}
use Rattle.std.specs.Prelude.{IfSome}
use Rattle.std.specs.Ordering.{nat_cmp, match_ordering}
use Rattle.std.specs.Cmp.Lexicographic.{slice_cmp}
use Rattle.serde_json.specs.Data.{Data, boolean, string, array, object, Items, no_items, item, Members, no_members, member, put, depth, items_depth, members_depth}
use Rattle.serde_json.specs.View.{items_of}
use Rattle.serde_json.specs.Written.{has_float, items_have_float, members_have_float}
use Rattle.rl_jsonfields.specs.declared.names.Field.{Field}
use Rattle.rl_jsonfields.specs.Names.{spelled}
use Rattle.rl_jsonfields.specs.Texts.{with_some, num, integer, with_text, with_number, member_of_each}

pub record Flat (n : ℕ) (d : Data) : Type 0 where
  pub no_float : has_float d ≡ false
  pub shallow : depth d ≤ n

pub record FlatMembers (n : ℕ) (ms : Members) : Type 0 where
  pub no_float : members_have_float ms ≡ false
  pub shallow : members_depth ms ≤ n

pub record FlatItems (n : ℕ) (ds : Items) : Type 0 where
  pub no_float : items_have_float ds ≡ false
  pub shallow : items_depth ds ≤ n

picks : (o : Ordering) (n : ℕ) (a b c : Members) → FlatMembers n a → FlatMembers n b → FlatMembers n c → FlatMembers n (match_ordering o a b c)
picks Less n a b c p q r = p
picks Equal n a b c p q r = q
picks Greater n a b c p q r = r

joins : (n : ℕ) (k : List ℕ) (d : Data) (ms : Members) → Flat n d → FlatMembers n ms → FlatMembers n (member k d ms)
joins n k d ms p q = record { no_float = rw (p.no_float) q.no_float; shallow = omega (arith, p.shallow, q.shallow) }

or_left : (a b : Bool) → (a || b) ≡ false → a ≡ false
or_left true b e = e
or_left false b e = refl

or_right : (a b : Bool) → (a || b) ≡ false → b ≡ false
or_right true b e = absurd cc
or_right false b e = e

first_of : (n : ℕ) (k : List ℕ) (d : Data) (ms : Members) → FlatMembers n (member k d ms) → Flat n d
first_of n k d ms p = record { no_float = or_left (has_float d) (members_have_float ms) p.no_float; shallow = omega (arith, p.shallow) }

rest_of : (n : ℕ) (k : List ℕ) (d : Data) (ms : Members) → FlatMembers n (member k d ms) → FlatMembers n ms
rest_of n k d ms p = record { no_float = or_right (has_float d) (members_have_float ms) p.no_float; shallow = omega (arith, p.shallow) }

pub put_flat : (n : ℕ) (k : List ℕ) (d : Data) (ms : Members) → Flat n d → FlatMembers n ms → FlatMembers n (put k d ms)
put_flat n k d no_members p q = joins n k d no_members p q
put_flat n k d (member l e ms) p q =
    let rest = rest_of n l e ms q in
    picks (slice_cmp nat_cmp k l) n _ _ _ (joins n k d (member l e ms) p q) (joins n l d ms p rest) (joins n l e (put k d ms) (first_of n l e ms q) (put_flat n k d ms p rest))

pub nothing : (n : ℕ) → FlatMembers n no_members
nothing n = record { no_float = refl; shallow = omega arith }

pub num_flat : (n m : ℕ) → Flat n (num m)
num_flat n m = record { no_float = refl; shallow = omega arith }

pub text_flat : (n : ℕ) (s : List ℕ) → Flat n (string s)
text_flat n s = record { no_float = refl; shallow = omega arith }

pub with_some_flat : (n : ℕ) (f : Field) (o : Option Data) (ms : Members) → IfSome o (Flat n) → FlatMembers n ms → FlatMembers n (with_some f o ms)
with_some_flat n f None ms h p = p
with_some_flat n f (Some d) ms h p = put_flat n (spelled f) d ms h p

pub with_text_flat : (n : ℕ) (f : Field) (o : Option (List ℕ)) (ms : Members) → FlatMembers n ms → FlatMembers n (with_text f o ms)
with_text_flat n f None ms p = p
with_text_flat n f (Some s) ms p = put_flat n (spelled f) (string s) ms (text_flat n s) p

pub with_number_flat : (n : ℕ) (f : Field) (o : Option ℕ) (ms : Members) → FlatMembers n ms → FlatMembers n (with_number f o ms)
with_number_flat n f None ms p = p
with_number_flat n f (Some m) ms p = put_flat n (spelled f) (num m) ms (num_flat n m) p

pub number_flat : (n : ℕ) (f : Field) (m : ℕ) (ms : Members) → FlatMembers n ms → FlatMembers n (put (spelled f) (num m) ms)
number_flat n f m ms p = put_flat n (spelled f) (num m) ms (num_flat n m) p

pub string_flat : (n : ℕ) (f : Field) (s : List ℕ) (ms : Members) → FlatMembers n ms → FlatMembers n (put (spelled f) (string s) ms)
string_flat n f s ms p = put_flat n (spelled f) (string s) ms (text_flat n s) p

pub object_flat : (n : ℕ) (ms : Members) → FlatMembers n ms → Flat (n + 1) (object ms)
object_flat n ms p = record { no_float = p.no_float; shallow = omega (arith, p.shallow) }

pub array_flat : (n : ℕ) (ds : Items) → FlatItems n ds → Flat (n + 1) (array ds)
array_flat n ds p = record { no_float = p.no_float; shallow = omega (arith, p.shallow) }

pub no_items_flat : (n : ℕ) → FlatItems n no_items
no_items_flat n = record { no_float = refl; shallow = omega arith }

pub item_flat : (n : ℕ) (d : Data) (ds : Items) → Flat n d → FlatItems n ds → FlatItems n (item d ds)
item_flat n d ds p q = record { no_float = rw (p.no_float) q.no_float; shallow = omega (arith, p.shallow, q.shallow) }

-- the values of a list, each flat
pub items_flat : {A : Type 0} (n : ℕ) (value : A → Data) (xs : List A) → ((x : A) → Flat n (value x)) → FlatItems n (items_of (map value xs))
items_flat n value [] h = no_items_flat n
items_flat n value (x ∷ xs) h = item_flat n (value x) _ (h x) (items_flat n value xs h)

pub deeper : (n m : ℕ) (d : Data) → n ≤ m → Flat n d → Flat m d
deeper n m d h p = record { no_float = p.no_float; shallow = omega (arith, h, p.shallow) }

pub integer_flat : (n : ℕ) (z : ℤ) → Flat n (integer z)
integer_flat n (pos m) = record { no_float = refl; shallow = omega arith }
integer_flat n (negsuc m) = record { no_float = refl; shallow = omega arith }

pub boolean_flat : (n : ℕ) (b : Bool) → Flat n (boolean b)
boolean_flat n b = record { no_float = refl; shallow = omega arith }

-- the values of members with free keys, each flat
pub each_member_flat : {A : Type 0} (n : ℕ) (key : A → List ℕ) (value : A → Data) (xs : List A) → ((x : A) → Flat n (value x)) → FlatMembers n (member_of_each key value xs)
unfolding member_of_each
each_member_flat n key value [] h = nothing n
each_member_flat n key value (x ∷ xs) h = put_flat n (key x) (value x) _ (h x) (each_member_flat n key value xs h)
