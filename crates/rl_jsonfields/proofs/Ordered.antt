-- The members of each object that was read come in the order of their keys, each once.
use Rattle.std.proofs.Common.{◌≡◌, ℕ, Ok, List, Option, Some, None, option_map, Ordering, Less, Equal, Greater, refl, subst}
use Rattle.std.specs.Prelude.{option_and_then, unwrap_or, IfSome, ⊤}
use Rattle.std.specs.Ordering.{match_ordering}
use Rattle.json.specs.Json as json
use Rattle.json.specs.Lex.{tokens}
use Rattle.serde_json.specs.Data.{Data, null, boolean, number, string, array, object, Items, no_items, item, Members, no_members, member, put}
use Rattle.serde_json.specs.Find.{get, get_member, as_object}
use Rattle.serde_json.specs.Read.{number_of, of_json, of_items, of_members, max_depth, read}
use Rattle.rl_jsonfields.proofs.Compact.{before_all, before_put, flipped}
use Rattle.rl_jsonfields.specs.declared.names.Field.{Field}
use Rattle.rl_jsonfields.specs.Names.{spelled}
use Rattle.rl_jsonfields.specs.Fields.{present, field, an_object, some_members, any_items, not_empty, some_items, shaped, required, optional}
use Rattle.rl_jsonfields.proofs.Shapes.{shaped_ok, required_where, optional_where}
use Rattle.rl_jsonfields.specs.Order.{cmp, Before, Ordered, ItemsOrdered, MembersOrdered}

ordered_put_at : (o : Ordering) (k l : List ℕ) (d e : Data) (ms rest : Members) → cmp k l ≡ o → Ordered d → MembersOrdered (member l e ms) → (cmp l k ≡ Less → Before l rest) → MembersOrdered rest
    → MembersOrdered (match_ordering o (member k d (member l e ms)) (member l d ms) (member l e rest))
ordered_put_at Less k l d e ms rest is od h b r = ((is, before_all k l ms is h.0), od, h)
ordered_put_at Equal k l d e ms rest is od h b r = (h.0, od, h.2)
ordered_put_at Greater k l d e ms rest is od h b r = (b (flipped k l is), h.1, r)

pub ordered_put : (k : List ℕ) (d : Data) (ms : Members) → Ordered d → MembersOrdered ms → MembersOrdered (put k d ms)
ordered_put k d no_members od h = (tt, od, tt)
ordered_put k d (member l e ms) od h = ordered_put_at (cmp k l) k l d e ms (put k d ms) refl od h (λ lt. before_put l k d ms lt h.0) (ordered_put k d ms od h.2)

abbrev IfAny : {A : Type 0} → (A → Type 0) → Option A → Type 0
IfAny P None = ⊤
IfAny P (Some a) = P a

then_any : {A B : Type 0} (P : A → Type 0) (Q : B → Type 0) (f : A → Option B) (o : Option A) → IfAny P o → ((a : A) → P a → IfAny Q (f a)) → IfAny Q (option_and_then f o)
then_any P Q f None h k = tt
then_any P Q f (Some a) h k = k a h

map_any : {A B : Type 0} (P : A → Type 0) (Q : B → Type 0) (f : A → B) (o : Option A) → IfAny P o → ((a : A) → P a → Q (f a)) → IfAny Q (option_map f o)
map_any P Q f None h k = tt
map_any P Q f (Some a) h k = k a h

plain : {A : Type 0} (o : Option A) → IfAny (λ _. ⊤) o
plain None = tt
plain (Some a) = tt

mutual
  ordered_json : (j : json.Json) → IfAny Ordered (of_json j)
  ordered_json json.null = tt
  ordered_json (json.boolean b) = tt
  ordered_json (json.number s) = map_any (λ _. ⊤) Ordered number (number_of s) (plain (number_of s)) (λ n h. tt)
  ordered_json (json.string s) = tt
  ordered_json (json.array js) = map_any ItemsOrdered Ordered array (of_items js) (ordered_items js) (λ ds h. h)
  ordered_json (json.object ms) = map_any MembersOrdered Ordered object (of_members ms no_members) (ordered_members ms no_members tt) (λ ds h. h)

  ordered_items : (js : json.Items) → IfAny ItemsOrdered (of_items js)
  ordered_items json.no_items = tt
  ordered_items (json.item j js) = then_any Ordered ItemsOrdered _ (of_json j) (ordered_json j) (λ d h. map_any ItemsOrdered ItemsOrdered (item d) (of_items js) (ordered_items js) (λ ds g. (h, g)))

  ordered_members : (ms : json.Members) (found : Members) → MembersOrdered found → IfAny MembersOrdered (of_members ms found)
  ordered_members json.no_members found h = h
  ordered_members (json.member k j ms) found h = then_any Ordered MembersOrdered _ (of_json j) (ordered_json j) (λ d g. ordered_members ms (put k d found) (ordered_put k d found g h))

all_json : (o : Option json.Json) → IfAny (λ _. ⊤) o
all_json None = tt
all_json (Some j) = tt

-- what was read is ordered
pub ordered_read : (text : List ℕ) (d : Data) → read text ≡ Some d → Ordered d
ordered_read text d e = subst (IfAny Ordered) e (then_any (λ _. ⊤) Ordered of_json (option_and_then (λ p. json.if_last p.0 p.1) (json.value max_depth (tokens text))) (all_json _) (λ j h. ordered_json j))

-- so is each part of it
some_is : (x y : Data) → Some x ≡ Some y → x ≡ y
some_is x y e = cc

ordered_member_at : (o : Ordering) (rest : Option Data) (x d : Data) → Ordered x → (rest ≡ Some d → Ordered d) → match_ordering o rest (Some x) rest ≡ Some d → Ordered d
ordered_member_at Less rest x d hx h e = h e
ordered_member_at Equal rest x d hx h e = subst Ordered (some_is x d e) hx
ordered_member_at Greater rest x d hx h e = h e

pub ordered_member : (k : List ℕ) (ms : Members) (d : Data) → MembersOrdered ms → get_member k ms ≡ Some d → Ordered d
ordered_member k no_members d h e = absurd cc
ordered_member k (member l x ms) d h e = ordered_member_at (cmp k l) (get_member k ms) x d h.1 (λ g. ordered_member k ms d h.2 g) e

pub ordered_object : (d : Data) (ms : Members) → Ordered d → as_object d ≡ Some ms → MembersOrdered ms
ordered_object null ms h e = absurd cc
ordered_object (boolean b) ms h e = absurd cc
ordered_object (number n) ms h e = absurd cc
ordered_object (string s) ms h e = absurd cc
ordered_object (array ds) ms h e = absurd cc
ordered_object (object ns) ms h e = let k : ns ≡ ms = cc in subst MembersOrdered k h

-- a key before all others goes first
pub put_first : (k : List ℕ) (d : Data) (ms : Members) → Before k ms → put k d ms ≡ member k d ms
put_first k d no_members h = refl
put_first k d (member l e ms) h = rw (h.0) refl

-- ---- so is what stands at a field

ordered_get : (k : List ℕ) (d v : Data) → Ordered d → get k d ≡ Some v → Ordered v
ordered_get k null v h e = absurd cc
ordered_get k (boolean b) v h e = absurd cc
ordered_get k (number n) v h e = absurd cc
ordered_get k (string s) v h e = absurd cc
ordered_get k (array ds) v h e = absurd cc
ordered_get k (object ms) v h e = ordered_member k ms v h e

ordered_present : (d v : Data) → Ordered d → present d ≡ Some v → Ordered v
ordered_present null v h e = absurd cc
ordered_present (boolean b) v h e = subst Ordered (some_is (boolean b) v e) h
ordered_present (number n) v h e = subst Ordered (some_is (number n) v e) h
ordered_present (string s) v h e = subst Ordered (some_is (string s) v e) h
ordered_present (array ds) v h e = subst Ordered (some_is (array ds) v e) h
ordered_present (object ms) v h e = subst Ordered (some_is (object ms) v e) h

there : (o : Option Data) (v : Data) → ((x : Data) → o ≡ Some x → Ordered x) → option_and_then present o ≡ Some v → Ordered v
there None v h e = absurd cc
there (Some x) v h e = ordered_present x v (h x refl) e

ordered_found : (f : Field) (d v : Data) → Ordered d → field f d ≡ Some v → Ordered v
ordered_found f d v h e = there (get (spelled f) d) v (λ x k. ordered_get (spelled f) d x h k) e

pub ordered_an_object : (d o : Data) → Ordered d → an_object d ≡ Some o → Ordered o
ordered_an_object null o h e = absurd cc
ordered_an_object (boolean b) o h e = absurd cc
ordered_an_object (number n) o h e = absurd cc
ordered_an_object (string s) o h e = absurd cc
ordered_an_object (array ds) o h e = absurd cc
ordered_an_object (object ms) o h e = subst Ordered (some_is (object ms) o e) h

pub ordered_shaped : (f : Field) (d o : Data) → Ordered d → shaped f (an_object d) ≡ Ok o → Ordered o
ordered_shaped f d o h e = ordered_an_object d o h (shaped_ok f (an_object d) o e)

pub ordered_field : (f : Field) (d o : Data) → Ordered d → required an_object f d ≡ Ok o → Ordered o
ordered_field f d o h e =
    let a = required_where an_object f d o e in
    ordered_an_object a.0 o (ordered_found f d a.0 h a.1) a.2

each_some : {A : Type 0} (P Q : A → Type 0) (o : Option A) → ((x : A) → P x → Q x) → IfSome o P → IfSome o Q
each_some P Q None k h = tt
each_some P Q (Some x) k h = k x h

pub ordered_optional : (f : Field) (d : Data) (o : Option Data) → Ordered d → optional an_object f d ≡ Ok o → IfSome o Ordered
ordered_optional f d o h e =
    each_some (λ y. (v : Data) × (field f d ≡ Some v) × (an_object v ≡ Some y)) Ordered o (λ y a. ordered_an_object a.0 y (ordered_found f d a.0 h a.1) a.2) (optional_where an_object f d o e)

pub ordered_required : (f : Field) (d : Data) (ms : Members) → Ordered d → required some_members f d ≡ Ok ms → MembersOrdered ms
ordered_required f d ms h e =
    let a = required_where some_members f d ms e in
    ordered_object a.0 ms (ordered_found f d a.0 h a.1) a.2

or_none : (o : Option Members) → IfSome o MembersOrdered → MembersOrdered (unwrap_or o no_members)
or_none None h = tt
or_none (Some ms) h = h

pub ordered_members_at : (f : Field) (d : Data) (o : Option Members) → Ordered d → optional some_members f d ≡ Ok o → MembersOrdered (unwrap_or o no_members)
ordered_members_at f d o h e =
    or_none o (each_some (λ ms. (v : Data) × (field f d ≡ Some v) × (some_members v ≡ Some ms)) MembersOrdered o (λ ms a. ordered_object a.0 ms (ordered_found f d a.0 h a.1) a.2) (optional_where some_members f d o e))

items_same : (x y : Items) → Some x ≡ Some y → x ≡ y
items_same x y e = cc

-- the items of a list
pub ordered_items_at : (f : Field) (d : Data) (ds : Items) → Ordered d → required some_items f d ≡ Ok ds → ItemsOrdered ds
ordered_items_at f d ds h e =
    let a = required_where some_items f d ds e in
    items_in a.0 ds (ordered_found f d a.0 h a.1) a.2
  where
    full : (es ds : Items) → ItemsOrdered es → not_empty es ≡ Some ds → ItemsOrdered ds
    full no_items ds h e = absurd cc
    full (item x xs) ds h e = subst ItemsOrdered (items_same (item x xs) ds e) h

    items_in : (v : Data) (ds : Items) → Ordered v → some_items v ≡ Some ds → ItemsOrdered ds
    items_in null ds h e = absurd cc
    items_in (boolean b) ds h e = absurd cc
    items_in (number n) ds h e = absurd cc
    items_in (string s) ds h e = absurd cc
    items_in (array es) ds h e = full es ds h e
    items_in (object ms) ds h e = absurd cc

any_in : (v : Data) (ds : Items) → Ordered v → any_items v ≡ Some ds → ItemsOrdered ds
any_in null ds h e = absurd cc
any_in (boolean b) ds h e = absurd cc
any_in (number n) ds h e = absurd cc
any_in (string s) ds h e = absurd cc
any_in (array es) ds h e = subst ItemsOrdered (items_same es ds e) h
any_in (object ms) ds h e = absurd cc

or_no_items : (o : Option Items) → IfSome o ItemsOrdered → ItemsOrdered (unwrap_or o no_items)
or_no_items None h = tt
or_no_items (Some ds) h = h

pub ordered_list_at : (f : Field) (d : Data) (o : Option Items) → Ordered d → optional any_items f d ≡ Ok o → ItemsOrdered (unwrap_or o no_items)
ordered_list_at f d o h e =
    or_no_items o (each_some (λ ds. (v : Data) × (field f d ≡ Some v) × (any_items v ≡ Some ds)) ItemsOrdered o (λ ds a. any_in a.0 ds (ordered_found f d a.0 h a.1) a.2) (optional_where any_items f d o e))
