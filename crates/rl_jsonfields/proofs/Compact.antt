-- The compact text of a value is read as that value, where its numbers are whole and its members in order.
use Rattle.std.proofs.Common.{◌≡◌, ◌≤◌, ◌<◌, ℕ, ℤ, pos, negsuc, Bool, List, [], ◌∷◌, Option, Some, None, option_map, Ordering, Less, Equal, Greater, refl, sym, ap, ◌∙◌, arith}
use Rattle.std.specs.Prelude.{option_and_then, ⊤, IfSome, ◌^◌}
use Rattle.std.proofs.lemmas.Cmp.{nat_list_cmp_total}
use Rattle.std.specs.Ordering.{match_ordering, ordering_reverse}
use Rattle.json.specs.Json as json
use Rattle.json.specs.Token.{Token}
use Rattle.json.specs.Tree as tree
use Rattle.json.specs.Tree.{json_tokens}
use Rattle.json.specs.Lex.{tokens}
use Rattle.json.proofs.Printed.Tokens.{tokens-print}
use Rattle.json.proofs.Printed.Trees.{value-json_tokens, ArePrintable-json_tokens}
use Rattle.json.proofs.Printed.Decimals.{IsNumber-decimal, IsNumber-signed_decimal}
use Rattle.std.proofs.Common.{append-nil}
use Rattle.serde_json.specs.Data.{Num, unsigned, negative, float, Data, null, boolean, number, string, array, object, Items, no_items, item, Members, no_members, member, put, depth, items_depth, members_depth}
use Rattle.serde_json.specs.Read.{of_json, of_items, of_members, max_depth, read}
use Rattle.serde_json.specs.Written.{outline, items_outline, members_outline, compact_text}
use Rattle.serde_json.proofs.Numbers.{number_of-decimal, number_of-negative}
use Rattle.serde_json.proofs.Texts.{print-outline}
use Rattle.rl_jsonfields.specs.declared.names.Field.{Field}
use Rattle.rl_jsonfields.specs.Names.{spelled}
use Rattle.rl_jsonfields.specs.Order.{cmp, Before}
use Rattle.rl_jsonfields.specs.Texts.{with_some, num, integer, with_text, with_number, member_of_each}
use Rattle.rl_jsonfields.specs.Fields.{IsSigned}
use Rattle.std.specs.List.{All}
use Rattle.std.proofs.lemmas.List.Elements.{All-head, All-tail}

abbrev pub IsWhole : Num → Type 0
IsWhole (unsigned n) = n < 2 ^ 64
IsWhole (negative (pos n)) = ⊥
IsWhole (negative (negsuc n)) = n < 2 ^ 63
IsWhole (float x) = ⊥

-- at every level the numbers are whole and fit, and the members stand in order, each once
abbrev mutual
  pub Plain : Data → Type 0
  Plain null = ⊤
  Plain (boolean b) = ⊤
  Plain (number n) = IsWhole n
  Plain (string s) = ⊤
  Plain (array ds) = PlainItems ds
  Plain (object ms) = PlainMembers ms

  pub PlainItems : Items → Type 0
  PlainItems no_items = ⊤
  PlainItems (item d ds) = Plain d × PlainItems ds

  pub PlainMembers : Members → Type 0
  PlainMembers no_members = ⊤
  PlainMembers (member k d ms) = Before k ms × Plain d × PlainMembers ms

-- ---- what is written is plain

pub before_all : (k l : List ℕ) (ms : Members) → cmp k l ≡ Less → Before l ms → Before k ms
before_all k l no_members e h = tt
before_all k l (member m d ms) e h = (nat_list_cmp_total.trans k l m e h.0, before_all k l ms e h.1)

before_put_at : (o : Ordering) (j k l : List ℕ) (d e : Data) (ms rest : Members) → cmp j k ≡ Less → Before j (member l e ms) → Before j rest → Before j (match_ordering o (member k d (member l e ms)) (member l d ms) (member l e rest))
before_put_at Less j k l d e ms rest lt h r = (lt, h)
before_put_at Equal j k l d e ms rest lt h r = h
before_put_at Greater j k l d e ms rest lt h r = (h.0, r)

pub before_put : (j k : List ℕ) (d : Data) (ms : Members) → cmp j k ≡ Less → Before j ms → Before j (put k d ms)
before_put j k d no_members lt h = (lt, tt)
before_put j k d (member l e ms) lt h = before_put_at (cmp k l) j k l d e ms (put k d ms) lt h (before_put j k d ms lt h.1)

pub flipped : (k l : List ℕ) → cmp k l ≡ Greater → cmp l k ≡ Less
flipped k l e = nat_list_cmp_total.antisymm l k ∙ ap ordering_reverse e

turned : (k l : List ℕ) → cmp k l ≡ Less → cmp l k ≡ Greater
turned k l e = nat_list_cmp_total.antisymm l k ∙ ap ordering_reverse e

plain_put_at : (o : Ordering) (k l : List ℕ) (d e : Data) (ms rest : Members) → cmp k l ≡ o → Plain d → PlainMembers (member l e ms) → (cmp l k ≡ Less → Before l rest) → PlainMembers rest
    → PlainMembers (match_ordering o (member k d (member l e ms)) (member l d ms) (member l e rest))
plain_put_at Less k l d e ms rest is od h b r = ((is, before_all k l ms is h.0), od, h)
plain_put_at Equal k l d e ms rest is od h b r = (h.0, od, h.2)
plain_put_at Greater k l d e ms rest is od h b r = (b (flipped k l is), h.1, r)

pub put_plain : (k : List ℕ) (d : Data) (ms : Members) → Plain d → PlainMembers ms → PlainMembers (put k d ms)
put_plain k d no_members od h = (tt, od, tt)
put_plain k d (member l e ms) od h = plain_put_at (cmp k l) k l d e ms (put k d ms) refl od h (λ lt. before_put l k d ms lt h.0) (put_plain k d ms od h.2)

-- the same, in a form whose members can be found by unification
pub record Orderly (ms : Members) : Type 0 where
  pub plain : PlainMembers ms

pub nothing_orderly : Orderly no_members
nothing_orderly = record { plain = tt }

pub put_orderly : (k : List ℕ) (d : Data) (ms : Members) → Plain d → Orderly ms → Orderly (put k d ms)
put_orderly k d ms h p = record { plain = put_plain k d ms h p.plain }

pub number_orderly : (f : Field) (n : ℕ) (ms : Members) → n < 2 ^ 64 → Orderly ms → Orderly (put (spelled f) (num n) ms)
number_orderly f n ms h p = put_orderly (spelled f) (num n) ms h p

pub string_orderly : (f : Field) (s : List ℕ) (ms : Members) → Orderly ms → Orderly (put (spelled f) (string s) ms)
string_orderly f s ms p = put_orderly (spelled f) (string s) ms tt p

pub with_some_orderly : (f : Field) (o : Option Data) (ms : Members) → IfSome o Plain → Orderly ms → Orderly (with_some f o ms)
with_some_orderly f None ms h p = p
with_some_orderly f (Some d) ms h p = put_orderly (spelled f) d ms h p

pub with_text_orderly : (f : Field) (o : Option (List ℕ)) (ms : Members) → Orderly ms → Orderly (with_text f o ms)
with_text_orderly f None ms p = p
with_text_orderly f (Some s) ms p = string_orderly f s ms p

pub with_number_orderly : (f : Field) (o : Option ℕ) (ms : Members) → IfSome o (λ n. n < 2 ^ 64) → Orderly ms → Orderly (with_number f o ms)
with_number_orderly f None ms h p = p
with_number_orderly f (Some n) ms h p = number_orderly f n ms h p

pub integer_plain : (z : ℤ) → IsSigned z → Plain (integer z)
integer_plain (pos n) h = omega (arith, h)
integer_plain (negsuc n) h = h

pub integer_orderly : (f : Field) (z : ℤ) (ms : Members) → IsSigned z → Orderly ms → Orderly (put (spelled f) (integer z) ms)
integer_orderly f z ms h p = put_orderly (spelled f) (integer z) ms (integer_plain z h) p

pub boolean_orderly : (f : Field) (b : Bool) (ms : Members) → Orderly ms → Orderly (put (spelled f) (boolean b) ms)
boolean_orderly f b ms p = put_orderly (spelled f) (boolean b) ms tt p

-- the values of members with free keys, each plain
pub each_member_orderly : {A : Type 0} (key : A → List ℕ) (value : A → Data) (P : A → Type 0) (xs : List A) → ((x : A) → P x → Plain (value x)) → All P xs → Orderly (member_of_each key value xs)
unfolding member_of_each
each_member_orderly key value P [] h all = nothing_orderly
each_member_orderly key value P (x ∷ xs) h all = put_orderly (key x) (value x) _ (h x (All-head P x xs all)) (each_member_orderly key value P xs h (All-tail P x xs all))

-- ---- the outline is read as the value

abbrev joined : Members → Members → Members
joined no_members more = more
joined (member k d ms) more = member k d (joined ms more)

joined_nil : (ms : Members) → joined ms no_members ≡ ms
joined_nil no_members = refl
joined_nil (member k d ms) = ap (member k d) (joined_nil ms)

joined_push : (ms : Members) (k : List ℕ) (d : Data) (more : Members) → joined (joined ms (member k d no_members)) more ≡ joined ms (member k d more)
joined_push no_members k d more = refl
joined_push (member l e ms) k d more = ap (member l e) (joined_push ms k d more)

-- k is behind each key
abbrev Behind : List ℕ → Members → Type 0
Behind k no_members = ⊤
Behind k (member l e ms) = (cmp k l ≡ Greater) × Behind k ms

-- each key of ms is behind each of found
abbrev AllBehind : Members → Members → Type 0
AllBehind found no_members = ⊤
AllBehind found (member k d ms) = Behind k found × AllBehind found ms

put_last : (k : List ℕ) (d : Data) (found : Members) → Behind k found → put k d found ≡ joined found (member k d no_members)
put_last k d no_members h = refl
put_last k d (member l e found) h = rw (h.0) (ap (member l e) (put_last k d found h.1))

behind_push : (m k : List ℕ) (d : Data) (found : Members) → Behind m found → cmp m k ≡ Greater → Behind m (joined found (member k d no_members))
behind_push m k d no_members h g = (g, tt)
behind_push m k d (member l e found) h g = (h.0, behind_push m k d found h.1 g)

all_behind_push : (k : List ℕ) (d : Data) (found ms : Members) → AllBehind found ms → Before k ms → AllBehind (joined found (member k d no_members)) ms
all_behind_push k d found no_members h b = tt
all_behind_push k d found (member m e ms) h b = (behind_push m k d found h.0 (turned k m b.0), all_behind_push k d found ms h.1 b.1)

none_behind : (ms : Members) → AllBehind no_members ms
none_behind no_members = tt
none_behind (member k d ms) = (tt, none_behind ms)

number_outlined : (n : Num) → IsWhole n → of_json (outline (number n)) ≡ Some (number n)
number_outlined (unsigned n) h = ap (option_map number) (number_of-decimal n h)
number_outlined (negative (pos n)) h = absurd h
number_outlined (negative (negsuc n)) h = ap (option_map number) (number_of-negative n h)
number_outlined (float x) h = absurd h

mutual
  outlined : (d : Data) → Plain d → of_json (outline d) ≡ Some d
  outlined null h = refl
  outlined (boolean b) h = refl
  outlined (number n) h = number_outlined n h
  outlined (string s) h = refl
  outlined (array ds) h = ap (option_map array) (outlined_items ds h)
  outlined (object ms) h = ap (option_map object) (outlined_members ms no_members h (none_behind ms))

  outlined_items : (ds : Items) → PlainItems ds → of_items (items_outline ds) ≡ Some ds
  outlined_items no_items h = refl
  outlined_items (item d ds) h = rw (outlined d h.0, outlined_items ds h.1) refl

  outlined_members : (ms found : Members) → PlainMembers ms → AllBehind found ms → of_members (members_outline ms) found ≡ Some (joined found ms)
  outlined_members no_members found h b = ap Some (sym (joined_nil found))
  outlined_members (member k d ms) found h b =
      rw (outlined d h.1, put_last k d found b.0)
      (outlined_members ms (joined found (member k d no_members)) h.2 (all_behind_push k d found ms b.1 h.0) ∙ ap Some (joined_push found k d ms))

-- ---- its text

number_printed : (n : Num) → IsWhole n → tree.HasNumbers (outline (number n))
number_printed (unsigned n) h = IsNumber-decimal n h
number_printed (negative (pos n)) h = absurd h
number_printed (negative (negsuc n)) h = IsNumber-signed_decimal (negsuc n) h
number_printed (float x) h = absurd h

mutual
  printed : (d : Data) → Plain d → tree.HasNumbers (outline d)
  printed null h = tt
  printed (boolean b) h = tt
  printed (number n) h = number_printed n h
  printed (string s) h = tt
  printed (array ds) h = printed_items ds h
  printed (object ms) h = printed_members ms h

  printed_items : (ds : Items) → PlainItems ds → tree.ItemsHaveNumbers (items_outline ds)
  printed_items no_items h = tt
  printed_items (item d ds) h = (printed d h.0, printed_items ds h.1)

  printed_members : (ms : Members) → PlainMembers ms → tree.MembersHaveNumbers (members_outline ms)
  printed_members no_members h = tt
  printed_members (member k d ms) h = (printed d h.1, printed_members ms h.2)

mutual
  same_depth : (d : Data) → tree.depth (outline d) ≤ depth d
  same_depth null = omega arith
  same_depth (boolean b) = omega arith
  same_depth (number n) = omega arith
  same_depth (string s) = omega arith
  same_depth (array ds) = omega (arith, same_items_depth ds)
  same_depth (object ms) = omega (arith, same_members_depth ms)

  same_items_depth : (ds : Items) → tree.items_depth (items_outline ds) ≤ items_depth ds
  same_items_depth no_items = omega arith
  same_items_depth (item d ds) = omega (arith, same_depth d, same_items_depth ds)

  same_members_depth : (ms : Members) → tree.members_depth (members_outline ms) ≤ members_depth ms
  same_members_depth no_members = omega arith
  same_members_depth (member k d ms) = omega (arith, same_depth d, same_members_depth ms)

abbrev whole : Option (json.Json × List Token) → Option Data
whole o = option_and_then of_json (option_and_then (λ p. json.if_last p.0 p.1) o)

pub read_compact : (d : Data) → Plain d → depth d ≤ max_depth → read (compact_text d) ≡ Some d
read_compact d plain shallow =
    let j = outline d in
    let text : tokens (compact_text d) ≡ json_tokens j = ap tokens (sym (print-outline d)) ∙ tokens-print (json_tokens j) (ArePrintable-json_tokens j (printed d plain)) in
    ap whole (ap (json.value max_depth) (text ∙ sym (append-nil (json_tokens j))) ∙ value-json_tokens j max_depth [] (omega (arith, same_depth d, shallow))) ∙ outlined d plain
