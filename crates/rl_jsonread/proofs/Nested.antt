-- The turns of the loops over items and members.
use Rattle.std.proofs.Common.{◌≡◌, ℕ, ◌-◌, ◌+◌, ◌<◌, ◌≤◌, true, List, [], ◌∷◌, ◌++◌, length, drop, Option, Some, refl, sym, ap, ◌∙◌, subst, arith, String, Global, string_bytes, string_cmp}
use Rattle.json.specs.Token.{Token}
use Rattle.json.specs.Lex.{lex, between, token, colon, Place, fresh, after_value, after_comma, may_begin, punctuate}
use Rattle.json.specs.Json.{parse_map, after_end_array, read_key, value, items, members}
use Rattle.json.specs.Token as tokens
use Rattle.json.proofs.Grammar.{read_key-shorter}
use Rattle.serde_json.specs.Data.{Data, Items, no_items, Members, no_members, put}
use Rattle.serde_json.specs.Read.{of_json, of_items, of_members, converted}
use Rattle.serde_json.specs.View.{view, items_view, members_view}
use Rattle.serde_json.specs.declared.value.Value.{Value}
use Rattle.std.specs.BTreeMap.{insert_entry}
use Rattle.serde_json.proofs.Views.{Entry, members_view-insert_entry}
use Rattle.rl_jsonread.proofs.Reading.{items_before, items_before-no_items, one_more_item, none_before, item_read, items_over, member_read, members_over}
use Rattle.rl_jsonread.specs.Places.{IsByteAt, tokens_at, IsValueAt, AreItemsAt, AreMembersAt}
use Rattle.rl_jsonread.proofs.Begins.{takes_some, no_end, key_read}

-- ---- the byte after a value

comma_next : (d : List ℕ) (at : ℕ) → IsByteAt d at 44 → tokens_at after_value d at ≡ tokens_at after_comma d (at + 1)
unfolding lex punctuate
comma_next d at h = ap (λ t. punctuate after_value (lex between t)) h.rest

bracket_next : (d : List ℕ) (at : ℕ) → IsByteAt d at 93 → tokens_at after_value d at ≡ tokens.end_array ∷ tokens_at after_value d (at + 1)
unfolding lex punctuate
bracket_next d at h = ap (λ t. punctuate after_value (lex between t)) h.rest

bracket_first : (d : List ℕ) (at : ℕ) → IsByteAt d at 93 → tokens_at fresh d at ≡ tokens.end_array ∷ tokens_at after_value d (at + 1)
unfolding lex punctuate
bracket_first d at h = ap (λ t. punctuate fresh (lex between t)) h.rest

brace_next : (d : List ℕ) (at : ℕ) → IsByteAt d at 125 → tokens_at after_value d at ≡ tokens.end_object ∷ tokens_at after_value d (at + 1)
unfolding lex punctuate
brace_next d at h = ap (λ t. punctuate after_value (lex between t)) h.rest

brace_first : (d : List ℕ) (at : ℕ) → IsByteAt d at 125 → tokens_at fresh d at ≡ tokens.end_object ∷ tokens_at after_value d (at + 1)
unfolding lex punctuate
brace_first d at h = ap (λ t. punctuate fresh (lex between t)) h.rest

module _ (depth : ℕ) (d : List ℕ) (from : ℕ) where
  -- ---- items

  abbrev pub all_items : Option (Items × List Token)
  all_items = converted of_items (items (value depth) (length (tokens_at fresh d from)) (tokens_at fresh d from))

  -- what was found stands before what is read from the tokens ts, of which there are at most n
  pub record ItemsLeft (found : List Value) (ts : List Token) (n : ℕ) : Type 0 where
    pub enough : length ts ≤ n
    pub same : all_items ≡ parse_map (items_before found) (converted of_items (items (value depth) n ts))

  -- an item may begin at a place
  pub record ItemsFrom (found : List Value) (at : ℕ) : Type 0 where
    pub place : Place
    pub count : ℕ
    pub begins : may_begin place ≡ true
    pub left : ItemsLeft found (tokens_at place d at) count

  pub no_items_yet : (found : List Value) → found ≡ [] → ItemsFrom found from
  no_items_yet found e = record {
    place = fresh;
    count = length (tokens_at fresh d from);
    begins = refl;
    left = record { enough = omega arith; same = none_before all_items ∙ ap (λ vs. parse_map (items_before vs) all_items) (sym e) };
  }

  no_items_at_all : IsByteAt d from 93 → AreItemsAt depth d from no_items (from + 1)
  no_items_at_all b = items_over (value depth) (length (tokens_at fresh d from)) (tokens_at fresh d from) (tokens_at after_value d (from + 1)) (omega arith) (ap after_end_array (bracket_first d from b))

  pub empty_array : (found : List Value) → found ≡ [] → IsByteAt d from 93 → AreItemsAt depth d from (items_view found) (from + 1)
  empty_array found e b = no_items_at_all b ∙ ap (λ vs. Some (items_view vs, tokens_at after_value d (from + 1))) (sym e)

  after_item : (found : List Value) (at to : ℕ) (v : Value) (l : ItemsFrom found at) → IsValueAt depth d at (view v) to → ItemsLeft (found ++ v ∷ []) (tokens_at after_value d to) (l.count - 1)
  after_item found at to v l read =
      let ts = tokens_at l.place d at in
      let r = tokens_at after_value d to in
      let e : converted of_json (value depth ts) ≡ Some (view v, r) = read l.place l.begins in
      let less : length r < length ts = takes_some depth ts r (view v) e in
      let turn = item_read (value depth) l.count ts r (view v) (omega (arith, l.left.enough, less)) (no_end depth ts r (view v) e) e in
      record {
        enough = omega (arith, l.left.enough, less);
        same = l.left.same ∙ ap (parse_map (items_before found)) turn ∙ one_more_item found v _;
      }

  pub next_item : (found more : List Value) (at to : ℕ) (v : Value) → ItemsFrom found at → IsValueAt depth d at (view v) to → more ≡ found ++ v ∷ [] → IsByteAt d to 44 → ItemsFrom more (to + 1)
  next_item found more at to v l read e b =
      let after = after_item found at to v l read in
      record {
        place = after_comma;
        count = l.count - 1;
        begins = refl;
        left = subst (λ vs. ItemsLeft vs (tokens_at after_comma d (to + 1)) (l.count - 1)) (sym e) (subst (λ ts. ItemsLeft (found ++ v ∷ []) ts (l.count - 1)) (comma_next d to b) after);
      }

  pub last_item : (found more : List Value) (at to : ℕ) (v : Value) → ItemsFrom found at → IsValueAt depth d at (view v) to → more ≡ found ++ v ∷ [] → IsByteAt d to 93 → AreItemsAt depth d from (items_view more) (to + 1)
  last_item found more at to v l read e b =
      let after = after_item found at to v l read in
      let r = tokens_at after_value d (to + 1) in
      let over = items_over (value depth) (l.count - 1) (tokens_at after_value d to) r after.enough (ap after_end_array (bracket_next d to b)) in
      after.same ∙ ap (parse_map (items_before (found ++ v ∷ []))) over ∙ ap (λ ds. Some (ds, r)) (items_before-no_items (found ++ v ∷ []) ∙ ap items_view (sym e))

  -- ---- members

  abbrev pub all_members : Option (Members × List Token)
  all_members = converted (λ ds. of_members ds no_members) (members (value depth) (length (tokens_at fresh d from)) (tokens_at fresh d from))

  pub record MembersLeft (found : Members) (ts : List Token) (n : ℕ) : Type 0 where
    pub enough : length ts ≤ n
    pub same : all_members ≡ converted (λ ds. of_members ds found) (members (value depth) n ts)

  pub record MembersFrom (found : Members) (at : ℕ) : Type 0 where
    pub place : Place
    pub count : ℕ
    pub begins : may_begin place ≡ true
    pub left : MembersLeft found (tokens_at place d at) count

  pub no_members_yet : (found : Members) → found ≡ no_members → MembersFrom found from
  no_members_yet found e = record {
    place = fresh;
    count = length (tokens_at fresh d from);
    begins = refl;
    left = record { enough = omega arith; same = ap (λ ms. converted (λ ds. of_members ds ms) (members (value depth) (length (tokens_at fresh d from)) (tokens_at fresh d from))) (sym e) };
  }

  pub empty_object : (found : Members) → found ≡ no_members → IsByteAt d from 125 → AreMembersAt depth d from found (from + 1)
  empty_object found e b =
      members_over (value depth) no_members (length (tokens_at fresh d from)) (tokens_at fresh d from) (tokens_at after_value d (from + 1)) (omega arith) (ap read_key (brace_first d from b))
      ∙ ap (λ ms. Some (ms, tokens_at after_value d (from + 1))) (sym e)

  after_member : (found : Members) (at start to : ℕ) (k : List ℕ) (x : Data) (l : MembersFrom found at) → lex between (drop at d) ≡ token (tokens.string k) ∷ colon ∷ lex between (drop start d)
      → IsValueAt depth d start x to → MembersLeft (put k x found) (tokens_at after_value d to) (l.count - 1)
  after_member found at start to k x l lexed read =
      let ts = tokens_at l.place d at in
      let s = tokens_at fresh d start in
      let r = tokens_at after_value d to in
      let named : read_key ts ≡ Some (Some k, s) = key_read d l.place at start k l.begins lexed in
      let e : converted of_json (value depth s) ≡ Some (x, r) = read fresh refl in
      let fewer : length s < length ts = read_key-shorter ts (Some k) s named in
      let less : length r < length s = takes_some depth s r x e in
      record {
        enough = omega (arith, l.left.enough, less, fewer);
        same = l.left.same ∙ member_read (value depth) found l.count k ts s r x (omega (arith, l.left.enough, less, fewer)) named e;
      }

  pub next_member : (found more : Members) (at start to : ℕ) (k : List ℕ) (x : Data) → MembersFrom found at → lex between (drop at d) ≡ token (tokens.string k) ∷ colon ∷ lex between (drop start d)
      → IsValueAt depth d start x to → more ≡ put k x found → IsByteAt d to 44 → MembersFrom more (to + 1)
  next_member found more at start to k x l lexed read e b =
      let after = after_member found at start to k x l lexed read in
      record {
        place = after_comma;
        count = l.count - 1;
        begins = refl;
        left = subst (λ ms. MembersLeft ms (tokens_at after_comma d (to + 1)) (l.count - 1)) (sym e) (subst (λ ts. MembersLeft (put k x found) ts (l.count - 1)) (comma_next d to b) after);
      }

  pub last_member : (found more : Members) (at start to : ℕ) (k : List ℕ) (x : Data) → MembersFrom found at → lex between (drop at d) ≡ token (tokens.string k) ∷ colon ∷ lex between (drop start d)
      → IsValueAt depth d start x to → more ≡ put k x found → IsByteAt d to 125 → AreMembersAt depth d from more (to + 1)
  last_member found more at start to k x l lexed read e b =
      let after = after_member found at start to k x l lexed read in
      let r = tokens_at after_value d (to + 1) in
      after.same ∙ members_over (value depth) (put k x found) (l.count - 1) (tokens_at after_value d to) r after.enough (ap read_key (brace_next d to b)) ∙ ap (λ ms. Some (ms, r)) (sym e)

pub inserted : (old new : List Entry) (k : String Global) (v : Value) → new ≡ insert_entry string_cmp old k v → members_view new ≡ put (string_bytes k) (view v) (members_view old)
inserted old new k v e = ap members_view e ∙ members_view-insert_entry old k v
