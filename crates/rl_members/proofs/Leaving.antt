-- The members of one connection, when all of them leave.
use Rattle.std.proofs.Common.{◌≡◌, ℕ, Bool, true, false, cond, List, [], ◌∷◌, ◌++◌, refl, ap, sym, ◌∙◌}
use Rattle.std.specs.Prelude.{not, filter, map, reverse, bytes_eq, ◌||◌}
use Rattle.std.specs.List.{AllByRecursion, list_any, list_all}
use Rattle.std.proofs.lemmas.List.{append_assoc, reverse-append}
use Rattle.rl_ids.specs.declared.members.MemberKey.{MemberKey}
use Rattle.rl_types.specs.declared.presence.PresenceItem.{PresenceItem}
use Rattle.rl_model.specs.Members.{key_of, is_of, is_on, enters, members_of}
use Rattle.rl_members.proofs.Keys.{both, of_same, of_itself}
use Rattle.rl_members.proofs.Laws.{others, first, members_leave}

-- the members of none of these keys
abbrev pub others_all : List MemberKey → List PresenceItem → List PresenceItem
others_all [] items = items
others_all (key ∷ keys) items = others_all keys (others key items)

not_true : (b : Bool) → not b ≡ true → b ≡ false
not_true true h = cc
not_true false h = refl

left_first : (item : PresenceItem) (leaves latest : List PresenceItem) → reverse (item ∷ leaves) ++ latest ≡ reverse leaves ++ item ∷ latest
left_first item leaves latest = ap (λ (xs : List PresenceItem). xs ++ latest) (reverse-append (item ∷ []) leaves) ∙ append_assoc (reverse leaves) (item ∷ []) latest

left_all : (leaves latest : List PresenceItem) → list_all (λ item. not (enters item.action)) leaves ≡ true → members_of (reverse leaves ++ latest) ≡ others_all (map key_of leaves) (members_of latest)
left_all [] latest h = refl
left_all (item ∷ leaves) latest h =
    let parts = both (not (enters item.action)) (list_all (λ item. not (enters item.action)) leaves) h in
    ap members_of (left_first item leaves latest) ∙ left_all leaves (item ∷ latest) parts.1
    ∙ ap (others_all (map key_of leaves)) (members_leave item latest (not_true _ parts.0))

-- one of these keys is the member's
abbrev is_named : List MemberKey → PresenceItem → Bool
is_named keys item = list_any (λ key. is_of key item) keys

twice_at : (item : PresenceItem) (items : List PresenceItem) (keep : PresenceItem → Bool) (b c : Bool) → keep item ≡ not c → filter keep (cond (not b) (item ∷ items) items) ≡ cond (not (b || c)) (item ∷ filter keep items) (filter keep items)
twice_at item items keep true c h = refl
twice_at item items keep false c h = rw h refl

named_more : (key : MemberKey) (keys : List MemberKey) (items : List PresenceItem) → filter (λ item. not (is_named keys item)) (others key items) ≡ filter (λ item. not (is_named (key ∷ keys) item)) items
named_more key keys [] = refl
named_more key keys (item ∷ items) =
    twice_at item (others key items) (λ item. not (is_named keys item)) (is_of key item) (is_named keys item) refl
    ∙ ap (λ (xs : List PresenceItem). cond (not (is_of key item || is_named keys item)) (item ∷ xs) xs) (named_more key keys items)

none_named : (items : List PresenceItem) → filter (λ (item : PresenceItem). true) items ≡ items
none_named [] = refl
none_named (item ∷ items) = ap (first item) (none_named items)

unnamed : (keys : List MemberKey) (items : List PresenceItem) → others_all keys items ≡ filter (λ item. not (is_named keys item)) items
unnamed [] items = sym (none_named items)
unnamed (key ∷ keys) items = unnamed keys (others key items) ∙ named_more key keys items

-- the keys of a connection's members
abbrev keys_on : List ℕ → List PresenceItem → List MemberKey
keys_on conn items = map key_of (filter (is_on conn) items)

other_of_at : (conn : List ℕ) (one item : PresenceItem) (b : Bool) → is_of (key_of one) item ≡ b → is_on conn one ≡ true → is_on conn item ≡ false → b ≡ false
other_of_at conn one item true is h k = let same : key_of one ≡ key_of item = of_same (key_of one) item is in cc (sym h ∙ ap (λ (key : MemberKey). bytes_eq conn key.conn) same ∙ k)
other_of_at conn one item false is h k = refl

not_named_at : (conn : List ℕ) (one item : PresenceItem) (items : List PresenceItem) (b : Bool) → is_on conn one ≡ b → is_on conn item ≡ false → is_named (map key_of (filter (is_on conn) items)) item ≡ false → is_named (map key_of (cond b (one ∷ filter (is_on conn) items) (filter (is_on conn) items))) item ≡ false
not_named_at conn one item items true is h rest = rw (other_of_at conn one item (is_of (key_of one) item) refl is h) rest
not_named_at conn one item items false is h rest = rest

not_named : (conn : List ℕ) (item : PresenceItem) (items : List PresenceItem) → is_on conn item ≡ false → is_named (keys_on conn items) item ≡ false
not_named conn item [] h = refl
not_named conn item (one ∷ items) h = not_named_at conn one item items (is_on conn one) refl h (not_named conn item items h)

AllNamed : List ℕ → List MemberKey → List PresenceItem → Type 0
AllNamed conn keys items = AllByRecursion (λ item. is_on conn item ≡ true → is_named keys item ≡ true) items

or_later : (b c : Bool) → c ≡ true → (b || c) ≡ true
or_later true c h = refl
or_later false c h = h

named_first_at : (conn : List ℕ) (one : PresenceItem) (items : List PresenceItem) (b : Bool) → b ≡ true → is_named (map key_of (cond b (one ∷ filter (is_on conn) items) (filter (is_on conn) items))) one ≡ true
named_first_at conn one items true h = rw (of_itself one) refl
named_first_at conn one items false h = cc

named_later_at : (conn : List ℕ) (one item : PresenceItem) (items : List PresenceItem) (b : Bool) → is_named (keys_on conn items) item ≡ true → is_named (map key_of (cond b (one ∷ filter (is_on conn) items) (filter (is_on conn) items))) item ≡ true
named_later_at conn one item items true h = or_later (is_of (key_of one) item) _ h
named_later_at conn one item items false h = h

all_named : (conn : List ℕ) (keys : List MemberKey) (items : List PresenceItem) → ((item : PresenceItem) → is_named (keys_on conn items) item ≡ true → is_named keys item ≡ true) → AllNamed conn keys items
unfolding AllNamed
all_named conn keys [] more = tt
all_named conn keys (one ∷ items) more = (
  λ h. more one (named_first_at conn one items (is_on conn one) h),
  all_named conn keys items (λ item h. more item (named_later_at conn one item items (is_on conn one) h)),
)

same_at : (item : PresenceItem) (xs ys : List PresenceItem) (b c : Bool) → (b ≡ true → c ≡ true) → (b ≡ false → c ≡ false) → xs ≡ ys → cond (not c) (item ∷ xs) xs ≡ cond (not b) (item ∷ ys) ys
same_at item xs ys true c h k same = rw (h refl) same
same_at item xs ys false c h k same = rw (k refl) (ap (first item) same)

kept_same : (conn : List ℕ) (keys : List MemberKey) (items : List PresenceItem) → AllNamed conn keys items → ((item : PresenceItem) → is_on conn item ≡ false → is_named keys item ≡ false) → filter (λ item. not (is_named keys item)) items ≡ filter (λ item. not (is_on conn item)) items
unfolding AllNamed
kept_same conn keys [] all none = refl
kept_same conn keys (item ∷ items) all none =
    same_at item _ _ (is_on conn item) (is_named keys item) all.0 (none item) (kept_same conn keys items all.1 none)

gone_all : (conn : List ℕ) (items : List PresenceItem) → others_all (keys_on conn items) items ≡ filter (λ item. not (is_on conn item)) items
gone_all conn items =
    unnamed (keys_on conn items) items
    ∙ kept_same conn (keys_on conn items) items (all_named conn (keys_on conn items) items (λ item h. h)) (λ item h. not_named conn item items h)

-- where each member of a connection has an item that does not enter, the others stay
pub members_gone : (conn : List ℕ) (old latest leaves : List PresenceItem) → list_all (λ item. not (enters item.action)) leaves ≡ true → map key_of leaves ≡ map key_of (filter (is_on conn) old) → old ≡ members_of latest → filter (λ item. not (is_on conn item)) old ≡ members_of (reverse leaves ++ latest)
members_gone conn old latest leaves h keys is =
    sym (left_all leaves latest h
    ∙ ap (others_all (map key_of leaves)) (sym is)
    ∙ ap (λ (ks : List MemberKey). others_all ks old) keys
    ∙ gone_all conn old)
