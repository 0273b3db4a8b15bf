-- The presence items of a log with one more entry, and the limit of members.
use Rattle.std.proofs.Common.{◌≡◌, ℕ, suc, Bool, true, false, cond, List, [], ◌∷◌, ◌++◌, length, reverse, map, refl, ap, sym, ◌∙◌, ◌||◌}
use Rattle.std.specs.Prelude.{Option, Some, None, is_some, nat_lt, find, filter_map, option_and_then, bytes_eq, ◌&&◌}
use Rattle.std.specs.List.{cons_option}
use Rattle.std.proofs.lemmas.List.{reverse-append}
use Rattle.rl_ids.specs.declared.members.MemberKey.{MemberKey}
use Rattle.rl_numbers.specs.declared.limits.TheConstants.{MAX_MEMBERS}
use Rattle.rl_types.specs.declared.presence.PresenceItem.{PresenceItem}
use Rattle.rl_types.specs.declared.messages.Entry.{Entry}
use Rattle.rl_model.specs.Ids.{filled_presence}
use Rattle.rl_model.specs.Members.{key_of, is_of, with_key, keys_in, enters, if_enters, member, members_of, presence_of, items_of, has_too_many, told_by}

append_assoc_ : {A : Type 0} (xs ys zs : List A) → (xs ++ ys) ++ zs ≡ xs ++ (ys ++ zs)
append_assoc_ [] ys zs = refl
append_assoc_ (x ∷ xs) ys zs = ap (λ (l : List _). x ∷ l) (append_assoc_ xs ys zs)

append_none : {A : Type 0} (xs : List A) → xs ++ [] ≡ xs
append_none [] = refl
append_none (x ∷ xs) = ap (λ (ys : List _). x ∷ ys) (append_none xs)

items_more : (log : List Entry) (entry : Entry) → items_of (log ++ entry ∷ []) ≡ items_of log ++ presence_of entry.body
items_more [] entry = append_none (presence_of entry.body)
items_more (first ∷ log) entry =
    ap (λ (l : List PresenceItem). presence_of first.body ++ l) (items_more log entry)
    ∙ sym (append_assoc_ (presence_of first.body) (items_of log) (presence_of entry.body))

-- the items of a log with one more entry, the latest first
pub told_more : (log : List Entry) (entry : Entry) → reverse (items_of (log ++ entry ∷ [])) ≡ reverse (presence_of entry.body) ++ reverse (items_of log)
told_more log entry = ap reverse (items_more log entry) ∙ reverse-append (items_of log) (presence_of entry.body)

-- WHAT THE NUMBER OF MEMBERS DEPENDS ON

-- of an item: its key, and whether it enters
abbrev Mark : Type 0
Mark = MemberKey × Bool

abbrev mark_of : PresenceItem → Mark
mark_of item = (key_of item, enters item.action)

abbrev keys_marked : List Mark → List MemberKey
keys_marked [] = []
keys_marked (mark ∷ marks) = with_key mark.0 (keys_marked marks)

abbrev is_key : MemberKey → MemberKey → Bool
is_key key other = bytes_eq key.conn other.conn && bytes_eq key.client other.client

abbrev stands : MemberKey → List Mark → Bool
stands key [] = false
stands key (mark ∷ marks) = cond (is_key key mark.0) mark.1 (stands key marks)

abbrev count_standing : List Mark → List MemberKey → ℕ
count_standing marks [] = 0
count_standing marks (key ∷ keys) = cond (stands key marks) (suc (count_standing marks keys)) (count_standing marks keys)

keys_same : (items : List PresenceItem) → keys_in items ≡ keys_marked (map mark_of items)
keys_same [] = refl
keys_same (item ∷ items) = ap (with_key (key_of item)) (keys_same items)

stands_same : (key : MemberKey) (items : List PresenceItem) → is_some (member key items) ≡ stands key (map mark_of items)
stands_same key [] = refl
stands_same key (item ∷ items) = by_test (is_of key item) (stands_same key items)
  where
    if_one : (action_enters : Bool) → is_some (cond action_enters (Some item) None) ≡ action_enters
    if_one true = refl
    if_one false = refl

    by_test : (test : Bool) → is_some (member key items) ≡ stands key (map mark_of items)
        → is_some (option_and_then if_enters (cond test (Some item) (find (is_of key) items))) ≡ cond test (enters item.action) (stands key (map mark_of items))
    by_test true rest = if_one (enters item.action)
    by_test false rest = rest

count_same : (items : List PresenceItem) (keys : List MemberKey) → length (filter_map (λ key. member key items) keys) ≡ count_standing (map mark_of items) keys
count_same items [] = refl
count_same items (key ∷ keys) = by_member (member key items) (stands key (map mark_of items)) (stands_same key items) (count_same items keys)
  where
    by_member : (found : Option PresenceItem) (stands : Bool) → is_some found ≡ stands
        → length (filter_map (λ key. member key items) keys) ≡ count_standing (map mark_of items) keys
        → length (cons_option found (filter_map (λ key. member key items) keys)) ≡ cond stands (suc (count_standing (map mark_of items) keys)) (count_standing (map mark_of items) keys)
    by_member (Some one) true same rest = ap suc rest
    by_member (Some one) false same rest = cc
    by_member None true same rest = cc
    by_member None false same rest = rest

members_counted : (items : List PresenceItem) → length (members_of items) ≡ count_standing (map mark_of items) (keys_marked (map mark_of items))
members_counted items = count_same items (keys_in items) ∙ ap (count_standing (map mark_of items)) (keys_same items)

abbrev marked_too_many : List Mark → List Mark → Bool
marked_too_many latest [] = false
marked_too_many latest (mark ∷ marks) =
    nat_lt MAX_MEMBERS (count_standing (mark ∷ latest) (keys_marked (mark ∷ latest))) || marked_too_many (mark ∷ latest) marks

too_many_marked : (latest items : List PresenceItem) → has_too_many latest items ≡ marked_too_many (map mark_of latest) (map mark_of items)
too_many_marked latest [] = refl
too_many_marked latest (item ∷ items) =
    ap (λ (n : ℕ). nat_lt MAX_MEMBERS n || has_too_many (item ∷ latest) items) (members_counted (item ∷ latest))
    ∙ ap (λ (b : Bool). nat_lt MAX_MEMBERS (count_standing (mark_of item ∷ map mark_of latest) (keys_marked (mark_of item ∷ map mark_of latest))) || b) (too_many_marked (item ∷ latest) items)

marks_filled : (conn serial now k : ℕ) (items : List PresenceItem) → map mark_of (filled_presence conn serial now k items) ≡ map mark_of (map (told_by conn) items)
marks_filled conn serial now k [] = refl
marks_filled conn serial now k (item ∷ items) = ap (λ (l : List Mark). mark_of (told_by conn item) ∷ l) (marks_filled conn serial now (suc k) items)

-- the limit is the same for the items as the entry has them
pub limit_of_filled : (latest : List PresenceItem) (conn serial now : ℕ) (items : List PresenceItem)
    → has_too_many latest (filled_presence conn serial now 0 items) ≡ has_too_many latest (map (told_by conn) items)
limit_of_filled latest conn serial now items =
    too_many_marked latest (filled_presence conn serial now 0 items)
    ∙ ap (marked_too_many (map mark_of latest)) (marks_filled conn serial now 0 items)
    ∙ sym (too_many_marked latest (map (told_by conn) items))
