-- Changes of the members, and how they are taken back.
use Rattle.std.proofs.Common.{◌≡◌, ℕ, zero, suc, ◌<◌, ◌≤◌, Bool, true, false, cond, List, [], ◌∷◌, ◌++◌, length, reverse, refl, ap, sym, subst, ◌∙◌, ◌||◌, arith, get_or}
use Rattle.std.specs.Prelude.{insert, remove, slice_set, not, nat_lt}
use Rattle.std.proofs.lemmas.List.{reverse-append}
use Rattle.rl_numbers.specs.declared.limits.TheConstants.{MAX_MEMBERS}
use Rattle.rl_types.specs.declared.presence.PresenceItem.{PresenceItem}
use Rattle.rl_model.specs.Members.{key_of, is_of, enters, members_of, has_too_many}
use Rattle.rl_members.specs.declared.changes.Change.{Change}
use Rattle.rl_members.specs.declared.changes.Change.TheVariants.{Nothing, Added, Replaced, Removed}
use Rattle.rl_members.specs.Held.{with_member, with_item, with_items, outgrows, IsRising}
use Rattle.rl_members.specs.Changes.{undone, all_undone, IsUndoable, AreUndoable}
use Rattle.rl_members.proofs.Laws.{others, members_enter, members_leave}
use Rattle.rl_members.proofs.Places.{is_rising_with, is_rising_kept}

-- ONE CHANGE

pub removed_inserted : {A : Type 0} (xs : List A) (at : ℕ) (x : A) → at ≤ length xs → remove (insert xs at x) at ≡ xs
removed_inserted [] zero x h = refl
removed_inserted [] (suc at) x h = absurd (omega arith)
removed_inserted (y ∷ ys) zero x h = refl
removed_inserted (y ∷ ys) (suc at) x h = ap (λ (l : List _). y ∷ l) (removed_inserted ys at x (omega arith))

pub inserted_removed : {A : Type 0} (xs : List A) (at : ℕ) (x : A) → at < length xs → x ≡ get_or xs at x → insert (remove xs at) at x ≡ xs
inserted_removed [] at x h is = absurd (omega arith)
inserted_removed (y ∷ ys) zero x h is = ap (λ (z : _). z ∷ ys) is
inserted_removed (y ∷ ys) (suc at) x h is = ap (λ (l : List _). y ∷ l) (inserted_removed ys at x (omega arith) is)

pub set_back : {A : Type 0} (xs : List A) (at : ℕ) (x y : A) → at < length xs → x ≡ get_or xs at x → slice_set (slice_set xs at y) at x ≡ xs
set_back [] at x y h is = absurd (omega arith)
set_back (z ∷ zs) zero x y h is = ap (λ (w : _). w ∷ zs) is
set_back (z ∷ zs) (suc at) x y h is = ap (λ (l : List _). z ∷ l) (set_back zs at x y (omega arith) is)

pub replaced_back : {A : Type 0} (xs : List A) (at : ℕ) (was seen y : A) → was ≡ seen → seen ≡ get_or xs at seen → at < length xs → slice_set (slice_set xs at y) at was ≡ xs
replaced_back xs at was seen y same is h = ap (slice_set (slice_set xs at y) at) same ∙ set_back xs at seen y h is

-- ALL CHANGES

pub undoable_more : (low high : ℕ) (changes : List Change) (members : List PresenceItem) → low ≤ high → AreUndoable low changes members → AreUndoable high changes members
undoable_more low high [] members h are = tt
undoable_more low high (Nothing ∷ changes) members h are = (tt, undoable_more low high changes members h are.1)
undoable_more low high (Added at ∷ changes) members h are = (are.0, undoable_more low high changes _ h are.1)
undoable_more low high (Replaced at was ∷ changes) members h are = (are.0, undoable_more low high changes _ h are.1)
undoable_more low high (Removed at was ∷ changes) members h are = ((are.0.0, omega (arith, are.0.1)), undoable_more low high changes _ h are.1)

last_first : {A : Type 0} (xs : List A) (x : A) → reverse (xs ++ x ∷ []) ≡ x ∷ reverse xs
last_first xs x = reverse-append xs (x ∷ [])

-- one more change
pub undone_with : (changes more : List Change) (change : Change) (before members after : List PresenceItem) → more ≡ changes ++ change ∷ [] → undone change after ≡ members
    → all_undone (reverse changes) members ≡ before → all_undone (reverse more) after ≡ before
undone_with changes more change before members after is back rest =
    ap (λ (l : List Change). all_undone (reverse l) after) is
    ∙ ap (λ (l : List Change). all_undone l after) (last_first changes change)
    ∙ ap (all_undone (reverse changes)) back
    ∙ rest

pub undoable_with : (room : ℕ) (changes more : List Change) (change : Change) (members after : List PresenceItem) → more ≡ changes ++ change ∷ [] → undone change after ≡ members
    → IsUndoable room change after → AreUndoable room (reverse changes) members → AreUndoable room (reverse more) after
undoable_with room changes more change members after is back one rest =
    let both : AreUndoable room (change ∷ reverse changes) after = (one, subst (AreUndoable room (reverse changes)) (sym back) rest) in
    subst (λ (l : List Change). AreUndoable room (reverse l) after) (sym is) (subst (λ (l : List Change). AreUndoable room l after) (sym (last_first changes change)) both)

-- the last one is taken back
pub undone_last : (changes more : List Change) (change : Change) (before members after : List PresenceItem) → more ≡ changes ++ change ∷ [] → after ≡ undone change members
    → all_undone (reverse more) members ≡ before → all_undone (reverse changes) after ≡ before
undone_last changes more change before members after is step rest =
    ap (all_undone (reverse changes)) step
    ∙ ap (λ (l : List Change). all_undone l members) (sym (last_first changes change))
    ∙ ap (λ (l : List Change). all_undone (reverse l) members) (sym is)
    ∙ rest

pub undoable_last : (room : ℕ) (changes more : List Change) (change : Change) (members : List PresenceItem) → more ≡ changes ++ change ∷ []
    → AreUndoable room (reverse more) members → AreUndoable room (change ∷ reverse changes) members
undoable_last room changes more change members is are =
    subst (λ (l : List Change). AreUndoable room l members) (last_first changes change) (subst (λ (l : List Change). AreUndoable room (reverse l) members) is are)

-- ITEMS

rising_item_by : (item : PresenceItem) (members : List PresenceItem) (b : Bool) → IsRising members → IsRising (cond b (with_member item members) (others (key_of item) members))
rising_item_by item members true rising = is_rising_with item members rising
rising_item_by item members false rising = is_rising_kept (λ other. not (is_of (key_of item) other)) members rising

pub rising_item : (item : PresenceItem) (members : List PresenceItem) → IsRising members → IsRising (with_item item members)
rising_item item members rising = rising_item_by item members (enters item.action) rising

pub enters_item : (item : PresenceItem) (members new : List PresenceItem) → enters item.action ≡ true → new ≡ with_member item members → new ≡ with_item item members
enters_item item members new h is = is ∙ sym (ap (λ (b : Bool). cond b (with_member item members) (others (key_of item) members)) h)

pub leaves_item : (item : PresenceItem) (members new : List PresenceItem) → enters item.action ≡ false → new ≡ others (key_of item) members → new ≡ with_item item members
leaves_item item members new h is = is ∙ sym (ap (λ (b : Bool). cond b (with_member item members) (others (key_of item) members)) h)

pub items_more : (rest more : List PresenceItem) (one : PresenceItem) (members new end : List PresenceItem) → rest ≡ one ∷ more → new ≡ with_item one members → with_items rest members ≡ end → with_items more new ≡ end
items_more rest more one members new end is step whole =
    ap (with_items more) step ∙ ap (λ (l : List PresenceItem). with_items l members) (sym is) ∙ whole

outgrown_by : (b c : Bool) → b ≡ false → (b || c) ≡ c
outgrown_by true c h = cc
outgrown_by false c h = refl

many_by : (b c : Bool) → b ≡ true → (b || c) ≡ true
many_by true c h = refl
many_by false c h = cc

-- not too many stand after one more
pub limit_more : (rest more : List PresenceItem) (one : PresenceItem) (members new : List PresenceItem) (end : Bool) → rest ≡ one ∷ more → new ≡ with_item one members → nat_lt MAX_MEMBERS (length new) ≡ false
    → outgrows members rest ≡ end → outgrows new more ≡ end
limit_more rest more one members new end is step few whole =
    let within : nat_lt MAX_MEMBERS (length (with_item one members)) ≡ false = ap (λ (l : List PresenceItem). nat_lt MAX_MEMBERS (length l)) (sym step) ∙ few in
    ap (λ (l : List PresenceItem). outgrows l more) step
    ∙ sym (outgrown_by (nat_lt MAX_MEMBERS (length (with_item one members))) (outgrows (with_item one members) more) within)
    ∙ ap (outgrows members) (sym is)
    ∙ whole

-- too many stand after one more
pub limit_broken : (rest more : List PresenceItem) (one : PresenceItem) (members new : List PresenceItem) (end : Bool) → rest ≡ one ∷ more → new ≡ with_item one members → nat_lt MAX_MEMBERS (length new) ≡ true
    → outgrows members rest ≡ end → false ≡ not end
limit_broken rest more one members new end is step many whole =
    let passed : nat_lt MAX_MEMBERS (length (with_item one members)) ≡ true = ap (λ (l : List PresenceItem). nat_lt MAX_MEMBERS (length l)) (sym step) ∙ many in
    sym (ap not (sym whole ∙ ap (outgrows members) is ∙ many_by (nat_lt MAX_MEMBERS (length (with_item one members))) (outgrows (with_item one members) more) passed))

-- THE MEMBERS

with_item_by : (item : PresenceItem) (latest : List PresenceItem) (b : Bool) → enters item.action ≡ b → cond b (with_member item (members_of latest)) (others (key_of item) (members_of latest)) ≡ members_of (item ∷ latest)
with_item_by item latest true h = sym (members_enter item latest h)
with_item_by item latest false h = sym (members_leave item latest h)

item_members : (item : PresenceItem) (latest members : List PresenceItem) → members ≡ members_of latest → with_item item members ≡ members_of (item ∷ latest)
item_members item latest members is = ap (with_item item) is ∙ with_item_by item latest (enters item.action) refl

append_assoc_ : {A : Type 0} (xs ys zs : List A) → (xs ++ ys) ++ zs ≡ xs ++ (ys ++ zs)
append_assoc_ [] ys zs = refl
append_assoc_ (x ∷ xs) ys zs = ap (λ (l : List _). x ∷ l) (append_assoc_ xs ys zs)

turned : {A : Type 0} (x : A) (xs rest : List A) → reverse xs ++ x ∷ rest ≡ reverse (x ∷ xs) ++ rest
turned x xs rest = sym (ap (λ (l : List _). l ++ rest) (reverse-append (x ∷ []) xs) ∙ append_assoc_ (reverse xs) (x ∷ []) rest)

pub items_members : (items latest members : List PresenceItem) → members ≡ members_of latest → with_items items members ≡ members_of (reverse items ++ latest)
items_members [] latest members is = is
items_members (item ∷ items) latest members is =
    items_members items (item ∷ latest) (with_item item members) (item_members item latest members is) ∙ ap members_of (turned item items latest)

pub items_limit : (items latest members : List PresenceItem) → members ≡ members_of latest → outgrows members items ≡ has_too_many latest items
items_limit [] latest members is = refl
items_limit (item ∷ items) latest members is =
    ap (λ (l : List PresenceItem). nat_lt MAX_MEMBERS (length l) || outgrows (with_item item members) items) (item_members item latest members is)
    ∙ ap (λ (b : Bool). nat_lt MAX_MEMBERS (length (members_of (item ∷ latest))) || b) (items_limit items (item ∷ latest) (with_item item members) (item_members item latest members is))

-- what a put answers and leaves
pub put_verdict : (held now ready items latest : List PresenceItem) (result : Bool) → held ≡ now → ready ≡ items → result ≡ not (outgrows held ready) → now ≡ members_of latest → result ≡ not (has_too_many latest items)
put_verdict held now ready items latest result same copied is stands =
    is ∙ ap (λ (l : List PresenceItem). not (outgrows held l)) copied ∙ ap not (items_limit items latest held (same ∙ stands))

pub put_members : (held now ready items latest new : List PresenceItem) (result : Bool) → held ≡ now → ready ≡ items → new ≡ cond result (with_items ready held) held → result ≡ true → now ≡ members_of latest → new ≡ members_of (reverse items ++ latest)
put_members held now ready items latest new result same copied is taken stands =
    is ∙ ap (λ (b : Bool). cond b (with_items ready held) held) taken ∙ ap (λ (l : List PresenceItem). with_items l held) copied ∙ items_members items latest held (same ∙ stands)
