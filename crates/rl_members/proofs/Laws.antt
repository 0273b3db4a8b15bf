-- One more item, and the members that all items leave.
use Rattle.std.proofs.Common.{◌≡◌, Bool, true, false, cond, List, [], ◌∷◌, refl, ap, sym, subst, ◌∙◌}
use Rattle.std.specs.Prelude.{Option, Some, None, not, filter, filter_map, find, option_and_then, ⊤}
use Rattle.std.specs.List.{AllByRecursion, cons_option}
use Rattle.std.specs.declared.cmp.Ordering.{Ordering}
use Rattle.std.specs.declared.cmp.Ordering.TheVariants.{Less, Equal, Greater}
use Rattle.std.specs.Ordering.{match_ordering, is_eq}
use Rattle.rl_ids.specs.declared.members.MemberKey.{MemberKey}
use Rattle.rl_types.specs.declared.presence.PresenceItem.{PresenceItem}
use Rattle.rl_model.specs.Members.{key_of, key_cmp, is_of, with_key, keys_in, enters, if_enters, member, members_of}
use Rattle.rl_members.specs.Held.{with_member}
use Rattle.rl_members.proofs.Keys.{keys_total, before_all, before_itself, less_of_greater, greater_of_less, equal_back, of_less, of_greater, of_equal, of_same, is_of_is}

-- KEYS IN ORDER

abbrev pub AllAbove : MemberKey → List MemberKey → Type 0
AllAbove key keys = AllByRecursion (λ other. key_cmp key other ≡ Less) keys

abbrev pub KeysRise : List MemberKey → Type 0
KeysRise [] = ⊤
KeysRise (key ∷ keys) = AllAbove key keys × KeysRise keys

above_all : (a b : MemberKey) (keys : List MemberKey) → key_cmp a b ≡ Less → AllAbove b keys → AllAbove a keys
above_all a b [] h all = tt
above_all a b (key ∷ keys) h all = (before_all a b key h all.0, above_all a b keys h all.1)

above_tied : (a b : MemberKey) (keys : List MemberKey) → key_cmp a b ≡ Equal → AllAbove b keys → AllAbove a keys
above_tied a b [] h all = tt
above_tied a b (key ∷ keys) h all = (keys_total.congr a b key h ∙ all.0, above_tied a b keys h all.1)

above_with_at : (a key other : MemberKey) (keys : List MemberKey) (o : Ordering) → key_cmp a key ≡ Less → AllAbove a (other ∷ keys) → AllAbove a (with_key key keys) → AllAbove a (match_ordering o (key ∷ other ∷ keys) (other ∷ keys) (other ∷ with_key key keys))
above_with_at a key other keys Less h all rest = (h, all)
above_with_at a key other keys Equal h all rest = all
above_with_at a key other keys Greater h all rest = (all.0, rest)

above_with : (a key : MemberKey) (keys : List MemberKey) → key_cmp a key ≡ Less → AllAbove a keys → AllAbove a (with_key key keys)
above_with a key [] h all = (h, tt)
above_with a key (other ∷ keys) h all = above_with_at a key other keys (key_cmp key other) h all (above_with a key keys h all.1)

rise_with_at : (key other : MemberKey) (keys : List MemberKey) (o : Ordering) → key_cmp key other ≡ o → KeysRise (other ∷ keys) → KeysRise (with_key key keys) → KeysRise (match_ordering o (key ∷ other ∷ keys) (other ∷ keys) (other ∷ with_key key keys))
rise_with_at key other keys Less h all rest = ((h, above_all key other keys h all.0), all)
rise_with_at key other keys Equal h all rest = all
rise_with_at key other keys Greater h all rest = (above_with other key keys (less_of_greater key other h) all.0, rest)

rise_with : (key : MemberKey) (keys : List MemberKey) → KeysRise keys → KeysRise (with_key key keys)
rise_with key [] all = (tt, tt)
rise_with key (other ∷ keys) all = rise_with_at key other keys (key_cmp key other) refl all (rise_with key keys all.1)

pub keys_rise : (items : List PresenceItem) → KeysRise (keys_in items)
keys_rise [] = tt
keys_rise (item ∷ items) = rise_with (key_of item) (keys_in items) (keys_rise items)

-- WHAT EACH KEY SHOWS

-- two ways to look a key up, which differ at one key alone
abbrev Differ : MemberKey → (MemberKey → Option PresenceItem) → (MemberKey → Option PresenceItem) → Type 0
Differ key f g = (other : MemberKey) → is_eq (key_cmp key other) ≡ false → f other ≡ g other

-- what is found at a key is of it
abbrev OfIt : (MemberKey → Option PresenceItem) → Type 0
OfIt g = (key : MemberKey) (item : PresenceItem) → g key ≡ Some item → key ≡ key_of item

abbrev pub AllLater : MemberKey → List PresenceItem → Type 0
AllLater key items = AllByRecursion (λ item. key_cmp key (key_of item) ≡ Less) items

cons_same : (x y : Option PresenceItem) (xs ys : List PresenceItem) → x ≡ y → xs ≡ ys → cons_option x xs ≡ cons_option y ys
cons_same x y xs ys h k = cc

same_above : (key : MemberKey) (f g : MemberKey → Option PresenceItem) (keys : List MemberKey) → Differ key f g → AllAbove key keys → filter_map f keys ≡ filter_map g keys
same_above key f g [] differ all = refl
same_above key f g (other ∷ keys) differ all =
    cons_same (f other) (g other) _ _ (differ other (ap is_eq all.0)) (same_above key f g keys differ all.1)

later_at : (key other : MemberKey) (x : Option PresenceItem) (items : List PresenceItem) → ((item : PresenceItem) → x ≡ Some item → other ≡ key_of item) → key_cmp key other ≡ Less → AllLater key items → AllLater key (cons_option x items)
later_at key other None items of h all = all
later_at key other (Some item) items of h all = (subst (λ (k : MemberKey). key_cmp key k ≡ Less) (of item refl) h, all)

later : (key : MemberKey) (g : MemberKey → Option PresenceItem) (keys : List MemberKey) → OfIt g → AllAbove key keys → AllLater key (filter_map g keys)
later key g [] of all = tt
later key g (other ∷ keys) of all = later_at key other (g other) (filter_map g keys) (of other) all.0 (later key g keys of all.1)

-- AN ITEM THAT ENTERS

pub with_less : (item other : PresenceItem) (items : List PresenceItem) → key_cmp (key_of item) (key_of other) ≡ Less → with_member item (other ∷ items) ≡ item ∷ other ∷ items
with_less item other items h = rw h refl

pub with_equal : (item other : PresenceItem) (items : List PresenceItem) → key_cmp (key_of item) (key_of other) ≡ Equal → with_member item (other ∷ items) ≡ item ∷ items
with_equal item other items h = rw h refl

pub with_greater : (item other : PresenceItem) (items : List PresenceItem) → key_cmp (key_of item) (key_of other) ≡ Greater → with_member item (other ∷ items) ≡ other ∷ with_member item items
with_greater item other items h = rw h refl

with_first : (item : PresenceItem) (items : List PresenceItem) → AllLater (key_of item) items → with_member item items ≡ item ∷ items
with_first item [] all = refl
with_first item (other ∷ items) all = with_less item other items all.0

abbrev pub first : PresenceItem → List PresenceItem → List PresenceItem
first item items = item ∷ items

replaced_at : (item : PresenceItem) (other : MemberKey) (x : Option PresenceItem) (items : List PresenceItem) → ((found : PresenceItem) → x ≡ Some found → other ≡ key_of found) → key_cmp (key_of item) other ≡ Equal → AllLater (key_of item) items → item ∷ items ≡ with_member item (cons_option x items)
replaced_at item other None items of h all = sym (with_first item items all)
replaced_at item other (Some found) items of h all =
    sym (with_equal item found items (subst (λ (k : MemberKey). key_cmp (key_of item) k ≡ Equal) (of found refl) h))

behind_at : (item : PresenceItem) (other : MemberKey) (x : Option PresenceItem) (items : List PresenceItem) → ((found : PresenceItem) → x ≡ Some found → other ≡ key_of found) → key_cmp (key_of item) other ≡ Greater → cons_option x (with_member item items) ≡ with_member item (cons_option x items)
behind_at item other None items of h = refl
behind_at item other (Some found) items of h =
    sym (with_greater item found items (subst (λ (k : MemberKey). key_cmp (key_of item) k ≡ Greater) (of found refl) h))

entered_at : (item : PresenceItem) (f g : MemberKey → Option PresenceItem) (other : MemberKey) (keys : List MemberKey) (o : Ordering) → key_cmp (key_of item) other ≡ o → Differ (key_of item) f g → OfIt g → f (key_of item) ≡ Some item → ((k : MemberKey) → key_cmp (key_of item) k ≡ Equal → f k ≡ Some item) → KeysRise (other ∷ keys) → filter_map f (with_key (key_of item) keys) ≡ with_member item (filter_map g keys) → filter_map f (match_ordering o (key_of item ∷ other ∷ keys) (other ∷ keys) (other ∷ with_key (key_of item) keys)) ≡ with_member item (filter_map g (other ∷ keys))
entered_at item f g other keys Less h differ of is tied rise rest =
    let all : AllAbove (key_of item) (other ∷ keys) = (h, above_all (key_of item) other keys h rise.0) in
    cons_same (f (key_of item)) (Some item) _ _ is (same_above (key_of item) f g (other ∷ keys) differ all)
    ∙ sym (with_first item (filter_map g (other ∷ keys)) (later (key_of item) g (other ∷ keys) of all))
entered_at item f g other keys Equal h differ of is tied rise rest =
    let all : AllAbove (key_of item) keys = above_tied (key_of item) other keys h rise.0 in
    cons_same (f other) (Some item) _ _ (tied other h) (same_above (key_of item) f g keys differ all)
    ∙ replaced_at item other (g other) (filter_map g keys) (of other) h (later (key_of item) g keys of all)
entered_at item f g other keys Greater h differ of is tied rise rest =
    cons_same (f other) (g other) _ _ (differ other (ap is_eq h)) rest
    ∙ behind_at item other (g other) (filter_map g keys) (of other) h

entered : (item : PresenceItem) (f g : MemberKey → Option PresenceItem) (keys : List MemberKey) → Differ (key_of item) f g → OfIt g → f (key_of item) ≡ Some item → ((k : MemberKey) → key_cmp (key_of item) k ≡ Equal → f k ≡ Some item) → KeysRise keys → filter_map f (with_key (key_of item) keys) ≡ with_member item (filter_map g keys)
entered item f g [] differ of is tied rise = cons_same (f (key_of item)) (Some item) _ _ is refl
entered item f g (other ∷ keys) differ of is tied rise =
    entered_at item f g other keys (key_cmp (key_of item) other) refl differ of is tied rise (entered item f g keys differ of is tied rise.1)

-- AN ITEM THAT DOES NOT

abbrev pub others : MemberKey → List PresenceItem → List PresenceItem
others key items = filter (λ item. not (is_of key item)) items

pub others_first : (key : MemberKey) (item : PresenceItem) (items : List PresenceItem) → is_of key item ≡ true → others key (item ∷ items) ≡ others key items
others_first key item items h = rw h refl

pub others_more : (key : MemberKey) (item : PresenceItem) (items : List PresenceItem) → is_of key item ≡ false → others key (item ∷ items) ≡ item ∷ others key items
others_more key item items h = rw h refl

pub others_later : (key : MemberKey) (items : List PresenceItem) → AllLater key items → others key items ≡ items
others_later key [] all = refl
others_later key (item ∷ items) all =
    others_more key item items (of_less key item all.0) ∙ ap (first item) (others_later key items all.1)

gone_at : (key other : MemberKey) (x : Option PresenceItem) (items : List PresenceItem) → ((found : PresenceItem) → x ≡ Some found → other ≡ key_of found) → key_cmp key other ≡ Equal → AllLater key items → items ≡ others key (cons_option x items)
gone_at key other None items of h all = sym (others_later key items all)
gone_at key other (Some found) items of h all =
    sym (others_first key found items (of_equal key found (subst (λ (k : MemberKey). key_cmp key k ≡ Equal) (of found refl) h)) ∙ others_later key items all)

stays_at : (key other : MemberKey) (x : Option PresenceItem) (items : List PresenceItem) → ((found : PresenceItem) → x ≡ Some found → other ≡ key_of found) → key_cmp key other ≡ Greater → cons_option x (others key items) ≡ others key (cons_option x items)
stays_at key other None items of h = refl
stays_at key other (Some found) items of h =
    sym (others_more key found items (of_greater key found (subst (λ (k : MemberKey). key_cmp key k ≡ Greater) (of found refl) h)))

left_at : (key : MemberKey) (f g : MemberKey → Option PresenceItem) (other : MemberKey) (keys : List MemberKey) (o : Ordering) → key_cmp key other ≡ o → Differ key f g → OfIt g → f key ≡ None → ((k : MemberKey) → key_cmp key k ≡ Equal → f k ≡ None) → KeysRise (other ∷ keys) → filter_map f (with_key key keys) ≡ others key (filter_map g keys) → filter_map f (match_ordering o (key ∷ other ∷ keys) (other ∷ keys) (other ∷ with_key key keys)) ≡ others key (filter_map g (other ∷ keys))
left_at key f g other keys Less h differ of is tied rise rest =
    let all : AllAbove key (other ∷ keys) = (h, above_all key other keys h rise.0) in
    cons_same (f key) None _ _ is (same_above key f g (other ∷ keys) differ all)
    ∙ sym (others_later key (filter_map g (other ∷ keys)) (later key g (other ∷ keys) of all))
left_at key f g other keys Equal h differ of is tied rise rest =
    let all : AllAbove key keys = above_tied key other keys h rise.0 in
    cons_same (f other) None _ _ (tied other h) (same_above key f g keys differ all)
    ∙ gone_at key other (g other) (filter_map g keys) (of other) h (later key g keys of all)
left_at key f g other keys Greater h differ of is tied rise rest =
    cons_same (f other) (g other) _ _ (differ other (ap is_eq h)) rest
    ∙ stays_at key other (g other) (filter_map g keys) (of other) h

left : (key : MemberKey) (f g : MemberKey → Option PresenceItem) (keys : List MemberKey) → Differ key f g → OfIt g → f key ≡ None → ((k : MemberKey) → key_cmp key k ≡ Equal → f k ≡ None) → KeysRise keys → filter_map f (with_key key keys) ≡ others key (filter_map g keys)
left key f g [] differ of is tied rise = cons_same (f key) None _ _ is refl
left key f g (other ∷ keys) differ of is tied rise =
    left_at key f g other keys (key_cmp key other) refl differ of is tied rise (left key f g keys differ of is tied rise.1)

-- THE MEMBERS

found_at : (key : MemberKey) (item : PresenceItem) (b : Bool) (rest : Option PresenceItem) (found : PresenceItem) → is_of key item ≡ b → cond b (Some item) rest ≡ Some found → (rest ≡ Some found → is_of key found ≡ true) → is_of key found ≡ true
found_at key item true rest found h is more = let same : item ≡ found = cc in subst (λ (x : PresenceItem). is_of key x ≡ true) same h
found_at key item false rest found h is more = more is

found_of : (key : MemberKey) (items : List PresenceItem) (found : PresenceItem) → find (is_of key) items ≡ Some found → is_of key found ≡ true
found_of key [] found is = cc
found_of key (item ∷ items) found is = found_at key item (is_of key item) (find (is_of key) items) found refl is (found_of key items found)

kept_at : (item found : PresenceItem) (b : Bool) → cond b (Some item) None ≡ Some found → item ≡ found
kept_at item found true is = cc
kept_at item found false is = cc

member_at : (key : MemberKey) (x : Option PresenceItem) (found : PresenceItem) → option_and_then if_enters x ≡ Some found → x ≡ Some found
member_at key None found is = cc
member_at key (Some item) found is = ap (λ (y : PresenceItem). Some y) (kept_at item found (enters item.action) is)

pub member_of : (key : MemberKey) (items : List PresenceItem) (found : PresenceItem) → member key items ≡ Some found → key ≡ key_of found
member_of key items found is = of_same key found (found_of key items found (member_at key (find (is_of key) items) found is))

here : (key : MemberKey) (item : PresenceItem) (latest : List PresenceItem) → key_cmp (key_of item) key ≡ Equal → member key (item ∷ latest) ≡ if_enters item
here key item latest h = rw (of_equal key item (equal_back (key_of item) key h)) refl

not_back : (a b : MemberKey) (o : Ordering) → key_cmp a b ≡ o → is_eq o ≡ false → is_eq (key_cmp b a) ≡ false
not_back a b Less h k = ap is_eq (greater_of_less a b h)
not_back a b Equal h k = cc
not_back a b Greater h k = ap is_eq (less_of_greater a b h)

elsewhere : (item : PresenceItem) (latest : List PresenceItem) → Differ (key_of item) (λ key. member key (item ∷ latest)) (λ key. member key latest)
elsewhere item latest key h =
    let not : is_of key item ≡ false = is_of_is key item ∙ not_back (key_of item) key (key_cmp (key_of item) key) refl h in
    rw not refl

if_true : (item : PresenceItem) → enters item.action ≡ true → if_enters item ≡ Some item
if_true item h = rw h refl

if_false : (item : PresenceItem) → enters item.action ≡ false → if_enters item ≡ None
if_false item h = rw h refl

pub members_enter : (item : PresenceItem) (latest : List PresenceItem) → enters item.action ≡ true → members_of (item ∷ latest) ≡ with_member item (members_of latest)
members_enter item latest h =
    let tied = λ (key : MemberKey) (k : key_cmp (key_of item) key ≡ Equal). here key item latest k ∙ if_true item h in
    entered item (λ key. member key (item ∷ latest)) (λ key. member key latest) (keys_in latest) (elsewhere item latest) (λ key found is. member_of key latest found is) (tied (key_of item) (before_itself (key_of item))) tied (keys_rise latest)

pub members_leave : (item : PresenceItem) (latest : List PresenceItem) → enters item.action ≡ false → members_of (item ∷ latest) ≡ others (key_of item) (members_of latest)
members_leave item latest h =
    let tied = λ (key : MemberKey) (k : key_cmp (key_of item) key ≡ Equal). here key item latest k ∙ if_false item h in
    left (key_of item) (λ key. member key (item ∷ latest)) (λ key. member key latest) (keys_in latest) (elsewhere item latest) (λ key found is. member_of key latest found is) (tied (key_of item) (before_itself (key_of item))) tied (keys_rise latest)
