-- In the log of an orderly history each item of a key renews the ones before it.
use Rattle.std.proofs.Common.{◌≡◌, ◌⊎◌, inl, inr, ℕ, suc, ◌+◌, ◌^◌, ◌≤◌, ◌<◌, Bool, true, false, cond, List, [], ◌∷◌, ◌++◌, length, refl, sym, ◌∙◌, ap, subst, arith, append-nil, append_assoc}
use Rattle.std.specs.Prelude.{Option, Some, None, ◌&&◌, ◌||◌, ◌==◌, not, nat_le, nat_lt, filter, option_map, option_to_list, bytes_eq}
use Rattle.std.specs.List.{AllByRecursion, list_any}
use Rattle.std.proofs.lemmas.Bool.{eq-eqb, eqb-true}
use Rattle.std.proofs.lemmas.Slice.Eq.{bytes_eq-Decides}
use Rattle.rl_numbers.specs.declared.limits.TheConstants.{MAX_PLACE, MAX_MESSAGE_SIZE}
use Rattle.rl_numbers.specs.declared.codes.TheConstants.{BAD_ACTION, LOG_FULL, NO_CLIENT_ID, TOO_LONG}
use Rattle.rl_ids.specs.declared.members.MemberKey.{MemberKey}
use Rattle.rl_ids.specs.Forms.{conn_text}
use Rattle.rl_ids.proofs.Forms.{conn_texts_differ}
use Rattle.rl_types.specs.Weight.{body_weight}
use Rattle.rl_events.specs.declared.channel.ChannelEvent.{ChannelEvent}
use Rattle.rl_events.specs.declared.channel.ChannelEvent.TheVariants.{Put, Join, Read, MemberPage, ObjectPage, Gone, Tick, Census}
use Rattle.rl_events.specs.declared.channel.Outcome.{Outcome}
use Rattle.rl_types.specs.declared.messages.Entry.{Entry}
use Rattle.rl_types.specs.declared.messages.Body.{Body}
use Rattle.rl_types.specs.declared.messages.Body.TheVariants.{Messages, Presence, Objects}
use Rattle.rl_types.specs.declared.presence.PresenceItem.{PresenceItem}
use Rattle.rl_types.specs.declared.presence.PresenceAction.{PresenceAction}
use Rattle.rl_types.specs.declared.presence.PresenceAction.TheVariants as presence
use Rattle.rl_objmodel.specs.Rules.{Setting}
use Rattle.rl_model.specs.Objects.{object_rule}
use Rattle.rl_model.specs.History.{clock, setting}
use Rattle.rl_model.specs.Texts.{made_id, gone_id}
use Rattle.rl_model.specs.Ids.{filled_presence, has_long}
use Rattle.rl_model.specs.Members.{is_of, is_on, enters, members, items_of, presence_of}
use Rattle.rl_model.specs.Verdict.{Decision, entries, kept, kept_at, Judgement, Stale, Again, Known, Fails, Adds, is_put, is_bad_action, has_no_client, judged_by_rules, judged_by_id, judged_by_serial, judged, verdict_at, entry_if, entry_of, leaves, gone_entry, entry_of_gone, members_on, decided, decisions, log, remembered_of, limit_rule, fails_or, told}
use Rattle.rl_presmap.specs.Newness.{numbers_of, is_newer_by, is_newer}
use Rattle.rl_presmap.specs.Renewing.{has_gone, AddsInTime, IsOrderly, IsHeldByTypes, items_of_key, Renews, AreRenewing, OrderlyLogsRenew}
use Rattle.rl_presmap.proofs.Ids.{numbers_of_put, numbers_of_gone}

-- LISTS

abbrev Each : {X : Type 0} → (X → Type 0) → List X → Type 0
Each P xs = AllByRecursion P xs

each_weaker : {X : Type 0} (P Q : X → Type 0) → ((x : X) → P x → Q x) → (xs : List X) → Each P xs → Each Q xs
each_weaker P Q weaker [] each = tt
each_weaker P Q weaker (x ∷ xs) each = (weaker x each.0, each_weaker P Q weaker xs each.1)

each_append : {X : Type 0} (P : X → Type 0) (xs ys : List X) → Each P xs → Each P ys → Each P (xs ++ ys)
each_append P [] ys all more = more
each_append P (x ∷ xs) ys all more = (all.0, each_append P xs ys all.1 more)

each_if : {X : Type 0} (P : X → Type 0) (b : Bool) (x : X) (xs : List X) → P x → Each P xs → Each P (cond b (x ∷ xs) xs)
each_if P true x xs own all = (own, all)
each_if P false x xs own all = all

renewing_append : (xs ys : List PresenceItem) → AreRenewing xs → AreRenewing ys → Each (λ (x : PresenceItem). Each (λ (y : PresenceItem). Renews y x) ys) xs → AreRenewing (xs ++ ys)
renewing_append [] ys are more across = more
renewing_append (x ∷ xs) ys are more across =
    (each_append (λ (y : PresenceItem). Renews y x) xs ys are.0 across.0, renewing_append xs ys are.1 more across.1)

across_all : (xs ys : List PresenceItem) (P Q : PresenceItem → Type 0) → ((x y : PresenceItem) → P x → Q y → Renews y x) → Each P xs → Each Q ys → Each (λ (x : PresenceItem). Each (λ (y : PresenceItem). Renews y x) ys) xs
across_all [] ys P Q renews all more = tt
across_all (x ∷ xs) ys P Q renews all more = (each_weaker Q (λ (y : PresenceItem). Renews y x) (λ y q. renews x y all.0 q) ys more, across_all xs ys P Q renews all.1 more)

filter_append : (test : PresenceItem → Bool) (xs ys : List PresenceItem) → filter test (xs ++ ys) ≡ filter test xs ++ filter test ys
filter_append test [] ys = refl
filter_append test (x ∷ xs) ys = by_test (test x) (filter_append test xs ys)
  where
    by_test : (b : Bool) → filter test (xs ++ ys) ≡ filter test xs ++ filter test ys
        → cond b (x ∷ filter test (xs ++ ys)) (filter test (xs ++ ys)) ≡ cond b (x ∷ filter test xs) (filter test xs) ++ filter test ys
    by_test true rest = ap (λ (zs : List PresenceItem). x ∷ zs) rest
    by_test false rest = rest

items_append : (es fs : List Entry) → items_of (es ++ fs) ≡ items_of es ++ items_of fs
items_append [] fs = refl
items_append (e ∷ es) fs = ap (λ zs. presence_of e.body ++ zs) (items_append es fs) ∙ sym (append_assoc (presence_of e.body) (items_of es) (items_of fs))

-- what one more event adds for the key
abbrev added : MemberKey → Option Entry → List PresenceItem
added key None = []
added key (Some entry) = filter (is_of key) (presence_of entry.body)

items_more : (key : MemberKey) (es : List Entry) (entry : Option Entry) → items_of_key key (es ++ option_to_list entry) ≡ items_of_key key es ++ added key entry
items_more key es None = ap (items_of_key key) (append-nil es) ∙ sym (append-nil (items_of_key key es))
items_more key es (Some entry) =
    ap (filter (is_of key)) (items_append es (entry ∷ []) ∙ ap (λ zs. items_of es ++ zs) (append-nil (presence_of entry.body)))
    ∙ filter_append (is_of key) (items_of es) (presence_of entry.body)

or_parts : (a b : Bool) → (a || b) ≡ false → (a ≡ false) × (b ≡ false)
or_parts true b is = absurd (cc)
or_parts false b is = (refl, is)

-- NEWNESS BY NUMBERS

higher : (a b : PresenceItem) (m i n j : ℕ) → numbers_of a ≡ Some (m, i) → numbers_of b ≡ Some (n, j) → (n < m) ⊎ ((n ≡ m) × (j < i)) → Renews a b
higher a b m i n j is_a is_b order = (
  ap (λ x. is_newer_by x a.stamp (numbers_of b) b.stamp) is_a ∙ ap (λ x. is_newer_by (Some (m, i)) a.stamp x b.stamp) is_b ∙ above order,
  λ _. ap (λ x. is_newer_by x b.stamp (numbers_of a) a.stamp) is_b ∙ ap (λ x. is_newer_by (Some (n, j)) b.stamp x a.stamp) is_a ∙ below order,
)
  where
    above : (n < m) ⊎ ((n ≡ m) × (j < i)) → (nat_lt n m || (m == n) && nat_lt j i) ≡ true
    above (inl low) = grind (arith, low)
    above (inr (same, low)) = grind (arith, same, low)

    below : (n < m) ⊎ ((n ≡ m) × (j < i)) → (nat_lt m n || (n == m) && nat_lt i j) ≡ false
    below (inl low) = grind (arith, low)
    below (inr (same, low)) = grind (arith, same, low)

abbrev IsGoneItem : ℕ → PresenceItem → Type 0
IsGoneItem stamp item = (numbers_of item ≡ None) × (item.stamp ≡ stamp) × (item.action ≡ presence.Leave)

ended : (a b : PresenceItem) (stamp : ℕ) → IsGoneItem stamp a → b.stamp ≤ stamp → Renews a b
ended a b stamp is order = (
  ap (λ x. is_newer_by x a.stamp (numbers_of b) b.stamp) is.0 ∙ ap (nat_le b.stamp) is.1 ∙ grind (arith, order),
  λ enter. let e : enters presence.Leave ≡ true = ap enters (sym is.2) ∙ enter in absurd (cc),
)

-- THE ITEMS OF A PUT

abbrev IsPutItem : ℕ → ℕ → ℕ → PresenceItem → Type 0
IsPutItem serial stamp low item = (i : ℕ) × (low ≤ i) × (numbers_of item ≡ Some (serial, i)) × (item.stamp ≡ stamp) × (is_put item.action ≡ true)

not_bad : (action : PresenceAction) → not (is_put action) ≡ false → is_put action ≡ true
not_bad action is = by_test (is_put action) is
  where
    by_test : (b : Bool) → not b ≡ false → b ≡ true
    by_test true is = refl
    by_test false is = absurd (cc)

lower : (serial stamp low high : ℕ) → low ≤ high → (item : PresenceItem) → IsPutItem serial stamp high item → IsPutItem serial stamp low item
lower serial stamp low high order item is = (is.0, omega (arith, is.1), is.2, is.3, is.4)

abbrev new_item : ℕ → ℕ → ℕ → ℕ → PresenceItem → PresenceItem
new_item conn serial stamp index item = record item { id = made_id conn serial index; conn = conn_text conn; stamp = stamp }

is_new : (conn serial stamp index : ℕ) (item : PresenceItem) → serial < 2 ^ 64 → index < 2 ^ 64 → is_bad_action item ≡ false → IsPutItem serial stamp index (new_item conn serial stamp index item)
is_new conn serial stamp index item small short may =
    (index, omega arith, numbers_of_put conn serial index (new_item conn serial stamp index item) refl refl small short, refl, not_bad item.action may)

each_put : (key : MemberKey) (conn serial stamp index : ℕ) (items : List PresenceItem) → serial < 2 ^ 64 → index + length items < 2 ^ 64 → list_any is_bad_action items ≡ false
    → Each (IsPutItem serial stamp index) (filter (is_of key) (filled_presence conn serial stamp index items))
each_put key conn serial stamp index [] small short are = tt
each_put key conn serial stamp index (item ∷ items) small short are =
    let parts = or_parts (is_bad_action item) (list_any is_bad_action items) are in
    let rest = filter (is_of key) (filled_presence conn serial stamp (suc index) items) in
    each_if (IsPutItem serial stamp index) (is_of key (new_item conn serial stamp index item)) (new_item conn serial stamp index item) rest
    (is_new conn serial stamp index item small (omega (arith, short)) parts.0)
    (each_weaker (IsPutItem serial stamp (suc index)) (IsPutItem serial stamp index) (lower serial stamp index (suc index) (omega arith)) rest
    (each_put key conn serial stamp (suc index) items small (omega (arith, short)) parts.1))

renewing_if : (b : Bool) (x : PresenceItem) (xs : List PresenceItem) → Each (λ (y : PresenceItem). Renews y x) xs → AreRenewing xs → AreRenewing (cond b (x ∷ xs) xs)
renewing_if true x xs own all = (own, all)
renewing_if false x xs own all = all

put_renewing : (key : MemberKey) (conn serial stamp index : ℕ) (items : List PresenceItem) → serial < 2 ^ 64 → index + length items < 2 ^ 64 → list_any is_bad_action items ≡ false
    → AreRenewing (filter (is_of key) (filled_presence conn serial stamp index items))
put_renewing key conn serial stamp index [] small short are = tt
put_renewing key conn serial stamp index (item ∷ items) small short are =
    let parts = or_parts (is_bad_action item) (list_any is_bad_action items) are in
    let rest = filter (is_of key) (filled_presence conn serial stamp (suc index) items) in
    let new = new_item conn serial stamp index item in
    let own : numbers_of new ≡ Some (serial, index) = numbers_of_put conn serial index new refl refl small (omega (arith, short)) in
    renewing_if (is_of key new) new rest
    (each_weaker (IsPutItem serial stamp (suc index)) (λ (y : PresenceItem). Renews y new)
    (λ y is. higher y new serial is.0 serial index is.2 own (inr (refl, omega (arith, is.1)))) rest
    (each_put key conn serial stamp (suc index) items small (omega (arith, short)) parts.1))
    (put_renewing key conn serial stamp (suc index) items small (omega (arith, short)) parts.1)

-- items of another connection are not the key's
not_own : (key : MemberKey) (item : PresenceItem) → bytes_eq key.conn item.conn ≡ false → is_of key item ≡ false
not_own key item differ = ap (λ b. b && bytes_eq key.client item.client) differ

none_put : (key : MemberKey) (conn serial stamp index : ℕ) (items : List PresenceItem) → bytes_eq key.conn (conn_text conn) ≡ false → filter (is_of key) (filled_presence conn serial stamp index items) ≡ []
none_put key conn serial stamp index [] differ = refl
none_put key conn serial stamp index (item ∷ items) differ =
    let rest = filter (is_of key) (filled_presence conn serial stamp (suc index) items) in
    ap (λ b. cond b (new_item conn serial stamp index item ∷ rest) rest) (not_own key (new_item conn serial stamp index item) differ)
    ∙ none_put key conn serial stamp (suc index) items differ

-- THE ITEMS OF A GONE

abbrev gone_item : ℕ → ℕ → ℕ → PresenceItem → PresenceItem
gone_item place stamp index member =
    record { action = presence.Leave; client = member.client; conn = member.conn; id = gone_id place index; stamp = stamp; payload = None; encoding = None }

abbrev AreOn : ℕ → List PresenceItem → Type 0
AreOn conn items = Each (λ (item : PresenceItem). item.conn ≡ conn_text conn) items

on_conn : (conn : ℕ) (items : List PresenceItem) → AreOn conn (filter (is_on (conn_text conn)) items)
on_conn conn [] = tt
on_conn conn (item ∷ items) = by_test (is_on (conn_text conn) item) refl (on_conn conn items)
  where
    by_test : (b : Bool) → is_on (conn_text conn) item ≡ b → AreOn conn (filter (is_on (conn_text conn)) items)
        → AreOn conn (cond b (item ∷ filter (is_on (conn_text conn)) items) (filter (is_on (conn_text conn)) items))
    by_test true is rest = (sym ((bytes_eq-Decides (conn_text conn) item.conn).0 is), rest)
    by_test false is rest = rest

each_gone : (key : MemberKey) (conn place stamp index : ℕ) (gone : List PresenceItem) → AreOn conn gone → Each (IsGoneItem stamp) (filter (is_of key) (leaves place stamp index gone))
each_gone key conn place stamp index [] on = tt
each_gone key conn place stamp index (member ∷ gone) on =
    let new = gone_item place stamp index member in
    each_if (IsGoneItem stamp) (is_of key new) new (filter (is_of key) (leaves place stamp (suc index) gone))
    (numbers_of_gone conn place index new on.0 refl, refl, refl) (each_gone key conn place stamp (suc index) gone on.1)

gone_renewing : (stamp : ℕ) (items : List PresenceItem) → Each (IsGoneItem stamp) items → AreRenewing items
gone_renewing stamp [] all = tt
gone_renewing stamp (item ∷ items) all =
    (each_weaker (IsGoneItem stamp) (λ (y : PresenceItem). Renews y item) (λ y is. ended y item stamp is (omega (arith, all.0.1))) items all.1, gone_renewing stamp items all.1)

none_gone : (key : MemberKey) (conn place stamp index : ℕ) (gone : List PresenceItem) → AreOn conn gone → bytes_eq key.conn (conn_text conn) ≡ false → filter (is_of key) (leaves place stamp index gone) ≡ []
none_gone key conn place stamp index [] on differ = refl
none_gone key conn place stamp index (member ∷ gone) on differ =
    let rest = filter (is_of key) (leaves place stamp (suc index) gone) in
    ap (λ b. cond b (gone_item place stamp index member ∷ rest) rest) (not_own key (gone_item place stamp index member) (ap (bytes_eq key.conn) on.0 ∙ differ))
    ∙ none_gone key conn place stamp (suc index) gone on.1 differ

-- SERIALS THAT ARE KEPT

abbrev serial_of : Option (ℕ × Outcome) → Option ℕ
serial_of last = option_map (λ (k : ℕ × Outcome). k.0) last

abbrev kept_serial : ℕ → List Decision → Option ℕ
kept_serial conn before = serial_of (kept conn before)

abbrev kept_after : Judgement → ℕ → Option ℕ → Option ℕ
kept_after Stale serial earlier = earlier
kept_after _ serial earlier = Some serial

serial_if : (b : Bool) (serial : ℕ) (outcome : Outcome) (earlier : Option (ℕ × Outcome)) → serial_of (cond b (Some (serial, outcome)) earlier) ≡ cond b (Some serial) (serial_of earlier)
serial_if true serial outcome earlier = refl
serial_if false serial outcome earlier = refl

same_if : {X : Type 0} (b : Bool) (x : X) → x ≡ cond b x x
same_if true x = refl
same_if false x = refl

kept_put : (j : Judgement) (head conn other serial : ℕ) (body : Body) (now : ℕ) (earlier : Option (ℕ × Outcome))
    → serial_of (kept_at other (Put conn serial body now) (Some (verdict_at head j)) earlier) ≡ cond (conn == other) (kept_after j serial (serial_of earlier)) (serial_of earlier)
kept_put Stale head conn other serial body now earlier = same_if (conn == other) (serial_of earlier)
kept_put (Again outcome) head conn other serial body now earlier = serial_if (conn == other) serial _ earlier
kept_put (Known place) head conn other serial body now earlier = serial_if (conn == other) serial _ earlier
kept_put (Fails code) head conn other serial body now earlier = serial_if (conn == other) serial _ earlier
kept_put Adds head conn other serial body now earlier = serial_if (conn == other) serial _ earlier

abbrev HasKept : ℕ → Option ℕ → Type 0
HasKept m None = ⊥
HasKept m (Some s) = m ≤ s

-- a serial that is not below the last one
not_stale : (serial : ℕ) (last : Option (ℕ × Outcome)) (next j : Judgement) → judged_by_serial serial last next ≡ j → (j ≡ Stale → ⊥) → (m : ℕ) → HasKept m (serial_of last) → m ≤ serial
not_stale serial None next j is not m has = absurd has
not_stale serial (Some last) next j is not m has = by_test (nat_lt serial last.0) refl
  where
    by_test : (b : Bool) → nat_lt serial last.0 ≡ b → m ≤ serial
    by_test true low = absurd (not (sym is ∙ ap (λ b. cond b Stale (cond (serial == last.0) (Again last.1) next)) low))
    by_test false high = grind (arith, high, has)

adds_new : (serial : ℕ) (last : Option (ℕ × Outcome)) (next : Judgement) → judged_by_serial serial last next ≡ Adds → (next ≡ Adds) × ((m : ℕ) → HasKept m (serial_of last) → m < serial)
adds_new serial None next is = (is, λ m has. absurd has)
adds_new serial (Some last) next is = by_tests (nat_lt serial last.0) (serial == last.0) refl refl is
  where
    by_tests : (a b : Bool) → nat_lt serial last.0 ≡ a → (serial == last.0) ≡ b → cond a Stale (cond b (Again last.1) next) ≡ Adds
        → (next ≡ Adds) × ((m : ℕ) → HasKept m (Some last.0) → m < serial)
    by_tests true b low same is = absurd (cc)
    by_tests false true low same is = absurd (cc)
    by_tests false false low apart is = (is, λ m has. grind (arith, low, apart, has))

-- a body of presence that is added has no other actions
rules_pass : (head : ℕ) (items : List PresenceItem) (next : Judgement) → judged_by_rules head (Presence items) next ≡ Adds → list_any is_bad_action items ≡ false
rules_pass head items next is =
    by_tests (nat_lt MAX_MESSAGE_SIZE (body_weight (Presence items)) || has_long (Presence items)) (head == MAX_PLACE) (list_any is_bad_action items) (list_any has_no_client items) is
  where
    by_tests : (a b c d : Bool)
        → cond a (Fails TOO_LONG) (cond b (Fails LOG_FULL) (fails_or (cond c (Some BAD_ACTION) (cond d (Some NO_CLIENT_ID) None)) next)) ≡ Adds → c ≡ false
    by_tests true b c d is = absurd (cc)
    by_tests false true c d is = absurd (cc)
    by_tests false false true d is = absurd (cc)
    by_tests false false false d is = refl

id_passes : (known : Option ℕ) (next : Judgement) → judged_by_id known next ≡ Adds → next ≡ Adds
id_passes None next is = is
id_passes (Some place) next is = absurd (cc)

-- ONE EVENT MORE

-- an item of a Put, of a serial at most the kept one
abbrev IsNumbered : Option ℕ → PresenceItem → Type 0
IsNumbered last item = (m : ℕ) × (i : ℕ) × (numbers_of item ≡ Some (m, i)) × HasKept m last

record Fresh (site : List ℕ) (key : MemberKey) (past : List ChannelEvent) : Type 0 where
  stamps : Each (λ (item : PresenceItem). item.stamp ≤ clock past) (items_of_key key (log site past))
  changes : Each (λ (item : PresenceItem). is_put item.action ≡ true) (items_of_key key (log site past))
  renewing : AreRenewing (items_of_key key (log site past))
  numbers : (conn : ℕ) → conn < 2 ^ 32 → conn_text conn ≡ key.conn → has_gone conn past ≡ false → Each (IsNumbered (kept_serial conn (decisions site past))) (items_of_key key (log site past))

-- what the items that an event adds are like
record Adding (xs ys : List PresenceItem) (stamp : ℕ) : Type 0 where
  stamps : Each (λ (item : PresenceItem). item.stamp ≤ stamp) ys
  changes : Each (λ (item : PresenceItem). is_put item.action ≡ true) ys
  renewing : AreRenewing ys
  across : Each (λ (x : PresenceItem). Each (λ (y : PresenceItem). Renews y x) ys) xs

grown : (site : List ℕ) (key : MemberKey) (past : List ChannelEvent) (event : ChannelEvent) (entry : Option Entry) → log site (event ∷ past) ≡ log site past ++ option_to_list entry
    → Fresh site key past → Adding (items_of_key key (log site past)) (added key entry) (clock (event ∷ past))
    → ((conn : ℕ) → conn < 2 ^ 32 → conn_text conn ≡ key.conn → has_gone conn (event ∷ past) ≡ false
    → Each (IsNumbered (kept_serial conn (decisions site (event ∷ past)))) (items_of_key key (log site past) ++ added key entry))
    → Fresh site key (event ∷ past)
grown site key past event entry is fresh adding numbers =
    let xs = items_of_key key (log site past) in
    let same : items_of_key key (log site (event ∷ past)) ≡ xs ++ added key entry = ap (items_of_key key) is ∙ items_more key (log site past) entry in
    record {
      stamps = subst (Each (λ (item : PresenceItem). item.stamp ≤ clock (event ∷ past))) (sym same)
          (each_append (λ (item : PresenceItem). item.stamp ≤ clock (event ∷ past)) xs (added key entry)
          (each_weaker (λ (item : PresenceItem). item.stamp ≤ clock past) (λ (item : PresenceItem). item.stamp ≤ clock (event ∷ past)) (λ item low. omega (arith, low)) xs fresh.stamps) adding.stamps);
      changes = subst (Each (λ (item : PresenceItem). is_put item.action ≡ true)) (sym same) (each_append (λ (item : PresenceItem). is_put item.action ≡ true) xs (added key entry) fresh.changes adding.changes);
      renewing = subst AreRenewing (sym same) (renewing_append xs (added key entry) fresh.renewing adding.renewing adding.across);
      numbers = λ conn small own none. subst (Each (IsNumbered (kept_serial conn (decisions site (event ∷ past))))) (sym same) (numbers conn small own none);
    }

nothing_across : (xs : List PresenceItem) → Each (λ (x : PresenceItem). Each (λ (y : PresenceItem). Renews y x) []) xs
nothing_across [] = tt
nothing_across (x ∷ xs) = (tt, nothing_across xs)

nothing : (xs ys : List PresenceItem) (stamp : ℕ) → ys ≡ [] → Adding xs ys stamp
nothing xs ys stamp none =
    subst (λ zs. Adding xs zs stamp) (sym none) (record { stamps = tt; changes = tt; renewing = tt; across = nothing_across xs })

-- another connection than the key's
differs : (key : MemberKey) (conn other : ℕ) → conn < 2 ^ 32 → other < 2 ^ 32 → conn_text conn ≡ key.conn → (other == conn) ≡ false → bytes_eq key.conn (conn_text other) ≡ false
differs key conn other small small' own apart = by_test (bytes_eq key.conn (conn_text other)) refl
  where
    by_test : (b : Bool) → bytes_eq key.conn (conn_text other) ≡ b → b ≡ false
    by_test false is = refl
    by_test true is =
        let same : key.conn ≡ conn_text other = (bytes_eq-Decides key.conn (conn_text other)).0 is in
        let e : other ≡ conn = sym (conn_texts_differ conn other small small' (own ∙ same)) in
        let t : (other == conn) ≡ true = eq-eqb other conn e in
        absurd (cc)

still_numbered : (xs ys : List PresenceItem) (before after : Option ℕ) → ys ≡ [] → after ≡ before → Each (IsNumbered before) xs → Each (IsNumbered after) (xs ++ ys)
still_numbered xs ys before after none same all =
    subst (λ k. Each (IsNumbered k) (xs ++ ys)) (sym same) (subst (λ zs. Each (IsNumbered before) (xs ++ zs)) (sym none) (subst (Each (IsNumbered before)) (sym (append-nil xs)) all))

-- an event that adds nothing and leaves the kept serials
quiet : (site : List ℕ) (key : MemberKey) (past : List ChannelEvent) (event : ChannelEvent) → log site (event ∷ past) ≡ log site past ++ []
    → ((conn : ℕ) → kept_serial conn (decisions site (event ∷ past)) ≡ kept_serial conn (decisions site past))
    → ((conn : ℕ) → has_gone conn (event ∷ past) ≡ has_gone conn past) → Fresh site key past → Fresh site key (event ∷ past)
quiet site key past event is kept gone fresh =
    grown site key past event None is fresh (nothing (items_of_key key (log site past)) [] (clock (event ∷ past)) refl)
    (λ c small own none. still_numbered (items_of_key key (log site past)) [] (kept_serial c (decisions site past)) (kept_serial c (decisions site (event ∷ past))) refl (kept c)
    (fresh.numbers c small own (sym (gone c) ∙ none)))

-- A GONE

put_leave : (item : PresenceItem) → item.action ≡ presence.Leave → is_put item.action ≡ true
put_leave item is = ap is_put is

gone_adds : (xs ys : List PresenceItem) (before stamp : ℕ) → before ≤ stamp → Each (λ (item : PresenceItem). item.stamp ≤ before) xs → Each (IsGoneItem stamp) ys → Adding xs ys stamp
gone_adds xs ys before stamp order low all =
    record {
      stamps = each_weaker (IsGoneItem stamp) (λ (item : PresenceItem). item.stamp ≤ stamp) (λ item is. omega (arith, is.1)) ys all;
      changes = each_weaker (IsGoneItem stamp) (λ (item : PresenceItem). is_put item.action ≡ true) (λ item is. put_leave item is.2) ys all;
      renewing = gone_renewing stamp ys all;
      across = across_all xs ys (λ (item : PresenceItem). item.stamp ≤ before) (IsGoneItem stamp) (λ x y low is. ended y x stamp is (omega (arith, low, order))) low all;
    }

added_gone : (key : MemberKey) (conn head stamp : ℕ) (gone : List PresenceItem) → AreOn conn gone → Each (IsGoneItem stamp) (added key (entry_of_gone head stamp conn gone))
added_gone key conn head stamp [] on = tt
added_gone key conn head stamp (member ∷ gone) on = by_test (head == MAX_PLACE)
  where
    by_test : (b : Bool) → Each (IsGoneItem stamp) (added key (cond b None (Some (gone_entry head stamp conn (member ∷ gone)))))
    by_test true = tt
    by_test false = each_gone key conn (head + 1) stamp 0 (member ∷ gone) on

no_gone : (key : MemberKey) (conn head stamp : ℕ) (gone : List PresenceItem) → AreOn conn gone → bytes_eq key.conn (conn_text conn) ≡ false → added key (entry_of_gone head stamp conn gone) ≡ []
no_gone key conn head stamp [] on differ = refl
no_gone key conn head stamp (member ∷ gone) on differ = by_test (head == MAX_PLACE)
  where
    by_test : (b : Bool) → added key (cond b None (Some (gone_entry head stamp conn (member ∷ gone)))) ≡ []
    by_test true = refl
    by_test false = none_gone key conn (head + 1) stamp 0 (member ∷ gone) on differ

gone_step : (site : List ℕ) (key : MemberKey) (past : List ChannelEvent) (conn now : ℕ) → conn < 2 ^ 32 → Fresh site key past → Fresh site key (Gone conn now ∷ past)
gone_step site key past conn now small fresh =
    let before = decisions site past in
    let stamp = clock (Gone conn now ∷ past) in
    let head = length (entries before) in
    let gone = members_on conn before in
    let on : AreOn conn gone = on_conn conn (members (entries before)) in
    let entry = entry_of_gone head stamp conn gone in
    grown site key past (Gone conn now) entry refl fresh
    (gone_adds (items_of_key key (log site past)) (added key entry) (clock past) stamp (omega arith) fresh.stamps (added_gone key conn head stamp gone on))
    (λ c small' own none.
    let parts = or_parts (conn == c) (has_gone c past) none in
    still_numbered (items_of_key key (log site past)) (added key entry) (kept_serial c before) (kept_serial c (decisions site (Gone conn now ∷ past)))
    (no_gone key conn head stamp gone on (differs key c conn small' small own parts.0))
    (ap (λ b. serial_of (cond b None (kept c before))) parts.0)
    (fresh.numbers c small' own parts.1))

-- A PUT

put_adds : (xs ys : List PresenceItem) (serial before stamp : ℕ) (last : Option ℕ) → before ≤ stamp → Each (λ (item : PresenceItem). item.stamp ≤ before) xs → Each (IsNumbered last) xs
    → ((m : ℕ) → HasKept m last → m < serial) → AreRenewing ys → Each (IsPutItem serial stamp 0) ys → Adding xs ys stamp
put_adds xs ys serial before stamp last order low numbered above renewing all =
    record {
      stamps = each_weaker (IsPutItem serial stamp 0) (λ (item : PresenceItem). item.stamp ≤ stamp) (λ item is. omega (arith, is.3)) ys all;
      changes = each_weaker (IsPutItem serial stamp 0) (λ (item : PresenceItem). is_put item.action ≡ true) (λ item is. is.4) ys all;
      renewing = renewing;
      across = across_all xs ys (IsNumbered last) (IsPutItem serial stamp 0)
          (λ x y is_x is_y. higher y x serial is_y.0 is_x.0 is_x.1 is_y.2 is_x.2 (inl (above is_x.0 is_x.3))) numbered all;
    }

numbered_put : (serial stamp : ℕ) (ys : List PresenceItem) → Each (IsPutItem serial stamp 0) ys → Each (IsNumbered (Some serial)) ys
numbered_put serial stamp ys all =
    each_weaker (IsPutItem serial stamp 0) (IsNumbered (Some serial)) (λ item is. (serial, is.0, is.2, omega arith)) ys all

raised : (last next : Option ℕ) (xs : List PresenceItem) → ((m : ℕ) → HasKept m last → HasKept m next) → Each (IsNumbered last) xs → Each (IsNumbered next) xs
raised last next xs more all = each_weaker (IsNumbered last) (IsNumbered next) (λ item is. (is.0, is.1, is.2, more is.0 is.3)) xs all

kept_more : (serial : ℕ) (j : Judgement) (last : Option (ℕ × Outcome)) (next : Judgement) → judged_by_serial serial last next ≡ j → (m : ℕ) → HasKept m (serial_of last) → HasKept m (kept_after j serial (serial_of last))
kept_more serial Stale last next is m has = has
kept_more serial (Again outcome) last next is m has = not_stale serial last next (Again outcome) is (λ e. absurd (cc)) m has
kept_more serial (Known place) last next is m has = not_stale serial last next (Known place) is (λ e. absurd (cc)) m has
kept_more serial (Fails code) last next is m has = not_stale serial last next (Fails code) is (λ e. absurd (cc)) m has
kept_more serial Adds last next is m has = not_stale serial last next Adds is (λ e. absurd (cc)) m has

-- what the rules other than that on serials decide
abbrev by_body : Setting → List Decision → ℕ → Body → Judgement
by_body s before conn body =
    judged_by_rules (length (entries before)) body (fails_or (limit_rule (told before) conn body) (fails_or (object_rule s (entries before) body) Adds))

abbrev by_others : Setting → List Decision → ℕ → Body → Judgement
by_others s before conn body = judged_by_id (remembered_of body before) (by_body s before conn body)

put_numbers : (site : List ℕ) (key : MemberKey) (past : List ChannelEvent) (s : Setting) (conn serial : ℕ) (body : Body) (j : Judgement) → conn < 2 ^ 32 → Fresh site key past
    → judged s (decisions site past) conn serial body ≡ j → (ys : List PresenceItem) → (bytes_eq key.conn (conn_text conn) ≡ false → ys ≡ [])
    → Each (IsNumbered (kept_after j serial (kept_serial conn (decisions site past)))) ys
    → (c : ℕ) → c < 2 ^ 32 → conn_text c ≡ key.conn → has_gone c past ≡ false
    → Each (IsNumbered (cond (conn == c) (kept_after j serial (kept_serial c (decisions site past))) (kept_serial c (decisions site past)))) (items_of_key key (log site past) ++ ys)
put_numbers site key past s conn serial body j small fresh is ys none own c small' same not_gone = by_test (conn == c) refl
  where
    by_test : (b : Bool) → (conn == c) ≡ b
        → Each (IsNumbered (cond b (kept_after j serial (kept_serial c (decisions site past))) (kept_serial c (decisions site past)))) (items_of_key key (log site past) ++ ys)
    by_test false apart =
        still_numbered (items_of_key key (log site past)) ys (kept_serial c (decisions site past)) (kept_serial c (decisions site past)) (none (differs key c conn small' small same apart)) refl (fresh.numbers c small' same not_gone)
    by_test true equal =
        let e : conn ≡ c = eqb-true conn c equal in
        let P : ℕ → Type 0 = λ n. Each (IsNumbered (kept_after j serial (kept_serial n (decisions site past)))) (items_of_key key (log site past) ++ ys) in
        let old : Each (IsNumbered (kept_serial conn (decisions site past))) (items_of_key key (log site past)) =
        subst (λ n. Each (IsNumbered (kept_serial n (decisions site past))) (items_of_key key (log site past))) (sym e) (fresh.numbers c small' same not_gone) in
        subst P e
        (each_append (IsNumbered (kept_after j serial (kept_serial conn (decisions site past)))) (items_of_key key (log site past)) ys
        (raised (kept_serial conn (decisions site past)) (kept_after j serial (kept_serial conn (decisions site past))) (items_of_key key (log site past))
        (kept_more serial j (kept conn (decisions site past)) (by_others s (decisions site past) conn body) is) old)
        own)

-- the items of a key that a Put adds are added in order behind those that were there
abbrev GoesIn : MemberKey → List PresenceItem → ℕ → ℕ → ℕ → Option ℕ → List PresenceItem → Type 0
GoesIn key xs conn stamp serial last ys =
    Adding xs ys stamp × (bytes_eq key.conn (conn_text conn) ≡ false → ys ≡ []) × Each (IsNumbered last) ys

none_go_in : (key : MemberKey) (xs : List PresenceItem) (conn stamp serial : ℕ) (last : Option ℕ) → GoesIn key xs conn stamp serial last []
none_go_in key xs conn stamp serial last = (nothing xs [] stamp refl, λ _. refl, tt)

presence_goes_in : (site : List ℕ) (key : MemberKey) (past : List ChannelEvent) (s : Setting) (conn serial stamp : ℕ) (items : List PresenceItem)
    → conn < 2 ^ 32 → serial < 2 ^ 64 → length items < 2 ^ 64 → clock past ≤ stamp → Fresh site key past → judged s (decisions site past) conn serial (Presence items) ≡ Adds → has_gone conn past ≡ false
    → GoesIn key (items_of_key key (log site past)) conn stamp serial (Some serial) (filter (is_of key) (filled_presence conn serial stamp 0 items))
presence_goes_in site key past s conn serial stamp items small short few later fresh is in_time =
    (by_own (bytes_eq key.conn (conn_text conn)) refl, none_put key conn serial stamp 0 items, numbered_put serial stamp ys all)
  where
    ys : List PresenceItem
    ys = filter (is_of key) (filled_presence conn serial stamp 0 items)

    new : (by_others s (decisions site past) conn (Presence items) ≡ Adds) × ((m : ℕ) → HasKept m (kept_serial conn (decisions site past)) → m < serial)
    new = adds_new serial (kept conn (decisions site past)) (by_others s (decisions site past) conn (Presence items)) is

    may : list_any is_bad_action items ≡ false
    may =
        rules_pass (length (entries (decisions site past))) items (fails_or (limit_rule (told (decisions site past)) conn (Presence items)) (fails_or (object_rule s (entries (decisions site past)) (Presence items)) Adds))
        (id_passes (remembered_of (Presence items) (decisions site past)) (by_body s (decisions site past) conn (Presence items)) new.0)

    all : Each (IsPutItem serial stamp 0) (filter (is_of key) (filled_presence conn serial stamp 0 items))
    all = each_put key conn serial stamp 0 items short (omega (arith, few)) may

    by_own : (b : Bool) → bytes_eq key.conn (conn_text conn) ≡ b → Adding (items_of_key key (log site past)) (filter (is_of key) (filled_presence conn serial stamp 0 items)) stamp
    by_own false differ = nothing (items_of_key key (log site past)) (filter (is_of key) (filled_presence conn serial stamp 0 items)) stamp (none_put key conn serial stamp 0 items differ)
    by_own true same =
        put_adds (items_of_key key (log site past)) (filter (is_of key) (filled_presence conn serial stamp 0 items)) serial (clock past) stamp (kept_serial conn (decisions site past)) later fresh.stamps
        (fresh.numbers conn small (sym ((bytes_eq-Decides key.conn (conn_text conn)).0 same)) in_time) new.1
        (put_renewing key conn serial stamp 0 items short (omega (arith, few)) may) all

-- the Put's setting, whose clock is not behind
body_goes_in : (site : List ℕ) (key : MemberKey) (past : List ChannelEvent) (s : Setting) (conn serial : ℕ) (body : Body) (j : Judgement)
    → conn < 2 ^ 32 → serial < 2 ^ 64 → length (presence_of body) < 2 ^ 64 → clock past ≤ s.now → Fresh site key past → judged s (decisions site past) conn serial body ≡ j
    → (now : ℕ) → AddsInTime (Put conn serial body now) (entry_if j (entry_of s (length (entries (decisions site past))) conn serial body)) past
    → GoesIn key (items_of_key key (log site past)) conn s.now serial (kept_after j serial (kept_serial conn (decisions site past)))
    (added key (entry_if j (entry_of s (length (entries (decisions site past))) conn serial body)))
body_goes_in site key past s conn serial body Stale small short few later fresh is now in_time = none_go_in key (items_of_key key (log site past)) conn s.now serial (kept_serial conn (decisions site past))
body_goes_in site key past s conn serial body (Again outcome) small short few later fresh is now in_time = none_go_in key (items_of_key key (log site past)) conn s.now serial (Some serial)
body_goes_in site key past s conn serial body (Known place) small short few later fresh is now in_time = none_go_in key (items_of_key key (log site past)) conn s.now serial (Some serial)
body_goes_in site key past s conn serial body (Fails code) small short few later fresh is now in_time = none_go_in key (items_of_key key (log site past)) conn s.now serial (Some serial)
body_goes_in site key past s conn serial (Messages items) Adds small short few later fresh is now in_time = none_go_in key (items_of_key key (log site past)) conn s.now serial (Some serial)
body_goes_in site key past s conn serial (Objects ops) Adds small short few later fresh is now in_time = none_go_in key (items_of_key key (log site past)) conn s.now serial (Some serial)
body_goes_in site key past s conn serial (Presence items) Adds small short few later fresh is now in_time =
    presence_goes_in site key past s conn serial s.now items small short few later fresh is in_time

put_step : (site : List ℕ) (key : MemberKey) (past : List ChannelEvent) (conn serial : ℕ) (body : Body) (now : ℕ) → IsHeldByTypes (Put conn serial body now) → Fresh site key past
    → AddsInTime (Put conn serial body now) (decided (setting site (Put conn serial body now ∷ past)) (decisions site past) (Put conn serial body now)).entry past
    → Fresh site key (Put conn serial body now ∷ past)
put_step site key past conn serial body now range fresh in_time =
    let s = setting site (Put conn serial body now ∷ past) in
    let before = decisions site past in
    let head = length (entries before) in
    let j = judged s before conn serial body in
    let entry = entry_if j (entry_of s head conn serial body) in
    let goes = body_goes_in site key past s conn serial body j range.0 range.1 range.2 (omega arith) fresh refl now in_time in
    grown site key past (Put conn serial body now) entry refl fresh goes.0
    (λ c small own none. subst (λ last. Each (IsNumbered last) (items_of_key key (log site past) ++ added key entry)) (sym (kept_put j head conn c serial body now (kept c before)))
    (put_numbers site key past s conn serial body j range.0 fresh refl (added key entry) goes.1 goes.2 c small own none))

-- ALL EVENTS

fresh_always : (site : List ℕ) (key : MemberKey) (past : List ChannelEvent) → Each IsHeldByTypes past → IsOrderly site past → Fresh site key past
fresh_always site key [] range orderly = record { stamps = tt; changes = tt; renewing = tt; numbers = λ conn small own none. tt }
fresh_always site key (Put conn serial body now ∷ past) range orderly =
    put_step site key past conn serial body now range.0 (fresh_always site key past range.1 orderly.1) orderly.0
fresh_always site key (Gone conn now ∷ past) range orderly = gone_step site key past conn now range.0 (fresh_always site key past range.1 orderly.1)
fresh_always site key (Tick now ∷ past) range orderly = quiet site key past (Tick now) refl (λ c. refl) (λ c. refl) (fresh_always site key past range.1 orderly.1)
fresh_always site key (Join asked ∷ past) range orderly = quiet site key past (Join asked) refl (λ c. refl) (λ c. refl) (fresh_always site key past range.1 orderly.1)
fresh_always site key (Read from most ∷ past) range orderly = quiet site key past (Read from most) refl (λ c. refl) (λ c. refl) (fresh_always site key past range.1 orderly.1)
fresh_always site key (MemberPage after most ∷ past) range orderly = quiet site key past (MemberPage after most) refl (λ c. refl) (λ c. refl) (fresh_always site key past range.1 orderly.1)
fresh_always site key (ObjectPage after most ∷ past) range orderly = quiet site key past (ObjectPage after most) refl (λ c. refl) (λ c. refl) (fresh_always site key past range.1 orderly.1)
fresh_always site key (Census ∷ past) range orderly = quiet site key past Census refl (λ c. refl) (λ c. refl) (fresh_always site key past range.1 orderly.1)

last_renews : (items earlier : List PresenceItem) (last : PresenceItem) → items ≡ earlier ++ last ∷ [] → AreRenewing items → Each (λ (item : PresenceItem). is_newer last item ≡ true) earlier
last_renews items earlier last is are = of earlier last (subst AreRenewing is are)
  where
    renewed : (earlier : List PresenceItem) (last item : PresenceItem) → Each (λ (later : PresenceItem). Renews later item) (earlier ++ last ∷ []) → is_newer last item ≡ true
    renewed [] last item all = all.0.0
    renewed (other ∷ earlier) last item all = renewed earlier last item all.1

    of : (earlier : List PresenceItem) (last : PresenceItem) → AreRenewing (earlier ++ last ∷ []) → Each (λ (item : PresenceItem). is_newer last item ≡ true) earlier
    of [] last are = tt
    of (item ∷ earlier) last are = (renewed earlier last item are.0, of earlier last are.1)

-- the law of newness
pub orderly_logs_renew : OrderlyLogsRenew
orderly_logs_renew site past range orderly =
    record {
      changes = λ key. (fresh_always site key past range orderly).changes;
      renewing = λ key. (fresh_always site key past range orderly).renewing;
      last = λ key earlier last is. last_renews (items_of_key key (log site past)) earlier last is (fresh_always site key past range orderly).renewing;
    }
