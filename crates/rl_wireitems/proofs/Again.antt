-- What is written of items is read again as the same items.
use Rattle.std.proofs.Common.{◌≡◌, ◌<◌, ℕ, ◌+◌, ◌++◌, ◌∷◌, [], List, length, map, Option, Some, None, Ok, refl, sym, ap, ◌∙◌, arith, All}
use Rattle.std.specs.Prelude.{◌^◌, ◌-◌, ◌≤◌, IfSome, option_map, unwrap_or}
use Rattle.std.specs.Fmt.{decimal}
use Rattle.std.proofs.lemmas.List.Elements.{All-head, All-tail}
use Rattle.serde_json.specs.Data.{Data, string, object, Items, Members, no_members}
use Rattle.serde_json.specs.View.{items_of}
use Rattle.rl_types.specs.declared.frames.Head.{Head}
use Rattle.rl_types.specs.declared.messages.Item.{Item}
use Rattle.rl_types.specs.declared.presence.PresenceAction.{PresenceAction}
use Rattle.rl_types.specs.declared.presence.PresenceAction.TheVariants as actions
use Rattle.rl_types.specs.declared.presence.PresenceItem.{PresenceItem}
use Rattle.rl_jsonfields.specs.declared.names.Field.TheVariants as fields
use Rattle.rl_jsonfields.specs.Fields.{Reads, ◌>>=◌, text, whole_in, an_object, required, optional, not_empty, each_at}
use Rattle.rl_jsonfields.specs.Texts.{num, with, with_text, with_number, text_unless, number_unless}
use Rattle.rl_jsonfields.proofs.Got.{found, required_found, text_found, number_found, found_rules, text_unless_same, number_unless_same, number_unless_has}
use Rattle.rl_wireitems.specs.Items.{id_at, own_or, message_item, message_items, message_value, message_values, action_at, number_of, an_action, presence_item, presence_items, presence_with, presence_value, presence_values, sync_value, sync_values, values_at, AreMessages, ArePresence}

-- ---- messages

abbrev message_members : Item → Members
message_members m =
    with_text fields.ClientId m.client (with_text fields.Encoding m.encoding (with_text fields.Data m.payload (with_text fields.Name m.name (with_text fields.Id m.id no_members))))

same_id : (own id : Option (List ℕ)) (i : ℕ) → (own ≡ None → id ≡ None) → own_or own (option_map (λ s. s ++ 58 ∷ decimal i) id) ≡ own
same_id (Some s) id i h = refl
same_id None id i h = rw (h refl) refl

message_again : (h : Head) (i : ℕ) (m : Item) → (m.id ≡ None → h.id ≡ None) → message_item h i (message_value m) ≡ Ok m
unfolding message_item message_value
message_again h i m fits =
    let ms = message_members m in
    let e0 : found fields.Id ms ≡ option_map string m.id = simp found_rules in
    let e1 : found fields.Name ms ≡ option_map string m.name = simp found_rules in
    let e2 : found fields.Data ms ≡ option_map string m.payload = simp found_rules in
    let e3 : found fields.Encoding ms ≡ option_map string m.encoding = simp found_rules in
    let e4 : found fields.ClientId ms ≡ option_map string m.client = simp found_rules in
    rw (text_found fields.Id ms m.id e0, text_found fields.Name ms m.name e1, text_found fields.Data ms m.payload e2, text_found fields.Encoding ms m.encoding e3, text_found fields.ClientId ms m.client e4)
    (rw (same_id m.id h.id i fits) refl)

each_message : (h : Head) (i : ℕ) (ms : List Item) → AreMessages h ms → each_at (message_item h) i (items_of (map message_value ms)) ≡ Ok ms
unfolding each_at
each_message h i [] fits = refl
each_message h i (m ∷ ms) fits =
    rw (message_again h i m (All-head (λ m. m.id ≡ None → h.id ≡ None) m ms fits), each_message h (i + 1) ms (All-tail (λ m. m.id ≡ None → h.id ≡ None) m ms fits)) refl

pub messages_again : (h : Head) (ms : List Item) → AreMessages h ms → message_items h (message_values ms) ≡ Ok ms
unfolding message_items message_values
messages_again h ms fits = each_message h 0 ms fits

pub message_values_some : (ms : List Item) → 0 < length ms → not_empty (message_values ms) ≡ Some (message_values ms)
unfolding message_values
message_values_some [] some = absurd (omega arith)
message_values_some (m ∷ ms) some = refl

-- ---- presence

action_again : (a : PresenceAction) → action_at (number_of a) ≡ Some a
action_again actions.Absent = refl
action_again actions.Present = refl
action_again actions.Enter = refl
action_again actions.Leave = refl
action_again actions.Update = refl

abbrev presence_members : PresenceItem → Option (List ℕ) → Option (List ℕ) → Option (List ℕ) → Option ℕ → Members
presence_members p client conn id stamp =
    with_text fields.Encoding p.encoding (with_text fields.Data p.payload (with_number fields.Timestamp stamp (with_text fields.Id id (with_text fields.ConnectionId conn (with_text fields.ClientId client (with fields.Action (num (number_of p.action)) no_members))))))

-- whatever is written of the four, the item is read with these
presence_read : (h : Head) (i : ℕ) (p : PresenceItem) (client conn id : Option (List ℕ)) (stamp : Option ℕ) → IfSome stamp (λ n. (0 ≤ n) × (n ≤ 2 ^ 64 - 1))
    → unwrap_or client [] ≡ p.client → unwrap_or conn (unwrap_or h.conn []) ≡ p.conn → unwrap_or id (unwrap_or (id_at h i) []) ≡ p.id → unwrap_or stamp (unwrap_or h.stamp 0) ≡ p.stamp
    → presence_item h i (presence_with p client conn id stamp) ≡ Ok p
unfolding presence_item
presence_read h i p client conn id stamp fits is_client is_conn is_id is_stamp =
    let ms = presence_members p client conn id stamp in
    let e0 : found fields.Action ms ≡ Some (num (number_of p.action)) = simp found_rules in
    let e1 : found fields.ClientId ms ≡ option_map string client = simp found_rules in
    let e2 : found fields.ConnectionId ms ≡ option_map string conn = simp found_rules in
    let e3 : found fields.Id ms ≡ option_map string id = simp found_rules in
    let e4 : found fields.Timestamp ms ≡ option_map num stamp = simp found_rules in
    let e5 : found fields.Data ms ≡ option_map string p.payload = simp found_rules in
    let e6 : found fields.Encoding ms ≡ option_map string p.encoding = simp found_rules in
    rw (required_found an_action fields.Action ms (num (number_of p.action)) p.action e0 refl (action_again p.action), text_found fields.ClientId ms client e1, text_found fields.ConnectionId ms conn e2, text_found fields.Id ms id e3, number_found 0 (2 ^ 64 - 1) fields.Timestamp ms stamp e4 fits, text_found fields.Data ms p.payload e5, text_found fields.Encoding ms p.encoding e6)
    (rw (is_client, is_conn, is_id, is_stamp) refl)

within : (n : ℕ) → n < 2 ^ 64 → (0 ≤ n) × (n ≤ 2 ^ 64 - 1)
within n small = (omega arith, omega (arith, small))

each_presence : (h : Head) (i : ℕ) (ps : List PresenceItem) → ArePresence ps → each_at (presence_item h) i (items_of (values_at (presence_value h) i ps)) ≡ Ok ps
unfolding each_at presence_value
each_presence h i [] fits = refl
each_presence h i (p ∷ ps) fits =
    let small = within p.stamp (All-head (λ p. p.stamp < 2 ^ 64) p ps fits) in
    let here : presence_item h i (presence_value h i p) ≡ Ok p =
    presence_read h i p _ _ _ _ (number_unless_has (unwrap_or h.stamp 0) p.stamp (λ n. (0 ≤ n) × (n ≤ 2 ^ 64 - 1)) small)
    (text_unless_same [] p.client) (text_unless_same (unwrap_or h.conn []) p.conn) (text_unless_same (unwrap_or (id_at h i) []) p.id) (number_unless_same (unwrap_or h.stamp 0) p.stamp) in
    rw (here, each_presence h (i + 1) ps (All-tail (λ p. p.stamp < 2 ^ 64) p ps fits)) refl

pub presence_again : (h : Head) (ps : List PresenceItem) → ArePresence ps → presence_items h (presence_values h ps) ≡ Ok ps
unfolding presence_items presence_values
presence_again h ps fits = each_presence h 0 ps fits

each_sync : (h : Head) (i : ℕ) (ps : List PresenceItem) → ArePresence ps → each_at (presence_item h) i (items_of (map sync_value ps)) ≡ Ok ps
unfolding each_at sync_value
each_sync h i [] fits = refl
each_sync h i (p ∷ ps) fits =
    let small = within p.stamp (All-head (λ p. p.stamp < 2 ^ 64) p ps fits) in
    let here : presence_item h i (sync_value p) ≡ Ok p = presence_read h i p (Some p.client) (Some p.conn) (Some p.id) (Some p.stamp) small refl refl refl refl in
    rw (here, each_sync h (i + 1) ps (All-tail (λ p. p.stamp < 2 ^ 64) p ps fits)) refl

pub sync_again : (h : Head) (ps : List PresenceItem) → ArePresence ps → presence_items h (sync_values ps) ≡ Ok ps
unfolding presence_items sync_values
sync_again h ps fits = each_sync h 0 ps fits

pub presence_values_some : (h : Head) (ps : List PresenceItem) → 0 < length ps → not_empty (presence_values h ps) ≡ Some (presence_values h ps)
unfolding presence_values
presence_values_some h [] some = absurd (omega arith)
presence_values_some h (p ∷ ps) some = refl
