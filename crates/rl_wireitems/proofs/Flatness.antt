-- What is written of items has no float, and nests little.
use Rattle.std.proofs.Common.{ℕ, ◌+◌, List, [], ◌∷◌, Option, Some}
use Rattle.serde_json.specs.Data.{Data, Items, no_members}
use Rattle.serde_json.specs.View.{items_of}
use Rattle.rl_types.specs.declared.frames.Head.{Head}
use Rattle.rl_types.specs.declared.messages.Item.{Item}
use Rattle.rl_types.specs.declared.presence.PresenceItem.{PresenceItem}
use Rattle.rl_jsonfields.specs.declared.names.Field.TheVariants as fields
use Rattle.rl_jsonfields.proofs.Flat.{Flat, FlatItems, nothing, number_flat, with_text_flat, with_number_flat, object_flat, no_items_flat, item_flat, items_flat}
use Rattle.rl_wireitems.specs.Items.{message_value, message_values, number_of, presence_with, presence_value, presence_values, sync_value, sync_values, values_at}

message_flat : (m : Item) → Flat 1 (message_value m)
unfolding message_value
message_flat m =
    object_flat 0 _ (with_text_flat 0 fields.ClientId m.client _ (with_text_flat 0 fields.Encoding m.encoding _ (with_text_flat 0 fields.Data m.payload _
    (with_text_flat 0 fields.Name m.name _ (with_text_flat 0 fields.Id m.id _ (nothing 0))))))

presence_flat : (p : PresenceItem) (client conn id : Option (List ℕ)) (stamp : Option ℕ) → Flat 1 (presence_with p client conn id stamp)
presence_flat p client conn id stamp =
    object_flat 0 _ (with_text_flat 0 fields.Encoding p.encoding _ (with_text_flat 0 fields.Data p.payload _ (with_number_flat 0 fields.Timestamp stamp _
    (with_text_flat 0 fields.Id id _ (with_text_flat 0 fields.ConnectionId conn _ (with_text_flat 0 fields.ClientId client _
    (number_flat 0 fields.Action (number_of p.action) no_members (nothing 0))))))))

all_flat : {A : Type 0} (value : ℕ → A → Data) (i : ℕ) (xs : List A) → ((i : ℕ) (x : A) → Flat 1 (value i x)) → FlatItems 1 (items_of (values_at value i xs))
all_flat value i [] h = no_items_flat 1
all_flat value i (x ∷ xs) h = item_flat 1 (value i x) _ (h i x) (all_flat value (i + 1) xs h)

pub message_values_flat : (ms : List Item) → FlatItems 1 (message_values ms)
unfolding message_values
message_values_flat ms = items_flat 1 message_value ms message_flat

pub presence_values_flat : (h : Head) (ps : List PresenceItem) → FlatItems 1 (presence_values h ps)
unfolding presence_values presence_value
presence_values_flat h ps = all_flat (presence_value h) 0 ps (λ i p. presence_flat p _ _ _ _)

pub sync_values_flat : (ps : List PresenceItem) → FlatItems 1 (sync_values ps)
unfolding sync_values sync_value
sync_values_flat ps = items_flat 1 sync_value ps (λ p. presence_flat p (Some p.client) (Some p.conn) (Some p.id) (Some p.stamp))
