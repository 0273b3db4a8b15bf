-- Reading items fails with the name of a field.
use Rattle.std.proofs.Common.{ℕ}
use Rattle.std.specs.Prelude.{◌^◌, ◌-◌}
use Rattle.serde_json.specs.Data.{Data, Items}
use Rattle.rl_types.specs.declared.frames.Head.{Head}
use Rattle.rl_jsonfields.specs.declared.names.Field.TheVariants as fields
use Rattle.rl_jsonfields.specs.Fields.{text, whole_in, an_object}
use Rattle.rl_jsonfields.proofs.Named.{Named, then_named, shaped_named, required_named, optional_named, each_at_named}
use Rattle.rl_wireitems.specs.Items.{message_item, message_items, an_action, presence_item, presence_items}

message_item_named : (h : Head) (i : ℕ) (d : Data) → Named (message_item h i d)
unfolding message_item
message_item_named h i d =
    then_named _ _ (shaped_named fields.Messages (an_object d)) (λ o.
    then_named _ _ (optional_named text fields.Id o) (λ id.
    then_named _ _ (optional_named text fields.Name o) (λ name.
    then_named _ _ (optional_named text fields.Data o) (λ payload.
    then_named _ _ (optional_named text fields.Encoding o) (λ encoding.
    then_named _ _ (optional_named text fields.ClientId o) (λ client. tt))))))

presence_item_named : (h : Head) (i : ℕ) (d : Data) → Named (presence_item h i d)
unfolding presence_item
presence_item_named h i d =
    then_named _ _ (shaped_named fields.Presence (an_object d)) (λ o.
    then_named _ _ (required_named an_action fields.Action o) (λ action.
    then_named _ _ (optional_named text fields.ClientId o) (λ client.
    then_named _ _ (optional_named text fields.ConnectionId o) (λ conn.
    then_named _ _ (optional_named text fields.Id o) (λ id.
    then_named _ _ (optional_named (whole_in 0 (2 ^ 64 - 1)) fields.Timestamp o) (λ stamp.
    then_named _ _ (optional_named text fields.Data o) (λ payload.
    then_named _ _ (optional_named text fields.Encoding o) (λ encoding. tt))))))))

pub message_items_named : (h : Head) (ds : Items) → Named (message_items h ds)
unfolding message_items
message_items_named h ds = each_at_named (message_item h) 0 ds (message_item_named h)

pub presence_items_named : (h : Head) (ds : Items) → Named (presence_items h ds)
unfolding presence_items
presence_items_named h ds = each_at_named (presence_item h) 0 ds (presence_item_named h)
