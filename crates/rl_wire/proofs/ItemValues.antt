-- The numbers of written items are whole and fit, and the members of their values stand in order.
use Rattle.std.proofs.Common.{ℕ, ◌+◌, ◌<◌, List, [], ◌∷◌, map, Option, Some, arith}
use Rattle.std.specs.Prelude.{IfSome, ◌^◌, unwrap_or}
use Rattle.std.proofs.lemmas.List.Elements.{All-head, All-tail}
use Rattle.serde_json.specs.Data.{no_members}
use Rattle.serde_json.specs.View.{items_of}
use Rattle.rl_types.specs.declared.frames.Head.{Head}
use Rattle.rl_types.specs.declared.messages.Item.{Item}
use Rattle.rl_types.specs.declared.presence.PresenceAction.{PresenceAction}
use Rattle.rl_types.specs.declared.presence.PresenceAction.TheVariants as actions
use Rattle.rl_types.specs.declared.presence.PresenceItem.{PresenceItem}
use Rattle.rl_jsonfields.specs.declared.names.Field.TheVariants as fields
use Rattle.rl_jsonfields.proofs.Compact.{Plain, PlainItems, nothing_orderly, number_orderly, with_text_orderly, with_number_orderly}
use Rattle.rl_jsonfields.proofs.Got.{number_unless_has}
use Rattle.rl_wireitems.specs.Items.{message_value, message_values, number_of, presence_with, presence_value, presence_values, sync_value, sync_values, values_at, ArePresence}

message_plain : (m : Item) → Plain (message_value m)
unfolding message_value
message_plain m =
    (with_text_orderly fields.ClientId m.client _ (with_text_orderly fields.Encoding m.encoding _ (with_text_orderly fields.Data m.payload _ (with_text_orderly fields.Name m.name _ (with_text_orderly fields.Id m.id _ nothing_orderly))))).plain

messages_plain : (ms : List Item) → PlainItems (items_of (map message_value ms))
messages_plain [] = tt
messages_plain (m ∷ ms) = (message_plain m, messages_plain ms)

pub message_values_plain : (ms : List Item) → PlainItems (message_values ms)
unfolding message_values
message_values_plain ms = messages_plain ms

small : (a : PresenceAction) → number_of a < 2 ^ 64
small actions.Absent = omega arith
small actions.Present = omega arith
small actions.Enter = omega arith
small actions.Leave = omega arith
small actions.Update = omega arith

member_plain : (p : PresenceItem) (client conn id : Option (List ℕ)) (stamp : Option ℕ) → IfSome stamp (λ n. n < 2 ^ 64) → Plain (presence_with p client conn id stamp)
member_plain p client conn id stamp h =
    (with_text_orderly fields.Encoding p.encoding _ (with_text_orderly fields.Data p.payload _ (with_number_orderly fields.Timestamp stamp _ h (with_text_orderly fields.Id id _ (with_text_orderly fields.ConnectionId conn _ (with_text_orderly fields.ClientId client _ (number_orderly fields.Action (number_of p.action) no_members (small p.action) nothing_orderly))))))).plain

abbrev Fits : PresenceItem → Type 0
Fits p = p.stamp < 2 ^ 64

presence_plain : (h : Head) (i : ℕ) (p : PresenceItem) → Fits p → Plain (presence_value h i p)
unfolding presence_value
presence_plain h i p fits = member_plain p _ _ _ _ (number_unless_has (unwrap_or h.stamp 0) p.stamp (λ n. n < 2 ^ 64) fits)

presence_plain_at : (h : Head) (i : ℕ) (ps : List PresenceItem) → ArePresence ps → PlainItems (items_of (values_at (presence_value h) i ps))
presence_plain_at h i [] fits = tt
presence_plain_at h i (p ∷ ps) fits = (presence_plain h i p (All-head Fits p ps fits), presence_plain_at h (i + 1) ps (All-tail Fits p ps fits))

pub presence_values_plain : (h : Head) (ps : List PresenceItem) → ArePresence ps → PlainItems (presence_values h ps)
unfolding presence_values
presence_values_plain h ps fits = presence_plain_at h 0 ps fits

sync_plain : (p : PresenceItem) → Fits p → Plain (sync_value p)
unfolding sync_value
sync_plain p fits = member_plain p (Some p.client) (Some p.conn) (Some p.id) (Some p.stamp) fits

syncs_plain : (ps : List PresenceItem) → ArePresence ps → PlainItems (items_of (map sync_value ps))
syncs_plain [] fits = tt
syncs_plain (p ∷ ps) fits = (sync_plain p (All-head Fits p ps fits), syncs_plain ps (All-tail Fits p ps fits))

pub sync_values_plain : (ps : List PresenceItem) → ArePresence ps → PlainItems (sync_values ps)
unfolding sync_values
sync_values_plain ps fits = syncs_plain ps fits
