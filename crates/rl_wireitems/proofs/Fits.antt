-- What holds of all items that are read.
use Rattle.std.proofs.Common.{◌≡◌, ◌<◌, ℕ, ◌++◌, ◌∷◌, List, length, Option, Some, None, Ok, refl, subst, arith, IfOk, All}
use Rattle.std.specs.Prelude.{◌^◌, ◌-◌, ◌≤◌, IfSome, option_map, unwrap_or}
use Rattle.std.specs.Fmt.{decimal}
use Rattle.serde_json.specs.Data.{Data, Items}
use Rattle.rl_types.specs.declared.frames.Head.{Head}
use Rattle.rl_types.specs.declared.messages.Item.{Item}
use Rattle.rl_types.specs.declared.presence.PresenceItem.{PresenceItem}
use Rattle.rl_jsonfields.specs.declared.names.Field.TheVariants as fields
use Rattle.rl_jsonfields.specs.Fields.{text, whole_in, in_range, an_object, shaped, required, optional, optional_from, field, not_empty, each_at}
use Rattle.rl_jsonfields.proofs.Shapes.{optional_number}
use Rattle.rl_wireitems.specs.Items.{id_at, own_or, message_item, message_items, an_action, presence_item, presence_items, AreMessages, ArePresence, MessagesAreRead}
use Rattle.rl_wireitems.proofs.Steps.{ok_by, then_ok, then_any, each_all, each_full}

abbrev HasItsId : Head → Item → Type 0
HasItsId h m = m.id ≡ None → h.id ≡ None

without_id : (own id : Option (List ℕ)) (i : ℕ) → own_or own (option_map (λ s. s ++ 58 ∷ decimal i) id) ≡ None → id ≡ None
without_id None None i e = refl
without_id None (Some s) i e = absurd cc
without_id (Some t) id i e = absurd cc

message_fits : (h : Head) (i : ℕ) (d : Data) → IfOk (message_item h i d) (HasItsId h)
unfolding message_item
message_fits h i d =
    then_any (shaped fields.Messages (an_object d)) _ (HasItsId h) (λ o.
    then_any (optional text fields.Id o) _ (HasItsId h) (λ id.
    then_any (optional text fields.Name o) _ (HasItsId h) (λ name.
    then_any (optional text fields.Data o) _ (HasItsId h) (λ payload.
    then_any (optional text fields.Encoding o) _ (HasItsId h) (λ encoding.
    then_any (optional text fields.ClientId o) _ (HasItsId h) (λ client e. without_id id h.id i e))))))

pub messages_fit : (h : Head) (ds : Items) (ms : List Item) → message_items h ds ≡ Ok ms → AreMessages h ms
unfolding message_items
messages_fit h ds ms read = subst (λ r. IfOk r (All (HasItsId h))) read (each_all (message_item h) (HasItsId h) (message_fits h) 0 ds)

-- ---- moments

abbrev Fits : ℕ → Type 0
Fits n = n < 2 ^ 64

abbrev IsMoment : PresenceItem → Type 0
IsMoment p = p.stamp < 2 ^ 64

moment_or : (own default : Option ℕ) → IfSome own Fits → IfSome default Fits → unwrap_or own (unwrap_or default 0) < 2 ^ 64
moment_or (Some n) default p q = p
moment_or None (Some n) p q = q
moment_or None None p q = omega arith

smaller : (o : Option ℕ) → IfSome o (λ n. (0 ≤ n) × (n ≤ 2 ^ 64 - 1)) → IfSome o Fits
smaller None h = tt
smaller (Some n) h = omega (arith, h.1)

stamp_fits : (d : Data) → IfOk (optional (whole_in 0 (2 ^ 64 - 1)) fields.Timestamp d) (λ o. IfSome o Fits)
stamp_fits d = ok_by _ (λ o. IfSome o Fits) (λ o e. smaller o (optional_number 0 (2 ^ 64 - 1) fields.Timestamp d o e))

presence_fits_one : (h : Head) → IfSome h.stamp Fits → (i : ℕ) (d : Data) → IfOk (presence_item h i d) IsMoment
unfolding presence_item
presence_fits_one h fits i d =
    then_any (shaped fields.Presence (an_object d)) _ IsMoment (λ o.
    then_any (required an_action fields.Action o) _ IsMoment (λ action.
    then_any (optional text fields.ClientId o) _ IsMoment (λ client.
    then_any (optional text fields.ConnectionId o) _ IsMoment (λ conn.
    then_any (optional text fields.Id o) _ IsMoment (λ id.
    then_ok (optional (whole_in 0 (2 ^ 64 - 1)) fields.Timestamp o) _ (λ s. IfSome s Fits) IsMoment (stamp_fits o) (λ stamp small.
    then_any (optional text fields.Data o) _ IsMoment (λ payload.
    then_any (optional text fields.Encoding o) _ IsMoment (λ encoding. moment_or stamp h.stamp small fits))))))))

pub presence_fits : (h : Head) (ds : Items) (ps : List PresenceItem) → IfSome h.stamp (λ n. n < 2 ^ 64) → presence_items h ds ≡ Ok ps → ArePresence ps
unfolding presence_items
presence_fits h ds ps fits read = subst (λ r. IfOk r (All IsMoment)) read (each_all (presence_item h) IsMoment (presence_fits_one h fits) 0 ds)

-- ---- of a list with items some are read

pub message_full : (h : Head) (ds : Items) (ms : List Item) → not_empty ds ≡ Some ds → message_items h ds ≡ Ok ms → 0 < length ms
unfolding message_items
message_full h ds ms full read = subst (λ r. IfOk r (λ xs. 0 < length xs)) read (each_full (message_item h) 0 ds full)

pub presence_full : (h : Head) (ds : Items) (ps : List PresenceItem) → not_empty ds ≡ Some ds → presence_items h ds ≡ Ok ps → 0 < length ps
unfolding presence_items
presence_full h ds ps full read = subst (λ r. IfOk r (λ xs. 0 < length xs)) read (each_full (presence_item h) 0 ds full)
