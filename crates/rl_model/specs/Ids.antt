-- The ids of messages (TM2a; RSL1k) and of presence items (TP3a), the serials of operations, and how long what is
-- put may be.
use Rattle.std.specs.Prelude.{ℕ, suc, Bool, false, ◌&&◌, ◌||◌, not, nat_lt, List, [], ◌∷◌, length, Option, Some, None, is_some}
use Rattle.std.specs.List.{list_all, list_any}
use Rattle.rl_numbers.specs.declared.limits.TheConstants.{MAX_CLIENT_ID, MAX_MESSAGE_ID, MAX_PRESENCE_DATA, MAX_PRESENCE_ENCODING}
use Rattle.rl_ids.specs.Forms.{conn_text}
use Rattle.rl_types.specs.declared.messages.Item.{Item}
use Rattle.rl_types.specs.declared.presence.PresenceItem.{PresenceItem}
use Rattle.rl_types.specs.declared.messages.Body.{Body}
use Rattle.rl_types.specs.declared.messages.Body.TheVariants.{Messages, Presence, Objects}
use Rattle.rl_types.specs.declared.objects.ObjectOp.{ObjectOp}
use Rattle.rl_types.specs.Weight.{option_len}
use Rattle.rl_model.specs.Texts.{made_id}

-- the id that the publisher gave the first message
abbrev pub given_id : Body → Option (List ℕ)
given_id (Messages []) = None
given_id (Messages (item ∷ items)) = item.id
given_id (Presence items) = None
given_id (Objects ops) = None

abbrev pub has_id : Item → Bool
has_id item = is_some item.id

-- some messages have an id and some do not
abbrev pub has_mixed_ids : List Item → Bool
has_mixed_ids items = list_any has_id items && not (list_all has_id items)

abbrev pub is_long_id : Item → Bool
is_long_id item = nat_lt MAX_MESSAGE_ID (option_len item.id)

-- a client id, an encoding or data that is too long
abbrev pub is_long_presence : PresenceItem → Bool
is_long_presence item =
    nat_lt MAX_CLIENT_ID (length item.client) || nat_lt MAX_PRESENCE_ENCODING (option_len item.encoding) || nat_lt MAX_PRESENCE_DATA (option_len item.payload)

-- some message's id, or some presence item, is too long. What operations name has a rule of its own
abbrev pub has_long : Body → Bool
has_long (Messages items) = list_any is_long_id items
has_long (Presence items) = list_any is_long_presence items
has_long (Objects ops) = false

abbrev pub filled_id : ℕ → ℕ → ℕ → Option (List ℕ) → List ℕ
filled_id conn serial index (Some id) = id
filled_id conn serial index None = made_id conn serial index

-- the messages, counted from an index, each with an id
abbrev pub filled_items : ℕ → ℕ → ℕ → List Item → List Item
filled_items conn serial index [] = []
filled_items conn serial index (item ∷ items) =
    record item { id = Some (filled_id conn serial index item.id) } ∷ filled_items conn serial (suc index) items

-- the presence items, counted from an index, each with the id, the connection and the stamp of its Put,
-- whatever it was given
abbrev pub filled_presence : ℕ → ℕ → ℕ → ℕ → List PresenceItem → List PresenceItem
filled_presence conn serial now index [] = []
filled_presence conn serial now index (item ∷ items) =
    record item { id = made_id conn serial index; conn = conn_text conn; stamp = now } ∷ filled_presence conn serial now (suc index) items

-- an operation with its serial (RTO): the place of its entry, its index there, and the site
abbrev pub with_serial : List ℕ → ℕ → ℕ → ObjectOp → ObjectOp
with_serial site place index op = record op { serial = Some (record { place = place; index = index; site = site }) }

-- the operations, counted from an index, each with its serial, whatever it was given
abbrev pub filled_ops : List ℕ → ℕ → ℕ → List ObjectOp → List ObjectOp
filled_ops site place index [] = []
filled_ops site place index (op ∷ ops) = with_serial site place index op ∷ filled_ops site place (suc index) ops

-- a body as an entry of this site, at this place and with this stamp has it
abbrev pub filled : List ℕ → ℕ → ℕ → ℕ → ℕ → Body → Body
filled site place conn serial now (Messages items) = Messages (filled_items conn serial 0 items)
filled site place conn serial now (Presence items) = Presence (filled_presence conn serial now 0 items)
filled site place conn serial now (Objects ops) = Objects (filled_ops site place 0 ops)
