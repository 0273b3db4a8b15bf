-- The items of MESSAGE, PRESENCE and SYNC frames: how they are read, and how they are written.
use Rattle.std.specs.Prelude.{ℕ, ◌+◌, ◌^◌, ◌-◌, ◌==◌, ◌≡◌, ◌<◌, List, [], ◌∷◌, ◌++◌, map, Option, Some, None, option_and_then, option_map, unwrap_or, IfSome, Result, Ok, Err, if◌then◌else◌}
use Rattle.std.specs.List.{All}
use Rattle.std.specs.Fmt.{decimal}
use Rattle.serde_json.specs.Data.{Data, string, object, Items, no_items, item, Members, no_members}
use Rattle.serde_json.specs.Find.{as_u64, as_number}
use Rattle.serde_json.specs.View.{items_of}
use Rattle.rl_numbers.specs.declared.actions.TheConstants.{ABSENT, PRESENT, ENTER, LEAVE, UPDATE}
use Rattle.rl_types.specs.declared.frames.Head.{Head}
use Rattle.rl_types.specs.declared.messages.Item.{Item}
use Rattle.rl_types.specs.declared.presence.PresenceAction.{PresenceAction}
use Rattle.rl_types.specs.declared.presence.PresenceAction.TheVariants as actions
use Rattle.rl_types.specs.declared.presence.PresenceItem.{PresenceItem}
use Rattle.rl_jsonfields.specs.declared.names.Field.TheVariants as fields
use Rattle.rl_jsonfields.specs.Fields.{Reads, ◌>>=◌, text, whole_in, an_object, shaped, required, optional, each_at}
use Rattle.rl_jsonfields.specs.Texts.{num, with, with_text, with_number, text_unless, number_unless}

-- ---- what an item takes from its frame

-- the id of the item with this index in a frame with an id: that id, a colon, the index
abbrev pub id_at : Head → ℕ → Option (List ℕ)
id_at h i = option_map (λ id. id ++ 58 ∷ decimal i) h.id

-- the item's own, else the frame's
abbrev pub own_or : Option (List ℕ) → Option (List ℕ) → Option (List ℕ)
own_or None default = default
own_or (Some s) default = Some s

-- the head of a SYNC frame: it has no fields from which an item takes anything
abbrev pub sync_head : List ℕ → Head
sync_head channel = record { channel = channel; msg = None; serial = None; conn = None; id = None; stamp = None }

-- ---- reading

-- a message
unfoldable pub message_item : Head → ℕ → Data → Reads Item
message_item h i d = do
  o ← shaped fields.Messages (an_object d)
  id ← optional text fields.Id o
  name ← optional text fields.Name o
  payload ← optional text fields.Data o
  encoding ← optional text fields.Encoding o
  client ← optional text fields.ClientId o
  Ok (record { id = own_or id (id_at h i); name = name; payload = payload; encoding = encoding; client = client })

-- the numbers of the actions
abbrev pub action_at : ℕ → Option PresenceAction
action_at n =
    if n == ABSENT then Some actions.Absent
    else if n == PRESENT then Some actions.Present
    else if n == ENTER then Some actions.Enter
    else if n == LEAVE then Some actions.Leave
    else if n == UPDATE then Some actions.Update
    else None

abbrev pub an_action : Data → Option PresenceAction
an_action d = option_and_then action_at (option_and_then as_u64 (as_number d))

-- what is told of a member
unfoldable pub presence_item : Head → ℕ → Data → Reads PresenceItem
presence_item h i d = do
  o ← shaped fields.Presence (an_object d)
  action ← required an_action fields.Action o
  client ← optional text fields.ClientId o
  conn ← optional text fields.ConnectionId o
  id ← optional text fields.Id o
  stamp ← optional (whole_in 0 (2 ^ 64 - 1)) fields.Timestamp o
  payload ← optional text fields.Data o
  encoding ← optional text fields.Encoding o
  Ok (record {
    action = action;
    client = unwrap_or client [];
    conn = unwrap_or conn (unwrap_or h.conn []);
    id = unwrap_or id (unwrap_or (id_at h i) []);
    stamp = unwrap_or stamp (unwrap_or h.stamp 0);
    payload = payload;
    encoding = encoding;
  })

-- the items of a list in order, each with its index, counted from 0
unfoldable pub message_items : Head → Items → Reads (List Item)
message_items h ds = each_at (message_item h) 0 ds

unfoldable pub presence_items : Head → Items → Reads (List PresenceItem)
presence_items h ds = each_at (presence_item h) 0 ds

-- ---- writing

-- a message: each field exactly where it is there
unfoldable pub message_value : Item → Data
message_value m =
    object (with_text fields.ClientId m.client (with_text fields.Encoding m.encoding (with_text fields.Data m.payload (with_text fields.Name m.name (with_text fields.Id m.id no_members)))))

abbrev pub number_of : PresenceAction → ℕ
number_of actions.Absent = ABSENT
number_of actions.Present = PRESENT
number_of actions.Enter = ENTER
number_of actions.Leave = LEAVE
number_of actions.Update = UPDATE

-- what is told of a member, with what is written of its four texts and numbers that have a default
abbrev pub presence_with : PresenceItem → Option (List ℕ) → Option (List ℕ) → Option (List ℕ) → Option ℕ → Data
presence_with p client conn id stamp =
    object (with_text fields.Encoding p.encoding (with_text fields.Data p.payload (with_number fields.Timestamp stamp (with_text fields.Id id (with_text fields.ConnectionId conn (with_text fields.ClientId client (with fields.Action (num (number_of p.action)) no_members)))))))

-- in PRESENCE: each is left out where the item reads the same without it
unfoldable pub presence_value : Head → ℕ → PresenceItem → Data
presence_value h i p =
    presence_with p (text_unless [] p.client) (text_unless (unwrap_or h.conn []) p.conn) (text_unless (unwrap_or (id_at h i) []) p.id) (number_unless (unwrap_or h.stamp 0) p.stamp)

-- in SYNC: each is written
unfoldable pub sync_value : PresenceItem → Data
sync_value p = presence_with p (Some p.client) (Some p.conn) (Some p.id) (Some p.stamp)

-- the items in order, each with its index, counted from i
abbrev pub values_at : {A : Type 0} → (ℕ → A → Data) → ℕ → List A → List Data
values_at value i [] = []
values_at value i (x ∷ xs) = value i x ∷ values_at value (i + 1) xs

unfoldable pub message_values : List Item → Items
message_values ms = items_of (map message_value ms)

unfoldable pub presence_values : Head → List PresenceItem → Items
presence_values h ps = items_of (values_at (presence_value h) 0 ps)

unfoldable pub sync_values : List PresenceItem → Items
sync_values ps = items_of (map sync_value ps)

-- ---- what holds of all items that are read

-- a message without id stands in a frame without id
abbrev pub AreMessages : Head → List Item → Type 0
AreMessages h ms = All (λ m. m.id ≡ None → h.id ≡ None) ms

-- a moment has at most 64 bits
abbrev pub ArePresence : List PresenceItem → Type 0
ArePresence ps = All (λ p. p.stamp < 2 ^ 64) ps

-- ---- laws

abbrev pub MessagesAreRead : Type 0
MessagesAreRead = (h : Head) (ds : Items) (ms : List Item) → message_items h ds ≡ Ok ms → AreMessages h ms

abbrev pub PresenceIsRead : Type 0
PresenceIsRead = (h : Head) (ds : Items) (ps : List PresenceItem) → IfSome h.stamp (λ n. n < 2 ^ 64) → presence_items h ds ≡ Ok ps → ArePresence ps

abbrev pub MessagesAgain : Type 0
MessagesAgain = (h : Head) (ms : List Item) → AreMessages h ms → message_items h (message_values ms) ≡ Ok ms

abbrev pub PresenceAgain : Type 0
PresenceAgain = (h : Head) (ps : List PresenceItem) → ArePresence ps → presence_items h (presence_values h ps) ≡ Ok ps

abbrev pub SyncAgain : Type 0
SyncAgain = (h : Head) (ps : List PresenceItem) → ArePresence ps → presence_items h (sync_values ps) ≡ Ok ps
