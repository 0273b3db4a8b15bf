-- What the frames hold that the service puts out, as far as it bounds their texts.
use Rattle.std.specs.Prelude.{⊤, ◌≡◌, ℕ, ◌≤◌, ◌+◌, ◌*◌, ◌⊎◌, List, length, None, IfSome, sum_by}
use Rattle.std.specs.List.{AllByRecursion}
use Rattle.rl_numbers.specs.declared.limits.TheConstants.{MAX_FRAME_SIZE, MAX_MESSAGE_SIZE, MAX_CHANNEL_NAME, MAX_CLIENT_ID, MAX_PRESENCE_DATA, MAX_PRESENCE_ENCODING, MAX_MEMBERS, MAX_VALUE_SIZE, ITEM_WEIGHT, PAGE_MEMBERS, PAGE_OBJECTS, PAGE_WEIGHT}
use Rattle.rl_ids.specs.declared.objects.MapValue.{MapValue}
use Rattle.rl_ids.specs.declared.objects.MapValue.TheVariants as values
use Rattle.rl_types.specs.declared.frames.Frame.{Frame}
use Rattle.rl_types.specs.declared.frames.Frame.TheVariants as frames
use Rattle.rl_types.specs.declared.objects.MapCell.{MapCell}
use Rattle.rl_types.specs.declared.objects.ObjectBody.{ObjectBody}
use Rattle.rl_types.specs.declared.objects.ObjectBody.TheVariants as bodies
use Rattle.rl_types.specs.declared.objects.ObjectState.{ObjectState}
use Rattle.rl_types.specs.declared.presence.PresenceItem.{PresenceItem}
use Rattle.rl_types.specs.Weight.{option_len, item_weight, presence_weight, op_weight, state_weight}
use Rattle.rl_wire.specs.Sendable.{IsSendable}
use Rattle.rl_wire.specs.Sizes.{cursor_bytes, head_bytes, text_bytes, item_count, object_count, entry_count, cell_count}
use Rattle.rl_wire.specs.Texts.{frame_text}

-- how long the text of a frame can be, by the bytes of its texts, its items, entries, sites and cells
abbrev pub TextsAreShort : Type 0
TextsAreShort = (f : Frame) → IsSendable f
    → length (frame_text f) ≤ 6 * text_bytes f + 150 * item_count f + 1000 * object_count f + 50 * entry_count f + 400 * cell_count f + 2000

-- the bytes of a frame's texts beside those of its items
abbrev pub own_bytes : Frame → ℕ
own_bytes (frames.Presence head items) = head_bytes head
own_bytes (frames.Message head items) = head_bytes head
own_bytes (frames.Sync channel at items) = length channel + cursor_bytes at
own_bytes (frames.Object head ops) = head_bytes head
own_bytes (frames.ObjectSync channel at states) = length channel + cursor_bytes at
own_bytes f = text_bytes f

-- PRESENCE

-- the connection and the id of an item are short: the channel makes them
abbrev pub IsMade : PresenceItem → Type 0
IsMade p = length p.conn + length p.id ≤ ITEM_WEIGHT

-- an item of a put
abbrev pub ArePut : List PresenceItem → Type 0
ArePut items = (sum_by presence_weight items ≤ MAX_MESSAGE_SIZE) × AllByRecursion IsMade items

-- a member that left with its connection
pub record IsLeft (p : PresenceItem) : Type 0 where
  pub made : IsMade p
  pub client : length p.client ≤ MAX_CLIENT_ID
  pub payload : p.payload ≡ None
  pub encoding : p.encoding ≡ None

abbrev pub AreLeft : List PresenceItem → Type 0
AreLeft items = (length items ≤ MAX_MEMBERS) × AllByRecursion IsLeft items

-- a member of a page
pub record IsMember (p : PresenceItem) : Type 0 where
  pub made : IsMade p
  pub client : length p.client ≤ MAX_CLIENT_ID
  pub payload : option_len p.payload ≤ MAX_PRESENCE_DATA
  pub encoding : option_len p.encoding ≤ MAX_PRESENCE_ENCODING

-- OBJECTS

abbrev pub IsShortValue : MapValue → Type 0
IsShortValue (values.Bytes bytes) = length bytes ≤ MAX_VALUE_SIZE
IsShortValue _ = ⊤

abbrev pub IsShortCell : List ℕ × MapCell → Type 0
IsShortCell cell = IfSome cell.1.value IsShortValue

abbrev pub AreCellsShort : ObjectBody → Type 0
AreCellsShort (bodies.Counter sum) = ⊤
AreCellsShort (bodies.Map cells) = AllByRecursion IsShortCell cells

-- an object of a page: only the channel's own site named it
pub record IsPageObject (state : ObjectState) : Type 0 where
  pub sites : length state.sites ≤ 1
  pub cells : AreCellsShort state.body

-- FRAMES

-- what stands in an entry, or in a page, by the rules of puts and of pages. The ids that an entry's messages are given
-- weigh no more than the messages did
abbrev pub IsPutOut : Frame → Type 0
IsPutOut (frames.Presence head items) = ArePut items ⊎ AreLeft items
IsPutOut (frames.Message head items) = sum_by item_weight items ≤ 2 * MAX_MESSAGE_SIZE
IsPutOut (frames.Sync channel at items) = (length items ≤ PAGE_MEMBERS) × AllByRecursion IsMember items
IsPutOut (frames.Object head ops) = sum_by op_weight ops ≤ MAX_MESSAGE_SIZE
IsPutOut (frames.ObjectSync channel at states) =
    (length states ≤ PAGE_OBJECTS) × (sum_by state_weight states ≤ 2 * PAGE_WEIGHT) × AllByRecursion IsPageObject states
IsPutOut _ = ⊤

-- the text of a frame that the service puts out is one that is read
abbrev pub PutOutFits : Type 0
PutOutFits = (f : Frame) → IsSendable f → own_bytes f ≤ 4 * MAX_CHANNEL_NAME → IsPutOut f → length (frame_text f) ≤ MAX_FRAME_SIZE
