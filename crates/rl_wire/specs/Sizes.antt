-- How many bytes of texts a frame holds, how many items, entries and cells.
use Rattle.std.specs.Prelude.{ℕ, ◌+◌, length, Option, Some, None, sum_by}
use Rattle.rl_types.specs.declared.frames.Cursor.{Cursor}
use Rattle.rl_types.specs.declared.frames.Frame.{Frame}
use Rattle.rl_types.specs.declared.frames.Frame.TheVariants as frames
use Rattle.rl_types.specs.declared.frames.Head.{Head}
use Rattle.rl_types.specs.declared.messages.Given.{Given}
use Rattle.rl_types.specs.declared.messages.Given.TheVariants as given
use Rattle.rl_types.specs.declared.messages.Item.{Item}
use Rattle.rl_types.specs.declared.presence.PresenceItem.{PresenceItem}
use Rattle.rl_types.specs.Weight.{option_len}
use Rattle.rl_wireobj.specs.Sizes.{op_bytes, op_entries, state_bytes, state_cells}

abbrev pub message_bytes : Item → ℕ
message_bytes m = option_len m.id + option_len m.name + option_len m.payload + option_len m.encoding + option_len m.client

abbrev pub presence_bytes : PresenceItem → ℕ
presence_bytes p = length p.client + length p.conn + length p.id + option_len p.payload + option_len p.encoding

abbrev pub given_bytes : Option Given → ℕ
given_bytes None = 0
given_bytes (Some (given.Ours s)) = 0
given_bytes (Some (given.Other t)) = length t

abbrev pub cursor_bytes : Option Cursor → ℕ
cursor_bytes None = 0
cursor_bytes (Some c) = length c.sequence + length c.cursor

abbrev pub head_bytes : Head → ℕ
head_bytes h = length h.channel + option_len h.conn + option_len h.id

-- the bytes of all texts
abbrev pub text_bytes : Frame → ℕ
text_bytes frames.Heartbeat = 0
text_bytes (frames.Ack serial count) = 0
text_bytes (frames.Nack serial count code) = 0
text_bytes frames.Connect = 0
text_bytes (frames.Connected conn key ttl idle size code) = length conn + length key
text_bytes frames.Disconnect = 0
text_bytes (frames.Disconnected code) = 0
text_bytes frames.Close = 0
text_bytes frames.Closed = 0
text_bytes (frames.Error channel code) = option_len channel
text_bytes (frames.Attach channel serial) = length channel + given_bytes serial
text_bytes (frames.Attached channel serial flags code) = length channel
text_bytes (frames.Detach channel) = length channel
text_bytes (frames.Detached channel code) = length channel
text_bytes (frames.Presence head items) = head_bytes head + sum_by presence_bytes items
text_bytes (frames.Message head items) = head_bytes head + sum_by message_bytes items
text_bytes (frames.Sync channel at items) = length channel + cursor_bytes at + sum_by presence_bytes items
text_bytes frames.Auth = 0
text_bytes (frames.Object head ops) = head_bytes head + sum_by op_bytes ops
text_bytes (frames.ObjectSync channel at states) = length channel + cursor_bytes at + sum_by state_bytes states

-- messages and presence items
abbrev pub item_count : Frame → ℕ
item_count (frames.Presence head items) = length items
item_count (frames.Message head items) = length items
item_count (frames.Sync channel at items) = length items
item_count _ = 0

-- operations and objects
abbrev pub object_count : Frame → ℕ
object_count (frames.Object head ops) = length ops
object_count (frames.ObjectSync channel at states) = length states
object_count _ = 0

-- the entries with which maps are made
abbrev pub entry_count : Frame → ℕ
entry_count (frames.Object head ops) = sum_by op_entries ops
entry_count _ = 0

-- the sites and cells of objects
abbrev pub cell_count : Frame → ℕ
cell_count (frames.ObjectSync channel at states) = sum_by state_cells states
cell_count _ = 0
