-- Objects as a page shows them: how an item of an OBJECT_SYNC frame is read, and how it is written.
use Rattle.std.specs.Prelude.{ℕ, Bool, true, false, ℤ, int_lt, List, Option, Some, None, option_map, Ok, Err, if◌then◌else◌}
use Rattle.serde_json.specs.Data.{Data, boolean, string, object, Members, no_members}
use Rattle.rl_ids.specs.Forms.{is_site_code}
use Rattle.rl_ids.specs.Objects.{object_id_text, op_serial_text}
use Rattle.rl_ids.specs.declared.objects.MapValue.{MapValue}
use Rattle.rl_ids.specs.declared.serials.OpSerial.{OpSerial}
use Rattle.rl_types.specs.declared.frames.WireFault.TheVariants.{Missing, BadField}
use Rattle.rl_types.specs.declared.objects.MapCell.{MapCell}
use Rattle.rl_types.specs.declared.objects.ObjectBody.{ObjectBody}
use Rattle.rl_types.specs.declared.objects.ObjectBody.TheVariants as bodies
use Rattle.rl_types.specs.declared.objects.ObjectState.{ObjectState}
use Rattle.rl_jsonfields.specs.declared.names.Field.TheVariants as fields
use Rattle.rl_jsonfields.specs.Names.{spelled}
use Rattle.rl_jsonfields.specs.Fields.{Reads, ◌>>=◌, min_signed, max_signed, signed, an_object, some_members, field, shaped, required, optional, flag, each_member}
use Rattle.rl_jsonfields.specs.Texts.{integer, with, member_of_each}
use Rattle.rl_wireobj.specs.Values.{an_id, a_serial, a_value, value_json}
use Rattle.rl_wireobj.specs.Operations.{entries_in}

-- ---- reading

-- a site with the greatest serial that it gave
abbrev pub site_with : List ℕ → Option OpSerial → Option (List ℕ × OpSerial)
site_with key serial = if is_site_code key then option_map (λ s. (key, s)) serial else None

unfoldable pub site_at : List ℕ → Data → Reads (List ℕ × OpSerial)
site_at key d = shaped fields.SiteTimeserials (site_with key (a_serial d))

unfoldable pub sites : Data → Reads (List (List ℕ × OpSerial))
sites d = do
  members ← required some_members fields.SiteTimeserials d
  each_member site_at members

-- nothing stands at a field
abbrev pub none_at : Option Data → Reads (Option MapValue)
none_at None = Ok None
none_at (Some d) = Err (BadField (spelled fields.Data))

-- a tombstone has no value, and what is none has one
abbrev pub held : Bool → Data → Reads (Option MapValue)
held true d = none_at (field fields.Data d)
held false d = required a_value fields.Data d >>= λ v. Ok (Some v)

-- a key with what stands there
unfoldable pub cell_at : List ℕ → Data → Reads (List ℕ × MapCell)
cell_at key d = do
  o ← shaped fields.Entries (an_object d)
  tombstone ← flag fields.Tombstone o
  value ← held tombstone o
  serial ← required a_serial fields.Timeserial o
  Ok (key, record { serial = serial; value = value })

unfoldable pub counter_of : Data → Reads ObjectBody
counter_of d = do
  n ← required signed fields.Count d
  Ok (bodies.Counter n)

abbrev pub map_of : Option Data → Reads ObjectBody
map_of None = Err (Missing (spelled fields.Counter))
map_of (Some d) = entries_in cell_at d >>= λ cells. Ok (bodies.Map cells)

-- where a counter is there, no map is read
abbrev pub body_from : Option Data → Data → Reads ObjectBody
body_from (Some counter) d = counter_of counter
body_from None d = optional an_object fields.Map d >>= map_of

unfoldable pub body : Data → Reads ObjectBody
body d = do
  counter ← optional an_object fields.Counter d
  body_from counter d

unfoldable pub state_in : Data → Reads ObjectState
state_in d = do
  id ← required an_id fields.ObjectId d
  serials ← sites d
  tombstone ← flag fields.Tombstone d
  created ← flag fields.Created d
  held ← body d
  Ok (record { id = id; sites = serials; tombstone = tombstone; created = created; body = held })

-- an item of `state`
unfoldable pub state_at : Data → Reads ObjectState
state_at d = do
  item ← shaped fields.State (an_object d)
  o ← required an_object fields.Object item
  state_in o

-- ---- writing

-- a cell without value is a tombstone
abbrev pub with_held : Option MapValue → Members → Members
with_held None ms = with fields.Tombstone (boolean true) ms
with_held (Some v) ms = with fields.Data (value_json v) ms

unfoldable pub cell_json : MapCell → Data
cell_json c = object (with_held c.value (with fields.Timeserial (string (op_serial_text c.serial)) no_members))

unfoldable pub cells_json : List (List ℕ × MapCell) → Data
cells_json cells = object (with fields.Entries (object (member_of_each (λ c. c.0) (λ c. cell_json c.1) cells)) no_members)

-- the nearest whole number of 64 bits
abbrev pub nearest : ℤ → ℤ
nearest z = if int_lt z min_signed then min_signed else if int_lt max_signed z then max_signed else z

unfoldable pub counter_json : ℤ → Data
counter_json sum = object (with fields.Count (integer (nearest sum)) no_members)

abbrev pub with_body : ObjectBody → Members → Members
with_body (bodies.Counter sum) ms = with fields.Counter (counter_json sum) ms
with_body (bodies.Map cells) ms = with fields.Map (cells_json cells) ms

unfoldable pub sites_json : List (List ℕ × OpSerial) → Data
sites_json sites = object (member_of_each (λ s. s.0) (λ s. string (op_serial_text s.1)) sites)

unfoldable pub state_members : ObjectState → Members
state_members s =
    with_body s.body (with fields.Created (boolean s.created) (with fields.Tombstone (boolean s.tombstone) (with fields.SiteTimeserials (sites_json s.sites) (with fields.ObjectId (string (object_id_text s.id)) no_members))))

unfoldable pub state_json : ObjectState → Data
state_json s = object (with fields.Object (object (state_members s)) no_members)
