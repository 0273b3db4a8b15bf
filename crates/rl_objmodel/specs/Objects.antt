-- The objects that operations leave (RTO): counters (RTLC), maps (RTLM) and tombstones. Operations are given the latest
-- first, and are those that passed the rules: of one id there is at most one create, and at most one deletion.
use Rattle.std.specs.Prelude.{ℕ, Bool, true, false, ◌&&◌, ◌||◌, not, if◌then◌else◌, List, [], ◌∷◌, ◌++◌, filter, filter_map, find, map, reverse, Option, Some, None, option_map, option_and_then, bytes_eq, ℤ, pos, ◌+ℤ◌}
use Rattle.std.specs.List.{list_any}
use Rattle.std.specs.Ordering.{nat_cmp, match_ordering}
use Rattle.std.specs.Cmp.Lexicographic.{slice_cmp}
use Rattle.rl_ids.specs.declared.objects.ObjectKind.{ObjectKind}
use Rattle.rl_ids.specs.declared.objects.ObjectKind.TheVariants as kinds
use Rattle.rl_ids.specs.declared.objects.ObjectId.{ObjectId}
use Rattle.rl_ids.specs.declared.objects.ObjectId.TheVariants.{Root}
use Rattle.rl_ids.specs.declared.objects.MapValue.{MapValue}
use Rattle.rl_ids.specs.declared.objects.MapValue.TheVariants as values
use Rattle.rl_ids.specs.declared.serials.OpSerial.{OpSerial}
use Rattle.rl_ids.specs.Objects.{id_cmp, kind_of, is_below}
use Rattle.rl_types.specs.declared.objects.Op.{Op}
use Rattle.rl_types.specs.declared.objects.Op.TheVariants.{MapCreate, MapSet, MapRemove, CounterCreate, CounterInc}
use Rattle.rl_types.specs.declared.objects.ObjectState.{ObjectState}
use Rattle.rl_objmodel.specs.Operations.{Stamped, id_of, own, creates, deletes, keys_of, is_root}
use Rattle.rl_objmodel.specs.Held.{Write, value_written, removal, value_in, is_collected, is_collected_write, HeldBody, Sum, Keys, Held, empty_body, shown}

-- COUNTERS (RTLC)

abbrev pub count_in : Op → ℤ
count_in (CounterCreate id count) = count
count_in _ = pos 0

abbrev pub amount_in : Op → ℤ
amount_in (CounterInc id amount) = amount
amount_in _ = pos 0

-- the amounts of all increments
abbrev pub amounts : List Stamped → ℤ
amounts [] = pos 0
amounts (one ∷ latest) = amounts latest +ℤ amount_in one.op.op

abbrev pub count_of : Option Stamped → ℤ
count_of None = pos 0
count_of (Some create) = count_in create.op.op

-- the count of the create, and the amounts
abbrev pub sum_of : List Stamped → ℤ
sum_of latest = count_of (find creates latest) +ℤ amounts latest

-- a counter's value: none where it was not created, or was deleted
abbrev pub counter : ObjectId → List Stamped → Option ℤ
counter id latest =
    if list_any creates (own id latest) && not (list_any deletes (own id latest)) then Some (sum_of (own id latest)) else None

-- MAPS (RTLM)

abbrev pub values_at : List ℕ → List (List ℕ × MapValue) → List MapValue
values_at key [] = []
values_at key (entry ∷ entries) = if bytes_eq entry.0 key then entry.1 ∷ values_at key entries else values_at key entries

-- what an operation writes at a key, the latest first
abbrev pub written_by : List ℕ → ℕ → OpSerial → Op → List Write
written_by key stamp serial (MapCreate id entries) = reverse (map (value_written serial) (values_at key entries))
written_by key stamp serial (MapSet id k value) = if bytes_eq k key then value_written serial value ∷ [] else []
written_by key stamp serial (MapRemove id k) = if bytes_eq k key then removal serial stamp ∷ [] else []
written_by key stamp serial _ = []

abbrev pub written_if : List ℕ → ℕ → Option OpSerial → Op → List Write
written_if key stamp None op = []
written_if key stamp (Some serial) op = written_by key stamp serial op

-- what operations write at a key, the latest first
abbrev pub writes : List ℕ → List Stamped → List Write
writes key [] = []
writes key (one ∷ latest) = written_if key one.stamp one.op.serial one.op.op ++ writes key latest

-- of two writes, the earlier first, the one of the greater serial; of one serial the earlier
abbrev pub greater : Option Write → Write → Write
greater None write = write
greater (Some other) write = if is_below other.serial write.serial then write else other

-- the one of the greatest serial
abbrev pub greatest : List Write → Option Write
greatest [] = None
greatest (write ∷ writes) = Some (greater (greatest writes) write)

-- what stands at a key of a map
abbrev pub cell : ObjectId → List ℕ → List Stamped → Option Write
cell id key latest = greatest (writes key (own id latest))

-- ORDERED SETS

abbrev pub with_text : List ℕ → List (List ℕ) → List (List ℕ)
with_text text [] = text ∷ []
with_text text (other ∷ texts) =
    match_ordering (slice_cmp nat_cmp text other) (text ∷ other ∷ texts) (other ∷ texts) (other ∷ with_text text texts)

abbrev pub with_texts : List (List ℕ) → List (List ℕ) → List (List ℕ)
with_texts [] texts = texts
with_texts (text ∷ more) texts = with_text text (with_texts more texts)

abbrev pub with_id : ObjectId → List ObjectId → List ObjectId
with_id id [] = id ∷ []
with_id id (other ∷ ids) = match_ordering (id_cmp id other) (id ∷ other ∷ ids) (other ∷ ids) (other ∷ with_id id ids)

-- the keys that operations write, each once, in order
abbrev pub keys_in : List Stamped → List (List ℕ)
keys_in [] = []
keys_in (one ∷ latest) = with_texts (keys_of one.op.op) (keys_in latest)

-- the root and the ids that operations name, each once, in order
abbrev pub ids_in : List Stamped → List ObjectId
ids_in [] = Root ∷ []
ids_in (one ∷ latest) = with_id (id_of one) (ids_in latest)

-- SITES

abbrev pub serials : List Stamped → List OpSerial
serials latest = filter_map (λ (one : Stamped). one.op.serial) latest

abbrev pub sites_in : List OpSerial → List (List ℕ)
sites_in [] = []
sites_in (serial ∷ latest) = with_text serial.site (sites_in latest)

abbrev pub is_at : List ℕ → OpSerial → Bool
is_at site serial = bytes_eq site serial.site

abbrev pub greater_serial : Option OpSerial → OpSerial → OpSerial
greater_serial None serial = serial
greater_serial (Some other) serial = if is_below other serial then serial else other

abbrev pub greatest_serial : List OpSerial → Option OpSerial
greatest_serial [] = None
greatest_serial (serial ∷ latest) = Some (greater_serial (greatest_serial latest) serial)

abbrev pub site_of : List OpSerial → List ℕ → Option (List ℕ × OpSerial)
site_of serials site = option_map (λ (s : OpSerial). (site, s)) (greatest_serial (filter (is_at site) serials))

-- of each site the greatest serial, in order of site
abbrev pub sites : List Stamped → List (List ℕ × OpSerial)
sites latest = filter_map (site_of (serials latest)) (sites_in (serials latest))

-- WHAT IS KEPT (RTO10)

-- Given is the clock at the last Tick: what was then collected is gone.

abbrev pub kept_write : ℕ → List ℕ → Write → Option (List ℕ × Write)
kept_write ticked key write = if is_collected_write ticked write.written then None else Some (key, write)

-- what is kept of a key
abbrev pub kept_cell : ℕ → List Stamped → List ℕ → Option (List ℕ × Write)
kept_cell ticked latest key = option_and_then (kept_write ticked key) (greatest (writes key latest))

abbrev pub body_of : ℕ → ObjectKind → List Stamped → HeldBody
body_of ticked kinds.Counter latest = Sum (sum_of latest)
body_of ticked kinds.Map latest = Keys (filter_map (kept_cell ticked latest) (keys_in latest))

abbrev pub standing : ℕ → ObjectId → List Stamped → Held
standing ticked id latest =
    record { id = id; sites = sites latest; deleted = None; created = true; body = body_of ticked (kind_of id) latest }

abbrev pub tombstone : ObjectId → List Stamped → ℕ → Held
tombstone id latest stamp =
    record { id = id; sites = sites latest; deleted = Some stamp; created = false; body = empty_body (kind_of id) }

-- by the operations on it, and the one that deleted it
abbrev pub kept_by : ℕ → ObjectId → List Stamped → Option Stamped → Option Held
kept_by ticked id latest None = if is_root id || list_any creates latest then Some (standing ticked id latest) else None
kept_by ticked id latest (Some delete) =
    if not (is_root id) && is_collected ticked delete.stamp then None else Some (tombstone id latest delete.stamp)

-- an object: the root, one that was created, or its tombstone until it is collected
abbrev pub kept : ℕ → List Stamped → ObjectId → Option Held
kept ticked latest id = kept_by ticked id (own id latest) (find deletes (own id latest))

-- all of them, in order of id
abbrev pub all_kept : ℕ → List Stamped → List Held
all_kept ticked latest = filter_map (kept ticked latest) (ids_in latest)

-- as pages show them
abbrev pub kept_object : ℕ → List Stamped → ObjectId → Option ObjectState
kept_object ticked latest id = option_map shown (kept ticked latest id)

abbrev pub kept_objects : ℕ → List Stamped → List ObjectState
kept_objects ticked latest = map shown (all_kept ticked latest)

-- WHAT IS LIVE

-- the root, and each object that was created and not deleted
abbrev pub is_live : List Stamped → ObjectId → Bool
is_live latest id = is_root id || list_any creates (own id latest) && not (list_any deletes (own id latest))

pub data LiveBody : Type 0 where
  Count : (value : ℤ) → LiveBody
  Entries : (entries : List (List ℕ × MapValue)) → LiveBody

pub record LiveObject : Type 0 where
  pub id : ObjectId
  pub body : LiveBody

-- a value that names an object that is not live reads as absent
abbrev pub read_value : (ObjectId → Bool) → Option MapValue → Option MapValue
read_value lives (Some (values.Ref id)) = if lives id then Some (values.Ref id) else None
read_value lives value = value

abbrev pub live_key : List Stamped → ObjectId → List ℕ → Option (List ℕ × MapValue)
live_key latest id key =
    option_map (λ (v : MapValue). (key, v)) (option_and_then (λ (w : Write). read_value (is_live latest) (value_in w.written)) (cell id key latest))

abbrev pub live_body : List Stamped → ObjectKind → ObjectId → LiveBody
live_body latest kinds.Counter id = Count (sum_of (own id latest))
live_body latest kinds.Map id = Entries (filter_map (live_key latest id) (keys_in (own id latest)))

abbrev pub live_object : List Stamped → ObjectId → LiveObject
live_object latest id = record { id = id; body = live_body latest (kind_of id) id }

-- the live objects that operations leave, in order of id
abbrev pub objects : List Stamped → List LiveObject
objects latest = map (live_object latest) (filter (is_live latest) (ids_in latest))
