-- What is live by what is kept, and by the log.
use Rattle.std.specs.Prelude.{◌≡◌, ℕ, true, false, List, filter, filter_map, map, Option, Some, option_map, option_and_then}
use Rattle.std.specs.List.{AllByRecursion}
use Rattle.rl_ids.specs.declared.objects.ObjectKind.{ObjectKind}
use Rattle.rl_ids.specs.declared.objects.ObjectKind.TheVariants as kinds
use Rattle.rl_ids.specs.declared.objects.ObjectId.{ObjectId}
use Rattle.rl_ids.specs.declared.objects.MapValue.{MapValue}
use Rattle.rl_ids.specs.declared.serials.OpSerial.{OpSerial}
use Rattle.rl_ids.specs.Objects.{kind_of}
use Rattle.rl_types.specs.declared.objects.MapCell.{MapCell}
use Rattle.rl_types.specs.declared.objects.ObjectBody.{ObjectBody}
use Rattle.rl_types.specs.declared.objects.ObjectBody.TheVariants as bodies
use Rattle.rl_types.specs.declared.objects.ObjectState.{ObjectState}
use Rattle.rl_objmodel.specs.Operations.{Stamped, own}
use Rattle.rl_objmodel.specs.Held.{Write, value_in}
use Rattle.rl_objmodel.specs.Objects.{sum_of, cell, keys_in, sites, all_kept, is_live, ids_in, read_value, LiveBody, Count, Entries, LiveObject, objects}
use Rattle.rl_objmodel.specs.Steps.{live_states}
use Rattle.rl_objmodel.specs.Following.{IsOpInRange}
use Rattle.rl_objmodel.specs.Lasting.{AreLives}

-- AS A PAGE SHOWS THEM

-- a key with the value that it reads as, and the serial of its write
abbrev pub read_at : List ℕ → OpSerial → Option MapValue → Option (List ℕ × MapCell)
read_at key serial value = option_map (λ (v : MapValue). (key, record { serial = serial; value = Some v })) value

abbrev pub live_cell : List Stamped → ObjectId → List ℕ → Option (List ℕ × MapCell)
live_cell latest id key = option_and_then (λ (w : Write). read_at key w.serial (read_value (is_live latest) (value_in w.written))) (cell id key latest)

abbrev pub shown_live_body : List Stamped → ObjectKind → ObjectId → ObjectBody
shown_live_body latest kinds.Counter id = bodies.Counter (sum_of (own id latest))
shown_live_body latest kinds.Map id = bodies.Map (filter_map (live_cell latest id) (keys_in (own id latest)))

-- a live object with the greatest serial of each site that named it
abbrev pub shown_live : List Stamped → ObjectId → ObjectState
shown_live latest id =
    record { id = id; sites = sites (own id latest); tombstone = false; created = true; body = shown_live_body latest (kind_of id) id }

-- the live objects of a log, in order of id
abbrev pub shown_objects : List Stamped → List ObjectState
shown_objects latest = map (shown_live latest) (filter (is_live latest) (ids_in latest))

-- WITHOUT SERIALS

-- a key with its value
abbrev pub value_at : List ℕ × MapCell → Option (List ℕ × MapValue)
value_at one = option_map (λ (v : MapValue). (one.0, v)) one.1.value

abbrev pub body_read : ObjectBody → LiveBody
body_read (bodies.Counter sum) = Count sum
body_read (bodies.Map cells) = Entries (filter_map value_at cells)

-- an object's id, and its sum or its values
abbrev pub object_read : ObjectState → LiveObject
object_read state = record { id = state.id; body = body_read state.body }

-- LAWS

-- the ids that operations name fit, those in their values among them
abbrev pub OpsFit : List Stamped → Type 0
OpsFit latest = AllByRecursion (λ (one : Stamped). IsOpInRange one.op) latest

-- where the objects of a log lasted, what is live of those that are kept is what is live by the log, whatever moment the
-- last Tick had: collecting takes away nothing that is live
abbrev pub LiveIsKept : Type 0
LiveIsKept = (ticked : ℕ) (latest : List Stamped) → AreLives latest → OpsFit latest → live_states (all_kept ticked latest) ≡ shown_objects latest

-- read without serials, it is the live objects of the log
abbrev pub LiveIsObjects : Type 0
LiveIsObjects = (ticked : ℕ) (latest : List Stamped) → AreLives latest → OpsFit latest → map object_read (live_states (all_kept ticked latest)) ≡ objects latest
