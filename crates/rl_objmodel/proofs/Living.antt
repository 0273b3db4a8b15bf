-- What is live by what is kept, and by the log.
use Rattle.std.proofs.Common.{◌≡◌, ℕ, Bool, true, false, true≢false, cond, List, [], ◌∷◌, ◌++◌, refl, ap, sym, subst, ◌∙◌}
use Rattle.std.specs.Prelude.{⊤, filter, filter_map, find, map, reverse, ◌&&◌, ◌||◌, not, bytes_eq, is_some, option_map, option_and_then, Option, Some, None}
use Rattle.std.specs.List.{list_any, AllByRecursion, cons_option}
use Rattle.std.specs.Option.{option_map_or}
use Rattle.std.proofs.lemmas.List.{reverse-append}
use Rattle.rl_ids.specs.declared.objects.ObjectKind.{ObjectKind}
use Rattle.rl_ids.specs.declared.objects.ObjectKind.TheVariants as kinds
use Rattle.rl_ids.specs.declared.objects.ObjectId.{ObjectId}
use Rattle.rl_ids.specs.declared.objects.ObjectId.TheVariants.{Root, Made}
use Rattle.rl_ids.specs.declared.objects.MapValue.{MapValue}
use Rattle.rl_ids.specs.declared.objects.MapValue.TheVariants as values
use Rattle.rl_ids.specs.declared.serials.OpSerial.{OpSerial}
use Rattle.rl_ids.specs.Objects.{kind_of, is_below, IsIdInRange}
use Rattle.rl_types.specs.declared.objects.Op.{Op}
use Rattle.rl_types.specs.declared.objects.Op.TheVariants.{MapCreate, MapSet, MapRemove, CounterCreate, CounterInc, Delete}
use Rattle.rl_types.specs.declared.objects.ObjectBody.{ObjectBody}
use Rattle.rl_types.specs.declared.objects.ObjectBody.TheVariants as bodies
use Rattle.rl_types.specs.declared.objects.ObjectState.{ObjectState}
use Rattle.rl_objmodel.specs.Operations.{Stamped, id_in, id_of, names, own, is_delete, creates, deletes, values_of, is_root}
use Rattle.rl_objmodel.specs.Held.{Written, Value, Removed, Write, value_written, removal, value_in, is_collected, is_collected_write, Held, shown}
use Rattle.rl_objmodel.specs.Objects.{values_at, written_by, written_if, writes, greater, greatest, cell, keys_in, sites, kept_write, kept_cell, body_of, standing, tombstone, kept_by, kept, ids_in, all_kept, is_live, read_value, LiveBody, Entries, LiveObject, live_key, live_body, live_object}
use Rattle.rl_objmodel.specs.Steps.{is_live_held, lives_in, read_cell, read_body, live_states}
use Rattle.rl_objmodel.specs.Following.{Lives, IsValueInRange}
use Rattle.rl_objmodel.specs.Lasting.{AreLives}
use Rattle.rl_objmodel.specs.Living.{read_at, live_cell, shown_live_body, shown_live, shown_objects, value_at, body_read, object_read, OpsFit, LiveIsKept, LiveIsObjects}
use Rattle.rl_objmodel.proofs.FollowingPools.{id_is, ids_fit, found_kept}

-- LISTS

-- what passes a test, as it is then made
abbrev if_passes : {B C : Type 0} → (B → Bool) → (B → C) → B → Option C
if_passes keep make b = cond (keep b) (Some (make b)) None

passed_by : {B C : Type 0} (keep : B → Bool) (make : B → C) (b : B) (bs : List B) (c : Bool) → map make (filter keep bs) ≡ filter_map (if_passes keep make) bs
    → map make (cond c (b ∷ filter keep bs) (filter keep bs)) ≡ cons_option (cond c (Some (make b)) None) (filter_map (if_passes keep make) bs)
passed_by keep make b bs true h = ap (λ cs. make b ∷ cs) h
passed_by keep make b bs false h = h

passed : {B C : Type 0} (keep : B → Bool) (make : B → C) (bs : List B) → map make (filter keep bs) ≡ filter_map (if_passes keep make) bs
passed keep make [] = refl
passed keep make (b ∷ bs) = passed_by keep make b bs (keep b) (passed keep make bs)

through_at : {B C : Type 0} (g : B → Option C) (o : Option B) (there : Option C) (rest : List B) (more : List C) → option_and_then g o ≡ there → filter_map g rest ≡ more → filter_map g (cons_option o rest) ≡ cons_option there more
through_at g None there rest more e h = h ∙ ap (λ o. cons_option o more) e
through_at g (Some b) there rest more e h = ap (cons_option (g b)) h ∙ ap (λ o. cons_option o more) e

through : {A B C : Type 0} (f : A → Option B) (g : B → Option C) (there : A → Option C) → ((a : A) → option_and_then g (f a) ≡ there a) → (xs : List A) → filter_map g (filter_map f xs) ≡ filter_map there xs
through f g there h [] = refl
through f g there h (x ∷ xs) = through_at g (f x) (there x) (filter_map f xs) (filter_map there xs) (h x) (through f g there h xs)

-- TESTS

or_true : (a : Bool) → (a || true) ≡ true
or_true true = refl
or_true false = refl

and_true : (a : Bool) → (a && true) ≡ a
and_true true = refl
and_true false = refl

and_false : (a : Bool) → (a && false) ≡ false
and_false true = refl
and_false false = refl

neither : (a b : Bool) → a ≡ false → b ≡ false → (a || b) ≡ false
neither true b h k = h
neither false b h k = k

-- THE ROOT STAYS

not_root : (op : Op) (before : List Stamped) → Root ≡ id_in op → Lives op before → is_delete op ≡ false
not_root (MapCreate id es) before h lives = refl
not_root (MapSet id key value) before h lives = refl
not_root (MapRemove id key) before h lives = refl
not_root (CounterCreate id n) before h lives = refl
not_root (CounterInc id n) before h lives = refl
not_root (Delete id) before h lives = cc (ap is_root h ∙ lives.0)

root_stays : (latest : List Stamped) → AreLives latest → list_any deletes (own Root latest) ≡ false
root_stays [] lives = refl
root_stays (one ∷ before) lives = by (names Root one) refl (root_stays before lives.1)
  where
    by : (b : Bool) → names Root one ≡ b → list_any deletes (own Root before) ≡ false → list_any deletes (cond b (one ∷ own Root before) (own Root before)) ≡ false
    by true e stays = neither (deletes one) (list_any deletes (own Root before)) (not_root one.op.op (own (id_of one) before) (id_is Root (id_of one) e) lives.0) stays
    by false e stays = stays

any_found : (xs : List Stamped) → list_any deletes xs ≡ is_some (find deletes xs)
any_found [] = refl
any_found (x ∷ xs) = by (deletes x) (any_found xs)
  where
    by : (b : Bool) → list_any deletes xs ≡ is_some (find deletes xs) → (b || list_any deletes xs) ≡ is_some (cond b (Some x) (find deletes xs))
    by true h = refl
    by false h = h

-- VALUES THAT FIT

abbrev WrittenFits : Written → Type 0
WrittenFits (Value value) = IsValueInRange value
WrittenFits (Removed stamp) = ⊤

abbrev WriteFits : Write → Type 0
WriteFits write = WrittenFits write.written

abbrev CellFits : Option Write → Type 0
CellFits None = ⊤
CellFits (Some write) = WriteFits write

abbrev AllFit : List Write → Type 0
AllFit ws = AllByRecursion WriteFits ws

both_fit : (xs ys : List Write) → AllFit xs → AllFit ys → AllFit (xs ++ ys)
both_fit [] ys h k = k
both_fit (x ∷ xs) ys h k = (h.0, both_fit xs ys h.1 k)

entries_fit : (key : List ℕ) (es : List (List ℕ × MapValue)) → AllByRecursion IsValueInRange (map (λ (entry : List ℕ × MapValue). entry.1) es) → AllByRecursion IsValueInRange (values_at key es)
entries_fit key [] h = tt
entries_fit key (e ∷ es) h = by (bytes_eq e.0 key) (entries_fit key es h.1)
  where
    by : (b : Bool) → AllByRecursion IsValueInRange (values_at key es) → AllByRecursion IsValueInRange (cond b (e.1 ∷ values_at key es) (values_at key es))
    by true more = (h.0, more)
    by false more = more

values_fit : (serial : OpSerial) (vs : List MapValue) → AllByRecursion IsValueInRange vs → AllFit (reverse (map (value_written serial) vs))
values_fit serial [] h = tt
values_fit serial (v ∷ vs) h =
    subst AllFit (sym (reverse-append (value_written serial v ∷ []) (map (value_written serial) vs)))
    (both_fit (reverse (map (value_written serial) vs)) (value_written serial v ∷ []) (values_fit serial vs h.1) (h.0, tt))

one_fits : (b : Bool) (w : Write) → WriteFits w → AllFit (cond b (w ∷ []) [])
one_fits true w h = (h, tt)
one_fits false w h = tt

op_fits : (key : List ℕ) (stamp : ℕ) (serial : OpSerial) (op : Op) → AllByRecursion IsValueInRange (values_of op) → AllFit (written_by key stamp serial op)
op_fits key stamp serial (MapCreate id es) h = values_fit serial (values_at key es) (entries_fit key es h)
op_fits key stamp serial (MapSet id k value) h = one_fits (bytes_eq k key) (value_written serial value) h.0
op_fits key stamp serial (MapRemove id k) h = one_fits (bytes_eq k key) (removal serial stamp) tt
op_fits key stamp serial (CounterCreate id n) h = tt
op_fits key stamp serial (CounterInc id n) h = tt
op_fits key stamp serial (Delete id) h = tt

given_fit : (key : List ℕ) (stamp : ℕ) (serial : Option OpSerial) (op : Op) → AllByRecursion IsValueInRange (values_of op) → AllFit (written_if key stamp serial op)
given_fit key stamp None op h = tt
given_fit key stamp (Some serial) op h = op_fits key stamp serial op h

writes_fit : (key : List ℕ) (latest : List Stamped) → OpsFit latest → AllFit (writes key latest)
writes_fit key [] h = tt
writes_fit key (one ∷ latest) h =
    both_fit (written_if key one.stamp one.op.serial one.op.op) (writes key latest) (given_fit key one.stamp one.op.serial one.op.op h.0.refs) (writes_fit key latest h.1)

greater_fits : (there : Option Write) (w : Write) → CellFits there → WriteFits w → WriteFits (greater there w)
greater_fits None w h k = k
greater_fits (Some other) w h k = by (is_below other.serial w.serial)
  where
    by : (b : Bool) → WriteFits (cond b w other)
    by true = k
    by false = h

greatest_fits : (ws : List Write) → AllFit ws → CellFits (greatest ws)
greatest_fits [] h = tt
greatest_fits (w ∷ ws) h = greater_fits (greatest ws) w (greatest_fits ws h.1) h.0

own_fit : (id : ObjectId) (latest : List Stamped) → OpsFit latest → OpsFit (own id latest)
own_fit id [] h = tt
own_fit id (one ∷ latest) h = by (names id one) (own_fit id latest h.1)
  where
    by : (b : Bool) → OpsFit (own id latest) → OpsFit (cond b (one ∷ own id latest) (own id latest))
    by true more = (h.0, more)
    by false more = more

targets_fit : (latest : List Stamped) → OpsFit latest → AllByRecursion (λ (one : Stamped). IsIdInRange (id_of one)) latest
targets_fit [] h = tt
targets_fit (one ∷ latest) h = (h.0.target, targets_fit latest h.1)

-- WHICH OBJECTS ARE LIVE

module _ (ticked : ℕ) (latest : List Stamped) (lasting : AreLives latest) (fit : OpsFit latest) where
  stands_live : (id : ObjectId) (c : Bool) → option_map_or is_live_held (cond c (Some (standing ticked id (own id latest))) None) false ≡ c
  stands_live id true = or_true (is_root id)
  stands_live id false = refl

  gone_live : (kind : ObjectKind) (hash : List ℕ) (millis : ℕ) (gone : Stamped) (c : Bool)
      → option_map_or is_live_held (cond c None (Some (tombstone (Made kind hash millis) (own (Made kind hash millis) latest) gone.stamp))) false ≡ false
  gone_live kind hash millis gone true = refl
  gone_live kind hash millis gone false = refl

  live_by : (id : ObjectId) (found : Option Stamped) → list_any deletes (own id latest) ≡ is_some found
      → option_map_or is_live_held (kept_by ticked id (own id latest) found) false ≡ is_live latest id
  live_by id None h =
      stands_live id (is_root id || list_any creates (own id latest))
      ∙ ap (λ (b : Bool). is_root id || b) (sym (and_true (list_any creates (own id latest))))
      ∙ ap (λ (b : Bool). is_root id || (list_any creates (own id latest) && not b)) (sym h)
  live_by Root (Some gone) h = absurd (true≢false (sym h ∙ root_stays latest lasting))
  live_by (Made kind hash millis) (Some gone) h =
      gone_live kind hash millis gone (is_collected ticked gone.stamp)
      ∙ sym (and_false (list_any creates (own (Made kind hash millis) latest)))
      ∙ ap (λ (b : Bool). list_any creates (own (Made kind hash millis) latest) && not b) (sym h)

  lives_same : (id : ObjectId) → IsIdInRange id → lives_in (all_kept ticked latest) id ≡ is_live latest id
  lives_same id fits =
      ap (λ (o : Option Held). option_map_or is_live_held o false) (found_kept ticked id latest fits (ids_fit latest (targets_fit latest fit)))
      ∙ live_by id (find deletes (own id latest)) (any_found (own id latest))

  -- WHAT THEY SHOW

  value_same : (value : MapValue) → IsValueInRange value → read_value (lives_in (all_kept ticked latest)) (Some value) ≡ read_value (is_live latest) (Some value)
  value_same (values.Ref id) fits = ap (λ (b : Bool). cond b (Some (values.Ref id)) None) (lives_same id fits)
  value_same (values.Text text) fits = refl
  value_same (values.Whole n) fits = refl
  value_same (values.Bool b) fits = refl
  value_same (values.Bytes bytes) fits = refl

  written_same : (key : List ℕ) (serial : OpSerial) (written : Written) → WrittenFits written
      → cond (is_collected_write ticked written) None (read_at key serial (read_value (lives_in (all_kept ticked latest)) (value_in written))) ≡ read_at key serial (read_value (is_live latest) (value_in written))
  written_same key serial (Value value) fits = ap (read_at key serial) (value_same value fits)
  written_same key serial (Removed stamp) fits = by (is_collected ticked stamp)
    where
      by : (b : Bool) → cond b None (read_at key serial None) ≡ read_at key serial None
      by true = refl
      by false = refl

  kept_same : (key : List ℕ) (w : Write) (b : Bool) → option_and_then (read_cell (lives_in (all_kept ticked latest))) (cond b None (Some (key, w))) ≡ cond b None (read_at key w.serial (read_value (lives_in (all_kept ticked latest)) (value_in w.written)))
  kept_same key w true = refl
  kept_same key w false = refl

  cell_same : (key : List ℕ) (there : Option Write) → CellFits there
      → option_and_then (read_cell (lives_in (all_kept ticked latest))) (option_and_then (kept_write ticked key) there) ≡ option_and_then (λ (w : Write). read_at key w.serial (read_value (is_live latest) (value_in w.written))) there
  cell_same key None fits = refl
  cell_same key (Some w) fits = kept_same key w (is_collected_write ticked w.written) ∙ written_same key w.serial w.written fits

  body_same : (id : ObjectId) (kind : ObjectKind) → read_body (lives_in (all_kept ticked latest)) (body_of ticked kind (own id latest)) ≡ shown_live_body latest kind id
  body_same id kinds.Counter = refl
  body_same id kinds.Map =
      ap bodies.Map
      (through (kept_cell ticked (own id latest)) (read_cell (lives_in (all_kept ticked latest))) (live_cell latest id)
      (λ key. cell_same key (greatest (writes key (own id latest))) (greatest_fits (writes key (own id latest)) (writes_fit key (own id latest) (own_fit id latest fit))))
      (keys_in (own id latest)))

  abbrev read_held : Held → ObjectState
  read_held held = record (shown held) { body = read_body (lives_in (all_kept ticked latest)) held.body }

  abbrev with_body : ObjectId → ObjectBody → ObjectState
  with_body id body = record { id = id; sites = sites (own id latest); tombstone = false; created = true; body = body }

  stands_same : (id : ObjectId) (c : Bool) → option_and_then (if_passes is_live_held read_held) (cond c (Some (standing ticked id (own id latest))) None) ≡ cond c (Some (shown_live latest id)) None
  stands_same id true =
      ap (λ (b : Bool). cond b (Some (read_held (standing ticked id (own id latest)))) None) (or_true (is_root id))
      ∙ ap (λ (body : ObjectBody). Some (with_body id body)) (body_same id (kind_of id))
  stands_same id false = refl

  gone_same : (kind : ObjectKind) (hash : List ℕ) (millis : ℕ) (gone : Stamped) (c : Bool)
      → option_and_then (if_passes is_live_held read_held) (cond c None (Some (tombstone (Made kind hash millis) (own (Made kind hash millis) latest) gone.stamp))) ≡ None
  gone_same kind hash millis gone true = refl
  gone_same kind hash millis gone false = refl

  object_by : (id : ObjectId) (found : Option Stamped) → list_any deletes (own id latest) ≡ is_some found
      → option_and_then (if_passes is_live_held read_held) (kept_by ticked id (own id latest) found) ≡ if_passes (is_live latest) (shown_live latest) id
  object_by id None h =
      stands_same id (is_root id || list_any creates (own id latest))
      ∙ ap (λ (b : Bool). cond (is_root id || b) (Some (shown_live latest id)) None) (sym (and_true (list_any creates (own id latest))))
      ∙ ap (λ (b : Bool). cond (is_root id || (list_any creates (own id latest) && not b)) (Some (shown_live latest id)) None) (sym h)
  object_by Root (Some gone) h = absurd (true≢false (sym h ∙ root_stays latest lasting))
  object_by (Made kind hash millis) (Some gone) h =
      gone_same kind hash millis gone (is_collected ticked gone.stamp)
      ∙ ap (λ (b : Bool). cond b (Some (shown_live latest (Made kind hash millis))) None) (sym (and_false (list_any creates (own (Made kind hash millis) latest))))
      ∙ ap (λ (b : Bool). cond (list_any creates (own (Made kind hash millis) latest) && not b) (Some (shown_live latest (Made kind hash millis))) None) (sym h)

  all_same : live_states (all_kept ticked latest) ≡ shown_objects latest
  all_same =
      passed is_live_held read_held (all_kept ticked latest)
      ∙ through (kept ticked latest) (if_passes is_live_held read_held) (if_passes (is_live latest) (shown_live latest)) (λ id. object_by id (find deletes (own id latest)) (any_found (own id latest))) (ids_in latest)
      ∙ sym (passed (is_live latest) (shown_live latest) (ids_in latest))

pub live_is_kept : LiveIsKept
live_is_kept ticked latest lasting fit = all_same ticked latest lasting fit

-- WITHOUT SERIALS

module _ (latest : List Stamped) where
  value_read : (key : List ℕ) (serial : OpSerial) (value : Option MapValue)
      → option_and_then value_at (option_map (λ (v : MapValue). (key, record { serial = serial; value = Some v })) value) ≡ option_map (λ (v : MapValue). (key, v)) value
  value_read key serial None = refl
  value_read key serial (Some v) = refl

  key_read : (key : List ℕ) (there : Option Write)
      → option_and_then value_at (option_and_then (λ (w : Write). option_map (λ (v : MapValue). (key, record { serial = w.serial; value = Some v })) (read_value (is_live latest) (value_in w.written))) there)
      ≡ option_map (λ (v : MapValue). (key, v)) (option_and_then (λ (w : Write). read_value (is_live latest) (value_in w.written)) there)
  key_read key None = refl
  key_read key (Some w) = value_read key w.serial (read_value (is_live latest) (value_in w.written))

  body_is : (id : ObjectId) (kind : ObjectKind) → body_read (shown_live_body latest kind id) ≡ live_body latest kind id
  body_is id kinds.Counter = refl
  body_is id kinds.Map = ap Entries (through (live_cell latest id) value_at (live_key latest id) (λ key. key_read key (cell id key latest)) (keys_in (own id latest)))

  object_is : (id : ObjectId) → object_read (shown_live latest id) ≡ live_object latest id
  object_is id = ap (λ (body : LiveBody). live_with id body) (body_is id (kind_of id))
    where
      live_with : ObjectId → LiveBody → LiveObject
      live_with id body = record { id = id; body = body }

  objects_are : (ids : List ObjectId) → map object_read (map (shown_live latest) ids) ≡ map (live_object latest) ids
  objects_are [] = refl
  objects_are (id ∷ ids) = ap (λ (one : LiveObject). one ∷ map object_read (map (shown_live latest) ids)) (object_is id) ∙ ap (λ (more : List LiveObject). live_object latest id ∷ more) (objects_are ids)

pub live_is_objects : LiveIsObjects
live_is_objects ticked latest lasting fit = ap (map object_read) (live_is_kept ticked latest lasting fit) ∙ objects_are latest (filter (is_live latest) (ids_in latest))
