-- What one more operation makes of one object, by the definitions and by the step.
use Rattle.std.proofs.Common.{◌≡◌, ℕ, Bool, true, false, cond, List, [], ◌∷◌, ◌++◌, refl, ap, sym, subst, ◌∙◌, arith}
use Rattle.std.specs.Prelude.{⊤, filter, filter_map, find, map, reverse, ◌&&◌, ◌||◌, not, bytes_eq, unwrap_or, option_map, option_and_then, Option, Some, None, ℤ, pos, ◌+ℤ◌}
use Rattle.std.specs.List.{list_any, AllByRecursion, cons_option}
use Rattle.std.specs.declared.cmp.Ordering.{Ordering}
use Rattle.std.specs.Ordering.{nat_cmp, match_ordering, is_lt}
use Rattle.std.specs.Cmp.Lexicographic.{slice_cmp}
use Rattle.std.proofs.lemmas.Cmp.{nat_list_cmp_total, tied_itself}
use Rattle.std.proofs.lemmas.List.{reverse-append}
use Rattle.std.proofs.lemmas.Map.Text.{is_eq-slice_cmp}
use Rattle.std.proofs.lemmas.Int.{ints}
use Rattle.rl_ids.specs.declared.objects.ObjectKind.{ObjectKind}
use Rattle.rl_ids.specs.declared.objects.ObjectKind.TheVariants as kinds
use Rattle.rl_ids.specs.declared.objects.ObjectId.{ObjectId}
use Rattle.rl_ids.specs.declared.objects.ObjectId.TheVariants.{Root, Made}
use Rattle.rl_ids.specs.declared.objects.MapValue.{MapValue}
use Rattle.rl_ids.specs.declared.serials.OpSerial.{OpSerial}
use Rattle.rl_ids.specs.Objects.{kind_of, is_below}
use Rattle.rl_types.specs.declared.objects.Op.{Op}
use Rattle.rl_types.specs.declared.objects.Op.TheVariants.{MapCreate, MapSet, MapRemove, CounterCreate, CounterInc, Delete}
use Rattle.rl_objmodel.specs.declared.plain.Applied.TheVariants as outcomes
use Rattle.rl_objmodel.specs.Operations.{Stamped, stamped_at, id_in, creates, deletes, is_delete, is_create, keys_of, suits, is_root}
use Rattle.rl_objmodel.specs.Held.{Write, value_written, removal, Cells, is_collected, is_collected_write, HeldBody, Sum, Keys, Held, empty_body}
use Rattle.rl_objmodel.specs.Objects.{amounts, count_of, values_at, written_if, writes, greater, greatest, with_text, with_texts, keys_in, serials, sites_in, is_at, greater_serial, greatest_serial, site_of, sites, kept_write, kept_cell, body_of, standing, tombstone, kept_by}
use Rattle.rl_objmodel.specs.Places.{at_text, with_at}
use Rattle.rl_objmodel.specs.Steps.{is_above, passes, with_site, with_write, with_writes, entry_writes, emptied, on_cells, added, body_passes_range, outcome, created_after, deleted_after, body_after, held_with, new_held}
use Rattle.rl_objmodel.specs.Following.{Stands, Follows, op_with}
use Rattle.rl_objmodel.proofs.PlacesHeld.{texts_same, texts_itself, equal_same, there_with}
use Rattle.rl_objmodel.proofs.CommutingOps.{eq_back, twice, there_other, with_either, serials_total}
use Rattle.rl_objmodel.proofs.Entering.{put_key, put, KeysRise, rise_with, TiedIn, entered}

-- TEXTS WITH SOMETHING AT EACH

abbrev pub text_cmp : List ℕ → List ℕ → Ordering
text_cmp a b = slice_cmp nat_cmp a b

text_is : (T : Type 0) (text : List ℕ) (texts : List (List ℕ)) → with_text text texts ≡ put_key {T = List ℕ × T} text_cmp nat_list_cmp_total (λ p. p.0) text texts
text_is T text [] = refl
text_is T text (other ∷ texts) = ap (λ ts. match_ordering (slice_cmp nat_cmp text other) (text ∷ other ∷ texts) (other ∷ texts) (other ∷ ts)) (text_is T text texts)

rise_text : (T : Type 0) (text : List ℕ) (texts : List (List ℕ)) → KeysRise {T = List ℕ × T} text_cmp nat_list_cmp_total (λ p. p.0) texts → KeysRise {T = List ℕ × T} text_cmp nat_list_cmp_total (λ p. p.0) (with_text text texts)
rise_text T text texts h = subst (λ ts. KeysRise {T = List ℕ × T} text_cmp nat_list_cmp_total (λ p. p.0) ts) (sym (text_is T text texts)) (rise_with {T = List ℕ × T} text_cmp nat_list_cmp_total (λ p. p.0) text texts h)

module _ {T : Type 0} where
  at_is : (p : List ℕ × T) (all : List (List ℕ × T)) → with_at p.0 p.1 all ≡ put text_cmp nat_list_cmp_total (λ (q : List ℕ × T). q.0) p all
  at_is p [] = refl
  at_is p (other ∷ all) = ap (λ ts. match_ordering (slice_cmp nat_cmp p.0 other.0) (p ∷ other ∷ all) (p ∷ all) (other ∷ ts)) (at_is p all)

  tied_texts : (p : List ℕ × T) (f : List ℕ → Option (List ℕ × T)) (texts : List (List ℕ)) → f p.0 ≡ Some p → TiedIn text_cmp nat_list_cmp_total (λ (q : List ℕ × T). q.0) p f texts
  tied_texts p f [] h = tt
  tied_texts p f (text ∷ texts) h = ((λ k. ap f (sym (equal_same p.0 text k)) ∙ h), tied_texts p f texts h)

  -- one more text shows something new
  more_at : (p : List ℕ × T) (f g : List ℕ → Option (List ℕ × T)) (texts : List (List ℕ)) → ((other : List ℕ) → bytes_eq p.0 other ≡ false → f other ≡ g other) → ((text : List ℕ) (q : List ℕ × T) → g text ≡ Some q → text ≡ q.0) → f p.0 ≡ Some p → KeysRise {T = List ℕ × T} text_cmp nat_list_cmp_total (λ q. q.0) texts
      → filter_map f (with_text p.0 texts) ≡ with_at p.0 p.1 (filter_map g texts)
  more_at p f g texts differ of is rise =
      ap (filter_map f) (text_is T p.0 texts)
      ∙ entered text_cmp nat_list_cmp_total (λ (q : List ℕ × T). q.0) p f g texts (λ other h. differ other (sym (is_eq-slice_cmp p.0 other) ∙ h)) of is (tied_texts p f texts is) rise
      ∙ sym (at_is p (filter_map g texts))

-- SITES

abbrev AreBelow : OpSerial → List OpSerial → Type 0
AreBelow serial earlier = AllByRecursion (λ (t : OpSerial). is_below t serial ≡ true) earlier

abbrev IsBelowAt : OpSerial → Option OpSerial → Type 0
IsBelowAt serial None = ⊤
IsBelowAt serial (Some t) = is_below t serial ≡ true

greater_below : (serial : OpSerial) (o : Option OpSerial) (t : OpSerial) → IsBelowAt serial o → is_below t serial ≡ true → is_below (greater_serial o t) serial ≡ true
greater_below serial None t h k = k
greater_below serial (Some u) t h k = by (is_below u t)
  where
    by : (b : Bool) → is_below (cond b t u) serial ≡ true
    by true = k
    by false = h

greatest_below : (serial : OpSerial) (ss : List OpSerial) → AreBelow serial ss → IsBelowAt serial (greatest_serial ss)
greatest_below serial [] h = tt
greatest_below serial (t ∷ ss) h = greater_below serial (greatest_serial ss) t (greatest_below serial ss h.1) h.0

filter_below : (serial : OpSerial) (test : OpSerial → Bool) (ss : List OpSerial) → AreBelow serial ss → AreBelow serial (filter test ss)
filter_below serial test [] h = tt
filter_below serial test (t ∷ ss) h = by (test t) (filter_below serial test ss h.1)
  where
    by : (b : Bool) → AreBelow serial (filter test ss) → AreBelow serial (cond b (t ∷ filter test ss) (filter test ss))
    by true more = (h.0, more)
    by false more = more

above_top : (serial : OpSerial) (o : Option OpSerial) → IsBelowAt serial o → greater_serial o serial ≡ serial
above_top serial None h = refl
above_top serial (Some t) h = ap (λ (b : Bool). cond b serial t) h

pub rise_sites : (ss : List OpSerial) → KeysRise {T = List ℕ × OpSerial} text_cmp nat_list_cmp_total (λ q. q.0) (sites_in ss)
rise_sites [] = tt
rise_sites (t ∷ ss) = rise_text OpSerial t.site (sites_in ss) (rise_sites ss)

pub site_named : (ss : List OpSerial) (site : List ℕ) (q : List ℕ × OpSerial) → site_of ss site ≡ Some q → site ≡ q.0
site_named ss site q h = by (greatest_serial (filter (is_at site) ss)) h
  where
    by : (o : Option OpSerial) → option_map (λ (t : OpSerial). (site, t)) o ≡ Some q → site ≡ q.0
    by None h = cc
    by (Some t) h = cc

site_other : (serial : OpSerial) (ss : List OpSerial) (other : List ℕ) → bytes_eq serial.site other ≡ false → site_of (serial ∷ ss) other ≡ site_of ss other
site_other serial ss other h =
    ap (λ (b : Bool). option_map (λ (t : OpSerial). (other, t)) (greatest_serial (cond b (serial ∷ filter (is_at other) ss) (filter (is_at other) ss)))) (eq_back serial.site other false h)

site_here : (serial : OpSerial) (ss : List OpSerial) → AreBelow serial ss → site_of (serial ∷ ss) serial.site ≡ Some (serial.site, serial)
site_here serial ss h =
    ap (λ (b : Bool). option_map (λ (t : OpSerial). (serial.site, t)) (greatest_serial (cond b (serial ∷ filter (is_at serial.site) ss) (filter (is_at serial.site) ss)))) (texts_itself serial.site)
    ∙ ap (λ (t : OpSerial). Some (serial.site, t)) (above_top serial (greatest_serial (filter (is_at serial.site) ss)) (greatest_below serial (filter (is_at serial.site) ss) (filter_below serial (is_at serial.site) ss h)))

sites_more : (serial : OpSerial) (ss : List OpSerial) → AreBelow serial ss → filter_map (site_of (serial ∷ ss)) (with_text serial.site (sites_in ss)) ≡ with_site serial (filter_map (site_of ss) (sites_in ss))
sites_more serial ss h = more_at (serial.site, serial) (site_of (serial ∷ ss)) (site_of ss) (sites_in ss) (site_other serial ss) (site_named ss) (site_here serial ss h) (rise_sites ss)

-- the site test
entry_below : (serial : OpSerial) (site : List ℕ) (o : Option OpSerial) (rest : List (List ℕ × OpSerial)) (text : List ℕ) → IsBelowAt serial o → is_above (at_text text rest) serial ≡ true → is_above (at_text text (cons_option (option_map (λ (t : OpSerial). (site, t)) o) rest)) serial ≡ true
entry_below serial site None rest text h more = more
entry_below serial site (Some t) rest text h more = by (bytes_eq text site)
  where
    by : (b : Bool) → is_above (cond b (Some t) (at_text text rest)) serial ≡ true
    by true = h
    by false = more

sites_below : (serial : OpSerial) (ss : List OpSerial) (texts : List (List ℕ)) (text : List ℕ) → AreBelow serial ss → is_above (at_text text (filter_map (site_of ss) texts)) serial ≡ true
sites_below serial ss [] text h = refl
sites_below serial ss (site ∷ texts) text h =
    entry_below serial site (greatest_serial (filter (is_at site) ss)) (filter_map (site_of ss) texts) text (greatest_below serial (filter (is_at site) ss) (filter_below serial (is_at site) ss h)) (sites_below serial ss texts text h)

-- CELLS

abbrev AreWritesBelow : OpSerial → List Write → Type 0
AreWritesBelow serial ws = AllByRecursion (λ (w : Write). is_below w.serial serial ≡ true) ws

append_below : (serial : OpSerial) (xs ys : List Write) → AreWritesBelow serial xs → AreWritesBelow serial ys → AreWritesBelow serial (xs ++ ys)
append_below serial [] ys h k = k
append_below serial (x ∷ xs) ys h k = (h.0, append_below serial xs ys h.1 k)

-- every write of an operation has its serial
abbrev AllHave : OpSerial → List Write → Type 0
AllHave serial ws = AllByRecursion (λ (w : Write). w.serial ≡ serial) ws

append_have : (serial : OpSerial) (xs ys : List Write) → AllHave serial xs → AllHave serial ys → AllHave serial (xs ++ ys)
append_have serial [] ys h k = k
append_have serial (x ∷ xs) ys h k = (h.0, append_have serial xs ys h.1 k)

reverse_cons : (x : Write) (xs : List Write) → reverse (x ∷ xs) ≡ reverse xs ++ x ∷ []
reverse_cons x xs = reverse-append (x ∷ []) xs

values_have : (serial : OpSerial) (vs : List MapValue) → AllHave serial (reverse (map (value_written serial) vs))
values_have serial [] = tt
values_have serial (v ∷ vs) = subst (λ (ws : List Write). AllHave serial ws) (sym (reverse_cons (value_written serial v) (map (value_written serial) vs))) (append_have serial (reverse (map (value_written serial) vs)) (value_written serial v ∷ []) (values_have serial vs) (refl, tt))

one_has : (serial : OpSerial) (b : Bool) (w : Write) → w.serial ≡ serial → AllHave serial (cond b (w ∷ []) [])
one_has serial true w h = (h, tt)
one_has serial false w h = tt

op_has : (key : List ℕ) (stamp : ℕ) (serial : OpSerial) (op : Op) → AllHave serial (written_if key stamp (Some serial) op)
op_has key stamp serial (MapCreate id es) = values_have serial (values_at key es)
op_has key stamp serial (MapSet id k value) = one_has serial (bytes_eq k key) (value_written serial value) refl
op_has key stamp serial (MapRemove id k) = one_has serial (bytes_eq k key) (removal serial stamp) refl
op_has key stamp serial (CounterCreate id n) = tt
op_has key stamp serial (CounterInc id n) = tt
op_has key stamp serial (Delete id) = tt

have_below : (serial t : OpSerial) (ws : List Write) → AllHave t ws → is_below t serial ≡ true → AreWritesBelow serial ws
have_below serial t [] h k = tt
have_below serial t (w ∷ ws) h k = (ap (λ (u : OpSerial). is_below u serial) h.0 ∙ k, have_below serial t ws h.1 k)

writes_below : (serial : OpSerial) (key : List ℕ) (before : List Stamped) → AreBelow serial (serials before) → AreWritesBelow serial (writes key before)
writes_below serial key [] h = tt
writes_below serial key (x ∷ before) h = by x.op.serial refl (writes_below serial key before)
  where
    by : (o : Option OpSerial) → x.op.serial ≡ o → (AreBelow serial (serials before) → AreWritesBelow serial (writes key before)) → AreWritesBelow serial (written_if key x.stamp x.op.serial x.op.op ++ writes key before)
    by None e more =
        let h2 : AreBelow serial (cons_option None (serials before)) = subst (λ (p : Option OpSerial). AreBelow serial (cons_option p (serials before))) e h in
        subst (λ (p : Option OpSerial). AreWritesBelow serial (written_if key x.stamp p x.op.op ++ writes key before)) (sym e) (more h2)
    by (Some t) e more =
        let h2 : AreBelow serial (cons_option (Some t) (serials before)) = subst (λ (p : Option OpSerial). AreBelow serial (cons_option p (serials before))) e h in
        subst (λ (p : Option OpSerial). AreWritesBelow serial (written_if key x.stamp p x.op.op ++ writes key before)) (sym e)
        (append_below serial (written_if key x.stamp (Some t) x.op.op) (writes key before) (have_below serial t (written_if key x.stamp (Some t) x.op.op) (op_has key x.stamp t x.op.op) h2.0) (more h2.1))

abbrev IsWriteAt : OpSerial → Option Write → Type 0
IsWriteAt serial None = ⊤
IsWriteAt serial (Some w) = is_below w.serial serial ≡ true

greater_write : (serial : OpSerial) (there : Option Write) (w : Write) → IsWriteAt serial there → is_below w.serial serial ≡ true → is_below (greater there w).serial serial ≡ true
greater_write serial None w h k = k
greater_write serial (Some v) w h k = by (is_below v.serial w.serial)
  where
    by : (b : Bool) → is_below (cond b w v).serial serial ≡ true
    by true = k
    by false = h

greatest_write : (serial : OpSerial) (ws : List Write) → AreWritesBelow serial ws → IsWriteAt serial (greatest ws)
greatest_write serial [] h = tt
greatest_write serial (w ∷ ws) h = greater_write serial (greatest ws) w (greatest_write serial ws h.1) h.0

above_write : (there : Option Write) (w : Write) → IsWriteAt w.serial there → greater there w ≡ w
above_write None w h = refl
above_write (Some v) w h = ap (λ (b : Bool). cond b w v) h

pub cell_named : (ticked : ℕ) (key : List ℕ) (there : Option Write) (p : List ℕ × Write) → option_and_then (kept_write ticked key) there ≡ Some p → key ≡ p.0
cell_named ticked key None p h = cc
cell_named ticked key (Some w) p h = by (is_collected_write ticked w.written) h
  where
    by : (b : Bool) → cond b None (Some (key, w)) ≡ Some p → key ≡ p.0
    by true e = cc
    by false e = cc

rise_texts : (ts texts : List (List ℕ)) → KeysRise {T = List ℕ × Write} text_cmp nat_list_cmp_total (λ q. q.0) texts → KeysRise {T = List ℕ × Write} text_cmp nat_list_cmp_total (λ q. q.0) (with_texts ts texts)
rise_texts [] texts h = h
rise_texts (t ∷ ts) texts h = rise_text Write t (with_texts ts texts) (rise_texts ts texts h)

pub rise_keys : (before : List Stamped) → KeysRise {T = List ℕ × Write} text_cmp nat_list_cmp_total (λ q. q.0) (keys_in before)
rise_keys [] = tt
rise_keys (x ∷ before) = rise_texts (keys_of x.op.op) (keys_in before) (rise_keys before)

cell_entry : (ticked : ℕ) (serial : OpSerial) (key text : List ℕ) (there : Option Write) (rest : Cells) → IsWriteAt serial there → IsWriteAt serial (at_text text rest) → IsWriteAt serial (at_text text (cons_option (option_and_then (kept_write ticked key) there) rest))
cell_entry ticked serial key text None rest h more = more
cell_entry ticked serial key text (Some w) rest h more = by (is_collected_write ticked w.written)
  where
    at : (b : Bool) → IsWriteAt serial (cond b (Some w) (at_text text rest))
    at true = h
    at false = more

    by : (b : Bool) → IsWriteAt serial (at_text text (cons_option (cond b None (Some (key, w))) rest))
    by true = more
    by false = at (bytes_eq text key)

cells_below : (ticked : ℕ) (serial : OpSerial) (before : List Stamped) (texts : List (List ℕ)) (text : List ℕ) → AreBelow serial (serials before) → IsWriteAt serial (at_text text (filter_map (kept_cell ticked before) texts))
cells_below ticked serial before [] text h = tt
cells_below ticked serial before (key ∷ texts) text h =
    cell_entry ticked serial key text (greatest (writes key before)) (filter_map (kept_cell ticked before) texts) (greatest_write serial (writes key before) (writes_below serial key before h)) (cells_below ticked serial before texts text h)

-- one more write at a key
write_more : (ticked : ℕ) (key : List ℕ) (w : Write) (before : List Stamped) → AreBelow w.serial (serials before) → is_collected_write ticked w.written ≡ false
    → filter_map (λ other. option_and_then (kept_write ticked other) (greatest (cond (bytes_eq key other) (w ∷ []) [] ++ writes other before))) (with_text key (keys_in before)) ≡ with_write key w (filter_map (kept_cell ticked before) (keys_in before))
write_more ticked key w before below recent =
    let cells = filter_map (kept_cell ticked before) (keys_in before) in
    let top : greater (greatest (writes key before)) w ≡ w = above_write (greatest (writes key before)) w (greatest_write w.serial (writes key before) (writes_below w.serial key before below)) in
    more_at (key, w) (λ other. option_and_then (kept_write ticked other) (greatest (cond (bytes_eq key other) (w ∷ []) [] ++ writes other before))) (kept_cell ticked before) (keys_in before)
    (λ other h. ap (λ (b : Bool). option_and_then (kept_write ticked other) (greatest (cond b (w ∷ []) [] ++ writes other before))) h)
    (λ text q. cell_named ticked text (greatest (writes text before)) q)
    (ap (λ (b : Bool). option_and_then (kept_write ticked key) (greatest (cond b (w ∷ []) [] ++ writes key before))) (texts_itself key)
    ∙ ap (kept_write ticked key) top
    ∙ ap (λ (b : Bool). cond b None (Some (key, w))) recent)
    (rise_keys before)
    ∙ ap (λ (one : Write). with_at key one cells) (sym (above_write (at_text key cells) w (cells_below ticked w.serial before (keys_in before) key below)))

-- A MAP'S CREATE

abbrev Entries : Type 0
Entries = List (List ℕ × MapValue)

abbrev first_of : List MapValue → Option MapValue
first_of [] = None
first_of (v ∷ vs) = Some v

abbrev shown_entry : OpSerial → Entries → List ℕ → Option (List ℕ × Write)
shown_entry serial es key = option_map (λ (v : MapValue). (key, value_written serial v)) (first_of (values_at key es))

not_below : (serial : OpSerial) → is_below serial serial ≡ false
not_below serial = ap is_lt (tied_itself serials_total serial)

base_stays : (serial : OpSerial) (xs : List Write) (v : Write) → AllHave serial xs → v.serial ≡ serial → greatest (xs ++ v ∷ []) ≡ Some v
base_stays serial [] v h k = refl
base_stays serial (x ∷ xs) v h k =
    ap (λ (o : Option Write). Some (greater o x)) (base_stays serial xs v h.1 k)
    ∙ ap (λ (b : Bool). Some (cond b x v)) (ap (λ (t : OpSerial). is_below t x.serial) k ∙ ap (is_below serial) h.0 ∙ not_below serial)

append_none : (xs : List Write) → xs ++ [] ≡ xs
append_none [] = refl
append_none (x ∷ xs) = ap (λ (ys : List Write). x ∷ ys) (append_none xs)

first_stays : (serial : OpSerial) (vs : List MapValue) → greatest (reverse (map (value_written serial) vs) ++ []) ≡ option_map (value_written serial) (first_of vs)
first_stays serial [] = refl
first_stays serial (v ∷ vs) =
    ap greatest (append_none (reverse (value_written serial v ∷ map (value_written serial) vs)) ∙ reverse_cons (value_written serial v) (map (value_written serial) vs))
    ∙ base_stays serial (reverse (map (value_written serial) vs)) (value_written serial v) (values_have serial vs) refl

entry_is : (ticked : ℕ) (serial : OpSerial) (es : Entries) (key : List ℕ) → option_and_then (kept_write ticked key) (greatest (reverse (map (value_written serial) (values_at key es)) ++ [])) ≡ shown_entry serial es key
entry_is ticked serial es key = ap (λ (o : Option Write). option_and_then (kept_write ticked key) o) (first_stays serial (values_at key es)) ∙ by (first_of (values_at key es))
  where
    by : (o : Option MapValue) → option_and_then (kept_write ticked key) (option_map (value_written serial) o) ≡ option_map (λ (v : MapValue). (key, value_written serial v)) o
    by None = refl
    by (Some v) = refl

entry_named : (serial : OpSerial) (es : Entries) (key : List ℕ) (q : List ℕ × Write) → shown_entry serial es key ≡ Some q → key ≡ q.0
entry_named serial es key q h = by (first_of (values_at key es)) h
  where
    by : (o : Option MapValue) → option_map (λ (v : MapValue). (key, value_written serial v)) o ≡ Some q → key ≡ q.0
    by None e = cc
    by (Some v) e = cc

entries_rise : (es : Entries) → KeysRise {T = List ℕ × Write} text_cmp nat_list_cmp_total (λ q. q.0) (with_texts (map (λ (e : List ℕ × MapValue). e.0) es) [])
entries_rise es = rise_texts (map (λ (e : List ℕ × MapValue). e.0) es) [] tt

-- a write of the same serial that stands already
kept_first : (serial : OpSerial) (key : List ℕ) (w : Write) (other : List ℕ) (v : MapValue) (cells : Cells) (b : Bool) → w.serial ≡ serial → bytes_eq key other ≡ b → with_write other (value_written serial v) (with_at key w cells) ≡ cond b (with_at key w cells) (with_at key w (with_write other (value_written serial v) cells))
kept_first serial key w other v cells true e same =
    subst (λ (k : List ℕ). with_write k (value_written serial v) (with_at key w cells) ≡ with_at key w cells) (texts_same key other same)
    (ap (λ (o : Option Write). with_at key (greater o (value_written serial v)) (with_at key w cells)) (there_here key w cells)
    ∙ ap (λ (b : Bool). with_at key (cond b (value_written serial v) w) (with_at key w cells)) (ap (λ (t : OpSerial). is_below t serial) e ∙ not_below serial)
    ∙ twice key w w cells)
  where
    there_here : (key : List ℕ) (w : Write) (cells : Cells) → at_text key (with_at key w cells) ≡ Some w
    there_here key w cells = there_with key w cells
kept_first serial key w other v cells false e apart =
    ap (λ (o : Option Write). with_at other (greater o (value_written serial v)) (with_at key w cells)) (there_other key other w cells (eq_back key other false apart))
    ∙ with_either key other w (greater (at_text other cells) (value_written serial v)) cells apart

twice_here : (key other : List ℕ) (w v : Write) (cells : Cells) → key ≡ other → with_at key w (with_at other v cells) ≡ with_at key w cells
twice_here key other w v cells same = ap (λ (k : List ℕ). with_at key w (with_at k v cells)) (sym same) ∙ twice key v w cells

then_writes : (serial : OpSerial) (es : Entries) (key : List ℕ) (w : Write) (cells : Cells) → w.serial ≡ serial → with_writes (entry_writes serial es) (with_at key w cells) ≡ with_at key w (with_writes (entry_writes serial es) cells)
then_writes serial [] key w cells e = refl
then_writes serial (one ∷ es) key w cells e = by (bytes_eq key one.0) refl (λ c. then_writes serial es key w c e)
  where
    by : (b : Bool) → bytes_eq key one.0 ≡ b → ((c : Cells) → with_writes (entry_writes serial es) (with_at key w c) ≡ with_at key w (with_writes (entry_writes serial es) c)) → with_writes (entry_writes serial es) (with_write one.0 (value_written serial one.1) (with_at key w cells)) ≡ with_at key w (with_writes (entry_writes serial es) (with_write one.0 (value_written serial one.1) cells))
    by true same rest =
        ap (with_writes (entry_writes serial es)) (kept_first serial key w one.0 one.1 cells true e same)
        ∙ ap (with_writes (entry_writes serial es)) (sym (twice_here key one.0 w (greater (at_text one.0 cells) (value_written serial one.1)) cells (texts_same key one.0 same)))
        ∙ rest (with_write one.0 (value_written serial one.1) cells)
    by false apart rest =
        ap (with_writes (entry_writes serial es)) (kept_first serial key w one.0 one.1 cells false e apart)
        ∙ rest (with_write one.0 (value_written serial one.1) cells)

create_more : (serial : OpSerial) (es : Entries) → filter_map (shown_entry serial es) (with_texts (map (λ (e : List ℕ × MapValue). e.0) es) []) ≡ with_writes (entry_writes serial es) []
create_more serial [] = refl
create_more serial (one ∷ es) =
    more_at (one.0, value_written serial one.1) (shown_entry serial (one ∷ es)) (shown_entry serial es) (with_texts (map (λ (e : List ℕ × MapValue). e.0) es) [])
    (λ other h. ap (λ (b : Bool). option_map (λ (v : MapValue). (other, value_written serial v)) (first_of (cond b (one.1 ∷ values_at other es) (values_at other es)))) h)
    (entry_named serial es)
    (ap (λ (b : Bool). option_map (λ (v : MapValue). (one.0, value_written serial v)) (first_of (cond b (one.1 ∷ values_at one.0 es) (values_at one.0 es)))) (texts_itself one.0))
    (entries_rise es)
    ∙ ap (with_at one.0 (value_written serial one.1)) (create_more serial es)
    ∙ sym (then_writes serial es one.0 (value_written serial one.1) [] refl)

-- ONE OBJECT

find_none : (before : List Stamped) → list_any deletes before ≡ false → find deletes before ≡ None
find_none [] h = refl
find_none (x ∷ before) h = by (deletes x) h (find_none before)
  where
    by : (b : Bool) → (b || list_any deletes before) ≡ false → (list_any deletes before ≡ false → find deletes before ≡ None) → cond b (Some x) (find deletes before) ≡ None
    by true e more = cc
    by false e more = more e

abbrev object_with : ObjectId → List (List ℕ × OpSerial) → Option ℕ → Bool → HeldBody → Held
object_with id sites deleted created body = record { id = id; sites = sites; deleted = deleted; created = created; body = body }

stands_kept : (ticked : ℕ) (id : ObjectId) (before : List Stamped) → Stands id before → kept_by ticked id before (find deletes before) ≡ Some (standing ticked id before)
stands_kept ticked id before h =
    ap (kept_by ticked id before) (find_none before h.lasts) ∙ ap (λ (b : Bool). cond b (Some (standing ticked id before)) None) h.made

-- what the operation is, in the log
abbrev pub one_with : ℕ → OpSerial → Op → Stamped
one_with stamp serial op = stamped_at stamp (op_with serial op)

-- a change of an object that stands
change_kept : (ticked stamp : ℕ) (serial : OpSerial) (op : Op) (id : ObjectId) (before : List Stamped) → is_delete op ≡ false → is_create op ≡ false → Stands id before → AreBelow serial (serials before)
    → body_of ticked (kind_of id) (one_with stamp serial op ∷ before) ≡ body_after stamp serial op true (body_of ticked (kind_of id) before)
    → kept_by ticked id (one_with stamp serial op ∷ before) (find deletes (one_with stamp serial op ∷ before)) ≡ Some (held_with stamp serial op (standing ticked id before))
change_kept ticked stamp serial op id before h k stands below body =
    let one = one_with stamp serial op in
    ap (λ (b : Bool). kept_by ticked id (one ∷ before) (cond b (Some one) (find deletes before))) h
    ∙ ap (kept_by ticked id (one ∷ before)) (find_none before stands.lasts)
    ∙ ap (λ (b : Bool). cond (is_root id || (b || list_any creates before)) (Some (standing ticked id (one ∷ before))) None) k
    ∙ ap (λ (b : Bool). cond b (Some (standing ticked id (one ∷ before))) None) stands.made
    ∙ ap (λ (xs : List (List ℕ × OpSerial)). Some (object_with id xs None true (body_of ticked (kind_of id) (one ∷ before)))) (sites_more serial (serials before) below)
    ∙ ap (λ (b : HeldBody). Some (object_with id (with_site serial (sites before)) None true b)) body
    ∙ ap (λ (b : Bool). Some (object_with id (with_site serial (sites before)) (cond b (Some stamp) None) true (body_after stamp serial op true (body_of ticked (kind_of id) before)))) (sym h)
    ∙ ap (λ (b : Bool). Some (object_with id (with_site serial (sites before)) (deleted_after stamp op) b (body_after stamp serial op true (body_of ticked (kind_of id) before)))) (sym (made_after op h k))
  where
    made_after : (op : Op) → is_delete op ≡ false → is_create op ≡ false → created_after op true ≡ true
    made_after op h k = ap (λ (b : Bool). not b && (is_create op || true)) h ∙ ap (λ (b : Bool). b || true) k

and_false : (a b : Bool) → b ≡ false → (a && b) ≡ false
and_false true b h = h
and_false false b h = refl

emptied_kind : (ticked : ℕ) (kind : ObjectKind) (before : List Stamped) → emptied (body_of ticked kind before) ≡ empty_body kind
emptied_kind ticked kinds.Map before = refl
emptied_kind ticked kinds.Counter before = refl

delete_kept : (ticked stamp : ℕ) (serial : OpSerial) (id : ObjectId) (before : List Stamped) → is_collected ticked stamp ≡ false → AreBelow serial (serials before)
    → kept_by ticked id (one_with stamp serial (Delete id) ∷ before) (find deletes (one_with stamp serial (Delete id) ∷ before)) ≡ Some (held_with stamp serial (Delete id) (standing ticked id before))
delete_kept ticked stamp serial id before recent below =
    let one = one_with stamp serial (Delete id) in
    ap (λ (b : Bool). cond b None (Some (tombstone id (one ∷ before) stamp))) (and_false (not (is_root id)) (is_collected ticked stamp) recent)
    ∙ ap (λ (xs : List (List ℕ × OpSerial)). Some (object_with id xs (Some stamp) false (empty_body (kind_of id)))) (sites_more serial (serials before) below)
    ∙ ap (λ (b : HeldBody). Some (object_with id (with_site serial (sites before)) (Some stamp) false b)) (sym (emptied_kind ticked (kind_of id) before))

mapped_same : (f g : List ℕ → Option (List ℕ × Write)) → ((key : List ℕ) → f key ≡ g key) → (keys : List (List ℕ)) → filter_map f keys ≡ filter_map g keys
mapped_same f g h [] = refl
mapped_same f g h (key ∷ keys) = ap (λ (o : Option (List ℕ × Write)). cons_option o (filter_map f keys)) (h key) ∙ ap (cons_option (g key)) (mapped_same f g h keys)

created_cells : (ticked stamp : ℕ) (serial : OpSerial) (id : ObjectId) (es : Entries) → filter_map (kept_cell ticked (one_with stamp serial (MapCreate id es) ∷ [])) (with_texts (map (λ (e : List ℕ × MapValue). e.0) es) []) ≡ with_writes (entry_writes serial es) []
created_cells ticked stamp serial id es =
    mapped_same (kept_cell ticked (one_with stamp serial (MapCreate id es) ∷ [])) (shown_entry serial es) (entry_is ticked serial es) (with_texts (map (λ (e : List ℕ × MapValue). e.0) es) [])
    ∙ create_more serial es

-- the step is what the definitions say, and it is applied
pub record IsStep (ticked stamp : ℕ) (serial : OpSerial) (op : Op) (before : List Stamped) (target : Held) : Type 0 where
  pub found : unwrap_or (kept_by ticked (id_in op) before (find deletes before)) (new_held (id_in op)) ≡ target
  pub applied : outcome serial op target ≡ outcomes.Applied
  pub kept : kept_by ticked (id_in op) (one_with stamp serial op ∷ before) (find deletes (one_with stamp serial op ∷ before)) ≡ Some (held_with stamp serial op target)

outcome_by : (m p r : Bool) → m ≡ true → p ≡ true → r ≡ false → cond (not m || not p) outcomes.Skipped (cond (true && r) outcomes.Range outcomes.Applied) ≡ outcomes.Applied
outcome_by true true false h k l = refl
outcome_by true true true h k l = cc
outcome_by true false r h k l = cc
outcome_by false p r h k l = cc

applied_standing : (ticked : ℕ) (serial : OpSerial) (op : Op) (id : ObjectId) (before : List Stamped) → suits (kind_of id) op ≡ true → AreBelow serial (serials before) → body_passes_range (body_of ticked (kind_of id) before) (added op true) ≡ false → outcome serial op (standing ticked id before) ≡ outcomes.Applied
applied_standing ticked serial op id before kind below range =
    outcome_by (suits (kind_of id) op) (passes serial (sites before)) (body_passes_range (body_of ticked (kind_of id) before) (added op true)) kind (sites_below serial (serials before) (sites_in (serials before)) serial.site below) range

none_passes : (body : HeldBody) → body_passes_range body None ≡ false
none_passes (Sum sum) = refl
none_passes (Keys cells) = refl

stands_found : (ticked : ℕ) (id : ObjectId) (before : List Stamped) → Stands id before → unwrap_or (kept_by ticked id before (find deletes before)) (new_held id) ≡ standing ticked id before
stands_found ticked id before h = ap (λ (o : Option Held). unwrap_or o (new_held id)) (stands_kept ticked id before h)

abbrev key_of : Entries → List (List ℕ)
key_of es = map (λ (e : List ℕ × MapValue). e.0) es

map_body : (ticked : ℕ) (id : ObjectId) (all before : List Stamped) (new : Cells → Cells) → kind_of id ≡ kinds.Map → filter_map (kept_cell ticked all) (keys_in all) ≡ new (filter_map (kept_cell ticked before) (keys_in before)) → body_of ticked (kind_of id) all ≡ on_cells new (body_of ticked (kind_of id) before)
map_body ticked id all before new kind h =
    ap (λ k. body_of ticked k all) kind ∙ ap Keys h ∙ ap (λ k. on_cells new (body_of ticked k before)) (sym kind)

map_kind : (id : ObjectId) (op : Op) → (suits kinds.Counter op ≡ true → suits kinds.Map op ≡ false) → suits (kind_of id) op ≡ true → suits kinds.Map op ≡ true → kind_of id ≡ kinds.Map
map_kind Root op h k l = refl
map_kind (Made kinds.Map hash millis) op h k l = refl
map_kind (Made kinds.Counter hash millis) op h k l = cc (sym l ∙ h k)

counter_kind : (id : ObjectId) (n : ℤ) → suits (kind_of id) (CounterInc id n) ≡ true → kind_of id ≡ kinds.Counter
counter_kind Root n h = cc
counter_kind (Made kinds.Map hash millis) n h = cc
counter_kind (Made kinds.Counter hash millis) n h = refl

set_step : (ticked stamp : ℕ) (serial : OpSerial) (id : ObjectId) (key : List ℕ) (value : MapValue) (before : List Stamped) → Follows ticked serial (MapSet id key value) stamp before → IsStep ticked stamp serial (MapSet id key value) before (standing ticked id before)
set_step ticked stamp serial id key value before h =
    let kind = map_kind id (MapSet id key value) (λ e. cc) h.kind refl in
    record {
      found = stands_found ticked id before h.lives;
      applied = applied_standing ticked serial (MapSet id key value) id before h.kind h.above (none_passes (body_of ticked (kind_of id) before));
      kept = change_kept ticked stamp serial (MapSet id key value) id before refl refl h.lives h.above (map_body ticked id (one_with stamp serial (MapSet id key value) ∷ before) before (with_write key (value_written serial value)) kind (write_more ticked key (value_written serial value) before h.above refl));
    }

remove_step : (ticked stamp : ℕ) (serial : OpSerial) (id : ObjectId) (key : List ℕ) (before : List Stamped) → Follows ticked serial (MapRemove id key) stamp before → IsStep ticked stamp serial (MapRemove id key) before (standing ticked id before)
remove_step ticked stamp serial id key before h =
    let kind = map_kind id (MapRemove id key) (λ e. cc) h.kind refl in
    record {
      found = stands_found ticked id before h.lives;
      applied = applied_standing ticked serial (MapRemove id key) id before h.kind h.above (none_passes (body_of ticked (kind_of id) before));
      kept = change_kept ticked stamp serial (MapRemove id key) id before refl refl h.lives h.above (map_body ticked id (one_with stamp serial (MapRemove id key) ∷ before) before (with_write key (removal serial stamp)) kind (write_more ticked key (removal serial stamp) before h.above h.recent));
    }

assoc : (a b c : ℤ) → a +ℤ (b +ℤ c) ≡ (a +ℤ b) +ℤ c
assoc a b c = omega (arith, ints)

inc_body : (ticked stamp : ℕ) (serial : OpSerial) (id : ObjectId) (n : ℤ) (before : List Stamped) → kind_of id ≡ kinds.Counter → body_of ticked (kind_of id) (one_with stamp serial (CounterInc id n) ∷ before) ≡ body_after stamp serial (CounterInc id n) true (body_of ticked (kind_of id) before)
inc_body ticked stamp serial id n before kind =
    ap (λ k. body_of ticked k (one_with stamp serial (CounterInc id n) ∷ before)) kind
    ∙ ap Sum (assoc (count_of (find creates before)) (amounts before) n)
    ∙ ap (λ k. body_after stamp serial (CounterInc id n) true (body_of ticked k before)) (sym kind)

inc_step : (ticked stamp : ℕ) (serial : OpSerial) (id : ObjectId) (n : ℤ) (before : List Stamped) → Follows ticked serial (CounterInc id n) stamp before → IsStep ticked stamp serial (CounterInc id n) before (standing ticked id before)
inc_step ticked stamp serial id n before h =
    let kind = counter_kind id n h.kind in
    record {
      found = stands_found ticked id before h.lives;
      applied = applied_standing ticked serial (CounterInc id n) id before h.kind h.above (ap (λ k. body_passes_range (body_of ticked k before) (Some n)) kind ∙ h.fits);
      kept = change_kept ticked stamp serial (CounterInc id n) id before refl refl h.lives h.above (inc_body ticked stamp serial id n before kind);
    }

delete_step : (ticked stamp : ℕ) (serial : OpSerial) (id : ObjectId) (before : List Stamped) → Follows ticked serial (Delete id) stamp before → IsStep ticked stamp serial (Delete id) before (standing ticked id before)
delete_step ticked stamp serial id before h = record {
  found = stands_found ticked id before h.lives.1;
  applied = applied_standing ticked serial (Delete id) id before h.kind h.above (none_passes (body_of ticked (kind_of id) before));
  kept = delete_kept ticked stamp serial id before h.recent h.above;
}

map_step : (ticked stamp : ℕ) (serial : OpSerial) (id : ObjectId) (es : Entries) (before : List Stamped) → Follows ticked serial (MapCreate id es) stamp before → IsStep ticked stamp serial (MapCreate id es) before (new_held id)
map_step ticked stamp serial Root es before h = cc (h.lives.other)
map_step ticked stamp serial (Made kinds.Counter hash millis) es before h = cc (h.kind)
map_step ticked stamp serial (Made kinds.Map hash millis) es (x ∷ before) h = cc (h.lives.first)
map_step ticked stamp serial (Made kinds.Map hash millis) es [] h =
    let id = Made kinds.Map hash millis in
    record {
      found = refl;
      applied = refl;
      kept =
          ap (λ (xs : List (List ℕ × OpSerial)). Some (object_with id xs None true (Keys (filter_map (kept_cell ticked (one_with stamp serial (MapCreate id es) ∷ [])) (with_texts (key_of es) []))))) (sites_more serial [] tt)
          ∙ ap (λ (cells : Cells). Some (object_with id (with_site serial []) None true (Keys cells))) (created_cells ticked stamp serial id es);
    }

plus_none : (n : ℤ) → n +ℤ (pos 0 +ℤ pos 0) ≡ pos 0 +ℤ n
plus_none n = omega (arith, ints)

counter_step : (ticked stamp : ℕ) (serial : OpSerial) (id : ObjectId) (n : ℤ) (before : List Stamped) → Follows ticked serial (CounterCreate id n) stamp before → IsStep ticked stamp serial (CounterCreate id n) before (new_held id)
counter_step ticked stamp serial Root n before h = cc (h.lives.other)
counter_step ticked stamp serial (Made kinds.Map hash millis) n before h = cc (h.kind)
counter_step ticked stamp serial (Made kinds.Counter hash millis) n (x ∷ before) h = cc (h.lives.first)
counter_step ticked stamp serial (Made kinds.Counter hash millis) n [] h =
    let id = Made kinds.Counter hash millis in
    record {
      found = refl;
      applied = ap (λ (b : Bool). cond b outcomes.Range outcomes.Applied) h.fits;
      kept =
          ap (λ (xs : List (List ℕ × OpSerial)). Some (object_with id xs None true (Sum (n +ℤ (pos 0 +ℤ pos 0))))) (sites_more serial [] tt)
          ∙ ap (λ (sum : ℤ). Some (object_with id (with_site serial []) None true (Sum sum))) (plus_none n);
    }

-- the object that an operation is applied to
abbrev pub target_of : ℕ → Op → List Stamped → Held
target_of ticked (MapCreate id es) before = new_held id
target_of ticked (CounterCreate id n) before = new_held id
target_of ticked (MapSet id key value) before = standing ticked id before
target_of ticked (MapRemove id key) before = standing ticked id before
target_of ticked (CounterInc id n) before = standing ticked id before
target_of ticked (Delete id) before = standing ticked id before

pub object_step : (ticked stamp : ℕ) (serial : OpSerial) (op : Op) (before : List Stamped) → Follows ticked serial op stamp before → IsStep ticked stamp serial op before (target_of ticked op before)
object_step ticked stamp serial (MapCreate id es) before h = map_step ticked stamp serial id es before h
object_step ticked stamp serial (CounterCreate id n) before h = counter_step ticked stamp serial id n before h
object_step ticked stamp serial (MapSet id key value) before h = set_step ticked stamp serial id key value before h
object_step ticked stamp serial (MapRemove id key) before h = remove_step ticked stamp serial id key before h
object_step ticked stamp serial (CounterInc id n) before h = inc_step ticked stamp serial id n before h
object_step ticked stamp serial (Delete id) before h = delete_step ticked stamp serial id before h
