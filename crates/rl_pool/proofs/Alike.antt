-- Two pools that differ in their serials alone, and an operation that is the newest in both.
use Rattle.std.proofs.Common.{◌≡◌, ℕ, Bool, true, false, cond, List, [], ◌∷◌, refl, ap, sym, subst, ◌∙◌}
use Rattle.std.specs.Prelude.{⊤, bytes_eq, not, is_none, unwrap_or, ◌&&◌, ◌||◌, Option, Some, None, ℤ, ◌+ℤ◌}
use Rattle.std.specs.List.{AllByRecursion}
use Rattle.std.specs.declared.cmp.Ordering.{Ordering}
use Rattle.std.specs.declared.cmp.Ordering.TheVariants.{Less, Equal, Greater}
use Rattle.std.specs.Ordering.{nat_cmp, match_ordering, is_eq, is_lt}
use Rattle.std.specs.Cmp.{IsTotalOrder}
use Rattle.std.specs.Cmp.Lexicographic.{slice_cmp}
use Rattle.std.proofs.lemmas.Cmp.{nat_cmp_total, nat_list_cmp_total, on_total, then_total, tied_itself}
use Rattle.rl_ids.specs.declared.objects.ObjectKind.{ObjectKind}
use Rattle.rl_ids.specs.declared.objects.ObjectKind.TheVariants as kinds
use Rattle.rl_ids.specs.declared.objects.ObjectId.{ObjectId}
use Rattle.rl_ids.specs.declared.objects.MapValue.{MapValue}
use Rattle.rl_ids.specs.declared.serials.OpSerial.{OpSerial}
use Rattle.rl_ids.specs.Objects.{id_cmp, serial_cmp, is_below, kind_of}
use Rattle.rl_types.specs.declared.objects.Op.{Op}
use Rattle.rl_types.specs.declared.objects.Op.TheVariants.{MapCreate, MapSet, MapRemove, CounterCreate, CounterInc, Delete}
use Rattle.rl_objmodel.specs.declared.plain.Applied.{Applied}
use Rattle.rl_objmodel.specs.declared.plain.Applied.TheVariants as outcomes
use Rattle.rl_objmodel.specs.Held.{Written, Value, Removed, Write, value_written, removal, Cells, HeldBody, Sum, Keys, Held, empty_body}
use Rattle.rl_objmodel.specs.Objects.{greater}
use Rattle.rl_objmodel.specs.Operations.{id_in, is_create, suits}
use Rattle.rl_objmodel.specs.Places.{at_text, with_at}
use Rattle.rl_objmodel.specs.Steps.{added, body_passes_range, changed, created_after, emptied, entry_writes, held_at, held_by, held_with, is_held_as, on_cells, on_sum, is_above, new_held, outcome, passes, pool_if, target, with_held, with_write, with_writes}
use Rattle.rl_pool.specs.Changes.{op_entered}
use Rattle.rl_pool.specs.Checks.{cells_of}

-- SERIALS

serials_total : IsTotalOrder serial_cmp
serials_total = then_total (on_total (λ (s : OpSerial). s.place) nat_cmp_total) (then_total (on_total (λ (s : OpSerial). s.index) nat_cmp_total) (on_total (λ (s : OpSerial). s.site) nat_list_cmp_total))

lt_less : (o : Ordering) → is_lt o ≡ true → o ≡ Less
lt_less Less h = refl
lt_less Equal h = cc
lt_less Greater h = cc

pub below_below : (a b c : OpSerial) → is_below a b ≡ true → is_below b c ≡ true → is_below a c ≡ true
below_below a b c h k = ap is_lt (serials_total.trans a b c (lt_less _ h) (lt_less _ k))

below_itself : (a : OpSerial) → is_below a a ≡ false
below_itself a = ap is_lt (tied_itself serials_total a)

-- ALL BEFORE A SERIAL

abbrev pub SitesUnder : OpSerial → List (List ℕ × OpSerial) → Type 0
SitesUnder s sites = AllByRecursion (λ (x : List ℕ × OpSerial). is_below x.1 s ≡ true) sites

abbrev pub CellsUnder : OpSerial → Cells → Type 0
CellsUnder s cells = AllByRecursion (λ (x : List ℕ × Write). is_below x.1.serial s ≡ true) cells

pub record HeldUnder (s : OpSerial) (held : Held) : Type 0 where
  pub sites : SitesUnder s held.sites
  pub cells : CellsUnder s (cells_of held.body)

abbrev pub PoolUnder : OpSerial → List Held → Type 0
PoolUnder s pool = AllByRecursion (HeldUnder s) pool

under_if : (s one : OpSerial) (rest : Option OpSerial) (b : Bool) → is_below one s ≡ true → is_above rest s ≡ true → is_above (cond b (Some one) rest) s ≡ true
under_if s one rest true h k = h
under_if s one rest false h k = k

above_all : (s : OpSerial) (text : List ℕ) (sites : List (List ℕ × OpSerial)) → SitesUnder s sites → is_above (at_text text sites) s ≡ true
above_all s text [] h = refl
above_all s text (one ∷ sites) h = under_if s one.1 (at_text text sites) (bytes_eq text one.0) h.0 (above_all s text sites h.1)

pub passes_under : (s : OpSerial) (sites : List (List ℕ × OpSerial)) → SitesUnder s sites → passes s sites ≡ true
passes_under s sites h = above_all s s.site sites h

module _ (s t : OpSerial) (next : is_below s t ≡ true) where
  sites_next : (sites : List (List ℕ × OpSerial)) → SitesUnder s sites → SitesUnder t sites
  sites_next [] h = tt
  sites_next (one ∷ sites) h = (below_below one.1 s t h.0 next, sites_next sites h.1)

  cells_next : (cells : Cells) → CellsUnder s cells → CellsUnder t cells
  cells_next [] h = tt
  cells_next (one ∷ cells) h = (below_below one.1.serial s t h.0 next, cells_next cells h.1)

  pub held_next : (held : Held) → HeldUnder s held → HeldUnder t held
  held_next held h = record { sites = sites_next held.sites h.sites; cells = cells_next (cells_of held.body) h.cells }

  pub pool_next : (pool : List Held) → PoolUnder s pool → PoolUnder t pool
  pool_next [] h = tt
  pool_next (held ∷ pool) h = (held_next held h.0, pool_next pool h.1)

-- WHAT IS PUT IS BEFORE IT TOO

site_at : (t : OpSerial) (text : List ℕ) (x : OpSerial) (one : List ℕ × OpSerial) (all : List (List ℕ × OpSerial)) (o : Ordering) → is_below x t ≡ true → SitesUnder t (one ∷ all) → SitesUnder t (with_at text x all) → SitesUnder t (match_ordering o ((text, x) ∷ one ∷ all) ((text, x) ∷ all) (one ∷ with_at text x all))
site_at t text x one all Less h k rest = (h, k)
site_at t text x one all Equal h k rest = (h, k.1)
site_at t text x one all Greater h k rest = (k.0, rest)

site_with : (t : OpSerial) (text : List ℕ) (x : OpSerial) (all : List (List ℕ × OpSerial)) → is_below x t ≡ true → SitesUnder t all → SitesUnder t (with_at text x all)
site_with t text x [] h k = (h, tt)
site_with t text x (one ∷ all) h k = site_at t text x one all (slice_cmp nat_cmp text one.0) h k (site_with t text x all h k.1)

cell_at : (t : OpSerial) (text : List ℕ) (x : Write) (one : List ℕ × Write) (all : Cells) (o : Ordering) → is_below x.serial t ≡ true → CellsUnder t (one ∷ all) → CellsUnder t (with_at text x all) → CellsUnder t (match_ordering o ((text, x) ∷ one ∷ all) ((text, x) ∷ all) (one ∷ with_at text x all))
cell_at t text x one all Less h k rest = (h, k)
cell_at t text x one all Equal h k rest = (h, k.1)
cell_at t text x one all Greater h k rest = (k.0, rest)

cell_with : (t : OpSerial) (text : List ℕ) (x : Write) (all : Cells) → is_below x.serial t ≡ true → CellsUnder t all → CellsUnder t (with_at text x all)
cell_with t text x [] h k = (h, tt)
cell_with t text x (one ∷ all) h k = cell_at t text x one all (slice_cmp nat_cmp text one.0) h k (cell_with t text x all h k.1)

abbrev OptUnder : OpSerial → Option Write → Type 0
OptUnder t None = ⊤
OptUnder t (Some w) = is_below w.serial t ≡ true

opt_if : (t : OpSerial) (w : Write) (rest : Option Write) (b : Bool) → is_below w.serial t ≡ true → OptUnder t rest → OptUnder t (cond b (Some w) rest)
opt_if t w rest true h k = h
opt_if t w rest false h k = k

opt_at : (t : OpSerial) (text : List ℕ) (cells : Cells) → CellsUnder t cells → OptUnder t (at_text text cells)
opt_at t text [] h = tt
opt_at t text (one ∷ cells) h = opt_if t one.1 (at_text text cells) (bytes_eq text one.0) h.0 (opt_at t text cells h.1)

under_cond : (t : OpSerial) (a b : Write) (c : Bool) → is_below a.serial t ≡ true → is_below b.serial t ≡ true → is_below (cond c a b).serial t ≡ true
under_cond t a b true h k = h
under_cond t a b false h k = k

greater_under : (t : OpSerial) (o : Option Write) (w : Write) → OptUnder t o → is_below w.serial t ≡ true → is_below (greater o w).serial t ≡ true
greater_under t None w h k = k
greater_under t (Some other) w h k = under_cond t w other (is_below other.serial w.serial) k h

write_under : (t : OpSerial) (key : List ℕ) (w : Write) (cells : Cells) → is_below w.serial t ≡ true → CellsUnder t cells → CellsUnder t (with_write key w cells)
write_under t key w cells h k = cell_with t key (greater (at_text key cells) w) cells (greater_under t (at_text key cells) w (opt_at t key cells k) h) k

writes_under : (t s : OpSerial) (entries : List (List ℕ × MapValue)) (cells : Cells) → is_below s t ≡ true → CellsUnder t cells → CellsUnder t (with_writes (entry_writes s entries) cells)
writes_under t s [] cells h k = k
writes_under t s (entry ∷ entries) cells h k = writes_under t s entries (with_write entry.0 (value_written s entry.1) cells) h (write_under t entry.0 (value_written s entry.1) cells h k)

empty_under : (t : OpSerial) (kind : ObjectKind) → CellsUnder t (cells_of (empty_body kind))
empty_under t kinds.Counter = tt
empty_under t kinds.Map = tt

cond_cells : (t : OpSerial) (a b : HeldBody) (c : Bool) → CellsUnder t (cells_of a) → CellsUnder t (cells_of b) → CellsUnder t (cells_of (cond c a b))
cond_cells t a b true h k = h
cond_cells t a b false h k = k

emptied_cells : (t : OpSerial) (body : HeldBody) → CellsUnder t (cells_of (emptied body))
emptied_cells t (Sum sum) = tt
emptied_cells t (Keys cells) = tt

create_cells : (t s : OpSerial) (entries : List (List ℕ × MapValue)) (body : HeldBody) → is_below s t ≡ true → CellsUnder t (cells_of body) → CellsUnder t (cells_of (on_cells (with_writes (entry_writes s entries)) body))
create_cells t s entries (Sum sum) h k = tt
create_cells t s entries (Keys cells) h k = writes_under t s entries cells h k

write_cells : (t : OpSerial) (key : List ℕ) (w : Write) (body : HeldBody) → is_below w.serial t ≡ true → CellsUnder t (cells_of body) → CellsUnder t (cells_of (on_cells (with_write key w) body))
write_cells t key w (Sum sum) h k = tt
write_cells t key w (Keys cells) h k = write_under t key w cells h k

sum_cells : (t : OpSerial) (change : ℤ → ℤ) (body : HeldBody) → CellsUnder t (cells_of body) → CellsUnder t (cells_of (on_sum change body))
sum_cells t change (Sum sum) k = tt
sum_cells t change (Keys cells) k = k

changed_cells : (t s : OpSerial) (stamp : ℕ) (op : Op) (body : HeldBody) → is_below s t ≡ true → CellsUnder t (cells_of body) → CellsUnder t (cells_of (changed stamp s op body))
changed_cells t s stamp (MapCreate id entries) body h k = create_cells t s entries body h k
changed_cells t s stamp (MapSet id key value) body h k = write_cells t key (value_written s value) body h k
changed_cells t s stamp (MapRemove id key) body h k = write_cells t key (removal s stamp) body h k
changed_cells t s stamp (CounterCreate id count) body h k = sum_cells t (λ sum. sum +ℤ count) body k
changed_cells t s stamp (CounterInc id amount) body h k = sum_cells t (λ sum. sum +ℤ amount) body k
changed_cells t s stamp (Delete id) body h k = emptied_cells t body

by_under : (t s : OpSerial) (stamp : ℕ) (op : Op) (old : Held) (deleted : Option ℕ) → is_below s t ≡ true → HeldUnder t old → HeldUnder t (held_by deleted stamp s op old)
by_under t s stamp op old (Some deleted) h k = record { sites = site_with t s.site s old.sites h k.sites; cells = k.cells }
by_under t s stamp op old None h k = record {
  sites = site_with t s.site s old.sites h k.sites;
  cells = cond_cells t old.body (changed stamp s op old.body) (is_create op && old.created) k.cells (changed_cells t s stamp op old.body h k.cells);
}

with_under : (t s : OpSerial) (stamp : ℕ) (op : Op) (old : Held) → is_below s t ≡ true → HeldUnder t old → HeldUnder t (held_with stamp s op old)
with_under t s stamp op old h k = by_under t s stamp op old old.deleted h k

new_under : (t : OpSerial) (id : ObjectId) → HeldUnder t (new_held id)
new_under t id = record { sites = tt; cells = empty_under t (kind_of id) }

found_if : (t : OpSerial) (id : ObjectId) (held : Held) (rest : Option Held) (b : Bool) → HeldUnder t held → HeldUnder t (unwrap_or rest (new_held id)) → HeldUnder t (unwrap_or (cond b (Some held) rest) (new_held id))
found_if t id held rest true h k = h
found_if t id held rest false h k = k

target_under : (t : OpSerial) (id : ObjectId) (pool : List Held) → PoolUnder t pool → HeldUnder t (target id pool)
target_under t id [] h = new_under t id
target_under t id (held ∷ pool) h = found_if t id held (held_at id pool) (is_held_as id held) h.0 (target_under t id pool h.1)

held_place : (t : OpSerial) (one other : Held) (pool : List Held) (o : Ordering) → HeldUnder t one → PoolUnder t (other ∷ pool) → PoolUnder t (with_held one pool) → PoolUnder t (match_ordering o (one ∷ other ∷ pool) (one ∷ pool) (other ∷ with_held one pool))
held_place t one other pool Less h k rest = (h, k)
held_place t one other pool Equal h k rest = (h, k.1)
held_place t one other pool Greater h k rest = (k.0, rest)

held_put : (t : OpSerial) (one : Held) (pool : List Held) → HeldUnder t one → PoolUnder t pool → PoolUnder t (with_held one pool)
held_put t one [] h k = (h, tt)
held_put t one (other ∷ pool) h k = held_place t one other pool (id_cmp one.id other.id) h k (held_put t one pool h k.1)

under_done : (t : OpSerial) (done : Applied) (one : Held) (pool : List Held) → HeldUnder t one → PoolUnder t pool → PoolUnder t (pool_if done (with_held one pool) pool)
under_done t outcomes.Applied one pool h k = held_put t one pool h k
under_done t outcomes.Skipped one pool h k = k
under_done t outcomes.Range one pool h k = k

pub entered_under : (s t : OpSerial) (now : ℕ) (op : Op) (pool : List Held) → is_below s t ≡ true → PoolUnder s pool → PoolUnder t (op_entered now s op pool)
entered_under s t now op pool next h =
    let all = pool_next s t next pool h in
    under_done t (outcome s op (target (id_in op) pool)) (held_with now s op (target (id_in op) pool)) pool (with_under t s now op (target (id_in op) pool) next (target_under t (id_in op) pool all)) all

-- ALIKE BUT FOR SERIALS

abbrev pub CellsLike : Cells → Cells → Type 0
CellsLike [] [] = ⊤
CellsLike [] (b ∷ vs) = ⊥
CellsLike (a ∷ us) [] = ⊥
CellsLike (a ∷ us) (b ∷ vs) = (a.0 ≡ b.0) × (a.1.written ≡ b.1.written) × CellsLike us vs

abbrev pub BodyLike : HeldBody → HeldBody → Type 0
BodyLike (Sum a) (Sum b) = a ≡ b
BodyLike (Sum a) (Keys vs) = ⊥
BodyLike (Keys us) (Sum b) = ⊥
BodyLike (Keys us) (Keys vs) = CellsLike us vs

pub record HeldLike (a b : Held) : Type 0 where
  pub id : a.id ≡ b.id
  pub deleted : a.deleted ≡ b.deleted
  pub created : a.created ≡ b.created
  pub body : BodyLike a.body b.body

abbrev pub PoolLike : List Held → List Held → Type 0
PoolLike [] [] = ⊤
PoolLike [] (b ∷ vs) = ⊥
PoolLike (a ∷ us) [] = ⊥
PoolLike (a ∷ us) (b ∷ vs) = HeldLike a b × PoolLike us vs

-- one that is found in both, or in neither
abbrev pub OptLike : Option Held → Option Held → Type 0
OptLike None None = ⊤
OptLike None (Some b) = ⊥
OptLike (Some a) None = ⊥
OptLike (Some a) (Some b) = HeldLike a b

opt_like : (a b : Held) (o p : Option Held) (x y : Bool) → x ≡ y → HeldLike a b → OptLike o p → OptLike (cond x (Some a) o) (cond y (Some b) p)
opt_like a b o p true true e h k = h
opt_like a b o p true false e h k = cc
opt_like a b o p false true e h k = cc
opt_like a b o p false false e h k = k

pub found_like : (id : ObjectId) (us vs : List Held) → PoolLike us vs → OptLike (held_at id us) (held_at id vs)
found_like id [] [] h = tt
found_like id [] (b ∷ vs) h = absurd h
found_like id (a ∷ us) [] h = absurd h
found_like id (a ∷ us) (b ∷ vs) h = opt_like a b (held_at id us) (held_at id vs) (is_held_as id a) (is_held_as id b) (ap (λ (i : ObjectId). is_eq (id_cmp id i)) h.0.id) h.0 (found_like id us vs h.1)

-- and each serial is before the one in question here exactly where it is before the one there
module _ (s t : OpSerial) where
  abbrev WriteTested : Write → Write → Type 0
  WriteTested a b = (a.written ≡ b.written) × (is_below a.serial s ≡ is_below b.serial t)

  abbrev CellsTested : Cells → Cells → Type 0
  CellsTested [] [] = ⊤
  CellsTested [] (b ∷ vs) = ⊥
  CellsTested (a ∷ us) [] = ⊥
  CellsTested (a ∷ us) (b ∷ vs) = (a.0 ≡ b.0) × WriteTested a.1 b.1 × CellsTested us vs

  tested : (us vs : Cells) → CellsLike us vs → CellsUnder s us → CellsUnder t vs → CellsTested us vs
  tested [] [] h k l = tt
  tested [] (b ∷ vs) h k l = absurd h
  tested (a ∷ us) [] h k l = absurd h
  tested (a ∷ us) (b ∷ vs) h k l = (h.0, (h.1, k.0 ∙ sym l.0), tested us vs h.2 k.1 l.1)

  like : (us vs : Cells) → CellsTested us vs → CellsLike us vs
  like [] [] h = tt
  like [] (b ∷ vs) h = absurd h
  like (a ∷ us) [] h = absurd h
  like (a ∷ us) (b ∷ vs) h = (h.0, h.1.0, like us vs h.2)

  abbrev OptTested : Option Write → Option Write → Type 0
  OptTested None None = ⊤
  OptTested None (Some b) = ⊥
  OptTested (Some a) None = ⊥
  OptTested (Some a) (Some b) = WriteTested a b

  opt_tested : (a b : Write) (o p : Option Write) (x y : Bool) → x ≡ y → WriteTested a b → OptTested o p → OptTested (cond x (Some a) o) (cond y (Some b) p)
  opt_tested a b o p true true e h k = h
  opt_tested a b o p true false e h k = cc
  opt_tested a b o p false true e h k = cc
  opt_tested a b o p false false e h k = k

  at_tested : (key : List ℕ) (us vs : Cells) → CellsTested us vs → OptTested (at_text key us) (at_text key vs)
  at_tested key [] [] h = tt
  at_tested key [] (b ∷ vs) h = absurd h
  at_tested key (a ∷ us) [] h = absurd h
  at_tested key (a ∷ us) (b ∷ vs) h = opt_tested a.1 b.1 (at_text key us) (at_text key vs) (bytes_eq key a.0) (bytes_eq key b.0) (ap (bytes_eq key) h.0) h.1 (at_tested key us vs h.2)

  cond_tested : (a b c d : Write) (x y : Bool) → x ≡ y → WriteTested a b → WriteTested c d → WriteTested (cond x a c) (cond y b d)
  cond_tested a b c d true true e h k = h
  cond_tested a b c d true false e h k = cc
  cond_tested a b c d false true e h k = cc
  cond_tested a b c d false false e h k = k

  abbrev mine : Written → Write
  mine w = record { serial = s; written = w }

  abbrev yours : Written → Write
  yours w = record { serial = t; written = w }

  new_tested : (w : Written) → WriteTested (mine w) (yours w)
  new_tested w = (refl, below_itself s ∙ sym (below_itself t))

  greater_tested : (o p : Option Write) (w : Written) → OptTested o p → WriteTested (greater o (mine w)) (greater p (yours w))
  greater_tested None None w h = new_tested w
  greater_tested None (Some b) w h = absurd h
  greater_tested (Some a) None w h = absurd h
  greater_tested (Some a) (Some b) w h = cond_tested (mine w) (yours w) a b (is_below a.serial s) (is_below b.serial t) h.1 (new_tested w) h

  place_tested : (key : List ℕ) (x y : Write) (a b : List ℕ × Write) (us vs : Cells) (o p : Ordering) → o ≡ p → WriteTested x y → CellsTested (a ∷ us) (b ∷ vs) → CellsTested (with_at key x us) (with_at key y vs) → CellsTested (match_ordering o ((key, x) ∷ a ∷ us) ((key, x) ∷ us) (a ∷ with_at key x us)) (match_ordering p ((key, y) ∷ b ∷ vs) ((key, y) ∷ vs) (b ∷ with_at key y vs))
  place_tested key x y a b us vs Less Less e h k rest = (refl, h, k)
  place_tested key x y a b us vs Less Equal e h k rest = cc
  place_tested key x y a b us vs Less Greater e h k rest = cc
  place_tested key x y a b us vs Equal Less e h k rest = cc
  place_tested key x y a b us vs Equal Equal e h k rest = (refl, h, k.2)
  place_tested key x y a b us vs Equal Greater e h k rest = cc
  place_tested key x y a b us vs Greater Less e h k rest = cc
  place_tested key x y a b us vs Greater Equal e h k rest = cc
  place_tested key x y a b us vs Greater Greater e h k rest = (k.0, k.1, rest)

  with_tested : (key : List ℕ) (x y : Write) (us vs : Cells) → WriteTested x y → CellsTested us vs → CellsTested (with_at key x us) (with_at key y vs)
  with_tested key x y [] [] h k = (refl, h, tt)
  with_tested key x y [] (b ∷ vs) h k = absurd k
  with_tested key x y (a ∷ us) [] h k = absurd k
  with_tested key x y (a ∷ us) (b ∷ vs) h k = place_tested key x y a b us vs (slice_cmp nat_cmp key a.0) (slice_cmp nat_cmp key b.0) (ap (slice_cmp nat_cmp key) k.0) h k (with_tested key x y us vs h k.2)

  write_tested : (key : List ℕ) (w : Written) (us vs : Cells) → CellsTested us vs → CellsTested (with_write key (mine w) us) (with_write key (yours w) vs)
  write_tested key w us vs h = with_tested key _ _ us vs (greater_tested (at_text key us) (at_text key vs) w (at_tested key us vs h)) h

  writes_tested : (entries : List (List ℕ × MapValue)) (us vs : Cells) → CellsTested us vs → CellsTested (with_writes (entry_writes s entries) us) (with_writes (entry_writes t entries) vs)
  writes_tested [] us vs h = h
  writes_tested (entry ∷ entries) us vs h = writes_tested entries _ _ (write_tested entry.0 (Value entry.1) us vs h)

  -- ONE OBJECT

  create_like : (entries : List (List ℕ × MapValue)) (x y : HeldBody) → BodyLike x y → CellsUnder s (cells_of x) → CellsUnder t (cells_of y) → BodyLike (on_cells (with_writes (entry_writes s entries)) x) (on_cells (with_writes (entry_writes t entries)) y)
  create_like entries (Sum a) (Sum b) h k l = h
  create_like entries (Sum a) (Keys vs) h k l = absurd h
  create_like entries (Keys us) (Sum b) h k l = absurd h
  create_like entries (Keys us) (Keys vs) h k l = like _ _ (writes_tested entries us vs (tested us vs h k l))

  write_like : (key : List ℕ) (w : Written) (x y : HeldBody) → BodyLike x y → CellsUnder s (cells_of x) → CellsUnder t (cells_of y) → BodyLike (on_cells (with_write key (mine w)) x) (on_cells (with_write key (yours w)) y)
  write_like key w (Sum a) (Sum b) h k l = h
  write_like key w (Sum a) (Keys vs) h k l = absurd h
  write_like key w (Keys us) (Sum b) h k l = absurd h
  write_like key w (Keys us) (Keys vs) h k l = like _ _ (write_tested key w us vs (tested us vs h k l))

  sum_like : (change : ℤ → ℤ) (x y : HeldBody) → BodyLike x y → BodyLike (on_sum change x) (on_sum change y)
  sum_like change (Sum a) (Sum b) h = ap change h
  sum_like change (Sum a) (Keys vs) h = absurd h
  sum_like change (Keys us) (Sum b) h = absurd h
  sum_like change (Keys us) (Keys vs) h = h

  empty_like : (kind : ObjectKind) → BodyLike (empty_body kind) (empty_body kind)
  empty_like kinds.Counter = refl
  empty_like kinds.Map = tt

  emptied_like : (x y : HeldBody) → BodyLike x y → BodyLike (emptied x) (emptied y)
  emptied_like (Sum a) (Sum b) h = refl
  emptied_like (Sum a) (Keys vs) h = absurd h
  emptied_like (Keys us) (Sum b) h = absurd h
  emptied_like (Keys us) (Keys vs) h = tt

  changed_like : (now : ℕ) (op : Op) (x y : HeldBody) → BodyLike x y → CellsUnder s (cells_of x) → CellsUnder t (cells_of y) → BodyLike (changed now s op x) (changed now t op y)
  changed_like now (MapCreate id entries) x y h k l = create_like entries x y h k l
  changed_like now (MapSet id key value) x y h k l = write_like key (Value value) x y h k l
  changed_like now (MapRemove id key) x y h k l = write_like key (Removed now) x y h k l
  changed_like now (CounterCreate id count) x y h k l = sum_like (λ sum. sum +ℤ count) x y h
  changed_like now (CounterInc id amount) x y h k l = sum_like (λ sum. sum +ℤ amount) x y h
  changed_like now (Delete id) x y h k l = emptied_like x y h

  cond_like : (a b c d : HeldBody) (x y : Bool) → x ≡ y → BodyLike a b → BodyLike c d → BodyLike (cond x a c) (cond y b d)
  cond_like a b c d true true e h k = h
  cond_like a b c d true false e h k = cc
  cond_like a b c d false true e h k = cc
  cond_like a b c d false false e h k = k

  by_like : (now : ℕ) (op : Op) (a b : Held) (d e : Option ℕ) → d ≡ e → HeldLike a b → HeldUnder s a → HeldUnder t b → HeldLike (held_by d now s op a) (held_by e now t op b)
  by_like now op a b (Some m) (Some n) same h k l = record { id = h.id; deleted = h.deleted; created = h.created; body = h.body }
  by_like now op a b (Some m) None same h k l = cc
  by_like now op a b None (Some n) same h k l = cc
  by_like now op a b None None same h k l = record {
    id = h.id;
    deleted = refl;
    created = ap (created_after op) h.created;
    body = cond_like a.body b.body (changed now s op a.body) (changed now t op b.body) (is_create op && a.created) (is_create op && b.created) (ap (λ (c : Bool). is_create op && c) h.created) h.body (changed_like now op a.body b.body h.body k.cells l.cells);
  }

  held_like : (now : ℕ) (op : Op) (a b : Held) → HeldLike a b → HeldUnder s a → HeldUnder t b → HeldLike (held_with now s op a) (held_with now t op b)
  held_like now op a b h k l = by_like now op a b a.deleted b.deleted h.deleted h k l

  range_like : (x y : HeldBody) (m n : Option ℤ) → BodyLike x y → m ≡ n → body_passes_range x m ≡ body_passes_range y n
  range_like (Sum a) (Sum b) m n h e = ap (λ (z : ℤ). body_passes_range (Sum z) m) h ∙ ap (body_passes_range (Sum b)) e
  range_like (Sum a) (Keys vs) m n h e = absurd h
  range_like (Keys us) (Sum b) m n h e = absurd h
  range_like (Keys us) (Keys vs) m n h e = refl

  abbrev outcome_by : Bool → Bool → Bool → Bool → Applied
  outcome_by m p n r = cond (m || not p) outcomes.Skipped (cond (n && r) outcomes.Range outcomes.Applied)

  by_four : (m p n r m2 p2 n2 r2 : Bool) → m ≡ m2 → p ≡ p2 → n ≡ n2 → r ≡ r2 → outcome_by m p n r ≡ outcome_by m2 p2 n2 r2
  by_four m p n r m2 p2 n2 r2 e f g h = cc

  outcome_like : (op : Op) (a b : Held) → HeldLike a b → HeldUnder s a → HeldUnder t b → outcome s op a ≡ outcome t op b
  outcome_like op a b h k l = by_four _ _ _ _ _ _ _ _
      (ap (λ (id : ObjectId). not (suits (kind_of id) op)) h.id)
      (passes_under s a.sites k.sites ∙ sym (passes_under t b.sites l.sites))
      (ap is_none h.deleted)
      (range_like a.body b.body (added op a.created) (added op b.created) h.body (ap (added op) h.created))

  -- ALL OBJECTS

  new_like : (id : ObjectId) → HeldLike (new_held id) (new_held id)
  new_like id = record { id = refl; deleted = refl; created = refl; body = empty_like (kind_of id) }

  unwrap_like : (id : ObjectId) (o p : Option Held) → OptLike o p → HeldLike (unwrap_or o (new_held id)) (unwrap_or p (new_held id))
  unwrap_like id None None h = new_like id
  unwrap_like id None (Some b) h = absurd h
  unwrap_like id (Some a) None h = absurd h
  unwrap_like id (Some a) (Some b) h = h

  target_like : (id : ObjectId) (us vs : List Held) → PoolLike us vs → HeldLike (target id us) (target id vs)
  target_like id us vs h = unwrap_like id (held_at id us) (held_at id vs) (found_like id us vs h)

  put_place : (x y a b : Held) (us vs : List Held) (o p : Ordering) → o ≡ p → HeldLike x y → PoolLike (a ∷ us) (b ∷ vs) → PoolLike (with_held x us) (with_held y vs) → PoolLike (match_ordering o (x ∷ a ∷ us) (x ∷ us) (a ∷ with_held x us)) (match_ordering p (y ∷ b ∷ vs) (y ∷ vs) (b ∷ with_held y vs))
  put_place x y a b us vs Less Less e h k rest = (h, k)
  put_place x y a b us vs Less Equal e h k rest = cc
  put_place x y a b us vs Less Greater e h k rest = cc
  put_place x y a b us vs Equal Less e h k rest = cc
  put_place x y a b us vs Equal Equal e h k rest = (h, k.1)
  put_place x y a b us vs Equal Greater e h k rest = cc
  put_place x y a b us vs Greater Less e h k rest = cc
  put_place x y a b us vs Greater Equal e h k rest = cc
  put_place x y a b us vs Greater Greater e h k rest = (k.0, rest)

  ids_cmp : (a b c d : ObjectId) → a ≡ b → c ≡ d → id_cmp a c ≡ id_cmp b d
  ids_cmp a b c d e f = ap (λ (x : ObjectId). id_cmp x c) e ∙ ap (id_cmp b) f

  put_like : (x y : Held) (us vs : List Held) → HeldLike x y → PoolLike us vs → PoolLike (with_held x us) (with_held y vs)
  put_like x y [] [] h k = (h, tt)
  put_like x y [] (b ∷ vs) h k = absurd k
  put_like x y (a ∷ us) [] h k = absurd k
  put_like x y (a ∷ us) (b ∷ vs) h k = put_place x y a b us vs (id_cmp x.id a.id) (id_cmp y.id b.id) (ids_cmp x.id y.id a.id b.id h.id k.0.id) h k (put_like x y us vs h k.1)

  done_like : (c d : Applied) (xs ys us vs : List Held) → c ≡ d → PoolLike xs ys → PoolLike us vs → PoolLike (pool_if c xs us) (pool_if d ys vs)
  done_like outcomes.Applied d xs ys us vs e h k = subst (λ (x : Applied). PoolLike xs (pool_if x ys vs)) e h
  done_like outcomes.Skipped d xs ys us vs e h k = subst (λ (x : Applied). PoolLike us (pool_if x ys vs)) e k
  done_like outcomes.Range d xs ys us vs e h k = subst (λ (x : Applied). PoolLike us (pool_if x ys vs)) e k

  pub entered_like : (now : ℕ) (op : Op) (us vs : List Held) → PoolLike us vs → PoolUnder s us → PoolUnder t vs → PoolLike (op_entered now s op us) (op_entered now t op vs)
  entered_like now op us vs h k l =
      let x = target (id_in op) us in
      let y = target (id_in op) vs in
      let same = target_like (id_in op) us vs h in
      let mine_under = target_under s (id_in op) us k in
      let yours_under = target_under t (id_in op) vs l in
      done_like (outcome s op x) (outcome t op y) _ _ us vs (outcome_like op x y same mine_under yours_under)
      (put_like (held_with now s op x) (held_with now t op y) us vs (held_like now op x y same mine_under yours_under) h) h
