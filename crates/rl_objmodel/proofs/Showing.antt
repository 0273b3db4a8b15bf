-- In which order pages show what is kept.
use Rattle.std.proofs.Common.{◌≡◌, ℕ, Bool, true, false, cond, List, [], ◌∷◌}
use Rattle.std.specs.Prelude.{⊤, ◌&&◌, ◌||◌, not, filter_map, find, map, Option, Some, None}
use Rattle.std.specs.List.{list_any, AllByRecursion, cons_option}
use Rattle.std.specs.declared.cmp.Ordering.TheVariants.{Less}
use Rattle.std.proofs.lemmas.Cmp.{nat_list_cmp_total}
use Rattle.rl_ids.specs.declared.objects.ObjectKind.{ObjectKind}
use Rattle.rl_ids.specs.declared.objects.ObjectKind.TheVariants as kinds
use Rattle.rl_ids.specs.declared.objects.ObjectId.{ObjectId}
use Rattle.rl_ids.specs.declared.serials.OpSerial.{OpSerial}
use Rattle.rl_ids.specs.Objects.{kind_of, id_cmp}
use Rattle.rl_types.specs.declared.objects.MapCell.{MapCell}
use Rattle.rl_types.specs.declared.objects.ObjectState.{ObjectState}
use Rattle.rl_objmodel.specs.Operations.{Stamped, own, creates, deletes, is_root}
use Rattle.rl_objmodel.specs.Held.{is_collected, Write, Cells, Held, empty_body, shown_cell, shown_body, shown}
use Rattle.rl_objmodel.specs.Objects.{writes, greatest, keys_in, serials, sites_in, site_of, sites, kept_cell, body_of, standing, tombstone, kept_by, kept, ids_in, all_kept}
use Rattle.rl_objmodel.specs.Places.{AreRising}
use Rattle.rl_objmodel.specs.Showing.{AreKeysRising, IsInOrder, AreIdsRising, KeptInOrder}
use Rattle.rl_objmodel.proofs.Entering.{AllLater, AllRise, shown_rise}
use Rattle.rl_objmodel.proofs.FollowingObjects.{text_cmp, rise_sites, site_named, rise_keys, cell_named}
use Rattle.rl_objmodel.proofs.FollowingPools.{ids_total, ids_rise, kept_named}

-- TEXTS

module _ {T : Type 0} where
  text_later : (text : List ℕ) (all : List (List ℕ × T)) → AllLater text_cmp nat_list_cmp_total (λ (q : List ℕ × T). q.0) text all → AllByRecursion (λ (other : List ℕ × T). text_cmp text other.0 ≡ Less) all
  text_later text all h = h

  texts_rise : (all : List (List ℕ × T)) → AllRise text_cmp nat_list_cmp_total (λ (q : List ℕ × T). q.0) all → AreRising all
  texts_rise [] h = tt
  texts_rise (one ∷ all) h = (h.0, texts_rise all h.1)

later_shown : (text : List ℕ) (cells : Cells) → AllByRecursion (λ (other : List ℕ × Write). text_cmp text other.0 ≡ Less) cells → AllByRecursion (λ (other : List ℕ × MapCell). text_cmp text other.0 ≡ Less) (map shown_cell cells)
later_shown text [] h = tt
later_shown text (one ∷ cells) h = (h.0, later_shown text cells h.1)

cells_shown : (cells : Cells) → AreRising cells → AreRising (map shown_cell cells)
cells_shown [] h = tt
cells_shown (one ∷ cells) h = (later_shown one.0 cells h.0, cells_shown cells h.1)

sites_in_order : (latest : List Stamped) → AreRising (sites latest)
sites_in_order latest =
    texts_rise (sites latest) (shown_rise text_cmp nat_list_cmp_total (λ (q : List ℕ × OpSerial). q.0) (site_of (serials latest)) (sites_in (serials latest)) (λ site q. site_named (serials latest) site q) (rise_sites (serials latest)))

cells_in_order : (ticked : ℕ) (latest : List Stamped) → AreRising (filter_map (kept_cell ticked latest) (keys_in latest))
cells_in_order ticked latest =
    texts_rise (filter_map (kept_cell ticked latest) (keys_in latest)) (shown_rise text_cmp nat_list_cmp_total (λ (q : List ℕ × Write). q.0) (kept_cell ticked latest) (keys_in latest) (λ key q. cell_named ticked key (greatest (writes key latest)) q) (rise_keys latest))

-- AN OBJECT

body_in_order : (ticked : ℕ) (kind : ObjectKind) (latest : List Stamped) → AreKeysRising (shown_body (body_of ticked kind latest))
body_in_order ticked kinds.Counter latest = tt
body_in_order ticked kinds.Map latest = cells_shown (filter_map (kept_cell ticked latest) (keys_in latest)) (cells_in_order ticked latest)

empty_in_order : (kind : ObjectKind) → AreKeysRising (shown_body (empty_body kind))
empty_in_order kinds.Counter = tt
empty_in_order kinds.Map = tt

abbrev IsFoundInOrder : Option Held → Type 0
IsFoundInOrder None = ⊤
IsFoundInOrder (Some held) = IsInOrder (shown held)

object_in_order : (ticked : ℕ) (id : ObjectId) (latest : List Stamped) (delete : Option Stamped) → IsFoundInOrder (kept_by ticked id latest delete)
object_in_order ticked id latest None = by (is_root id || list_any creates latest)
  where
    by : (b : Bool) → IsFoundInOrder (cond b (Some (standing ticked id latest)) None)
    by true = record { sites = sites_in_order latest; keys = body_in_order ticked (kind_of id) latest }
    by false = tt
object_in_order ticked id latest (Some delete) = by (not (is_root id) && is_collected ticked delete.stamp)
  where
    by : (b : Bool) → IsFoundInOrder (cond b None (Some (tombstone id latest delete.stamp)))
    by true = tt
    by false = record { sites = sites_in_order latest; keys = empty_in_order (kind_of id) }

-- ALL OF THEM

later_ids : (id : ObjectId) (pool : List Held) → AllByRecursion (λ (other : Held). id_cmp id other.id ≡ Less) pool → AllByRecursion (λ (other : ObjectState). id_cmp id other.id ≡ Less) (map shown pool)
later_ids id [] h = tt
later_ids id (held ∷ pool) h = (h.0, later_ids id pool h.1)

ids_in_order : (pool : List Held) → AllRise id_cmp ids_total (λ (held : Held). held.id) pool → AreIdsRising (map shown pool)
ids_in_order [] h = tt
ids_in_order (held ∷ pool) h = (later_ids held.id pool h.0, ids_in_order pool h.1)

one_in_order : (found : Option Held) (pool : List Held) → IsFoundInOrder found → AllByRecursion IsInOrder (map shown pool) → AllByRecursion IsInOrder (map shown (cons_option found pool))
one_in_order None pool h more = more
one_in_order (Some held) pool h more = (h, more)

each_in_order : (ticked : ℕ) (latest : List Stamped) (ids : List ObjectId) → AllByRecursion IsInOrder (map shown (filter_map (kept ticked latest) ids))
each_in_order ticked latest [] = tt
each_in_order ticked latest (id ∷ ids) =
    one_in_order (kept ticked latest id) (filter_map (kept ticked latest) ids) (object_in_order ticked id (own id latest) (find deletes (own id latest))) (each_in_order ticked latest ids)

pub kept_in_order : KeptInOrder
kept_in_order ticked latest = record {
  ids = ids_in_order (all_kept ticked latest) (shown_rise id_cmp ids_total (λ (held : Held). held.id) (kept ticked latest) (ids_in latest) (λ id held. kept_named ticked latest id held) (ids_rise latest));
  each = each_in_order ticked latest (ids_in latest);
}
