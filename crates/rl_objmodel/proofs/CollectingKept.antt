-- What is kept at a later Tick is what that Tick leaves of what was kept at an earlier one.
use Rattle.std.proofs.Common.{◌≡◌, ℕ, ◌≤◌, ◌+◌, Bool, true, false, cond, List, [], ◌∷◌, refl, ap, sym, ◌∙◌}
use Rattle.std.specs.Prelude.{filter, filter_map, find, not, ◌&&◌, ◌||◌, Option, Some, None, option_and_then}
use Rattle.std.specs.List.{cons_option, list_any}
use Rattle.rl_numbers.specs.declared.limits.TheConstants.{TOMBSTONE_GRACE}
use Rattle.rl_ids.specs.declared.objects.ObjectKind.{ObjectKind}
use Rattle.rl_ids.specs.declared.objects.ObjectKind.TheVariants as kinds
use Rattle.rl_ids.specs.declared.objects.ObjectId.{ObjectId}
use Rattle.rl_ids.specs.Objects.{kind_of}
use Rattle.rl_objmodel.specs.Operations.{Stamped, own, creates, deletes, is_root}
use Rattle.rl_objmodel.specs.Held.{Write, is_collected, is_collected_write, HeldBody, Keys, Held, empty_body}
use Rattle.rl_objmodel.specs.Objects.{writes, greatest, keys_in, kept_write, kept_cell, body_of, standing, tombstone, kept_by, kept, ids_in, all_kept}
use Rattle.rl_objmodel.specs.Steps.{collected_cells, collected_body, collected_held, collected}
use Rattle.rl_objmodel.specs.Collecting.{TicksCollect}
use Rattle.rl_objmodel.proofs.CollectingTwice.{le_later, write_later}

-- LISTS OF WHAT IS THERE

mapped_at : {B : Type 0} (g : B → Option B) (o there : Option B) (rest more : List B) → option_and_then g o ≡ there → filter_map g rest ≡ more → filter_map g (cons_option o rest) ≡ cons_option there more
mapped_at g None there rest more e h = h ∙ ap (λ o. cons_option o more) e
mapped_at g (Some b) there rest more e h = ap (cons_option (g b)) h ∙ ap (λ o. cons_option o more) e

mapped : {A B : Type 0} (f : A → Option B) (g : B → Option B) (there : A → Option B) → ((a : A) → option_and_then g (f a) ≡ there a) → (xs : List A) → filter_map g (filter_map f xs) ≡ filter_map there xs
mapped f g there h [] = refl
mapped f g there h (x ∷ xs) = mapped_at g (f x) (there x) (filter_map f xs) (filter_map there xs) (h x) (mapped f g there h xs)

abbrev if_kept : {B : Type 0} → (B → Bool) → B → Option B
if_kept keep b = cond (keep b) (Some b) None

cond_cons : {B : Type 0} (c : Bool) (b : B) (xs ys : List B) → xs ≡ ys → cond c (b ∷ xs) xs ≡ cons_option (cond c (Some b) None) ys
cond_cons true b xs ys h = ap (λ zs. b ∷ zs) h
cond_cons false b xs ys h = h

filter_is : {B : Type 0} (keep : B → Bool) (bs : List B) → filter keep bs ≡ filter_map (if_kept keep) bs
filter_is keep [] = refl
filter_is keep (b ∷ bs) = cond_cons (keep b) b (filter keep bs) (filter_map (if_kept keep) bs) (filter_is keep bs)

module _ (first last : ℕ) (later : first ≤ last) where
  -- CELLS

  abbrev stays : List ℕ × Write → Bool
  stays cell = not (is_collected_write last cell.1.written)

  write_by : (key : List ℕ) (w : Write) (b c : Bool) → is_collected_write first w.written ≡ b → is_collected_write last w.written ≡ c → option_and_then (if_kept stays) (cond b None (Some (key, w))) ≡ cond c None (Some (key, w))
  write_by key w true true h k = refl
  write_by key w true false h k = cc (sym (write_later first last later w.written h) ∙ k)
  write_by key w false c h k = stays_at c (ap not k)
    where
      stays_at : (c : Bool) → stays (key, w) ≡ not c → if_kept stays (key, w) ≡ cond c None (Some (key, w))
      stays_at true e = ap (λ (b : Bool). cond b (Some (key, w)) None) e
      stays_at false e = ap (λ (b : Bool). cond b (Some (key, w)) None) e

  cell_by : (key : List ℕ) (there : Option Write) → option_and_then (if_kept stays) (option_and_then (kept_write first key) there) ≡ option_and_then (kept_write last key) there
  cell_by key None = refl
  cell_by key (Some w) = write_by key w (is_collected_write first w.written) (is_collected_write last w.written) refl refl

  cells_left : (latest : List Stamped) (keys : List (List ℕ)) → collected_cells last (filter_map (kept_cell first latest) keys) ≡ filter_map (kept_cell last latest) keys
  cells_left latest keys =
      filter_is stays (filter_map (kept_cell first latest) keys)
      ∙ mapped (kept_cell first latest) (if_kept stays) (kept_cell last latest) (λ key. cell_by key (greatest (writes key latest))) keys

  -- OBJECTS

  body_by : (kind : ObjectKind) (latest : List Stamped) → collected_body last (body_of first kind latest) ≡ body_of last kind latest
  body_by kinds.Counter latest = refl
  body_by kinds.Map latest = ap Keys (cells_left latest (keys_in latest))

  empty_by : (kind : ObjectKind) → collected_body last (empty_body kind) ≡ empty_body kind
  empty_by kinds.Counter = refl
  empty_by kinds.Map = refl

  abbrev with_body : Held → HeldBody → Held
  with_body held body = record held { body = body }

  never : (root : Bool) (held : Held) → cond (root && false) None (Some held) ≡ Some held
  never true held = refl
  never false held = refl

  standing_by : (id : ObjectId) (latest : List Stamped) (there : Bool) → option_and_then (collected_held last) (cond there (Some (standing first id latest)) None) ≡ cond there (Some (standing last id latest)) None
  standing_by id latest true =
      never (not (is_root id)) (with_body (standing first id latest) (collected_body last (body_of first (kind_of id) latest)))
      ∙ ap (λ (body : HeldBody). Some (with_body (standing last id latest) body)) (body_by (kind_of id) latest)
  standing_by id latest false = refl

  gone_by : (id : ObjectId) (latest : List Stamped) (stamp : ℕ) (made b c : Bool) → is_collected first stamp ≡ b → is_collected last stamp ≡ c
      → option_and_then (λ (held : Held). cond (made && c) None (Some (with_body held (collected_body last held.body)))) (cond (made && b) None (Some (tombstone id latest stamp))) ≡ cond (made && c) None (Some (tombstone id latest stamp))
  gone_by id latest stamp false b c h k = ap (λ (body : HeldBody). Some (with_body (tombstone id latest stamp) body)) (empty_by (kind_of id))
  gone_by id latest stamp true true true h k = refl
  gone_by id latest stamp true true false h k = cc (sym (le_later first last later (stamp + TOMBSTONE_GRACE) h) ∙ k)
  gone_by id latest stamp true false true h k = refl
  gone_by id latest stamp true false false h k = ap (λ (body : HeldBody). Some (with_body (tombstone id latest stamp) body)) (empty_by (kind_of id))

  tested : (b : Bool) (id : ObjectId) (latest : List Stamped) (stamp : ℕ) → option_and_then (collected_held last) (cond b None (Some (tombstone id latest stamp))) ≡ option_and_then (λ (held : Held). cond (not (is_root id) && is_collected last stamp) None (Some (with_body held (collected_body last held.body)))) (cond b None (Some (tombstone id latest stamp)))
  tested true id latest stamp = refl
  tested false id latest stamp = refl

  kept_left : (id : ObjectId) (latest : List Stamped) (delete : Option Stamped) → option_and_then (collected_held last) (kept_by first id latest delete) ≡ kept_by last id latest delete
  kept_left id latest None = standing_by id latest (is_root id || list_any creates latest)
  kept_left id latest (Some delete) =
      tested (not (is_root id) && is_collected first delete.stamp) id latest delete.stamp
      ∙ gone_by id latest delete.stamp (not (is_root id)) (is_collected first delete.stamp) (is_collected last delete.stamp) refl refl

  all_left : (latest : List Stamped) → collected last (all_kept first latest) ≡ all_kept last latest
  all_left latest = mapped (kept first latest) (collected_held last) (kept last latest) (λ id. kept_left id (own id latest) (find deletes (own id latest))) (ids_in latest)

pub ticks_collect : TicksCollect
ticks_collect first last later latest = sym (all_left first last later latest)
