-- Objects as they read.
use Rattle.std.proofs.Common.{◌≡◌, ℕ, zero, suc, ◌+◌, ◌<◌, Bool, List, [], ◌∷◌, length, take, refl, ap, ◌∙◌, arith, get_or}
use Rattle.std.specs.Prelude.{map, filter_map, Option, Some, None}
use Rattle.rl_ids.specs.declared.objects.ObjectId.{ObjectId}
use Rattle.rl_types.specs.declared.objects.MapCell.{MapCell}
use Rattle.rl_types.specs.declared.objects.ObjectBody.{ObjectBody}
use Rattle.rl_types.specs.declared.objects.ObjectBody.TheVariants as bodies
use Rattle.rl_types.specs.declared.objects.ObjectState.{ObjectState}
use Rattle.rl_objmodel.specs.Held.{Write, Cells, HeldBody, Sum, Keys, Held, shown, shown_body, shown_cell}
use Rattle.rl_objmodel.specs.Steps.{read_body, read_cell}
use Rattle.rl_pool.specs.Live.{with_option, read_shown, read_shown_body, live_state}

abbrev Shown : Type 0
Shown = List ℕ × MapCell

cons_one : {B : Type 0} (b : B) (xs ys : List B) → xs ≡ ys → b ∷ xs ≡ b ∷ ys
cons_one b xs ys h = cc

grown_by : (f : Shown → Option Shown) (x y : Shown) (o : Option Shown) (p : Option Shown) (xs ys : List Shown) → with_option (filter_map f xs) p ≡ filter_map f ys → f x ≡ o → with_option (filter_map f (x ∷ xs)) p ≡ filter_map f (x ∷ ys)
grown_by f x y None p xs ys h e = rw e h
grown_by f x y (Some z) None xs ys h e = rw e (cons_one z _ _ h)
grown_by f x y (Some z) (Some w) xs ys h e = rw e (cons_one z _ _ h)

last_by : (f : Shown → Option Shown) (x : Shown) (o : Option Shown) → f x ≡ o → with_option [] o ≡ filter_map f (x ∷ [])
last_by f x None e = rw e refl
last_by f x (Some z) e = rw e refl

grown : (f : Shown → Option Shown) (xs : List Shown) (i : ℕ) (d : Shown) → i < length xs → with_option (filter_map f (take i xs)) (f (get_or xs i d)) ≡ filter_map f (take (suc i) xs)
grown f [] i d h = absurd (omega arith)
grown f (x ∷ xs) zero d h = last_by f x (f x) refl
grown f (x ∷ xs) (suc i) d h = grown_by f x d (f x) (f (get_or xs i d)) (take i xs) (take (suc i) xs) (grown f xs i d (omega arith)) refl

pub read_more : (f : Shown → Option Shown) (xs : List Shown) (i : ℕ) (d : Shown) (before after : List Shown) → i < length xs → before ≡ filter_map f (take i xs) → d ≡ get_or xs i d → after ≡ with_option before (f d) → after ≡ filter_map f (take (i + 1) xs)
read_more f xs i d before after h is e step =
    let one : suc i ≡ i + 1 = omega arith in
    step ∙ ap (λ (ys : List Shown). with_option ys (f d)) is ∙ ap (λ (x : Shown). with_option (filter_map f (take i xs)) (f x)) e ∙ grown f xs i d h ∙ ap (λ (n : ℕ). filter_map f (take n xs)) one

mapped_by : (lives : ObjectId → Bool) (one : List ℕ × Write) (cells : Cells) (o : Option Shown) → read_cell lives one ≡ o → filter_map (read_shown lives) (map shown_cell cells) ≡ filter_map (read_cell lives) cells → filter_map (read_shown lives) (map shown_cell (one ∷ cells)) ≡ filter_map (read_cell lives) (one ∷ cells)
mapped_by lives one cells None e h = rw e h
mapped_by lives one cells (Some z) e h = rw e (cons_one z _ _ h)

mapped : (lives : ObjectId → Bool) (cells : Cells) → filter_map (read_shown lives) (map shown_cell cells) ≡ filter_map (read_cell lives) cells
mapped lives [] = refl
mapped lives (one ∷ cells) = mapped_by lives one cells (read_cell lives one) refl (mapped lives cells)

body_read : (lives : ObjectId → Bool) (body : HeldBody) → read_shown_body lives (shown_body body) ≡ read_body lives body
body_read lives (Sum sum) = refl
body_read lives (Keys cells) = ap (λ (xs : List Shown). bodies.Map xs) (mapped lives cells)

abbrev with_body : ObjectState → ObjectBody → ObjectState
with_body state body = record state { body = body }

pub state_read : (lives : ObjectId → Bool) (held : Held) (state : ObjectState) (body : ObjectBody) → state ≡ shown held → body ≡ read_shown_body lives state.body → with_body state body ≡ live_state lives held
state_read lives held state body is read =
    ap (with_body state) (read ∙ ap (λ (s : ObjectState). read_shown_body lives s.body) is ∙ body_read lives held.body)
    ∙ ap (λ (s : ObjectState). with_body s (read_body lives held.body)) is
