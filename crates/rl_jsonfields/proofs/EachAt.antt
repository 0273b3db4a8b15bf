-- Reading items one after the other with their indices, as a loop does.
use Rattle.std.proofs.Common.{◌≡◌, ℕ, ◌+◌, ◌≤◌, ◌<◌, List, [], ◌∷◌, ◌++◌, length, drop, get_or, Ok, Err, refl, sym, ap, ◌∙◌, append_assoc, append-nil}
use Rattle.std.proofs.lemmas.List.{drop_all, drop_more}
use Rattle.serde_json.specs.Data.{Data}
use Rattle.serde_json.specs.declared.value.Value.{Value}
use Rattle.serde_json.specs.View.{view, items_view}
use Rattle.rl_types.specs.declared.frames.WireFault.{WireFault}
use Rattle.rl_types.specs.declared.frames.WireFault.TheVariants as faults
use Rattle.rl_jsonfields.specs.Fields.{Reads, ◌>>=◌, Fails}
use Rattle.rl_jsonfields.proofs.Each.{with_front}
use Rattle.rl_jsonfields.specs.Fields.{each_at}

regroup : {A : Type 0} (front : List A) (x : A) (read : Reads (List A)) → with_front front (read >>= λ xs. Ok (x ∷ xs)) ≡ with_front (front ++ x ∷ []) read
regroup front x (Ok xs) = ap Ok (sym (append_assoc front (x ∷ []) xs))
regroup front x (Err e) = refl

pub goes_on : {A : Type 0} (one : ℕ → Data → Reads A) (front : List A) (i : ℕ) (v : Value) (vs : List Value) (x : A) (total : Reads (List A)) → one i (view v) ≡ Ok x
    → with_front front (each_at one i (items_view (v ∷ vs))) ≡ total → with_front (front ++ x ∷ []) (each_at one (i + 1) (items_view vs)) ≡ total
unfolding each_at
goes_on one front i v vs x total h so_far =
    let step : with_front front (each_at one i (items_view (v ∷ vs))) ≡ with_front (front ++ x ∷ []) (each_at one (i + 1) (items_view vs)) = rw h (regroup front x (each_at one (i + 1) (items_view vs))) in
    sym step ∙ so_far

pub ends : {A : Type 0} (one : ℕ → Data → Reads A) (front : List A) (i : ℕ) (v : Value) (vs : List Value) (e : WireFault) (total : Reads (List A)) → Fails e (one i (view v))
    → with_front front (each_at one i (items_view (v ∷ vs))) ≡ total → Fails e total
unfolding each_at
ends one front i v vs faults.NoMemory total h so_far = tt
ends one front i v vs faults.TooLong total h so_far = sym so_far ∙ rw h refl
ends one front i v vs faults.NotText total h so_far = sym so_far ∙ rw h refl
ends one front i v vs faults.NotJson total h so_far = sym so_far ∙ rw h refl
ends one front i v vs faults.NotObject total h so_far = sym so_far ∙ rw h refl
ends one front i v vs (faults.Missing n) total h so_far = sym so_far ∙ rw h refl
ends one front i v vs (faults.BadField n) total h so_far = sym so_far ∙ rw h refl

next : (vs : List Value) (i : ℕ) (v : Value) → i < length vs → v ≡ get_or vs i v → drop i vs ≡ v ∷ drop (i + 1) vs
next vs i v lt is = drop_more vs i v lt ∙ ap (λ x. x ∷ drop (i + 1) vs) (sym is)

pub goes_at : {A : Type 0} (one : ℕ → Data → Reads A) (front : List A) (vs : List Value) (i : ℕ) (v : Value) (x : A) (total : Reads (List A)) → i < length vs → v ≡ get_or vs i v → one i (view v) ≡ Ok x
    → with_front front (each_at one i (items_view (drop i vs))) ≡ total → with_front (front ++ x ∷ []) (each_at one (i + 1) (items_view (drop (i + 1) vs))) ≡ total
goes_at one front vs i v x total lt is h so_far = goes_on one front i v (drop (i + 1) vs) x total h (ap (λ ws. with_front front (each_at one i (items_view ws))) (sym (next vs i v lt is)) ∙ so_far)

pub ends_at : {A : Type 0} (one : ℕ → Data → Reads A) (front : List A) (vs : List Value) (i : ℕ) (v : Value) (e : WireFault) (total : Reads (List A)) → i < length vs → v ≡ get_or vs i v → Fails e (one i (view v))
    → with_front front (each_at one i (items_view (drop i vs))) ≡ total → Fails e total
ends_at one front vs i v e total lt is h so_far = ends one front i v (drop (i + 1) vs) e total h (ap (λ ws. with_front front (each_at one i (items_view ws))) (sym (next vs i v lt is)) ∙ so_far)

pub done_at : {A : Type 0} (one : ℕ → Data → Reads A) (front : List A) (vs : List Value) (i : ℕ) (total : Reads (List A)) → length vs ≤ i
    → with_front front (each_at one i (items_view (drop i vs))) ≡ total → total ≡ Ok front
unfolding each_at
done_at one front vs i total le so_far = sym so_far ∙ ap (λ ws. with_front front (each_at one i (items_view ws))) (drop_all i vs le) ∙ ap Ok (append-nil front)
