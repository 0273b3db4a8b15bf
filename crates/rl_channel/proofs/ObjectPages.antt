-- A page of a pool, cut where it weighs enough, is the page of the definition.
use Rattle.std.proofs.Common.{◌≡◌, ℕ, ◌+◌, ◌^◌, ◌<◌, ◌≤◌, Bool, true, false, cond, List, [], ◌∷◌, ◌++◌, length, map, take, refl, ap, sym, ◌∙◌, arith, append_assoc}
use Rattle.std.specs.Prelude.{drop, get_or, min, nat_le, ◌&&◌, ◌==◌, Option, Some, None}
use Rattle.rl_ids.specs.declared.objects.ObjectId.{ObjectId}
use Rattle.rl_types.specs.declared.objects.ObjectState.{ObjectState}
use Rattle.rl_objmodel.specs.Held.{Held, shown}
use Rattle.rl_objmodel.specs.Steps.{states}
use Rattle.rl_objrules.specs.Ids as ids
use Rattle.rl_pool.specs.Pools as pools
use Rattle.std.proofs.lemmas.List.{append-nil, drop_more, length-map, length-take, take-map, take_more}
use Rattle.std.proofs.Math.Seq.{drop-length}
use Rattle.std.proofs.lemmas.Bool.{le-leb, leb-false, leb-true}
use Rattle.rl_numbers.specs.declared.limits.TheConstants.{PAGE_WEIGHT}
use Rattle.rl_types.specs.Weight.{saturated, state_weight}
use Rattle.rl_channel.specs.Pages.{page_from}
use Rattle.std.proofs.lemmas.Bool.Decides.{nat_tests}
use Rattle.rl_model.specs.Objects.{cut_from, is_last_states, is_past_id, page_states, states_past}

past_alike : (after : Option ObjectId) (held : Held) → ids.is_past_id after held ≡ is_past_id after (shown held)
past_alike None held = refl
past_alike (Some id) held = refl

past_same : (after : Option ObjectId) (pool : List Held) → map shown (ids.past_id after pool) ≡ states_past after (states pool)
past_same after [] = refl
past_same after (held ∷ pool) =
    ap (λ (b : Bool). map shown (cond b (held ∷ ids.past_id after pool) (ids.past_id after pool))) (past_alike after held) ∙ by (is_past_id after (shown held)) (past_same after pool)
  where
    by : (b : Bool) → map shown (ids.past_id after pool) ≡ states_past after (states pool) → map shown (cond b (held ∷ ids.past_id after pool) (ids.past_id after pool)) ≡ cond b (shown held ∷ states_past after (states pool)) (states_past after (states pool))
    by true h = ap (λ (more : List ObjectState). shown held ∷ more) h
    by false h = h

got_is : (after : Option ObjectId) (most : ℕ) (pool : List Held) → pools.page_states after most pool ≡ take most (states_past after (states pool))
got_is after most pool = sym (take-map shown most (ids.past_id after pool)) ∙ ap (take most) (past_same after pool)

pub page_is : (after : Option ObjectId) (most count : ℕ) (pool : List Held) (got : List ObjectState) → got ≡ pools.page_states after most pool → take count got ≡ cut_from 0 got → take count got ≡ page_states after most (states pool)
page_is after most count pool got is cut = cut ∙ ap (cut_from 0) (is ∙ got_is after most pool)

-- of p objects past the id the page has count, and it was cut from at most most
counts : (p most got count : ℕ) → got ≡ min most p → count ≤ got → (nat_le p most && (count == got)) ≡ nat_le p count
counts p most got count is within = grind (arith, nat_tests)

last_at : (after : Option ObjectId) (most count : ℕ) (pool : List Held) (got : List ObjectState) → got ≡ pools.page_states after most pool → take count got ≡ cut_from 0 got → count ≤ length got
    → (pools.is_last_page after most pool && (count == length got)) ≡ is_last_states after most (states pool)
last_at after most count pool got is cut within =
    let past = states_past after (states pool) in
    let many : length (ids.past_id after pool) ≡ length past = sym (length-map (ids.past_id after pool) shown) ∙ ap length (past_same after pool) in
    let short : length got ≡ min most (length past) = ap length (is ∙ got_is after most pool) ∙ length-take most past in
    let page : length (page_states after most (states pool)) ≡ count = ap length (sym (page_is after most count pool got is cut)) ∙ length-take count got ∙ least count (length got) within in
    ap (λ (n : ℕ). nat_le n most && (count == length got)) many
    ∙ counts (length past) most (length got) count short within
    ∙ ap (nat_le (length past)) (sym page)
  where
    least : (a b : ℕ) → a ≤ b → min a b ≡ a
    least a b h = omega (arith, h)

pub last_is : (after : Option ObjectId) (most count whole : ℕ) (pool : List Held) (got : List ObjectState) (none last : Bool) → got ≡ pools.page_states after most pool → none ≡ pools.is_last_page after most pool
    → take count got ≡ cut_from 0 got → count ≤ length got → whole ≡ length got → last ≡ (none && (count == whole)) → last ≡ is_last_states after most (states pool)
last_is after most count whole pool got none last is ends cut within all found =
    found
    ∙ ap (λ (b : Bool). b && (count == whole)) ends
    ∙ ap (λ (n : ℕ). pools.is_last_page after most pool && (count == n)) all
    ∙ last_at after most count pool got is cut within

-- ONE STATE MORE

heavier : (b w : ℕ) (xs : List ObjectState) → page_from (saturated (b + saturated w)) xs ≡ page_from (b + w) xs
heavier b w xs = by (nat_le (2 ^ 64) (b + w)) refl
  where
    by : (t : Bool) → nat_le (2 ^ 64) (b + w) ≡ t → page_from (saturated (b + saturated w)) xs ≡ page_from (b + w) xs
    by true is =
        let great = leb-true (2 ^ 64) (b + w) is in
        ap (λ (t : Bool). cond t [] (cut_from (saturated (b + saturated w)) xs)) (le-leb PAGE_WEIGHT (saturated (b + saturated w)) (omega (arith, great)))
        ∙ sym (ap (λ (t : Bool). cond t [] (cut_from (b + w) xs)) (le-leb PAGE_WEIGHT (b + w) (omega (arith, great))))
    by false is =
        let small = leb-false (2 ^ 64) (b + w) is in
        ap (λ (n : ℕ). page_from n xs) (omega (arith, small))

page_more : (b : ℕ) (x : ObjectState) (xs : List ObjectState) → nat_le PAGE_WEIGHT b ≡ false → page_from b (x ∷ xs) ≡ x ∷ page_from (b + state_weight x) xs
page_more b x xs is = ap (λ (t : Bool). cond t [] (cut_from b (x ∷ xs))) is

pub page_step : (states : List ObjectState) (i b : ℕ) (d : ObjectState) → i < length states → nat_le PAGE_WEIGHT b ≡ false → page_from 0 states ≡ take i states ++ page_from b (drop i states)
    → page_from 0 states ≡ take (i + 1) states ++ page_from (saturated (b + saturated (state_weight (get_or states i d)))) (drop (i + 1) states)
page_step states i b d within low h =
    let x = get_or states i d in
    let rest = drop (i + 1) states in
    h
    ∙ ap (λ (ys : List ObjectState). take i states ++ page_from b ys) (drop_more states i d within)
    ∙ ap (λ (ys : List ObjectState). take i states ++ ys) (page_more b x rest low)
    ∙ sym (append_assoc (take i states) (x ∷ []) (page_from (b + state_weight x) rest))
    ∙ ap (λ (ys : List ObjectState). ys ++ page_from (b + state_weight x) rest) (sym (take_more states i d within))
    ∙ ap (λ (ys : List ObjectState). take (i + 1) states ++ ys) (sym (heavier b (state_weight x) rest))

-- where the weight is at its limit nothing goes on
pub page_full : (states : List ObjectState) (i b : ℕ) → nat_le PAGE_WEIGHT b ≡ true → page_from 0 states ≡ take i states ++ page_from b (drop i states) → take i states ≡ cut_from 0 states
page_full states i b full h =
    sym (h ∙ ap (λ (t : Bool). take i states ++ cond t [] (cut_from b (drop i states))) full ∙ append-nil (take i states))

-- nor where no state is left
pub page_done : (states : List ObjectState) (i b : ℕ) → i ≡ length states → page_from 0 states ≡ take i states ++ page_from b (drop i states) → take i states ≡ cut_from 0 states
page_done states i b all h =
    sym (h ∙ ap (λ (ys : List ObjectState). take i states ++ page_from b ys) (ap (λ (n : ℕ). drop n states) all ∙ drop-length states) ∙ ap (λ (ys : List ObjectState). take i states ++ ys) (none (nat_le PAGE_WEIGHT b)) ∙ append-nil (take i states))
  where
    none : (t : Bool) → cond t [] (cut_from b []) ≡ []
    none true = refl
    none false = refl
