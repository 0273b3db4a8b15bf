-- What stays true of a window.
use Rattle.std.proofs.Common.{◌≡◌, ℕ, ◌+◌, ◌-◌, ◌^◌, ◌<◌, ◌≤◌, Bool, true, false, List, [], ◌∷◌, ◌++◌, length, take, drop, refl, ap, sym, subst, ◌∙◌, arith, length-append, length-drop}
use Rattle.std.specs.Prelude.{sum_by, if◌then◌else◌, slice_index_or}
use Rattle.std.proofs.lemmas.List.{get_or-drop, take_more}
use Rattle.std.proofs.lemmas.Grind.{common_steps}
use Rattle.rl_numbers.specs.declared.limits.TheConstants.{MAX_WINDOW_ENTRIES, MAX_WINDOW_WEIGHT}
use Rattle.rl_types.specs.declared.messages.Entry.{Entry}
use Rattle.rl_model.specs.Window.{entry_weight, fits, fits_at}
use Rattle.rl_chanlog.specs.Window.{IsWindow, RiseTo, narrowed, young_from}
use Rattle.rl_chanlog.proofs.Ends.{fits_rest, rise_on, rise_narrowed, narrowed_is_young}

fits_narrowed : (test : List Entry → Bool) (window : List Entry) → fits window ≡ true → fits (narrowed test window) ≡ true
fits_narrowed test [] small = refl
fits_narrowed test (entry ∷ window) small = by_test (test (entry ∷ window)) (fits_narrowed test window (fits_rest entry window small))
  where
    by_test : (passes : Bool) → fits (narrowed test window) ≡ true → fits (if passes then entry ∷ window else narrowed test window) ≡ true
    by_test true rest = small
    by_test false rest = rest

narrowed_fits : (window : List Entry) → fits (narrowed fits window) ≡ true
narrowed_fits [] = refl
narrowed_fits (entry ∷ window) = by_test (fits (entry ∷ window)) refl (narrowed_fits window)
  where
    by_test : (passes : Bool) → fits (entry ∷ window) ≡ passes → fits (narrowed fits window) ≡ true → fits (if passes then entry ∷ window else narrowed fits window) ≡ true
    by_test true is rest = is
    by_test false is rest = rest

shorter : (test : List Entry → Bool) (window : List Entry) → length (narrowed test window) ≤ length window
shorter test [] = omega arith
shorter test (entry ∷ window) = by_test (test (entry ∷ window)) (shorter test window)
  where
    by_test : (passes : Bool) → length (narrowed test window) ≤ length window → length (if passes then entry ∷ window else narrowed test window) ≤ length (entry ∷ window)
    by_test true rest = omega arith
    by_test false rest = omega (arith, rest)

window_fits : (entries : List Entry) (weight head newest : ℕ) → IsWindow entries weight head newest → fits entries ≡ true
window_fits entries weight head newest is = let few = is.few in let light = is.light in let weighed = is.weighed in grind (arith, common_steps, few, light, weighed)

pub record IsSmall (entries : List Entry) : Type 0 where
  pub few : length entries ≤ MAX_WINDOW_ENTRIES
  pub light : sum_by entry_weight entries ≤ MAX_WINDOW_WEIGHT

is_small : (entries : List Entry) → fits entries ≡ true → IsSmall entries
is_small entries fit = record { few = grind (arith, common_steps, fit); light = grind (arith, common_steps, fit) }

-- after one more entry
pub added_window : (entries new : List Entry) (weight weighs head newest : ℕ) (entry : Entry) → IsWindow entries weight head newest → newest ≤ entry.stamp → head + 1 ≤ 2 ^ 64 - 2 → new ≡ narrowed fits (entries ++ entry ∷ []) → weighs ≡ sum_by entry_weight new → IsWindow new weighs (head + 1) entry.stamp
added_window entries new weight weighs head newest entry is later small made weighed =
    let size = is_small new (ap fits made ∙ narrowed_fits (entries ++ entry ∷ [])) in
    let light = size.light in
    let less : length new ≤ length (entries ++ entry ∷ []) = subst (λ (w : List Entry). length w ≤ length (entries ++ entry ∷ [])) (sym made) (shorter fits (entries ++ entry ∷ [])) in
    let long = length-append entries (entry ∷ []) in
    let within = is.within in
    record {
      few = size.few;
      weighed = weighed;
      light = omega (arith, weighed, light);
      within = omega (arith, less, long, within);
      small = small;
      rise = subst (λ (w : List Entry). RiseTo 0 w entry.stamp) (sym made) (rise_narrowed fits 0 entry.stamp (entries ++ entry ∷ []) (rise_on 0 newest entries entry later is.rise));
    }

pub aged_entries : (entries : List Entry) (weight head newest now : ℕ) → IsWindow entries weight head newest → young_from now entries ≡ narrowed (fits_at now) entries
aged_entries entries weight head newest now is = sym (narrowed_is_young now 0 newest entries is.rise (window_fits entries weight head newest is))

-- at a moment
pub aged_window : (entries new : List Entry) (weight weighs head newest now : ℕ) → IsWindow entries weight head newest → new ≡ young_from now entries → weighs ≡ sum_by entry_weight new → IsWindow new weighs head newest
aged_window entries new weight weighs head newest now is young weighed =
    let made : new ≡ narrowed (fits_at now) entries = young ∙ aged_entries entries weight head newest now is in
    let size = is_small new (ap fits made ∙ fits_narrowed (fits_at now) entries (window_fits entries weight head newest is)) in
    let light = size.light in
    let less : length new ≤ length entries = subst (λ (w : List Entry). length w ≤ length entries) (sym made) (shorter (fits_at now) entries) in
    let within = is.within in
    record {
      few = size.few;
      weighed = weighed;
      light = omega (arith, weighed, light);
      within = omega (arith, less, within);
      small = is.small;
      rise = subst (λ (w : List Entry). RiseTo 0 w newest) (sym made) (rise_narrowed (fits_at now) 0 newest entries is.rise);
    }

-- one entry more is copied
pub copied_next : (entries : List Entry) (from at : ℕ) (entry : Entry) → from + at < length entries → entry ≡ slice_index_or entries (from + at) entry → take at (drop from entries) ++ entry ∷ [] ≡ take (at + 1) (drop from entries)
copied_next entries from at entry within is =
    let long = length-drop from entries in
    let here : at < length (drop from entries) = omega (arith, long, within) in
    ap (λ (e : Entry). take at (drop from entries) ++ e ∷ []) (is ∙ sym (get_or-drop from entries at entry)) ∙ sym (take_more (drop from entries) at entry here)
