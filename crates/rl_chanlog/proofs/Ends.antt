-- Ends of a log that pass a test.
use Rattle.std.proofs.Common.{◌≡◌, ℕ, suc, ◌+◌, ◌-◌, ◌≤◌, Bool, true, false, List, [], ◌∷◌, ◌++◌, length, drop, refl, ap, sym, ◌∙◌, arith, length-append, length-drop}
use Rattle.std.specs.Prelude.{◌&&◌, if◌then◌else◌}
use Rattle.std.specs.List.{list_all}
use Rattle.std.proofs.lemmas.List.{drop-drop, drop-append-le}
use Rattle.std.proofs.lemmas.List.Sums.{sum_by-cons}
use Rattle.std.proofs.Math.Seq.{drop-nil}
use Rattle.std.proofs.lemmas.Grind.{common_steps}
use Rattle.rl_numbers.specs.declared.limits.TheConstants.{MAX_ENTRY_AGE}
use Rattle.rl_types.specs.declared.messages.Entry.{Entry}
use Rattle.rl_model.specs.Window.{entry_weight, fits, fits_at, is_young, least_place, first_after}
use Rattle.rl_chanlog.specs.Window.{WindowView, KeepsWindow, RiseTo, narrowed, young_from}

-- STEPS OF THE FIRST PLACE

from_on : (test : List Entry → Bool) (place : ℕ) (window : List Entry) → place ≤ least_place test place window
from_on test place [] = omega arith
from_on test place (entry ∷ window) = grind (arith, common_steps, from_on test (suc place) window)

within : (test : List Entry → Bool) (place : ℕ) (window : List Entry) → least_place test place window ≤ place + length window
within test place [] = omega arith
within test place (entry ∷ window) = grind (arith, common_steps, within test (suc place) window)

drop_more : (n m : ℕ) (entry : Entry) (window : List Entry) → suc m ≤ n → drop (n - m) (entry ∷ window) ≡ drop (n - suc m) window
drop_more n m entry window above =
    let more : n - m ≡ suc (n - suc m) = omega (arith, above) in
    ap (λ (k : ℕ). drop k (entry ∷ window)) more

is_end : (test : List Entry → Bool) (place : ℕ) (window : List Entry) → narrowed test window ≡ drop (least_place test place window - place) window
is_end test place [] = sym (drop-nil (place - place))
is_end test place (entry ∷ window) = by_test (test (entry ∷ window)) (is_end test (suc place) window)
  where
    by_test : (passes : Bool) → narrowed test window ≡ drop (least_place test (suc place) window - suc place) window → (if passes then entry ∷ window else narrowed test window) ≡ drop ((if passes then place else least_place test (suc place) window) - place) (entry ∷ window)
    by_test true rest = let none : 0 ≡ place - place = omega arith in ap (λ (k : ℕ). drop k (entry ∷ window)) none
    by_test false rest = rest ∙ sym (drop_more (least_place test (suc place) window) place entry window (from_on test (suc place) window))

-- the window that stands for a log that ends at the same place, moved on by a test
pub moved : (test : List Entry → Bool) (log : List Entry) (first : ℕ) → 1 ≤ first → narrowed test (drop (first - 1) log) ≡ drop (first_after test first log - 1) log
moved test log first from =
    let on = from_on test first (drop (first - 1) log) in
    let same : first - 1 + (first_after test first log - first) ≡ first_after test first log - 1 = omega (arith, on, from) in
    is_end test first (drop (first - 1) log)
    ∙ drop-drop (first_after test first log - first) (first - 1) log
    ∙ ap (λ (k : ℕ). drop k log) same

pub moved_from : (test : List Entry → Bool) (log : List Entry) (first : ℕ) → 1 ≤ first → 1 ≤ first_after test first log
moved_from test log first from = let on = from_on test first (drop (first - 1) log) in omega (arith, on, from)

pub moved_within : (test : List Entry → Bool) (log : List Entry) (first : ℕ) → 1 ≤ first → first ≤ length log + 1 → first_after test first log ≤ length log + 1
moved_within test log first from small =
    let on = within test first (drop (first - 1) log) in
    let long = length-drop (first - 1) log in
    omega (arith, on, long, from, small)

-- the window after a step
pub keeps_moved : (view new : WindowView) (test : List Entry → Bool) (log : List Entry) (first : ℕ) → KeepsWindow view log first → new.head ≡ view.head → new.entries ≡ narrowed test view.entries → KeepsWindow new log (first_after test first log)
keeps_moved view new test log first keeps head entries =
    record {
      head = head ∙ keeps.head;
      from = moved_from test log first keeps.from;
      within = moved_within test log first keeps.from keeps.within;
      entries = entries ∙ ap (narrowed test) keeps.entries ∙ moved test log first keeps.from;
    }

pub keeps_added : (view new : WindowView) (entry : Entry) (log : List Entry) (first : ℕ) → KeepsWindow view log first → new.head ≡ view.head + 1 → new.entries ≡ narrowed fits (view.entries ++ entry ∷ []) → KeepsWindow new (log ++ entry ∷ []) (first_after fits first (log ++ entry ∷ []))
keeps_added view new entry log first keeps head entries =
    let long = length-append log (entry ∷ []) in
    let more = log ++ entry ∷ [] in
    let small : first ≤ length log + 1 = keeps.within in
    let at_start : first - 1 ≤ length log = omega (arith, small) in
    let wide : first ≤ length (log ++ entry ∷ []) + 1 = rw long (omega (arith, small)) in
    record {
      head = head ∙ ap (λ (k : ℕ). k + 1) keeps.head ∙ sym long;
      from = moved_from fits more first keeps.from;
      within = moved_within fits more first keeps.from wide;
      entries = entries ∙ ap (λ (w : List Entry). narrowed fits (w ++ entry ∷ [])) keeps.entries ∙ ap (narrowed fits) (sym (drop-append-le (first - 1) log (entry ∷ []) at_start)) ∙ moved fits more first keeps.from;
    }

-- YOUNG ENTRIES

all_young : (now low newest : ℕ) (window : List Entry) → RiseTo low window newest → now ≤ low + MAX_ENTRY_AGE → list_all (is_young now) window ≡ true
all_young now low newest [] rise young = refl
all_young now low newest (entry ∷ window) rise young =
    let here = rise.0 in
    let rest = all_young now entry.stamp newest window rise.1 (omega (arith, here, young)) in
    grind (arith, common_steps, rest, here, young)

pub fits_rest : (entry : Entry) (window : List Entry) → fits (entry ∷ window) ≡ true → fits window ≡ true
fits_rest entry window all = let weighs = sum_by-cons entry_weight entry window in grind (arith, common_steps, all, weighs)

lower : (low lower newest : ℕ) (window : List Entry) → lower ≤ low → RiseTo low window newest → RiseTo lower window newest
lower low least newest [] less rise = omega (arith, less, rise)
lower low least newest (entry ∷ window) less rise = let here = rise.0 in (omega (arith, less, here), rise.1)

-- where the stamps rise, the longest end that is young begins at the first entry that is
pub narrowed_is_young : (now low newest : ℕ) (window : List Entry) → RiseTo low window newest → fits window ≡ true → narrowed (fits_at now) window ≡ young_from now window
narrowed_is_young now low newest [] rise small = refl
narrowed_is_young now low newest (entry ∷ window) rise small = by_test (is_young now entry) refl (narrowed_is_young now entry.stamp newest window rise.1 (fits_rest entry window small))
  where
    by_test : (young : Bool) → is_young now entry ≡ young → narrowed (fits_at now) window ≡ young_from now window → (if fits_at now (entry ∷ window) then entry ∷ window else narrowed (fits_at now) window) ≡ (if young then entry ∷ window else young_from now window)
    by_test true young rest =
        let least : entry.stamp ≤ entry.stamp = omega arith in
        let old : now ≤ entry.stamp + MAX_ENTRY_AGE = grind (arith, common_steps, young) in
        let all = all_young now entry.stamp newest (entry ∷ window) (least, rise.1) old in
        ap (λ (b : Bool). if (fits (entry ∷ window) && b) then entry ∷ window else narrowed (fits_at now) window) all ∙ ap (λ (b : Bool). if (b && true) then entry ∷ window else narrowed (fits_at now) window) small
    by_test false young rest =
        ap (λ (b : Bool). if (fits (entry ∷ window) && (b && list_all (is_young now) window)) then entry ∷ window else narrowed (fits_at now) window) young ∙ ap (λ (b : Bool). if (b && false) then entry ∷ window else narrowed (fits_at now) window) small ∙ rest

-- WHAT STAYS TRUE

pub rise_on : (low newest : ℕ) (window : List Entry) (entry : Entry) → newest ≤ entry.stamp → RiseTo low window newest → RiseTo low (window ++ entry ∷ []) entry.stamp
rise_on low newest [] entry later rise = (omega (arith, later, rise), omega arith)
rise_on low newest (first ∷ window) entry later rise = (rise.0, rise_on first.stamp newest window entry later rise.1)

pub rise_narrowed : (test : List Entry → Bool) (low newest : ℕ) (window : List Entry) → RiseTo low window newest → RiseTo low (narrowed test window) newest
rise_narrowed test low newest [] rise = rise
rise_narrowed test low newest (entry ∷ window) rise = by_test (test (entry ∷ window)) (rise_narrowed test low newest window (lower entry.stamp low newest window rise.0 rise.1))
  where
    by_test : (passes : Bool) → RiseTo low (narrowed test window) newest → RiseTo low (if passes then entry ∷ window else narrowed test window) newest
    by_test true rest = rise
    by_test false rest = rest
