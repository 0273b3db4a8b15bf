-- One page more.
use Rattle.std.proofs.Common.{◌≡◌, ℕ, ◌+◌, ◌-◌, ◌^◌, List, [], ◌∷◌, ◌++◌, length, map, refl, ◌∙◌, ap, arith, true, false}
use Rattle.std.specs.Prelude.{Bool, ◌&&◌, ◌||◌, not, nat_le, min, max, None}
use Rattle.std.specs.List.{flat_map, last_or}
use Rattle.std.proofs.lemmas.List.{map-append, append-nil, length-append}
use Rattle.std.proofs.lemmas.List.Folds.{list_any-append}
use Rattle.std.proofs.lemmas.Grind.{flat_map-append}
use Rattle.rl_pages.specs.declared.progress.Progress.{Progress}
use Rattle.rl_pages.specs.Pages.{Page, cursor_after, are_whole, are_there, are_reached, greatest, greatest_head}
use Rattle.rl_pages.specs.State.{with_page}
use Rattle.rl_pages.proofs.Lasts.{last_append}

-- BOOLEANS

or_false : (b : Bool) → (b || false) ≡ b
or_false true = refl
or_false false = refl

or_more : (b c d : Bool) → (b || (c || (d || false))) ≡ ((b || c) || d)
or_more true c d = refl
or_more false true d = refl
or_more false false true = refl
or_more false false false = refl

-- THE GREATEST HEAD

greatest_more : (ns : List ℕ) (n : ℕ) → greatest (ns ++ n ∷ []) ≡ max (greatest ns) n
greatest_more [] n = omega arith
greatest_more (m ∷ ns) n =
    let e = greatest_more ns n in
    rw e (omega arith)

both_at_most : (a b position : ℕ) → nat_le (max a b) position ≡ (nat_le a position && nat_le b position)
both_at_most a b position = grind arith

pub reached : {Item : Type 0} (position : ℕ) (pages : List (Page Item)) → nat_le (greatest_head pages) position ≡ are_reached position pages
reached position [] = grind arith
reached position (page ∷ pages) =
    both_at_most page.head (greatest_head pages) position ∙ ap (λ (b : Bool). nat_le page.head position && b) (reached position pages)

-- WHERE THE NEXT PAGE BEGINS

pub cursor_more : {Item Key : Type 0} (key : Item → Key) (pages : List (Page Item)) (page : Page Item)
    → cursor_after key (pages ++ page ∷ []) ≡ last_or (cursor_after key pages) (map key page.items)
cursor_more {Item} {Key} key pages page =
    let items = λ (one : Page Item). one.items in
    ap (λ (all : List Item). last_or None (map key all)) (flat_map-append items pages (page ∷ []) ∙ ap (λ (more : List Item). flat_map items pages ++ more) (append-nil page.items))
    ∙ ap (last_or None) (map-append key (flat_map items pages) page.items)
    ∙ last_append None (map key (flat_map items pages)) (map key page.items)

-- WHAT IS KEPT OF THE PAGES OF A KIND

module _ {Item : Type 0} where
  abbrev pub progress_of : Bool → List (Page Item) → Progress
  progress_of asked pages = record { asked = asked; count = min (length pages) (2 ^ 64 - 1); done = are_there asked pages; head = greatest_head pages }

count_more : {Item : Type 0} (pages : List (Page Item)) (page : Page Item) → min (length (pages ++ page ∷ [])) (2 ^ 64 - 1) ≡ min (min (length pages) (2 ^ 64 - 1) + 1) (2 ^ 64 - 1)
count_more pages page =
    let e : length (pages ++ page ∷ []) ≡ length pages + 1 = length-append pages (page ∷ []) in
    rw e (omega arith)

there_more : {Item : Type 0} (asked : Bool) (pages : List (Page Item)) (page : Page Item) → are_there asked (pages ++ page ∷ []) ≡ (are_there asked pages || page.last)
there_more {Item} asked pages page =
    ap (λ (b : Bool). not asked || b) (list_any-append (λ (one : Page Item). one.last) pages (page ∷ [])) ∙ or_more (not asked) (are_whole pages) page.last

head_more : {Item : Type 0} (pages : List (Page Item)) (page : Page Item) → greatest_head (pages ++ page ∷ []) ≡ max (greatest_head pages) page.head
head_more {Item} pages page =
    let heads = λ (one : Page Item). one.head in
    ap greatest (map-append heads pages (page ∷ [])) ∙ greatest_more (map heads pages) page.head

pub progress_more : {Item : Type 0} (asked : Bool) (pages : List (Page Item)) (page : Page Item) → progress_of asked (pages ++ page ∷ []) ≡ with_page page.last page.head (progress_of asked pages)
progress_more asked pages page =
    let count = count_more pages page in
    let there = there_more asked pages page in
    let head = head_more pages page in
    rw (count, there, head) refl
