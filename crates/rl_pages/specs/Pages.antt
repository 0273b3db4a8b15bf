-- Page sequences, over whole lists of pages (RTP18, RTO5). The rule of their end is this project's own.
use Rattle.std.specs.Prelude.{ℕ, Bool, ◌||◌, not, nat_le, List, [], ◌∷◌, map, max, Option, None}
use Rattle.std.specs.List.{flat_map, last_or, list_all, list_any}

-- a page of one kind
pub record Page (Item : Type 0) : Type 0 where
  pub items : List Item  -- members or objects, in order
  pub last : Bool  -- none remain after them
  pub head : ℕ  -- the place of the channel's last entry when it was made

-- the greatest of numbers, and 0 where there is none
abbrev pub greatest : List ℕ → ℕ
greatest [] = 0
greatest (number ∷ numbers) = max number (greatest numbers)

-- THE PAGES OF ONE KIND SO FAR, in the order in which they came
module _ {Item : Type 0} where
  -- the key past which the next page begins: that of the last item that they show; none where they show none
  abbrev pub cursor_after : {Key : Type 0} → (Item → Key) → List (Page Item) → Option Key
  cursor_after key pages = last_or None (map key (flat_map (λ (page : Page Item). page.items) pages))

  -- the last page is there: one says that none remain
  abbrev pub are_whole : List (Page Item) → Bool
  are_whole pages = list_any (λ (page : Page Item). page.last) pages

  -- the same where they were asked for; where they were not, none is missing
  abbrev pub are_there : Bool → List (Page Item) → Bool
  are_there asked pages = not asked || are_whole pages

  -- the position is at least each head at which they were made
  abbrev pub are_reached : ℕ → List (Page Item) → Bool
  are_reached position pages = list_all (λ (page : Page Item). nat_le page.head position) pages

  -- the greatest head at which they were made
  abbrev pub greatest_head : List (Page Item) → ℕ
  greatest_head pages = greatest (map (λ (page : Page Item). page.head) pages)
