-- Histories of calls: what a sync leaves, by the pages and the operations that were given since it opened.
use Rattle.std.specs.Prelude.{◌≡◌, ℕ, Bool, true, false, not, if◌then◌else◌, List, [], ◌∷◌, ◌++◌, Option, None}
use Rattle.std.specs.List.{list_all}
use Rattle.rl_types.specs.declared.frames.Cursor.{Cursor}
use Rattle.rl_types.specs.declared.objects.ObjectOp.{ObjectOp}
use Rattle.rl_types.specs.declared.objects.ObjectState.{ObjectState}
use Rattle.rl_objmodel.specs.Held.{Held}
use Rattle.rl_objsync.specs.Steps.{ObjectView, attached, ends_sync, is_open, is_same_sequence, ops_taken, page_taken, sequence_in, synced, ticked}

-- CALLS

pub record Page : Type 0 where
  pub at : Option Cursor
  pub states : List ObjectState

pub data Call : Type 0 where
  Attached : (has_objects : Bool) → Call
  Shows : (page : Page) → (now : ℕ) → Call
  Gives : (ops : List ObjectOp) → (now : ℕ) → Call
  Ticks : (now : ℕ) → Call

abbrev pub taken : Call → ObjectView → ObjectView
taken (Attached has_objects) known = attached has_objects known
taken (Shows page now) known = page_taken page.at page.states now known
taken (Gives ops now) known = ops_taken ops now known
taken (Ticks now) known = ticked now known

-- what calls make of what was known, the latest call first
abbrev pub known_after : List Call → ObjectView → ObjectView
known_after [] known = known
known_after (call ∷ before) known = taken call (known_after before known)

-- it is not ATTACHED, and no page that ends a sync
abbrev pub goes_on : Call → Bool
goes_on (Attached has_objects) = false
goes_on (Shows page now) = not (ends_sync page.at)
goes_on _ = true

-- WHAT CAME, of calls and pages the latest first

-- the operations that were given, in order
abbrev pub ops_given : List Call → List ObjectOp
ops_given [] = []
ops_given (Gives ops now ∷ before) = ops_given before ++ ops
ops_given (_ ∷ before) = ops_given before

abbrev pub pages_shown : List Call → List Page
pages_shown [] = []
pages_shown (Shows page now ∷ before) = page ∷ pages_shown before
pages_shown (_ ∷ before) = pages_shown before

-- the latest pages, as far as they have this sequence
abbrev pub of_sequence : Option (List ℕ) → List Page → List Page
of_sequence sequence [] = []
of_sequence sequence (page ∷ before) =
    if is_same_sequence (sequence_in page.at) sequence then page ∷ of_sequence sequence before else []

-- the pages since the sequence changed last; a page without cursor has a sequence of its own
abbrev pub since_change : List Page → List Page
since_change [] = []
since_change (page ∷ before) = page ∷ of_sequence (sequence_in page.at) before

-- the objects of pages, in order
abbrev pub states_in : List Page → List ObjectState
states_in [] = []
states_in (page ∷ before) = states_in before ++ page.states

abbrev pub states_shown : List Call → List ObjectState
states_shown calls = states_in (since_change (pages_shown calls))

-- A SYNC

-- the pool of the objects that were shown since the sequence changed last, with the root, to which the operations that
-- were given were applied in order, each by the site test
abbrev pub pool_shown : ℕ → List Call → List Held
pool_shown now calls = synced now (states_shown calls) (ops_given calls)

-- while the sync is open the pool stays; the page that ends it leaves that pool
pub record SyncsExactly (known : ObjectView) (calls : List Call) : Type 0 where
  pub waits : is_open (known_after calls (attached true known)).sync ≡ true
  pub stays : (known_after calls (attached true known)).pool ≡ known.pool
  pub ends : (page : Page) → ends_sync page.at ≡ true → (now : ℕ)
      → known_after (Shows page now ∷ calls) (attached true known) ≡ record { pool = pool_shown now (Shows page now ∷ calls); sync = None }

-- whatever was known before, and whatever calls come between ATTACHED and the page that ends the sync
abbrev pub SyncsAreExact : Type 0
SyncsAreExact = (known : ObjectView) → (calls : List Call) → list_all goes_on calls ≡ true → SyncsExactly known calls
