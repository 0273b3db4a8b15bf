-- What a sync leaves, by induction over the calls that come in it.
use Rattle.std.proofs.Common.{◌≡◌, ℕ, Bool, true, false, true≢false, cond, List, [], ◌∷◌, ◌++◌, Option, Some, None, refl, ap, sym, ◌∙◌}
use Rattle.std.specs.Prelude.{◌&&◌, not}
use Rattle.std.specs.List.{list_all}
use Rattle.std.proofs.lemmas.Slice.Eq.{bytes_eq-Decides}
use Rattle.rl_types.specs.declared.objects.ObjectState.{ObjectState}
use Rattle.rl_objsync.specs.declared.sync.OpenSync.{OpenSync}
use Rattle.rl_objsync.specs.Steps.{ObjectView, attached, ends_sync, is_open, is_same_sequence, received_with, receiving, sequence_in, synced}
use Rattle.rl_objsync.specs.Histories.{Page, Call, Attached, Shows, Gives, Ticks, taken, known_after, goes_on, ops_given, pages_shown, of_sequence, since_change, states_in, states_shown, SyncsAreExact}

and_left : (a b : Bool) → (a && b) ≡ true → a ≡ true
and_left true b h = refl
and_left false b h = absurd (true≢false (sym h))

and_right : (a b : Bool) → (a && b) ≡ true → b ≡ true
and_right true b h = h
and_right false b h = absurd (true≢false (sym h))

-- SEQUENCES

same : (before now : Option (List ℕ)) → is_same_sequence before now ≡ true → before ≡ now
same None now h = absurd (true≢false (sym h))
same (Some a) None h = absurd (true≢false (sym h))
same (Some a) (Some b) h = ap (λ (s : List ℕ). Some s) ((bytes_eq-Decides a b).0 h)

abbrev pub latest_sequence : List Page → Option (List ℕ)
latest_sequence [] = None
latest_sequence (page ∷ before) = sequence_in page.at

by_test : (sequence : Option (List ℕ)) (page : Page) (pages : List Page) (b : Bool) → is_same_sequence (sequence_in page.at) sequence ≡ b
    → cond b (states_in (page ∷ of_sequence (sequence_in page.at) pages)) [] ≡ states_in (cond b (page ∷ of_sequence sequence pages) [])
by_test sequence page pages true h = ap (λ (s : Option (List ℕ)). states_in (page ∷ of_sequence s pages)) (same (sequence_in page.at) sequence h)
by_test sequence page pages false h = refl

-- what goes on in a sequence are the latest pages of it
going_on : (sequence : Option (List ℕ)) (pages : List Page)
    → cond (is_same_sequence (latest_sequence pages) sequence) (states_in (since_change pages)) [] ≡ states_in (of_sequence sequence pages)
going_on sequence [] = refl
going_on sequence (page ∷ pages) = by_test sequence page pages (is_same_sequence (sequence_in page.at) sequence) refl

-- A SYNC THAT IS OPEN

abbrev pub sync_after : List Call → OpenSync
sync_after calls = record { received = states_shown calls; kept = ops_given calls; sequence = latest_sequence (pages_shown calls) }

abbrev pub still_open : ObjectView → OpenSync → ObjectView
still_open known sync = record { pool = known.pool; sync = Some sync }

abbrev pub ended : ℕ → List ObjectState → List Call → ObjectView
ended now states calls = record { pool = synced now states (ops_given calls); sync = None }

abbrev pub open_view : ObjectView → List Call → ObjectView
open_view known calls = still_open known (sync_after calls)

received : (calls : List Call) (page : Page) (now : ℕ) → received_with page.at page.states (sync_after calls) ≡ states_shown (Shows page now ∷ calls)
received calls page now = ap (λ (states : List ObjectState). states ++ page.states) (going_on (sequence_in page.at) (pages_shown calls))

shown_by : (known : ObjectView) (calls : List Call) (page : Page) (now : ℕ) (ends : Bool) → not ends ≡ true
    → cond ends (ended now (received_with page.at page.states (sync_after calls)) calls) (still_open known (receiving page.at page.states (sync_after calls)))
    ≡ open_view known (Shows page now ∷ calls)
shown_by known calls page now true h = absurd (true≢false (sym h))
shown_by known calls page now false h =
    ap (λ (states : List ObjectState). still_open known (record { received = states; kept = ops_given calls; sequence = sequence_in page.at })) (received calls page now)

stays_open : (known : ObjectView) (calls : List Call) → list_all goes_on calls ≡ true → known_after calls (attached true known) ≡ open_view known calls
stays_open known [] h = refl
stays_open known (Attached has_objects ∷ calls) h = absurd (true≢false (sym h))
stays_open known (Shows page now ∷ calls) h =
    ap (taken (Shows page now)) (stays_open known calls (and_right (not (ends_sync page.at)) (list_all goes_on calls) h))
    ∙ shown_by known calls page now (ends_sync page.at) (and_left (not (ends_sync page.at)) (list_all goes_on calls) h)
stays_open known (Gives ops now ∷ calls) h = ap (taken (Gives ops now)) (stays_open known calls h)
stays_open known (Ticks now ∷ calls) h = ap (taken (Ticks now)) (stays_open known calls h)

-- ITS END

ends_by : (known : ObjectView) (calls : List Call) (page : Page) (now : ℕ) (ends : Bool) → ends ≡ true
    → cond ends (ended now (received_with page.at page.states (sync_after calls)) calls) (still_open known (receiving page.at page.states (sync_after calls)))
    ≡ ended now (states_shown (Shows page now ∷ calls)) calls
ends_by known calls page now true h =
    ap (λ (states : List ObjectState). ended now states calls) (received calls page now)
ends_by known calls page now false h = absurd (true≢false (sym h))

pub syncs_are_exact : SyncsAreExact
syncs_are_exact known calls h =
    let is : known_after calls (attached true known) ≡ open_view known calls = stays_open known calls h in
    record {
      waits = ap (λ (v : ObjectView). is_open v.sync) is;
      stays = ap (λ (v : ObjectView). v.pool) is;
      ends = λ page last now. ap (taken (Shows page now)) is ∙ ends_by known calls page now (ends_sync page.at) last;
    }
