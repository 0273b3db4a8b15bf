-- What is kept of the pages is what all of them say.
use Rattle.std.proofs.Common.{◌≡◌, ℕ, ◌+◌, ◌-◌, ◌^◌, List, [], ◌∷◌, ◌++◌, length, reverse, refl, ◌∙◌, ap, arith, true, false}
use Rattle.std.specs.Prelude.{Bool, ◌&&◌, ◌||◌, not, min, Option, Some, None}
use Rattle.std.specs.List.{filter_map}
use Rattle.std.proofs.lemmas.List.{append-nil, reverse-append}
use Rattle.std.proofs.lemmas.List.Elements.{filter_map-append}
use Rattle.rl_events.specs.declared.channel.ChannelReply.{ChannelReply}
use Rattle.rl_events.specs.declared.channel.ChannelReply.TheVariants.{Put, Joined, Read, Members, Objects, Gone, Ticked, Census}
use Rattle.rl_types.specs.declared.objects.ObjectState.{ObjectState}
use Rattle.rl_types.specs.declared.presence.PresenceItem.{PresenceItem}
use Rattle.rl_pages.specs.Pages.{Page, cursor_after, are_there, are_reached}
use Rattle.rl_pages.specs.Frames.{page_at, member_frame, object_frame}
use Rattle.rl_pages.specs.State.{Sequences, page_absorbed, ended, next_event, page_frame, may_end, member_key, object_id}
use Rattle.rl_pages.specs.History.{Asked, Step, Absorbs, Ends, member_page, object_page, member_pages, object_pages, have_ended, all_there, after, frame_of, ends_at, number_after, StandsForPages, BeginsPastTheLast}
use Rattle.rl_pages.proofs.Sequenced.{cursor_more, progress_of, progress_more, reached}

-- WHAT IS KEPT, BY THE PAGES

abbrev pub kept_of : Asked → List (Page PresenceItem) → List (Page ObjectState) → Bool → Sequences
kept_of asked members objects over = record {
  channel = asked.channel;
  sequence = asked.sequence;
  members = progress_of asked.presence members;
  after_member = cursor_after member_key members;
  objects = progress_of asked.objects objects;
  after_object = cursor_after object_id objects;
  ended = not (asked.presence || asked.objects) || over;
}

abbrev pub kept : Asked → List Step → Sequences
kept asked steps = kept_of asked (member_pages steps) (object_pages steps) (have_ended asked steps)

-- THE PAGES OF ONE STEP MORE

latest_of : {A : Type 0} (f : Step → Option A) (latest : Step) (before : List Step)
    → filter_map f (reverse (latest ∷ before)) ≡ filter_map f (reverse before) ++ filter_map f (latest ∷ [])
latest_of f latest before = ap (filter_map f) (reverse-append (latest ∷ []) before) ∙ filter_map-append f (reverse before) (latest ∷ [])

-- it brings none of this kind
pub none_of : {A : Type 0} (f : Step → Option A) (latest : Step) (before : List Step) → f latest ≡ None
    → filter_map f (reverse (latest ∷ before)) ≡ filter_map f (reverse before)
none_of {A} f latest before none =
    latest_of f latest before ∙ rw none (append-nil (filter_map f (reverse before)))

-- it brings one
pub one_of : {A : Type 0} (f : Step → Option A) (latest : Step) (before : List Step) (page : A) → f latest ≡ Some page
    → filter_map f (reverse (latest ∷ before)) ≡ filter_map f (reverse before) ++ page ∷ []
one_of f latest before page one = latest_of f latest before ∙ rw one refl

-- ONE STEP MORE

takes_members : (asked : Asked) (members : List (Page PresenceItem)) (objects : List (Page ObjectState)) (over : Bool) (items : List PresenceItem) (last : Bool) (head : ℕ)
    → page_absorbed (Members items last head) (kept_of asked members objects over)
    ≡ kept_of asked (members ++ record { items = items; last = last; head = head } ∷ []) objects over
takes_members asked members objects over items last head =
    let page : Page PresenceItem = record { items = items; last = last; head = head } in
    let progress = progress_more asked.presence members page in
    let cursor = cursor_more member_key members page in
    rw (progress, cursor) refl

takes_objects : (asked : Asked) (members : List (Page PresenceItem)) (objects : List (Page ObjectState)) (over : Bool) (states : List ObjectState) (last : Bool) (head : ℕ)
    → page_absorbed (Objects states last head) (kept_of asked members objects over)
    ≡ kept_of asked members (objects ++ record { items = states; last = last; head = head } ∷ []) over
takes_objects asked members objects over states last head =
    let page : Page ObjectState = record { items = states; last = last; head = head } in
    let progress = progress_more asked.objects objects page in
    let cursor = cursor_more object_id objects page in
    rw (progress, cursor) refl

ends_more : (none over there : Bool) → ((none || over) || (not (none || over) && there)) ≡ (none || (over || there))
ends_more true over there = refl
ends_more false true there = refl
ends_more false false true = refl
ends_more false false false = refl

takes_end : (asked : Asked) (members : List (Page PresenceItem)) (objects : List (Page ObjectState)) (over : Bool)
    → ended (kept_of asked members objects over) ≡ kept_of asked members objects (over || (are_there asked.presence members && are_there asked.objects objects))
takes_end asked members objects over =
    let e = ends_more (not (asked.presence || asked.objects)) over (are_there asked.presence members && are_there asked.objects objects) in
    ap (λ (b : Bool). record (kept_of asked members objects over) { ended = b }) e

-- the pages stay where a step brings none
stays : (asked : Asked) (members more_members : List (Page PresenceItem)) (objects more_objects : List (Page ObjectState)) (over : Bool)
    → more_members ≡ members → more_objects ≡ objects → kept_of asked members objects over ≡ kept_of asked more_members more_objects over
stays asked members more_members objects more_objects over is_members is_objects = rw (is_members, is_objects) refl

begins : (presence objects : Bool) → not (presence || objects) ≡ (not (presence || objects) || false)
begins true objects = refl
begins false true = refl
begins false false = refl

asked_for : (asked : Bool) → not asked ≡ (not asked || false)
asked_for true = refl
asked_for false = refl

-- a reply without a page
passes_over : (asked : Asked) (reply : ChannelReply) (before : List Step) → after asked before ≡ kept asked before
    → member_page (Absorbs reply) ≡ None → object_page (Absorbs reply) ≡ None
    → after asked before ≡ kept asked (Absorbs reply ∷ before)
passes_over asked reply before so_far no_members no_objects =
    so_far
    ∙ stays asked (member_pages before) (member_pages (Absorbs reply ∷ before)) (object_pages before) (object_pages (Absorbs reply ∷ before)) (have_ended asked before)
    (none_of member_page (Absorbs reply) before no_members) (none_of object_page (Absorbs reply) before no_objects)

pub stands : (asked : Asked) (steps : List Step) → after asked steps ≡ kept asked steps
stands asked [] =
    let a = begins asked.presence asked.objects in
    let b = asked_for asked.presence in
    let d = asked_for asked.objects in
    rw (← a, ← b, ← d) refl
stands asked (Absorbs (Members items last head) ∷ before) =
    ap (page_absorbed (Members items last head)) (stands asked before)
    ∙ takes_members asked (member_pages before) (object_pages before) (have_ended asked before) items last head
    ∙ stays asked _ (member_pages (Absorbs (Members items last head) ∷ before)) (object_pages before) (object_pages (Absorbs (Members items last head) ∷ before)) (have_ended asked before)
    (one_of member_page (Absorbs (Members items last head)) before (record { items = items; last = last; head = head }) refl)
    (none_of object_page (Absorbs (Members items last head)) before refl)
stands asked (Absorbs (Objects states last head) ∷ before) =
    ap (page_absorbed (Objects states last head)) (stands asked before)
    ∙ takes_objects asked (member_pages before) (object_pages before) (have_ended asked before) states last head
    ∙ stays asked (member_pages before) (member_pages (Absorbs (Objects states last head) ∷ before)) _ (object_pages (Absorbs (Objects states last head) ∷ before)) (have_ended asked before)
    (none_of member_page (Absorbs (Objects states last head)) before refl)
    (one_of object_page (Absorbs (Objects states last head)) before (record { items = states; last = last; head = head }) refl)
stands asked (Absorbs (Put verdict) ∷ before) = passes_over asked (Put verdict) before (stands asked before) refl refl
stands asked (Absorbs (Joined serial resumed presence objects) ∷ before) = passes_over asked (Joined serial resumed presence objects) before (stands asked before) refl refl
stands asked (Absorbs (Read reply) ∷ before) = passes_over asked (Read reply) before (stands asked before) refl refl
stands asked (Absorbs (Gone place) ∷ before) = passes_over asked (Gone place) before (stands asked before) refl refl
stands asked (Absorbs Ticked ∷ before) = passes_over asked Ticked before (stands asked before) refl refl
stands asked (Absorbs (Census first head members objects) ∷ before) = passes_over asked (Census first head members objects) before (stands asked before) refl refl
stands asked (Ends ∷ before) =
    ap ended (stands asked before)
    ∙ takes_end asked (member_pages before) (object_pages before) (have_ended asked before)
    ∙ stays asked (member_pages before) (member_pages (Ends ∷ before)) (object_pages before) (object_pages (Ends ∷ before)) (have_ended asked (Ends ∷ before))
    (none_of member_page Ends before refl) (none_of object_page Ends before refl)

-- LAWS

number_is : {Item : Type 0} (pages : List (Page Item)) → min (min (length pages) (2 ^ 64 - 1) + 1) (2 ^ 64 - 1) ≡ number_after pages
number_is pages = omega arith

frame_is : (asked : Asked) (steps : List Step) (reply : ChannelReply) → page_frame reply (kept asked steps) ≡ frame_of asked steps reply
frame_is asked steps (Members items last head) = ap (λ (n : ℕ). Some (member_frame asked.channel (page_at asked.sequence n) items)) (number_is (member_pages steps))
frame_is asked steps (Objects states last head) = ap (λ (n : ℕ). Some (object_frame asked.channel (page_at asked.sequence n) states)) (number_is (object_pages steps))
frame_is asked steps (Put verdict) = refl
frame_is asked steps (Joined serial resumed presence objects) = refl
frame_is asked steps (Read reply) = refl
frame_is asked steps (Gone place) = refl
frame_is asked steps Ticked = refl
frame_is asked steps (Census first head members objects) = refl

end_is : (asks over there reaches : Bool) → ((not (not asks || over) && there) && reaches) ≡ ((asks && not over) && (there && reaches))
end_is false over there reaches = refl
end_is true true there reaches = refl
end_is true false true reaches = refl
end_is true false false reaches = refl

may : (asked : Asked) (steps : List Step) (position : ℕ) → may_end position (kept asked steps) ≡ ends_at position asked steps
may asked steps position =
    let members = reached position (member_pages steps) in
    let objects = reached position (object_pages steps) in
    rw (members, objects) (end_is (asked.presence || asked.objects) (have_ended asked steps) (all_there asked steps) (are_reached position (member_pages steps) && are_reached position (object_pages steps)))

pub stands_for_pages : StandsForPages
stands_for_pages =
    record {
      next = λ asked steps. ap next_event (stands asked steps);
      frame = λ asked steps reply. ap (page_frame reply) (stands asked steps) ∙ frame_is asked steps reply;
      end = λ asked steps position. ap (may_end position) (stands asked steps) ∙ may asked steps position;
    }

pub begins_past_the_last : {Item Key : Type 0} → BeginsPastTheLast Item Key
begins_past_the_last = record { first = λ key. refl; next = cursor_more }
