-- What is sent is the pages of the members, those of the objects, and the end pages.
use Rattle.std.proofs.Common.{◌≡◌, ℕ, ◌+◌, ◌-◌, ◌^◌, List, [], ◌∷◌, ◌++◌, length, refl, sym, ◌∙◌, ap, arith, true, false}
use Rattle.std.specs.Prelude.{Bool, ◌&&◌, ◌||◌, not, min, if◌then◌else◌, Option, Some, None}
use Rattle.std.specs.Option.{option_to_list}
use Rattle.std.proofs.lemmas.List.{append-nil, append_assoc}
use Rattle.rl_ids.specs.declared.members.MemberKey.{MemberKey}
use Rattle.rl_ids.specs.declared.objects.ObjectId.{ObjectId}
use Rattle.rl_numbers.specs.declared.limits.TheConstants.{PAGE_MEMBERS, PAGE_OBJECTS}
use Rattle.rl_events.specs.declared.channel.ChannelEvent.{ChannelEvent}
use Rattle.rl_events.specs.declared.channel.ChannelEvent.TheVariants.{MemberPage, ObjectPage}
use Rattle.rl_events.specs.declared.channel.ChannelReply.{ChannelReply}
use Rattle.rl_events.specs.declared.channel.ChannelReply.TheVariants.{Put, Joined, Read, Members, Objects, Gone, Ticked, Census}
use Rattle.rl_types.specs.declared.frames.Cursor.{Cursor}
use Rattle.rl_types.specs.declared.frames.Frame.{Frame}
use Rattle.rl_types.specs.declared.objects.ObjectState.{ObjectState}
use Rattle.rl_types.specs.declared.presence.PresenceItem.{PresenceItem}
use Rattle.rl_pages.specs.Frames.{page_at, member_frame, object_frame}
use Rattle.rl_pages.specs.Pages.{Page}
use Rattle.rl_pages.specs.State.{is_reply_to, page_frame, end_frames, end_pages}
use Rattle.rl_pages.specs.History.{Asked, Step, Absorbs, Ends, after, begun, have_ended, all_there, member_page, object_page, member_pages, object_pages, number_after}
use Rattle.rl_pages.specs.Sending.{AreWanted, SendsInOrder, WantsMembersFirst, in_order, numbered_from, sent}
use Rattle.rl_pages.proofs.Stands.{none_of, one_of, stands, stands_for_pages}
use Rattle.rl_pages.proofs.Ends.{complete, once_more, there_is}

-- WHICH REPLIES ARE WANTED

pub wants_members : (done objects_done : Bool) (a : Option MemberKey) (b : Option ObjectId) (items : List PresenceItem) (last : Bool) (head : ℕ)
    → is_reply_to (if not done then Some (MemberPage a PAGE_MEMBERS) else if not objects_done then Some (ObjectPage b PAGE_OBJECTS) else None) (Members items last head) ≡ true
    → done ≡ false
wants_members false objects_done a b items last head is = refl
wants_members true false a b items last head is = grind (arith, is)
wants_members true true a b items last head is = grind (arith, is)

pub wants_objects : (done objects_done : Bool) (a : Option MemberKey) (b : Option ObjectId) (states : List ObjectState) (last : Bool) (head : ℕ)
    → is_reply_to (if not done then Some (MemberPage a PAGE_MEMBERS) else if not objects_done then Some (ObjectPage b PAGE_OBJECTS) else None) (Objects states last head) ≡ true
    → (done ≡ true) × (objects_done ≡ false)
wants_objects true false a b states last head is = (refl, refl)
wants_objects true true a b states last head is = grind (arith, is)
wants_objects false objects_done a b states last head is = grind (arith, is)

members_wanted : (done objects_done : Bool) (a : Option MemberKey) (b : Option ObjectId) (items : List PresenceItem) (last : Bool) (head : ℕ)
    → is_reply_to (if not done then Some (MemberPage a PAGE_MEMBERS) else if not objects_done then Some (ObjectPage b PAGE_OBJECTS) else None) (Members items last head) ≡ not done
members_wanted false objects_done a b items last head = refl
members_wanted true false a b items last head = refl
members_wanted true true a b items last head = refl

objects_wanted : (done objects_done : Bool) (a : Option MemberKey) (b : Option ObjectId) (states : List ObjectState) (last : Bool) (head : ℕ)
    → is_reply_to (if not done then Some (MemberPage a PAGE_MEMBERS) else if not objects_done then Some (ObjectPage b PAGE_OBJECTS) else None) (Objects states last head) ≡ (done && not objects_done)
objects_wanted false objects_done a b states last head = refl
objects_wanted true false a b states last head = refl
objects_wanted true true a b states last head = refl

pub wants_members_first : WantsMembersFirst
wants_members_first =
    record {
      members = λ pages items last head. members_wanted pages.members.done pages.objects.done pages.after_member pages.after_object items last head;
      objects = λ pages states last head. objects_wanted pages.members.done pages.objects.done pages.after_member pages.after_object states last head;
      none = λ pages reply is. ap (λ (event : Option ChannelEvent). is_reply_to event reply) is;
    }

-- THE PAGES OF THE OBJECTS COME BEHIND THOSE OF THE MEMBERS

grown : (done last : Bool) → (done || last) ≡ false → done ≡ false
grown false last is = refl
grown true last is = grind (arith, is)

pub objects_wait : (asked : Asked) (steps : List Step) → AreWanted asked steps → (after asked steps).members.done ≡ false → object_pages steps ≡ []
objects_wait asked [] wanted open_ = refl
objects_wait asked (Absorbs (Members items last head) ∷ before) wanted open_ =
    none_of object_page (Absorbs (Members items last head)) before refl
    ∙ objects_wait asked before wanted.1 (grown (after asked before).members.done last open_)
objects_wait asked (Absorbs (Objects states last head) ∷ before) wanted open_ =
    let s = after asked before in
    let whole = (wants_objects s.members.done s.objects.done s.after_member s.after_object states last head wanted.0).0 in
    grind (arith, whole, open_)
objects_wait asked (Absorbs (Put verdict) ∷ before) wanted open_ = none_of object_page (Absorbs (Put verdict)) before refl ∙ objects_wait asked before wanted.1 open_
objects_wait asked (Absorbs (Joined serial resumed presence objects) ∷ before) wanted open_ = none_of object_page (Absorbs (Joined serial resumed presence objects)) before refl ∙ objects_wait asked before wanted.1 open_
objects_wait asked (Absorbs (Read reply) ∷ before) wanted open_ = none_of object_page (Absorbs (Read reply)) before refl ∙ objects_wait asked before wanted.1 open_
objects_wait asked (Absorbs (Gone place) ∷ before) wanted open_ = none_of object_page (Absorbs (Gone place)) before refl ∙ objects_wait asked before wanted.1 open_
objects_wait asked (Absorbs Ticked ∷ before) wanted open_ = none_of object_page (Absorbs Ticked) before refl ∙ objects_wait asked before wanted.1 open_
objects_wait asked (Absorbs (Census first head members objects) ∷ before) wanted open_ = none_of object_page (Absorbs (Census first head members objects)) before refl ∙ objects_wait asked before wanted.1 open_
objects_wait asked (Ends ∷ before) wanted open_ = none_of object_page Ends before refl ∙ objects_wait asked before wanted open_

-- WHILE A PAGE IS WANTED NOTHING HAS ENDED

un_ended : (over there : Bool) → (over ≡ true → there ≡ true) → there ≡ false → over ≡ false
un_ended false there known is = refl
un_ended true there known is = grind (arith, known refl, is)

and_first : (a b : Bool) → a ≡ false → (a && b) ≡ false
and_first false b is = refl
and_first true b is = grind (arith, is)

and_second : (a b : Bool) → b ≡ false → (a && b) ≡ false
and_second true b is = is
and_second false b is = refl

not_yet : (asked : Asked) (steps : List Step) → ((after asked steps).members.done && (after asked steps).objects.done) ≡ false → have_ended asked steps ≡ false
not_yet asked steps is = un_ended (have_ended asked steps) (all_there asked steps) (complete asked steps) (there_is asked steps ∙ is)

-- ONE FRAME MORE

numbered_more : {Item : Type 0} (sequence : ℕ) (frame : Cursor → List Item → Frame) (number : ℕ) (pages : List (Page Item)) (page : Page Item)
    → numbered_from sequence frame number (pages ++ page ∷ [])
    ≡ numbered_from sequence frame number pages ++ frame (page_at sequence (min (number + length pages) (2 ^ 64 - 1))) page.items ∷ []
numbered_more sequence frame number [] page =
    let e : number ≡ number + 0 = omega arith in
    ap (λ (n : ℕ). frame (page_at sequence (min n (2 ^ 64 - 1))) page.items ∷ []) e
numbered_more sequence frame number (first ∷ pages) page =
    let e : number + 1 + length pages ≡ number + length (first ∷ pages) = omega arith in
    let more = numbered_more sequence frame (number + 1) pages page ∙ ap (λ (n : ℕ). numbered_from sequence frame (number + 1) pages ++ frame (page_at sequence (min n (2 ^ 64 - 1))) page.items ∷ []) e in
    ap (λ (frames : List Frame). frame (page_at sequence (min number (2 ^ 64 - 1))) first.items ∷ frames) more

next_frame : {Item : Type 0} (sequence : ℕ) (frame : Cursor → List Item → Frame) (pages : List (Page Item)) (page : Page Item)
    → numbered_from sequence frame 1 (pages ++ page ∷ [])
    ≡ numbered_from sequence frame 1 pages ++ frame (page_at sequence (number_after pages)) page.items ∷ []
next_frame sequence frame pages page =
    let e : 1 + length pages ≡ length pages + 1 = omega arith in
    numbered_more sequence frame 1 pages page ∙ ap (λ (n : ℕ). numbered_from sequence frame 1 pages ++ frame (page_at sequence (min n (2 ^ 64 - 1))) page.items ∷ []) e

-- all frames, by the pages
abbrev pub frames_of : Asked → List (Page PresenceItem) → List (Page ObjectState) → Bool → List Frame
frames_of asked members objects over =
    numbered_from asked.sequence (member_frame asked.channel) 1 members
    ++ (numbered_from asked.sequence (object_frame asked.channel) 1 objects
    ++ (if over then end_pages (begun asked) else []))

more_members : (asked : Asked) (members : List (Page PresenceItem)) (page : Page PresenceItem)
    → frames_of asked members [] false ++ member_frame asked.channel (page_at asked.sequence (number_after members)) page.items ∷ []
    ≡ frames_of asked (members ++ page ∷ []) [] false
more_members asked members page =
    let frame = member_frame asked.channel (page_at asked.sequence (number_after members)) page.items in
    let so_far = numbered_from asked.sequence (member_frame asked.channel) 1 members in
    ap (λ (frames : List Frame). frames ++ frame ∷ []) (append-nil so_far)
    ∙ sym (next_frame asked.sequence (member_frame asked.channel) members page)
    ∙ sym (append-nil (numbered_from asked.sequence (member_frame asked.channel) 1 (members ++ page ∷ [])))

more_objects : (asked : Asked) (members : List (Page PresenceItem)) (objects : List (Page ObjectState)) (page : Page ObjectState)
    → frames_of asked members objects false ++ object_frame asked.channel (page_at asked.sequence (number_after objects)) page.items ∷ []
    ≡ frames_of asked members (objects ++ page ∷ []) false
more_objects asked members objects page =
    let frame = object_frame asked.channel (page_at asked.sequence (number_after objects)) page.items in
    let before = numbered_from asked.sequence (member_frame asked.channel) 1 members in
    let so_far = numbered_from asked.sequence (object_frame asked.channel) 1 objects in
    let all = numbered_from asked.sequence (object_frame asked.channel) 1 (objects ++ page ∷ []) in
    ap (λ (frames : List Frame). (before ++ frames) ++ frame ∷ []) (append-nil so_far)
    ∙ append_assoc before so_far (frame ∷ [])
    ∙ ap (λ (frames : List Frame). before ++ frames) (sym (next_frame asked.sequence (object_frame asked.channel) objects page) ∙ sym (append-nil all))

more_end : (asked : Asked) (members : List (Page PresenceItem)) (objects : List (Page ObjectState)) (over there : Bool)
    → frames_of asked members objects over ++ (if (not (not (asked.presence || asked.objects) || over) && there) then end_pages (begun asked) else [])
    ≡ frames_of asked members objects (over || there)
more_end asked members objects over there =
    let first = numbered_from asked.sequence (member_frame asked.channel) 1 members in
    let second = numbered_from asked.sequence (object_frame asked.channel) 1 objects in
    let ends = if over then end_pages (begun asked) else [] in
    let more = if (not (not (asked.presence || asked.objects) || over) && there) then end_pages (begun asked) else [] in
    append_assoc first (second ++ ends) more
    ∙ ap (λ (frames : List Frame). first ++ frames) (append_assoc second ends more)
    ∙ ap (λ (frames : List Frame). first ++ (second ++ frames)) (once_more asked.presence asked.objects over there _ _)

-- ALL FRAMES

same_frames : (asked : Asked) (members more_members : List (Page PresenceItem)) (objects more_objects : List (Page ObjectState)) (over now : Bool)
    → more_members ≡ members → more_objects ≡ objects → now ≡ over
    → frames_of asked members objects over ≡ frames_of asked more_members more_objects now
same_frames asked members more_members objects more_objects over now is_members is_objects is_over = rw (is_members, is_objects, is_over) refl

-- a page sends one frame
one_more : (asked : Asked) (reply : ChannelReply) (before : List Step) (so_far : List Frame) (frame : Frame)
    → sent asked before ≡ so_far → page_frame reply (after asked before) ≡ Some frame → sent asked (Absorbs reply ∷ before) ≡ so_far ++ frame ∷ []
one_more asked reply before so_far frame is_so_far is_frame =
    ap (λ (frames : List Frame). frames ++ option_to_list (page_frame reply (after asked before))) is_so_far
    ∙ ap (λ (one : Option Frame). so_far ++ option_to_list one) is_frame

-- a reply without a page sends nothing
passed : (asked : Asked) (reply : ChannelReply) (before : List Step) → sent asked before ≡ in_order asked before
    → page_frame reply (after asked before) ≡ None → member_page (Absorbs reply) ≡ None → object_page (Absorbs reply) ≡ None
    → sent asked (Absorbs reply ∷ before) ≡ in_order asked (Absorbs reply ∷ before)
passed asked reply before so_far no_frame no_members no_objects =
    rw no_frame (append-nil (sent asked before)) ∙ so_far
    ∙ same_frames asked (member_pages before) (member_pages (Absorbs reply ∷ before)) (object_pages before) (object_pages (Absorbs reply ∷ before)) (have_ended asked before) (have_ended asked before)
    (none_of member_page (Absorbs reply) before no_members) (none_of object_page (Absorbs reply) before no_objects) refl

pub sent_is : (asked : Asked) (steps : List Step) → AreWanted asked steps → sent asked steps ≡ in_order asked steps
sent_is asked [] wanted = refl
sent_is asked (Absorbs (Members items last head) ∷ before) wanted =
    let s = after asked before in
    let page : Page PresenceItem = record { items = items; last = last; head = head } in
    let open_ : s.members.done ≡ false = wants_members s.members.done s.objects.done s.after_member s.after_object items last head wanted.0 in
    let none : object_pages before ≡ [] = objects_wait asked before wanted.1 open_ in
    let over : have_ended asked before ≡ false = not_yet asked before (and_first s.members.done s.objects.done open_) in
    let frame = stands_for_pages.frame asked before (Members items last head) in
    let so_far = sent_is asked before wanted.1 ∙ same_frames asked (member_pages before) (member_pages before) (object_pages before) [] (have_ended asked before) false refl (sym none) (sym over) in
    one_more asked (Members items last head) before _ _ so_far frame
    ∙ more_members asked (member_pages before) page
    ∙ same_frames asked (member_pages before ++ page ∷ []) (member_pages (Absorbs (Members items last head) ∷ before)) [] (object_pages (Absorbs (Members items last head) ∷ before)) false (have_ended asked before)
    (one_of member_page (Absorbs (Members items last head)) before page refl)
    (none_of object_page (Absorbs (Members items last head)) before refl ∙ none) over
sent_is asked (Absorbs (Objects states last head) ∷ before) wanted =
    let s = after asked before in
    let page : Page ObjectState = record { items = states; last = last; head = head } in
    let open_ : s.objects.done ≡ false = (wants_objects s.members.done s.objects.done s.after_member s.after_object states last head wanted.0).1 in
    let over : have_ended asked before ≡ false = not_yet asked before (and_second s.members.done s.objects.done open_) in
    let frame = stands_for_pages.frame asked before (Objects states last head) in
    let so_far = sent_is asked before wanted.1 ∙ same_frames asked (member_pages before) (member_pages before) (object_pages before) (object_pages before) (have_ended asked before) false refl refl (sym over) in
    one_more asked (Objects states last head) before _ _ so_far frame
    ∙ more_objects asked (member_pages before) (object_pages before) page
    ∙ same_frames asked (member_pages before) (member_pages (Absorbs (Objects states last head) ∷ before)) (object_pages before ++ page ∷ []) (object_pages (Absorbs (Objects states last head) ∷ before)) false (have_ended asked before)
    (none_of member_page (Absorbs (Objects states last head)) before refl)
    (one_of object_page (Absorbs (Objects states last head)) before page refl) over
sent_is asked (Absorbs (Put verdict) ∷ before) wanted = passed asked (Put verdict) before (sent_is asked before wanted.1) refl refl refl
sent_is asked (Absorbs (Joined serial resumed presence objects) ∷ before) wanted = passed asked (Joined serial resumed presence objects) before (sent_is asked before wanted.1) refl refl refl
sent_is asked (Absorbs (Read reply) ∷ before) wanted = passed asked (Read reply) before (sent_is asked before wanted.1) refl refl refl
sent_is asked (Absorbs (Gone place) ∷ before) wanted = passed asked (Gone place) before (sent_is asked before wanted.1) refl refl refl
sent_is asked (Absorbs Ticked ∷ before) wanted = passed asked Ticked before (sent_is asked before wanted.1) refl refl refl
sent_is asked (Absorbs (Census first head members objects) ∷ before) wanted = passed asked (Census first head members objects) before (sent_is asked before wanted.1) refl refl refl
sent_is asked (Ends ∷ before) wanted =
    let so_far = sent_is asked before wanted in
    let state = ap end_frames (stands asked before) in
    rw (so_far, state) (more_end asked (member_pages before) (object_pages before) (have_ended asked before) (all_there asked before))
    ∙ same_frames asked (member_pages before) (member_pages (Ends ∷ before)) (object_pages before) (object_pages (Ends ∷ before)) (have_ended asked before || all_there asked before) (have_ended asked (Ends ∷ before))
    (none_of member_page Ends before refl) (none_of object_page Ends before refl) refl

pub sends_in_order : SendsInOrder
sends_in_order = record { all = sent_is }
