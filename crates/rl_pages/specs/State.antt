-- What is kept of the page sequences of one session, and what each call makes of it.
use Rattle.std.specs.Prelude.{ℕ, ◌+◌, ◌-◌, ◌^◌, min, max, Bool, true, false, not, ◌&&◌, ◌||◌, nat_le, if◌then◌else◌, List, [], ◌∷◌, ◌++◌, map, Option, Some, None}
use Rattle.std.specs.List.{last_or}
use Rattle.rl_ids.specs.declared.members.MemberKey.{MemberKey}
use Rattle.rl_ids.specs.declared.objects.ObjectId.{ObjectId}
use Rattle.rl_numbers.specs.declared.limits.TheConstants.{PAGE_MEMBERS, PAGE_OBJECTS}
use Rattle.rl_events.specs.declared.channel.ChannelEvent.{ChannelEvent}
use Rattle.rl_events.specs.declared.channel.ChannelEvent.TheVariants.{MemberPage, ObjectPage}
use Rattle.rl_events.specs.declared.channel.ChannelReply.{ChannelReply}
use Rattle.rl_events.specs.declared.channel.ChannelReply.TheVariants.{Members, Objects}
use Rattle.rl_types.specs.declared.frames.Frame.{Frame}
use Rattle.rl_types.specs.declared.objects.ObjectState.{ObjectState}
use Rattle.rl_types.specs.declared.presence.PresenceItem.{PresenceItem}
use Rattle.rl_pages.specs.declared.progress.Progress.{Progress}
use Rattle.rl_pages.specs.Frames.{page_at, end_at, member_frame, object_frame}

pub record Sequences : Type 0 where
  pub channel : List ℕ  -- its name
  pub sequence : ℕ  -- the number of the sync
  pub members : Progress
  pub after_member : Option MemberKey  -- the last one that came
  pub objects : Progress
  pub after_object : Option ObjectId  -- the last one that came
  pub ended : Bool  -- each sequence that was asked for has ended

-- THE PAGES OF ONE KIND

-- none came; none is wanted where the kind was not asked for
abbrev pub started : Bool → Progress
started asked = record { asked = asked; count = 0; done = not asked; head = 0 }

-- the number of the next page, from 1. It stands still at its type's end
abbrev pub next_number : Progress → ℕ
next_number pages = min (pages.count + 1) (2 ^ 64 - 1)

-- one more came
abbrev pub with_page : Bool → ℕ → Progress → Progress
with_page last head pages = record { asked = pages.asked; count = next_number pages; done = pages.done || last; head = max pages.head head }

-- THE START

abbrev pub new_pages : List ℕ → ℕ → Bool → Bool → Sequences
new_pages channel sequence presence objects = record {
  channel = channel;
  sequence = sequence;
  members = started presence;
  after_member = None;
  objects = started objects;
  after_object = None;
  ended = not (presence || objects);
}

-- A PAGE

-- the event of the page that is wanted next: members first; none where each page that was asked for came
abbrev pub next_event : Sequences → Option ChannelEvent
next_event pages =
    if not pages.members.done then Some (MemberPage pages.after_member PAGE_MEMBERS)
    else if not pages.objects.done then Some (ObjectPage pages.after_object PAGE_OBJECTS)
    else None

-- a reply to this event
abbrev pub is_reply_to : Option ChannelEvent → ChannelReply → Bool
is_reply_to (Some (MemberPage after most)) (Members items last head) = true
is_reply_to (Some (ObjectPage after most)) (Objects states last head) = true
is_reply_to event reply = false

-- the reply brings the page that is wanted next
abbrev pub is_wanted : ChannelReply → Sequences → Bool
is_wanted reply pages = is_reply_to (next_event pages) reply

-- the frame in which a page is sent
abbrev pub page_frame : ChannelReply → Sequences → Option Frame
page_frame (Members items last head) pages = Some (member_frame pages.channel (page_at pages.sequence (next_number pages.members)) items)
page_frame (Objects states last head) pages = Some (object_frame pages.channel (page_at pages.sequence (next_number pages.objects)) states)
page_frame reply pages = None

-- who a member is (RTP2)
abbrev pub member_key : PresenceItem → MemberKey
member_key item = record { conn = item.conn; client = item.client }

abbrev pub object_id : ObjectState → ObjectId
object_id state = state.id

-- the page came. An empty one leaves where the next page begins
abbrev pub page_absorbed : ChannelReply → Sequences → Sequences
page_absorbed (Members items last head) pages =
    record pages { members = with_page last head pages.members; after_member = last_or pages.after_member (map member_key items) }
page_absorbed (Objects states last head) pages =
    record pages { objects = with_page last head pages.objects; after_object = last_or pages.after_object (map object_id states) }
page_absorbed reply pages = pages

-- THE END

-- some sequence that was asked for has not ended, and each page that was asked for came
abbrev pub is_complete : Sequences → Bool
is_complete pages = not pages.ended && (pages.members.done && pages.objects.done)

-- the sequences may end at this position: it is at least each head of their pages, too
abbrev pub may_end : ℕ → Sequences → Bool
may_end position pages = is_complete pages && (nat_le pages.members.head position && nat_le pages.objects.head position)

-- the end pages, each empty, of the members before that of the objects
abbrev pub end_pages : Sequences → List Frame
end_pages pages =
    (if pages.members.asked then member_frame pages.channel (end_at pages.sequence) [] ∷ [] else [])
    ++ (if pages.objects.asked then object_frame pages.channel (end_at pages.sequence) [] ∷ [] else [])

-- what is sent where the sequences end: nothing where pages remain, or where they have ended
abbrev pub end_frames : Sequences → List Frame
end_frames pages = if is_complete pages then end_pages pages else []

abbrev pub ended : Sequences → Sequences
ended pages = record pages { ended = pages.ended || is_complete pages }
