-- The page sequences of a session by all that came: the replies to its pages, and when their end was sent. The latest
-- stands first.
use Rattle.std.specs.Prelude.{ℕ, ◌+◌, ◌-◌, ◌^◌, ◌≡◌, min, Bool, true, false, not, ◌&&◌, ◌||◌, if◌then◌else◌, List, [], ◌∷◌, ◌++◌, length, map, reverse, Option, Some, None}
use Rattle.std.specs.List.{filter_map, last_or}
use Rattle.rl_numbers.specs.declared.limits.TheConstants.{PAGE_MEMBERS, PAGE_OBJECTS}
use Rattle.rl_events.specs.declared.channel.ChannelEvent.{ChannelEvent}
use Rattle.rl_events.specs.declared.channel.ChannelEvent.TheVariants.{MemberPage, ObjectPage}
use Rattle.rl_events.specs.declared.channel.ChannelReply.{ChannelReply}
use Rattle.rl_events.specs.declared.channel.ChannelReply.TheVariants.{Members, Objects}
use Rattle.rl_types.specs.declared.frames.Frame.{Frame}
use Rattle.rl_types.specs.declared.objects.ObjectState.{ObjectState}
use Rattle.rl_types.specs.declared.presence.PresenceItem.{PresenceItem}
use Rattle.rl_pages.specs.Frames.{page_at, member_frame, object_frame}
use Rattle.rl_pages.specs.Pages.{Page, cursor_after, are_reached, are_there}
use Rattle.rl_pages.specs.State.{Sequences, new_pages, next_event, page_frame, page_absorbed, member_key, object_id, may_end, end_pages, end_frames, ended}

pub data Step : Type 0 where
  Absorbs : (reply : ChannelReply) → Step
  Ends : Step

-- what was asked for
pub record Asked : Type 0 where
  pub channel : List ℕ
  pub sequence : ℕ
  pub presence : Bool
  pub objects : Bool

-- THE PAGES THAT CAME, in the order in which they came

abbrev pub member_page : Step → Option (Page PresenceItem)
member_page (Absorbs (Members items last head)) = Some (record { items = items; last = last; head = head })
member_page step = None

abbrev pub object_page : Step → Option (Page ObjectState)
object_page (Absorbs (Objects states last head)) = Some (record { items = states; last = last; head = head })
object_page step = None

abbrev pub member_pages : List Step → List (Page PresenceItem)
member_pages steps = filter_map member_page (reverse steps)

abbrev pub object_pages : List Step → List (Page ObjectState)
object_pages steps = filter_map object_page (reverse steps)

-- WHAT THEY SAY

-- the page that is wanted next: each page of the members comes before those of the objects
abbrev pub wanted_page : Asked → List Step → Option ChannelEvent
wanted_page asked steps =
    if not (are_there asked.presence (member_pages steps)) then Some (MemberPage (cursor_after member_key (member_pages steps)) PAGE_MEMBERS)
    else if not (are_there asked.objects (object_pages steps)) then Some (ObjectPage (cursor_after object_id (object_pages steps)) PAGE_OBJECTS)
    else None

-- the number of the page after these. It stands still at its type's end
module _ {Item : Type 0} where
  abbrev pub number_after : List (Page Item) → ℕ
  number_after pages = min (length pages + 1) (2 ^ 64 - 1)

-- the frame in which the page of this reply is sent
abbrev pub frame_of : Asked → List Step → ChannelReply → Option Frame
frame_of asked steps (Members items last head) = Some (member_frame asked.channel (page_at asked.sequence (number_after (member_pages steps))) items)
frame_of asked steps (Objects states last head) = Some (object_frame asked.channel (page_at asked.sequence (number_after (object_pages steps))) states)
frame_of asked steps reply = None

-- each page that was asked for came
abbrev pub all_there : Asked → List Step → Bool
all_there asked steps = are_there asked.presence (member_pages steps) && are_there asked.objects (object_pages steps)

-- the end was sent, once each page that was asked for had come
abbrev pub have_ended : Asked → List Step → Bool
have_ended asked [] = false
have_ended asked (Absorbs reply ∷ before) = have_ended asked before
have_ended asked (Ends ∷ before) = have_ended asked before || all_there asked before

-- THE RULE OF THE END: a sequence that was asked for has not ended, each page that was asked for came, and the position is
-- at least each head at which they were made
abbrev pub ends_at : ℕ → Asked → List Step → Bool
ends_at position asked steps =
    ((asked.presence || asked.objects) && not (have_ended asked steps))
    && (all_there asked steps && (are_reached position (member_pages steps) && are_reached position (object_pages steps)))

-- WHAT IS KEPT, STEP BY STEP

abbrev pub step : Step → Sequences → Sequences
step (Absorbs reply) pages = page_absorbed reply pages
step Ends pages = ended pages

abbrev pub begun : Asked → Sequences
begun asked = new_pages asked.channel asked.sequence asked.presence asked.objects

abbrev pub after : Asked → List Step → Sequences
after asked [] = begun asked
after asked (latest ∷ before) = step latest (after asked before)

-- the frames of all ends that were sent, in order
abbrev pub ends_sent : Asked → List Step → List Frame
ends_sent asked [] = []
ends_sent asked (Absorbs reply ∷ before) = ends_sent asked before
ends_sent asked (Ends ∷ before) = ends_sent asked before ++ end_frames (after asked before)

-- LAWS

-- what is kept answers as the whole lists of pages do
pub record StandsForPages : Type 0 where
  pub next : (asked : Asked) (steps : List Step) → next_event (after asked steps) ≡ wanted_page asked steps
  pub frame : (asked : Asked) (steps : List Step) (reply : ChannelReply) → page_frame reply (after asked steps) ≡ frame_of asked steps reply
  pub end : (asked : Asked) (steps : List Step) (position : ℕ) → may_end position (after asked steps) ≡ ends_at position asked steps

-- the first page of a kind has no cursor, and each other one begins past the last key of the page before; where that one
-- shows nothing, where it began itself
pub record BeginsPastTheLast (Item Key : Type 0) : Type 0 where
  pub first : (key : Item → Key) → cursor_after key [] ≡ None
  pub next : (key : Item → Key) (pages : List (Page Item)) (page : Page Item)
      → cursor_after key (pages ++ page ∷ []) ≡ last_or (cursor_after key pages) (map key page.items)

-- the end pages are sent at most once, and only after each page that was asked for came
pub record EndsOnce : Type 0 where
  pub once : (asked : Asked) (steps : List Step) → ends_sent asked steps ≡ (if have_ended asked steps then end_pages (begun asked) else [])
  pub complete : (asked : Asked) (steps : List Step) → have_ended asked steps ≡ true → all_there asked steps ≡ true

-- where the end may be sent, its pages are; after it there is none, whatever the position
pub record EndsForGood : Type 0 where
  pub sent : (pages : Sequences) (position : ℕ) → may_end position pages ≡ true → end_frames pages ≡ end_pages pages
  pub over : (pages : Sequences) (position : ℕ) → may_end position (ended pages) ≡ false
  pub none_more : (pages : Sequences) → end_frames (ended pages) ≡ []
  pub stays : (pages : Sequences) → ended (ended pages) ≡ ended pages
