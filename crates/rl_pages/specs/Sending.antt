-- All that a session sends of its page sequences, in order.
use Rattle.std.specs.Prelude.{ℕ, ◌+◌, ◌-◌, ◌^◌, ◌≡◌, ⊤, min, Bool, true, false, not, ◌&&◌, None, List, [], ◌∷◌, ◌++◌, if◌then◌else◌}
use Rattle.std.specs.Option.{option_to_list}
use Rattle.rl_events.specs.declared.channel.ChannelReply.{ChannelReply}
use Rattle.rl_events.specs.declared.channel.ChannelReply.TheVariants.{Members, Objects}
use Rattle.rl_types.specs.declared.frames.Cursor.{Cursor}
use Rattle.rl_types.specs.declared.frames.Frame.{Frame}
use Rattle.rl_types.specs.declared.objects.ObjectState.{ObjectState}
use Rattle.rl_types.specs.declared.presence.PresenceItem.{PresenceItem}
use Rattle.rl_pages.specs.Frames.{page_at, member_frame, object_frame}
use Rattle.rl_pages.specs.History.{Asked, Step, Absorbs, Ends, after, begun, have_ended, member_pages, object_pages}
use Rattle.rl_pages.specs.Pages.{Page}
use Rattle.rl_pages.specs.State.{Sequences, end_frames, end_pages, is_wanted, next_event, page_frame}

-- which replies are wanted, by their kind: members while a page of them is, and then objects
pub record WantsMembersFirst : Type 0 where
  pub members : (pages : Sequences) (items : List PresenceItem) (last : Bool) (head : ℕ) → is_wanted (Members items last head) pages ≡ not pages.members.done
  pub objects : (pages : Sequences) (states : List ObjectState) (last : Bool) (head : ℕ)
      → is_wanted (Objects states last head) pages ≡ (pages.members.done && not pages.objects.done)
  pub none : (pages : Sequences) (reply : ChannelReply) → next_event pages ≡ None → is_wanted reply pages ≡ false

-- each reply brought the page that was wanted next
abbrev pub AreWanted : Asked → List Step → Type 0
AreWanted asked [] = ⊤
AreWanted asked (Absorbs reply ∷ before) = (is_wanted reply (after asked before) ≡ true) × AreWanted asked before
AreWanted asked (Ends ∷ before) = AreWanted asked before

-- what each step sends, one after another
abbrev pub sent : Asked → List Step → List Frame
sent asked [] = []
sent asked (Absorbs reply ∷ before) = sent asked before ++ option_to_list (page_frame reply (after asked before))
sent asked (Ends ∷ before) = sent asked before ++ end_frames (after asked before)

-- the frames of pages in order, numbered from this number on. Numbers stand still at their type's end
module _ {Item : Type 0} where
  abbrev pub numbered_from : ℕ → (Cursor → List Item → Frame) → ℕ → List (Page Item) → List Frame
  numbered_from sequence frame number [] = []
  numbered_from sequence frame number (page ∷ pages) =
      frame (page_at sequence (min number (2 ^ 64 - 1))) page.items ∷ numbered_from sequence frame (number + 1) pages

-- the pages of the members, those of the objects, and the end pages once they have ended
abbrev pub in_order : Asked → List Step → List Frame
in_order asked steps =
    numbered_from asked.sequence (member_frame asked.channel) 1 (member_pages steps)
    ++ (numbered_from asked.sequence (object_frame asked.channel) 1 (object_pages steps)
    ++ (if have_ended asked steps then end_pages (begun asked) else []))

pub record SendsInOrder : Type 0 where
  pub all : (asked : Asked) (steps : List Step) → AreWanted asked steps → sent asked steps ≡ in_order asked steps
