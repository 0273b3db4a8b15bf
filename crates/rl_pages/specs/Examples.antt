-- Sessions that asked for members and objects, for objects alone and for neither: what is asked of the channel, what is
-- sent, and when the end may be.
use Rattle.std.specs.Prelude.{ℕ, ◌≡◌, true, false, List, [], ◌∷◌, Some, None, codes}
use Rattle.rl_ids.specs.declared.members.MemberKey.{MemberKey}
use Rattle.rl_ids.specs.declared.objects.ObjectId.TheVariants.{Root}
use Rattle.rl_events.specs.declared.channel.ChannelEvent.TheVariants.{MemberPage, ObjectPage}
use Rattle.rl_events.specs.declared.channel.ChannelReply.{ChannelReply}
use Rattle.rl_events.specs.declared.channel.ChannelReply.TheVariants.{Members, Objects}
use Rattle.rl_types.specs.declared.frames.Frame.TheVariants.{Sync, ObjectSync}
use Rattle.rl_types.specs.declared.objects.ObjectState.{ObjectState}
use Rattle.rl_types.specs.declared.objects.ObjectBody.TheVariants.{Map}
use Rattle.rl_types.specs.declared.presence.PresenceItem.{PresenceItem}
use Rattle.rl_types.specs.declared.presence.PresenceAction.TheVariants.{Present}
use Rattle.rl_pages.specs.History.{Asked, Step, Absorbs, Ends, after, ends_sent}
use Rattle.rl_pages.specs.State.{next_event, page_frame, may_end}

-- THE PAGES

abbrev pub member : List ℕ → PresenceItem
member client = record { action = Present; client = client; conn = codes "c00000001"; id = []; stamp = 0; payload = None; encoding = None }

abbrev pub key : List ℕ → MemberKey
key client = record { conn = codes "c00000001"; client = client }

abbrev pub root : ObjectState
root = record { id = Root; sites = []; tombstone = false; created = true; body = Map [] }

abbrev pub first_members : ChannelReply
first_members = Members (member (codes "a") ∷ member (codes "b") ∷ []) false 7

abbrev pub no_members : ChannelReply
no_members = Members [] false 9

abbrev pub last_members : ChannelReply
last_members = Members (member (codes "c") ∷ []) true 8

abbrev pub all_objects : ChannelReply
all_objects = Objects (root ∷ []) true 4

-- A SESSION THAT ASKED FOR BOTH

abbrev pub both : Asked
both = record { channel = codes "room"; sequence = 3; presence = true; objects = true }

abbrev pub both_done : List Step
both_done = Absorbs all_objects ∷ Absorbs last_members ∷ Absorbs no_members ∷ Absorbs first_members ∷ []

pub record ShowsBoth : Type 0 where
  pub first_page : next_event (after both []) ≡ Some (MemberPage None 64)
  pub second_page : next_event (after both (Absorbs first_members ∷ [])) ≡ Some (MemberPage (Some (key (codes "b"))) 64)
  pub empty_page : next_event (after both (Absorbs no_members ∷ Absorbs first_members ∷ [])) ≡ Some (MemberPage (Some (key (codes "b"))) 64)
  pub first_objects : next_event (after both (Absorbs last_members ∷ Absorbs first_members ∷ [])) ≡ Some (ObjectPage None 4)
  pub none_left : next_event (after both both_done) ≡ None
  pub second_frame : page_frame last_members (after both (Absorbs first_members ∷ []))
      ≡ Some (Sync (codes "room") (Some (record { sequence = codes "3"; cursor = codes "2" })) (member (codes "c") ∷ []))
  pub objects_frame : page_frame all_objects (after both (Absorbs last_members ∷ Absorbs first_members ∷ []))
      ≡ Some (ObjectSync (codes "room") (Some (record { sequence = codes "3"; cursor = codes "1" })) (root ∷ []))
  pub too_early : may_end 8 (after both both_done) ≡ false
  pub reached : may_end 9 (after both both_done) ≡ true
  pub pages_left : may_end 9 (after both (Absorbs last_members ∷ Absorbs first_members ∷ [])) ≡ false
  pub ended : may_end 9 (after both (Ends ∷ both_done)) ≡ false
  pub once : ends_sent both (Ends ∷ Ends ∷ both_done)
      ≡ Sync (codes "room") (Some (record { sequence = codes "3"; cursor = [] })) []
      ∷ ObjectSync (codes "room") (Some (record { sequence = codes "3"; cursor = [] })) [] ∷ []
  pub early_end : ends_sent both (Ends ∷ Absorbs first_members ∷ []) ≡ []

-- SESSIONS THAT ASKED FOR LESS

abbrev pub objects_alone : Asked
objects_alone = record { channel = codes "room"; sequence = 12; presence = false; objects = true }

abbrev pub neither : Asked
neither = record { channel = codes "room"; sequence = 1; presence = false; objects = false }

pub record ShowsLess : Type 0 where
  pub objects_first : next_event (after objects_alone []) ≡ Some (ObjectPage None 4)
  pub objects_may : may_end 4 (after objects_alone (Absorbs all_objects ∷ [])) ≡ true
  pub objects_end : ends_sent objects_alone (Ends ∷ Absorbs all_objects ∷ [])
      ≡ ObjectSync (codes "room") (Some (record { sequence = codes "12"; cursor = [] })) [] ∷ []
  pub nothing_next : next_event (after neither []) ≡ None
  pub nothing_may : may_end 9 (after neither []) ≡ false
  pub nothing_ends : ends_sent neither (Ends ∷ []) ≡ []
