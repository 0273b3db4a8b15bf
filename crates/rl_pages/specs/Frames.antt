-- The frames of pages: SYNC for members (RTP18) and OBJECT_SYNC for objects (RTO5).
use Rattle.std.specs.Prelude.{ℕ, List, [], Some}
use Rattle.std.specs.Fmt.{decimal}
use Rattle.rl_types.specs.declared.frames.Cursor.{Cursor}
use Rattle.rl_types.specs.declared.frames.Frame.{Frame}
use Rattle.rl_types.specs.declared.frames.Frame.TheVariants.{Sync, ObjectSync}
use Rattle.rl_types.specs.declared.presence.PresenceItem.{PresenceItem}
use Rattle.rl_types.specs.declared.objects.ObjectState.{ObjectState}

-- where the page of this number stands in its sync: both numbers in decimal (RTP18a, RTO5a)
abbrev pub page_at : ℕ → ℕ → Cursor
page_at sequence number = record { sequence = decimal sequence; cursor = decimal number }

-- where the sync ends (RTP18b, RTO5a4)
abbrev pub end_at : ℕ → Cursor
end_at sequence = record { sequence = decimal sequence; cursor = [] }

abbrev pub member_frame : List ℕ → Cursor → List PresenceItem → Frame
member_frame channel at items = Sync channel (Some at) items

abbrev pub object_frame : List ℕ → Cursor → List ObjectState → Frame
object_frame channel at states = ObjectSync channel (Some at) states
