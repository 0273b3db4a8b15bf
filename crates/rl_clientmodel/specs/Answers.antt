-- What an ATTACHED makes of a channel (RTL4c, RTL12, RTP1, RTO4).
use Rattle.std.specs.Prelude.{ℕ, ◌/◌, ◌%◌, Bool, true, false, ◌&&◌, ◌==◌, if◌then◌else◌, List, [], ◌∷◌, Option, Some, None}
use Rattle.rl_numbers.specs.declared.flags.TheConstants.{HAS_OBJECTS, HAS_PRESENCE, RESUMED}
use Rattle.rl_ids.specs.declared.serials.ChannelSerial.{ChannelSerial}
use Rattle.rl_chansm.specs.declared.table.ChanEvent.TheVariants as event
use Rattle.rl_chansm.specs.Owed.{takes_attached, takes_unasked}
use Rattle.rl_presmap.specs.Held.{PresenceMap}
use Rattle.rl_presmap.specs.Steps.{opened}
use Rattle.rl_objsync.specs.Steps.{attached}
use Rattle.rl_clientmodel.specs.declared.runs.Beginning.TheVariants.{Answered, Unasked}
use Rattle.rl_clientmodel.specs.declared.runs.Run.{Run}
use Rattle.rl_clientmodel.specs.Runs.{goes_on_answered, goes_on_unasked, runs_with}
use Rattle.rl_clientmodel.specs.Channels.{ClientChannel, moved, no_members, one_less}

-- FLAGS (TR3)

-- whether the flags have a bit, which is a power of two
abbrev pub has_flag : ℕ → ℕ → Bool
has_flag bit flags = flags / bit % 2 == 1

abbrev pub is_resumed : ℕ → Bool
is_resumed flags = has_flag RESUMED flags

-- SYNCS

-- with HAS_PRESENCE a sync of the members opens (RTP19, RTP18); without it there are none (RTP19a)
abbrev pub members_told : Bool → PresenceMap → PresenceMap
members_told true members = opened members
members_told false members = no_members

-- so with the objects, and kept operations are cleared (RTO4)
abbrev pub with_syncs : ℕ → ClientChannel → ClientChannel
with_syncs flags channel =
    record channel {
      members = members_told (has_flag HAS_PRESENCE flags) channel.members;
      objects = attached (has_flag HAS_OBJECTS flags) channel.objects;
    }

-- THE ANSWER THAT IS AWAITED

-- the record after it: the latest run goes on, or a new one begins, by what was asked and told
abbrev pub with_answer : Bool → Bool → ChannelSerial → ClientChannel → ClientChannel
with_answer goes_on resumed told channel =
    record channel {
      held = Some told;
      runs = runs_with goes_on (Answered channel.asked resumed told channel.away) channel.runs;
      away = channel.away && goes_on;
    }

abbrev pub answered : ℕ → ChannelSerial → ClientChannel → ClientChannel
answered flags told channel =
    with_syncs flags
    (with_answer (goes_on_answered channel.asked (is_resumed flags) told channel.runs) (is_resumed flags) told
    (moved event.AttachedTaken (one_less channel)))

-- ONE THAT NOBODY ASKED FOR

-- the record after it, in which the latest run goes on or a new one begins
abbrev pub with_unasked : Option ChannelSerial → Bool → ChannelSerial → ClientChannel → ClientChannel
with_unasked None resumed told channel = channel
with_unasked (Some held) resumed told channel =
    record channel {
      runs = runs_with (goes_on_unasked held resumed told) (Unasked held resumed told) channel.runs;
      away = channel.away && goes_on_unasked held resumed told;
    }

abbrev pub told_unasked : ℕ → ChannelSerial → ClientChannel → ClientChannel
told_unasked flags told channel =
    with_syncs flags (record (with_unasked channel.held (is_resumed flags) told channel) { held = Some told })

-- ANY

-- an ATTACHED: the answer that is awaited, one that nobody asked for, or an answer to what was asked before
abbrev pub attached_got : ℕ → ChannelSerial → ClientChannel → ClientChannel
attached_got flags told channel =
    if takes_attached channel.owed channel.state then answered flags told channel
    else if takes_unasked channel.owed channel.state then told_unasked flags told channel
    else one_less channel

-- it is the answer that is awaited: own members are entered again (RTP17f)
abbrev pub is_answer : ClientChannel → Bool
is_answer channel = takes_attached channel.owed channel.state
