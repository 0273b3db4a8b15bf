-- What an entry and a page make of a channel (RTL15b, RTP2, RTP18, RTO5, RTO7, RTO8).
use Rattle.std.specs.Prelude.{ℕ, zero, suc, Bool, true, false, not, if◌then◌else◌, List, [], ◌∷◌, filter, is_some, Option, Some, None}
use Rattle.rl_ids.specs.declared.serials.ChannelSerial.{ChannelSerial}
use Rattle.rl_types.specs.declared.frames.Cursor.{Cursor}
use Rattle.rl_types.specs.declared.messages.Body.{Body}
use Rattle.rl_types.specs.declared.messages.Body.TheVariants.{Messages, Presence, Objects}
use Rattle.rl_types.specs.declared.objects.ObjectOp.{ObjectOp}
use Rattle.rl_types.specs.declared.objects.ObjectState.{ObjectState}
use Rattle.rl_types.specs.declared.presence.PresenceItem.{PresenceItem}
use Rattle.rl_types.specs.declared.states.ChanState.{ChanState}
use Rattle.rl_types.specs.declared.states.ChanState.TheVariants as chan
use Rattle.rl_presmap.specs.Steps as members
use Rattle.rl_objsync.specs.Steps as objects
use Rattle.rl_clientmodel.specs.declared.runs.Beginning.TheVariants.{Skipped}
use Rattle.rl_clientmodel.specs.declared.runs.Run.{Run}
use Rattle.rl_clientmodel.specs.Runs.{follows, got_onto, runs_with}
use Rattle.rl_clientmodel.specs.Channels.{ClientChannel}

-- AN ENTRY

-- the record before the entry is got: at the place after the serial held the latest run goes on, at another one a run
-- begins at the place before it
abbrev pub runs_before : Option ChannelSerial → ℕ → ChannelSerial → List Run → List Run
runs_before None before told runs = runs
runs_before (Some held) before told runs = runs_with (follows held before told.epoch) (Skipped held told) runs

-- whether one begins
abbrev pub skips : Option ChannelSerial → ℕ → ChannelSerial → Bool
skips None before told = false
skips (Some held) before told = not (follows held before told.epoch)

-- an operation without a serial is not given to the object sync (this project's own)
abbrev pub has_serial : ObjectOp → Bool
has_serial op = is_some op.serial

-- members and objects after an entry
abbrev pub with_body : Body → ℕ → ClientChannel → ClientChannel
with_body (Messages items) now channel = channel
with_body (Presence items) now channel = record channel { members = members.all_applied items channel.members }
with_body (Objects ops) now channel = record channel { objects = objects.ops_taken (filter has_serial ops) now channel.objects }

-- the record with it
abbrev pub with_entry_got : ℕ → ChannelSerial → Body → ClientChannel → ClientChannel
with_entry_got before told body channel =
    record channel {
      held = Some told;
      runs = got_onto (told.place, body) (runs_before channel.held before told channel.runs);
      away = if skips channel.held before told then false else channel.away;
    }

-- in ATTACHED alone
abbrev pub got_in : ChanState → ℕ → ChannelSerial → Body → ℕ → ClientChannel → ClientChannel
got_in chan.Attached before told body now channel = with_body body now (with_entry_got before told body channel)
got_in state before told body now channel = channel

-- an entry at place 0 changes nothing
abbrev pub got_at : ℕ → ChannelSerial → Body → ℕ → ClientChannel → ClientChannel
got_at zero told body now channel = channel
got_at (suc before) told body now channel = got_in channel.state before told body now channel

-- nor does one without a serial
abbrev pub entry_got : Option ChannelSerial → Body → ℕ → ClientChannel → ClientChannel
entry_got None body now channel = channel
entry_got (Some told) body now channel = got_at told.place told body now channel

-- A PAGE. In ATTACHED alone

abbrev pub page_in : ChanState → Option Cursor → List PresenceItem → ClientChannel → ClientChannel
page_in chan.Attached at items channel = record channel { members = members.page_taken at items channel.members }
page_in state at items channel = channel

abbrev pub page_got : Option Cursor → List PresenceItem → ClientChannel → ClientChannel
page_got at items channel = page_in channel.state at items channel

abbrev pub object_page_in : ChanState → Option Cursor → List ObjectState → ℕ → ClientChannel → ClientChannel
object_page_in chan.Attached at states now channel = record channel { objects = objects.page_taken at states now channel.objects }
object_page_in state at states now channel = channel

abbrev pub object_page_got : Option Cursor → List ObjectState → ℕ → ClientChannel → ClientChannel
object_page_got at states now channel = object_page_in channel.state at states now channel
