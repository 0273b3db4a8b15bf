-- ATTACH, from the directory to ATTACHED.
use Rattle.std.specs.Prelude.{ℕ, ◌+◌, ◌-◌, ◌^◌, min, Bool, false, if◌then◌else◌, List, Option, Some, None}
use Rattle.rl_numbers.specs.declared.codes.TheConstants.{NOT_RETAINED, CHANNEL_LIMIT}
use Rattle.rl_numbers.specs.declared.flags.TheConstants.{HAS_PRESENCE, RESUMED, HAS_OBJECTS}
use Rattle.rl_types.specs.declared.messages.Given.{Given}
use Rattle.rl_types.specs.declared.frames.Frame.TheVariants as frames
use Rattle.rl_pages.specs.State.{new_pages}
use Rattle.rl_actormodel.specs.declared.parts.Asked.{Asked}
use Rattle.rl_actormodel.specs.declared.parts.Session.{Session}
use Rattle.rl_actormodel.specs.declared.parts.Wish.TheVariants as wishes
use Rattle.rl_names.specs.Names.{with_entry}
use Rattle.rl_actormodel.specs.State.{State, wishing, put}
use Rattle.rl_actormodel.specs.Replies.{Joining, Numbering, Has, HasNone, Unnumbered}

-- the channel's number is known from now on, and it is joined; where the directory is full the channel gets an ERROR
-- (RTL14; the code is this project's own)
abbrev pub attach_at : Asked → Numbering → ℕ → State → State
attach_at asked (Has number) now s = record s { wish = wishes.Join asked number; numbers = with_entry asked.channel number s.numbers }
attach_at asked HasNone now s = put (frames.Error (Some asked.channel) CHANNEL_LIMIT) now (wishing wishes.Nothing s)
attach_at asked Unnumbered now s = s

-- ATTACHED says that a serial was asked for from which the session does not go on. (This project's own.)
abbrev pub attach_code : Option Given → Bool → Option ℕ
attach_code (Some asked) false = Some NOT_RETAINED
attach_code asked resumed = None

-- a flag that is set exactly where this holds (TR3)
abbrev pub flag : Bool → ℕ → ℕ
flag holds bit = if holds then bit else 0

-- the flags of ATTACHED: members may be there, the session goes on from the serial, objects may be there (TR3)
abbrev pub flags_of : Joining → ℕ
flags_of j = flag j.presence HAS_PRESENCE + flag j.resumed RESUMED + flag j.objects HAS_OBJECTS

-- the number of the sync of the next ATTACHED: they count from 1, and the count stands still at its type's end. (This
-- project's own.)
abbrev pub next_sequence : State → ℕ
next_sequence s = min (s.sequence + 1) (2 ^ 64 - 1)

-- a session begins at the place told, with the pages of what may be there (RTL4, RTP18, RTO5)
abbrev pub new_session : List ℕ → ℕ → Joining → ℕ → Session
new_session channel number j sequence = record {
  number = number;
  epoch = j.serial.epoch;
  position = j.serial.place;
  pages = new_pages channel sequence j.presence j.objects;
}

-- the channel was joined: ATTACHED is put out, and a session begins in place of one that the channel may have had (RTL4)
abbrev pub joined_by : Asked → ℕ → Option Joining → ℕ → State → State
joined_by asked number None now s = s
joined_by asked number (Some j) now s =
    put (frames.Attached asked.channel j.serial (flags_of j) (attach_code asked.serial j.resumed)) now
    (record s {
      wish = wishes.Nothing;
      sequence = next_sequence s;
      sessions = with_entry asked.channel (new_session asked.channel number j (next_sequence s)) s.sessions;
    })
