-- A put, from Begin to ACK or NACK.
use Rattle.std.specs.Prelude.{ℕ, Option, Some, None}
use Rattle.rl_numbers.specs.declared.codes.TheConstants.{CHANNEL_LIMIT}
use Rattle.rl_types.specs.declared.frames.Frame.TheVariants as frames
use Rattle.rl_events.specs.declared.channel.Outcome.{Outcome}
use Rattle.rl_events.specs.declared.channel.Outcome.TheVariants.{Taken, Refused}
use Rattle.rl_events.specs.declared.channel.Verdict.{Verdict}
use Rattle.rl_events.specs.declared.calls.End.TheVariants as ends
use Rattle.rl_actormodel.specs.declared.parts.Publish.{Publish}
use Rattle.rl_actormodel.specs.declared.parts.Holder.{Holder}
use Rattle.rl_actormodel.specs.declared.parts.Wish.{Wish}
use Rattle.rl_actormodel.specs.declared.parts.Wish.TheVariants as wishes
use Rattle.rl_names.specs.Names.{at, with_entry}
use Rattle.rl_actormodel.specs.State.{State, wishing, put}
use Rattle.rl_actormodel.specs.Ends.{ended_by}
use Rattle.rl_actormodel.specs.Replies.{Beginning, Overtaken, Missing, Knows, Above, Below, Goes, Unbegun, Numbering, Has, HasNone, Unnumbered, outcome_of}

-- the put is acknowledged: ACK where it was taken, NACK where it was refused, nothing where it was old (RTN7a)
abbrev pub settled : Publish → Option Outcome → ℕ → State → State
settled p None now s = wishing wishes.Nothing s
settled p (Some (Taken place)) now s = put (frames.Ack p.serial 1) now (wishing wishes.Nothing s)
settled p (Some (Refused code)) now s = put (frames.Nack p.serial 1 code) now (wishing wishes.Nothing s)

-- the directory is asked for a channel's number, and is not asked again for one that is known. (This project's own.)
abbrev pub put_wish : Publish → Holder → Option ℕ → Wish
put_wish p holder None = wishes.AskToPut p holder
put_wish p holder (Some number) = wishes.Put p holder number

-- what the book says of the put's serial: it goes on; it has ended before, and is acknowledged as then (RTN19a); or the
-- actor ends. (The codes are this project's own)
abbrev pub begun_by : Publish → Holder → Beginning → ℕ → State → State
begun_by p holder (Overtaken newer) now s = ended_by (ends.Superseded holder.generation newer) s
begun_by p holder Missing now s = ended_by ends.Forgotten s
begun_by p holder (Knows outcome) now s = settled p (Some outcome) now s
begun_by p holder (Above got expected) now s = ended_by (ends.SerialGap got expected) s
begun_by p holder (Below got expected) now s = ended_by (ends.SerialOld got expected) s
begun_by p holder Goes now s = wishing (put_wish p holder (at p.channel s.numbers)) s
begun_by p holder Unbegun now s = s

-- the channel's number is known from now on, and it is put there; where the directory is full the put is refused. (This
-- project's own.)
abbrev pub put_at : Publish → Holder → Numbering → State → State
put_at p holder (Has number) s = record s { wish = wishes.Put p holder number; numbers = with_entry p.channel number s.numbers }
put_at p holder HasNone s = wishing (wishes.Finish p holder (Some (Refused CHANNEL_LIMIT))) s
put_at p holder Unnumbered s = s

-- the channel took the put, refused it, or knew it as old; the book is told (RTN7a)
abbrev pub put_by : Publish → Holder → Option Verdict → State → State
put_by p holder (Some verdict) s = wishing (wishes.Finish p holder (outcome_of verdict)) s
put_by p holder None s = s
