-- How an actor ends.
use Rattle.std.specs.Prelude.{◌++◌, Option, Some, None, option_to_list}
use Rattle.rl_numbers.specs.declared.codes.TheConstants.{BAD_FRAME, SERIAL_GAP, SERIAL_OLD, SUPERSEDED, LAGGED, CONNECTION_LIMIT, IDLE}
use Rattle.rl_types.specs.declared.frames.Frame.{Frame}
use Rattle.rl_types.specs.declared.frames.Frame.TheVariants as frames
use Rattle.rl_events.specs.declared.calls.End.{End}
use Rattle.rl_events.specs.declared.calls.End.TheVariants as ends
use Rattle.rl_actormodel.specs.declared.parts.Wish.{Wish}
use Rattle.rl_actormodel.specs.declared.parts.Wish.TheVariants as wishes
use Rattle.rl_actormodel.specs.declared.parts.Holder.{Holder}
use Rattle.rl_actormodel.specs.State.{State}

-- the DISCONNECTED that tells of an end, with the end's code: for no end by the client's CLOSE, by the link or for want
-- of memory, and without a code where the service stops (RTN15h; the codes are this project's own)
abbrev pub farewell : End → Option Frame
farewell ends.Closed = None
farewell ends.LinkEnded = None
farewell ends.LinkFault = None
farewell (ends.Superseded mine newer) = Some (frames.Disconnected (Some SUPERSEDED))
farewell ends.Forgotten = Some (frames.Disconnected (Some SUPERSEDED))
farewell (ends.Lagged position first) = Some (frames.Disconnected (Some LAGGED))
farewell (ends.BadFrame bytes) = Some (frames.Disconnected (Some BAD_FRAME))
farewell (ends.SerialGap got expected) = Some (frames.Disconnected (Some SERIAL_GAP))
farewell (ends.SerialOld got expected) = Some (frames.Disconnected (Some SERIAL_OLD))
farewell (ends.Idle last now) = Some (frames.Disconnected (Some IDLE))
farewell ends.Stopped = Some (frames.Disconnected None)
farewell (ends.ConnectionLimit count given) = Some (frames.Disconnected (Some CONNECTION_LIMIT))
farewell ends.NoMemory = None

-- the book is told of the loss of a connection; of none where there is none yet (RTN15a)
abbrev pub lost_wish : Option Holder → Wish
lost_wish None = wishes.Nothing
lost_wish (Some holder) = wishes.Lost holder

-- it is told at each end but those by which the connection is no longer the actor's. (This project's own.)
abbrev pub last_wish : End → Option Holder → Wish
last_wish ends.Closed holder = wishes.Nothing
last_wish (ends.Superseded mine newer) holder = wishes.Nothing
last_wish ends.Forgotten holder = wishes.Nothing
last_wish (ends.ConnectionLimit count given) holder = wishes.Nothing
last_wish why holder = lost_wish holder

-- an actor that ends: what it wanted is given up, and the farewell waits behind all else. (This project's own.)
abbrev pub ended_by : End → State → State
ended_by why s = record s {
  wish = last_wish why s.holder;
  waiting = s.waiting ++ option_to_list (farewell why);
  ended = Some why;
}

-- an actor that has ended does not end again. (This project's own.)
abbrev pub over_at : Option End → End → State → State
over_at None why s = ended_by why s
over_at (Some end) why s = s

-- the link is over, or the service stops. (This project's own.)
abbrev pub over : End → State → State
over why s = over_at s.ended why s
