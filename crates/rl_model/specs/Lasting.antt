-- The objects of every channel's log last: what the rules let pass may follow, so a channel that keeps its objects judges
-- operations as the definitions judge them by the whole log.
use Rattle.std.specs.Prelude.{ℕ, suc, List, ◌∷◌}
use Rattle.rl_events.specs.declared.channel.ChannelEvent.{ChannelEvent}
use Rattle.rl_types.specs.declared.objects.ObjectOp.{ObjectOp}
use Rattle.rl_objmodel.specs.Rules.{serial_at}
use Rattle.rl_objmodel.specs.Following.{MayFollow}
use Rattle.rl_objmodel.specs.Lasting.{Lasts}
use Rattle.rl_model.specs.History.{clock, setting}
use Rattle.rl_model.specs.Objects.{operated}
use Rattle.rl_model.specs.Verdict.{log, head}

-- the objects of a channel's log last, up to its clock and below the serials of its next entry
abbrev pub LogsLast : Type 0
LogsLast = (site : List ℕ) (past : List ChannelEvent) → Lasts (clock past) (serial_at site (suc (head site past)) 0) (operated (log site past))

-- the operations of a next event may follow those of the log
abbrev pub PutsFollow : Type 0
PutsFollow = (site : List ℕ) (past : List ChannelEvent) (event : ChannelEvent) (ops : List ObjectOp)
    → MayFollow (setting site (event ∷ past)) (suc (head site past)) 0 (operated (log site past)) ops
