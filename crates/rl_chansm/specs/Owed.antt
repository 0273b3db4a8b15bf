-- Answers that a channel is owed: to each ATTACH and DETACH one. The last one counts, since the others answer what was
-- asked before. (This project's own.)
use Rattle.std.specs.Prelude.{ℕ, ◌+◌, ◌-◌, ◌^◌, min, Bool, true, false, ◌&&◌, ◌==◌, nat_lt, if◌then◌else◌}
use Rattle.rl_types.specs.declared.states.ChanState.{ChanState}
use Rattle.rl_types.specs.declared.states.ChanState.TheVariants as chan
use Rattle.rl_chansm.specs.Rules.{is_attached}

-- THE COUNT

-- one more was asked for; the count stands still at its type's end
abbrev pub raised : ℕ → ℕ
raised owed = min (owed + 1) (2 ^ 64 - 1)

-- one came; a count at its type's end is none any more
abbrev pub lowered : ℕ → ℕ
lowered owed = if nat_lt owed (2 ^ 64 - 1) then owed - 1 else owed

-- an answer that was owed, and the last one
abbrev pub is_last : ℕ → Bool
is_last owed = nat_lt 0 owed && (lowered owed == 0)

-- WHICH ANSWER A STATE AWAITS

-- ATTACHED (RTL4c)
abbrev pub awaits_attached : ChanState → Bool
awaits_attached chan.Attaching = true
awaits_attached state = false

-- DETACHED (RTL5d)
abbrev pub awaits_detached : ChanState → Bool
awaits_detached chan.Detaching = true
awaits_detached state = false

-- an ERROR that names the channel (RTL14)
abbrev pub takes_errors : ChanState → Bool
takes_errors chan.Attaching = true
takes_errors chan.Attached = true
takes_errors chan.Detaching = true
takes_errors state = false

-- WHAT A FRAME IS, WHERE SO MANY ANSWERS ARE OWED BEFORE IT

-- an ATTACHED is taken as the answer that is awaited
abbrev pub takes_attached : ℕ → ChanState → Bool
takes_attached owed state = is_last owed && awaits_attached state

-- a DETACHED is taken as the answer that is awaited
abbrev pub takes_detached : ℕ → ChanState → Bool
takes_detached owed state = is_last owed && awaits_detached state

-- an ERROR is taken, owed or not, where no answer is owed after it
abbrev pub takes_error : ℕ → ChanState → Bool
takes_error owed state = (lowered owed == 0) && takes_errors state

-- an ATTACHED or DETACHED that nobody asked for acts on an ATTACHED channel alone (RTL12, RTL13a)
abbrev pub takes_unasked : ℕ → ChanState → Bool
takes_unasked owed state = (owed == 0) && is_attached state
