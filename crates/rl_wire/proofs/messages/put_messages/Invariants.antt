use Rattle.std.proofs.Common.{take}
use Rattle.rl_wire.specs.Tokens.{Adds, messages_tokens}
use Rattle.rl_wire.proofs.messages.put_messages.Given as goal

-- what was written is the messages so far
abbrev pub invariant-loop-item : goal.invariant-loop-item
invariant-loop-item l = Adds l.initial.out l.out (messages_tokens (take l.item-index l.items))
