use Rattle.std.proofs.Common.{◌≡◌, ◌++◌}
use Rattle.rl_clientmodel.specs.States.{all_asks}
use Rattle.rl_clientchannels.proofs.channels.ClientChannels.frames_of_all.Given as goal

-- what is there already, and what the channels that are left give
abbrev pub invariant-loop-name : goal.invariant-loop-name
invariant-loop-name l = l.frames ++ all_asks l.step l.name-iterator ≡ all_asks l.step l.self
