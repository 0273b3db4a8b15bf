use Rattle.std.proofs.Common.{◌≡◌, ◌++◌}
use Rattle.std.specs.Prelude.{filter_map}
use Rattle.rl_clientmodel.specs.Keys.{serial_held}
use Rattle.rl_clientchannels.proofs.channels.ClientChannels.serials.Given as goal

-- what is there already, and what the channels that are left give
abbrev pub invariant-loop-name : goal.invariant-loop-name
invariant-loop-name l = l.serials ++ filter_map serial_held l.name-iterator ≡ filter_map serial_held l.self
