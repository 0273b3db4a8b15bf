use Rattle.std.proofs.Common.{◌≡◌, ◌++◌, map}
use Rattle.rl_clientmodel.specs.Shown.{view_of}
use Rattle.rl_clientchannels.proofs.channels.ClientChannels.views.Given as goal

-- what is there already, and what the channels that are left give
abbrev pub invariant-loop-name : goal.invariant-loop-name
invariant-loop-name l = l.views ++ map view_of l.name-iterator ≡ map view_of l.self
