use Rattle.std.proofs.Common.{◌≡◌, map, take}
use Rattle.rl_clientmodel.specs.Keys.{channel_of_serial}
use Rattle.rl_clientchannels.proofs.channels.ClientChannels.from_serials.Given as goal

-- the channels of the serials so far
abbrev pub invariant-loop-one : goal.invariant-loop-one
invariant-loop-one l = l.channels ≡ map channel_of_serial (take l.one-index l.serials)
