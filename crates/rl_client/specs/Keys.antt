-- Which recovery keys a client gives, and may be given.
use Rattle.std.specs.Prelude.{◌≤◌}
use Rattle.rl_numbers.specs.declared.limits.TheConstants.{MAX_MESSAGE_SERIAL}
use Rattle.rl_runs.specs.declared.commands.RecoveryKey.{RecoveryKey}
use Rattle.rl_clientchannels.specs.Changes.{AreNames}

-- the next frame's serial has 53 bits, and the names of the channels rise
abbrev pub MayBeTaken : RecoveryKey → Type 0
MayBeTaken key = (key.next ≤ MAX_MESSAGE_SERIAL) × AreNames key.serials
