use Rattle.std.proofs.Common.{◌≡◌, ◌++◌, take, map}
use Rattle.rl_model.specs.Limits.{IsChannelName}
use Rattle.rl_model.specs.Records.{got_of}
use Rattle.rl_world.specs.Travels.{AreSmallEntries}
use Rattle.rl_world.proofs.records.get_all.Given as goal

-- the entries so far are got
abbrev pub invariant-loop-entry : goal.invariant-loop-entry
invariant-loop-entry l =
    IsChannelName l.channel → AreSmallEntries l.entries → l.segment ≡ record l.initial.segment { got = l.initial.segment.got ++ map got_of (take l.entry-index l.entries) }
