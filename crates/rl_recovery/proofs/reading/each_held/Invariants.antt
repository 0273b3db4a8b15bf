use Rattle.std.proofs.Common.{◌≡◌}
use Rattle.serde_json.specs.View.{members_view}
use Rattle.rl_jsonfields.specs.Fields.{each_member}
use Rattle.rl_jsonfields.proofs.Each.{with_front}
use Rattle.rl_recovery.specs.Keys.{held_at}
use Rattle.rl_recovery.proofs.reading.each_held.Given as goal

-- what was read before, and what is still read
abbrev pub invariant-loop-name : goal.invariant-loop-name
invariant-loop-name l = with_front l.found (each_member held_at (members_view l.name-iterator)) ≡ each_member held_at (members_view l.members.entries)
