use Rattle.std.proofs.Common.{◌≡◌}
use Rattle.serde_json.specs.View.{members_view}
use Rattle.rl_jsonfields.specs.Fields.{each_member}
use Rattle.rl_jsonfields.proofs.Each.{with_front}
use Rattle.rl_wireobj.proofs.members.read_members.Given as goal

-- what was read before, and what is still read
abbrev pub invariant-loop-key : goal.invariant-loop-key
invariant-loop-key g l = with_front l.found (each_member g.T.FromMember.read_at (members_view l.key-iterator)) ≡ each_member g.T.FromMember.read_at (members_view l.members.entries)
