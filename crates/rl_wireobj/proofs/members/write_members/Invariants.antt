use Rattle.std.proofs.Common.{◌≡◌, ◌-◌, length, drop}
use Rattle.serde_json.specs.View.{members_view}
use Rattle.rl_jsonfields.specs.Texts.{member_of_each}
use Rattle.rl_wireobj.proofs.members.write_members.Given as goal

-- the last i of them are written
abbrev pub invariant-loop-i : goal.invariant-loop-i
invariant-loop-i g l = members_view l.members.entries ≡ member_of_each g.T.ToMember.key_of g.T.ToMember.json_of (drop (length l.items - l.i) l.items)
