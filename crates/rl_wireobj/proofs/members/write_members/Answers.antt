use Rattle.std.proofs.Common.{◌≡◌, ◌-◌, ap, ◌∙◌, length, drop, arith}
use Rattle.serde_json.specs.View.{members_view}
use Rattle.rl_jsonfields.specs.Texts.{member_of_each}
use Rattle.rl_jsonfields.proofs.Members.{one_more, none_yet}
use Rattle.rl_wireobj.proofs.members.write_members.Goals as goal

pub loop-i-init : goal.loop-i-init
loop-i-init g c = none_yet g.T.ToMember.key_of g.T.ToMember.json_of c.args.items.now _ (length c.args.items.now - 0) (omega arith) (ap members_view c.new-members.ensures.empty)

pub loop-i-preserved : goal.loop-i-preserved
loop-i-preserved g c =
    let now = rw (c.key.ensures, c.in_ok-value.ensures) at c.in_ok-put.ensures.ok in
    one_more g.T.ToMember.key_of g.T.ToMember.json_of c.args.items.now c.loop-i.i c.index-items-count.result (members_view c.loop-i.members.entries) (members_view c.put.new.map.entries) c.loop-i-test.true c.index-items-count.is c.loop-i.invariant now

pub returns : goal.returns
returns g c =
    let k : length c.args.items.now - c.loop-i.i ≡ 0 = omega arith in
    c.loop-i.invariant ∙ ap (λ n. member_of_each g.T.ToMember.key_of g.T.ToMember.json_of (drop n c.args.items.now)) k
