use Rattle.std.proofs.Common.{◌≡◌, ◌-◌, ap, ◌∙◌, length, drop, arith}
use Rattle.serde_json.specs.View.{members_view}
use Rattle.rl_jsonfields.specs.Texts.{member_of_each}
use Rattle.rl_jsonfields.proofs.Members.{one_more, none_yet}
use Rattle.rl_recovery.specs.Keys.{name_of, serial_json}
use Rattle.rl_recovery.proofs.writing.serial_members.Goals as goal

pub loop-i-init : goal.loop-i-init
loop-i-init c = none_yet name_of serial_json c.args.serials.now _ (length c.args.serials.now - 0) (omega arith) (ap members_view c.new-members.ensures.empty)

pub loop-i-preserved : goal.loop-i-preserved
loop-i-preserved c =
    let now = rw (c.as_str.ensures, c.in_ok-value.ensures) at c.in_ok-put.ensures.ok in
    one_more name_of serial_json c.args.serials.now c.loop-i.i c.index-serials-count.result (members_view c.loop-i.members.entries) (members_view c.put.new.map.entries) c.loop-i-test.true c.index-serials-count.is c.loop-i.invariant now

pub returns : goal.returns
returns c =
    let k : length c.args.serials.now - c.loop-i.i ≡ 0 = omega arith in
    c.loop-i.invariant ∙ ap (λ n. member_of_each name_of serial_json (drop n c.args.serials.now)) k
