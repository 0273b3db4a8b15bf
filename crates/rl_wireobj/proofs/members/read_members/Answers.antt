use Rattle.std.proofs.lemmas.Result.{err_from_is_err_and}
use Rattle.serde_json.specs.View.{members_view}
use Rattle.rl_jsonfields.specs.Fields.{each_member}
use Rattle.rl_jsonfields.proofs.Members.{goes_on, ends, done}
use Rattle.rl_wireobj.proofs.members.read_members.Goals as goal

pub returns-in_err-one : goal.returns-in_err-one
returns-in_err-one g c =
    let p = err_from_is_err_and c.from_residual.result c.from_residual.ensures.1 in
    rw (p.1, p.2) (ends g.T.FromMember.read_at c.loop-key.found c.loop-key.key-iterator c.next.new.self (c.in-Some.key.now, c.in-Some.value.now) c.in_err-one.field-0.0 (each_member g.T.FromMember.read_at (members_view c.args.members.now.entries)) c.in-Some.ensures.steps (rw c.as_str.ensures.value at c.in_err-one.ensures) c.loop-key.invariant)

pub loop-key-preserved : goal.loop-key-preserved
loop-key-preserved g c =
    rw (c.in_ok-push.ensures.ok) (goes_on g.T.FromMember.read_at c.loop-key.found c.loop-key.key-iterator c.next.new.self (c.in-Some.key.now, c.in-Some.value.now) c.in_ok-one.one (each_member g.T.FromMember.read_at (members_view c.args.members.now.entries)) c.in-Some.ensures.steps (rw c.as_str.ensures.value at c.in_ok-one.ensures) c.loop-key.invariant)

pub returns : goal.returns
returns g c = done g.T.FromMember.read_at c.loop-key.found c.loop-key.key-iterator (each_member g.T.FromMember.read_at (members_view c.args.members.now.entries)) c.in-None.ensures.steps.0 c.loop-key.invariant
