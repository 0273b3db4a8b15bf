use Rattle.std.proofs.lemmas.Result.{err_from_is_err_and}
use Rattle.serde_json.specs.View.{members_view}
use Rattle.rl_jsonfields.specs.Fields.{each_member}
use Rattle.rl_jsonfields.proofs.Members.{goes_on, ends, done}
use Rattle.rl_recovery.specs.Keys.{held_at}
use Rattle.rl_recovery.proofs.reading.each_held.Goals as goal

pub returns-in_err-one : goal.returns-in_err-one
returns-in_err-one c =
    let p = err_from_is_err_and c.from_residual.result c.from_residual.ensures.1 in
    rw (p.1, p.2) (ends held_at c.loop-name.found c.loop-name.name-iterator c.next.new.self (c.in-Some.name.now, c.in-Some.value.now) c.in_err-one.field-0.0 (each_member held_at (members_view c.args.members.now.entries)) c.in-Some.ensures.steps (rw c.as_str.ensures.value at c.in_err-one.ensures) c.loop-name.invariant)

pub loop-name-preserved : goal.loop-name-preserved
loop-name-preserved c =
    rw (c.in_ok-push.ensures.ok) (goes_on held_at c.loop-name.found c.loop-name.name-iterator c.next.new.self (c.in-Some.name.now, c.in-Some.value.now) c.in_ok-one.one (each_member held_at (members_view c.args.members.now.entries)) c.in-Some.ensures.steps (rw c.as_str.ensures.value at c.in_ok-one.ensures) c.loop-name.invariant)

pub returns : goal.returns
returns c = done held_at c.loop-name.found c.loop-name.name-iterator (each_member held_at (members_view c.args.members.now.entries)) c.in-None.ensures.steps.0 c.loop-name.invariant
