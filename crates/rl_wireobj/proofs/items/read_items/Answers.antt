use Rattle.std.proofs.lemmas.Result.{err_from_is_err_and}
use Rattle.serde_json.specs.View.{items_view}
use Rattle.rl_jsonfields.specs.Fields.{each}
use Rattle.rl_jsonfields.proofs.Each.{goes_at, ends_at, done_at}
use Rattle.rl_wireobj.proofs.items.read_items.Goals as goal

pub returns-in_err-one : goal.returns-in_err-one
returns-in_err-one g c =
    let p = err_from_is_err_and c.from_residual.result c.from_residual.ensures.1 in
    rw (p.1, p.2) (ends_at g.T.FromItem.item_at c.loop-value.found c.args.values.now c.loop-value.value-index c.value-item.result c.in_err-one.field-0.0 (each g.T.FromItem.item_at (items_view c.args.values.now)) c.loop-value-test.true c.value-item.is c.in_err-one.ensures c.loop-value.invariant)

pub loop-value-preserved : goal.loop-value-preserved
loop-value-preserved g c =
    rw c.in_ok-push.ensures.ok (goes_at g.T.FromItem.item_at c.loop-value.found c.args.values.now c.loop-value.value-index c.value-item.result c.in_ok-one.one (each g.T.FromItem.item_at (items_view c.args.values.now)) c.loop-value-test.true c.value-item.is c.in_ok-one.ensures c.loop-value.invariant)

pub returns : goal.returns
returns g c = done_at g.T.FromItem.item_at c.loop-value.found c.args.values.now c.loop-value.value-index (each g.T.FromItem.item_at (items_view c.args.values.now)) c.loop-value-test.false c.loop-value.invariant
