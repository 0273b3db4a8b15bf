use Rattle.std.proofs.Common.{List, ap, ◌∙◌, get_or}
use Rattle.rl_objmodel.specs.Held.{Held}
use Rattle.rl_pool.proofs.Changing.{changed_there}
use Rattle.rl_pool.proofs.changes.change_at.Goals as goal

pub returns-in-Some-clause-ok : goal.returns-in-Some-clause-ok
returns-in-Some-clause-ok c =
    changed_there c.args.now c.args.serial.now c.args.op.now c.args.shelf.now (record { objects = c.apply_at.new.objects; load = c.in-Some.load }) c.args.at c.in_ok-done.done c.in_ok-done.change
    c.load_of-was.result c.load_of-is.result c.index-as_slice-at.result c.index-as_slice-at-2.result
    c.requires.place c.requires.sound c.in_ok-done.ensures.ok
    c.load_of-was.ensures (c.index-as_slice-at.is ∙ ap (λ (xs : List Held). get_or xs c.args.at c.index-as_slice-at.result) c.as_slice.ensures)
    c.load_of-is.ensures (c.index-as_slice-at-2.is ∙ ap (λ (xs : List Held). get_or xs c.args.at c.index-as_slice-at-2.result) c.as_slice-2.ensures)
    c.in-Some.ensures.made
