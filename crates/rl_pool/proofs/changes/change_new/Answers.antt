use Rattle.std.proofs.Common.{◌≡◌, ap, ◌∙◌}
use Rattle.rl_objmodel.specs.Held.{shown}
use Rattle.rl_objmodel.specs.Rules.{is_heavy}
use Rattle.rl_objmodel.specs.Steps.{new_held}
use Rattle.rl_pool.specs.declared.changes.Effect.{Effect}
use Rattle.rl_pool.specs.Changes.{added_effect, IsChanged}
use Rattle.rl_pool.proofs.Changing.{changed_new, range_new, skipped_new, when_ok}
use Rattle.rl_pool.proofs.changes.change_new.Goals as goal

pub returns-in-Applied-clause-ok : goal.returns-in-Applied-clause-ok
returns-in-Applied-clause-ok c =
    let object = c.apply_made.new.object in
    when_ok (IsChanged c.args.now c.args.serial.now c.args.op.now c.args.shelf.now c.add_at.new.shelf) (λ (effect : Effect). effect ≡ added_effect c.args.at (is_heavy (shown object)))
    c.add_at.result c.add_at.ensures.ok c.add_at.ensures.load c.add_at.ensures.effect
    (λ step load effect is.
    changed_new c.args.now c.args.serial.now c.args.op.now c.args.shelf.now c.add_at.new.shelf c.args.at c.in_ok-object.object object c.in_ok-apply_made.field-0 effect
    c.requires.place
    c.requires.sound
    (c.in_ok-object.ensures ∙ ap new_held c.target_of.ensures)
    c.in_ok-apply_made.ensures.outcome
    c.in-Applied.is
    c.in_ok-apply_made.ensures.step
    step
    load
    is)

pub returns-in-Skipped-clause-ok : goal.returns-in-Skipped-clause-ok
returns-in-Skipped-clause-ok c =
    skipped_new c.args.now c.args.serial.now c.args.op.now c.args.shelf.now c.args.at c.in_ok-object.object c.in_ok-apply_made.field-0 c.refused.result
    c.requires.place
    c.requires.sound
    (c.in_ok-object.ensures ∙ ap new_held c.target_of.ensures)
    c.in_ok-apply_made.ensures.outcome
    c.in-Skipped.is
    c.refused.ensures

pub returns-in-Range-clause-ok : goal.returns-in-Range-clause-ok
returns-in-Range-clause-ok c =
    range_new c.args.now c.args.serial.now c.args.op.now c.args.shelf.now c.args.at c.in_ok-object.object c.in_ok-apply_made.field-0 c.refused-in-Range.result
    c.requires.place
    c.requires.sound
    (c.in_ok-object.ensures ∙ ap new_held c.target_of.ensures)
    c.in_ok-apply_made.ensures.outcome
    c.in-Range.is
    c.refused-in-Range.ensures
