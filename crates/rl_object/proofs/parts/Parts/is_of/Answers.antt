use Rattle.std.proofs.Common.{ap, ◌∙◌}
use Rattle.rl_objmodel.specs.Steps.{is_held_as}
use Rattle.rl_object.proofs.Backward.{text_is}
use Rattle.rl_object.proofs.parts.Parts.is_of.Goals as goal

pub returns : goal.returns
returns c = λ id h.
    c.eq.ensures
    ∙ text_is id c.self.inside.id c.args.text.now c.as_str.result.now h (c.as_str.ensures.value ∙ c.self.invariant.spelled)
    ∙ ap (is_held_as id) c.self.view_is
