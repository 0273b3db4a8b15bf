use Rattle.std.proofs.Common.{ap, ap₂, ◌∙◌, ◌++◌}
use Rattle.uuid.specs.Text.{hyphenated_text, lower}
use Rattle.rl_ids.proofs.Uuids.{uuid_text}
use Rattle.rl_ids.proofs.epochs.number_code.Goals as goal

pub returns : goal.returns
returns c =
    c.push_str.ensures
    ∙ ap₂ (λ x y. x ++ y) c.new-code.ensures
    (c.encode_lower.ensures.text ∙ ap (hyphenated_text lower) (c.hyphenated-id.ensures ∙ c.from_u128.ensures) ∙ uuid_text c.args.number)
