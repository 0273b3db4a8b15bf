use Rattle.std.proofs.Common.{ℕ, List, ap, sym, ◌∙◌}
use Rattle.std.specs.List.{list_any}
use Rattle.rl_ids.specs.declared.objects.MapValue.{MapValue}
use Rattle.rl_types.specs.declared.objects.Op.{Op}
use Rattle.rl_objmodel.specs.Operations.{keys_of}
use Rattle.rl_objmodel.specs.Rules.{is_long_text}
use Rattle.rl_objrules.proofs.Lists.{any_map}
use Rattle.rl_objrules.proofs.rules.names_long_key.Goals as goal

pub returns-in-MapCreate : goal.returns-in-MapCreate
returns-in-MapCreate c =
    c.has_long_key.ensures
    ∙ ap (λ (xs : List (List ℕ × MapValue)). list_any (λ (entry : List ℕ × MapValue). is_long_text entry.0) xs) c.as_slice.ensures
    ∙ any_map is_long_text (λ (entry : List ℕ × MapValue). entry.0) c.in-MapCreate.entries
    ∙ ap (λ (op : Op). list_any is_long_text (keys_of op)) (sym c.in-MapCreate.is)
