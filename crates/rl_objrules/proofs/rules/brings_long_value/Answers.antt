use Rattle.std.proofs.Common.{ℕ, List, ap, sym, ◌∙◌}
use Rattle.std.specs.List.{list_any}
use Rattle.rl_ids.specs.declared.objects.MapValue.{MapValue}
use Rattle.rl_types.specs.declared.objects.Op.{Op}
use Rattle.rl_objmodel.specs.Operations.{values_of}
use Rattle.rl_objmodel.specs.Rules.{is_long_value}
use Rattle.rl_objrules.proofs.Lists.{any_map}
use Rattle.rl_objrules.proofs.rules.brings_long_value.Goals as goal

pub returns-in-MapCreate : goal.returns-in-MapCreate
returns-in-MapCreate c =
    c.has_long_value.ensures
    ∙ ap (λ (xs : List (List ℕ × MapValue)). list_any (λ (entry : List ℕ × MapValue). is_long_value entry.1) xs) c.as_slice.ensures
    ∙ any_map is_long_value (λ (entry : List ℕ × MapValue). entry.1) c.in-MapCreate.entries
    ∙ ap (λ (op : Op). list_any is_long_value (values_of op)) (sym c.in-MapCreate.is)
