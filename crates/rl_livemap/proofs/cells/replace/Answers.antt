use Rattle.std.proofs.Common.{ℕ, List, ap, sym, ◌∙◌, get_or}
use Rattle.std.proofs.lemmas.Option.{get_or_from_slice_get}
use Rattle.rl_types.specs.declared.objects.MapCell.{MapCell}
use Rattle.rl_livemap.specs.Stamps.{held_cell}
use Rattle.rl_livemap.proofs.Back.{read_at}
use Rattle.rl_livemap.proofs.cells.replace.Goals as goal

pub returns-clause-before : goal.returns-clause-before
returns-clause-before c = λ d s.
    c.new.ensures
    ∙ ap (held_cell c.index-as_slice-at.result) (c.replace-held.ensures.value ∙ ap (λ (p : List ℕ × MapCell). p.1) (sym (get_or_from_slice_get c.args.cells.now c.args.at c.at_mut-old.result.now d c.at_mut-old.ensures.value)))
    ∙ ap (λ (n : ℕ). held_cell n (get_or c.args.cells.now c.args.at d).1) (read_at c.args.stamps.now c.as_slice.result.now c.args.at c.index-as_slice-at.result s c.as_slice.ensures c.requires.stamp c.index-as_slice-at.is)
