use Rattle.std.proofs.Common.{ℕ, List, [], ◌∷◌, ◌++◌, length, ap, sym, ◌∙◌}
use Rattle.rl_directory.specs.Directory.{number_of}
use Rattle.rl_directory.proofs.Keeping.{stay_numbers}
use Rattle.rl_directory.proofs.directory.Directory.add.Goals as goal

-- the new name has the next number, each other one its own
pub invariant_of-self-2 : goal.invariant_of-self-2
invariant_of-self-2 c =
    let view = c.self.view_is in
    let new = ap (λ (names : List (List ℕ)). number_of c.args.name names) view ∙ c.requires.new in
    let next = c.requires.next ∙ ap (λ (names : List (List ℕ)). length names) (sym view) in
    let pushed = c.push_reserved.ensures.items ∙ ap (λ (names : List (List ℕ)). names ++ c.args.name ∷ []) c.reserve.ensures.items in
    stay_numbers c.self.inside.names.items c.push_reserved.new.self.items c.args.name c.in_ok-key.key c.args.number c.self.inside.numbers.entries c.insert.new.self.entries
    c.self.invariant new next c.in_ok-key.ensures pushed c.in_ok-insert.ensures.updates.0
