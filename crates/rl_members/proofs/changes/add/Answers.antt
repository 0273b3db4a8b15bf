use Rattle.std.proofs.Common.{arith, List, ap, ◌∙◌}
use Rattle.std.specs.Prelude.{remove}
use Rattle.rl_types.specs.declared.presence.PresenceItem.{PresenceItem}
use Rattle.rl_members.proofs.Undoing.{removed_inserted}
use Rattle.rl_members.proofs.changes.add.Goals as goal

pub returns-clause-undone : goal.returns-clause-undone
returns-clause-undone c =
    ap (λ (l : List PresenceItem). remove l c.args.at) c.place.ensures.items
    ∙ removed_inserted c.args.held.now.items c.args.at c.args.member (omega (arith, c.requires.within, c.args.held.now.ok.0))
