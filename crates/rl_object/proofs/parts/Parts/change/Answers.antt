use Rattle.std.proofs.Common.{sym, to_z-of_z, ◌∙◌}
use Rattle.std.specs.Int.{w128}
use Rattle.rl_object.proofs.Backward.{stood_back}
use Rattle.rl_object.proofs.parts.Parts.change.Goals as goal

pub returns-clause-back : goal.returns-clause-back
returns-clause-back c =
    let old = c.self.inside in
    stood_back c.args.serial.now c.args.op.now _ old.id old.sites c.act.new.sites old.deleted c.deleted_after-self-inside.result old.created c.created_after-self-inside.result old.sum _ old.map c.act.new.map c.args.self.now c.self.view_is c.self.invariant.rising c.in_ok-before.ensures.sites c.in_ok-before.ensures.before (sym c.requires.stands) c.created-created.ensures (to_z-of_z {w = w128} {z = c.sum-old_sum.result} (record { sfits = c.sum-old_sum.type_inv }) ∙ c.sum-old_sum.ensures) c.in_ok-before.ensures.cells c.weight-weight.ensures
