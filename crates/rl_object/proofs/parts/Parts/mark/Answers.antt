use Rattle.std.proofs.Common.{ap, to_z-of_z, ◌∙◌}
use Rattle.std.specs.Int.{w128}
use Rattle.rl_objmodel.specs.Held.{Held}
use Rattle.rl_object.specs.Back.{key_in}
use Rattle.rl_object.proofs.Backward.{stood_back, same_back}
use Rattle.rl_object.proofs.parts.Parts.mark.Goals as goal

pub returns-clause-back : goal.returns-clause-back
returns-clause-back c = λ op.
    let old = c.self.inside in
    stood_back c.args.serial.now op _ old.id old.sites c.put_site.new.sites old.deleted old.deleted old.created old.created old.sum old.sum old.map old.map c.args.self.now c.self.view_is c.self.invariant.rising c.in_ok-before.ensures.ok c.in_ok-before.ensures.before (ap (λ (x : Held). x.deleted) c.self.view_is) c.created-created.ensures (to_z-of_z {w = w128} {z = c.sum-sum.result} (record { sfits = c.sum-sum.type_inv }) ∙ c.sum-sum.ensures) (same_back (key_in op) old.map) c.weight-weight.ensures
