use Rattle.std.proofs.Common.{◌∙◌, ap}
use Rattle.std.proofs.lemmas.Result.{on_ok_weaker}
use Rattle.std.specs.Prelude.{slice_set, ◌-◌}
use Rattle.rl_world.proofs.Places.{caught_last}
use Rattle.rl_world.proofs.records.catch_up.Goals as goal

pub returns : goal.returns
returns c =
    on_ok_weaker c.get_more.result (λ more name small.
    ap (λ k. slice_set c.args.segments.now (k - 1) c.get_more.new.segment) c.len-count.ensures
    ∙ caught_last c.args.log.now c.args.segments.now c.at_mut-last.result.now c.get_more.new.segment
    (rw c.len-count.ensures at c.at_mut-last.ensures.value) (more name small))
    c.get_more.ensures
