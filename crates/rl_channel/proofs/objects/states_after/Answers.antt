use Rattle.std.proofs.Common.{◌≡◌, ◌≤◌, List, length, take, subst}
use Rattle.std.specs.Option.{option_copied}
use Rattle.rl_types.specs.declared.objects.ObjectState.{ObjectState}
use Rattle.rl_model.specs.Objects.{cut_from}
use Rattle.rl_channel.proofs.ObjectPages.{last_is}
use Rattle.rl_channel.proofs.objects.states_after.Goals as goal

pub returns-clause-last : goal.returns-clause-last
returns-clause-last c =
    let count = c.count_cut-count.result in
    last_is (option_copied c.args.after) c.args.max count c.len.result c.args.objects.now c.in_ok-states.states c.in_ok-states.none_remain c.is_whole-last.result
    c.in_ok-states.ensures.states
    c.in_ok-states.ensures.last
    (subst (λ (got : List ObjectState). take count got ≡ cut_from 0 got) c.as_slice.ensures c.count_cut-count.ensures.value)
    (subst (λ (got : List ObjectState). count ≤ length got) c.as_slice.ensures c.count_cut-count.ensures.within)
    c.len.ensures
    c.is_whole-last.ensures
