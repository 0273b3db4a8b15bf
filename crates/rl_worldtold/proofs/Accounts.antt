-- Each frame that a client of a world queued is accounted for.
use Rattle.std.proofs.Common.{ℕ, List, sym, subst, arith}
use Rattle.rl_clientmodel.specs.Inputs.{after}
use Rattle.rl_clientlaws.proofs.Sums.{accounted_for}
use Rattle.rl_worldmodel.specs.Actions.{Action}
use Rattle.rl_worldtold.specs.Inputs.{inputs_of}
use Rattle.rl_worldtold.specs.Accounts.{IsAccountedFor, AllAccountedFor}
use Rattle.rl_worldtold.proofs.Inputs.{clients_are_of_their_inputs}

account_of : (name : List ℕ) (actions : List Action) → IsAccountedFor name actions (after name (inputs_of name actions))
account_of name actions =
    let all = accounted_for name (inputs_of name actions) in
    record {
      sum = all.sum;
      counted = all.counted;
      whole = λ few. omega (arith, all.sum, all.counted, few);
    }

pub all_accounted_for : AllAccountedFor
all_accounted_for actions name state found = subst (IsAccountedFor name actions) (sym (clients_are_of_their_inputs actions name state found)) (account_of name actions)
