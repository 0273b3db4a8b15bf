use Rattle.std.proofs.Common.{◌≡◌, take}
use Rattle.std.specs.Prelude.{map, filter}
use Rattle.rl_model.specs.Members.{is_on}
use Rattle.rl_members.proofs.page.clients_on.Given as goal

-- the client ids so far are those of the items so far
abbrev pub invariant-loop-one : goal.invariant-loop-one
invariant-loop-one l = l.clients ≡ map (λ item. item.client) (filter (is_on l.conn) (take l.one-index l.held))
