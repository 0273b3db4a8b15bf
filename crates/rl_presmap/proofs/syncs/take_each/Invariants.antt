use Rattle.std.proofs.Common.{◌≡◌, ◌+◌, ◌≤◌, length, vec_len}
use Rattle.std.specs.Vec.{vec_capacity}
use Rattle.rl_presmap.specs.Held.{AreRising}
use Rattle.rl_presmap.specs.Steps.{with_each}
use Rattle.rl_presmap.proofs.syncs.take_each.Given as goal

-- what is left to take up makes of what is held now what all makes of what was held
abbrev pub invariant-loop-one : goal.invariant-loop-one
invariant-loop-one l = record {
  items : with_each l.fn.syncing l.one-iterator.rest.items l.held.items ≡ with_each l.fn.syncing l.fn.ready l.initial.held.items;
  rising : AreRising l.held.items;
  room : vec_len l.held + length l.one-iterator.rest.items ≤ vec_capacity l.held;
}
