use Rattle.std.proofs.Common.{◌≡◌, ◌+◌, ◌≤◌, ◌++◌, length, vec_len}
use Rattle.std.specs.Vec.{vec_capacity}
use Rattle.rl_presmap.specs.Held.{AreRising}
use Rattle.rl_presmap.specs.Steps.{with_items, events_of}
use Rattle.rl_presmap.proofs.syncs.take_all.Given as goal

-- what is left to take up makes of what is held now what all makes of what was held, and so of what is told
abbrev pub invariant-loop-one : goal.invariant-loop-one
invariant-loop-one l = record {
  items : with_items l.one-iterator.rest.items l.held.items ≡ with_items l.fn.ready l.initial.held.items;
  events : l.events.0 ++ events_of l.one-iterator.rest.items l.held.items ≡ l.initial.events.0 ++ events_of l.fn.ready l.initial.held.items;
  rising : AreRising l.held.items;
  room : vec_len l.held + length l.one-iterator.rest.items ≤ vec_capacity l.held;
  events_room : length l.one-iterator.rest.items ≤ l.events.1;
  len : vec_len l.held + length l.one-iterator.rest.items ≤ vec_len l.initial.held + length l.fn.ready;
  left : l.initial.events.1 + length l.one-iterator.rest.items ≤ l.events.1 + length l.fn.ready;
}
