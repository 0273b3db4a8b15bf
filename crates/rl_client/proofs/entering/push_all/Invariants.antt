use Rattle.std.proofs.Common.{◌≡◌, ◌++◌}
use Rattle.rl_clientmodel.specs.Hearing.{all_numbered, all_pushed}
use Rattle.rl_client.specs.Answers.{AreAcknowledged, IsBehind}
use Rattle.rl_client.proofs.entering.push_all.Given as goal

-- what is left to push makes of what is pushed and sent what all makes of the queue as it was
abbrev pub invariant-loop-frame : goal.invariant-loop-frame
invariant-loop-frame l = record {
  kept : all_pushed l.frame-iterator.rest.items l.queue ≡ all_pushed l.fn.frames l.initial.queue;
  sent : l.sent ++ all_numbered l.frame-iterator.rest.items l.queue ≡ all_numbered l.fn.frames l.initial.queue;
  behind : IsBehind l.initial.queue l.queue;
  acknowledged : AreAcknowledged l.frame-iterator.rest.items;
}
