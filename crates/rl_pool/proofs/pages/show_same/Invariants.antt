use Rattle.std.proofs.Common.{◌≡◌, take, length}
use Rattle.rl_objmodel.specs.Steps.{states}
use Rattle.rl_pool.proofs.pages.show_same.Given as goal

-- the objects so far are shown the same
abbrev pub invariant-loop-one : goal.invariant-loop-one
invariant-loop-one l = record {
  at : l.at ≡ l.one-index;
  even : length l.objects ≡ length l.others;
  same : states (take l.one-index l.objects) ≡ states (take l.one-index l.others);
}
