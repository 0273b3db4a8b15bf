use Rattle.std.proofs.Common.{◌≡◌, drop, []}
use Rattle.rl_objmodel.specs.Places.{IsRising}
use Rattle.rl_objmodel.specs.Steps.{told_sites}
use Rattle.rl_counter.proofs.sites.told.Given as goal

-- told the rest too, they are those that all tell
abbrev pub invariant-loop-one : goal.invariant-loop-one
invariant-loop-one l = record {
  rising : IsRising l.made;
  told : told_sites (drop l.one-index l.sites) l.made ≡ told_sites l.sites [];
}
