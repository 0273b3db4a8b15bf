use Rattle.std.proofs.Common.{◌≡◌, map}
use Rattle.rl_actormodel.specs.Takes.{signed_member}
use Rattle.rl_actorparts.proofs.signing.signed_members.Given as goal

-- the items so far are signed
abbrev pub invariant-loop-item : goal.invariant-loop-item
invariant-loop-item l = l.made ≡ map (signed_member l.who) l.yielded
