use Rattle.std.proofs.Common.{rules, refl}
use Rattle.std.proofs.KnownBytes.{Keeps-refl}
use Rattle.rlscript.proofs.Ends.{usage_said}
use Rattle.rlscript.proofs.top.script_top.Goals as goal

pub returns-else-asks_for_run : goal.returns-else-asks_for_run
returns-else-asks_for_run g c =
    usage_said _ _ c.without_world.result.status c.refuse_words.result _ (search rules) (record { left = Keeps-refl _; faults = refl; ends = refl })
    c.without_world.ensures.status c.without_world.ensures.world c.refuse_words.ensures
