use Rattle.std.proofs.Common.{◌∙◌, ap, sym, ◌++◌, ◌∷◌, []}
use Rattle.std.proofs.lemmas.List.{map-append}
use Rattle.rl_actormodel.specs.Reads.{entry_frame}
use Rattle.rl_actorparts.proofs.frames.entry_frames.Goals as goal

pub loop-entry-preserved : goal.loop-entry-preserved
loop-entry-preserved c =
    c.in_ok-push_entry.ensures
    ∙ ap (λ fs. fs ++ entry_frame c.args.name.now c.args.epoch c.in-Some.entry ∷ []) c.loop-entry.invariant
    ∙ sym (map-append (entry_frame c.args.name.now c.args.epoch) c.loop-entry.yielded (c.in-Some.entry ∷ []))
