use Rattle.std.proofs.Common.{◌∙◌, ap, sym, ◌++◌, ◌∷◌, [], map}
use Rattle.std.proofs.lemmas.List.{map-append}
use Rattle.rl_actormodel.specs.Takes.{signed}
use Rattle.rl_actorparts.proofs.signing.signed_items.Goals as goal

pub loop-item-preserved : goal.loop-item-preserved
loop-item-preserved c =
    c.in_ok-push.ensures.ok
    ∙ ap (λ made. made ++ c.in_ok-one.one ∷ []) c.loop-item.invariant
    ∙ ap (λ one. map (signed c.args.who.now) c.loop-item.yielded ++ one ∷ []) c.in_ok-one.ensures
    ∙ sym (map-append (signed c.args.who.now) c.loop-item.yielded (c.in-Some.item ∷ []))
