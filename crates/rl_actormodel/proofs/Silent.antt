-- An actor that is ended puts out nothing more.
use Rattle.std.proofs.Common.{◌≡◌, Bool, false, cond, List, [], ◌∷◌, ◌++◌, Option, Some, refl, ap, ◌∙◌, append_assoc}
use Rattle.std.specs.Prelude.{◌&&◌, is_none, take, drop}
use Rattle.rl_types.specs.declared.frames.Frame.{Frame}
use Rattle.rl_events.specs.declared.calls.End.{End}
use Rattle.rl_actormodel.specs.State.{State, begun, is_nothing, is_free, has_room}
use Rattle.rl_actormodel.specs.Ends.{over_at}
use Rattle.rl_actormodel.specs.Reads.{answered_at}
use Rattle.rl_actormodel.specs.Rests.{rest_free}
use Rattle.rl_actormodel.specs.Inputs.{Input, Took, Absorbed, Rested, Ended, Gave, step, after, given, taken}
use Rattle.rl_actormodel.specs.Conditions.{IsAllowed}
use Rattle.rl_actormodel.specs.Laws.{EndedIsSilent}

-- an ended actor after one input more: as it was, and nothing new waits
record Stays (why : End) (input : Input) (s : State) : Type 0 where
  over : (step input s).ended ≡ Some why
  same : given input s ++ (step input s).waiting ≡ s.waiting

not_free : (s : State) (why : End) → s.ended ≡ Some why → is_free s ≡ false
not_free s why h = ap (λ (e : Option End). is_none e && is_nothing s.wish) h

pub take_drop : (w : List Frame) → take 1 w ++ drop 1 w ≡ w
take_drop [] = refl
take_drop (x ∷ xs) = refl

stays : (why : End) (input : Input) (s : State) → s.ended ≡ Some why → IsAllowed input s → Stays why input s
stays why (Took came now) s h a = let apart : is_free s && has_room s ≡ false = ap (λ (b : Bool). b && has_room s) (not_free s why h) in let may = a.0 in absurd (cc)
stays why (Absorbed call reply now) s h a = record {
  over = ap (λ (e : Option End). (answered_at e call reply now s).ended) h ∙ h;
  same = ap (λ (e : Option End). (answered_at e call reply now s).waiting) h;
}
stays why (Rested now) s h a = record {
  over = ap (λ (b : Bool). (cond b (rest_free now s) s).ended) (not_free s why h) ∙ h;
  same = ap (λ (b : Bool). (cond b (rest_free now s) s).waiting) (not_free s why h);
}
stays why (Ended end) s h a = record {
  over = ap (λ (e : Option End). (over_at e end s).ended) h ∙ h;
  same = ap (λ (e : Option End). (over_at e end s).waiting) h;
}
stays why Gave s h a = record { over = h; same = take_drop s.waiting }

pub ended_is_silent : EndedIsSilent
ended_is_silent hello start before [] why h a = record { over = h; same = refl }
ended_is_silent hello start before (input ∷ more) why h a =
    let rest = ended_is_silent hello start before more why h a.1 in
    let s : State = after hello start (more ++ before) in
    let kept = stays why input s rest.over a.0 in
    let out : List Frame = taken (more ++ before) (begun hello start) in
    record {
      over = kept.over;
      same = append_assoc out (given input s) (step input s).waiting ∙ ap (λ (w : List Frame). out ++ w) kept.same ∙ rest.same;
    }
