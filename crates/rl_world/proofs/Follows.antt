-- One line more of a script.
use Rattle.std.proofs.Common.{◌≡◌, ℕ, ◌+◌, ◌<◌, ◌≤◌, ◌^◌, List, take, sym, ◌∙◌, ap, subst, arith, get_or, length}
use Rattle.std.specs.Prelude.{sum_by}
use Rattle.std.proofs.lemmas.List.Sums.{sum_by_more_le, fold_more}
use Rattle.rl_runs.specs.declared.script.Line.{Line}
use Rattle.rl_model.specs.World.{World, empty_world, after_line, final}
use Rattle.rl_model.specs.Script.{fed, fed_by, published}
use Rattle.rl_model.specs.Limits.{AreSmallLines}
use Rattle.rl_claims.proofs.Sound.{sound_records}
use Rattle.rl_world.specs.Travels.{published_by}
use Rattle.rl_world.specs.State.{WorldState, Shows, MayFollow}
use Rattle.rl_world.proofs.Fed.{final_fed}
use Rattle.rl_world.proofs.Small.{final_small, front_small}

-- one line more of a script
pub run_step : (script : List Line) (at : ℕ) (line : Line) (old new : WorldState) → at < length script → line ≡ get_or script at line
    → published script + fed script < 2 ^ 53 → AreSmallLines script → Shows old (final (take at script))
    → ((world : World) → Shows old world → MayFollow world line → Shows new (after_line world line))
    → Shows new (final (take (at + 1) script))
run_step script at line old new within is fits small before step =
    let front : List Line = take at script in
    let little : sum_by fed_by front + fed_by (get_or script at line) ≤ fed script = sum_by_more_le fed_by script at line within in
    let fewer : sum_by published_by front + published_by (get_or script at line) ≤ published script = sum_by_more_le published_by script at line within in
    let own : fed_by line ≡ fed_by (get_or script at line) = ap fed_by is in
    let so_far : (final front).fed ≡ fed front = final_fed front in
    let more : final (take (at + 1) script) ≡ after_line (final front) (get_or script at line) = fold_more after_line empty_world script at line within in
    subst (λ (w : World). Shows new w) (ap (after_line (final front)) is ∙ sym more)
    (step (final front) before (record { sound = sound_records front; countable = omega (arith, little, own, so_far, fits); small = final_small front (front_small at script small) (omega (arith, little, fewer, fits)) }))
