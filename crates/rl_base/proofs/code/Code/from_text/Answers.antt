use Rattle.std.proofs.Common.{rules, length, drop, replicate, List, ℕ}
use Rattle.std.proofs.Math.Seq.{take-append_seam}
use Rattle.rl_base.specs.Padded.{IsPadded-written}
use Rattle.rl_base.proofs.code.Code.from_text.Goals as goal

pub invariant_of-result : goal.invariant_of-result
invariant_of-result g c =
    let text : List ℕ = c.args.text.now in
    rw (c.copy_from_slice.ensures.after, c.as_bytes.ensures.value) (
      IsPadded-written g.row.CAP text (search rules),
      ∣ rw (take-append_seam text (drop (length text) (replicate g.row.CAP 0))) c.utf8.text ∣₁,
    )
