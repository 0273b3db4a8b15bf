-- What reading a script comes to.
use Rattle.std.specs.Prelude.{◌≡◌, ℕ, ◌+◌, ◌≤◌, List, length, Option, IsTrue, IsFalse}
use Rattle.std.specs.Io.KnownBytes.{Consumes, IsAtEnd}
use Rattle.rl_numbers.specs.declared.limits.TheConstants.{MAX_SCRIPT_SIZE}
use Rattle.rl_outside.specs.Counts.{Rose}
use Rattle.rl_model.specs.Script.{is_too_long}
use Rattle.rlscript.specs.declared.input.TheConstants.{PIECE}
use Rattle.rlscript.specs.declared.input.Input.{Input}
use Rattle.rlscript.specs.declared.input.Input.TheVariants.{Whole, TooLong, Fault, NoMemory}

-- a source is read at most one piece beyond the size that a script may have
abbrev pub most_taken : ℕ
most_taken = MAX_SCRIPT_SIZE + PIECE

-- the bytes that were taken
abbrev pub ReadBytes : Input → Option (List ℕ) → Option (List ℕ) → Type 0
-- all bytes of the source
ReadBytes (Whole bytes) before after = Consumes before after bytes × IsAtEnd after × IsFalse (is_too_long bytes)
-- more than a script may have
ReadBytes TooLong before after =
    (taken : List ℕ) × Consumes before after taken × IsTrue (is_too_long taken) × (length taken ≤ most_taken)
-- what was taken before the read that failed fits
ReadBytes Fault before after = (taken : List ℕ) × Consumes before after taken × IsFalse (is_too_long taken)
ReadBytes NoMemory before after = (taken : List ℕ) × Consumes before after taken × (length taken ≤ most_taken)

-- a read failed only at a fault
abbrev pub ReadFaults : Input → ℕ → ℕ → Type 0
ReadFaults Fault faults now = Rose faults now
ReadFaults _ faults now = now ≡ faults

-- a read found nothing left only where the bytes are whole
abbrev pub ReadEnds : Input → ℕ → ℕ → Type 0
ReadEnds (Whole bytes) ends now = Rose ends now
ReadEnds _ ends now = now ≡ ends
