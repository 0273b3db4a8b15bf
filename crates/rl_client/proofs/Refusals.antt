-- The first rule that refuses a command.
use Rattle.std.proofs.Common.{◌≡◌, refl}
use Rattle.std.specs.Prelude.{Option, Some, None, option_map}
use Rattle.rl_clientmodel.specs.Commands.{Refusal, or_refusal}
use Rattle.rl_client.specs.Faults.{fault_of, first_fault}

pub or_first : (first second : Option Refusal) → first_fault (option_map fault_of first) (option_map fault_of second) ≡ option_map fault_of (or_refusal first second)
or_first None second = refl
or_first (Some refusal) second = refl
