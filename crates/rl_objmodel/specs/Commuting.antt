-- Operations of two sites on one object may come in either order: the core of why pools that took the same operations
-- agree.
use Rattle.std.specs.Prelude.{◌≡◌, ℕ, Bool, true, false, ◌&&◌, bytes_eq}
use Rattle.rl_ids.specs.declared.serials.OpSerial.{OpSerial}
use Rattle.rl_types.specs.declared.objects.Op.{Op}
use Rattle.rl_objmodel.specs.declared.plain.Applied.{Applied}
use Rattle.rl_objmodel.specs.declared.plain.Applied.TheVariants as outcomes
use Rattle.rl_objmodel.specs.Operations.{is_create}
use Rattle.rl_objmodel.specs.Held.{Held}
use Rattle.rl_objmodel.specs.Steps.{outcome, held_after}

abbrev pub is_range : Applied → Bool
is_range outcomes.Range = true
is_range _ = false

-- neither order brings a sum past its range
pub record InRange (stamp : ℕ) (serial other : OpSerial) (op op2 : Op) (held : Held) : Type 0 where
  pub one : is_range (outcome serial op held) ≡ false
  pub next : is_range (outcome other op2 (held_after stamp serial op held)) ≡ false
  pub other_one : is_range (outcome other op2 held) ≡ false
  pub other_next : is_range (outcome serial op (held_after stamp other op2 held)) ≡ false

-- two operations of different sites leave the same object in either order, where they are not both creates, and neither
-- order brings a sum past its range
abbrev pub EitherOrder : Type 0
EitherOrder = (stamp : ℕ) (serial other : OpSerial) (op op2 : Op) (held : Held)
    → bytes_eq serial.site other.site ≡ false → (is_create op && is_create op2) ≡ false
    → InRange stamp serial other op op2 held
    → held_after stamp other op2 (held_after stamp serial op held) ≡ held_after stamp serial op (held_after stamp other op2 held)
