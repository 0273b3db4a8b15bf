-- Which operations and objects can be sent: what holds of each that is read of a value whose members stand in
-- order, and all that it takes for what is written to be read as it again.
use Rattle.std.specs.Prelude.{ℕ, ⊤, List, IfSome, IsTrue}
use Rattle.std.specs.List.{All}
use Rattle.base64.specs.GeneralPurpose.{IsBytes}
use Rattle.rl_ids.specs.Forms.{is_site_code}
use Rattle.rl_ids.specs.Objects.{IsObjectId, IsOpSerial}
use Rattle.rl_ids.specs.declared.objects.MapValue.{MapValue}
use Rattle.rl_ids.specs.declared.objects.MapValue.TheVariants as values
use Rattle.rl_ids.specs.declared.serials.OpSerial.{OpSerial}
use Rattle.rl_types.specs.declared.objects.Op.{Op}
use Rattle.rl_types.specs.declared.objects.Op.TheVariants as ops
use Rattle.rl_types.specs.declared.objects.ObjectOp.{ObjectOp}
use Rattle.rl_types.specs.declared.objects.MapCell.{MapCell}
use Rattle.rl_types.specs.declared.objects.ObjectBody.{ObjectBody}
use Rattle.rl_types.specs.declared.objects.ObjectBody.TheVariants as bodies
use Rattle.rl_types.specs.declared.objects.ObjectState.{ObjectState}
use Rattle.rl_jsonfields.specs.Fields.{IsSigned}
use Rattle.rl_jsonfields.specs.Order.{Rise}

abbrev pub IsValue : MapValue → Type 0
IsValue (values.Text t) = ⊤
IsValue (values.Whole n) = IsSigned n
IsValue (values.Bool b) = ⊤
IsValue (values.Bytes bytes) = IsBytes bytes
IsValue (values.Ref id) = IsObjectId id

-- the keys rise, byte by byte
abbrev pub AreEntries : List (List ℕ × MapValue) → Type 0
AreEntries es = Rise es × All (λ e. IsValue e.1) es

abbrev pub IsOp : Op → Type 0
IsOp (ops.MapCreate id entries) = IsObjectId id × AreEntries entries
IsOp (ops.MapSet id key value) = IsObjectId id × IsValue value
IsOp (ops.MapRemove id key) = IsObjectId id
IsOp (ops.CounterCreate id count) = IsObjectId id × IsSigned count
IsOp (ops.CounterInc id amount) = IsObjectId id × IsSigned amount
IsOp (ops.Delete id) = IsObjectId id

abbrev pub IsSendableOp : ObjectOp → Type 0
IsSendableOp op = IsOp op.op × IfSome op.serial IsOpSerial

-- a site with a serial
abbrev pub IsSite : List ℕ × OpSerial → Type 0
IsSite s = IsTrue (is_site_code s.0) × IsOpSerial s.1

abbrev pub IsCell : MapCell → Type 0
IsCell c = IsOpSerial c.serial × IfSome c.value IsValue

abbrev pub IsBody : ObjectBody → Type 0
IsBody (bodies.Counter sum) = IsSigned sum
IsBody (bodies.Map cells) = Rise cells × All (λ c. IsCell c.1) cells

abbrev pub IsSendableState : ObjectState → Type 0
IsSendableState s = IsObjectId s.id × Rise s.sites × All IsSite s.sites × IsBody s.body
