-- What bytes make of a client.
use Rattle.std.specs.Prelude.{ℕ, ◌≡◌, ⊤, Option}
use Rattle.std.specs.declared.result.Result.TheVariants.{Ok, Err}
use Rattle.rl_types.specs.declared.frames.Frame.{Frame}
use Rattle.rl_types.specs.declared.frames.WireFault.{WireFault}
use Rattle.rl_types.specs.declared.frames.WireFault.TheVariants as faults
use Rattle.rl_jsonfields.specs.Fields.{Reads}
use Rattle.rl_clientmodel.specs.States.{ClientState, Turn, quietly}
use Rattle.rl_clientmodel.specs.Hearing.{heard}
use Rattle.rl_client.specs.declared.fault.ClientFault.{ClientFault}
use Rattle.rl_client.specs.declared.fault.ClientFault.TheVariants.{BadFrame, NoMemory}

-- bytes that are no frame change nothing, not even when the last frame came
abbrev pub heard_read : Reads (Option Frame) → ℕ → ClientState → Turn
heard_read (Ok frame) now state = heard frame now state
heard_read (Err fault) now state = quietly state

abbrev pub client_fault : WireFault → ClientFault
client_fault faults.NoMemory = NoMemory
client_fault fault = BadFrame fault

-- the bytes have this fault, or there is want of memory
abbrev pub IsCause : ClientFault → Reads (Option Frame) → Type 0
IsCause (BadFrame fault) read = read ≡ Err fault
IsCause NoMemory read = ⊤
