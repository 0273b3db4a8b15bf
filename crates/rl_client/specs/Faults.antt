-- What a refusal is answered as.
use Rattle.std.specs.Prelude.{Option, Some, None}
use Rattle.rl_clientmodel.specs.Commands.{Refusal}
use Rattle.rl_clientmodel.specs.Commands as commands
use Rattle.rl_client.specs.declared.fault.ActFault.{ActFault}
use Rattle.rl_client.specs.declared.fault.ActFault.TheVariants.{WrongState, Full, NoMemory}

abbrev pub fault_of : Refusal → ActFault
fault_of (commands.WrongState stands) = WrongState stands
fault_of (commands.Full pending) = Full pending

-- where no rule refuses a command there is want of memory
abbrev pub cause : Option Refusal → ActFault
cause None = NoMemory
cause (Some refusal) = fault_of refusal

-- a fault, or else the next rule's
abbrev pub first_fault : Option ActFault → Option ActFault → Option ActFault
first_fault None second = second
first_fault (Some fault) second = Some fault
