-- What a person reads of a client's faults.
use Rattle.std.specs.Prelude.{ℕ, List, ◌++◌, codes, decimal}
use Rattle.rl_types.specs.Faults.{fault_text}
use Rattle.rl_types.specs.States.{conn_word, chan_word}
use Rattle.rl_runs.specs.declared.commands.Stands.TheVariants.{Conn, Chan}
use Rattle.rl_client.specs.declared.fault.ActFault.{ActFault}
use Rattle.rl_client.specs.declared.fault.ActFault.TheVariants as acts
use Rattle.rl_client.specs.declared.fault.ClientFault.{ClientFault}
use Rattle.rl_client.specs.declared.fault.ClientFault.TheVariants as bytes

abbrev pub act_fault_text : ActFault → List ℕ
act_fault_text (acts.WrongState (Conn state)) = codes "the connection is " ++ conn_word state
act_fault_text (acts.WrongState (Chan state)) = codes "the channel is " ++ chan_word state
act_fault_text (acts.Full pending) = codes "the queue is full: " ++ decimal pending ++ codes " frames are pending"
act_fault_text acts.NoMemory = codes "out of memory"

abbrev pub client_fault_text : ClientFault → List ℕ
client_fault_text (bytes.BadFrame fault) = fault_text fault
client_fault_text bytes.NoMemory = codes "out of memory"
