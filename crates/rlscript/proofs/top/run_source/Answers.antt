use Rattle.std.proofs.KnownBytes.{Keeps-refl}
use Rattle.rlscript.proofs.Ends.{too_much_said, read_fault_said, bytes_end, no_memory_met}
use Rattle.rlscript.proofs.top.run_source.Goals as goal

pub returns-in-Whole : goal.returns-in-Whole
returns-in-Whole g c =
    let e = c.in-Whole.ensures in
    bytes_end _ _ _ c.in-Whole.bytes e.bytes.0 e.bytes.1 e.bytes.2 e.ends (rw c.as_slice.ensures at c.run_bytes.ensures)

pub returns-in-TooLong : goal.returns-in-TooLong
returns-in-TooLong g c =
    let e = c.in-TooLong.ensures in
    let taken = e.bytes in
    too_much_said _ c.without_world.result.status c.say.result _ c.without_world.ensures.status c.without_world.ensures.world taken.0 taken.1 taken.2 taken.3
    e.ends (rw c.as_bytes.ensures.value at c.say.ensures)

pub returns-in-Fault : goal.returns-in-Fault
returns-in-Fault g c =
    let e = c.in-Fault.ensures in
    let taken = e.bytes in
    read_fault_said _ c.without_world-in-Fault.result.status c.say-in-Fault.result _ c.without_world-in-Fault.ensures.status c.without_world-in-Fault.ensures.world
    taken.0 taken.1 taken.2 e.faults e.ends (rw c.as_bytes-in-Fault.ensures.value at c.say-in-Fault.ensures)

pub returns-in-NoMemory : goal.returns-in-NoMemory
returns-in-NoMemory g c =
    let taken = c.in-NoMemory.ensures.bytes in
    no_memory_met _ _ _ c.without_world-in-NoMemory.ensures.status c.without_world-in-NoMemory.ensures.world (Keeps-refl _) taken.0 taken.1 taken.2
