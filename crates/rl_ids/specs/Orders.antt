-- The orders that `cmp` answers by, of the types that derive it.
use Rattle.std.specs.Prelude.{◌≡◌}
use Rattle.std.specs.Ordering.{nat_cmp, ordering_then}
use Rattle.std.specs.Cmp.Lexicographic.{slice_cmp}
use Rattle.rl_ids.specs.declared.members.MemberKey.{MemberKey}
use Rattle.rl_ids.specs.declared.serials.ChannelSerial.{ChannelSerial}
use Rattle.rl_ids.specs.declared.serials.OpSerial.{OpSerial}
use Rattle.rl_ids.specs.contracts.members.MemberKeyOrd.TheImpl as keys
use Rattle.rl_ids.specs.contracts.serials.ChannelSerialOrd.TheImpl as serials
use Rattle.rl_ids.specs.contracts.serials.OpSerialOrd.TheImpl as op_serials
use Rattle.rl_ids.specs.Objects.{serial_cmp}

-- members come in the order of their connections' ids, and those of one connection in that of their client ids
abbrev pub KeysByConn : Type 0
KeysByConn = (a b : MemberKey) → (keys.ghosts).cmp a b ≡ ordering_then (slice_cmp nat_cmp a.conn b.conn) (slice_cmp nat_cmp a.client b.client)

-- channel serials come in the order of epochs, and those of one epoch in that of places
abbrev pub SerialsByEpoch : Type 0
SerialsByEpoch = (a b : ChannelSerial) → (serials.ghosts).cmp a b ≡ ordering_then (nat_cmp a.epoch b.epoch) (nat_cmp a.place b.place)

-- operation serials come in the order of places, then indices, then sites
abbrev pub OpSerialsByPlace : Type 0
OpSerialsByPlace = (a b : OpSerial) → (op_serials.ghosts).cmp a b ≡ serial_cmp a b
