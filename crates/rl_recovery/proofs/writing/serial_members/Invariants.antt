use Rattle.std.proofs.Common.{◌≡◌, ◌-◌, length, drop}
use Rattle.serde_json.specs.View.{members_view}
use Rattle.rl_jsonfields.specs.Texts.{member_of_each}
use Rattle.rl_recovery.specs.Keys.{name_of, serial_json}
use Rattle.rl_recovery.proofs.writing.serial_members.Given as goal

-- the last i of them are written
abbrev pub invariant-loop-i : goal.invariant-loop-i
invariant-loop-i l = members_view l.members.entries ≡ member_of_each name_of serial_json (drop (length l.serials - l.i) l.serials)
