-- Which texts are recovery keys, said of the JSON object alone.
use Rattle.std.specs.Prelude.{ℕ, ◌≡◌, ◌≤◌, ⊤, List, [], ◌∷◌, Some, codes}
use Rattle.serde_json.specs.Data.{number, unsigned, string, object, Members, no_members, member}
use Rattle.serde_json.specs.Find.{get_member}
use Rattle.serde_json.specs.Read.{read}
use Rattle.rl_numbers.specs.declared.limits.TheConstants.{MAX_MESSAGE_SERIAL}
use Rattle.rl_ids.specs.Forms.{serial_text}
use Rattle.rl_runs.specs.declared.commands.RecoveryKey.{RecoveryKey}
use Rattle.rl_recovery.specs.Keys.{Held, IsHeld}

-- the members are the serials' texts under their channels' names, in the same order
abbrev pub AreSerials : Members → List Held → Type 0
AreSerials no_members [] = ⊤
AreSerials no_members (held ∷ serials) = ⊥
AreSerials (member name d ms) [] = ⊥
AreSerials (member name d ms) (held ∷ serials) = (name ≡ held.0) × (d ≡ string (serial_text held.1)) × IsHeld held × AreSerials ms serials

-- the object has the three members
pub record IsKeyObject (ms : Members) (key : RecoveryKey) : Type 0 where
  pub connection_key : get_member (codes "connectionKey") ms ≡ Some (string key.key)
  pub message_serial : get_member (codes "msgSerial") ms ≡ Some (number (unsigned key.next))
  pub in_range : key.next ≤ MAX_MESSAGE_SERIAL
  pub channels : Members
  pub channel_serials : get_member (codes "channelSerials") ms ≡ Some (object channels)
  pub are_serials : AreSerials channels key.serials

-- the text is such an object
abbrev pub IsKeyText : List ℕ → RecoveryKey → Type 0
IsKeyText t key = (ms : Members) × (read t ≡ Some (object ms)) × IsKeyObject ms key
