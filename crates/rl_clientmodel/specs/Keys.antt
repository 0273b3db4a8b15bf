-- Going on where another client stood (RTN16).
use Rattle.std.specs.Prelude.{ℕ, Bool, true, false, ◌&&◌, ◌==◌, is_none, if◌then◌else◌, List, [], ◌∷◌, map, filter_map, Option, Some, None, option_map}
use Rattle.rl_ids.specs.declared.serials.ChannelSerial.{ChannelSerial}
use Rattle.rl_runs.specs.declared.commands.RecoveryKey.{RecoveryKey}
use Rattle.rl_connsm.specs.Rules as rules
use Rattle.rl_ackq.specs.Queue.{started_at}
use Rattle.rl_clientmodel.specs.Channels.{ClientChannel, channel_from}
use Rattle.rl_clientmodel.specs.States.{ClientState}

-- the serial that is held of a channel, with its name
abbrev pub serial_held : List ℕ × ClientChannel → Option (List ℕ × ChannelSerial)
serial_held e = option_map (λ serial. (e.0, serial)) e.1.held

abbrev pub key_with : Option (List ℕ) → ClientState → Option RecoveryKey
key_with None state = None
key_with (Some key) state =
    Some (record { key = key; next = state.queue.next; serials = filter_map serial_held state.channels })

-- with what another client can go on: none without a connection's key, nor in CLOSING
abbrev pub recovery_key : ClientState → Option RecoveryKey
recovery_key state = if rules.gives_recovery_key state.conn then key_with state.key state else None

abbrev pub is_empty : {A : Type 0} → List A → Bool
is_empty [] = true
is_empty (one ∷ more) = false

-- a client may go on with a key where it has done nothing yet
abbrev pub may_recover : ClientState → Bool
may_recover state =
    rules.may_recover state.conn && is_empty state.channels && is_none state.key && is_empty state.queue.pending

-- the connection's id in a key: its text before the first `!`
abbrev pub before_mark : List ℕ → List ℕ
before_mark [] = []
before_mark (c ∷ cs) = if c == 33 then [] else c ∷ before_mark cs

abbrev pub channel_of_serial : List ℕ × ChannelSerial → List ℕ × ClientChannel
channel_of_serial e = (e.0, channel_from e.1)

abbrev pub with_key : RecoveryKey → ClientState → ClientState
with_key key state =
    record state {
      key = Some key.key;
      id = Some (before_mark key.key);
      queue = started_at key.next;
      channels = map channel_of_serial key.serials;
    }

abbrev pub recovered : RecoveryKey → ClientState → ClientState
recovered key state = if may_recover state then with_key key state else state
