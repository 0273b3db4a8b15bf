-- What the client of a script does with its commands, in the plain reading.
use Rattle.std.specs.Prelude.{ℕ, suc, true, false, List, [], ◌∷◌, ◌++◌, length, drop, Option, Some, None}
use Rattle.rl_runs.specs.declared.commands.Command.{Command}
use Rattle.rl_runs.specs.declared.commands.Command.TheVariants.{Attach, AttachAt, Publish}
use Rattle.rl_types.specs.declared.messages.Body.{Body}
use Rattle.rl_types.specs.declared.messages.Body.TheVariants.{Messages}
use Rattle.rl_types.specs.declared.messages.Given.{Given}
use Rattle.rl_types.specs.declared.messages.Given.TheVariants.{Ours}
use Rattle.rl_types.specs.declared.states.ConnState.{ConnState}
use Rattle.rl_types.specs.declared.states.ConnState.TheVariants as conn
use Rattle.rl_types.specs.declared.states.ChanState.{ChanState}
use Rattle.rl_types.specs.declared.states.ChanState.TheVariants as chan
use Rattle.rl_model.specs.declared.plain.Client.{Client}
use Rattle.rl_model.specs.declared.plain.Sent.{Sent}
use Rattle.rl_model.specs.declared.plain.Sent.TheVariants.{Asks, Sends}
use Rattle.rl_model.specs.Records.{held_of, last_segment}

abbrev pub new_client : List ℕ → Client
new_client name =
    record {
      name = name;
      conn = conn.Initialized;
      chan = chan.Initialized;
      known = false;
      asked = None;
      published = [];
      answers = [];
      segments = [];
      sent = [];
    }

-- the serial that the client holds
abbrev pub held : Client → Option Given
held client = held_of client.asked (last_segment client.segments)

-- CONNECTING AND DROPPING (RTN11, RTN15)

abbrev pub opened : ConnState → ConnState
opened conn.Initialized = conn.Connecting
opened conn.Disconnected = conn.Connecting
opened other = other

abbrev pub dropped : ConnState → ConnState
dropped conn.Connected = conn.Disconnected
dropped other = other

abbrev pub numbered : ℕ → List Body → List Sent
numbered serial [] = []
numbered serial (body ∷ bodies) = Sends serial body ∷ numbered (suc serial) bodies

-- the messages that were not answered yet, with their serials (RTN7)
abbrev pub pending : Client → List Sent
pending client = drop (length client.answers) (numbered 0 client.published)

abbrev pub attach_again : ChanState → Option Given → List Sent
attach_again chan.Attaching serial = Asks serial ∷ []
attach_again chan.Attached serial = Asks serial ∷ []
attach_again _ serial = []

abbrev pub attaching_again : ChanState → ChanState
attaching_again chan.Attached = chan.Attaching
attaching_again other = other

-- a client that was just connected: a channel that was attaching or attached attaches with the serial held
-- (RTN15c6), and then the pending messages are sent (RTN19a)
abbrev pub connected : Client → Client
connected client =
    record client {
      conn = conn.Connected;
      known = true;
      chan = attaching_again client.chan;
      sent = attach_again client.chan (held client) ++ pending client;
    }

-- COMMANDS

abbrev pub if_connected : ConnState → Sent → List Sent
if_connected conn.Connected sent = sent ∷ []
if_connected _ sent = []

-- the client is told to attach (RTL4), with this serial or without one
abbrev pub attach_in : ChanState → Option Given → Client → Client
attach_in chan.Initialized serial client =
    record client {
      chan = chan.Attaching;
      asked = serial;
      sent = client.sent ++ if_connected client.conn (Asks serial);
    }
attach_in _ serial client = client

-- the client publishes (RTL6): the body gets the next serial, and is sent at once where the client is connected
abbrev pub publish : Body → Client → Client
publish body client =
    record client {
      published = client.published ++ body ∷ [];
      sent = client.sent ++ if_connected client.conn (Sends (length client.published) body);
    }

-- the client is told to do something. The commands that no script has yet do nothing
abbrev pub act : Command → Client → Client
act (Attach channel) client = attach_in client.chan None client
act (AttachAt channel serial) client = attach_in client.chan (Some (Ours serial)) client
act (Publish channel items) client = publish (Messages items) client
act command client = client

-- the channel of a command that the plain reading has
abbrev pub channel_of : Command → Option (List ℕ)
channel_of (Attach channel) = Some channel
channel_of (AttachAt channel serial) = Some channel
channel_of (Publish channel items) = Some channel
channel_of command = None
