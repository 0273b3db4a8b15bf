-- What a run shows of a world.
use Rattle.std.specs.Prelude.{ℕ, ◌-◌, Bool, true, false, List, [], ◌∷◌, length, drop, Option, Some, None}
use Rattle.rl_events.specs.declared.channel.ChannelEvent.{ChannelEvent}
use Rattle.rl_ids.specs.declared.serials.ChannelSerial.{ChannelSerial}
use Rattle.rl_ids.specs.Forms.{conn_text}
use Rattle.rl_types.specs.declared.messages.Given.{Given}
use Rattle.rl_types.specs.declared.messages.Given.TheVariants.{Ours}
use Rattle.rl_types.specs.declared.states.ChanState.{ChanState}
use Rattle.rl_types.specs.declared.states.ChanState.TheVariants.{Initialized, Attached}
use Rattle.rl_runs.specs.declared.findings.ChannelFindings.{ChannelFindings}
use Rattle.rl_runs.specs.declared.findings.ChannelView.{ChannelView}
use Rattle.rl_runs.specs.declared.findings.ClientFindings.{ClientFindings}
use Rattle.rl_runs.specs.declared.findings.Findings.{Findings}
use Rattle.rl_model.specs.declared.plain.Client.{Client}
use Rattle.rl_model.specs.Verdict.{log, head}
use Rattle.rl_objmodel.specs.Held.{bare_root, shown}
use Rattle.rl_types.specs.declared.objects.ObjectState.{ObjectState}
use Rattle.rl_model.specs.Window.{first}
use Rattle.rl_model.specs.Records.{the_epoch, the_site}
use Rattle.rl_model.specs.Client.{held, pending}
use Rattle.rl_model.specs.World.{World, the_conn}

-- the channel is shown once it took an event
abbrev pub channels_shown : Option (List ℕ) → List ChannelEvent → List ChannelFindings
channels_shown (Some name) (event ∷ past) =
    record {
      name = name;
      first = first the_site (event ∷ past);
      head = head the_site (event ∷ past);
      entries = drop (first the_site (event ∷ past) - 1) (log the_site (event ∷ past));
    } ∷ []
channels_shown _ _ = []

abbrev pub held_serial : Option Given → Option ChannelSerial
held_serial (Some (Ours serial)) = Some serial
held_serial _ = None

-- members and objects are whole exactly where the channel is attached. No script makes a member or an object yet
abbrev pub is_attached : ChanState → Bool
is_attached Attached = true
is_attached _ = false

-- the objects that a client knows of: a root that nobody wrote to
abbrev pub objects_known : List ObjectState
objects_known = shown bare_root ∷ []

abbrev pub view_of : List ℕ → Client → ChannelView
view_of name client =
    record {
      name = name;
      state = client.chan;
      held = held_serial (held client);
      runs = record { segments = client.segments };
      members_whole = is_attached client.chan;
      members = [];
      objects_whole = is_attached client.chan;
      objects = objects_known;
    }

-- a record is shown once the client was told to attach
abbrev pub views_in : ChanState → Option (List ℕ) → Client → List ChannelView
views_in Initialized channel client = []
views_in _ None client = []
views_in _ (Some name) client = view_of name client ∷ []

-- the id of the connection held, once the client was connected
abbrev pub conn_shown : Bool → Option (List ℕ)
conn_shown true = Some (conn_text the_conn)
conn_shown false = None

abbrev pub client_shown : Option (List ℕ) → Client → ClientFindings
client_shown channel client =
    record {
      name = client.name;
      state = client.conn;
      conn = conn_shown client.known;
      pending = length (pending client);
      dropped = 0;
      answers = client.answers;
      views = views_in client.chan channel client;
    }

abbrev pub clients_shown : Option (List ℕ) → Option Client → List ClientFindings
clients_shown channel None = []
clients_shown channel (Some client) = client_shown channel client ∷ []

abbrev pub findings : World → Findings
findings world =
    record {
      epoch = the_epoch;
      channels = channels_shown world.channel world.past;
      clients = clients_shown world.channel world.client;
    }
