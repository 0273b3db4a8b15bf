-- What is shown of a client.
use Rattle.std.specs.Prelude.{ℕ, Bool, not, ◌&&◌, List, length, map, reverse}
use Rattle.rl_chansm.specs.Rules.{is_attached}
use Rattle.rl_runs.specs.declared.findings.ChannelView.{ChannelView}
use Rattle.rl_runs.specs.declared.findings.ClientFindings.{ClientFindings}
use Rattle.rl_presmap.specs.Held as presence_map
use Rattle.rl_presmap.specs.Steps.{members}
use Rattle.rl_objsync.specs.Steps as object_sync
use Rattle.rl_objmodel.specs.Steps.{live_states}
use Rattle.rl_clientmodel.specs.Runs.{segment_of}
use Rattle.rl_clientmodel.specs.Channels.{ClientChannel}
use Rattle.rl_clientmodel.specs.States.{ClientState}

-- the members are whole: the channel is ATTACHED, and no sync of them is open
abbrev pub members_whole : ClientChannel → Bool
members_whole channel = is_attached channel.state && not (presence_map.is_open channel.members.sync)

-- so the objects
abbrev pub objects_whole : ClientChannel → Bool
objects_whole channel = is_attached channel.state && not (object_sync.is_open channel.objects.sync)

-- what is held is shown, whole or not
abbrev pub view_of : List ℕ × ClientChannel → ChannelView
view_of e =
    record {
      name = e.0;
      state = e.1.state;
      held = e.1.held;
      runs = record { segments = reverse (map segment_of e.1.runs) };
      members_whole = members_whole e.1;
      members = members e.1.members;
      objects_whole = objects_whole e.1;
      objects = live_states e.1.objects.pool;
    }

abbrev pub findings_of : ClientState → ClientFindings
findings_of state =
    record {
      name = state.name;
      state = state.conn;
      conn = state.id;
      pending = length state.queue.pending;
      dropped = state.dropped;
      answers = state.answers;
      views = map view_of state.channels;
    }
