-- What a run shows of a world.
use Rattle.std.specs.Prelude.{ℕ, ◌-◌, List, [], drop, map, fold}
use Rattle.rl_events.specs.declared.channel.ChannelEvent.{ChannelEvent}
use Rattle.rl_runs.specs.declared.findings.ChannelFindings.{ChannelFindings}
use Rattle.rl_runs.specs.declared.findings.Findings.{Findings}
use Rattle.rl_names.specs.Names.{with_entry}
use Rattle.rl_model.specs.Verdict.{log, head}
use Rattle.rl_model.specs.Window.{first}
use Rattle.rl_clientmodel.specs.States.{ClientState}
use Rattle.rl_clientmodel.specs.Shown.{findings_of}
use Rattle.rl_worldmodel.specs.World.{World, the_epoch, the_site}

-- a channel: the entries that are retained
abbrev pub channel_shown : List ℕ × List ChannelEvent → ChannelFindings
channel_shown c =
    record {
      name = c.0;
      first = first the_site c.1;
      head = head the_site c.1;
      entries = drop (first the_site c.1 - 1) (log the_site c.1);
    }

-- the channels that the directory has, in order of name
abbrev pub by_name : List (List ℕ × List ChannelEvent) → List (List ℕ × List ChannelEvent)
by_name channels =
    fold (λ (sorted : List (List ℕ × List ChannelEvent)) (c : List ℕ × List ChannelEvent). with_entry c.0 c.1 sorted) [] channels

-- each channel in order of name, each client in order of declaration
abbrev pub findings : World → Findings
findings world =
    record {
      epoch = the_epoch;
      channels = map channel_shown (by_name world.channels);
      clients = map (λ (c : List ℕ × ClientState). findings_of c.1) world.clients;
    }
