-- What a script does: the world that its lines make, one after another, of an empty one. This is the plain
-- reading of scripts with one client and one channel, in which every event of the channel is at moment 0.
-- (This project's own.)
use Rattle.std.specs.Prelude.{ℕ, zero, suc, ◌+◌, List, [], ◌∷◌, ◌++◌, fold, Option, Some, None}
use Rattle.rl_runs.specs.declared.script.Line.{Line}
use Rattle.rl_runs.specs.declared.script.Line.TheVariants as lines
use Rattle.rl_events.specs.declared.channel.ChannelEvent.{ChannelEvent}
use Rattle.rl_events.specs.declared.channel.ChannelEvent.TheVariants.{Put, Join}
use Rattle.rl_events.specs.declared.channel.Verdict.{Verdict}
use Rattle.rl_events.specs.declared.channel.Verdict.TheVariants.{Done, Old}
use Rattle.rl_events.specs.declared.channel.Outcome.TheVariants.{Taken, Refused}
use Rattle.rl_types.specs.declared.messages.Body.{Body}
use Rattle.rl_types.specs.declared.messages.Body.TheVariants.{Messages}
use Rattle.rl_types.specs.declared.states.ConnState.{ConnState}
use Rattle.rl_types.specs.declared.states.ConnState.TheVariants as conn
use Rattle.rl_types.specs.declared.states.ChanState.TheVariants as chan
use Rattle.rl_runs.specs.declared.findings.Answer.{Answer}
use Rattle.rl_runs.specs.declared.findings.Answer.TheVariants.{Ack, Nack}
use Rattle.rl_ids.specs.Forms.{conn_text}
use Rattle.rl_model.specs.declared.plain.Client.{Client}
use Rattle.rl_model.specs.declared.plain.Sent.{Sent}
use Rattle.rl_model.specs.declared.plain.Sent.TheVariants.{Asks, Sends}
use Rattle.rl_model.specs.Verdict.{log, decisions, verdict}
use Rattle.rl_model.specs.Reply.{is_resumed, joined_place}
use Rattle.rl_model.specs.History.{setting}
use Rattle.rl_model.specs.Records.{the_epoch, the_site, segments_after, got_in}
use Rattle.rl_model.specs.Client.{new_client, opened, dropped, connected, act, channel_of}

-- the connection of a script's client, and the one by which entries are fed
abbrev pub the_conn : ℕ
the_conn = 1

abbrev pub feed_conn : ℕ
feed_conn = 0

pub record World : Type 0 where
  pub past : List ChannelEvent  -- the history of the channel, the latest event first
  pub fed : ℕ  -- how many entries were fed
  pub channel : Option (List ℕ)  -- the channel's name
  pub client : Option Client

abbrev pub empty_world : World
empty_world = record { past = []; fed = 0; channel = None; client = None }

abbrev pub with_client : World → Client → World
with_client world client = record world { client = Some client }

-- THE SERVICE TAKES UP WHAT THE CLIENT HAS SENT

-- the acknowledgement that a Put is answered with (RTN7a)
abbrev pub answer_of : ℕ → Verdict → List Answer
answer_of serial (Done (Taken place)) = Ack (conn_text the_conn) serial ∷ []
answer_of serial (Done (Refused code)) = Nack (conn_text the_conn) serial code ∷ []
answer_of serial Old = []

abbrev pub serve : World → Client → Sent → World
serve world client (Asks asked) =
    let place = joined_place the_epoch the_site world.past asked in
    let resumed = is_resumed the_epoch the_site world.past asked in
    record world {
      past = Join asked ∷ world.past;
      client = Some (record client { chan = chan.Attached; segments = segments_after asked resumed place client.segments });
    }
serve world client (Sends serial body) =
    let answer = verdict (setting the_site (Put the_conn serial body 0 ∷ world.past)) (decisions the_site world.past) the_conn serial body in
    record world {
      past = Put the_conn serial body 0 ∷ world.past;
      client = Some (record client { answers = client.answers ++ answer_of serial answer });
    }

abbrev pub serve_for : World → Option Client → Sent → World
serve_for world None sent = world
serve_for world (Some client) sent = serve world client sent

abbrev pub serve_next : World → Sent → World
serve_next world sent = serve_for world world.client sent

-- an attached client gets every later entry
abbrev pub gets_entries : World → Client → World
gets_entries world client =
    with_client world (record client { segments = got_in client.chan (log the_site world.past) client.segments })

abbrev pub finish : World → Option Client → World
finish world None = world
finish world (Some client) = gets_entries world client

-- all that is sent is served in order, and then the client gets what is there
abbrev pub serve_all : World → Client → World
serve_all world client =
    let served = fold serve_next (with_client world (record client { sent = [] })) client.sent in
    finish served served.client

abbrev pub settle_in : ConnState → World → Client → World
settle_in conn.Connecting world client = serve_all world (connected client)
settle_in conn.Connected world client = serve_all world client
settle_in _ world client = world

abbrev pub settle : World → Option Client → World
settle world None = world
settle world (Some client) = settle_in client.conn world client

-- LINES

abbrev pub named : Option (List ℕ) → List ℕ → Option (List ℕ)
named None channel = Some channel
named (Some earlier) channel = Some earlier

abbrev pub named_by : Option (List ℕ) → Option (List ℕ) → Option (List ℕ)
named_by earlier None = earlier
named_by earlier (Some channel) = named earlier channel

abbrev pub changed : (Client → Client) → World → Option Client → World
changed change world None = world
changed change world (Some client) = with_client world (change client)

abbrev pub one_message : List ℕ → Body
one_message text = Messages (record { id = None; name = None; payload = Some text; encoding = None; client = None } ∷ [])

-- the history once this many messages more were fed, the next one with this serial
abbrev pub feed : ℕ → Body → ℕ → List ChannelEvent → List ChannelEvent
feed zero body serial past = past
feed (suc count) body serial past = feed count body (suc serial) (Put feed_conn serial body 0 ∷ past)

-- what a line does. The lines that no script has yet do nothing
abbrev pub after_line : World → Line → World
after_line world (lines.Client name) = record world { client = Some (new_client name) }
after_line world (lines.Open name) = changed (λ (client : Client). record client { conn = opened client.conn }) world world.client
after_line world (lines.Cut name) = changed (λ (client : Client). record client { conn = dropped client.conn }) world world.client
after_line world (lines.Act name command) =
    changed (act command) (record world { channel = named_by world.channel (channel_of command) }) world.client
after_line world (lines.Feed channel count text) =
    record world {
      channel = named world.channel channel;
      fed = world.fed + count;
      past = feed count (one_message text) world.fed world.past;
    }
after_line world lines.Settle = settle world world.client
after_line world line = world

-- the world that a script leaves
abbrev pub final : List Line → World
final script = fold after_line empty_world script
