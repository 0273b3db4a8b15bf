-- How many entries a script feeds.
use Rattle.std.proofs.Common.{◌≡◌, ◌+◌, List, [], ◌∷◌, refl, sym, ◌∙◌, ap, arith}
use Rattle.std.specs.Prelude.{Option, Some, None, fold, sum_by}
use Rattle.std.proofs.lemmas.List.Sums.{sum_by-cons}
use Rattle.rl_runs.specs.declared.script.Line.{Line}
use Rattle.rl_runs.specs.declared.script.Line.TheVariants as lines
use Rattle.rl_types.specs.declared.states.ConnState.{ConnState}
use Rattle.rl_types.specs.declared.states.ConnState.TheVariants as conn
use Rattle.rl_model.specs.declared.plain.Client.{Client}
use Rattle.rl_model.specs.declared.plain.Sent.{Sent}
use Rattle.rl_model.specs.declared.plain.Sent.TheVariants.{Asks, Sends}
use Rattle.rl_model.specs.Client.{connected, opened, dropped, act, channel_of}
use Rattle.rl_model.specs.World.{World, empty_world, with_client, serve_for, serve_next, finish, serve_all, settle, settle_in, changed, named_by, after_line, final}
use Rattle.rl_model.specs.Script.{fed, fed_by}

served_fed : (client : Option Client) (world : World) (sent : Sent) → (serve_for world client sent).fed ≡ world.fed
served_fed None world sent = refl
served_fed (Some client) world (Asks asked) = refl
served_fed (Some client) world (Sends serial body) = refl

all_served_fed : (sent : List Sent) (world : World) → (fold serve_next world sent).fed ≡ world.fed
all_served_fed [] world = refl
all_served_fed (s ∷ sent) world = all_served_fed sent (serve_next world s) ∙ served_fed world.client world s

finished_fed : (client : Option Client) (world : World) → (finish world client).fed ≡ world.fed
finished_fed None world = refl
finished_fed (Some client) world = refl

serve_all_fed : (world : World) (client : Client) → (serve_all world client).fed ≡ world.fed
serve_all_fed world client =
    let start : World = with_client world (record client { sent = [] }) in
    let served : World = fold serve_next start client.sent in
    finished_fed served.client served ∙ all_served_fed client.sent start

settled_fed : (state : ConnState) (world : World) (client : Client) → (settle_in state world client).fed ≡ world.fed
settled_fed conn.Connecting world client = serve_all_fed world (connected client)
settled_fed conn.Connected world client = serve_all_fed world client
settled_fed conn.Initialized world client = refl
settled_fed conn.Disconnected world client = refl
settled_fed conn.Suspended world client = refl
settled_fed conn.Closing world client = refl
settled_fed conn.Closed world client = refl
settled_fed conn.Failed world client = refl

settle_fed : (client : Option Client) (world : World) → (settle world client).fed ≡ world.fed
settle_fed None world = refl
settle_fed (Some client) world = settled_fed client.conn world client

changed_fed : (change : Client → Client) (world : World) (client : Option Client) → (changed change world client).fed ≡ world.fed
changed_fed change world None = refl
changed_fed change world (Some client) = refl

pub line_fed : (world : World) (line : Line) → (after_line world line).fed ≡ world.fed + fed_by line
line_fed world (lines.Client name) = omega arith
line_fed world (lines.Open name) = changed_fed (λ (client : Client). record client { conn = opened client.conn }) world world.client ∙ (omega arith)
line_fed world (lines.Cut name) = changed_fed (λ (client : Client). record client { conn = dropped client.conn }) world world.client ∙ (omega arith)
line_fed world (lines.Act name command) =
    changed_fed (act command) (record world { channel = named_by world.channel (channel_of command) }) world.client ∙ (omega arith)
line_fed world (lines.Feed channel count text) = refl
line_fed world lines.Settle = settle_fed world.client world ∙ (omega arith)
line_fed world _ = omega arith

lines_fed : (script : List Line) (world : World) → (fold after_line world script).fed ≡ world.fed + sum_by fed_by script
lines_fed [] world = omega arith
lines_fed (line ∷ script) world =
    let same : world.fed + fed_by line + sum_by fed_by script ≡ world.fed + (fed_by line + sum_by fed_by script) = omega arith in
    lines_fed script (after_line world line) ∙ ap (λ n. n + sum_by fed_by script) (line_fed world line) ∙ same ∙ ap (λ n. world.fed + n) (sym (sum_by-cons fed_by line script))

-- the entries fed are those that the lines feed
pub final_fed : (script : List Line) → (final script).fed ≡ fed script
final_fed script = lines_fed script empty_world ∙ (omega arith)
