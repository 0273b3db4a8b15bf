-- Whatever a script with small lines sends is small.
use Rattle.std.proofs.Common.{◌≡◌, ℕ, zero, suc, ◌+◌, ◌<◌, ◌≤◌, ◌^◌, List, [], ◌∷◌, ◌++◌, length, take, drop, refl, sym, ◌∙◌, ap, subst, arith, length-append, append-nil}
use Rattle.std.specs.Prelude.{⊤, Option, Some, None, fold, option_to_list}
use Rattle.std.specs.List.{AllByRecursion}
use Rattle.std.proofs.lemmas.List.Sums.{sum_by-cons}
use Rattle.rl_types.specs.Weight.{option_len}
use Rattle.rl_events.specs.declared.channel.ChannelEvent.{ChannelEvent}
use Rattle.rl_events.specs.declared.channel.ChannelEvent.TheVariants.{Put, Join}
use Rattle.rl_types.specs.declared.messages.Entry.{Entry}
use Rattle.rl_types.specs.declared.messages.Body.{Body}
use Rattle.rl_types.specs.declared.messages.Body.TheVariants.{Messages, Presence, Objects}
use Rattle.rl_types.specs.declared.messages.Given.{Given}
use Rattle.rl_types.specs.declared.messages.Given.TheVariants.{Ours}
use Rattle.rl_runs.specs.declared.findings.Segment.{Segment}
use Rattle.rl_runs.specs.declared.script.Line.{Line}
use Rattle.rl_runs.specs.declared.script.Line.TheVariants as lines
use Rattle.rl_runs.specs.declared.commands.Command.{Command}
use Rattle.rl_runs.specs.declared.commands.Command.TheVariants.{Attach, AttachAt, Publish}
use Rattle.rl_types.specs.declared.states.ConnState.{ConnState}
use Rattle.rl_types.specs.declared.states.ConnState.TheVariants as conn
use Rattle.rl_types.specs.declared.states.ChanState.{ChanState}
use Rattle.rl_types.specs.declared.states.ChanState.TheVariants as chan
use Rattle.rl_model.specs.declared.plain.Client.{Client}
use Rattle.rl_model.specs.declared.plain.Sent.{Sent}
use Rattle.rl_model.specs.declared.plain.Sent.TheVariants.{Asks, Sends}
use Rattle.rl_model.specs.Ids.{filled}
use Rattle.rl_model.specs.History.{clock, setting}
use Rattle.rl_model.specs.Verdict.{Judgement, Stale, Again, Known, Fails, Adds, judged, decisions, entry_if, entry_of, entries, log}
use Rattle.rl_model.specs.Limits.{IsChannelName, IsSmallBody, IsSmallCommand, IsSmallLine, AreSmallLines}
use Rattle.rl_model.specs.Records.{the_site, held_of, last_segment, got_in}
use Rattle.rl_model.specs.Client.{new_client, held, opened, dropped, numbered, pending, attach_again, attaching_again, connected, if_connected, attach_in, act, channel_of}
use Rattle.rl_model.specs.World.{World, the_conn, feed_conn, empty_world, with_client, serve_for, serve_next, finish, serve_all, settle, settle_in, named, named_by, changed, feed, one_message, after_line, final}
use Rattle.rl_model.specs.Script.{fed_by, fed, published}
use Rattle.rl_claims.proofs.Sound.{each_weaker, each_and}
use Rattle.rl_world.specs.Travels.{IsOwnSerial, IsSmallSent, IsNamed, IsNamedFor, IsSmallEntry, IsSmallLog, IsSmallClient, HasSmallClient, HasSmallName, IsSmallWorld, CanTravel, AllTravel, published_by, SendsSmall}
use Rattle.rl_world.proofs.Added.{made_length}
use Rattle.rl_world.proofs.Fed.{line_fed}

-- ENTRIES

small_filled : (site : List ℕ) (place conn serial now : ℕ) (body : Body) → serial < 2 ^ 64 → IsSmallBody body → IsSmallBody (filled site place conn serial now body)
small_filled site place conn serial now (Messages []) low small = absurd small
small_filled site place conn serial now (Messages (item ∷ [])) low small = of item.id small.id
  where
    of : (id : Option (List ℕ)) → option_len id ≤ 64 → IsSmallBody (filled site place conn serial now (Messages (record item { id = id } ∷ [])))
    of None short = record { id = made_length conn serial 0 low (omega arith); name = small.name; payload = small.payload; encoding = small.encoding; client = small.client }
    of (Some text) short = record { id = short; name = small.name; payload = small.payload; encoding = small.encoding; client = small.client }
small_filled site place conn serial now (Messages (item ∷ next ∷ items)) low small = absurd small
small_filled site place conn serial now (Presence items) low small = absurd small
small_filled site place conn serial now (Objects ops) low small = absurd small

with_entry : (judgement : Judgement) (entry : Entry) (all : List Entry) → IsSmallEntry entry → AllByRecursion IsSmallEntry all
    → AllByRecursion IsSmallEntry (all ++ option_to_list (entry_if judgement entry))
with_entry Adds entry all own each = each_and IsSmallEntry all entry each own
with_entry Stale entry all own each = subst (AllByRecursion IsSmallEntry) (sym (append-nil all)) each
with_entry (Again outcome) entry all own each = subst (AllByRecursion IsSmallEntry) (sym (append-nil all)) each
with_entry (Known place) entry all own each = subst (AllByRecursion IsSmallEntry) (sym (append-nil all)) each
with_entry (Fails code) entry all own each = subst (AllByRecursion IsSmallEntry) (sym (append-nil all)) each

small_put : (conn serial : ℕ) (body : Body) (now : ℕ) (past : List ChannelEvent) → serial < 2 ^ 64 → IsSmallBody body → IsSmallLog past → IsSmallLog (Put conn serial body now ∷ past)
small_put conn serial body now past low own each =
    let stamp : ℕ = clock (Put conn serial body now ∷ past) in
    let set = setting the_site (Put conn serial body now ∷ past) in
    with_entry (judged set (decisions the_site past) conn serial body) (entry_of set (length (entries (decisions the_site past))) conn serial body) (log the_site past)
    (small_filled the_site (length (entries (decisions the_site past)) + 1) conn serial stamp body low own) each

small_join : (asked : Option Given) (past : List ChannelEvent) → IsSmallLog past → IsSmallLog (Join asked ∷ past)
small_join asked past each = subst (AllByRecursion IsSmallEntry) (sym (append-nil (log the_site past))) each

-- WHAT IS SENT

small_numbered : (k : ℕ) (bodies : List Body) → k + length bodies < 2 ^ 53 → AllByRecursion IsSmallBody bodies → AllByRecursion IsSmallSent (numbered k bodies)
small_numbered k [] few each = tt
small_numbered k (body ∷ bodies) few each =
    ((omega (arith, few), each.0), small_numbered (suc k) bodies (omega (arith, few)) each.1)

small_dropped : (n : ℕ) (all : List Sent) → AllByRecursion IsSmallSent all → AllByRecursion IsSmallSent (drop n all)
small_dropped zero all each = each
small_dropped (suc n) [] each = tt
small_dropped (suc n) (s ∷ all) each = small_dropped n all each.1

both_small : {X : Type 0} (P : X → Type 0) (xs ys : List X) → AllByRecursion P xs → AllByRecursion P ys → AllByRecursion P (xs ++ ys)
both_small P [] ys front back = back
both_small P (x ∷ xs) ys front back = (front.0, both_small P xs ys front.1 back)

own_held : (asked : Option Given) (last : Option Segment) → IsOwnSerial asked → IsOwnSerial (held_of asked last)
own_held asked None own = own
own_held asked (Some segment) own = tt

small_again : (state : ChanState) (serial : Option Given) → IsOwnSerial serial → AllByRecursion IsSmallSent (attach_again state serial)
small_again chan.Attaching serial own = (own, tt)
small_again chan.Attached serial own = (own, tt)
small_again chan.Initialized serial own = tt
small_again chan.Detaching serial own = tt
small_again chan.Detached serial own = tt
small_again chan.Suspended serial own = tt
small_again chan.Failed serial own = tt

-- the same channel, messages and what is to be sent
still_named : (channel : Option (List ℕ)) (old new : Client) → new.chan ≡ old.chan → new.published ≡ old.published → new.sent ≡ old.sent → IsNamedFor channel old → IsNamedFor channel new
still_named None old new state bodies sent is = (state ∙ is.0, bodies ∙ is.1, sent ∙ is.2)
still_named (Some name) old new state bodies sent is = is

named_connected : (channel : Option (List ℕ)) (client : Client) → IsNamedFor channel client → IsNamedFor channel (connected client)
named_connected (Some name) client is = is
named_connected None client is =
    let none : drop (length client.answers) (numbered 0 client.published) ≡ [] = ap (λ bodies. drop (length client.answers) (numbered 0 bodies)) is.1 ∙ drop_none (length client.answers) in
    (ap attaching_again is.0, is.1, ap (λ state. attach_again state (held client) ++ pending client) is.0 ∙ none)
  where
    drop_none : (n : ℕ) → drop n (numbered 0 []) ≡ []
    drop_none zero = refl
    drop_none (suc n) = refl

small_connected : (most : ℕ) (channel : Option (List ℕ)) (client : Client) → most < 2 ^ 53 → IsSmallClient most channel client → IsSmallClient most channel (connected client)
small_connected most channel client low small = record {
  given = small.given;
  bodies = small.bodies;
  few = small.few;
  each =
      both_small IsSmallSent (attach_again client.chan (held client)) (pending client)
      (small_again client.chan (held client) (own_held client.asked (last_segment client.segments) small.given))
      (small_dropped (length client.answers) (numbered 0 client.published) (small_numbered 0 client.published (omega (arith, small.few, low)) small.bodies));
  named = named_connected channel client small.named;
}

-- SERVING

-- serving leaves the channel's name
pub served_channel : (client : Option Client) (world : World) (sent : Sent) → (serve_for world client sent).channel ≡ world.channel
served_channel None world sent = refl
served_channel (Some client) world (Asks asked) = refl
served_channel (Some client) world (Sends serial body) = refl

pub all_served_channel : (all : List Sent) (world : World) → (fold serve_next world all).channel ≡ world.channel
all_served_channel [] world = refl
all_served_channel (sent ∷ all) world = all_served_channel all (serve_next world sent) ∙ served_channel world.client world sent

served_log : (client : Option Client) (world : World) (sent : Sent) → IsSmallSent sent → IsSmallLog world.past → IsSmallLog (serve_for world client sent).past
served_log None world sent own each = each
served_log (Some client) world (Asks asked) own each = small_join asked world.past each
served_log (Some client) world (Sends serial body) own each = small_put the_conn serial body 0 world.past (omega (arith, own.0)) own.1 each

pub all_served_log : (all : List Sent) (world : World) → AllByRecursion IsSmallSent all → IsSmallLog world.past → IsSmallLog (fold serve_next world all).past
all_served_log [] world own each = each
all_served_log (sent ∷ all) world own each = all_served_log all (serve_next world sent) own.1 (served_log world.client world sent own.0 each)

named_any : (channel : Option (List ℕ)) (client : Client) → IsNamed channel → IsNamedFor channel client
named_any None client is = absurd is
named_any (Some name) client is = is

small_served : (most : ℕ) (world : World) (client : Option Client) (sent : Sent) → IsSmallWorld most world → HasSmallClient most world.channel client → CanTravel world.channel sent
    → IsSmallWorld most (serve_for world client sent)
small_served most world None sent small own can = small
small_served most world (Some client) (Asks asked) small own can = record {
  name = small.name;
  entries = small_join asked world.past small.entries;
  client = record { given = own.given; bodies = own.bodies; few = own.few; each = own.each; named = named_any world.channel _ can.0 };
}
small_served most world (Some client) (Sends serial body) small own can = record {
  name = small.name;
  entries = small_put the_conn serial body 0 world.past (omega (arith, can.1.0)) can.1.1 small.entries;
  client = record { given = own.given; bodies = own.bodies; few = own.few; each = own.each; named = named_any world.channel _ can.0 };
}

pub all_served_small : (most : ℕ) (all : List Sent) (world : World) → IsSmallWorld most world → AllTravel world.channel all → IsSmallWorld most (fold serve_next world all)
all_served_small most [] world small can = small
all_served_small most (sent ∷ all) world small can =
    all_served_small most all (serve_next world sent) (small_served most world world.client sent small small.client can.0)
    (subst (λ channel. AllTravel channel all) (sym (served_channel world.client world sent)) can.1)

finished_small : (most : ℕ) (world : World) (client : Option Client) → IsSmallWorld most world → HasSmallClient most world.channel client → IsSmallWorld most (finish world client)
finished_small most world None small own = small
finished_small most world (Some client) small own = record {
  name = small.name;
  entries = small.entries;
  client = record { given = own.given; bodies = own.bodies; few = own.few; each = own.each; named = still_named world.channel client (record client { segments = got_in client.chan (log the_site world.past) client.segments }) refl refl refl own.named };
}

-- what is to be served can travel
pub all_travel : (most : ℕ) (channel : Option (List ℕ)) (client : Client) → IsSmallClient most channel client → AllTravel channel client.sent
all_travel most None client small = subst (λ all. AllTravel None all) (sym small.named.2) tt
all_travel most (Some name) client small = each_weaker IsSmallSent (CanTravel (Some name)) (λ sent own. (small.named, own)) client.sent small.each

-- the client's things are taken from it
pub small_taken : (most : ℕ) (channel : Option (List ℕ)) (client : Client) → IsSmallClient most channel client → IsSmallClient most channel (record client { sent = [] })
small_taken most channel client small = record { given = small.given; bodies = small.bodies; few = small.few; each = tt; named = still channel small.named }
  where
    still : (channel : Option (List ℕ)) → IsNamedFor channel client → IsNamedFor channel (record client { sent = [] })
    still None is = (is.0, is.1, refl)
    still (Some name) is = is

serve_all_small : (most : ℕ) (world : World) (client : Client) → IsSmallWorld most world → IsSmallClient most world.channel client → IsSmallWorld most (serve_all world client)
serve_all_small most world client small own =
    let start : World = with_client world (record client { sent = [] }) in
    let begun : IsSmallWorld most start = record { name = small.name; entries = small.entries; client = small_taken most world.channel client own } in
    let done = all_served_small most client.sent start begun (all_travel most world.channel client own) in
    finished_small most (fold serve_next start client.sent) (fold serve_next start client.sent).client done done.client

settled_small : (most : ℕ) (state : ConnState) (world : World) (client : Client) → most < 2 ^ 53 → IsSmallWorld most world → IsSmallClient most world.channel client → IsSmallWorld most (settle_in state world client)
settled_small most conn.Connecting world client low small own = serve_all_small most world (connected client) small (small_connected most world.channel client low own)
settled_small most conn.Connected world client low small own = serve_all_small most world client small own
settled_small most conn.Initialized world client low small own = small
settled_small most conn.Disconnected world client low small own = small
settled_small most conn.Suspended world client low small own = small
settled_small most conn.Closing world client low small own = small
settled_small most conn.Closed world client low small own = small
settled_small most conn.Failed world client low small own = small

settle_small : (most : ℕ) (world : World) (client : Option Client) → most < 2 ^ 53 → IsSmallWorld most world → HasSmallClient most world.channel client → IsSmallWorld most (settle world client)
settle_small most world None low small own = small
settle_small most world (Some client) low small own = settled_small most client.conn world client low small own

-- LINES

named_well : (channel : Option (List ℕ)) (name : List ℕ) → HasSmallName channel → IsChannelName name → HasSmallName (named channel name)
named_well None name has is = is
named_well (Some earlier) name has is = has

named_then : (channel : Option (List ℕ)) (name : List ℕ) (client : Client) → HasSmallName channel → IsChannelName name → IsNamedFor (named channel name) client
named_then None name client has is = is
named_then (Some earlier) name client has is = has

-- the client's channel is named
renamed : (most : ℕ) (channel : Option (List ℕ)) (name : List ℕ) (client : Option Client) → HasSmallName channel → IsChannelName name → HasSmallClient most channel client → HasSmallClient most (named channel name) client
renamed most channel name None has is own = tt
renamed most channel name (Some client) has is own = record { given = own.given; bodies = own.bodies; few = own.few; each = own.each; named = named_then channel name client has is }

more_client : (most more : ℕ) (channel : Option (List ℕ)) (client : Option Client) → most ≤ more → HasSmallClient most channel client → HasSmallClient more channel client
more_client most more channel None le own = tt
more_client most more channel (Some client) le own = record { given = own.given; bodies = own.bodies; few = omega (arith, own.few, le); each = own.each; named = own.named }

more_world : (most more : ℕ) (world : World) → most ≤ more → IsSmallWorld most world → IsSmallWorld more world
more_world most more world le small = record { name = small.name; entries = small.entries; client = more_client most more world.channel world.client le small.client }

connection_kept : (most : ℕ) (channel : Option (List ℕ)) (client : Client) (state : ConnState) → IsSmallClient most channel client → IsSmallClient most channel (record client { conn = state })
connection_kept most channel client state small = record { given = small.given; bodies = small.bodies; few = small.few; each = small.each; named = still_named channel client (record client { conn = state }) refl refl refl small.named }

with_sent : (all : List Sent) (state : ConnState) (sent : Sent) → AllByRecursion IsSmallSent all → IsSmallSent sent → AllByRecursion IsSmallSent (all ++ if_connected state sent)
with_sent all conn.Connected sent each own = each_and IsSmallSent all sent each own
with_sent all conn.Initialized sent each own = subst (AllByRecursion IsSmallSent) (sym (append-nil all)) each
with_sent all conn.Connecting sent each own = subst (AllByRecursion IsSmallSent) (sym (append-nil all)) each
with_sent all conn.Disconnected sent each own = subst (AllByRecursion IsSmallSent) (sym (append-nil all)) each
with_sent all conn.Suspended sent each own = subst (AllByRecursion IsSmallSent) (sym (append-nil all)) each
with_sent all conn.Closing sent each own = subst (AllByRecursion IsSmallSent) (sym (append-nil all)) each
with_sent all conn.Closed sent each own = subst (AllByRecursion IsSmallSent) (sym (append-nil all)) each
with_sent all conn.Failed sent each own = subst (AllByRecursion IsSmallSent) (sym (append-nil all)) each

-- what a client of a named channel has
record IsSmallFor (most : ℕ) (client : Client) : Type 0 where
  given : IsOwnSerial client.asked
  bodies : AllByRecursion IsSmallBody client.published
  few : length client.published ≤ most
  each : AllByRecursion IsSmallSent client.sent

attached_small : (most : ℕ) (state : ChanState) (asked : Option Given) (client : Client) → IsOwnSerial asked → IsSmallFor most client → IsSmallFor most (attach_in state asked client)
attached_small most chan.Initialized asked client own small = record { given = own; bodies = small.bodies; few = small.few; each = with_sent client.sent client.conn (Asks asked) small.each own }
attached_small most chan.Attaching asked client own small = small
attached_small most chan.Attached asked client own small = small
attached_small most chan.Detaching asked client own small = small
attached_small most chan.Detached asked client own small = small
attached_small most chan.Suspended asked client own small = small
attached_small most chan.Failed asked client own small = small

more_small : (most more : ℕ) (client : Client) → most ≤ more → IsSmallFor most client → IsSmallFor more client
more_small most more client le small = record { given = small.given; bodies = small.bodies; few = omega (arith, small.few, le); each = small.each }

acted_small : (most : ℕ) (command : Command) (name : List ℕ) (client : Client) → most < 2 ^ 53 → IsSmallCommand command → IsSmallFor most client → IsSmallFor (most + published_by (lines.Act name command)) (act command client)
acted_small most (Attach channel) name client low is small = more_small most (most + 0) (attach_in client.chan None client) (omega arith) (attached_small most client.chan None client tt small)
acted_small most (AttachAt channel serial) name client low is small = more_small most (most + 0) (attach_in client.chan (Some (Ours serial)) client) (omega arith) (attached_small most client.chan (Some (Ours serial)) client tt small)
acted_small most (Publish channel items) name client low is small = record {
  given = small.given;
  bodies = each_and IsSmallBody client.published (Messages items) small.bodies is.1;
  few = omega (arith, small.few, length-append client.published (Messages items ∷ []));
  each = with_sent client.sent client.conn (Sends (length client.published) (Messages items)) small.each (omega (arith, small.few, low), is.1);
}
acted_small most _ name client low is small = more_small most (most + 0) client (omega arith) small

-- a command that names this channel
act_named : (most : ℕ) (command : Command) (name channel : List ℕ) (world : World) (client : Option Client) → most < 2 ^ 53 → IsSmallCommand command → IsChannelName channel → IsSmallWorld most world → HasSmallClient most world.channel client
    → IsSmallWorld (most + published_by (lines.Act name command)) (changed (act command) (record world { channel = named world.channel channel }) client)
act_named most command name channel world None low is naming small own = record {
  name = named_well world.channel channel small.name naming;
  entries = small.entries;
  client = more_client most (most + published_by (lines.Act name command)) (named world.channel channel) world.client (omega arith) (renamed most world.channel channel world.client small.name naming small.client);
}
act_named most command name channel world (Some client) low is naming small own =
    let acted : IsSmallFor (most + published_by (lines.Act name command)) (act command client) =
    acted_small most command name client low is (record { given = own.given; bodies = own.bodies; few = own.few; each = own.each }) in
    record {
      name = named_well world.channel channel small.name naming;
      entries = small.entries;
      client = record { given = acted.given; bodies = acted.bodies; few = acted.few; each = acted.each; named = named_then world.channel channel (act command client) small.name naming };
    }

-- one that does nothing
idle_small : (most : ℕ) (change : Client → Client) (world : World) (client : Option Client) → ((client : Client) → change client ≡ client) → IsSmallWorld most world → HasSmallClient most world.channel client
    → IsSmallWorld (most + 0) (changed change world client)
idle_small most change world None same small own = more_world most (most + 0) world (omega arith) small
idle_small most change world (Some client) same small own = record {
  name = small.name;
  entries = small.entries;
  client = subst (λ (c : Client). IsSmallClient (most + 0) world.channel c) (sym (same client)) (more_client most (most + 0) world.channel (Some client) (omega arith) own);
}

act_small : (most : ℕ) (command : Command) (name : List ℕ) (world : World) (client : Option Client) → most < 2 ^ 53 → IsSmallCommand command → IsSmallWorld most world → HasSmallClient most world.channel client
    → IsSmallWorld (most + published_by (lines.Act name command)) (changed (act command) (record world { channel = named_by world.channel (channel_of command) }) client)
act_small most (Attach channel) name world client low is small own = act_named most (Attach channel) name channel world client low is is small own
act_small most (AttachAt channel serial) name world client low is small own = act_named most (AttachAt channel serial) name channel world client low is is small own
act_small most (Publish channel items) name world client low is small own = act_named most (Publish channel items) name channel world client low is is.0 small own
act_small most _ name world client low is small own = idle_small most (λ client. client) world client (λ client. refl) small own

fed_small : (count : ℕ) (body : Body) (serial : ℕ) (past : List ChannelEvent) → serial + count < 2 ^ 64 → IsSmallBody body → IsSmallLog past → IsSmallLog (feed count body serial past)
fed_small zero body serial past fits own each = each
fed_small (suc count) body serial past fits own each =
    fed_small count body (suc serial) (Put feed_conn serial body 0 ∷ past) (omega (arith, fits)) own (small_put feed_conn serial body 0 past (omega (arith, fits)) own each)

new_named : (channel : Option (List ℕ)) (name : List ℕ) → HasSmallName channel → IsNamedFor channel (new_client name)
new_named None name has = (refl, refl, refl)
new_named (Some earlier) name has = has

conn_small : (most : ℕ) (change : ConnState → ConnState) (world : World) (client : Option Client) → IsSmallWorld most world → HasSmallClient most world.channel client
    → IsSmallWorld most (changed (λ (client : Client). record client { conn = change client.conn }) world client)
conn_small most change world None small own = small
conn_small most change world (Some client) small own = record { name = small.name; entries = small.entries; client = connection_kept most world.channel client (change client.conn) own }

-- one line more
pub line_small : (most : ℕ) (world : World) (line : Line) → most < 2 ^ 53 → world.fed + fed_by line < 2 ^ 64 → IsSmallLine line → IsSmallWorld most world → IsSmallWorld (most + published_by line) (after_line world line)
line_small most world (lines.Client name) low fits is small = record {
  name = small.name;
  entries = small.entries;
  client = record { given = tt; bodies = tt; few = omega arith; each = tt; named = new_named world.channel name small.name };
}
line_small most world (lines.Open name) low fits is small = more_world most (most + 0) (after_line world (lines.Open name)) (omega arith) (conn_small most opened world world.client small small.client)
line_small most world (lines.Cut name) low fits is small = more_world most (most + 0) (after_line world (lines.Cut name)) (omega arith) (conn_small most dropped world world.client small small.client)
line_small most world (lines.Act name command) low fits is small = act_small most command name world world.client low is small small.client
line_small most world (lines.Feed channel count text) low fits is small = record {
  name = named_well world.channel channel small.name is.0;
  entries = fed_small count (one_message text) world.fed world.past fits (record { id = omega arith; name = refl; payload = is.1; encoding = refl; client = refl }) small.entries;
  client = more_client most (most + 0) (named world.channel channel) world.client (omega arith) (renamed most world.channel channel world.client small.name is.0 small.client);
}
line_small most world lines.Settle low fits is small = more_world most (most + 0) (settle world world.client) (omega arith) (settle_small most world world.client low small small.client)
line_small most world _ low fits is small = more_world most (most + 0) world (omega arith) small

pub empty_small : IsSmallWorld 0 empty_world
empty_small = record { name = tt; entries = tt; client = tt }

-- all lines
lines_small : (script : List Line) (most : ℕ) (world : World) → AllByRecursion IsSmallLine script → most + published script + (world.fed + fed script) < 2 ^ 53 → IsSmallWorld most world
    → IsSmallWorld (most + published script) (fold after_line world script)
lines_small [] most world each low small = more_world most (most + published []) world (omega arith) small
lines_small (line ∷ script) most world each low small =
    let fed_split : fed (line ∷ script) ≡ fed_by line + fed script = sum_by-cons fed_by line script in
    let published_split : published (line ∷ script) ≡ published_by line + published script = sum_by-cons published_by line script in
    let after : IsSmallWorld (most + published_by line) (after_line world line) = line_small most world line (omega (arith, low)) (omega (arith, low, fed_split)) each.0 small in
    let so_far : (after_line world line).fed ≡ world.fed + fed_by line = line_fed world line in
    more_world (most + published_by line + published script) (most + published (line ∷ script)) (fold after_line (after_line world line) script) (omega (arith, published_split))
    (lines_small script (most + published_by line) (after_line world line) each.1 (omega (arith, low, fed_split, published_split, so_far)) after)

-- what a script with small lines sends is small, and its messages have serials
pub final_small : (script : List Line) → AreSmallLines script → published script + fed script < 2 ^ 53 → SendsSmall (final script)
final_small script each low = record {
  most = published script;
  low = omega (arith, low);
  small = more_world (0 + published script) (published script) (final script) (omega arith) (lines_small script 0 empty_world each (omega (arith, low)) empty_small);
}

-- the front of small lines is small
pub front_small : (at : ℕ) (script : List Line) → AreSmallLines script → AreSmallLines (take at script)
front_small zero script each = tt
front_small (suc at) [] each = tt
front_small (suc at) (line ∷ script) each = (each.0, front_small at script each.1)

-- what can travel, one by one
pub travel_front : (channel : Option (List ℕ)) (all : List Sent) (sent : Sent) → AllTravel channel (all ++ sent ∷ []) → AllTravel channel all × CanTravel channel sent
travel_front channel [] sent can = (tt, can.0)
travel_front channel (first ∷ all) sent can = let rest = travel_front channel all sent can.1 in ((can.0, rest.0), rest.1)

-- a client that is made ready is small
abbrev pub IsReadyClient : ℕ → Option (List ℕ) → ConnState → Client → Type 0
IsReadyClient most channel conn.Connecting client = IsSmallClient most channel (connected client)
IsReadyClient most channel state client = IsSmallClient most channel client

abbrev pub HasReadyClient : ℕ → World → Option Client → Type 0
HasReadyClient most world None = ⊤
HasReadyClient most world (Some client) = IsSmallWorld most world × IsReadyClient most world.channel client.conn client

ready_in : (most : ℕ) (channel : Option (List ℕ)) (state : ConnState) (client : Client) → most < 2 ^ 53 → IsSmallClient most channel client → IsReadyClient most channel state client
ready_in most channel conn.Connecting client low small = small_connected most channel client low small
ready_in most channel conn.Connected client low small = small
ready_in most channel conn.Initialized client low small = small
ready_in most channel conn.Disconnected client low small = small
ready_in most channel conn.Suspended client low small = small
ready_in most channel conn.Closing client low small = small
ready_in most channel conn.Closed client low small = small
ready_in most channel conn.Failed client low small = small

ready_for : (most : ℕ) (world : World) (client : Option Client) → most < 2 ^ 53 → IsSmallWorld most world → HasSmallClient most world.channel client → HasReadyClient most world client
ready_for most world None low small own = tt
ready_for most world (Some client) low small own = (small, ready_in most world.channel client.conn client low own)

pub settle_ready : (most : ℕ) (world : World) (client : Option Client) → most < 2 ^ 53 → IsSmallWorld most world → client ≡ world.client → HasReadyClient most world client
settle_ready most world client low small is = ready_for most world client low small (subst (HasSmallClient most world.channel) (sym is) small.client)
