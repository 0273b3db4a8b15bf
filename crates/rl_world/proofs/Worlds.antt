-- Steps of worlds.
use Rattle.std.proofs.Common.{◌≡◌, ℕ, zero, suc, ◌+◌, ◌^◌, ◌<◌, true, List, [], ◌∷◌, sym, ◌∙◌, ap, subst, arith, add-zero}
use Rattle.std.specs.Prelude.{Option, Some, None, fold}
use Rattle.rl_events.specs.declared.channel.ChannelEvent.{ChannelEvent}
use Rattle.rl_events.specs.declared.channel.ChannelEvent.TheVariants.{Put}
use Rattle.rl_types.specs.declared.messages.Body.{Body}
use Rattle.rl_types.specs.declared.messages.Entry.{Entry}
use Rattle.rl_channel.specs.declared.channel.ChannelSetup.{ChannelSetup}
use Rattle.rl_types.specs.declared.states.ConnState.{ConnState}
use Rattle.rl_types.specs.declared.states.ConnState.TheVariants as conn
use Rattle.rl_model.specs.Records.{the_site}
use Rattle.rl_model.specs.declared.plain.Client.{Client}
use Rattle.rl_model.specs.declared.plain.Sent.{Sent}
use Rattle.rl_model.specs.Client.{connected}
use Rattle.rl_model.specs.World.{World, feed, feed_conn, with_client, serve_next, finish, serve_all, settle, settle_in, named, one_message}
use Rattle.rl_channel.specs.State as channels
use Rattle.rl_channel.specs.State.{ChannelState}
use Rattle.rl_world.specs.State.{WorldState, Rest, Shows, shown}
use Rattle.rl_world.specs.Ready.{IsReadyFrom, MakesReady, TakesFrom, TakesSent}
use Rattle.rl_world.specs.Serving.{AfterEach, StandsWith}
use Rattle.rl_model.specs.Verdict.{log}
use Rattle.rl_world.specs.Travels.{AllTravel, IsSmallWorld, IsSmallClient}
use Rattle.rl_world.proofs.Small.{all_travel, all_served_small, small_taken, IsReadyClient, HasReadyClient}

-- one message more is fed behind the others
pub feed_more : (count : ℕ) (body : Body) (serial : ℕ) (past : List ChannelEvent)
    → feed (count + 1) body serial past ≡ Put feed_conn (serial + count) body 0 ∷ feed count body serial past
feed_more zero body serial past = ap (λ n. Put feed_conn n body 0 ∷ past) (sym (add-zero serial))
feed_more (suc count) body serial past =
    let e : suc count + 1 ≡ suc (count + 1) = omega arith in
    let n : suc serial + count ≡ serial + suc count = omega arith in
    ap (λ k. feed k body serial past) e
    ∙ feed_more count body (suc serial) (Put feed_conn serial body 0 ∷ past)
    ∙ ap (λ k. Put feed_conn k body 0 ∷ feed count body (suc serial) (Put feed_conn serial body 0 ∷ past)) n

-- PARTS OF WHAT IS KEPT

same_rest : (one other : Rest) → one.entries ≡ other.entries → one.begun ≡ other.begun → one.fed ≡ other.fed → one.channel ≡ other.channel → one.client ≡ other.client → one ≡ other
same_rest one other entries begun fed channel client =
    ap (λ x. record one { entries = x }) entries
    ∙ ap (λ x. record one { entries = other.entries; begun = x }) begun
    ∙ ap (λ x. record one { entries = other.entries; begun = other.begun; fed = x }) fed
    ∙ ap (λ x. record one { entries = other.entries; begun = other.begun; fed = other.fed; channel = x }) channel
    ∙ ap (λ x. record other { client = x }) client

whose : (state : WorldState) (world : World) → Shows state world → state.client ≡ world.client
whose state world is = ap (λ (r : Rest). r.client) is.rest

pub same_shown : (state old : WorldState) (world : World) → state ≡ old → Shows old world → Shows state world
same_shown state old world same is = subst (λ (s : WorldState). Shows s world) (sym same) is

same_entries : (state : WorldState) (world : World) → Shows state world → state.entries ≡ log the_site world.past
same_entries state world is = ap (λ (r : Rest). r.entries) is.rest

-- the client is another
with_client_shown : (state : WorldState) (world : World) (client : Client) → Shows state world → Shows (record state { client = Some client }) (with_client world client)
with_client_shown state world client is = record {
  machine = is.machine;
  epoch = is.epoch;
  site = is.site;
  rest = ap (λ (r : Rest). record r { client = Some client }) is.rest;
}

-- a client is declared
pub declared_shown : (old new : WorldState) (world : World) (client : Client) → new ≡ record old { client = Some client } → Shows old world → Shows new (record world { client = Some client })
declared_shown old new world client is shows = same_shown new (record old { client = Some client }) (record world { client = Some client }) is (with_client_shown old world client shows)

-- the channel is named
named_shown : (old new : WorldState) (world : World) (channel : List ℕ) → new ≡ record old { channel = named old.channel channel } → Shows old world → Shows new (record world { channel = named world.channel channel })
named_shown old new world channel is shows = subst (λ (s : WorldState). Shows s (record world { channel = named world.channel channel })) (sym is) (record {
  machine = shows.machine;
  epoch = shows.epoch;
  site = shows.site;
  rest = ap (λ (r : Rest). record r { channel = named r.channel channel }) shows.rest;
})

-- the channel took one event more, and nothing else changed
took_one : (world : World) (event : ChannelEvent) (state : WorldState) (machine : ChannelState) (entries : List Entry) → Shows state world
    → channels.StandsAt the_site machine (event ∷ world.past) → machine.setup ≡ state.machine.setup → entries ≡ log the_site (event ∷ world.past)
    → Shows (record state { machine = machine; entries = entries; begun = true }) (record world { past = event ∷ world.past })
took_one world event state machine entries is stands setup follow = record {
  machine = stands;
  epoch = ap (λ (s : ChannelSetup). s.epoch) setup ∙ is.epoch;
  site = ap (λ (s : ChannelSetup). s.site) setup ∙ is.site;
  rest =
      ap (λ (r : Rest). record r { entries = entries; begun = true }) is.rest
      ∙ ap (λ all. record (shown world) { entries = all; begun = true }) follow;
}

-- a message that no client sent was put
pub fed_one : (world : World) (state old : WorldState) (machine : ChannelState) (entries : List Entry) (serial : ℕ) (body given : Body) → state ≡ old → Shows old world → body ≡ given
    → AfterEach state.machine state.entries (λ past. StandsWith machine entries (Put feed_conn serial body 0 ∷ past))
    → machine.setup ≡ state.machine.setup
    → Shows (record state { machine = machine; entries = entries; begun = true }) (record world { past = Put feed_conn serial given 0 ∷ world.past })
fed_one world state old machine entries serial body given same is which_body puts setup =
    let before = same_shown state old world same is in
    let put = puts world.past before.site before.machine (same_entries state world before) in
    subst (λ (b : Body). Shows (record state { machine = machine; entries = entries; begun = true }) (record world { past = Put feed_conn serial b 0 ∷ world.past })) which_body
    (took_one world (Put feed_conn serial body 0) state machine entries before put.0 setup put.1)

-- one more was fed behind the others
pub fed_more : (state : WorldState) (world : World) (count first serial : ℕ) (body : Body) → serial ≡ first + count
    → Shows state (record world { past = Put feed_conn serial body 0 ∷ feed count body first world.past })
    → Shows state (record world { past = feed (count + 1) body first world.past })
fed_more state world count first serial body same is =
    subst (λ past. Shows state (record world { past = past })) (ap (λ n. Put feed_conn n body 0 ∷ feed count body first world.past) same ∙ sym (feed_more count body first world.past)) is

-- the four steps of a settle: the client is made ready, what it has sent is taken and served, and it gets what is
-- there, where all of it can travel
module _ (world : World) (ready taken served done : WorldState) (sent : List Sent) (most : ℕ)
    (takes : TakesSent ready taken sent)
    (serves : (w : World) → Shows taken w → AllTravel w.channel sent → Shows served (fold serve_next w sent))
    (finishes : (w : World) (few : ℕ) → Shows served w → IsSmallWorld few w → Shows done (finish w w.client)) where
  served_from : (client : Client) → IsSmallWorld most world → IsSmallClient most world.channel client → Shows ready (with_client world client) → Shows done (serve_all world client)
  served_from client small own is =
      let took : TakesFrom (Some client) ready taken sent = subst (λ (o : Option Client). TakesFrom o ready taken sent) (whose ready (with_client world client) is) takes in
      let start : World = with_client world (record client { sent = [] }) in
      let empty : Shows taken start = subst (λ (s : WorldState). Shows s start) (sym took.0) (with_client_shown ready (with_client world client) (record client { sent = [] }) is) in
      let begun : IsSmallWorld most start = record { name = small.name; entries = small.entries; client = small_taken most world.channel client own } in
      let travels : AllTravel world.channel client.sent = all_travel most world.channel client own in
      let all : Shows served (fold serve_next start client.sent) =
      subst (λ xs. Shows served (fold serve_next start xs)) took.1 (serves start empty (subst (λ xs. AllTravel world.channel xs) (sym took.1) travels)) in
      finishes (fold serve_next start client.sent) most all (all_served_small most client.sent start begun travels)

  settled_from : (state : ConnState) (client : Client) → IsSmallWorld most world → IsReadyClient most world.channel state client → IsReadyFrom state world client ready true → Shows done (settle_in state world client)
  settled_from conn.Connecting client small own is = served_from (connected client) small own is.1
  settled_from conn.Connected client small own is = served_from client small own is.1
  settled_from conn.Initialized client small own is = absurd (cc)
  settled_from conn.Disconnected client small own is = absurd (cc)
  settled_from conn.Suspended client small own is = absurd (cc)
  settled_from conn.Closing client small own is = absurd (cc)
  settled_from conn.Closed client small own is = absurd (cc)
  settled_from conn.Failed client small own is = absurd (cc)

  pub settled : (client : Option Client) → HasReadyClient most world client → MakesReady world client ready true → Shows done (settle world client)
  settled None own is = absurd (cc)
  settled (Some client) own is = settled_from client.conn client own.0 own.1 is

-- the same where the channel is named and then entries are fed
pub named_and_fed : (world : World) (old named_state new : WorldState) (channel text : List ℕ) (count : ℕ) → Shows old world
    → named_state ≡ record old { channel = named old.channel channel }
    → ((w : World) → Shows named_state w → w.fed + count < 2 ^ 64 → Shows new (record w { fed = w.fed + count; past = feed count (one_message text) w.fed w.past }))
    → world.fed + count < 2 ^ 64
    → Shows new (record world { channel = named world.channel channel; fed = world.fed + count; past = feed count (one_message text) world.fed world.past })
named_and_fed world old named_state new channel text count is names feeds fits =
    feeds (record world { channel = named world.channel channel }) (named_shown old named_state world channel names is) fits
