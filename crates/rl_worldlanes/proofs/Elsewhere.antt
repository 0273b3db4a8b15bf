-- What the events of a channel are for transports that had no part in them.
use Rattle.std.proofs.Common.{◌≡◌, ◌⊎◌, inl, inr, ℕ, zero, suc, Bool, true, false, List, [], ◌∷◌, ◌++◌, length, refl, sym, ◌∙◌, ap, subst, ◌+◌}
use Rattle.std.specs.Prelude.{Option, Some, None, slice_get, bytes_eq, if◌then◌else◌}
use Rattle.std.proofs.lemmas.List.{map-append}
use Rattle.rl_types.specs.declared.messages.Body.{Body}
use Rattle.rl_events.specs.declared.channel.ChannelEvent.{ChannelEvent}
use Rattle.rl_events.specs.declared.channel.ChannelEvent.TheVariants.{Put, Gone, Tick}
use Rattle.rl_events.specs.declared.calls.Call.{Call}
use Rattle.rl_events.specs.declared.calls.Call.TheVariants as calls
use Rattle.rl_events.specs.declared.calls.DirEvent.TheVariants.{Ask, Names}
use Rattle.rl_directory.specs.Directory.{number_of, is_full}
use Rattle.rl_directory.proofs.Keeping.{or_else, here, behind}
use Rattle.rl_lanes.specs.Lanes.{Link, Lane}
use Rattle.rl_worldmodel.specs.World.{World, Transport, changed_at, names, past_of}
use Rattle.rl_worldmodel.specs.Calls.{with_event, named_by, with_name, called}
use Rattle.rl_worldmodel.specs.Actors.{absorbs, performs}
use Rattle.rl_worldmodel.specs.Services.{expires, reaped, reaps, event_at, ages, feed_conn, fed_at, feeds}
use Rattle.rl_worldtold.specs.Truth.{Channels, names_of}
use Rattle.rl_worldtold.proofs.Shape.{get_after, name_beside}
use Rattle.rl_worldsessions.proofs.Serving.{called_transports}
use Rattle.rl_worldlanes.specs.Views.{Sees}
use Rattle.rl_worldlanes.specs.Following.{setup_of, past_at, past_named}
use Rattle.rl_worldlanes.specs.Serving.{GoesOn, IsServed, AreServed, TakesAtMostOne, AllTakeAtMostOne}
use Rattle.rl_worldlanes.proofs.Mute.{goes_same, goes_happens}
use Rattle.rl_worldlanes.proofs.Histories.{past_same, none_takes, event_takes}

-- TRANSPORTS

-- a lane goes on by the event that its channel took, or as it is
pub goes_beside : (world after : World) (u : Transport) (name : List ℕ) (lane : Lane) (link : Link)
    → lane.past ≡ past_named name world → TakesAtMostOne (past_named name world) (past_named name after)
    → lane.link ≡ Some link → Sees (setup_of name) u link → GoesOn world after u name lane
goes_beside world after u name lane link past (inl same) has sees = goes_same world after u name lane link past same has sees
goes_beside world after u name lane link past (inr one) has sees = goes_happens world after u name lane link one.0 past one.1 has sees

-- a transport that stays
pub still_served : (world after : World) (t : Transport) → AllTakeAtMostOne world after → IsServed world after t t
still_served world after t takes = record {
  owner = refl;
  cut = refl;
  goes_on = λ uncut name lane link past has sees. goes_beside world after t name lane link past (takes name) has sees;
}

-- no transport is changed
pub none_served : (world after : World) → after.transports ≡ world.transports → AllTakeAtMostOne world after → AreServed world after
none_served world after same takes k u found =
    (u, ap (λ (ts : List Transport). slice_get ts k) (sym same) ∙ found, still_served world after u takes)

-- one transport is changed, every other one stays, and each channel takes at most one event
pub one_served : (world after : World) (k : ℕ) (change : Transport → Transport) → after.transports ≡ changed_at k change world.transports
    → AllTakeAtMostOne world after
    → ((t : Transport) → slice_get world.transports k ≡ Some t → IsServed world after t (change t)) → AreServed world after
one_served world after k change same takes step j u found =
    by_change (get_after j k change u world.transports (ap (λ (ts : List Transport). slice_get ts j) (sym same) ∙ found))
  where
    by_change : (slice_get world.transports j ≡ Some u) ⊎ ((t : Transport) × (slice_get world.transports j ≡ Some t) × (u ≡ change t) × (slice_get world.transports k ≡ Some t))
        → (t : Transport) × (slice_get world.transports j ≡ Some t) × IsServed world after t u
    by_change (inl there) = (u, there, still_served world after u takes)
    by_change (inr one) = (one.0, one.1, subst (λ (v : Transport). IsServed world after one.0 v) (sym one.2) (step one.0 one.3))

-- A NAME IS GIVEN A NUMBER

history_more : (n : ℕ) (name : List ℕ) (channels : Channels)
    → past_of (slice_get (channels ++ (name, []) ∷ []) n) ≡ past_of (slice_get channels n)
history_more zero name [] = refl
history_more (suc n) name [] = refl
history_more zero name (c ∷ channels) = refl
history_more (suc n) name (c ∷ channels) = history_more n name channels

history_end : (channels : Channels) → past_of (slice_get channels (length (names_of channels))) ≡ []
history_end [] = refl
history_end (c ∷ channels) = history_end channels

-- a new name's channel begins with no event, and all others stay
more_past : (q name : List ℕ) (world : World) → past_named q (record world { channels = world.channels ++ (name, []) ∷ [] }) ≡ past_named q world
more_past q name world =
    ap (λ (all : List (List ℕ)). past_at (number_of q all) after) (map-append (λ (c : List ℕ × List ChannelEvent). c.0) world.channels ((name, []) ∷ []))
    ∙ ap (λ (o : Option ℕ). past_at o after) (behind q name (names world))
    ∙ by_number (number_of q (names world)) (bytes_eq q name)
  where
    after : World
    after = record world { channels = world.channels ++ (name, []) ∷ [] }

    by_number : (o : Option ℕ) (b : Bool) → past_at (or_else o (here b (length (names world)))) after ≡ past_at o world
    by_number (Some n) b = history_more n name world.channels
    by_number None true = history_more (length (names world)) name world.channels ∙ history_end world.channels
    by_number None false = refl

named_past : (q name : List ℕ) (o : Option ℕ) (full : Bool) (world : World) → is_full (names world) ≡ full
    → past_named q (named_by o name world) ≡ past_named q world
named_past q name (Some number) full world is = refl
named_past q name None true world is = ap (λ (b : Bool). past_named q (record world { channels = if b then world.channels else world.channels ++ (name, []) ∷ [] })) is
named_past q name None false world is =
    ap (λ (b : Bool). past_named q (record world { channels = if b then world.channels else world.channels ++ (name, []) ∷ [] })) is ∙ more_past q name world

-- to ask the directory leaves every history
pub name_past : (q name : List ℕ) (world : World) → past_named q (with_name name world) ≡ past_named q world
name_past q name world = named_past q name (number_of name (names world)) (is_full (names world)) world refl

-- CALLS

-- what each call leaves of every channel
pub call_takes : (world : World) (call : Call) → AllTakeAtMostOne world (called call world)
call_takes world (calls.Book event) = none_takes world (called (calls.Book event) world) refl
call_takes world (calls.Dir (Ask other)) = λ name. inl (name_past name other world)
call_takes world (calls.Dir Names) = none_takes world world refl
call_takes world (calls.Chan number event) = event_takes world (called (calls.Chan number event) world) number event refl

-- a call that is performed leaves the same
pub performs_takes : (world : World) (k : ℕ) (call : Call) → AllTakeAtMostOne world (performs k call world)
performs_takes world k call name =
    subst (TakesAtMostOne (past_named name world)) (sym (past_same name (called call world) (performs k call world) refl)) (call_takes world call name)

-- a call of one transport serves all, where it serves that one
pub performs_served : (world : World) (k : ℕ) (call : Call)
    → ((t : Transport) → slice_get world.transports k ≡ Some t → IsServed world (performs k call world) t (absorbs call world t))
    → AreServed world (performs k call world)
performs_served world k call step =
    one_served world (performs k call world) k (absorbs call world) (ap (changed_at k (absorbs call world)) (called_transports call world))
    (performs_takes world k call) step

-- EVENTS THAT NO TRANSPORT MAKES

reaped_served : (world : World) (queue : List (ℕ × ℕ)) → AreServed world (reaped queue world)
reaped_served world [] = none_served world world refl (none_takes world world refl)
reaped_served world (pair ∷ more) =
    none_served world (reaped (pair ∷ more) world) refl (event_takes world (reaped (pair ∷ more) world) pair.1 (Gone pair.0 world.now) refl)

-- a channel is told of a connection that was given up
pub reaps_served : (world : World) → AreServed world (reaps world)
reaps_served world = reaped_served world world.queue

aged_served : (world : World) (o : Option ℕ) → AreServed world (event_at o (Tick world.now) world)
aged_served world None = none_served world world refl (none_takes world world refl)
aged_served world (Some number) =
    none_served world (with_event number (Tick world.now) world) refl (event_takes world (with_event number (Tick world.now) world) number (Tick world.now) refl)

-- a channel looks at the time
pub ages_served : (world : World) (name : List ℕ) → AreServed world (ages name world)
ages_served world name = aged_served world (number_of name (names world))

-- the directory is asked for a name
pub asks_served : (world : World) (name : List ℕ) → AreServed world (with_name name world)
asks_served world name = none_served world (with_name name world) (name_beside name world).transports (λ q. inl (name_past q name world))

fed_served : (world : World) (o : Option ℕ) (body : Body) → AreServed world (fed_at o body world)
fed_served world None body = none_served world world refl (none_takes world world refl)
fed_served world (Some number) body =
    none_served world (fed_at (Some number) body world) refl (event_takes world (fed_at (Some number) body world) number (Put feed_conn world.fed body world.now) refl)

-- an entry is put that no client puts
pub feeds_served : (world : World) (name : List ℕ) (body : Body) → AreServed world (feeds name body world)
feeds_served world name body = fed_served world (number_of name (names world)) body

-- connections are given up
pub expires_served : (world : World) → AreServed world (expires world)
expires_served world = none_served world (expires world) refl (none_takes world (expires world) refl)

-- time passes
pub passes_served : (world : World) (span : ℕ) → AreServed world (record world { now = world.now + span })
passes_served world span =
    none_served world (record world { now = world.now + span }) refl (none_takes world (record world { now = world.now + span }) refl)
