-- The world of a run: the machines of the service, the clients, and the transports between them. (This project's own.)
use Rattle.std.specs.Prelude.{ℕ, zero, suc, Bool, false, if◌then◌else◌, List, [], ◌∷◌, ◌++◌, map, take, drop, Option, Some, None, slice_get, bytes_eq, codes}
use Rattle.rl_numbers.specs.declared.limits.TheConstants.{MAX_CONNECTION}
use Rattle.rl_types.specs.declared.frames.Frame.{Frame}
use Rattle.rl_runs.specs.declared.commands.Hello.{Hello}
use Rattle.rl_events.specs.declared.calls.Call.{Call}
use Rattle.rl_events.specs.declared.channel.ChannelEvent.{ChannelEvent}
use Rattle.rl_connbook.specs.Records.{Answered}
use Rattle.rl_connbook.specs.declared.range.NumberRange.{NumberRange}
use Rattle.rl_clientmodel.specs.States.{ClientState}
use Rattle.rl_actormodel.specs.State as actor

-- A RUN'S SETUP

-- the epoch of the channels
abbrev pub the_epoch : ℕ
the_epoch = 1

-- their site
abbrev pub the_site : List ℕ
the_site = codes "s1"

-- the numbers that the book of connections gives: all that there are
abbrev pub the_range : NumberRange
the_range = record { after = 0; last = MAX_CONNECTION }

-- ONE WAY OF A TRANSPORT

-- the frames that were put, in order, and how many of them were got: what was got is the front of what was put
pub record Way : Type 0 where
  pub put : List Frame
  pub got : ℕ

abbrev pub new_way : Way
new_way = record { put = []; got = 0 }

-- what is under way, in order
abbrev pub under_way : Way → List Frame
under_way way = drop way.got way.put

-- frames are put
abbrev pub with_put : List Frame → Way → Way
with_put frames way = record way { put = way.put ++ frames }

-- the next one is got
abbrev pub with_one_got : Way → Way
with_one_got way = record way { got = suc way.got }

-- what was not got is taken away
abbrev pub without_rest : Way → Way
without_rest way = record way { put = take way.got way.put }

-- A TRANSPORT

-- a call that an actor made: behind how many events its machine took it. So the event of a Join, and what it was
-- answered, are known to be this actor's
pub record CallMade : Type 0 where
  pub call : Call
  pub before : ℕ

pub record Transport : Type 0 where
  pub owner : List ℕ  -- the client's name
  pub actor : actor.State  -- what serves it
  pub made : List CallMade  -- the calls that the actor made, the latest first
  pub to_service : Way
  pub to_client : Way
  pub cut : Bool

-- a client opens it, and it has an actor with what the client brings
abbrev pub new_transport : List ℕ → Hello → ℕ → Transport
new_transport owner hello now =
    record {
      owner = owner;
      actor = actor.begun hello now;
      made = [];
      to_service = new_way;
      to_client = new_way;
      cut = false;
    }

-- THE WORLD

pub record World : Type 0 where
  pub now : ℕ  -- the moment
  pub book : List Answered  -- the book's events with their replies, the latest first
  pub channels : List (List ℕ × List ChannelEvent)  -- by number: the name, and the history, the latest event first
  pub queue : List (ℕ × ℕ)  -- the connections that were given up, each with the number of a channel that is to be told
  pub fed : ℕ  -- how many entries were fed
  pub clients : List (List ℕ × ClientState)  -- by name, in order of declaration
  pub transports : List Transport  -- in order of opening

abbrev pub empty_world : World
empty_world = record { now = 0; book = []; channels = []; queue = []; fed = 0; clients = []; transports = [] }

-- WHAT IS WHERE

abbrev pub client_in : List ℕ → List (List ℕ × ClientState) → Option ClientState
client_in name [] = None
client_in name (c ∷ clients) = if bytes_eq name c.0 then Some c.1 else client_in name clients

-- the client of this name
abbrev pub client_at : List ℕ → World → Option ClientState
client_at name world = client_in name world.clients

-- the numbers of a client's transports, in order of opening, where this is the number of the first in the list
abbrev pub owned : List ℕ → ℕ → List Transport → List ℕ
owned name k [] = []
owned name k (t ∷ more) = if bytes_eq name t.owner then k ∷ owned name (suc k) more else owned name (suc k) more

abbrev pub last_of : List ℕ → Option ℕ
last_of [] = None
last_of (k ∷ []) = Some k
last_of (k ∷ next ∷ more) = last_of (next ∷ more)

-- the number of a client's latest transport
abbrev pub latest : List ℕ → World → Option ℕ
latest name world = last_of (owned name 0 world.transports)

-- the one of this index, counted from 1
abbrev pub nth : ℕ → List ℕ → Option ℕ
nth zero numbers = None
nth (suc n) numbers = slice_get numbers n

-- the number of a client's transport that a line names: by index, counted from 1, or without one the latest
abbrev pub transport_of : List ℕ → Option ℕ → World → Option ℕ
transport_of name None world = latest name world
transport_of name (Some index) world = nth index (owned name 0 world.transports)

-- the names of the channels, by number: those that the directory has
abbrev pub names : World → List (List ℕ)
names world = map (λ (c : List ℕ × List ChannelEvent). c.0) world.channels

abbrev pub past_of : Option (List ℕ × List ChannelEvent) → List ChannelEvent
past_of None = []
past_of (Some c) = c.1

-- the history of the channel of this number, the latest event first
abbrev pub history : ℕ → World → List ChannelEvent
history number world = past_of (slice_get world.channels number)

-- CHANGES IN ONE PLACE

module _ {X : Type 0} where
  abbrev pub changed_at : ℕ → (X → X) → List X → List X
  changed_at n change [] = []
  changed_at zero change (x ∷ xs) = change x ∷ xs
  changed_at (suc n) change (x ∷ xs) = x ∷ changed_at n change xs

-- the transport of this number is changed
abbrev pub on_transport : ℕ → (Transport → Transport) → World → World
on_transport k change world = record world { transports = changed_at k change world.transports }

abbrev pub if_named : List ℕ → (ClientState → ClientState) → List ℕ × ClientState → List ℕ × ClientState
if_named name change c = (c.0, if bytes_eq name c.0 then change c.1 else c.1)

-- the client of this name is changed
abbrev pub on_client : List ℕ → (ClientState → ClientState) → World → World
on_client name change world = record world { clients = map (if_named name change) world.clients }
