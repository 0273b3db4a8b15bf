-- The actions of a world: all that can happen in it, one thing at a time.
use Rattle.std.specs.Prelude.{ℕ, ◌+◌, Bool, false, List, fold}
use Rattle.rl_types.specs.declared.messages.Body.{Body}
use Rattle.rl_runs.specs.declared.commands.Command.{Command}
use Rattle.rl_worldmodel.specs.World.{World}
use Rattle.rl_worldmodel.specs.Calls.{with_name}
use Rattle.rl_worldmodel.specs.Clients.{declares, opens, cuts, recovers, obeys, gets, is_there, looks_at_time}
use Rattle.rl_worldmodel.specs.Actors.{steps, is_busy, pages, has_page, polls, gives}
use Rattle.rl_worldmodel.specs.Services.{expires, reaps, has_queued, ages, feeds}

pub data Action : Type 0 where
  Declares : (name : List ℕ) → Action  -- a client is declared
  Opens : (name : List ℕ) → Action  -- a client connects, by a new transport
  Cuts : (name : List ℕ) → Action  -- a client's latest transport is cut
  Recovers : (name : List ℕ) (other : List ℕ) → Action  -- the second client dies, and the first goes on where it stood
  Obeys : (name : List ℕ) (command : Command) → Action  -- a client is told to do something
  Gets : (name : List ℕ) → Action  -- a client gets what is next on its latest transport
  LooksAtTime : (name : List ℕ) → Action  -- a client looks at the time
  Steps : (transport : ℕ) → Action  -- an actor does one thing
  Pages : (transport : ℕ) (channel : List ℕ) → Action  -- it asks for the next page of a sync
  Polls : (transport : ℕ) (channel : List ℕ) → Action  -- it reads a channel
  Passes : (span : ℕ) → Action  -- time passes, in milliseconds
  Expires : Action  -- the book gives up connections that are over
  Reaps : Action  -- one channel is told of one of them
  Ages : (channel : List ℕ) → Action  -- a channel looks at the time
  Asks : (channel : List ℕ) → Action  -- the directory is asked for a name
  Feeds : (channel : List ℕ) (body : Body) → Action  -- one entry is put by no client

-- the world after an action. One that can't be done does nothing
abbrev pub does : Action → World → World
does (Declares name) world = declares name world
does (Opens name) world = opens name world
does (Cuts name) world = cuts name world
does (Recovers name other) world = recovers name other world
does (Obeys name command) world = obeys name command world
does (Gets name) world = gets name world
does (LooksAtTime name) world = looks_at_time name world
does (Steps k) world = steps k world
does (Pages k channel) world = pages k channel world
does (Polls k channel) world = polls k channel world
does (Passes span) world = record world { now = world.now + span }
does Expires world = expires world
does Reaps world = reaps world
does (Ages channel) world = ages channel world
does (Asks channel) world = with_name channel world
does (Feeds channel body) world = feeds channel body world

-- whether an action carries on what is under way: a step that does something, a page that is asked for, a read that gives
-- something, a channel that is told, something that is got. The others begin something, or let time pass
abbrev pub carries_on : Action → World → Bool
carries_on (Steps k) world = is_busy k world
carries_on (Pages k channel) world = has_page k channel world
carries_on (Polls k channel) world = gives k channel world
carries_on Reaps world = has_queued world
carries_on (Gets name) world = is_there name world
carries_on action world = false

abbrev pub after_action : World → Action → World
after_action world action = does action world

-- the world after actions, in order
abbrev pub all_done : List Action → World → World
all_done actions world = fold after_action world actions
