-- Worlds grow: numbers and histories stay, and so does each call that was made. These are the shapes of lemmas: no law cites them.
use Rattle.std.specs.Prelude.{◌≡◌, ⊤, ℕ, List, [], ◌∷◌, ◌++◌, Some}
use Rattle.rl_events.specs.declared.channel.ChannelEvent.{ChannelEvent}
use Rattle.rl_directory.specs.Directory.{number_of}
use Rattle.rl_worldmodel.specs.World.{World, Transport, CallMade, names}
use Rattle.rl_worldlanes.specs.Following.{past_named}

-- a transport, and what became of it: its owner stays, and what it made stays made
pub record MakesMore (t u : Transport) : Type 0 where
  pub owner : u.owner ≡ t.owner
  pub more : List CallMade
  pub made : u.made ≡ more ++ t.made

-- so with each of them, in its place
abbrev pub MakeMore : List Transport → List Transport → Type 0
MakeMore [] us = ⊤
MakeMore (t ∷ ts) [] = ⊥
MakeMore (t ∷ ts) (u ∷ us) = MakesMore t u × MakeMore ts us

-- a history goes on
pub record HasMore (past after : List ChannelEvent) : Type 0 where
  pub more : List ChannelEvent
  pub is : after ≡ more ++ past

-- a world, and what became of it
pub record Grows (world after : World) : Type 0 where
  pub has : (name : List ℕ) (number : ℕ) → number_of name (names world) ≡ Some number → number_of name (names after) ≡ Some number
  pub past : (name : List ℕ) → HasMore (past_named name world) (past_named name after)
  pub made : MakeMore world.transports after.transports
