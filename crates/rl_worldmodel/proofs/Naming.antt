-- The names of a world's channels after a call of the directory.
use Rattle.std.proofs.Common.{◌≡◌, refl, ℕ, Bool, true, false, cond, List, [], ◌∷◌, ◌++◌, map, Option, Some, None}
use Rattle.std.proofs.lemmas.List.{map-append}
use Rattle.rl_events.specs.declared.channel.ChannelEvent.{ChannelEvent}
use Rattle.rl_events.specs.declared.calls.DirEvent.TheVariants.{Ask, Names}
use Rattle.rl_directory.specs.Directory as directory
use Rattle.rl_worldmodel.specs.World.{World, names}
use Rattle.rl_worldmodel.specs.Calls.{named_by, NamesFollow}

abbrev name_of : List ℕ × List ChannelEvent → List ℕ
name_of c = c.0

named : (full : Bool) (name : List ℕ) (channels : List (List ℕ × List ChannelEvent))
    → map name_of (cond full channels (channels ++ (name, []) ∷ [])) ≡ cond full (map name_of channels) (map name_of channels ++ name ∷ [])
named true name channels = refl
named false name channels = map-append name_of channels ((name, []) ∷ [])

names_by : (found : Option ℕ) (name : List ℕ) (world : World) → names (named_by found name world) ≡ directory.named_by found name (names world)
names_by (Some number) name world = refl
names_by None name world = named (directory.is_full (names world)) name world.channels

pub names_follow : NamesFollow
names_follow world (Ask name) = names_by (directory.number_of name (names world)) name world
names_follow world Names = refl
