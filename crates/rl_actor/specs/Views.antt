-- What the code's own type of what came stands for in the definitions.
use Rattle.rl_actormodel.specs.Takes as takes
use Rattle.rl_actor.specs.declared.taking.Came.{Came}
use Rattle.rl_actor.specs.declared.taking.Came.TheVariants as cames

abbrev pub came_as : Came → takes.Came
came_as (cames.A frame) = takes.A frame
came_as cames.Unknown = takes.Unknown
came_as (cames.Bad bytes) = takes.Bad bytes
