-- Objects of which there is nothing yet: an empty root alone.
use Rattle.std.specs.Prelude.{Option, Some, None}
use Rattle.rl_objsync.specs.Steps.{ObjectView, bare_view}

abbrev pub objects_in : Option ObjectView → ObjectView
objects_in None = bare_view
objects_in (Some objects) = objects
