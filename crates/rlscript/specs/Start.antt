-- How the program starts: from its arguments. (This project's own.)
use Rattle.std.specs.Prelude.{◌≡◌, ◌⊎◌, ℕ, Bool, false, List, drop, Option, Result, Ok, Err, String}
use Rattle.std.specs.Io.KnownBytes.{Keeps}
use Rattle.std.specs.Vec.Iter.{into_iter_items}
use Rattle.std.specs.declared.alloc.Global.{Global}
use Rattle.std.specs.declared.vec.IntoIter.{IntoIter}
use Rattle.rl_world.specs.State.{WorldState}
use Rattle.rlscript.specs.Top.{asks_for_run, words_of, Outside, Unread, Ends}

-- the arguments after the first, which is the program's name
abbrev pub words_after_name : IntoIter (String Global) Global → List (String Global)
words_after_name args = drop 1 (into_iter_items args)

-- whether a run is asked for. Arguments that cannot be had, as where one is not UTF-8, are other words
abbrev pub args_ask_for_run : {E : Type 0} → Result (IntoIter (String Global) Global) E → Bool
args_ask_for_run (Ok args) = asks_for_run (words_of (words_after_name args))
args_ask_for_run (Err _) = false

-- there was no memory for the words, and nothing was done
pub record RanOut (o : Outside) (status : ℕ) : Type 0 where
  pub is : status ≡ 7
  pub unread : Unread o
  pub unwritten : Keeps o.written o.written_after

-- the program ends with the status of the top call, whose world it lets go
abbrev pub EndsProgram : Bool → Outside → ℕ → Type 0
EndsProgram asked o status = ((world : Option WorldState) × Ends asked o status world) ⊎ RanOut o status
