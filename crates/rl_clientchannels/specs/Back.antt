-- What a record is again where something that it kept is taken back.
use Rattle.std.specs.Prelude.{◌-◌, Bool, true, false, List, [], ◌∷◌, length, take}
use Rattle.rl_clientmodel.specs.declared.runs.Run.{Run}

-- without a run that began; where the latest one went on there is nothing to be taken back
abbrev pub runs_back : Bool → List Run → List Run
runs_back true runs = runs
runs_back false [] = []
runs_back false (run ∷ earlier) = earlier

-- without the entry that was got last, and without the run that began with it
abbrev pub got_back : Bool → List Run → List Run
got_back false runs = runs_back false runs
got_back true [] = []
got_back true (run ∷ earlier) = record run { got = take (length run.got - 1) run.got } ∷ earlier
