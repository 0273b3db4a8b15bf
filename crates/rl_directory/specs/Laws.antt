-- Laws of the directory, over every list of events. A list of events has the earliest first.
use Rattle.std.specs.Prelude.{◌≡◌, ℕ, ◌<◌, List, ◌∷◌, ◌++◌, length, Some, None, slice_get}
use Rattle.rl_numbers.specs.declared.limits.TheConstants.{MAX_CHANNELS}
use Rattle.rl_events.specs.declared.calls.DirEvent.{DirEvent}
use Rattle.rl_events.specs.declared.calls.DirEvent.TheVariants.{Ask}
use Rattle.rl_events.specs.declared.calls.DirReply.TheVariants.{At, Full}
use Rattle.rl_directory.specs.Directory.{number_of, names_after, reply_after}

-- a number that was given to a name is given to it again
abbrev pub NumbersStay : Type 0
NumbersStay = (past more : List DirEvent) (name : List ℕ) (number : ℕ)
    → reply_after past (Ask name) ≡ At number → reply_after (past ++ (Ask name ∷ more)) (Ask name) ≡ At number

-- and to no other name
abbrev pub NumbersAreApart : Type 0
NumbersAreApart = (past more : List DirEvent) (name other : List ℕ) (number : ℕ)
    → reply_after past (Ask name) ≡ At number → reply_after (past ++ (Ask name ∷ more)) (Ask other) ≡ At number → other ≡ name

abbrev pub NumbersAreBelow : Type 0
NumbersAreBelow = (past : List DirEvent) (name : List ℕ) (number : ℕ) → reply_after past (Ask name) ≡ At number → number < MAX_CHANNELS

-- Full is answered only to a name that is not there, where as many others are there as may be; and it says how many
pub record IsFullOf (past : List DirEvent) (name : List ℕ) (count : ℕ) : Type 0 where
  pub says : count ≡ MAX_CHANNELS
  pub full : length (names_after past) ≡ MAX_CHANNELS
  pub other : number_of name (names_after past) ≡ None

abbrev pub FullIsReached : Type 0
FullIsReached = (past : List DirEvent) (name : List ℕ) (count : ℕ) → reply_after past (Ask name) ≡ Full count → IsFullOf past name count

-- and to each such name, where as many are there as may be
abbrev pub FullIsAnswered : Type 0
FullIsAnswered = (past : List DirEvent) (name : List ℕ)
    → length (names_after past) ≡ MAX_CHANNELS → number_of name (names_after past) ≡ None → reply_after past (Ask name) ≡ Full MAX_CHANNELS

-- the name at each place of the list of names is the one that has this number: so each stands once
abbrev pub NamesAreInOrder : Type 0
NamesAreInOrder = (past : List DirEvent) (name : List ℕ) (number : ℕ)
    → slice_get (names_after past) number ≡ Some name → reply_after past (Ask name) ≡ At number
