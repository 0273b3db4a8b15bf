-- A serial of a connection is put on one channel alone.
use Rattle.std.specs.Prelude.{◌≡◌, ℕ}
use Rattle.rl_connbook.specs.Laws.{SomeOf}
use Rattle.rl_worldmodel.specs.World.{World, history}
use Rattle.rl_worldtold.specs.Truth.{IsPutBy}
use Rattle.rl_worldtold.specs.Runs.{HoldsOfRuns}

-- the channel of this number has a Put of this connection and serial in its history
abbrev pub IsPutOn : World → ℕ → ℕ → ℕ → Type 0
IsPutOn world conn serial number = SomeOf (IsPutBy conn serial) (history number world)

-- two channels with a Put of one connection and serial are one
abbrev pub PutsEachOnOne : World → Type 0
PutsEachOnOne world =
    (conn serial first second : ℕ) → IsPutOn world conn serial first → IsPutOn world conn serial second → first ≡ second

-- a serial of a connection is put on one channel alone
abbrev pub SerialsArePutOnOneChannel : Type 0
SerialsArePutOnOneChannel = HoldsOfRuns PutsEachOnOne
