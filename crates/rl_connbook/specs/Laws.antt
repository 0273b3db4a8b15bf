-- Laws of the book, over every range of numbers and every list of events. A list of events has the earliest first.
use Rattle.std.specs.Prelude.{◌≡◌, ℕ, ◌≤◌, ◌<◌, ⊤, ◌⊎◌, List, [], ◌∷◌, ◌++◌, Some}
use Rattle.std.specs.List.{AllByRecursion}
use Rattle.rl_events.specs.declared.book.BookEvent.{BookEvent}
use Rattle.rl_events.specs.declared.book.BookEvent.TheVariants.{Begin, End, Expire}
use Rattle.rl_events.specs.declared.book.BookReply.{BookReply}
use Rattle.rl_events.specs.declared.book.BookReply.TheVariants.{Opened, Limit, Known, Expired}
use Rattle.rl_events.specs.declared.channel.Outcome.{Outcome}
use Rattle.rl_numbers.specs.declared.limits.TheConstants.{MAX_CONNECTIONS}
use Rattle.rl_connbook.specs.declared.range.NumberRange.{NumberRange}
use Rattle.rl_connbook.specs.Records.{record_of}
use Rattle.rl_connbook.specs.Book.{numbers, last_number, history, reply_after}

-- WORDS

-- P holds of some element
abbrev pub SomeOf : {X : Type 0} → (X → Type 0) → List X → Type 0
SomeOf P [] = ⊥
SomeOf P (x ∷ xs) = P x ⊎ SomeOf P xs

abbrev pub IsIn : ℕ → List ℕ → Type 0
IsIn conn ns = SomeOf (λ n. n ≡ conn) ns

-- each number is below those after it
abbrev pub AreRising : List ℕ → Type 0
AreRising [] = ⊤
AreRising (n ∷ ns) = AllByRecursion (λ m. n < m) ns × AreRising ns

abbrev pub IsWithin : NumberRange → ℕ → Type 0
IsWithin range n = (range.after < n) × (n ≤ range.last)

-- the reply gives a new connection this number
abbrev pub Gives : ℕ → BookReply → Type 0
Gives conn (Opened n generation key) = n ≡ conn
Gives conn reply = ⊥

-- the connections that an Expire gave up
abbrev pub given_up : BookReply → List ℕ
given_up (Expired conns) = conns
given_up reply = []

-- an End of this connection and serial, with this outcome
abbrev pub IsEndOf : ℕ → ℕ → Outcome → BookEvent → Type 0
IsEndOf conn serial outcome (End c generation s (Some o)) = (c ≡ conn) × (s ≡ serial) × (o ≡ outcome)
IsEndOf conn serial outcome event = ⊥

-- the connections that stand after these events
abbrev pub standing : NumberRange → List BookEvent → List ℕ
standing range past = numbers (history range past)

-- the last number that was given in these events
abbrev pub last_after : NumberRange → List BookEvent → ℕ
last_after range past = last_number range (history range past)

-- LAWS

-- the connections that stand are in rising order of number
abbrev pub NumbersRise : Type 0
NumbersRise = (range : NumberRange) (past : List BookEvent) → AreRising (standing range past)

-- each has a number of the range
abbrev pub NumbersAreWithin : Type 0
NumbersAreWithin = (range : NumberRange) (past : List BookEvent) → AllByRecursion (IsWithin range) (standing range past)

-- an Open gives a number of the range, which is above each that an earlier Open gave
pub record NumbersAreGivenOnce : Type 0 where
  pub within : (range : NumberRange) (past : List BookEvent) (event : BookEvent) (conn : ℕ)
      → Gives conn (reply_after range past event) → IsWithin range conn
  pub above : (range : NumberRange) (past more : List BookEvent) (earlier later : BookEvent) (first second : ℕ)
      → Gives first (reply_after range past earlier) → Gives second (reply_after range (past ++ earlier ∷ more) later) → first < second

-- an Open is refused where as many connections stand as may, or the last number of the range was given
abbrev pub LimitsAreReached : Type 0
LimitsAreReached = (range : NumberRange) (past : List BookEvent) (event : BookEvent) (count given : ℕ) → range.after ≤ range.last
    → reply_after range past event ≡ Limit count given → (count ≡ MAX_CONNECTIONS) ⊎ (given ≡ range.last)

-- a number that was given and does not stand any more never stands again: so each that an Expire gave up
pub record GoneNumbersStayAway : Type 0 where
  pub gone : (range : NumberRange) (past more : List BookEvent) (conn : ℕ)
      → conn ≤ last_after range past → (IsIn conn (standing range past) → ⊥) → IsIn conn (standing range (past ++ more)) → ⊥
  pub expired : (range : NumberRange) (past more : List BookEvent) (now : ℕ)
      → AllByRecursion (λ conn. IsIn conn (standing range (past ++ Expire now ∷ more)) → ⊥) (given_up (reply_after range past (Expire now)))

-- the generation of a number that was given never falls
abbrev pub GenerationsNeverFall : Type 0
GenerationsNeverFall = (range : NumberRange) (past more : List BookEvent) (conn : ℕ) → conn ≤ last_after range past
    → (record_of conn (history range past)).generation ≤ (record_of conn (history range (past ++ more))).generation

-- what Known says is the outcome of an End of this connection and serial
abbrev pub KnownOutcomesCameByEnds : Type 0
KnownOutcomesCameByEnds = (range : NumberRange) (past : List BookEvent) (conn generation serial : ℕ) (outcome : Outcome)
    → reply_after range past (Begin conn generation serial) ≡ Known outcome → SomeOf (IsEndOf conn serial outcome) past

-- no connection with a call in flight is given up
abbrev pub BusyConnectionsStay : Type 0
BusyConnectionsStay = (range : NumberRange) (past : List BookEvent) (now : ℕ)
    → AllByRecursion (λ conn. (record_of conn (history range past)).busy ≡ 0) (given_up (reply_after range past (Expire now)))
