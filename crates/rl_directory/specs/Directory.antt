-- The directory of channels: which number a name has. Numbers count from 0, in the order in which the names came. (This
-- project's own.)
use Rattle.std.specs.Prelude.{ℕ, Bool, if◌then◌else◌, nat_le, suc, List, [], ◌∷◌, ◌++◌, length, Option, Some, None, option_map, bytes_eq}
use Rattle.rl_numbers.specs.declared.limits.TheConstants.{MAX_CHANNELS}
use Rattle.rl_events.specs.declared.calls.DirEvent.{DirEvent}
use Rattle.rl_events.specs.declared.calls.DirEvent.TheVariants.{Ask, Names}
use Rattle.rl_events.specs.declared.calls.DirReply.{DirReply}
use Rattle.rl_events.specs.declared.calls.DirReply.TheVariants as replies

-- THE NAMES, IN ORDER OF NUMBER

-- the number of a name, where it was given one
abbrev pub number_of : List ℕ → List (List ℕ) → Option ℕ
number_of name [] = None
number_of name (other ∷ names) = if bytes_eq name other then Some 0 else option_map (λ n. suc n) (number_of name names)

-- as many names are there as may be
abbrev pub is_full : List (List ℕ) → Bool
is_full names = nat_le MAX_CHANNELS (length names)

-- REPLIES

-- a name that is not there yet gets the next number, where it fits
abbrev pub new_number : List (List ℕ) → DirReply
new_number names = if is_full names then replies.Full (length names) else replies.At (length names)

abbrev pub asked_by : Option ℕ → List (List ℕ) → DirReply
asked_by (Some number) names = replies.At number
asked_by None names = new_number names

-- what the directory with these names answers
abbrev pub told : List (List ℕ) → DirEvent → DirReply
told names (Ask name) = asked_by (number_of name names) names
told names Names = replies.Names names

-- HISTORIES

-- the names with one more behind them, where it was given no number and fits
abbrev pub named_by : Option ℕ → List ℕ → List (List ℕ) → List (List ℕ)
named_by (Some number) name names = names
named_by None name names = if is_full names then names else names ++ name ∷ []

-- the names after one event more
abbrev pub after : List (List ℕ) → DirEvent → List (List ℕ)
after names (Ask name) = named_by (number_of name names) name names
after names Names = names

-- the names after these events, the earliest first, where these names were there before
abbrev pub names_from : List (List ℕ) → List DirEvent → List (List ℕ)
names_from names [] = names
names_from names (event ∷ more) = names_from (after names event) more

-- the names after these events, the earliest first
abbrev pub names_after : List DirEvent → List (List ℕ)
names_after past = names_from [] past

-- the reply to an event after these events, the earliest first
abbrev pub reply_after : List DirEvent → DirEvent → DirReply
reply_after past event = told (names_after past) event
