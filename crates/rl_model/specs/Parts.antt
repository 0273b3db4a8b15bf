-- What a history leaves of a channel's log, of its ids and of its outcomes, and what one step of a channel makes
-- of them.
use Rattle.std.specs.Prelude.{ℕ, ◌+◌, ◌-◌, ◌||◌, if◌then◌else◌, ◌==◌, nat_lt, List, [], ◌∷◌, ◌++◌, length, take, drop, find, Option, Some, None, option_map}
use Rattle.rl_events.specs.declared.channel.ChannelEvent.{ChannelEvent}
use Rattle.rl_events.specs.declared.channel.Outcome.{Outcome}
use Rattle.rl_events.specs.declared.channel.ReadReply.{ReadReply}
use Rattle.rl_events.specs.declared.channel.ReadReply.TheVariants.{Run, NotRetained}
use Rattle.rl_types.specs.declared.messages.Entry.{Entry}
use Rattle.rl_numbers.specs.declared.limits.TheConstants.{MAX_REMEMBERED}
use Rattle.rl_model.specs.Verdict.{Added, has_given, added, decisions, kept, log}
use Rattle.rl_model.specs.Window.{first, first_after, fits, fits_at}

pub record Parts : Type 0 where
  pub log : List Entry  -- the whole log
  pub first : ℕ  -- the least place that is retained
  pub added : List Added  -- each entry's given id and place, the latest first
  pub kept : ℕ → Option (ℕ × Outcome)  -- of each connection, its last serial and outcome

-- what a history leaves
abbrev pub parts_of : List ℕ → List ChannelEvent → Parts
parts_of site past =
    record {
      log = log site past;
      first = first site past;
      added = added (decisions site past);
      kept = λ conn. kept conn (decisions site past);
    }

-- STEPS

-- with one more entry, whose Put gave this id. The window moves on
abbrev pub with_entry : Entry → Option (List ℕ) → Parts → Parts
with_entry entry id parts =
    record parts {
      log = parts.log ++ entry ∷ [];
      first = first_after fits parts.first (parts.log ++ entry ∷ []);
      added = record { id = id; place = entry.place } ∷ parts.added;
    }

-- with the outcome of a connection's last serial
abbrev pub with_outcome : ℕ → ℕ → Outcome → Parts → Parts
with_outcome conn serial outcome parts =
    record parts { kept = λ other. if conn == other then Some (serial, outcome) else parts.kept other }

-- without what was kept of a connection
abbrev pub without_outcome : ℕ → Parts → Parts
without_outcome conn parts = record parts { kept = λ other. if conn == other then None else parts.kept other }

-- at a moment of the clock: the window moves past what is too old
abbrev pub aged : ℕ → Parts → Parts
aged now parts = record parts { first = first_after (fits_at now) parts.first parts.log }

-- ANSWERS

-- the entries that are retained
abbrev pub retained : Parts → List Entry
retained parts = drop (parts.first - 1) parts.log

-- the first entries after a place, or that they are not all retained
abbrev pub read_in : Parts → ℕ → ℕ → ReadReply
read_in parts from most =
    if nat_lt (from + 1) parts.first || nat_lt (length parts.log) from
    then NotRetained parts.first
    else Run (take most (drop from parts.log))

-- the place of the entry, among those whose ids are remembered, whose Put gave this id
abbrev pub remembered_in : Parts → List ℕ → Option ℕ
remembered_in parts id = option_map (λ (a : Added). a.place) (find (has_given id) (take MAX_REMEMBERED parts.added))
