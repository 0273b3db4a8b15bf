-- The window: which places of the log are retained. (This project's own.)
use Rattle.std.specs.Prelude.{ℕ, suc, ◌+◌, ◌-◌, Bool, true, false, ◌&&◌, if◌then◌else◌, nat_lt, nat_le, List, [], ◌∷◌, length, drop, sum_by}
use Rattle.std.specs.List.{list_all}
use Rattle.rl_events.specs.declared.channel.ChannelEvent.{ChannelEvent}
use Rattle.rl_events.specs.declared.channel.ChannelEvent.TheVariants.{Tick}
use Rattle.rl_types.specs.declared.messages.Entry.{Entry}
use Rattle.rl_types.specs.Weight.{body_weight}
use Rattle.rl_numbers.specs.declared.limits.TheConstants.{MAX_ENTRY_AGE, MAX_WINDOW_ENTRIES, MAX_WINDOW_WEIGHT}
use Rattle.rl_model.specs.History.{clock}
use Rattle.rl_model.specs.Verdict.{log, head}

abbrev pub entry_weight : Entry → ℕ
entry_weight entry = body_weight entry.body

-- so many entries, of so much weight together, may be retained at most
abbrev pub fits : List Entry → Bool
fits window = nat_le (length window) MAX_WINDOW_ENTRIES && nat_le (sum_by entry_weight window) MAX_WINDOW_WEIGHT

-- not too old for a Tick to leave it
abbrev pub is_young : ℕ → Entry → Bool
is_young now entry = nat_le now (entry.stamp + MAX_ENTRY_AGE)

abbrev pub fits_at : ℕ → List Entry → Bool
fits_at now window = fits window && list_all (is_young now) window

-- the least place, from this one on, from which on the entries pass a test. The window begins at this place
abbrev pub least_place : (List Entry → Bool) → ℕ → List Entry → ℕ
least_place test place [] = place
least_place test place (entry ∷ window) =
    if test (entry ∷ window) then place else least_place test (suc place) window

abbrev pub first_after : (List Entry → Bool) → ℕ → List Entry → ℕ
first_after test first log = least_place test first (drop (first - 1) log)

abbrev pub first_next : ChannelEvent → ℕ → Bool → List Entry → ℕ → ℕ
first_next (Tick moment) now added log before = first_after (fits_at now) before log
first_next event now true log before = first_after fits before log
first_next event now false log before = before

-- the least place that is retained: it moves where an entry was added, and at a Tick
abbrev pub first : List ℕ → List ChannelEvent → ℕ
first site [] = 1
first site (event ∷ past) =
    first_next event (clock (event ∷ past)) (nat_lt (head site past) (head site (event ∷ past))) (log site (event ∷ past)) (first site past)

-- a client may go on from this place
abbrev pub is_retained : List ℕ → List ChannelEvent → ℕ → Bool
is_retained site past place = nat_le (first site past - 1) place && nat_le place (head site past)
