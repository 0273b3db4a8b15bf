-- What one more event makes of the names after a history.
use Rattle.std.proofs.Common.{◌≡◌, ℕ, List, [], ◌∷◌, ◌++◌, refl, ap, sym, ◌∙◌}
use Rattle.rl_events.specs.declared.calls.DirEvent.{DirEvent}
use Rattle.rl_directory.specs.Directory.{after, names_from, names_after}

pub from_appended : (names : List (List ℕ)) (past more : List DirEvent) → names_from names (past ++ more) ≡ names_from (names_from names past) more
from_appended names [] more = refl
from_appended names (event ∷ past) more = from_appended (after names event) past more

pub stands_more : (names : List (List ℕ)) (past : List DirEvent) (event : DirEvent) → names ≡ names_after past → after names event ≡ names_after (past ++ event ∷ [])
stands_more names past event is = ap (λ (n : List (List ℕ)). after n event) is ∙ sym (from_appended [] past (event ∷ []))
