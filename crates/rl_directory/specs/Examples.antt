-- Worked examples of the directory.
use Rattle.std.specs.Prelude.{◌≡◌, List, [], ◌∷◌, codes}
use Rattle.rl_events.specs.declared.calls.DirEvent.{DirEvent}
use Rattle.rl_events.specs.declared.calls.DirEvent.TheVariants.{Ask, Names}
use Rattle.rl_events.specs.declared.calls.DirReply.TheVariants as replies
use Rattle.rl_directory.specs.Directory.{reply_after}

-- two names were asked for, the first of them twice, and all names between
abbrev pub past : List DirEvent
past = Ask (codes "room") ∷ Names ∷ Ask (codes "hall") ∷ Ask (codes "room") ∷ []

pub record Replies : Type 0 where
  pub first : reply_after [] (Ask (codes "room")) ≡ replies.At 0
  pub second : reply_after (Ask (codes "room") ∷ []) (Ask (codes "hall")) ≡ replies.At 1
  pub again : reply_after past (Ask (codes "room")) ≡ replies.At 0
  pub beside : reply_after past (Ask (codes "hall")) ≡ replies.At 1
  pub next : reply_after past (Ask (codes "roo")) ≡ replies.At 2
  pub all : reply_after past Names ≡ replies.Names (codes "room" ∷ codes "hall" ∷ [])
  pub none : reply_after (Names ∷ []) Names ≡ replies.Names []
