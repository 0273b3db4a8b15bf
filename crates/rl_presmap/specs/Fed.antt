-- A map that takes up each item of a log, in order, from nothing and with no sync open.
use Rattle.std.specs.Prelude.{◌≡◌, List, [], ◌∷◌, reverse, find, option_map}
use Rattle.rl_ids.specs.declared.members.MemberKey.{MemberKey}
use Rattle.rl_types.specs.declared.messages.Entry.{Entry}
use Rattle.rl_types.specs.declared.presence.PresenceItem.{PresenceItem}
use Rattle.rl_model.specs.Members.{is_of, as_present, member, items_of}
use Rattle.rl_presmap.specs.Held.{PresenceMap}
use Rattle.rl_presmap.specs.Steps.{applied, members}
use Rattle.rl_presmap.specs.Soundness.{nothing_held}
use Rattle.rl_presmap.specs.Renewing.{IsRenewing}

abbrev pub fed : List PresenceItem → PresenceMap → PresenceMap
fed [] known = known
fed (item ∷ items) known = fed items (applied item known)

-- its member of each key is the log's, as PRESENT
abbrev pub FedMapsHoldMembers : Type 0
FedMapsHoldMembers = (log : List Entry) → IsRenewing log → (key : MemberKey)
    → find (is_of key) (members (fed (items_of log) nothing_held)) ≡ option_map as_present (member key (reverse (items_of log)))
