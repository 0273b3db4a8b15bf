-- How changes of the members are taken back.
use Rattle.std.specs.Prelude.{ℕ, ◌<◌, ◌≤◌, Bool, true, false, List, [], ◌∷◌, length, ⊤, insert, remove, slice_set}
use Rattle.rl_types.specs.declared.presence.PresenceItem.{PresenceItem}
use Rattle.rl_members.specs.declared.changes.Change.{Change}
use Rattle.rl_members.specs.declared.changes.Change.TheVariants.{Nothing, Added, Replaced, Removed}

-- it took a member away
abbrev pub removes : Change → Bool
removes (Removed at was) = true
removes _ = false

-- the members before a change, of those after it
abbrev pub undone : Change → List PresenceItem → List PresenceItem
undone Nothing members = members
undone (Added at) members = remove members at
undone (Replaced at was) members = slice_set members at was
undone (Removed at was) members = insert members at was

-- it can be taken back with room for so many members
abbrev pub IsUndoable : ℕ → Change → List PresenceItem → Type 0
IsUndoable room Nothing members = ⊤
IsUndoable room (Added at) members = at < length members
IsUndoable room (Replaced at was) members = at < length members
IsUndoable room (Removed at was) members = (at ≤ length members) × (length members < room)

-- the members before these changes, the latest of which is given first
abbrev pub all_undone : List Change → List PresenceItem → List PresenceItem
all_undone [] members = members
all_undone (change ∷ changes) members = all_undone changes (undone change members)

-- all of them can be taken back so
abbrev pub AreUndoable : ℕ → List Change → List PresenceItem → Type 0
AreUndoable room [] members = ⊤
AreUndoable room (change ∷ changes) members = IsUndoable room change members × AreUndoable room changes (undone change members)
