-- What is told of the members that leave with their connection, by their client ids.
use Rattle.std.specs.Prelude.{◌≡◌, ℕ, suc, ◌+◌, ◌==◌, if◌then◌else◌, List, [], ◌∷◌, ◌++◌, map, filter, reverse, Option, Some, None}
use Rattle.rl_numbers.specs.declared.limits.TheConstants.{MAX_PLACE}
use Rattle.rl_types.specs.declared.presence.PresenceItem.{PresenceItem}
use Rattle.rl_types.specs.declared.presence.PresenceAction.TheVariants as presence
use Rattle.rl_types.specs.declared.messages.Body.TheVariants.{Presence}
use Rattle.rl_types.specs.declared.messages.Entry.{Entry}
use Rattle.rl_model.specs.Texts.{gone_id}
use Rattle.rl_model.specs.Members.{is_on, members_of, presence_of}
use Rattle.rl_model.specs.Parts.{Parts, with_entry}

abbrev pub leave_of : ℕ → ℕ → List ℕ → ℕ → List ℕ → PresenceItem
leave_of place now conn index client =
    record {
      action = presence.Leave;
      client = client;
      conn = conn;
      id = gone_id place index;
      stamp = now;
      payload = None;
      encoding = None;
    }

-- each client of the connection, counted from an index
abbrev pub leaves_of : ℕ → ℕ → List ℕ → ℕ → List (List ℕ) → List PresenceItem
leaves_of place now conn index [] = []
leaves_of place now conn index (client ∷ clients) = leave_of place now conn index client ∷ leaves_of place now conn (suc index) clients

-- the entry that tells of these clients of a connection, where there are some and the log is not full
abbrev pub left_entry : ℕ → ℕ → ℕ → List ℕ → List (List ℕ) → Option Entry
left_entry head now conn id [] = None
left_entry head now conn id (client ∷ clients) =
    if head == MAX_PLACE then None
    else Some (record {
      place = head + 1;
      stamp = now;
      conn = conn;
      serial = None;
      body = Presence (leaves_of (head + 1) now id 0 (client ∷ clients));
    })

-- what is kept with that entry
abbrev pub with_left : Option Entry → Parts → Parts
with_left (Some entry) parts = with_entry entry None parts
with_left None parts = parts

-- its presence items
abbrev pub left_items : Option Entry → List PresenceItem
left_items (Some entry) = presence_of entry.body
left_items None = []

-- where the members were those that items leave, and these clients are those of the connection's members, they are now
-- those that the items of this entry leave too
abbrev pub LeaveWith : Option Entry → List ℕ → List (List ℕ) → List PresenceItem → List PresenceItem → Type 0
LeaveWith entry id clients old new =
    (latest : List PresenceItem) → clients ≡ map (λ (item : PresenceItem). item.client) (filter (is_on id) old) → old ≡ members_of latest → new ≡ members_of (reverse (left_items entry) ++ latest)
