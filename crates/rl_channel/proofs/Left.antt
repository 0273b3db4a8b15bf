-- The members that leave with their connection are told one after another.
use Rattle.std.proofs.Common.{◌≡◌, ℕ, suc, ◌+◌, Bool, true, false, cond, List, [], ◌∷◌, ◌++◌, length, map, refl, ap, sym, ◌∙◌, arith}
use Rattle.std.specs.Prelude.{Option, Some, None, ◌==◌, reverse, filter, not}
use Rattle.rl_numbers.specs.declared.limits.TheConstants.{MAX_PLACE}
use Rattle.rl_types.specs.declared.messages.Body.TheVariants.{Presence}
use Rattle.rl_types.specs.declared.messages.Entry.{Entry}
use Rattle.std.specs.List.{list_all}
use Rattle.std.proofs.lemmas.Grind.{common_steps}
use Rattle.std.proofs.lemmas.Slice.Eq.{bytes_eq-Decides}
use Rattle.rl_types.specs.declared.presence.PresenceItem.{PresenceItem}
use Rattle.rl_model.specs.Verdict.{leaves, entry_of_gone}
use Rattle.rl_model.specs.Members.{is_on, key_of, enters, members_of}
use Rattle.rl_channel.specs.Leaving.{leave_of, leaves_of, left_entry, left_items}

pub leaves_more : (place now : ℕ) (conn : List ℕ) (k : ℕ) (clients : List (List ℕ)) (client : List ℕ)
    → leaves_of place now conn k (clients ++ client ∷ []) ≡ leaves_of place now conn k clients ++ leave_of place now conn (k + length clients) client ∷ []
leaves_more place now conn k [] client = grind (arith, common_steps)
leaves_more place now conn k (first ∷ clients) client = grind (arith, common_steps, leaves_more place now conn (suc k) clients client)

length_leaves : (place now : ℕ) (conn : List ℕ) (k : ℕ) (clients : List (List ℕ)) → length (leaves_of place now conn k clients) ≡ length clients
length_leaves place now conn k [] = refl
length_leaves place now conn k (first ∷ clients) = ap suc (length_leaves place now conn (suc k) clients)

pub leaves_at_push : (place now : ℕ) (conn : List ℕ) (clients : List (List ℕ)) (client : List ℕ) (index : ℕ) (made : List PresenceItem)
    → made ≡ leaves_of place now conn 0 clients → index ≡ length made
    → leaves_of place now conn 0 (clients ++ client ∷ []) ≡ made ++ leave_of place now conn index client ∷ []
leaves_at_push place now conn clients client index made is at =
    let more = leaves_more place now conn 0 clients client in
    let same : index ≡ 0 + length clients = rw is at at ∙ length_leaves place now conn 0 clients ∙ omega arith in
    rw (is, same) more

-- by client ids it is what the definition says of the members
pub leaves_same : (place now : ℕ) (conn : List ℕ) (k : ℕ) (members : List PresenceItem)
    → leaves_of place now conn k (map (λ item. item.client) (filter (is_on conn) members)) ≡ leaves place now k (filter (is_on conn) members)
leaves_same place now conn k [] = refl
leaves_same place now conn k (member ∷ members) =
    by_test (is_on conn member) (λ on. (bytes_eq-Decides conn member.conn).0 on) (leaves_same place now conn (suc k) members) (leaves_same place now conn k members)
  where
    by_test : (on : Bool) → (on ≡ true → conn ≡ member.conn)
        → leaves_of place now conn (suc k) (map (λ item. item.client) (filter (is_on conn) members)) ≡ leaves place now (suc k) (filter (is_on conn) members)
        → leaves_of place now conn k (map (λ item. item.client) (filter (is_on conn) members)) ≡ leaves place now k (filter (is_on conn) members)
        → leaves_of place now conn k (map (λ item. item.client) (cond on (member ∷ filter (is_on conn) members) (filter (is_on conn) members)))
        ≡ leaves place now k (cond on (member ∷ filter (is_on conn) members) (filter (is_on conn) members))
    by_test true same more rest = ap (λ c. leave_of place now c k member.client ∷ leaves_of place now conn (suc k) (map (λ item. item.client) (filter (is_on conn) members))) (same refl)
        ∙ ap (λ l. leave_of place now member.conn k member.client ∷ l) more
    by_test false same more rest = rest

-- they have the members' keys, and none enters
pub leaves_keys : (place now k : ℕ) (members : List PresenceItem) → map key_of (leaves place now k members) ≡ map key_of members
leaves_keys place now k [] = refl
leaves_keys place now k (member ∷ members) = ap (λ l. key_of member ∷ l) (leaves_keys place now (suc k) members)

pub leaves_leave : (place now k : ℕ) (members : List PresenceItem) → list_all (λ item. not (enters item.action)) (leaves place now k members) ≡ true
leaves_leave place now k [] = refl
leaves_leave place now k (member ∷ members) = leaves_leave place now (suc k) members

-- THE MEMBERS AFTER THE ENTRY

left_is : (head now conn : ℕ) (id : List ℕ) (clients : List (List ℕ)) → (clients ≡ [] → ⊥) → (head == MAX_PLACE) ≡ false
    → left_items (left_entry head now conn id clients) ≡ leaves_of (head + 1) now id 0 clients
left_is head now conn id [] some below = absurd (some refl)
left_is head now conn id (client ∷ clients) some below = ap by_test below
  where
    by_test : Bool → List PresenceItem
    by_test full = left_items (cond full None (Some (record { place = head + 1; stamp = now; conn = conn; serial = None; body = Presence (leaves_of (head + 1) now id 0 (client ∷ clients)) })))

pub left_members : (head now conn : ℕ) (id : List ℕ) (clients : List (List ℕ)) (old new latest : List PresenceItem)
    → (clients ≡ [] → ⊥) → (head == MAX_PLACE) ≡ false
    → clients ≡ map (λ item. item.client) (filter (is_on id) old)
    → ((leaves : List PresenceItem) → list_all (λ item. not (enters item.action)) leaves ≡ true → map key_of leaves ≡ map key_of (filter (is_on id) old) → new ≡ members_of (reverse leaves ++ latest))
    → new ≡ members_of (reverse (left_items (left_entry head now conn id clients)) ++ latest)
left_members head now conn id clients old new latest some below are gone =
    let members = filter (is_on id) old in
    let told : left_items (left_entry head now conn id clients) ≡ leaves (head + 1) now 0 members =
    left_is head now conn id clients some below ∙ ap (leaves_of (head + 1) now id 0) are ∙ leaves_same (head + 1) now id 0 old in
    gone (leaves (head + 1) now 0 members) (leaves_leave (head + 1) now 0 members) (leaves_keys (head + 1) now 0 members)
    ∙ ap (λ (l : List PresenceItem). members_of (reverse l ++ latest)) (sym told)

-- by the members it is the entry of the definition
pub entry_same : (head now conn : ℕ) (id : List ℕ) (old : List PresenceItem)
    → left_entry head now conn id (map (λ item. item.client) (filter (is_on id) old)) ≡ entry_of_gone head now conn (filter (is_on id) old)
entry_same head now conn id old = by_members (filter (is_on id) old) (leaves_same (head + 1) now id 0 old)
  where
    by_members : (members : List PresenceItem) → leaves_of (head + 1) now id 0 (map (λ item. item.client) members) ≡ leaves (head + 1) now 0 members
        → left_entry head now conn id (map (λ item. item.client) members) ≡ entry_of_gone head now conn members
    by_members [] same = refl
    by_members (member ∷ members) same = ap by_items same
      where
        by_items : List PresenceItem → Option Entry
        by_items items = cond (head == MAX_PLACE) None (Some (record { place = head + 1; stamp = now; conn = conn; serial = None; body = Presence items }))
