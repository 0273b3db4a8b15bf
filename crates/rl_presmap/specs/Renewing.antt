-- Orderly histories of a channel, and how the presence items of one key follow each other in their logs.
use Rattle.std.specs.Prelude.{⊤, ◌≡◌, ℕ, ◌^◌, ◌<◌, Bool, true, false, ◌||◌, ◌==◌, List, [], ◌∷◌, ◌++◌, length, filter, Option, Some}
use Rattle.std.specs.List.{AllByRecursion}
use Rattle.rl_ids.specs.declared.members.MemberKey.{MemberKey}
use Rattle.rl_events.specs.declared.channel.ChannelEvent.{ChannelEvent}
use Rattle.rl_events.specs.declared.channel.ChannelEvent.TheVariants.{Put, Gone}
use Rattle.rl_types.specs.declared.messages.Entry.{Entry}
use Rattle.rl_types.specs.declared.presence.PresenceItem.{PresenceItem}
use Rattle.rl_model.specs.History.{setting}
use Rattle.rl_model.specs.Members.{is_of, enters, items_of, presence_of}
use Rattle.rl_model.specs.Verdict.{is_put, decided, decisions, log}
use Rattle.rl_presmap.specs.Newness.{is_newer}

-- ORDERLY HISTORIES

abbrev pub is_gone_of : ℕ → ChannelEvent → Bool
is_gone_of conn (Gone c now) = c == conn
is_gone_of conn _ = false

abbrev pub has_gone : ℕ → List ChannelEvent → Bool
has_gone conn [] = false
has_gone conn (event ∷ past) = is_gone_of conn event || has_gone conn past

-- a Put that adds an entry comes before each Gone of its connection
abbrev pub AddsInTime : ChannelEvent → Option Entry → List ChannelEvent → Type 0
AddsInTime (Put conn serial body now) (Some entry) past = has_gone conn past ≡ false
AddsInTime _ _ past = ⊤

-- no Put of a connection adds after a Gone of it
abbrev pub IsOrderly : List ℕ → List ChannelEvent → Type 0
IsOrderly site [] = ⊤
IsOrderly site (event ∷ past) =
    AddsInTime event (decided (setting site (event ∷ past)) (decisions site past) event).entry past × IsOrderly site past

-- numbers that the types of an event hold
abbrev pub IsHeldByTypes : ChannelEvent → Type 0
IsHeldByTypes (Put conn serial body now) = (conn < 2 ^ 32) × (serial < 2 ^ 64) × (length (presence_of body) < 2 ^ 64)
IsHeldByTypes (Gone conn now) = conn < 2 ^ 32
IsHeldByTypes _ = ⊤

-- ITEMS OF ONE KEY

-- the presence items of a key in a log, in order
abbrev pub items_of_key : MemberKey → List Entry → List PresenceItem
items_of_key key log = filter (is_of key) (items_of log)

-- the later item is newer than the earlier one, which isn't newer than a later ENTER or UPDATE
abbrev pub Renews : PresenceItem → PresenceItem → Type 0
Renews later earlier = (is_newer later earlier ≡ true) × (enters later.action ≡ true → is_newer earlier later ≡ false)

-- each item renews all before it
abbrev pub AreRenewing : List PresenceItem → Type 0
AreRenewing [] = ⊤
AreRenewing (item ∷ items) = AllByRecursion (λ (later : PresenceItem). Renews later item) items × AreRenewing items

-- the last item of each key is newer than all before it
abbrev pub LastIsNewest : List Entry → Type 0
LastIsNewest log = (key : MemberKey) → (earlier : List PresenceItem) → (last : PresenceItem) → items_of_key key log ≡ earlier ++ last ∷ []
    → AllByRecursion (λ (item : PresenceItem). is_newer last item ≡ true) earlier

-- of each key the items enter, change and leave, and each renews all before it
pub record IsRenewing (log : List Entry) : Type 0 where
  pub changes : (key : MemberKey) → AllByRecursion (λ (item : PresenceItem). is_put item.action ≡ true) (items_of_key key log)
  pub renewing : (key : MemberKey) → AreRenewing (items_of_key key log)
  pub last : LastIsNewest log

abbrev pub OrderlyLogsRenew : Type 0
OrderlyLogsRenew = (site : List ℕ) → (past : List ChannelEvent) → AllByRecursion IsHeldByTypes past → IsOrderly site past → IsRenewing (log site past)
