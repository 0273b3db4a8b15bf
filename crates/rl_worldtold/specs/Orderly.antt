-- Histories are orderly: what a connection puts on a channel stands before the word that the connection is gone. (This
-- project's own.)
use Rattle.std.specs.Prelude.{◌≡◌, ℕ, ⊤, List, [], ◌∷◌, Some}
use Rattle.std.specs.List.{AllByRecursion}
use Rattle.rl_types.specs.declared.messages.Entry.{Entry}
use Rattle.rl_events.specs.declared.channel.ChannelEvent.{ChannelEvent}
use Rattle.rl_events.specs.declared.channel.ChannelEvent.TheVariants.{Put, Gone}
use Rattle.rl_connbook.specs.Laws.{SomeOf}
use Rattle.rl_model.specs.Verdict.{Decision, decisions}
use Rattle.rl_worldmodel.specs.World.{World, the_site}
use Rattle.rl_worldtold.specs.Runs.{HoldsOfRuns}

-- the event says that this connection is gone
abbrev pub IsGoneOf : ℕ → ChannelEvent → Type 0
IsGoneOf conn (Gone c now) = c ≡ conn
IsGoneOf conn event = ⊥

-- PUTS COME BEFORE

-- a Put of a connection does not come after a Gone of it
abbrev pub IsBefore : List ChannelEvent → ChannelEvent → Type 0
IsBefore past (Put conn serial body now) = SomeOf (IsGoneOf conn) past → ⊥
IsBefore past event = ⊤

-- none of a history does. The latest event stands first
abbrev pub ArePutsBefore : List ChannelEvent → Type 0
ArePutsBefore [] = ⊤
ArePutsBefore (event ∷ past) = IsBefore past event × ArePutsBefore past

abbrev pub HasPutsBefore : World → Type 0
HasPutsBefore world = AllByRecursion (λ (c : List ℕ × List ChannelEvent). ArePutsBefore c.1) world.channels

-- in every channel no Put of a connection comes after a Gone of it
abbrev pub PutsComeBeforeGone : Type 0
PutsComeBeforeGone = HoldsOfRuns HasPutsBefore

-- ENTRIES COME BEFORE

-- an entry that a Put added is of a connection of which no Gone came before it
abbrev pub IsOrderlyEvent : List ChannelEvent → Decision → Type 0
IsOrderlyEvent before decision =
    (entry : Entry) (serial : ℕ) → decision.entry ≡ Some entry → entry.serial ≡ Some serial → SomeOf (IsGoneOf entry.conn) before → ⊥

abbrev pub AreOrderly : List Decision → List ChannelEvent → Type 0
AreOrderly (decision ∷ decided) (event ∷ before) = IsOrderlyEvent before decision × AreOrderly decided before
AreOrderly decided before = ⊤

-- each entry of a history is so
abbrev pub IsOrderly : List ℕ → List ChannelEvent → Type 0
IsOrderly site past = AreOrderly (decisions site past) past

abbrev pub HasOrderlyHistories : World → Type 0
HasOrderlyHistories world = AllByRecursion (λ (c : List ℕ × List ChannelEvent). IsOrderly the_site c.1) world.channels

-- in every channel no Put of a connection adds an entry after a Gone of it
abbrev pub HistoriesAreOrderly : Type 0
HistoriesAreOrderly = HoldsOfRuns HasOrderlyHistories
