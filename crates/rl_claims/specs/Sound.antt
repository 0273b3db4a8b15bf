-- What a record may be trusted for, in terms of the channel's one log.
use Rattle.std.specs.Prelude.{◌≡◌, ℕ, ◌≤◌, true, false, List, [], ◌∷◌, ◌++◌, map, length, take, slice_get, Option, Some, None, ◌⊎◌, ⊤}
use Rattle.std.specs.List.{AllByRecursion}
use Rattle.rl_events.specs.declared.channel.ChannelEvent.{ChannelEvent}
use Rattle.rl_events.specs.declared.channel.ChannelEvent.TheVariants.{Join}
use Rattle.rl_types.specs.declared.messages.Given.{Given}
use Rattle.rl_runs.specs.declared.script.Line.{Line}
use Rattle.rl_types.specs.declared.states.ChanState.{ChanState}
use Rattle.rl_types.specs.declared.states.ChanState.TheVariants.{Detached, Suspended, Failed}
use Rattle.rl_runs.specs.declared.findings.Cause.{Cause}
use Rattle.rl_runs.specs.declared.findings.Cause.TheVariants.{Opened, NotRetained, Recovered, Moved, Jump}
use Rattle.rl_runs.specs.declared.findings.Segment.{Segment}
use Rattle.rl_model.specs.declared.plain.Client.{Client}
use Rattle.rl_model.specs.Verdict.{log, head, run_between}
use Rattle.rl_model.specs.Reply.{is_resumed, joined_place}
use Rattle.rl_model.specs.Records.{the_epoch, the_site, got_of, segment_end}
use Rattle.rl_model.specs.World.{World, final}

-- JOINS

-- a Join that the channel took: what it had taken before, and what was asked
pub record Joining : Type 0 where
  pub before : List ChannelEvent
  pub asked : Option Given

-- the Joins of a history
abbrev pub joinings : List ChannelEvent → List Joining
joinings [] = []
joinings (Join asked ∷ past) = record { before = past; asked = asked } ∷ joinings past
joinings (_ ∷ past) = joinings past

-- the place that it was told
abbrev pub told : ℕ → List ℕ → Joining → ℕ
told epoch site joining = joined_place epoch site joining.before joining.asked

-- a segment may begin with this cause at the answer to this Join: Opened where nothing was asked, NotRetained
-- where what was asked was not retained then, Recovered where it was
abbrev pub MayBegin : ℕ → List ℕ → Joining → Cause → Type 0
MayBegin epoch site joining Opened = joining.asked ≡ None
MayBegin epoch site joining (NotRetained asked) =
    (joining.asked ≡ Some asked) × (is_resumed epoch site joining.before (Some asked) ≡ false)
MayBegin epoch site joining (Recovered asked) =
    (joining.asked ≡ Some asked) × (is_resumed epoch site joining.before (Some asked) ≡ true)
MayBegin epoch site joining (Moved held place) = ⊥
MayBegin epoch site joining (Jump held place) = ⊥

-- SEGMENTS

-- a segment is one contiguous run of the log, each entry once
pub record IsSoundSegment (site : List ℕ) (past : List ChannelEvent) (segment : Segment) : Type 0 where
  pub within : segment_end segment ≤ head site past
  pub run : segment.got ≡ map got_of (run_between (log site past) segment.start (segment_end segment))

-- where a segment begins, and why
abbrev pub beginning : Segment → ℕ × Cause
beginning segment = (segment.start, segment.cause)

-- a segment begins at the answer to this Join: at the place that it was told, with a cause that it gives
abbrev pub BeginsAt : ℕ → List ℕ → Joining → ℕ × Cause → Type 0
BeginsAt epoch site joining begun = (told epoch site joining ≡ begun.0) × MayBegin epoch site joining begun.1

-- segments begin at the answers to these Joins, each to one of its own, and in their order. The Joins are given the latest
-- first
abbrev pub BeginInOrder : ℕ → List ℕ → List Joining → List (ℕ × Cause) → Type 0
BeginInOrder epoch site [] begun = begun ≡ []
BeginInOrder epoch site (joining ∷ joinings) begun =
    BeginInOrder epoch site joinings begun
    ⊎ ((earlier : List (ℕ × Cause)) × (last : ℕ × Cause) × (begun ≡ earlier ++ last ∷ []) × BeginsAt epoch site joining last × BeginInOrder epoch site joinings earlier)

abbrev pub IsRecovered : Cause → Type 0
IsRecovered (Recovered asked) = Unit {0}
IsRecovered _ = ⊥

abbrev pub NoneRecovered : List Segment → Type 0
NoneRecovered segments = AllByRecursion (λ (segment : Segment). IsRecovered segment.cause → ⊥) segments

-- only the first segment is recovered
abbrev pub OnlyFirstRecovered : List Segment → Type 0
OnlyFirstRecovered [] = ⊤
OnlyFirstRecovered (segment ∷ segments) = NoneRecovered segments

-- each segment starts at or past the end of the one before
abbrev pub AreInOrder : List Segment → Type 0
AreInOrder [] = ⊤
AreInOrder (segment ∷ []) = ⊤
AreInOrder (segment ∷ next ∷ segments) = (segment_end segment ≤ next.start) × AreInOrder (next ∷ segments)

pub record IsSound (epoch : ℕ) (site : List ℕ) (past : List ChannelEvent) (segments : List Segment) : Type 0 where
  pub each : AllByRecursion (IsSoundSegment site past) segments
  pub begun : BeginInOrder epoch site (joinings past) (map beginning segments)
  pub recovered_first : OnlyFirstRecovered segments
  pub in_order : AreInOrder segments

-- the record of the client is sound
abbrev pub HasSoundRecord : List ChannelEvent → Option Client → Type 0
HasSoundRecord past None = ⊤
HasSoundRecord past (Some client) = IsSound the_epoch the_site past client.segments

abbrev pub HasSoundRecords : World → Type 0
HasSoundRecords world = HasSoundRecord world.past world.client

-- A LATER SEGMENT THAT IS OPENED

abbrev pub HasLeft : ChanState → Type 0
HasLeft Detached = ⊤
HasLeft Suspended = ⊤
HasLeft Failed = ⊤
HasLeft _ = ⊥

-- a client with this many segments whose channel was left
abbrev pub IsLeftAt : ℕ → Option Client → Type 0
IsLeftAt count None = ⊥
IsLeftAt count (Some client) = (length client.segments ≡ count) × HasLeft client.chan

abbrev pub IsOpened : Option Segment → Type 0
IsOpened None = ⊥
IsOpened (Some segment) = segment.cause ≡ Opened

-- a client whose segment at this place, from 0, is Opened
abbrev pub OpenedAt : ℕ → Option Client → Type 0
OpenedAt place None = ⊥
OpenedAt place (Some client) = IsOpened (slice_get client.segments place)

-- a later segment is Opened only where, since the segment before began, the channel was DETACHED, SUSPENDED or
-- FAILED: after some of the script's lines there are as many segments as stand before it, and the channel is left
abbrev pub OpensAgainOnlyAfterLeaving : List Line → Type 0
OpensAgainOnlyAfterLeaving script =
    (before : ℕ) → 1 ≤ before → OpenedAt before (final script).client
    → (lines : ℕ) × (lines ≤ length script) × IsLeftAt before (final (take lines script)).client
