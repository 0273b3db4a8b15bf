-- What the record of a lane may be trusted for.
use Rattle.std.specs.Prelude.{◌≡◌, ◌⊎◌, ⊤, ℕ, ◌≤◌, ◌<◌, Bool, true, false, List, [], ◌∷◌, ◌++◌, length, Option}
use Rattle.std.specs.List.{AllByRecursion}
use Rattle.rl_ids.specs.declared.serials.ChannelSerial.{ChannelSerial}
use Rattle.rl_types.specs.declared.messages.Given.{Given}
use Rattle.rl_events.specs.declared.channel.ChannelEvent.{ChannelEvent}
use Rattle.rl_events.specs.declared.channel.ChannelEvent.TheVariants.{Join}
use Rattle.rl_events.specs.declared.channel.ChannelReply.TheVariants.{Joined}
use Rattle.rl_model.specs.Reply.{reply}
use Rattle.rl_model.specs.Records.{segment_end}
use Rattle.rl_runs.specs.declared.findings.Cause.{Cause}
use Rattle.rl_runs.specs.declared.findings.Cause.TheVariants.{Opened, Recovered}
use Rattle.rl_claims.specs.Sound.{MayBegin, IsSoundSegment}
use Rattle.rl_clientmodel.specs.declared.runs.Beginning.{Beginning}
use Rattle.rl_clientmodel.specs.declared.runs.Beginning.TheVariants.{Answered, Unasked, Skipped}
use Rattle.rl_clientmodel.specs.declared.runs.Run.{Run}
use Rattle.rl_clientmodel.specs.Runs.{cause_of, segment_of, start_of}
use Rattle.rl_clientmodel.specs.Commands.{channel_or_new}
use Rattle.rl_lanes.specs.Lanes.{Setup, as_given, Lane}
use Rattle.rl_lanes.specs.Moves.{Move, lane_of}

-- EACH RUN BEGAN AT THE ANSWER TO A JOIN

-- the channel's event of this number, counted from 0, was a Join that gave this serial and was answered so; and a run may
-- begin at its answer with this cause
pub record IsBegunAt (setup : Setup) (past : List ChannelEvent) (number : ℕ) (given : Option Given) (resumed : Bool) (told : ChannelSerial) (cause : Cause) : Type 0 where
  pub before : List ChannelEvent
  pub later : List ChannelEvent
  pub taken : past ≡ later ++ Join given ∷ before
  pub at : length before ≡ number
  pub presence : Bool
  pub objects : Bool
  pub replied : reply setup.epoch setup.site before (Join given) ≡ Joined told resumed presence objects
  pub may : MayBegin setup.epoch setup.site (record { before = before; asked = given }) cause

-- so a run began: what the client asked is what the Join gave
abbrev pub IsBegun : Setup → List ChannelEvent → ℕ → Beginning → Type 0
IsBegun setup past number (Answered asked resumed told away) =
    IsBegunAt setup past number (as_given asked) resumed told (cause_of (Answered asked resumed told away))
IsBegun setup past number (Unasked held resumed told) = ⊥
IsBegun setup past number (Skipped held told) = ⊥

-- run by run, at the Joins of these numbers
abbrev pub AreBegun : Setup → List ChannelEvent → List ℕ → List Run → Type 0
AreBegun setup past [] [] = ⊤
AreBegun setup past (number ∷ numbers) (run ∷ runs) = IsBegun setup past number run.beginning × AreBegun setup past numbers runs
AreBegun setup past numbers runs = ⊥

-- numbers that fall: each is below the one before it
abbrev pub DoFall : List ℕ → Type 0
DoFall [] = ⊤
DoFall (number ∷ []) = ⊤
DoFall (number ∷ next ∷ numbers) = (next < number) × DoFall (next ∷ numbers)

abbrev pub IsAmong : List ℕ → ℕ → Type 0
IsAmong [] number = ⊥
IsAmong (one ∷ more) number = (number ≡ one) ⊎ IsAmong more number

-- LATER RUNS. The latest stands first

-- a later run is never Recovered, and Opened only where the channel was away
abbrev pub MayComeLater : Cause → Bool → Type 0
MayComeLater Opened away = away ≡ true
MayComeLater (Recovered asked) away = ⊥
MayComeLater cause away = ⊤

-- it was DETACHED, SUSPENDED or FAILED since the run before began
abbrev pub was_away : Beginning → Bool
was_away (Answered asked resumed told away) = away
was_away beginning = false

abbrev pub ComesLater : Run → Type 0
ComesLater run = MayComeLater (cause_of run.beginning) (was_away run.beginning)

-- all but the first
abbrev pub LaterOnes : List Run → Type 0
LaterOnes [] = ⊤
LaterOnes (run ∷ []) = ⊤
LaterOnes (run ∷ earlier ∷ runs) = ComesLater run × LaterOnes (earlier ∷ runs)

abbrev pub run_end : Run → ℕ
run_end run = segment_end (segment_of run)

-- each starts at or past the end of the one before
abbrev pub AreInOrder : List Run → Type 0
AreInOrder [] = ⊤
AreInOrder (run ∷ []) = ⊤
AreInOrder (run ∷ earlier ∷ runs) = (run_end earlier ≤ start_of run.beginning) × AreInOrder (earlier ∷ runs)

-- SOUND RECORDS

-- the entries of a run are those of the log from its start on, without a gap
abbrev pub IsSoundRun : Setup → List ChannelEvent → Run → Type 0
IsSoundRun setup past run = IsSoundSegment setup.site past (segment_of run)

-- runs that began at the Joins of these numbers, each a Join of the client's own
pub record AreSoundRuns (setup : Setup) (past : List ChannelEvent) (joins begun : List ℕ) (runs : List Run) : Type 0 where
  pub each : AllByRecursion (IsSoundRun setup past) runs
  pub begin : AreBegun setup past begun runs
  pub fall : DoFall begun
  pub own : AllByRecursion (IsAmong joins) begun
  pub later : LaterOnes runs
  pub in_order : AreInOrder runs

abbrev pub AreSound : Setup → Lane → Type 0
AreSound setup lane = AreSoundRuns setup lane.past lane.joins lane.begun (channel_or_new lane.channel).runs

-- whatever is cut, asked again and crossed, and whenever, the record is sound
abbrev pub RecordsAreSound : Type 0
RecordsAreSound = (setup : Setup) (moves : List Move) → AreSound setup (lane_of setup moves)
