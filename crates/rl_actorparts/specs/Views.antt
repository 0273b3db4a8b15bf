-- What the code's own answers stand for in the definitions.
use Rattle.std.specs.Prelude.{ℕ, Option, Some, None}
use Rattle.rl_events.specs.declared.calls.Reply.{Reply}
use Rattle.rl_actormodel.specs.State.{State}
use Rattle.rl_actormodel.specs.Reads.{read_on, page_on, replied}
use Rattle.rl_actormodel.specs.Replies as replies
use Rattle.rl_actorparts.specs.declared.views.Standing.{Standing}
use Rattle.rl_actorparts.specs.declared.views.Standing.TheVariants as standings
use Rattle.rl_actorparts.specs.declared.views.Beginning.{Beginning}
use Rattle.rl_actorparts.specs.declared.views.Beginning.TheVariants as beginnings
use Rattle.rl_actorparts.specs.declared.views.Opening.{Opening}
use Rattle.rl_actorparts.specs.declared.views.Opening.TheVariants as openings
use Rattle.rl_actorparts.specs.declared.views.Resuming.{Resuming}
use Rattle.rl_actorparts.specs.declared.views.Resuming.TheVariants as resumings
use Rattle.rl_actorparts.specs.declared.views.Numbering.{Numbering}
use Rattle.rl_actorparts.specs.declared.views.Numbering.TheVariants as numberings
use Rattle.rl_actorparts.specs.declared.views.Joining.{Joining}
use Rattle.rl_actorparts.specs.declared.views.Joining.TheVariants as joinings
use Rattle.rl_actorparts.specs.declared.views.Reading.{Reading}
use Rattle.rl_actorparts.specs.declared.views.Reading.TheVariants as readings
use Rattle.rl_actorparts.specs.declared.views.Concern.{Concern}
use Rattle.rl_actorparts.specs.declared.views.Concern.TheVariants as concerns

-- REPLIES

-- is the connection still this actor's?
abbrev pub standing_as : Standing → replies.Standing
standing_as (standings.Passed newer) = replies.Passed newer
standing_as standings.Gone = replies.Gone
standing_as standings.Holds = replies.Holds
standing_as standings.Unsaid = replies.Unsaid

-- may the put go on?
abbrev pub beginning_as : Beginning → replies.Beginning
beginning_as (beginnings.Overtaken newer) = replies.Overtaken newer
beginning_as beginnings.Missing = replies.Missing
beginning_as (beginnings.Knows outcome) = replies.Knows outcome
beginning_as (beginnings.Above got expected) = replies.Above got expected
beginning_as (beginnings.Below got expected) = replies.Below got expected
beginning_as beginnings.Goes = replies.Goes
beginning_as beginnings.Unbegun = replies.Unbegun

-- was a connection opened?
abbrev pub opening_as : Opening → replies.Opening
opening_as (openings.Opens holder key) = replies.Opens holder key
opening_as (openings.Limited count given) = replies.Limited count given
opening_as openings.Unopened = replies.Unopened

-- did the connection come back?
abbrev pub resuming_as : Resuming → replies.Resuming
resuming_as (resumings.Back holder) = replies.Back holder
resuming_as resumings.NotKnown = replies.NotKnown
resuming_as resumings.Unresumed = replies.Unresumed

-- which number has the channel?
abbrev pub numbering_as : Numbering → replies.Numbering
numbering_as (numberings.Has number) = replies.Has number
numbering_as numberings.HasNone = replies.HasNone
numbering_as numberings.Unnumbered = replies.Unnumbered

-- where does the session begin?
abbrev pub joining_as : Joining → Option replies.Joining
joining_as (joinings.Joined serial resumed presence objects) =
    Some (record { serial = serial; resumed = resumed; presence = presence; objects = objects })
joining_as joinings.Unjoined = None

-- what was read?
abbrev pub reading_as : Reading → replies.Reading
reading_as (readings.Came entries) = replies.Came entries
reading_as (readings.Behind first) = replies.Behind first
reading_as readings.Unread = replies.Unread

-- CALLS

-- what a call's reply leads to, by what the call concerns
abbrev pub answered_as : Concern → Reply → ℕ → State → State
answered_as (concerns.ReadOf number) reply now s = read_on number reply now s
answered_as (concerns.PageOf number) reply now s = page_on number reply now s
answered_as concerns.Wanted reply now s = replied s.wish reply now s
