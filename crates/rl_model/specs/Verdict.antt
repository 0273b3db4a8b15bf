-- What a channel answers to a Put, and the log that it keeps.
use Rattle.std.specs.Prelude.{ℕ, suc, ◌+◌, ◌-◌, Bool, true, false, ◌||◌, not, if◌then◌else◌, ◌==◌, nat_lt, List, [], ◌∷◌, ◌++◌, length, take, drop, find, filter, filter_map, map, reverse, Option, Some, None, option_and_then, option_map, option_to_list, bytes_eq}
use Rattle.std.specs.List.{list_any}
use Rattle.rl_numbers.specs.declared.limits.TheConstants.{MAX_MESSAGE_SIZE, MAX_PLACE, MAX_REMEMBERED}
use Rattle.rl_numbers.specs.declared.codes.TheConstants.{BAD_ACTION, BAD_IDS, LOG_FULL, MEMBER_LIMIT, NO_CLIENT_ID, TOO_LONG}
use Rattle.rl_events.specs.declared.channel.ChannelEvent.{ChannelEvent}
use Rattle.rl_events.specs.declared.channel.ChannelEvent.TheVariants.{Put, Gone}
use Rattle.rl_events.specs.declared.channel.Verdict.{Verdict}
use Rattle.rl_events.specs.declared.channel.Verdict.TheVariants.{Done, Old}
use Rattle.rl_events.specs.declared.channel.Outcome.{Outcome}
use Rattle.rl_events.specs.declared.channel.Outcome.TheVariants.{Taken, Refused}
use Rattle.rl_types.specs.declared.messages.Entry.{Entry}
use Rattle.rl_types.specs.declared.messages.Body.{Body}
use Rattle.rl_types.specs.declared.messages.Body.TheVariants.{Messages, Presence, Objects}
use Rattle.rl_types.specs.declared.presence.PresenceItem.{PresenceItem}
use Rattle.rl_types.specs.declared.presence.PresenceAction.{PresenceAction}
use Rattle.rl_types.specs.declared.presence.PresenceAction.TheVariants as presence
use Rattle.rl_types.specs.Weight.{body_weight}
use Rattle.rl_model.specs.Ids.{given_id, has_mixed_ids, has_long, filled}
use Rattle.rl_ids.specs.Forms.{conn_text}
use Rattle.rl_model.specs.Texts.{gone_id}
use Rattle.rl_model.specs.Members.{items_of, members, has_too_many, told_by, is_on}
use Rattle.rl_model.specs.Objects.{object_rule}
use Rattle.rl_model.specs.History.{setting}
use Rattle.rl_objmodel.specs.Rules.{Setting}

-- DECISIONS

-- an event, what a Put was answered, and the entry that the event added to the log
pub record Decision : Type 0 where
  pub event : ChannelEvent
  pub verdict : Option Verdict
  pub entry : Option Entry

-- the entries of the log in order (RTL15): an entry's place is its index here, counted from 1
abbrev pub entries : List Decision → List Entry
entries [] = []
entries (decision ∷ before) = entries before ++ option_to_list decision.entry

-- OUTCOMES THAT ARE KEPT, for what is sent again after a drop (RTN19a)

abbrev pub kept_at : ℕ → ChannelEvent → Option Verdict → Option (ℕ × Outcome) → Option (ℕ × Outcome)
kept_at conn (Put c serial body now) (Some (Done outcome)) earlier =
    if c == conn then Some (serial, outcome) else earlier
kept_at conn (Gone c now) verdict earlier = if c == conn then None else earlier
kept_at conn _ _ earlier = earlier

-- what the last Put of a connection since its last Gone was: its serial and its outcome. A Put that was
-- answered Old does not count
abbrev pub kept : ℕ → List Decision → Option (ℕ × Outcome)
kept conn [] = None
kept conn (decision ∷ before) = kept_at conn decision.event decision.verdict (kept conn before)

-- IDS THAT ARE REMEMBERED (RSL1k)

abbrev pub given_id_of : ChannelEvent → Option (List ℕ)
given_id_of (Put conn serial body now) = given_id body
given_id_of _ = None

-- an entry of the log: the id that its Put gave its first message, and its place
pub record Added : Type 0 where
  pub id : Option (List ℕ)
  pub place : ℕ

abbrev pub added_by : Option (List ℕ) → Option Entry → Option Added
added_by id entry = option_map (λ (e : Entry). record { id = id; place = e.place }) entry

abbrev pub added_of : Decision → Option Added
added_of decision = added_by (given_id_of decision.event) decision.entry

-- the entries that were added, the latest first
abbrev pub added : List Decision → List Added
added before = filter_map added_of before

abbrev pub is_text : List ℕ → Option (List ℕ) → Bool
is_text text None = false
is_text text (Some other) = bytes_eq text other

abbrev pub has_given : List ℕ → Added → Bool
has_given id one = is_text id one.id

-- the place of the entry, among those whose ids are remembered, whose Put gave this id
abbrev pub remembered : List ℕ → List Decision → Option ℕ
remembered id before =
    option_map (λ (a : Added). a.place) (find (has_given id) (take MAX_REMEMBERED (added before)))

abbrev pub remembered_of : Body → List Decision → Option ℕ
remembered_of body before = option_and_then (λ id. remembered id before) (given_id body)

-- THE RULES OF A PUT, IN ORDER

-- how a Put is decided
pub data Judgement : Type 0 where
  Stale : Judgement  -- below the connection's last serial
  Again : (outcome : Outcome) → Judgement  -- the last serial again
  Known : (place : ℕ) → Judgement  -- its id is remembered at this place
  Fails : (code : ℕ) → Judgement  -- the code of the first rule that it fails
  Adds : Judgement  -- it adds an entry

-- a member enters, leaves or changes
abbrev pub is_put : PresenceAction → Bool
is_put presence.Enter = true
is_put presence.Leave = true
is_put presence.Update = true
is_put _ = false

abbrev pub is_bad_action : PresenceItem → Bool
is_bad_action item = not (is_put item.action)

abbrev pub has_no_client : PresenceItem → Bool
has_no_client item = length item.client == 0

-- the code of the first rule that a body fails by itself
abbrev pub own_rule : Body → Option ℕ
own_rule (Messages items) = if has_mixed_ids items then Some BAD_IDS else None
own_rule (Presence items) =
    if list_any is_bad_action items then Some BAD_ACTION
    else if list_any has_no_client items then Some NO_CLIENT_ID
    else None
own_rule (Objects ops) = None

-- the limit of members, which a body of this connection fails by the presence items of the log, the latest first
abbrev pub limit_rule : List PresenceItem → ℕ → Body → Option ℕ
limit_rule latest conn (Messages items) = None
limit_rule latest conn (Objects ops) = None
limit_rule latest conn (Presence items) = if has_too_many latest (map (told_by conn) items) then Some MEMBER_LIMIT else None

abbrev pub fails_or : Option ℕ → Judgement → Judgement
fails_or (Some code) next = Fails code
fails_or None next = next

-- the limits of size and of the log, the rules on its kind; else the next rule decides
abbrev pub judged_by_rules : ℕ → Body → Judgement → Judgement
judged_by_rules head body next =
    if nat_lt MAX_MESSAGE_SIZE (body_weight body) || has_long body then Fails TOO_LONG
    else if head == MAX_PLACE then Fails LOG_FULL
    else fails_or (own_rule body) next

abbrev pub judged_by_id : Option ℕ → Judgement → Judgement
judged_by_id (Some place) next = Known place
judged_by_id None next = next

abbrev pub judged_by_serial : ℕ → Option (ℕ × Outcome) → Judgement → Judgement
judged_by_serial serial None next = next
judged_by_serial serial (Some last) next =
    if nat_lt serial last.0 then Stale else if serial == last.0 then Again last.1 else next

-- the presence items of the log, the latest first
abbrev pub told : List Decision → List PresenceItem
told before = reverse (items_of (entries before))

abbrev pub judged : Setting → List Decision → ℕ → ℕ → Body → Judgement
judged setting before conn serial body =
    judged_by_serial serial (kept conn before)
    (judged_by_id (remembered_of body before)
    (judged_by_rules (length (entries before)) body
    (fails_or (limit_rule (told before) conn body)
    (fails_or (object_rule setting (entries before) body)
    Adds))))

abbrev pub verdict_at : ℕ → Judgement → Verdict
verdict_at head Stale = Old
verdict_at head (Again outcome) = Done outcome
verdict_at head (Known place) = Done (Taken place)
verdict_at head (Fails code) = Done (Refused code)
verdict_at head Adds = Done (Taken (head + 1))

-- what a Put of this connection, with this serial and body, is answered after these decisions, in this setting
abbrev pub verdict : Setting → List Decision → ℕ → ℕ → Body → Verdict
verdict setting before conn serial body = verdict_at (length (entries before)) (judged setting before conn serial body)

-- DECIDED HISTORIES

abbrev pub entry_if : Judgement → Entry → Option Entry
entry_if Adds entry = Some entry
entry_if _ entry = None

-- the entry that a Put adds: at the next place, with the clock of its event
abbrev pub entry_of : Setting → ℕ → ℕ → ℕ → Body → Entry
entry_of setting head conn serial body =
    record {
      place = head + 1;
      stamp = setting.now;
      conn = conn;
      serial = Some serial;
      body = filled setting.site (head + 1) conn serial setting.now body;
    }

-- what a Gone tells of each member, counted from an index: that it left
abbrev pub leaves : ℕ → ℕ → ℕ → List PresenceItem → List PresenceItem
leaves place now index [] = []
leaves place now index (member ∷ members) =
    record {
      action = presence.Leave;
      client = member.client;
      conn = member.conn;
      id = gone_id place index;
      stamp = now;
      payload = None;
      encoding = None;
    } ∷ leaves place now (suc index) members

-- the entry that a Gone adds where its connection has these members
abbrev pub gone_entry : ℕ → ℕ → ℕ → List PresenceItem → Entry
gone_entry head now conn gone =
    record { place = head + 1; stamp = now; conn = conn; serial = None; body = Presence (leaves (head + 1) now 0 gone) }

-- it adds one where it has members and the log is not full
abbrev pub entry_of_gone : ℕ → ℕ → ℕ → List PresenceItem → Option Entry
entry_of_gone head now conn [] = None
entry_of_gone head now conn (member ∷ gone) =
    if head == MAX_PLACE then None else Some (gone_entry head now conn (member ∷ gone))

-- the members of a connection, in order of client id
abbrev pub members_on : ℕ → List Decision → List PresenceItem
members_on conn before = filter (is_on (conn_text conn)) (members (entries before))

-- an event decided after these decisions, in the setting after it
abbrev pub decided : Setting → List Decision → ChannelEvent → Decision
decided setting before (Put conn serial body moment) =
    record {
      event = Put conn serial body moment;
      verdict = Some (verdict setting before conn serial body);
      entry = entry_if (judged setting before conn serial body) (entry_of setting (length (entries before)) conn serial body);
    }
decided setting before (Gone conn moment) =
    record {
      event = Gone conn moment;
      verdict = None;
      entry = entry_of_gone (length (entries before)) setting.now conn (members_on conn before);
    }
decided setting before event = record { event = event; verdict = None; entry = None }

-- what a channel of this site made of each event of a history
abbrev pub decisions : List ℕ → List ChannelEvent → List Decision
decisions site [] = []
decisions site (event ∷ past) = decided (setting site (event ∷ past)) (decisions site past) event ∷ decisions site past

-- THE LOG

-- the one log of a channel (RTL15)
abbrev pub log : List ℕ → List ChannelEvent → List Entry
log site past = entries (decisions site past)

-- the place of its last entry, or 0
abbrev pub head : List ℕ → List ChannelEvent → ℕ
head site past = length (log site past)

-- the entries at the places from + 1 to upto
abbrev pub run_between : List Entry → ℕ → ℕ → List Entry
run_between log from upto = take (upto - from) (drop from log)
