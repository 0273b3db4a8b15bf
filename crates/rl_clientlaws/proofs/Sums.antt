-- Each frame that is queued is answered, waits, or is given up.
use Rattle.std.proofs.Common.{◌≡◌, ◌≤◌, ◌+◌, ◌-◌, ◌^◌, ℕ, Bool, true, false, cond, List, [], ◌∷◌, ◌++◌, length, map, refl, ap, sym, ◌∙◌, arith}
use Rattle.std.specs.Prelude.{Option, Some, None, not, filter, is_none, min, ◌&&◌}
use Rattle.rl_types.specs.declared.frames.Frame.{Frame}
use Rattle.rl_types.specs.declared.frames.Frame.TheVariants as frames
use Rattle.rl_types.specs.declared.messages.Body.TheVariants.{Messages, Presence, Objects}
use Rattle.rl_runs.specs.declared.findings.Answer.TheVariants.{Ack, Nack}
use Rattle.rl_clientmodel.specs.Entries.{entry_got, object_page_got, page_got}
use Rattle.rl_types.specs.declared.states.ConnState.{ConnState}
use Rattle.rl_types.specs.declared.states.ConnState.TheVariants as conn
use Rattle.rl_runs.specs.declared.commands.Command.{Command}
use Rattle.rl_runs.specs.declared.commands.Command.TheVariants as commands
use Rattle.rl_runs.specs.declared.commands.RecoveryKey.{RecoveryKey}
use Rattle.rl_runs.specs.declared.findings.Answer.{Answer}
use Rattle.rl_connsm.specs.Rules.{forgets_connection, is_connected, takes_acknowledgements}
use Rattle.rl_connsm.specs.Rules as rules
use Rattle.rl_connsm.specs.declared.table.ConnEvent.{ConnEvent}
use Rattle.rl_connsm.specs.declared.table.ConnEvent.TheVariants as events
use Rattle.rl_ackq.specs.declared.pending.Pending.{Pending}
use Rattle.rl_ackq.specs.Frames.{with_serial}
use Rattle.rl_ackq.specs.Queue.{Queue, is_covered, is_full, numbered_from, pending_as, pushed, renumbered, settled_serials}
use Rattle.rl_names.specs.Names.{at}
use Rattle.rl_clientmodel.specs.declared.steps.ChannelStep.{ChannelStep}
use Rattle.rl_clientmodel.specs.declared.steps.ChannelStep.TheVariants.{DetachedGot, ErrorGot}
use Rattle.rl_clientmodel.specs.Channels.{ClientChannel, channel_from}
use Rattle.rl_clientmodel.specs.Answers.{attached_got, is_answer}
use Rattle.rl_types.specs.declared.presence.PresenceAction.TheVariants as presence
use Rattle.rl_clientmodel.specs.Commands.{Refusal, attach_step, channel_or_new, detach_step, enqueued, head_on, obeyed, obeyed_unless, presence_frame, refusal, unnumbered, with_own, without_own}
use Rattle.rl_clientmodel.specs.Hearing.{all_numbered, all_pushed, attached_in, connected_got, entered_again, entering, hears, id_of, is_id, settle}
use Rattle.rl_clientmodel.specs.Inputs.{Input, Told, Heard, Unlinked, Ticked, Recovers, run, step}
use Rattle.rl_clientmodel.specs.Keys.{is_empty, may_recover, with_key}
use Rattle.rl_clientmodel.specs.States.{ClientState, change_channel, changed, conn_moved, forgotten, moving, new_state, state_after, stepped, with_channel}
use Rattle.rl_clientmodel.specs.Times.{is_past_ttl, is_silent, waited}
use Rattle.rl_clientlaws.specs.Sums.{attached_queues, all_given_up, all_queued, entered_queues, given_up_at, given_up_by, heard_gives_up, heard_queues, queued_by, time_gives_up, told_gives_up, told_queues, FramesAreAccountedFor}

-- so many frames were queued, and so many given up
record Changes (queued : ℕ) (given_up : ℕ) (answers : List Answer) (queue : Queue) (dropped : ℕ) (next : ClientState) : Type 0 where
  sum : length next.answers + length next.queue.pending + given_up ≡ length answers + length queue.pending + queued
  counted : next.dropped ≡ min (dropped + given_up) (2 ^ 64 - 1)
  few : next.dropped ≤ 2 ^ 64 - 1

quiet_by : (answers : List Answer) (queue : Queue) (dropped : ℕ) (next : ClientState) → next.answers ≡ answers → next.queue ≡ queue → next.dropped ≡ dropped → dropped ≤ 2 ^ 64 - 1 → Changes 0 0 answers queue dropped next
quiet_by answers queue dropped next same_answers same_queue same_dropped few =
    let la : length next.answers ≡ length answers = ap length same_answers in
    let lq : length next.queue.pending ≡ length queue.pending = ap (λ (q : Queue). length q.pending) same_queue in
    record {
      sum = omega (arith, la, lq);
      counted = omega (arith, same_dropped, few);
      few = omega (arith, same_dropped, few);
    }

-- LISTS

length_push : {A : Type 0} (xs : List A) (x : A) → length (xs ++ x ∷ []) ≡ length xs + 1
length_push [] x = refl
length_push (y ∷ xs) x = let rest = length_push xs x in omega (arith, rest)

length_both : {A : Type 0} (xs ys : List A) → length (xs ++ ys) ≡ length xs + length ys
length_both [] ys = omega arith
length_both (x ∷ xs) ys = let rest = length_both xs ys in omega (arith, rest)

length_map : {A B : Type 0} (f : A → B) (xs : List A) → length (map f xs) ≡ length xs
length_map f [] = refl
length_map f (x ∷ xs) = let rest = length_map f xs in omega (arith, rest)

split_by : {A : Type 0} (b : Bool) (x : A) (ins outs : List A) (n : ℕ) → length ins + length outs ≡ n → length (cond b (x ∷ ins) ins) + length (cond (not b) (x ∷ outs) outs) ≡ n + 1
split_by true x ins outs n is = omega (arith, is)
split_by false x ins outs n is = omega (arith, is)

split_in_two : {A : Type 0} (p : A → Bool) (xs : List A) → length (filter p xs) + length (filter (λ (x : A). not (p x)) xs) ≡ length xs
split_in_two p [] = refl
split_in_two p (x ∷ xs) =
    let both = split_by (p x) x (filter p xs) (filter (λ (y : _). not (p y)) xs) (length xs) (split_in_two p xs) in
    let one : length (x ∷ xs) ≡ length xs + 1 = omega arith in
    both ∙ sym one

-- STEPS OF THE CONNECTION

forgot : (b : Bool) (s : ClientState) → s.dropped ≤ 2 ^ 64 - 1 → Changes 0 (cond b (length s.queue.pending) 0) s.answers s.queue s.dropped (forgotten b s)
forgot true s few = record { sum = omega arith; counted = refl; few = omega arith }
forgot false s few = quiet_by s.answers s.queue s.dropped s refl refl refl few

come : (event : ConnEvent) (now : ℕ) (s : ClientState) → s.dropped ≤ 2 ^ 64 - 1 → Changes 0 (given_up_at event s) s.answers s.queue s.dropped (conn_moved event now s)
come event now s few = forgot (forgets_connection (state_after event s)) _ few

-- WHAT IS QUEUED

push_one : (frame : Frame) (answers : List Answer) (queue : Queue) (dropped : ℕ) (s : ClientState) → s.answers ≡ answers → s.queue ≡ queue → s.dropped ≡ dropped → dropped ≤ 2 ^ 64 - 1 → Changes 1 0 answers queue dropped (enqueued frame s).state
push_one frame answers queue dropped s same_answers same_queue same_dropped few =
    let la : length s.answers ≡ length answers = ap length same_answers in
    let lq : length s.queue.pending ≡ length queue.pending = ap (λ (q : Queue). length q.pending) same_queue in
    let more = length_push s.queue.pending (pending_as s.queue.next frame) in
    record {
      sum = omega (arith, la, lq, more);
      counted = omega (arith, same_dropped, few);
      few = omega (arith, same_dropped, few);
    }

push_here : (frame : Frame) (s : ClientState) → s.dropped ≤ 2 ^ 64 - 1 → Changes 1 0 s.answers s.queue s.dropped (enqueued frame s).state
push_here frame s few = push_one frame s.answers s.queue s.dropped s refl refl refl few

-- a channel that is changed changes nothing of these
changed_answers : (name : List ℕ) (change : ClientChannel → ClientChannel) (found : Option ClientChannel) (s : ClientState) → (changed name change found s).answers ≡ s.answers
changed_answers name change None s = refl
changed_answers name change (Some channel) s = refl

changed_queue : (name : List ℕ) (change : ClientChannel → ClientChannel) (found : Option ClientChannel) (s : ClientState) → (changed name change found s).queue ≡ s.queue
changed_queue name change None s = refl
changed_queue name change (Some channel) s = refl

changed_dropped : (name : List ℕ) (change : ClientChannel → ClientChannel) (found : Option ClientChannel) (s : ClientState) → (changed name change found s).dropped ≡ s.dropped
changed_dropped name change None s = refl
changed_dropped name change (Some channel) s = refl

push_changed : (frame : Frame) (name : List ℕ) (change : ClientChannel → ClientChannel) (s : ClientState) → s.dropped ≤ 2 ^ 64 - 1 → Changes 1 0 s.answers s.queue s.dropped (enqueued frame (change_channel name change s)).state
push_changed frame name change s few =
    push_one frame s.answers s.queue s.dropped (change_channel name change s)
    (changed_answers name change (at name s.channels) s) (changed_queue name change (at name s.channels) s) (changed_dropped name change (at name s.channels) s) few

change_quiet : (name : List ℕ) (change : ClientChannel → ClientChannel) (s : ClientState) → s.dropped ≤ 2 ^ 64 - 1 → Changes 0 0 s.answers s.queue s.dropped (change_channel name change s)
change_quiet name change s few =
    quiet_by s.answers s.queue s.dropped (change_channel name change s)
    (changed_answers name change (at name s.channels) s) (changed_queue name change (at name s.channels) s) (changed_dropped name change (at name s.channels) s) few

step_quiet : (st : ChannelStep) (name : List ℕ) (found : Option ClientChannel) (s : ClientState) → s.dropped ≤ 2 ^ 64 - 1 → Changes 0 0 s.answers s.queue s.dropped (stepped st name found s).state
step_quiet st name None s few = quiet_by s.answers s.queue s.dropped s refl refl refl few
step_quiet st name (Some channel) s few = quiet_by s.answers s.queue s.dropped _ refl refl refl few

abbrev Obeys : Command → ℕ → ClientState → Type 0
Obeys command now s = Changes (told_queues None command) (told_gives_up None command s) s.answers s.queue s.dropped (obeyed command now s).state

obeys : (command : Command) (now : ℕ) (s : ClientState) → s.dropped ≤ 2 ^ 64 - 1 → Obeys command now s
obeys commands.Connect now s few = come events.Connect now s few
obeys commands.Close now s few = come events.CloseAsked now s few
obeys commands.Die now s few = come events.Died now s few
obeys (commands.Attach name) now s few = step_quiet (attach_step now s) name (Some (channel_or_new (at name s.channels))) s few
obeys (commands.AttachAt name serial) now s few = step_quiet (attach_step now s) name (Some (channel_from serial)) s few
obeys (commands.Detach name) now s few = step_quiet (detach_step now s) name (at name s.channels) s few
obeys (commands.Publish name items) now s few = push_here (frames.Message (head_on name) items) s few
obeys (commands.Enter name client payload) now s few = push_changed (presence_frame presence.Enter name client (Some payload)) name (with_own client payload) s few
obeys (commands.Update name client payload) now s few = push_changed (presence_frame presence.Update name client (Some payload)) name (with_own client payload) s few
obeys (commands.Leave name client) now s few = push_changed (presence_frame presence.Leave name client None) name (without_own client) s few
obeys (commands.Operate name ops) now s few = push_here (frames.Object (head_on name) (map unnumbered ops)) s few

acts_by : (refused : Option Refusal) (command : Command) (now : ℕ) (s : ClientState) → s.dropped ≤ 2 ^ 64 - 1 → Changes (told_queues refused command) (told_gives_up refused command s) s.answers s.queue s.dropped (obeyed_unless refused command now s).state
acts_by None command now s few = obeys command now s few
acts_by (Some refused) command now s few = quiet_by s.answers s.queue s.dropped s refl refl refl few

-- FRAMES

settles : (b : Bool) (serial count : ℕ) (answer : ℕ → Answer) (s : ClientState) → s.dropped ≤ 2 ^ 64 - 1 → Changes 0 0 s.answers s.queue s.dropped (cond b (settle serial count answer s) s)
settles true serial count answer s few =
    let two = split_in_two (is_covered serial count) s.queue.pending in
    let made : length (s.answers ++ map answer (settled_serials serial count s.queue)) ≡ length s.answers + length (filter (is_covered serial count) s.queue.pending) =
    length_both s.answers (map answer (settled_serials serial count s.queue))
    ∙ ap (λ n. length s.answers + n) (length_map answer (settled_serials serial count s.queue) ∙ length_map (λ (one : Pending). one.serial) (filter (is_covered serial count) s.queue.pending)) in
    record {
      sum = omega (arith, two, made);
      counted = omega (arith, few);
      few = few;
    }
settles false serial count answer s few = quiet_by s.answers s.queue s.dropped s refl refl refl few

numbered_length : (n : ℕ) (ps : List Pending) → length (numbered_from n ps) ≡ length ps
numbered_length n [] = refl
numbered_length n (p ∷ ps) = let rest = numbered_length (n + 1) ps in omega (arith, rest)

with_length : (b : Bool) (queue : Queue) → length (cond b queue (renumbered queue)).pending ≡ length queue.pending
with_length true queue = refl
with_length false queue = numbered_length 0 queue.pending

abbrev Connects : List ℕ → List ℕ → ℕ → ClientState → Type 0
Connects id key now s = Changes 0 0 s.answers s.queue s.dropped (connected_got id key now s).state

connects_in : (c : ConnState) (id key : List ℕ) (now : ℕ) (s : ClientState) → s.dropped ≤ 2 ^ 64 - 1 → Connects id key now (record s { conn = c })
connects_in conn.Connecting id key now s few =
    let same = with_length (is_id id s.id) s.queue in
    record { sum = omega (arith, same); counted = omega (arith, few); few = few }
connects_in conn.Initialized id key now s few = quiet_by s.answers s.queue s.dropped _ refl refl refl few
connects_in conn.Connected id key now s few = quiet_by s.answers s.queue s.dropped _ refl refl refl few
connects_in conn.Disconnected id key now s few = quiet_by s.answers s.queue s.dropped _ refl refl refl few
connects_in conn.Suspended id key now s few = quiet_by s.answers s.queue s.dropped _ refl refl refl few
connects_in conn.Closing id key now s few = quiet_by s.answers s.queue s.dropped _ refl refl refl few
connects_in conn.Closed id key now s few = quiet_by s.answers s.queue s.dropped _ refl refl refl few
connects_in conn.Failed id key now s few = quiet_by s.answers s.queue s.dropped _ refl refl refl few

pushed_by : (b : Bool) (frame : Frame) (fs : List Frame) (queue : Queue)
    → length (all_pushed fs queue).pending ≡ length queue.pending + length (all_numbered fs queue)
    → length (all_pushed fs (pushed frame queue)).pending ≡ length (pushed frame queue).pending + length (all_numbered fs (pushed frame queue))
    → length (cond b (all_pushed fs queue) (all_pushed fs (pushed frame queue))).pending ≡ length queue.pending + length (cond b (all_numbered fs queue) (with_serial queue.next frame ∷ all_numbered fs (pushed frame queue)))
pushed_by true frame fs queue skip go = skip
pushed_by false frame fs queue skip go = let more = length_push queue.pending (pending_as queue.next frame) in omega (arith, go, more)

pushed_length : (fs : List Frame) (queue : Queue) → length (all_pushed fs queue).pending ≡ length queue.pending + length (all_numbered fs queue)
pushed_length [] queue = omega arith
pushed_length (frame ∷ fs) queue = pushed_by (is_full queue) frame fs queue (pushed_length fs queue) (pushed_length fs (pushed frame queue))

enters : (b : Bool) (name : List ℕ) (channel : ClientChannel) (s next : ClientState) → next.answers ≡ s.answers → next.queue ≡ s.queue → next.dropped ≡ s.dropped → s.dropped ≤ 2 ^ 64 - 1 → Changes (entered_queues b name channel s.queue) 0 s.answers s.queue s.dropped (entered_again b name channel.own next).state
enters false name channel s next same_answers same_queue same_dropped few = quiet_by s.answers s.queue s.dropped next same_answers same_queue same_dropped few
enters true name channel s next same_answers same_queue same_dropped few =
    let la : length next.answers ≡ length s.answers = ap length same_answers in
    let all = pushed_length (entering name channel.own) s.queue in
    let lq : length (all_pushed (entering name channel.own) next.queue).pending ≡ length (all_pushed (entering name channel.own) s.queue).pending = ap (λ (q : Queue). length (all_pushed (entering name channel.own) q).pending) same_queue in
    record { sum = omega (arith, la, all, lq); counted = omega (arith, same_dropped, few); few = omega (arith, same_dropped, few) }

attaches : (found : Option ClientChannel) (name : List ℕ) (told : _) (flags : ℕ) (s : ClientState) → s.dropped ≤ 2 ^ 64 - 1 → Changes (attached_queues found name s.queue) 0 s.answers s.queue s.dropped (attached_in found name told flags s).state
attaches None name told flags s few = quiet_by s.answers s.queue s.dropped s refl refl refl few
attaches (Some channel) name told flags s few = enters (is_answer channel) name channel s (with_channel name (attached_got flags told channel) s) refl refl refl few

abbrev heard_at : ℕ → ClientState → ClientState
heard_at now s = record s { got_at = now }

abbrev Hears : Frame → ℕ → ClientState → Type 0
Hears frame now s = Changes (heard_queues frame s) (heard_gives_up frame s) s.answers s.queue s.dropped (hears frame now (heard_at now s)).state

same : (s : ClientState) → s.dropped ≤ 2 ^ 64 - 1 → Changes 0 0 s.answers s.queue s.dropped s
same s few = quiet_by s.answers s.queue s.dropped s refl refl refl few

hears_one : (frame : Frame) (now : ℕ) (s : ClientState) → s.dropped ≤ 2 ^ 64 - 1 → Hears frame now s
hears_one frames.Heartbeat now s few = same (heard_at now s) few
hears_one (frames.Ack serial count) now s few = settles (takes_acknowledgements s.conn) serial count (λ n. Ack (id_of s.id) n) (heard_at now s) few
hears_one (frames.Nack serial count code) now s few = settles (takes_acknowledgements s.conn) serial count (λ n. Nack (id_of s.id) n code) (heard_at now s) few
hears_one frames.Connect now s few = same (heard_at now s) few
hears_one (frames.Connected id key ttl idle size code) now s few = connects_in s.conn id key now (heard_at now s) few
hears_one frames.Disconnect now s few = same (heard_at now s) few
hears_one (frames.Disconnected code) now s few = come events.Disconnected now (heard_at now s) few
hears_one frames.Close now s few = same (heard_at now s) few
hears_one frames.Closed now s few = come events.ClosedGot now (heard_at now s) few
hears_one (frames.Error None code) now s few = come events.Fatal now (heard_at now s) few
hears_one (frames.Error (Some name) code) now s few = step_quiet ErrorGot name (at name s.channels) (heard_at now s) few
hears_one (frames.Attach channel serial) now s few = same (heard_at now s) few
hears_one (frames.Attached name told flags code) now s few = attaches (at name s.channels) name told flags (heard_at now s) few
hears_one (frames.Detach channel) now s few = same (heard_at now s) few
hears_one (frames.Detached name code) now s few = step_quiet (DetachedGot (is_connected s.conn) now) name (at name s.channels) (heard_at now s) few
hears_one (frames.Presence head items) now s few = change_quiet head.channel (entry_got head.serial (Presence items) now) (heard_at now s) few
hears_one (frames.Message head items) now s few = change_quiet head.channel (entry_got head.serial (Messages items) now) (heard_at now s) few
hears_one (frames.Sync name at_cursor items) now s few = change_quiet name (page_got at_cursor items) (heard_at now s) few
hears_one frames.Auth now s few = same (heard_at now s) few
hears_one (frames.Object head ops) now s few = change_quiet head.channel (entry_got head.serial (Objects ops) now) (heard_at now s) few
hears_one (frames.ObjectSync name at_cursor states) now s few = change_quiet name (object_page_got at_cursor states now) (heard_at now s) few

-- TIME

waits : (b : Bool) (s next : ClientState) → next.answers ≡ s.answers → next.queue ≡ s.queue → next.dropped ≡ s.dropped → s.dropped ≤ 2 ^ 64 - 1 → Changes 0 0 s.answers s.queue s.dropped (cond b next s)
waits true s next same_answers same_queue same_dropped few = quiet_by s.answers s.queue s.dropped next same_answers same_queue same_dropped few
waits false s next same_answers same_queue same_dropped few = same s few

ages : (past silent : Bool) (now : ℕ) (s : ClientState) → s.dropped ≤ 2 ^ 64 - 1 → Changes 0 (time_gives_up past silent s) s.answers s.queue s.dropped (cond past (moving [] events.Ttl now s) (cond silent (moving [] events.Down now s) (record { state = waited now s; output = record { frames = []; drop_link = false } }))).state
ages true silent now s few = come events.Ttl now s few
ages false true now s few = come events.Down now s few
ages false false now s few = waits (is_connected s.conn) s _ refl refl refl few

-- INPUTS

never_by : (a b c d : Bool) → d ≡ false → (a && b && c && d) ≡ true → ⊥
never_by true true true d off is = let both : false ≡ true = sym off ∙ is in cc
never_by true true false d off is = cc
never_by true false c d off is = cc
never_by false b c d off is = cc

-- frames that wait leave no room for recovery
recovers_by : (pending : List Pending) (key : RecoveryKey) (s : ClientState) → s.queue.pending ≡ pending → may_recover s ≡ true → s.dropped ≤ 2 ^ 64 - 1 → Changes 0 0 s.answers s.queue s.dropped (with_key key s)
recovers_by [] key s waiting is few = let none : length s.queue.pending ≡ 0 = ap length waiting in record { sum = omega (arith, none); counted = omega (arith, few); few = few }
recovers_by (one ∷ more) key s waiting is few = absurd (never_by (rules.may_recover s.conn) (is_empty s.channels) (is_none s.key) (is_empty s.queue.pending) (ap is_empty waiting) is)

recovers : (b : Bool) (key : RecoveryKey) (s : ClientState) → may_recover s ≡ b → s.dropped ≤ 2 ^ 64 - 1 → Changes 0 0 s.answers s.queue s.dropped (cond b (with_key key s) s)
recovers false key s is few = same s few
recovers true key s is few = recovers_by s.queue.pending key s refl is few

steps : (input : Input) (s : ClientState) → s.dropped ≤ 2 ^ 64 - 1 → Changes (queued_by input s) (given_up_by input s) s.answers s.queue s.dropped (step input s).state
steps (Told command now) s few = acts_by (refusal command s) command now s few
steps (Heard None now) s few = quiet_by s.answers s.queue s.dropped _ refl refl refl few
steps (Heard (Some frame) now) s few = hears_one frame now s few
steps (Unlinked now) s few = come events.Down now s few
steps (Ticked now) s few =
    let aging = ages (is_past_ttl now s) (is_silent now s) now s few in
    record { sum = aging.sum; counted = aging.counted; few = aging.few }
steps (Recovers key) s few = recovers (may_recover s) key s refl few

-- ALL INPUTS

record Sums (inputs : List Input) (s next : ClientState) : Type 0 where
  sum : length next.answers + length next.queue.pending + all_given_up inputs s ≡ all_queued inputs s
  counted : next.dropped ≡ min (all_given_up inputs s) (2 ^ 64 - 1)
  few : next.dropped ≤ 2 ^ 64 - 1

all_sums : (inputs : List Input) (client : List ℕ) → Sums inputs (new_state client) (run inputs (new_state client))
all_sums [] client = record { sum = refl; counted = omega arith; few = omega arith }
all_sums (input ∷ before) client =
    let earlier = all_sums before client in
    let one = steps input (run before (new_state client)) earlier.few in
    record {
      sum = omega (arith, earlier.sum, one.sum);
      counted = omega (arith, earlier.counted, one.counted);
      few = one.few;
    }

pub accounted_for : FramesAreAccountedFor
accounted_for client inputs = let all = all_sums inputs client in record { sum = all.sum; counted = all.counted }
