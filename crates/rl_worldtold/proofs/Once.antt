-- No connection and serial is listed twice: what each input of a client leaves.
use Rattle.std.proofs.Common.{◌≡◌, ◌⊎◌, inl, inr, ℕ, Bool, true, false, List, [], ◌∷◌, map, refl, sym, ◌∙◌, ap, subst, arith, true≢false}
use Rattle.std.specs.Prelude.{Option, Some, None, if◌then◌else◌}
use Rattle.std.specs.List.{AllByRecursion}
use Rattle.rl_ids.specs.declared.serials.ChannelSerial.{ChannelSerial}
use Rattle.rl_types.specs.declared.frames.Frame.{Frame}
use Rattle.rl_types.specs.declared.frames.Frame.TheVariants as frames
use Rattle.rl_types.specs.declared.messages.Body.TheVariants.{Messages, Presence, Objects}
use Rattle.rl_types.specs.declared.presence.PresenceAction.TheVariants as presence
use Rattle.rl_runs.specs.declared.commands.Command.{Command}
use Rattle.rl_runs.specs.declared.commands.Command.TheVariants.{Connect, Close, Die, Attach, AttachAt, Detach, Publish, Enter, Update, Leave, Operate}
use Rattle.rl_runs.specs.declared.findings.Answer.{Answer}
use Rattle.rl_connsm.specs.Rules.{forgets_connection}
use Rattle.rl_connsm.specs.Rules as rules
use Rattle.rl_connsm.specs.declared.table.ConnEvent.{ConnEvent}
use Rattle.rl_connsm.specs.declared.table.ConnEvent.TheVariants as events
use Rattle.rl_ackq.specs.Queue.{Queue, RiseFrom, is_full, pushed, pending_as, renumbered, numbered_from}
use Rattle.rl_connbook.proofs.Each.{all_weaker, all_append}
use Rattle.rl_names.specs.Names.{at}
use Rattle.rl_clientmodel.specs.declared.steps.ChannelStep.{ChannelStep}
use Rattle.rl_clientmodel.specs.declared.steps.ChannelStep.TheVariants.{DetachedGot, ErrorGot}
use Rattle.rl_clientmodel.specs.Channels.{ClientChannel, channel_from}
use Rattle.rl_clientmodel.specs.Entries.{entry_got, page_got, object_page_got}
use Rattle.rl_clientmodel.specs.States.{ClientState, quietly, changed, change_channel, with_channel, stepped, forgotten, state_after, conn_moved, moving}
use Rattle.rl_clientmodel.specs.Commands.{Refusal, refusal, acted, obeyed, obeyed_unless, enqueued, head_on, unnumbered, presence_frame, attach_step, detach_step, channel_or_new, with_own, without_own}
use Rattle.rl_clientmodel.specs.Hearing.{is_id, queue_with, all_pushed, entering, entered_again, attached_in, error_got, hears}
use Rattle.rl_clientmodel.specs.Answers.{attached_got, is_answer}
use Rattle.rl_clientmodel.specs.Times.{unlinked, ticked, is_past_ttl, is_silent, waited}
use Rattle.rl_worldtold.specs.Listed.{pair_of}
use Rattle.rl_worldtold.specs.Tell.{IsOld, IsOnce, IsListedOnce, IsUnheard}
use Rattle.rl_worldtold.proofs.Shape.{same_bytes, self_bytes}
use Rattle.rl_worldtold.proofs.Calm.{IsOther}
use Rattle.rl_worldtold.proofs.Twice.{rise_push, rise_numbered}

-- THE CONNECTION MOVES

once_forgot : (b : Bool) (s : ClientState) → IsListedOnce s → IsListedOnce (forgotten b s)
once_forgot true s h = record { rise = omega arith; distinct = h.distinct; old = all_weaker _ _ (λ a old none. absurd (cc)) s.answers h.old }
once_forgot false s h = h

pub once_moved : (event : ConnEvent) (now : ℕ) (s : ClientState) → IsListedOnce s → IsListedOnce (conn_moved event now s)
once_moved event now s h = once_forgot (forgets_connection (state_after event s)) _ h

pub once_unlinked : (now : ℕ) (s : ClientState) → IsListedOnce s → IsListedOnce (unlinked now s).state
once_unlinked now s h = once_moved events.Down now s h

-- FRAMES THAT ARE QUEUED

once_push : (id : Option (List ℕ)) (queue : Queue) (answers : List Answer) (frame : Frame) → IsOnce id queue answers → IsOnce id (pushed frame queue) answers
once_push id queue answers frame h = record {
  rise = rise_push 0 queue.pending queue.next frame h.rise;
  distinct = h.distinct;
  old = all_weaker _ _ (λ a old is. let p = old is in (omega (arith, p.0), all_append _ queue.pending (pending_as queue.next frame ∷ []) p.1 ((λ wrong. omega (arith, wrong, p.0)), tt))) answers h.old;
}

once_push_by : (b : Bool) (id : Option (List ℕ)) (answers : List Answer) (x y : Queue) → IsOnce id x answers → IsOnce id y answers → IsOnce id (if b then x else y) answers
once_push_by true id answers x y p q = p
once_push_by false id answers x y p q = q

once_pushes : (fs : List Frame) (id : Option (List ℕ)) (queue : Queue) (answers : List Answer) → IsOnce id queue answers → IsOnce id (all_pushed fs queue) answers
once_pushes [] id queue answers h = h
once_pushes (frame ∷ fs) id queue answers h =
    once_push_by (is_full queue) id answers (all_pushed fs queue) (all_pushed fs (pushed frame queue)) (once_pushes fs id queue answers h) (once_pushes fs id (pushed frame queue) answers (once_push id queue answers frame h))

once_enqueued : (frame : Frame) (s : ClientState) → IsListedOnce s → IsListedOnce (enqueued frame s).state
once_enqueued frame s h = once_push s.id s.queue s.answers frame h

-- COMMANDS

once_stepped : (step : ChannelStep) (name : List ℕ) (o : Option ClientChannel) (s : ClientState) → IsListedOnce s → IsListedOnce (stepped step name o s).state
once_stepped step name None s h = h
once_stepped step name (Some channel) s h = h

once_changed : (name : List ℕ) (change : ClientChannel → ClientChannel) (o : Option ClientChannel) (s : ClientState) → IsListedOnce s → IsListedOnce (changed name change o s)
once_changed name change None s h = h
once_changed name change (Some channel) s h = h

once_channel : (name : List ℕ) (change : ClientChannel → ClientChannel) (s : ClientState) → IsListedOnce s → IsListedOnce (change_channel name change s)
once_channel name change s h = once_changed name change (at name s.channels) s h

once_obeyed : (command : Command) (now : ℕ) (s : ClientState) → IsListedOnce s → IsListedOnce (obeyed command now s).state
once_obeyed Connect now s h = once_moved events.Connect now s h
once_obeyed Close now s h = once_moved events.CloseAsked now s h
once_obeyed Die now s h = once_moved events.Died now s h
once_obeyed (Attach name) now s h = once_stepped (attach_step now s) name (Some (channel_or_new (at name s.channels))) s h
once_obeyed (AttachAt name serial) now s h = once_stepped (attach_step now s) name (Some (channel_from serial)) s h
once_obeyed (Detach name) now s h = once_stepped (detach_step now s) name (at name s.channels) s h
once_obeyed (Publish name items) now s h = once_push s.id s.queue s.answers (frames.Message (head_on name) items) h
once_obeyed (Enter name client payload) now s h = once_enqueued (presence_frame presence.Enter name client (Some payload)) (change_channel name (with_own client payload) s) (once_channel name (with_own client payload) s h)
once_obeyed (Update name client payload) now s h = once_enqueued (presence_frame presence.Update name client (Some payload)) (change_channel name (with_own client payload) s) (once_channel name (with_own client payload) s h)
once_obeyed (Leave name client) now s h = once_enqueued (presence_frame presence.Leave name client None) (change_channel name (without_own client) s) (once_channel name (without_own client) s h)
once_obeyed (Operate name ops) now s h = once_push s.id s.queue s.answers (frames.Object (head_on name) (map unnumbered ops)) h

once_unless : (o : Option Refusal) (command : Command) (now : ℕ) (s : ClientState) → IsListedOnce s → IsListedOnce (obeyed_unless o command now s).state
once_unless None command now s h = once_obeyed command now s h
once_unless (Some why) command now s h = h

pub once_acted : (command : Command) (now : ℕ) (s : ClientState) → IsListedOnce s → IsListedOnce (acted command now s).state
once_acted command now s h = once_unless (refusal command s) command now s h

-- FRAMES

once_entered : (b : Bool) (name : List ℕ) (own : List (List ℕ × List ℕ)) (s : ClientState) → IsListedOnce s → IsListedOnce (entered_again b name own s).state
once_entered true name own s h = once_pushes (entering name own) s.id s.queue s.answers h
once_entered false name own s h = h

once_attached : (o : Option ClientChannel) (name : List ℕ) (told : ChannelSerial) (flags : ℕ) (s : ClientState) → IsListedOnce s → IsListedOnce (attached_in o name told flags s).state
once_attached None name told flags s h = h
once_attached (Some channel) name told flags s h = once_entered (is_answer channel) name channel.own (with_channel name (attached_got flags told channel) s) h

once_error : (o : Option (List ℕ)) (now : ℕ) (s : ClientState) → IsListedOnce s → IsListedOnce (error_got o now s).state
once_error None now s h = once_moved events.Fatal now s h
once_error (Some name) now s h = once_stepped ErrorGot name (at name s.channels) s h

pub once_hears : (frame : Frame) (now : ℕ) (s : ClientState) → IsOther frame → IsListedOnce s → IsListedOnce (hears frame now s).state
once_hears (frames.Connected id key ttl idle size code) now s other h = absurd other
once_hears (frames.Ack serial count) now s other h = absurd other
once_hears (frames.Nack serial count code) now s other h = absurd other
once_hears (frames.Disconnected code) now s other h = once_moved events.Disconnected now s h
once_hears frames.Closed now s other h = once_moved events.ClosedGot now s h
once_hears (frames.Error channel code) now s other h = once_error channel now s h
once_hears (frames.Attached name told flags code) now s other h = once_attached (at name s.channels) name told flags s h
once_hears (frames.Detached name code) now s other h = once_stepped (DetachedGot (rules.is_connected s.conn) now) name (at name s.channels) s h
once_hears (frames.Message head items) now s other h = once_channel head.channel (entry_got head.serial (Messages items) now) s h
once_hears (frames.Presence head items) now s other h = once_channel head.channel (entry_got head.serial (Presence items) now) s h
once_hears (frames.Object head ops) now s other h = once_channel head.channel (entry_got head.serial (Objects ops) now) s h
once_hears (frames.Sync name cursor items) now s other h = once_channel name (page_got cursor items) s h
once_hears (frames.ObjectSync name cursor states) now s other h = once_channel name (object_page_got cursor states now) s h
once_hears frame now s other h = h

-- CONNECTED: with the held connection the serials stay, with another all frames that wait are numbered anew

once_up_by : (b : Bool) (id : List ℕ) (held : Option (List ℕ)) (queue : Queue) (answers : List Answer) → IsOnce held queue answers → (b ≡ true → held ≡ Some id) → (b ≡ false → held ≡ Some id → ⊥) → (held ≡ Some id) ⊎ IsUnheard id answers
    → IsOnce (Some id) (if b then queue else renumbered queue) answers
once_up_by true id held queue answers h same other may = record { rise = h.rise; distinct = h.distinct; old = subst (λ (o : Option (List ℕ)). AllByRecursion (IsOld o queue) answers) (same refl) h.old }
once_up_by false id held queue answers h same other (inl mine) = absurd (other refl mine)
once_up_by false id held queue answers h same other (inr unheard) = record {
  rise = subst (λ m. RiseFrom 0 (numbered_from 0 queue.pending) m) (omega arith) (rise_numbered 0 queue.pending);
  distinct = h.distinct;
  old = all_weaker _ _ (λ a never mine. absurd (never (let same : id ≡ (pair_of a).0 = cc in sym same))) answers unheard;
}

pub id_held : (id : List ℕ) (o : Option (List ℕ)) → is_id id o ≡ true → o ≡ Some id
id_held id None is = absurd (cc)
id_held id (Some held) is = ap (λ (x : List ℕ). Some x) (sym (same_bytes id held is))

pub id_other : (id : List ℕ) (o : Option (List ℕ)) → is_id id o ≡ false → o ≡ Some id → ⊥
id_other id o is same =
    let yes_it : is_id id o ≡ true = ap (is_id id) same ∙ self_bytes id in
    true≢false (sym yes_it ∙ is)

pub once_connected : (id : List ℕ) (s : ClientState) → (s.id ≡ Some id) ⊎ IsUnheard id s.answers → IsListedOnce s → IsOnce (Some id) (queue_with id s.id s.queue) s.answers
once_connected id s may h = once_up_by (is_id id s.id) id s.id s.queue s.answers h (id_held id s.id) (id_other id s.id) may

-- TIME

once_waited : (b : Bool) (s next : ClientState) → IsListedOnce s → IsListedOnce next → IsListedOnce (if b then next else s)
once_waited true s next h g = g
once_waited false s next h g = h

once_aged : (past silent : Bool) (now : ℕ) (s : ClientState) → IsListedOnce s → IsListedOnce (if past then moving [] events.Ttl now s else if silent then moving [] events.Down now s else quietly (waited now s)).state
once_aged true silent now s h = once_moved events.Ttl now s h
once_aged false true now s h = once_moved events.Down now s h
once_aged false false now s h = once_waited (rules.is_connected s.conn) s _ h h

pub once_ticked : (now : ℕ) (s : ClientState) → IsListedOnce s → IsListedOnce (ticked now s).state
once_ticked now s h = once_aged (is_past_ttl now s) (is_silent now s) now s h
