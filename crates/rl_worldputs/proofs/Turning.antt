-- What a client's inputs make of the uses of its connection's serials.
use Rattle.std.proofs.Common.{◌≡◌, ◌⊎◌, inl, inr, ℕ, Bool, true, false, List, [], ◌∷◌, map, refl, sym, ◌∙◌, subst}
use Rattle.std.specs.Prelude.{Option, Some, None, if◌then◌else◌, not, ⊤}
use Rattle.std.specs.List.{AllByRecursion}
use Rattle.rl_ids.specs.declared.serials.ChannelSerial.{ChannelSerial}
use Rattle.rl_types.specs.declared.frames.Frame.{Frame}
use Rattle.rl_types.specs.declared.frames.Frame.TheVariants as frames
use Rattle.rl_types.specs.declared.messages.Body.TheVariants.{Messages, Presence, Objects}
use Rattle.rl_types.specs.declared.presence.PresenceAction.TheVariants as presence
use Rattle.rl_types.specs.declared.states.ConnState.{ConnState}
use Rattle.rl_types.specs.declared.states.ConnState.TheVariants as conn
use Rattle.rl_runs.specs.declared.commands.Command.{Command}
use Rattle.rl_runs.specs.declared.commands.Command.TheVariants.{Connect, Close, Die, Attach, AttachAt, Detach, Publish, Enter, Update, Leave, Operate}
use Rattle.rl_runs.specs.declared.findings.Answer.{Answer}
use Rattle.rl_runs.specs.declared.findings.Answer.TheVariants.{Ack, Nack}
use Rattle.rl_connsm.specs.Rules.{forgets_connection, is_connected, takes_acknowledgements}
use Rattle.rl_connsm.specs.declared.table.ConnEvent.{ConnEvent}
use Rattle.rl_connsm.specs.declared.table.ConnEvent.TheVariants as events
use Rattle.rl_chansm.specs.Owed.{takes_unasked}
use Rattle.rl_chansm.specs.Rules.{sends_attach, sends_detach}
use Rattle.rl_chansm.specs.declared.table.ChanEvent.{ChanEvent}
use Rattle.rl_chansm.specs.declared.table.ChanEvent.TheVariants as channel_events
use Rattle.rl_ackq.specs.declared.pending.Pending.{Pending}
use Rattle.rl_ackq.specs.Frames.{with_serial}
use Rattle.rl_ackq.specs.Queue.{Queue, pushed, is_covered}
use Rattle.rl_connbook.proofs.Each.{all_append, all_filter}
use Rattle.rl_names.specs.Names.{at}
use Rattle.rl_clientmodel.specs.declared.steps.ChannelStep.{ChannelStep}
use Rattle.rl_clientmodel.specs.declared.steps.ChannelStep.TheVariants.{Moves, DetachedGot, ErrorGot}
use Rattle.rl_clientmodel.specs.Channels.{ClientChannel, channel_from, attach_frame, asks, channel_asks}
use Rattle.rl_clientmodel.specs.Entries.{entry_got, page_got, object_page_got}
use Rattle.rl_clientmodel.specs.States.{ClientState, Turn, quietly, sending, changed, with_channel, stepped, forgotten, state_after, conn_moved, moving, all_asks}
use Rattle.rl_clientmodel.specs.Commands.{Refusal, refusal, acted, obeyed, obeyed_unless, if_connected, enqueued, head_on, unnumbered, presence_frame, attach_step, detach_step, channel_or_new, with_own, without_own}
use Rattle.rl_clientmodel.specs.Hearing.{all_enqueued, entering, entered_again, attached_in, error_got, hears, settle, id_of, all_pushed, all_numbered}
use Rattle.rl_clientmodel.specs.Answers.{attached_got, is_answer}
use Rattle.rl_clientmodel.specs.Times.{ticked, is_past_ttl, is_silent, waited}
use Rattle.rl_worldputs.specs.Uses.{Use, AreSingle, AreGivenByOne, IsPlain, IsUseOf, IsNumbered}
use Rattle.rl_worldputs.proofs.Using.{Grows, grows_same, Pushes, push_one, push_all}

-- what a turn makes of them, of whatever world
pub record Makes (uses : List Use) (name : List ℕ) (before : ClientState) (turn : Turn) : Type 0 where
  pub later : List Use
  pub grown : Grows uses later turn.state.id
  pub single : AreSingle later
  pub givers : AreGivenByOne later
  pub same : (id : List ℕ) → turn.state.id ≡ Some id → before.id ≡ Some id
  pub numbered : (id : List ℕ) → turn.state.id ≡ Some id → IsNumbered later id name turn.state.queue
  pub sent : AllByRecursion IsPlain turn.output.frames ⊎ ((before.conn ≡ conn.Connected) × ((id : List ℕ) → before.id ≡ Some id → AllByRecursion (IsUseOf later id) turn.output.frames))

-- FRAMES THAT CHANNELS SEND

plain_if : (b : Bool) (one two : List Frame) → AllByRecursion IsPlain one → AllByRecursion IsPlain two → AllByRecursion IsPlain (if b then one else two)
plain_if true one two p q = p
plain_if false one two p q = q

plain_asked : (one two : Bool) (attach detach : Frame) → IsPlain attach → IsPlain detach → AllByRecursion IsPlain (if one then attach ∷ [] else if two then detach ∷ [] else [])
plain_asked true two attach detach p q = (p, tt)
plain_asked false true attach detach p q = (q, tt)
plain_asked false false attach detach p q = tt

plain_asks : (connected : Bool) (event : ChanEvent) (name : List ℕ) (channel : ClientChannel) → AllByRecursion IsPlain (asks connected event name channel)
plain_asks connected event name channel = plain_asked (sends_attach connected channel.state event) (sends_detach channel.state event) (attach_frame name channel) (frames.Detach name) tt tt

plain_step : (step : ChannelStep) (name : List ℕ) (channel : ClientChannel) → AllByRecursion IsPlain (channel_asks step name channel)
plain_step (Moves event connected now) name channel = plain_asks connected event name channel
plain_step (DetachedGot connected now) name channel = plain_if (takes_unasked channel.owed channel.state) (asks connected channel_events.DetachedUnasked name channel) [] (plain_asks connected channel_events.DetachedUnasked name channel) tt
plain_step step name channel = tt

pub plain_all : (step : ChannelStep) (channels : List (List ℕ × ClientChannel)) → AllByRecursion IsPlain (all_asks step channels)
plain_all step [] = tt
plain_all step (e ∷ channels) = all_append IsPlain (channel_asks step e.0 e.1) (all_asks step channels) (plain_step step e.0 e.1) (plain_all step channels)

plain_connected : (b : Bool) (frame : Frame) → IsPlain frame → AllByRecursion IsPlain (if b then frame ∷ [] else [])
plain_connected true frame p = (p, tt)
plain_connected false frame p = tt

-- ALL THAT LEAVES THE QUEUE

-- the connection and its queue stay, or the connection is forgotten
abbrev pub IsHeld : ClientState → ClientState → Type 0
IsHeld before after = (after.id ≡ None) ⊎ ((after.id ≡ before.id) × (after.queue ≡ before.queue))

-- the frames that wait are so where the client has a connection
abbrev pub AreNumbered : List Use → List ℕ → ClientState → Type 0
AreNumbered uses name s = (id : List ℕ) → s.id ≡ Some id → IsNumbered uses id name s.queue

-- any frame but CONNECTED
abbrev pub IsNotConnected : Frame → Type 0
IsNotConnected (frames.Connected id key ttl idle size code) = ⊥
IsNotConnected frame = ⊤

module _ (uses : List Use) (owner_name : List ℕ) (single : AreSingle uses) (givers : AreGivenByOne uses) where
  numbered_held : (before after : ClientState) → AreNumbered uses owner_name before → IsHeld before after → AreNumbered uses owner_name after
  numbered_held before after h (inl none) id is = let wrong : None ≡ Some id = sym none ∙ is in absurd (cc)
  numbered_held before after h (inr same) id is = subst (IsNumbered uses id owner_name) (sym same.1) (h id (sym same.0 ∙ is))

  same_held : (before after : ClientState) → IsHeld before after → (id : List ℕ) → after.id ≡ Some id → before.id ≡ Some id
  same_held before after (inl none) id is = let wrong : None ≡ Some id = sym none ∙ is in absurd (cc)
  same_held before after (inr same) id is = sym same.0 ∙ is

  pub makes_held : (before : ClientState) (turn : Turn) → AreNumbered uses owner_name before → IsHeld before turn.state → AllByRecursion IsPlain turn.output.frames → Makes uses owner_name before turn
  makes_held before turn h held plain = record {
    later = uses;
    grown = grows_same uses turn.state.id;
    single = single;
    givers = givers;
    same = same_held before turn.state held;
    numbered = numbered_held before turn.state h held;
    sent = inl plain;
  }

  forgot_held : (b : Bool) (before s : ClientState) → s.id ≡ before.id → s.queue ≡ before.queue → IsHeld before (forgotten b s)
  forgot_held true before s id queue = inl refl
  forgot_held false before s id queue = inr (id, queue)

  pub moved_held : (event : ConnEvent) (now : ℕ) (s : ClientState) → IsHeld s (conn_moved event now s)
  moved_held event now s = forgot_held (forgets_connection (state_after event s)) s _ refl refl

  makes_moving : (list : List Frame) (event : ConnEvent) (now : ℕ) (s : ClientState) → AllByRecursion IsPlain list → AreNumbered uses owner_name s → Makes uses owner_name s (moving list event now s)
  makes_moving list event now s plain h = makes_held s (moving list event now s) h (moved_held event now s) plain

  makes_stepped : (step : ChannelStep) (name : List ℕ) (o : Option ClientChannel) (s : ClientState) → AreNumbered uses owner_name s → Makes uses owner_name s (stepped step name o s)
  makes_stepped step name None s h = makes_held s (quietly s) h (inr (refl, refl)) tt
  makes_stepped step name (Some channel) s h = makes_held s (stepped step name (Some channel) s) h (inr (refl, refl)) (plain_step step name channel)

  makes_changed : (name : List ℕ) (change : ClientChannel → ClientChannel) (o : Option ClientChannel) (s : ClientState) → AreNumbered uses owner_name s → Makes uses owner_name s (quietly (changed name change o s))
  makes_changed name change None s h = makes_held s (quietly s) h (inr (refl, refl)) tt
  makes_changed name change (Some channel) s h = makes_held s (quietly (changed name change (Some channel) s)) h (inr (refl, refl)) tt

  -- FRAMES THAT ARE QUEUED

  connected_is : (c : ConnState) → is_connected c ≡ true → c ≡ conn.Connected
  connected_is conn.Connected is = refl
  connected_is c is = absurd (cc)

  -- where the client has a connection each frame is a use of it; where it has none nothing is asked
  makes_pushed : (before s : ClientState) (queue : Queue) (list : List Frame) (b : Bool) (o : Option (List ℕ)) → before.id ≡ o → s.id ≡ before.id → (b ≡ true → before.conn ≡ conn.Connected)
      → ((id : List ℕ) → before.id ≡ Some id → Pushes uses owner_name id queue list) → Makes uses owner_name before (sending (if b then list else []) (record s { queue = queue }))
  makes_pushed before s queue list b None none same connected push = record {
    later = uses;
    grown = grows_same uses s.id;
    single = single;
    givers = givers;
    same = λ id is. sym same ∙ is;
    numbered = λ id is. let wrong : None ≡ Some id = sym none ∙ sym same ∙ is in absurd (cc);
    sent = sent_by b connected;
  }
    where
      sent_by : (b : Bool) → (b ≡ true → before.conn ≡ conn.Connected)
          → AllByRecursion IsPlain (if b then list else []) ⊎ ((before.conn ≡ conn.Connected) × ((id : List ℕ) → before.id ≡ Some id → AllByRecursion (IsUseOf uses id) (if b then list else [])))
      sent_by true on = inr (on refl, λ id is. let wrong : None ≡ Some id = sym none ∙ is in absurd (cc))
      sent_by false on = inl tt
  makes_pushed before s queue list b (Some own) some same connected push =
      let p = push own some in
      record {
        later = p.later;
        grown = subst (Grows uses p.later) (sym (same ∙ some)) p.grown;
        single = p.single;
        givers = p.givers;
        same = λ id is. sym same ∙ is;
        numbered = λ id is. let it : Some own ≡ Some id = sym some ∙ sym same ∙ is in let one : own ≡ id = cc in subst (λ (i : List ℕ). IsNumbered p.later i owner_name queue) one p.numbered;
        sent = sent_by b connected;
      }
    where
      sent_by : (b : Bool) → (b ≡ true → before.conn ≡ conn.Connected)
          → AllByRecursion IsPlain (if b then list else []) ⊎ ((before.conn ≡ conn.Connected) × ((id : List ℕ) → before.id ≡ Some id → AllByRecursion (IsUseOf (push own some).later id) (if b then list else [])))
      sent_by true on = inr (on refl, λ id is. let it : Some own ≡ Some id = sym some ∙ is in let one : own ≡ id = cc in subst (λ (i : List ℕ). AllByRecursion (IsUseOf (push own some).later i) list) one (push own some).sent)
      sent_by false on = inl tt

  makes_enqueued : (frame : Frame) (before s : ClientState) → s.id ≡ before.id → s.queue ≡ before.queue → s.conn ≡ before.conn → AreNumbered uses owner_name before → Makes uses owner_name before (enqueued frame s)
  makes_enqueued frame before s id queue c h =
      makes_pushed before s (pushed frame s.queue) (with_serial s.queue.next frame ∷ []) (is_connected s.conn) before.id refl id (λ on. sym c ∙ connected_is s.conn on)
      (λ i is. push_one uses owner_name i s.queue frame single givers (subst (IsNumbered uses i owner_name) (sym queue) (h i is)))

  makes_all : (list : List Frame) (before s : ClientState) → s.id ≡ before.id → s.queue ≡ before.queue → s.conn ≡ before.conn → AreNumbered uses owner_name before → Makes uses owner_name before (all_enqueued list s)
  makes_all list before s id queue c h =
      makes_pushed before s (all_pushed list s.queue) (all_numbered list s.queue) (is_connected s.conn) before.id refl id (λ on. sym c ∙ connected_is s.conn on)
      (λ i is. push_all list uses owner_name i s.queue single givers (subst (IsNumbered uses i owner_name) (sym queue) (h i is)))

  makes_member : (frame : Frame) (name : List ℕ) (change : ClientChannel → ClientChannel) (o : Option ClientChannel) (s : ClientState) → AreNumbered uses owner_name s → Makes uses owner_name s (enqueued frame (changed name change o s))
  makes_member frame name change None s h = makes_enqueued frame s s refl refl refl h
  makes_member frame name change (Some channel) s h = makes_enqueued frame s (changed name change (Some channel) s) refl refl refl h

  -- COMMANDS

  makes_obeyed : (command : Command) (now : ℕ) (s : ClientState) → AreNumbered uses owner_name s → Makes uses owner_name s (obeyed command now s)
  makes_obeyed Connect now s h = makes_moving [] events.Connect now s tt h
  makes_obeyed Close now s h = makes_moving (if_connected s.conn frames.Close) events.CloseAsked now s (plain_connected (is_connected s.conn) frames.Close tt) h
  makes_obeyed Die now s h = makes_moving [] events.Died now s tt h
  makes_obeyed (Attach name) now s h = makes_stepped (attach_step now s) name (Some (channel_or_new (at name s.channels))) s h
  makes_obeyed (AttachAt name serial) now s h = makes_stepped (attach_step now s) name (Some (channel_from serial)) s h
  makes_obeyed (Detach name) now s h = makes_stepped (detach_step now s) name (at name s.channels) s h
  makes_obeyed (Publish name items) now s h = makes_enqueued (frames.Message (head_on name) items) s s refl refl refl h
  makes_obeyed (Enter name client payload) now s h = makes_member (presence_frame presence.Enter name client (Some payload)) name (with_own client payload) (at name s.channels) s h
  makes_obeyed (Update name client payload) now s h = makes_member (presence_frame presence.Update name client (Some payload)) name (with_own client payload) (at name s.channels) s h
  makes_obeyed (Leave name client) now s h = makes_member (presence_frame presence.Leave name client None) name (without_own client) (at name s.channels) s h
  makes_obeyed (Operate name ops) now s h = makes_enqueued (frames.Object (head_on name) (map unnumbered ops)) s s refl refl refl h

  makes_unless : (o : Option Refusal) (command : Command) (now : ℕ) (s : ClientState) → AreNumbered uses owner_name s → Makes uses owner_name s (obeyed_unless o command now s)
  makes_unless None command now s h = makes_obeyed command now s h
  makes_unless (Some why) command now s h = makes_held s (quietly s) h (inr (refl, refl)) tt

  pub makes_acted : (command : Command) (now : ℕ) (s : ClientState) → AreNumbered uses owner_name s → Makes uses owner_name s (acted command now s)
  makes_acted command now s h = makes_unless (refusal command s) command now s h

  -- FRAMES

  makes_entered : (b : Bool) (name : List ℕ) (own : List (List ℕ × List ℕ)) (before s : ClientState) → s.id ≡ before.id → s.queue ≡ before.queue → s.conn ≡ before.conn → AreNumbered uses owner_name before → Makes uses owner_name before (entered_again b name own s)
  makes_entered true name own before s id queue c h = makes_all (entering name own) before s id queue c h
  makes_entered false name own before s id queue c h = makes_held before (quietly s) h (inr (id, queue)) tt

  makes_attached : (o : Option ClientChannel) (name : List ℕ) (told : ChannelSerial) (flags : ℕ) (s : ClientState) → AreNumbered uses owner_name s → Makes uses owner_name s (attached_in o name told flags s)
  makes_attached None name told flags s h = makes_held s (quietly s) h (inr (refl, refl)) tt
  makes_attached (Some channel) name told flags s h = makes_entered (is_answer channel) name channel.own s (with_channel name (attached_got flags told channel) s) refl refl refl h

  makes_error : (o : Option (List ℕ)) (now : ℕ) (s : ClientState) → AreNumbered uses owner_name s → Makes uses owner_name s (error_got o now s)
  makes_error None now s h = makes_moving [] events.Fatal now s tt h
  makes_error (Some name) now s h = makes_stepped ErrorGot name (at name s.channels) s h

  makes_settled : (b : Bool) (serial count : ℕ) (answer : ℕ → Answer) (s : ClientState) → AreNumbered uses owner_name s → Makes uses owner_name s (quietly (if b then settle serial count answer s else s))
  makes_settled false serial count answer s h = makes_held s (quietly s) h (inr (refl, refl)) tt
  makes_settled true serial count answer s h = record {
    later = uses;
    grown = grows_same uses s.id;
    single = single;
    givers = givers;
    same = λ id is. is;
    numbered = λ id is. let n = h id is in record { below = n.below; waiting = all_filter _ (λ (one : Pending). not (is_covered serial count one)) s.queue.pending n.waiting };
    sent = inl tt;
  }

  pub makes_hears : (frame : Frame) (now : ℕ) (s : ClientState) → IsNotConnected frame → AreNumbered uses owner_name s → Makes uses owner_name s (hears frame now s)
  makes_hears (frames.Connected id key ttl idle size code) now s other h = absurd other
  makes_hears (frames.Ack serial count) now s other h = makes_settled (takes_acknowledgements s.conn) serial count (λ n. Ack (id_of s.id) n) s h
  makes_hears (frames.Nack serial count code) now s other h = makes_settled (takes_acknowledgements s.conn) serial count (λ n. Nack (id_of s.id) n code) s h
  makes_hears (frames.Disconnected code) now s other h = makes_moving [] events.Disconnected now s tt h
  makes_hears frames.Closed now s other h = makes_moving [] events.ClosedGot now s tt h
  makes_hears (frames.Error channel code) now s other h = makes_error channel now s h
  makes_hears (frames.Attached name told flags code) now s other h = makes_attached (at name s.channels) name told flags s h
  makes_hears (frames.Detached name code) now s other h = makes_stepped (DetachedGot (is_connected s.conn) now) name (at name s.channels) s h
  makes_hears (frames.Message head items) now s other h = makes_changed head.channel (entry_got head.serial (Messages items) now) (at head.channel s.channels) s h
  makes_hears (frames.Presence head items) now s other h = makes_changed head.channel (entry_got head.serial (Presence items) now) (at head.channel s.channels) s h
  makes_hears (frames.Object head ops) now s other h = makes_changed head.channel (entry_got head.serial (Objects ops) now) (at head.channel s.channels) s h
  makes_hears (frames.Sync name cursor items) now s other h = makes_changed name (page_got cursor items) (at name s.channels) s h
  makes_hears (frames.ObjectSync name cursor states) now s other h = makes_changed name (object_page_got cursor states now) (at name s.channels) s h
  makes_hears frame now s other h = makes_held s (quietly s) h (inr (refl, refl)) tt

  -- TIME

  makes_waited : (b : Bool) (s next : ClientState) → next.id ≡ s.id → next.queue ≡ s.queue → AreNumbered uses owner_name s → Makes uses owner_name s (quietly (if b then next else s))
  makes_waited true s next id queue h = makes_held s (quietly next) h (inr (id, queue)) tt
  makes_waited false s next id queue h = makes_held s (quietly s) h (inr (refl, refl)) tt

  makes_aged : (past silent : Bool) (now : ℕ) (s : ClientState) → AreNumbered uses owner_name s → Makes uses owner_name s (if past then moving [] events.Ttl now s else if silent then moving [] events.Down now s else quietly (waited now s))
  makes_aged true silent now s h = makes_moving [] events.Ttl now s tt h
  makes_aged false true now s h = makes_moving [] events.Down now s tt h
  makes_aged false false now s h = makes_waited (is_connected s.conn) s _ refl refl h

  pub makes_ticked : (now : ℕ) (s : ClientState) → AreNumbered uses owner_name s → Makes uses owner_name s (ticked now s)
  makes_ticked now s h =
      let m = makes_aged (is_past_ttl now s) (is_silent now s) now s h in
      record { later = m.later; grown = m.grown; single = m.single; givers = m.givers; same = m.same; numbered = m.numbered; sent = m.sent }
