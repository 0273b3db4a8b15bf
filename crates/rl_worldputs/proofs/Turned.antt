-- What a client's turn makes of a world's uses.
use Rattle.std.proofs.Common.{◌≡◌, ◌⊎◌, inl, inr, ℕ, Bool, true, false, List, [], ◌++◌, refl, sym, ◌∙◌, ap, subst}
use Rattle.std.specs.Prelude.{Option, Some, None, slice_get, if◌then◌else◌}
use Rattle.std.specs.List.{AllByRecursion}
use Rattle.rl_ids.specs.Forms.{conn_text}
use Rattle.rl_types.specs.declared.frames.Frame.{Frame}
use Rattle.rl_types.specs.declared.states.ConnState.TheVariants as conn
use Rattle.rl_connsm.specs.Rules.{awaits_connected}
use Rattle.rl_connsm.specs.declared.table.ConnEvent.TheVariants as events
use Rattle.rl_chansm.specs.declared.table.ChanEvent.TheVariants as channel_events
use Rattle.rl_ackq.specs.declared.pending.Pending.{Pending}
use Rattle.rl_ackq.specs.Queue.{Queue, renumbered}
use Rattle.rl_ackq.specs.Queue as queues
use Rattle.rl_connbook.proofs.Each.{all_weaker, all_append}
use Rattle.rl_actormodel.specs.declared.parts.Holder.{Holder}
use Rattle.rl_clientmodel.specs.declared.steps.ChannelStep.TheVariants.{Moves}
use Rattle.rl_clientmodel.specs.States.{ClientState, Turn, quietly, sending, conn_moved, all_asks}
use Rattle.rl_clientmodel.specs.Hearing.{is_id, queue_with, stands_with}
use Rattle.rl_worldmodel.specs.World.{World, Transport, changed_at, latest, last_of, owned}
use Rattle.rl_worldmodel.specs.Clients.{cuts}
use Rattle.rl_worldtold.specs.Truth.{OnHolder, IsOn, IsLinked}
use Rattle.rl_worldtold.proofs.Shape.{all_map, get_after, owned_changed}
use Rattle.rl_runs.specs.declared.findings.Answer.{Answer}
use Rattle.rl_worldtold.specs.Listed.{pair_of}
use Rattle.rl_worldtold.proofs.Moves.{rests_moved, connected_conn}
use Rattle.rl_worldtold.proofs.Lists.{awaits_is}
use Rattle.rl_worldtold.proofs.Once.{id_held, id_other}
use Rattle.rl_worldputs.specs.Uses.{Use, IsBy, AreSingle, AreGivenByOne, IsUseOf, IsSent, IsNumbered, IsNew, MayServe, OnLatest, IsClientUsing}
use Rattle.rl_worldputs.proofs.Using.{Grows, grows_same, plain_so, Pushes, renumber}
use Rattle.rl_worldputs.proofs.Turning.{Makes, plain_all}

-- THE LATEST TRANSPORT

-- where one transport is changed
pub changed_latest : (world after : World) (k : ℕ) (f : Transport → Transport) → after.transports ≡ changed_at k f world.transports → ((t : Transport) → (f t).owner ≡ t.owner) → ((t : Transport) → (f t).cut ≡ false → t.cut ≡ false)
    → (P Q : Transport → Type 0) → ((t : Transport) → P t → Q t) → ((t : Transport) → slice_get world.transports k ≡ Some t → P t → Q (f t)) → (name : List ℕ) → OnLatest world name P → OnLatest after name Q
changed_latest world after k f same owners cuts P Q other step name on j u at found uncut =
    let here : slice_get (changed_at k f world.transports) j ≡ Some u = subst (λ (ts : List Transport). slice_get ts j ≡ Some u) same found in
    let at_before : latest name world ≡ Some j = sym (ap (λ (ts : List Transport). last_of (owned name 0 ts)) same ∙ ap last_of (owned_changed name 0 k f owners world.transports)) ∙ at in
    elim (get_after j k f u world.transports here) [
      | inl old ↦ other u (on j u at_before old uncut)
      | inr new ↦ subst Q (sym new.2) (step new.0 new.3 (on j new.0 at_before new.1 (cuts new.0 (subst (λ (v : Transport). v.cut ≡ false) new.2 uncut))))
    ]

-- A TURN

-- what a turn of the client of this name makes of a world's uses
pub record Turns (uses : List Use) (owner : List ℕ → Option (List ℕ)) (world : World) (name : List ℕ) (turn : Turn) : Type 0 where
  pub later : List Use
  pub grown : Grows uses later turn.state.id
  pub single : AreSingle later
  pub givers : AreGivenByOne later
  pub client : IsClientUsing later owner world (name, turn.state)
  pub sent : OnLatest world name (λ t. AllByRecursion (IsSent later t.actor.holder) turn.output.frames)

-- only Connect leads to CONNECTING
abbrev pub IsCalmed : ClientState → ClientState → Type 0
IsCalmed before after = after.conn ≡ conn.Connecting → (before.conn ≡ conn.Connecting) × (after.id ≡ before.id)

-- frames of the connection that the transport's actor serves
sent_held : (later : List Use) (holder : Option Holder) (held : Option (List ℕ)) (list : List Frame) → OnHolder holder (λ h. held ≡ Some (conn_text h.conn)) → ((id : List ℕ) → held ≡ Some id → AllByRecursion (IsUseOf later id) list) → AllByRecursion (IsSent later holder) list
sent_held later None held list on all = absurd on
sent_held later (Some h) held list on all = all (conn_text h.conn) on

may_later : (uses later : List Use) (owner : List ℕ → Option (List ℕ)) (name : List ℕ) (before after : Option (List ℕ)) (holder : Option Holder) → after ≡ before → Grows uses later after → MayServe uses owner name before holder → MayServe later owner name after holder
may_later uses later owner name before after holder same grown may h is =
    elim (may h is) [
      | inl mine ↦ inl (same ∙ mine)
      | inr new ↦ inr (record {
        mine = new.mine;
        other = λ wrong. new.other (sym same ∙ wrong);
        unused = λ serial channel used. elim (grown.only (conn_text h.conn) serial channel used) [ inl wrong ↦ new.other (sym same ∙ wrong) | inr old ↦ new.unused serial channel old ];
      })
    ]

pub turns_made : (uses : List Use) (owner : List ℕ → Option (List ℕ)) (world : World) (name : List ℕ) (before : ClientState) (turn : Turn) → IsClientUsing uses owner world (name, before) → IsLinked world name before → IsCalmed before turn.state → Makes uses name before turn → AllByRecursion (λ (a : Answer). IsBy uses (pair_of a).0 (pair_of a).1 name) turn.state.answers
    → Turns uses owner world name turn
turns_made uses owner world name before turn h linked calm m listed = record {
  later = m.later;
  grown = m.grown;
  single = m.single;
  givers = m.givers;
  client = record {
    own = λ id is. h.own id (m.same id is);
    numbered = m.numbered;
    listed = all_weaker _ _ (λ a is. m.grown.by (pair_of a).0 (pair_of a).1 name is) turn.state.answers listed;
    ready = λ is k t at found uncut. let c = calm is in may_later uses m.later owner name before.id turn.state.id t.actor.holder c.1 m.grown (h.ready c.0 k t at found uncut);
  };
  sent = λ k t at found uncut. elim m.sent [
    | inl plain ↦ plain_so _ turn.output.frames plain
    | inr on ↦ sent_held m.later t.actor.holder before.id turn.output.frames (linked (subst IsOn (sym on.0) tt) k t at found uncut) on.1
  ];
}

-- CONNECTED

stands_turns : (uses : List Use) (owner : List ℕ → Option (List ℕ)) (world : World) (name id key : List ℕ) (now : ℕ) (s : ClientState) (queue : Queue) → s.conn ≡ conn.Connecting → owner id ≡ Some name → OnLatest world name (λ t. OnHolder t.actor.holder (λ h. Some id ≡ Some (conn_text h.conn)))
    → Pushes uses name id queue [] → AllByRecursion (λ (a : Answer). IsBy uses (pair_of a).0 (pair_of a).1 name) s.answers
    → Turns uses owner world name (sending (all_asks (Moves channel_events.ConnUp true now) s.channels ++ queues.frames queue.pending) (record (conn_moved events.Connected now s) { id = Some id; key = Some key; queue = queue }))
stands_turns uses owner world name id key now s queue here mine linked p listed = record {
  later = p.later;
  grown = p.grown;
  single = p.single;
  givers = p.givers;
  client = record {
    own = λ i is. let one : id ≡ i = cc in subst (λ (x : List ℕ). owner x ≡ Some name) one mine;
    numbered = λ i is. let one : id ≡ i = cc in subst (λ (x : List ℕ). IsNumbered p.later x name queue) one p.numbered;
    listed = subst (AllByRecursion (λ (a : Answer). IsBy p.later (pair_of a).0 (pair_of a).1 name)) (sym (rests_moved events.Connected now s).answers) (all_weaker _ _ (λ a is. p.grown.by (pair_of a).0 (pair_of a).1 name is) s.answers listed);
    ready = λ wrong. let two : conn.Connected ≡ conn.Connecting = sym (connected_conn now s here) ∙ wrong in absurd (cc);
  };
  sent = λ k t at found uncut.
      all_append _ (all_asks (Moves channel_events.ConnUp true now) s.channels) (queues.frames queue.pending)
      (plain_so _ (all_asks (Moves channel_events.ConnUp true now) s.channels) (plain_all (Moves channel_events.ConnUp true now) s.channels))
      (sent_held p.later t.actor.holder (Some id) (queues.frames queue.pending) (linked k t at found uncut)
      (λ i is. let one : id ≡ i = cc in subst (λ (x : List ℕ). AllByRecursion (IsUseOf p.later x) (queues.frames queue.pending)) one
      (all_map (IsUseOf p.later id) (λ (one : Pending). one.frame) queue.pending (all_weaker _ _ (λ one is. is.0) queue.pending p.numbered.waiting))));
}

pushes_up : (uses : List Use) (owner : List ℕ → Option (List ℕ)) (name id : List ℕ) (b : Bool) (held : Option (List ℕ)) (queue : Queue) → AreSingle uses → AreGivenByOne uses → (b ≡ true → held ≡ Some id) → (b ≡ false → held ≡ Some id → ⊥) → (held ≡ Some id) ⊎ IsNew uses owner name held id
    → ((i : List ℕ) → held ≡ Some i → IsNumbered uses i name queue) → Pushes uses name id (if b then queue else renumbered queue) []
pushes_up uses owner name id true held queue single givers same other may h = record { later = uses; grown = grows_same uses (Some id); single = single; givers = givers; numbered = h id (same refl); sent = tt }
pushes_up uses owner name id false held queue single givers same other (inl mine) h = absurd (other refl mine)
pushes_up uses owner name id false held queue single givers same other (inr new) h = renumber uses name id queue single givers (λ serial channel is. absurd (new.unused serial channel is))

pub connected_turns : (uses : List Use) (owner : List ℕ → Option (List ℕ)) (world : World) (name : List ℕ) (b : Bool) (id key : List ℕ) (now : ℕ) (s : ClientState) → AreSingle uses → AreGivenByOne uses → awaits_connected s.conn ≡ b → IsClientUsing uses owner world (name, s)
    → (s.conn ≡ conn.Connecting → ((s.id ≡ Some id) ⊎ IsNew uses owner name s.id id) × OnLatest world name (λ t. OnHolder t.actor.holder (λ h. Some id ≡ Some (conn_text h.conn))))
    → Turns uses owner world name (if b then stands_with id key now s else quietly s)
connected_turns uses owner world name true id key now s single givers is h may =
    let here : s.conn ≡ conn.Connecting = awaits_is s.conn is in
    stands_turns uses owner world name id key now s (queue_with id s.id s.queue) here
    (elim (may here).0 [ inl mine ↦ h.own id mine | inr new ↦ new.mine ]) (may here).1
    (pushes_up uses owner name id (is_id id s.id) s.id s.queue single givers (id_held id s.id) (id_other id s.id) (may here).0 h.numbered) h.listed
connected_turns uses owner world name false id key now s single givers is h may = record {
  later = uses;
  grown = grows_same uses s.id;
  single = single;
  givers = givers;
  client = h;
  sent = λ k t at found uncut. tt;
}
