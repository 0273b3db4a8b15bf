-- What a client's inputs keep of what it may be told.
use Rattle.std.proofs.Common.{◌≡◌, ◌⊎◌, inl, inr, ℕ, Bool, true, false, List, [], ◌∷◌, map, refl, sym, ◌∙◌, ap, subst}
use Rattle.std.specs.Prelude.{Option, Some, None, slice_get, if◌then◌else◌}
use Rattle.std.specs.List.{AllByRecursion}
use Rattle.rl_ids.specs.Forms.{conn_text}
use Rattle.rl_types.specs.declared.frames.Frame.{Frame}
use Rattle.rl_types.specs.declared.frames.Frame.TheVariants as frames
use Rattle.rl_types.specs.declared.states.ConnState.{ConnState}
use Rattle.rl_types.specs.declared.states.ConnState.TheVariants as conn
use Rattle.rl_runs.specs.declared.findings.Answer.{Answer}
use Rattle.rl_runs.specs.declared.findings.Answer.TheVariants.{Ack, Nack}
use Rattle.rl_connsm.specs.Rules.{awaits_connected, takes_acknowledgements}
use Rattle.rl_connsm.specs.declared.table.ConnEvent.TheVariants as events
use Rattle.rl_ackq.specs.Queue.{settled_serials}
use Rattle.rl_connbook.specs.Records.{Answered}
use Rattle.rl_connbook.proofs.Each.{all_append}
use Rattle.rl_actormodel.specs.declared.parts.Holder.{Holder}
use Rattle.rl_actormodel.specs.State as actor
use Rattle.rl_clientmodel.specs.States.{ClientState, conn_moved}
use Rattle.rl_clientmodel.specs.Hearing.{id_of, settle, stands_with, hears, queue_with}
use Rattle.rl_clientmodel.specs.Keys.{before_mark}
use Rattle.rl_worldmodel.specs.World.{World, Transport, latest}
use Rattle.rl_worldtold.specs.Listed.{pair_of}
use Rattle.rl_worldtold.specs.Tell.{IsOnce, IsListedOnce, IsUnheard, IsGiven, IsBelow, MayTell, IsOwn, IsTellable}
use Rattle.rl_worldtold.specs.Truth.{OnHolder, IsOn, IsTrueFrame}
use Rattle.rl_worldtold.proofs.Shape.{all_map}
use Rattle.rl_worldtold.proofs.Moves.{Steps, steps_hears, rests_moved, connected_conn}
use Rattle.rl_worldtold.proofs.Twice.{once_settled}
use Rattle.rl_worldtold.proofs.Once.{once_connected, once_hears}

-- A STEP

own_steps : (b : List Answered) (before after : ClientState) → Steps before after → IsListedOnce after → IsOwn b before → IsOwn b after
own_steps b before after steps once own = record {
  once = once;
  keyed = λ key is. keyed_by key is steps.keys;
  new = λ is. steps.answers ∙ own.new (steps.initial is);
  given = subst (AllByRecursion (IsGiven b)) (sym steps.answers) own.given;
}
  where
    keyed_by : (key : List ℕ) → after.key ≡ Some key → ((after.key ≡ before.key) × (after.id ≡ before.id)) ⊎ (after.key ≡ None) → after.id ≡ Some (before_mark key)
    keyed_by key is (inl same) = same.1 ∙ own.keyed key (sym same.0 ∙ is)
    keyed_by key is (inr none) = let two : None ≡ Some key = sym none ∙ is in absurd (cc)

may_same : (before after : ClientState) (s : actor.State) → after.id ≡ before.id → after.key ≡ before.key → after.answers ≡ before.answers → MayTell before s → MayTell after s
may_same before after s id key answers may = record {
  held = λ h is. elim (may.held h is) [ inl mine ↦ inl (id ∙ mine) | inr never ↦ inr (subst (IsUnheard (conn_text h.conn)) (sym answers) never) ];
  asked = λ k is. key ∙ may.asked k is;
}

pub told_steps : (world : World) (name : List ℕ) (before after : ClientState) → Steps before after → IsListedOnce after → IsTellable world (name, before) → IsTellable world (name, after)
told_steps world name before after steps once h = record {
  own = own_steps world.book before after steps once h.own;
  ready = λ is k t at found uncut. let c = steps.connecting is in may_same before after t.actor c.1 c.2 steps.answers (h.ready c.0 k t at found uncut);
}

-- ACKNOWLEDGEMENTS

off_initialized : (c : ConnState) → IsOn c → c ≡ conn.Initialized → ⊥
off_initialized c on is = subst IsOn is on

off_connecting : (c : ConnState) → IsOn c → c ≡ conn.Connecting → ⊥
off_connecting c on is = subst IsOn is on

every : (P : ℕ → Type 0) → ((n : ℕ) → P n) → (ns : List ℕ) → AllByRecursion P ns
every P each [] = tt
every P each (n ∷ ns) = (each n, every P each ns)

told_settle : (world : World) (name : List ℕ) (b : Bool) (serial count : ℕ) (answer : ℕ → Answer) (s : ClientState) → (b ≡ true → IsOn s.conn) → (b ≡ true → (id : List ℕ) × (s.id ≡ Some id)) → (b ≡ true → (n : ℕ) → IsGiven world.book (answer n))
    → ((id : List ℕ) → s.id ≡ Some id → (n : ℕ) → pair_of (answer n) ≡ (id, n)) → IsTellable world (name, s) → IsTellable world (name, if b then settle serial count answer s else s)
told_settle world name true serial count answer s on held given answering h = record {
  own = record {
    once = once_settled serial count answer s.id s.queue s.answers (held refl).0 (held refl).1 (answering (held refl).0 (held refl).1) h.own.once;
    keyed = h.own.keyed;
    new = λ is. absurd (off_initialized s.conn (on refl) is);
    given = all_append (IsGiven world.book) s.answers (map answer (settled_serials serial count s.queue)) h.own.given (all_map (IsGiven world.book) answer (settled_serials serial count s.queue) (every (λ n. IsGiven world.book (answer n)) (given refl) (settled_serials serial count s.queue)));
  };
  ready = λ now. absurd (off_connecting s.conn (on refl) now);
}
told_settle world name false serial count answer s on held given answering h = h

pub takes_on : (c : ConnState) → takes_acknowledgements c ≡ true → IsOn c
takes_on conn.Connected is = tt
takes_on conn.Closing is = tt
takes_on c is = absurd (cc)

held_of : (s : ClientState) (o : Option Holder) → OnHolder o (λ h. s.id ≡ Some (conn_text h.conn)) → (id : List ℕ) × (s.id ≡ Some id)
held_of s None on = absurd on
held_of s (Some h) on = (conn_text h.conn, on)

given_of : (b : List Answered) (s : ClientState) (o : Option Holder) → IsBelow b o → OnHolder o (λ h. s.id ≡ Some (conn_text h.conn)) → (a : Answer) → (pair_of a).0 ≡ id_of s.id → IsGiven b a
given_of b s None below on a is = absurd on
given_of b s (Some h) below on a is = (h.conn, sym (is ∙ ap id_of on), below h refl)

-- CONNECTED

pub awaits_is : (c : ConnState) → awaits_connected c ≡ true → c ≡ conn.Connecting
awaits_is conn.Connecting is = refl
awaits_is c is = absurd (cc)

told_connected : (world : World) (name : List ℕ) (b : Bool) (id key : List ℕ) (now : ℕ) (s : ClientState) → awaits_connected s.conn ≡ b → before_mark key ≡ id → (s.conn ≡ conn.Connecting → (s.id ≡ Some id) ⊎ IsUnheard id s.answers) → IsTellable world (name, s)
    → IsTellable world (name, (if b then stands_with id key now s else record { state = s; output = record { frames = []; drop_link = false } }).state)
told_connected world name true id key now s is text may h =
    let here : s.conn ≡ conn.Connecting = awaits_is s.conn is in
    let on : (conn_moved events.Connected now s).conn ≡ conn.Connected = connected_conn now s here in
    let told : (conn_moved events.Connected now s).answers ≡ s.answers = (rests_moved events.Connected now s).answers in
    record {
      own = record {
        once = subst (IsOnce (Some id) (queue_with id s.id s.queue)) (sym told) (once_connected id s (may here) h.own.once);
        keyed = λ k same. let it : key ≡ k = cc in ap (λ (x : List ℕ). Some x) (sym text ∙ ap before_mark it);
        new = λ wrong. let two : conn.Connected ≡ conn.Initialized = sym on ∙ wrong in absurd (cc);
        given = subst (AllByRecursion (IsGiven world.book)) (sym told) h.own.given;
      };
      ready = λ wrong. let two : conn.Connected ≡ conn.Connecting = sym on ∙ wrong in absurd (cc);
    }
told_connected world name false id key now s is text may h = h

-- ANY FRAME

-- what a frame on the latest transport makes of a client
pub told_hears : (world : World) (name : List ℕ) (k : ℕ) (t : Transport) (frame : Frame) (now : ℕ) (s : ClientState) → latest name world ≡ Some k → slice_get world.transports k ≡ Some t → t.cut ≡ false → IsTrueFrame world.channels t.actor.holder frame → IsBelow world.book t.actor.holder
    → (IsOn s.conn → OnHolder t.actor.holder (λ h. s.id ≡ Some (conn_text h.conn))) → IsTellable world (name, s) → IsTellable world (name, (hears frame now s).state)
told_hears world name k t (frames.Connected id key ttl idle size code) now s at found uncut is below linked h =
    connected_by t.actor.holder refl is
  where
    connected_by : (o : Option Holder) → t.actor.holder ≡ o → OnHolder o (λ h. (id ≡ conn_text h.conn) × (before_mark key ≡ id)) → IsTellable world (name, (hears (frames.Connected id key ttl idle size code) now s).state)
    connected_by None same is = absurd is
    connected_by (Some holder) same is =
        told_connected world name (awaits_connected s.conn) id key now s refl is.1
        (λ c. elim ((h.ready c k t at found uncut).held holder same) [ inl mine ↦ inl (mine ∙ ap (λ (x : List ℕ). Some x) (sym is.0)) | inr never ↦ inr (subst (λ (x : List ℕ). IsUnheard x s.answers) (sym is.0) never) ]) h
told_hears world name k t (frames.Ack serial count) now s at found uncut is below linked h =
    told_settle world name (takes_acknowledgements s.conn) serial count (λ n. Ack (id_of s.id) n) s (λ takes. takes_on s.conn takes) (λ takes. held_of s t.actor.holder (linked (takes_on s.conn takes)))
    (λ takes n. given_of world.book s t.actor.holder below (linked (takes_on s.conn takes)) (Ack (id_of s.id) n) refl) (λ id held n. ap (λ (o : Option (List ℕ)). (id_of o, n)) held) h
told_hears world name k t (frames.Nack serial count code) now s at found uncut is below linked h =
    told_settle world name (takes_acknowledgements s.conn) serial count (λ n. Nack (id_of s.id) n code) s (λ takes. takes_on s.conn takes) (λ takes. held_of s t.actor.holder (linked (takes_on s.conn takes)))
    (λ takes n. given_of world.book s t.actor.holder below (linked (takes_on s.conn takes)) (Nack (id_of s.id) n code) refl) (λ id held n. ap (λ (o : Option (List ℕ)). (id_of o, n)) held) h
told_hears world name k t frame now s at found uncut is below linked h = told_steps world name s (hears frame now s).state (steps_hears frame now s tt) (once_hears frame now s tt h.own.once) h
