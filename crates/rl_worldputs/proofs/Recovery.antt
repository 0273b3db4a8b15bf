-- Uses of serials are kept where a client goes on where another one stood: the other one is dead, and the connection is the
-- client's from then on.
use Rattle.std.proofs.Common.{◌≡◌, inl, inr, ℕ, Bool, true, false, List, [], ◌∷◌, map, refl, sym, ◌∙◌, ap, subst, true≢false}
use Rattle.std.specs.Prelude.{Option, Some, None, slice_get, if◌then◌else◌, bytes_eq, filter_map}
use Rattle.std.specs.List.{AllByRecursion}
use Rattle.rl_ids.specs.Forms.{conn_text}
use Rattle.rl_types.specs.declared.frames.Frame.{Frame}
use Rattle.rl_types.specs.declared.states.ConnState.{ConnState}
use Rattle.rl_types.specs.declared.states.ConnState.TheVariants as conn
use Rattle.rl_runs.specs.declared.commands.Command.TheVariants.{Die}
use Rattle.rl_runs.specs.declared.commands.RecoveryKey.{RecoveryKey}
use Rattle.rl_connsm.specs.Table.{conn_table}
use Rattle.rl_connsm.specs.Rules as rules
use Rattle.rl_connsm.specs.Rules.{forgets_connection}
use Rattle.rl_connsm.specs.declared.table.ConnEvent.TheVariants as events
use Rattle.rl_connbook.proofs.Each.{all_weaker}
use Rattle.rl_clientmodel.specs.States.{ClientState, forgotten, state_after, conn_moved}
use Rattle.rl_clientmodel.specs.Commands.{acted}
use Rattle.rl_clientmodel.specs.Keys.{recovery_key, serial_held, key_with, may_recover, recovered, with_key, before_mark}
use Rattle.rl_worldmodel.specs.World.{World, Transport, on_client, client_at, if_named, latest}
use Rattle.rl_worldmodel.specs.Clients.{unlinks, cut_unless, cut_where, cut_at, cuts, sent_on, sends, cuts_if, turned, turned_by, obeys, recovered_with, recovered_if, recovered_from}
use Rattle.rl_worldmodel.specs.Services.{feed_conn}
use Rattle.rl_worldtold.specs.Tell.{IsTellable, IsTelling}
use Rattle.rl_worldtold.proofs.Shape.{same_bytes, self_bytes}
use Rattle.rl_worldtold.proofs.Moves.{steps_unlinked, steps_acted, forgets_no_connecting, forgot_conn}
use Rattle.rl_worldtold.proofs.Telling.{named_all, in_all, first_is, and_first}
use Rattle.rl_worldputs.specs.Uses.{Use, AreBelow, IsGivenId, IsClientUsing, IsUsing, HasUses}
use Rattle.rl_worldputs.proofs.Turning.{IsHeld, moved_held}
use Rattle.rl_worldputs.proofs.Turned.{IsCalmed}
use Rattle.rl_worldputs.proofs.Clients.{held_client, calm_steps, client_using, cuts_using, if_using, sent_using}

-- DEATH

-- the client of this name has no connection, and does not connect
abbrev pub IsDead : List ℕ → List ℕ × ClientState → Type 0
IsDead name c = name ≡ c.0 → (c.1.id ≡ None) × (c.1.conn ≡ conn.Connecting → ⊥)

dead_held : (name owner : List ℕ) (before after : ClientState) → IsCalmed before after → IsHeld before after → IsDead name (owner, before) → IsDead name (owner, after)
dead_held name owner before after calm (inl none) dead same = (none, λ is. (dead same).1 (calm is).0)
dead_held name owner before after calm (inr held) dead same = (held.0 ∙ (dead same).0, λ is. (dead same).1 (calm is).0)

module _ (uses : List Use) (owner : List ℕ → Option (List ℕ)) where
  cut_dead : (name : List ℕ) (b : Bool) (k : ℕ) (t : Transport) (world : World) → IsUsing uses owner world → AllByRecursion (IsDead name) world.clients → AllByRecursion (IsDead name) (cut_unless b k t world).clients
  cut_dead name true k t world h dead = dead
  cut_dead name false k t world h dead =
      named_all (IsDead name) t.owner (unlinks world.now) (λ c same is. dead_held name c.0 c.1 (unlinks world.now c.1) (calm_steps c.1 (unlinks world.now c.1) (steps_unlinked world.now c.1)) (moved_held uses c.0 h.single h.givers events.Down world.now c.1) is) world.clients dead

  where_dead : (name : List ℕ) (k : ℕ) (o : Option Transport) (world : World) → IsUsing uses owner world → AllByRecursion (IsDead name) world.clients → AllByRecursion (IsDead name) (cut_where k o world).clients
  where_dead name k None world h dead = dead
  where_dead name k (Some t) world h dead = cut_dead name t.cut k t world h dead

  at_dead : (name : List ℕ) (o : Option ℕ) (world : World) → IsUsing uses owner world → AllByRecursion (IsDead name) world.clients → AllByRecursion (IsDead name) (cut_at o world).clients
  at_dead name None world h dead = dead
  at_dead name (Some k) world h dead = where_dead name k (slice_get world.transports k) world h dead

  if_dead : (name : List ℕ) (b : Bool) (world : World) → IsUsing uses owner world → AllByRecursion (IsDead name) world.clients → AllByRecursion (IsDead name) (cuts_if b name world).clients
  if_dead name true world h dead = at_dead name (latest name world) world h dead
  if_dead name false world h dead = dead

  sent_dead : (name : List ℕ) (o : Option ℕ) (list : List Frame) (world : World) → AllByRecursion (IsDead name) world.clients → AllByRecursion (IsDead name) (sent_on o list world).clients
  sent_dead name None list world dead = dead
  sent_dead name (Some k) list world dead = dead

  died_forgets : (c : ConnState) (b : Bool) → forgets_connection (conn_table c b events.Died) ≡ true
  died_forgets conn.Initialized b = refl
  died_forgets conn.Connecting b = refl
  died_forgets conn.Connected b = refl
  died_forgets conn.Disconnected b = refl
  died_forgets conn.Suspended b = refl
  died_forgets conn.Closing b = refl
  died_forgets conn.Closed b = refl
  died_forgets conn.Failed b = refl

  forgot_none : (b : Bool) (s : ClientState) → b ≡ true → (forgotten b s).id ≡ None
  forgot_none true s is = refl
  forgot_none false s is = absurd (cc)

  died_id : (now : ℕ) (s : ClientState) → (conn_moved events.Died now s).id ≡ None
  died_id now s = forgot_none (forgets_connection (state_after events.Died s)) _ (died_forgets s.conn s.from_suspended)

  died_off : (now : ℕ) (s : ClientState) → (conn_moved events.Died now s).conn ≡ conn.Connecting → ⊥
  died_off now s is = forgets_no_connecting (state_after events.Died s) (died_forgets s.conn s.from_suspended) (sym (forgot_conn (forgets_connection (state_after events.Died s)) _) ∙ is)

  all_named : (name : List ℕ) (state : ClientState) → (state.id ≡ None) × (state.conn ≡ conn.Connecting → ⊥) → (cs : List (List ℕ × ClientState)) → AllByRecursion (IsDead name) (map (if_named name (λ _. state)) cs)
  all_named name state dead [] = tt
  all_named name state dead (c ∷ cs) = (one_by (bytes_eq name c.0) refl, all_named name state dead cs)
    where
      one_by : (b : Bool) → bytes_eq name c.0 ≡ b → IsDead name (c.0, if b then state else c.1)
      one_by true is same = dead
      one_by false is same = absurd (true≢false (sym (self_bytes name) ∙ ap (bytes_eq name) same ∙ is))

  -- the world in which a client is dead
  record Died (name : List ℕ) (after : World) : Type 0 where
    fits : IsUsing uses owner after
    dead : AllByRecursion (IsDead name) after.clients

  died_turn : (name : List ℕ) (state : ClientState) (world : World) → IsClientUsing uses owner world (name, state) → IsUsing uses owner world → Died name (turned name (acted Die world.now state) world)
  died_turn name state world good h =
      let fits_one : IsUsing uses owner (on_client name (λ _. conn_moved events.Died world.now state) world) =
      client_using uses owner world name (λ _. conn_moved events.Died world.now state)
      (λ c same is. subst (λ (n : List ℕ). IsClientUsing uses owner world (n, conn_moved events.Died world.now state)) same
      (held_client uses owner world name state (conn_moved events.Died world.now state) (calm_steps state (conn_moved events.Died world.now state) (steps_acted Die world.now state tt)) (steps_acted Die world.now state tt).answers (moved_held uses name h.single h.givers events.Died world.now state) good)) h in
      let fits_two : IsUsing uses owner (sends name [] (on_client name (λ _. conn_moved events.Died world.now state) world)) =
      sent_using uses owner (latest name (on_client name (λ _. conn_moved events.Died world.now state) world)) [] (on_client name (λ _. conn_moved events.Died world.now state) world) (λ k t at found uncut. tt) fits_one in
      let dead_two = sent_dead name (latest name (on_client name (λ _. conn_moved events.Died world.now state) world)) [] (on_client name (λ _. conn_moved events.Died world.now state) world) (all_named name (conn_moved events.Died world.now state) (died_id world.now state, died_off world.now state) world.clients) in
      record {
        fits = if_using uses owner (acted Die world.now state).output.drop_link name (sends name [] (on_client name (λ _. conn_moved events.Died world.now state) world)) fits_two;
        dead = if_dead name (acted Die world.now state).output.drop_link (sends name [] (on_client name (λ _. conn_moved events.Died world.now state) world)) fits_two dead_two;
      }

  died_by : (name : List ℕ) (state : ClientState) (o : Option ClientState) (world : World) → client_at name world ≡ o → o ≡ Some state → IsUsing uses owner world → Died name (cuts name (turned_by name (acted Die world.now) o world))
  died_by name state None world at is h = absurd (cc)
  died_by name state (Some s) world at is h =
      let d = died_turn name s world (in_all (IsClientUsing uses owner world) name world.clients s h.each at) h in
      record {
        fits = cuts_using uses owner name (turned name (acted Die world.now s) world) d.fits;
        dead = at_dead name (latest name (turned name (acted Die world.now s) world)) (turned name (acted Die world.now s) world) d.fits d.dead;
      }

-- ANOTHER OWNER

-- the connection with this id is this client's from now on
abbrev pub owned_by : List ℕ → List ℕ → (List ℕ → Option (List ℕ)) → List ℕ → Option (List ℕ)
owned_by id name owner x = if bytes_eq x id then Some name else owner x

pub owned_self : (id name : List ℕ) (owner : List ℕ → Option (List ℕ)) → owned_by id name owner id ≡ Some name
owned_self id name owner = ap (λ (b : Bool). if b then Some name else owner id) (self_bytes id)

-- who had another connection has it still
owned_other : (id name other x n : List ℕ) (owner : List ℕ → Option (List ℕ)) (b : Bool) → bytes_eq x id ≡ b → owner id ≡ Some other → (other ≡ n → ⊥) → owner x ≡ Some n → (if b then Some name else owner x) ≡ Some n
owned_other id name other x n owner true is was apart has =
    let it : Some other ≡ Some n = sym was ∙ ap owner (sym (same_bytes x id is)) ∙ has in
    let same : other ≡ n = cc in absurd (apart same)
owned_other id name other x n owner false is was apart has = has

pub owned_given : (P : List ℕ → Type 0) (id name x n : List ℕ) (owner : List ℕ → Option (List ℕ)) (b : Bool) → bytes_eq x id ≡ b → P id → ((m : List ℕ) → owner x ≡ Some m → P x) → (if b then Some name else owner x) ≡ Some n → P x
owned_given P id name x n owner true is here old has = subst P (sym (same_bytes x id is)) here
owned_given P id name x n owner false is here old has = old n has

module _ (uses : List Use) (owner : List ℕ → Option (List ℕ)) (world : World) (id name other : List ℕ) (was : owner id ≡ Some other) where
  -- a client that stays what it was
  stays_client : (c : List ℕ × ClientState) → IsDead other c → IsClientUsing uses owner world c → IsClientUsing uses (owned_by id name owner) world c
  stays_client c dead h = record {
    own = λ x is. owned_other id name other x c.0 owner (bytes_eq x id) refl was (λ same. let wrong : None ≡ Some x = sym (dead same).0 ∙ is in cc) (h.own x is);
    numbered = h.numbered;
    listed = h.listed;
    ready = λ is k t at found uncut g same. elim (h.ready is k t at found uncut g same) [
      | inl mine ↦ inl mine
      | inr new ↦ inr (record {
        mine = owned_other id name other (conn_text g.conn) c.0 owner (bytes_eq (conn_text g.conn) id) refl was (λ one. (dead one).1 is) new.mine;
        other = new.other;
        unused = new.unused;
      })
    ];
  }

  goes_on : (key : RecoveryKey) (c : List ℕ × ClientState) (b : Bool) → may_recover c.1 ≡ b → before_mark key.key ≡ id → name ≡ c.0 → AreBelow uses id key.next → IsDead other c → IsClientUsing uses owner world c
      → IsClientUsing uses (owned_by id name owner) world (c.0, if b then with_key key c.1 else c.1)
  goes_on key c true may text same below dead h =
      let first : c.1.conn ≡ conn.Initialized = first_is c.1.conn (and_first (rules.may_recover c.1.conn) _ _ _ may) in
      record {
        own = λ x is. let one : before_mark key.key ≡ x = cc in
            subst (λ (y : List ℕ). owned_by id name owner y ≡ Some c.0) (sym text ∙ one) (owned_self id name owner ∙ ap (λ (n : List ℕ). Some n) same);
        numbered = λ x is. let one : before_mark key.key ≡ x = cc in record { below = subst (λ (y : List ℕ). AreBelow uses y key.next) (sym text ∙ one) below; waiting = tt };
        listed = h.listed;
        ready = λ now. let two : conn.Initialized ≡ conn.Connecting = sym first ∙ now in absurd (cc);
      }
  goes_on key c false may text same below dead h = let s = stays_client c dead h in record { own = s.own; numbered = s.numbered; listed = s.listed; ready = s.ready }

  all_go_on : (key : RecoveryKey) → before_mark key.key ≡ id → AreBelow uses id key.next → (cs : List (List ℕ × ClientState)) → AllByRecursion (IsDead other) cs → AllByRecursion (IsClientUsing uses owner world) cs
      → AllByRecursion (IsClientUsing uses (owned_by id name owner) world) (map (if_named name (recovered key)) cs)
  all_go_on key text below [] dead each = tt
  all_go_on key text below (c ∷ cs) dead each = (one_by (bytes_eq name c.0) refl, all_go_on key text below cs dead.1 each.1)
    where
      one_by : (b : Bool) → bytes_eq name c.0 ≡ b → IsClientUsing uses (owned_by id name owner) world (c.0, if b then recovered key c.1 else c.1)
      one_by true is = goes_on key c (may_recover c.1) refl text (same_bytes name c.0 is) below dead.0 each.0
      one_by false is = stays_client c dead.0 each.0

  recovered_using : (key : RecoveryKey) → before_mark key.key ≡ id → AreBelow uses id key.next → AllByRecursion (IsDead other) world.clients → IsUsing uses owner world → IsUsing uses (owned_by id name owner) (on_client name (recovered key) world)
  recovered_using key text below dead h = record {
    single = h.single;
    givers = h.givers;
    given = h.given;
    owned = λ x n has. owned_given (IsGivenId world.book) id name x n owner (bytes_eq x id) refl (h.owned id other was) (λ m is. h.owned x m is) has;
    fed = h.fed;
    nobody = λ n has. owned_given (λ x. x ≡ conn_text feed_conn → ⊥) id name (conn_text feed_conn) n owner (bytes_eq (conn_text feed_conn) id) refl
        (λ same. h.nobody other (subst (λ (x : List ℕ). owner x ≡ Some other) same was)) (λ m is same. h.nobody m is) has refl;
    apart = h.apart;
    puts = h.puts;
    links = h.links;
    each = all_weaker _ _ (λ c is. record { own = is.own; numbered = is.numbered; listed = is.listed; ready = is.ready }) (map (if_named name (recovered key)) world.clients) (all_go_on key text below world.clients dead h.each);
  }

-- RECOVERY

-- what a recovery key has
record IsKeyOf (key : RecoveryKey) (s : ClientState) : Type 0 where
  held : s.key ≡ Some key.key
  next : key.next ≡ s.queue.next

key_is : (o : Option (List ℕ)) (s : ClientState) (key : RecoveryKey) → s.key ≡ o → key_with o s ≡ Some key → IsKeyOf key s
key_is None s key same is = absurd (cc)
key_is (Some text) s key same is =
    let it : ◌≡◌ {A = RecoveryKey} (record { key = text; next = s.queue.next; serials = filter_map serial_held s.channels }) key = cc in
    record { held = same ∙ ap (λ (k : RecoveryKey). Some k.key) it; next = sym (ap (λ (k : RecoveryKey). k.next) it) }

key_by : (b : Bool) (s : ClientState) (key : RecoveryKey) → (if b then key_with s.key s else None) ≡ Some key → IsKeyOf key s
key_by true s key is = key_is s.key s key refl is
key_by false s key is = absurd (cc)

with_using : (name other : List ℕ) (lost : ClientState) (o : Option RecoveryKey) (world : World) → recovery_key lost ≡ o → client_at other world ≡ Some lost → IsTelling world → HasUses world → HasUses (recovered_with name other o world)
with_using name other lost None world is at telling h = h
with_using name other lost (Some key) world is at telling h =
    let k = key_by (rules.gives_recovery_key lost.conn) lost key is in
    let text : lost.id ≡ Some (before_mark key.key) = (in_all (IsTellable world) other world.clients lost telling.clients at).own.keyed key.key k.held in
    let good = in_all (IsClientUsing h.uses h.owner world) other world.clients lost h.fits.each at in
    let d = died_by h.uses h.owner other lost (client_at other world) world refl at h.fits in
    record {
      uses = h.uses;
      owner = owned_by (before_mark key.key) name h.owner;
      fits = recovered_using h.uses h.owner (obeys other Die world) (before_mark key.key) name other (good.own (before_mark key.key) text) key refl
          (subst (AreBelow h.uses (before_mark key.key)) (sym k.next) (good.numbered (before_mark key.key) text).below) d.dead d.fits;
    }

recovered_if_using : (b : Bool) (name other : List ℕ) (lost : ClientState) (world : World) → client_at other world ≡ Some lost → IsTelling world → HasUses world → HasUses (recovered_if b name other lost world)
recovered_if_using true name other lost world at telling h = with_using name other lost (recovery_key lost) world refl at telling h
recovered_if_using false name other lost world at telling h = h

pub from_using : (name other : List ℕ) (one two : Option ClientState) (world : World) → client_at other world ≡ two → IsTelling world → HasUses world → HasUses (recovered_from name other one two world)
from_using name other (Some state) (Some lost) world at telling h = recovered_if_using (may_recover state) name other lost world at telling h
from_using name other (Some state) None world at telling h = h
from_using name other None two world at telling h = h
