-- What clients do, all clients follow.
use Rattle.std.proofs.Common.{◌≡◌, ℕ, zero, suc, true, false, List, [], ◌∷◌, ◌++◌, drop, refl, sym, ◌∙◌, ap, subst, arith}
use Rattle.std.specs.Prelude.{⊤, Option, Some, None, option_map, slice_get, bytes_eq}
use Rattle.std.specs.List.{AllByRecursion}
use Rattle.rl_types.specs.declared.frames.Frame.{Frame}
use Rattle.rl_runs.specs.declared.commands.Command.{Command}
use Rattle.rl_runs.specs.declared.commands.Command.TheVariants.{Connect, Close, Die, Attach, AttachAt, Detach, Publish, Enter, Update, Leave, Operate}
use Rattle.rl_runs.specs.declared.commands.Hello.{Hello}
use Rattle.rl_connsm.specs.Rules.{opens_link}
use Rattle.rl_connbook.proofs.Each.{all_append}
use Rattle.rl_actormodel.specs.State as actor
use Rattle.rl_clientmodel.specs.States.{ClientState, Turn}
use Rattle.rl_clientmodel.specs.Commands.{Refusal, refusal, acted, hello_of}
use Rattle.rl_clientmodel.specs.Hearing.{heard}
use Rattle.rl_clientmodel.specs.Times.{ticked}
use Rattle.rl_lanes.specs.Lanes.{Setup, new_link}
use Rattle.rl_worldmodel.specs.World.{World, Transport, new_transport, on_transport, client_at, latest}
use Rattle.rl_worldmodel.specs.Clients.{cuts, turned_by, takes_turn, opened_as, opened_unless, opened_by, opens, obeys, Arrival, Comes, Ends, Nothing, arrival, gives_frame, got_by, got_on, gets, looks_at_time}
use Rattle.rl_worldtold.proofs.Shape.{self_bytes, changed_one}
use Rattle.rl_worldtold.proofs.Answers.{arrives}
use Rattle.rl_worldlanes.specs.Views.{asks_in_hand, Sees}
use Rattle.rl_worldlanes.specs.Following.{setup_of, transport_at, latest_of, IsSeenOn, HasRisingNames, AsksNothing, AreFronts, IsFollowing}
use Rattle.rl_worldlanes.specs.Turning.{IsTurned}
use Rattle.rl_worldlanes.proofs.Commands.{acted_turned, ticked_turned}
use Rattle.rl_worldlanes.proofs.Hearing.{heard_turned}
use Rattle.rl_worldlanes.proofs.Reopening.{is_connect, acted_opens, ticked_opens}
use Rattle.rl_worldlanes.proofs.Opening.{opened_turned}
use Rattle.rl_worldlanes.proofs.Rising.{names_acted, names_ticked, names_heard}
use Rattle.rl_worldlanes.proofs.Waiting.{asking_acted, asking_ticked, asking_heard}
use Rattle.rl_worldlanes.proofs.Ways.{get_within}
use Rattle.rl_worldlanes.proofs.Joining.{IsFollowingIf, following_all, following_if}
use Rattle.rl_worldlanes.proofs.Aiming.{all_get, IsAimed, aimed_same, aimed_changed, aimed_as, aimed_opened}
use Rattle.rl_worldlanes.proofs.Leading.{led_follows}
use Rattle.rl_worldlanes.proofs.Turns.{cut_at_follow, cuts_follow, turn_follows, turned_led, heard_led}

-- whatever is said, it is said of all
everywhere : (world : World) → IsFollowing world → IsFollowingIf (λ owner. ⊤) world
everywhere world h = following_if (λ owner. ⊤) world h

others_only : (name : List ℕ) (world : World) → IsFollowing world → IsFollowingIf (λ owner. bytes_eq name owner ≡ false) world
others_only name world h = following_if (λ owner. bytes_eq name owner ≡ false) world h

fronts_at : (o : Option ℕ) (world : World) (t : Transport) → transport_at o world ≡ Some t → AllByRecursion AreFronts world.transports → AreFronts t
fronts_at None world t found h = absurd (cc)
fronts_at (Some k) world t found h = all_get AreFronts world.transports k t h found

-- COMMANDS AND TIME

turn_by : (name : List ℕ) (act : ClientState → Turn) (world : World)
    → ((state : ClientState) → IsTurned state (act state)) → ((state : ClientState) → opens_link state.conn (act state).state.conn ≡ false)
    → ((state : ClientState) → HasRisingNames state → HasRisingNames (act state).state) → ((state : ClientState) → AsksNothing state → AsksNothing (act state).state)
    → IsFollowing world → (o : Option ClientState) → client_at name world ≡ o → IsFollowing (turned_by name act o world)
turn_by name act world moves opens names pending h None is = h
turn_by name act world moves opens names pending h (Some before) is =
    turn_follows name before (act before) (latest_of name world) world world (aimed_same name world world refl refl) refl h.fronts is
    (names before (h.clients name before is).names) (pending before (h.clients name before is).pending)
    (λ q lane channel seen. turned_led before (act before) (moves before) (opens before) (latest_of name world) (λ t found. fronts_at (latest name world) world t found h.fronts) q lane channel seen) h

told_follow : (name : List ℕ) (command : Command) (world : World) → is_connect command ≡ false → IsFollowing world → IsFollowing (takes_turn name (acted command world.now) world)
told_follow name command world other h =
    turn_by name (acted command world.now) world (λ state. acted_turned command world.now state) (λ state. acted_opens command world.now state other)
    (λ state. names_acted command world.now state) (λ state. asking_acted command world.now state) h (client_at name world) refl

pub looks_follow : (name : List ℕ) (world : World) → IsFollowing world → IsFollowing (looks_at_time name world)
looks_follow name world h =
    turn_by name (ticked world.now) world (λ state. ticked_turned world.now state) (λ state. ticked_opens world.now state)
    (λ state. names_ticked world.now state) (λ state. asking_ticked world.now state) h (client_at name world) refl

-- A CLIENT OPENS

new_sees : (setup : Setup) (owner : List ℕ) (hello : Hello) (now : ℕ) → Sees setup (new_transport owner hello now) new_link
new_sees setup owner hello now = record {
  coming = refl;
  asks = λ on. ap (λ asks. asks ++ []) (by_key hello.resume);
  session = λ on. refl;
}
  where
    by_key : (o : Option (List ℕ)) → asks_in_hand setup.name (actor.first_wish o) ≡ []
    by_key None = refl
    by_key (Some key) = refl

opened_follow : (name : List ℕ) (before : ClientState) (world : World) → refusal Connect before ≡ None → client_at name world ≡ Some before → IsFollowing world
    → IsFollowing (opened_as name (acted Connect world.now before).state world)
opened_follow name before world may is h =
    following_all (λ owner. bytes_eq name owner ≡ true → false ≡ false) after (λ owner on. refl)
    (led_follows (λ owner. ⊤) name (λ _. (acted Connect world.now before).state) before (acted Connect world.now before).state false (Some new) world after
    (aimed_opened name new world after (self_bytes name) refl refl) is refl refl
    (all_append AreFronts world.transports (new ∷ []) h.fronts (record { service = omega arith; client = omega arith }, tt))
    (names_acted Connect world.now before (h.clients name before is).names) (asking_acted Connect world.now before (h.clients name before is).pending)
    (λ owner other. tt)
    (λ q lane channel seen. record {
      link = Some new_link;
      leads = opened_turned before world.now may q lane channel;
      seen = λ keeps uncut. (new_link, refl, new_sees (setup_of q) name (hello_of (acted Connect world.now before).state 0) world.now);
    })
    (everywhere world h))
  where
    new : Transport
    new = new_transport name (hello_of (acted Connect world.now before).state 0) world.now

    after : World
    after = opened_as name (acted Connect world.now before).state world

unless_follow : (o : Option Refusal) (name : List ℕ) (before : ClientState) (world : World) → refusal Connect before ≡ o → client_at name world ≡ Some before → IsFollowing world → IsFollowing (opened_unless o name before world)
unless_follow None name before world may is h = opened_follow name before world may is h
unless_follow (Some why) name before world may is h = h

opened_by_follow : (name : List ℕ) (o : Option ClientState) (world : World) → client_at name world ≡ o → IsFollowing world → IsFollowing (opened_by name o world)
opened_by_follow name None world is h = h
opened_by_follow name (Some before) world is h = unless_follow (refusal Connect before) name before world refl is h

pub opens_follow : (name : List ℕ) (world : World) → IsFollowing world → IsFollowing (opens name world)
opens_follow name world h = opened_by_follow name (client_at name world) world refl h

pub cut_follow : (name : List ℕ) (world : World) → IsFollowing world → IsFollowing (cuts name world)
cut_follow name world h = cuts_follow name world (others_only name world h)

pub obeys_follow : (name : List ℕ) (command : Command) (world : World) → IsFollowing world → IsFollowing (obeys name command world)
obeys_follow name Connect world h = opens_follow name world h
obeys_follow name Die world h = cut_follow name (takes_turn name (acted Die world.now) world) (told_follow name Die world refl h)
obeys_follow name Close world h = told_follow name Close world refl h
obeys_follow name (Attach channel) world h = told_follow name (Attach channel) world refl h
obeys_follow name (AttachAt channel serial) world h = told_follow name (AttachAt channel serial) world refl h
obeys_follow name (Detach channel) world h = told_follow name (Detach channel) world refl h
obeys_follow name (Publish channel items) world h = told_follow name (Publish channel items) world refl h
obeys_follow name (Enter channel client payload) world h = told_follow name (Enter channel client payload) world refl h
obeys_follow name (Update channel client payload) world h = told_follow name (Update channel client payload) world refl h
obeys_follow name (Leave channel client) world h = told_follow name (Leave channel client) world refl h
obeys_follow name (Operate channel ops) world h = told_follow name (Operate channel ops) world refl h

-- GETTING

drop_at : (k : ℕ) (list : List Frame) (x : Frame) → slice_get list k ≡ Some x → drop k list ≡ x ∷ drop (suc k) list
drop_at k [] x found = absurd (cc)
drop_at zero (y ∷ ys) x found = let same : y ≡ x = cc in ap (λ (z : Frame). z ∷ ys) same
drop_at (suc k) (y ∷ ys) x found = drop_at k ys x found

comes_follow : (name : List ℕ) (k : ℕ) (frame : Frame) (t : Transport) (world : World) → latest name world ≡ Some k → slice_get world.transports k ≡ Some t → (t.cut ≡ false) × (slice_get t.to_client.put t.to_client.got ≡ Some frame)
    → (o : Option ClientState) → client_at name world ≡ o → IsFollowing world → IsFollowing (turned_by name (heard (Some frame) world.now) o (on_transport k gives_frame world))
comes_follow name k frame t world last found came None none h = let wrong : None ≡ Some k = sym (h.owners name none) ∙ last in absurd (cc)
comes_follow name k frame t world last found came (Some before) is h =
    turn_follows name before (heard (Some frame) world.now before) (Some (gives_frame t)) world (on_transport k gives_frame world) aimed refl
    (changed_one AreFronts k gives_frame t given world.transports found h.fronts) is
    (names_heard frame world.now before (h.clients name before is).names) (asking_heard frame world.now before (h.clients name before is).pending)
    (λ q lane channel seen. heard_led frame (drop (suc t.to_client.got) t.to_client.put) before (heard (Some frame) world.now before)
    (heard_turned frame world.now before (h.clients name before is).names (h.clients name before is).pending) t here came.0 (drop_at t.to_client.got t.to_client.put frame came.1) q lane channel
    (subst (IsSeenOn (setup_of q) lane) (ap (λ (o : Option ℕ). transport_at o world) last ∙ found) seen came.0))
    h
  where
    here : AreFronts t
    here = all_get AreFronts world.transports k t h.fronts found

    given : AreFronts (gives_frame t)
    given = record { service = here.service; client = get_within t.to_client.got t.to_client.put frame came.1 }

    aimed : IsAimed name (Some (gives_frame t)) world (on_transport k gives_frame world)
    aimed =
        aimed_as name (option_map gives_frame (slice_get world.transports k)) (Some (gives_frame t)) world (on_transport k gives_frame world) (ap (option_map gives_frame) found)
        (aimed_changed name k gives_frame world (λ u. record { owner = refl; more = []; made = refl }) last)

frame_follow : (name : List ℕ) (k : ℕ) (frame : Frame) (o : Option Transport) (world : World) → latest name world ≡ Some k → slice_get world.transports k ≡ o → arrival o ≡ Comes frame
    → IsFollowing world → IsFollowing (takes_turn name (heard (Some frame) world.now) (on_transport k gives_frame world))
frame_follow name k frame None world last found is h = absurd (cc)
frame_follow name k frame (Some t) world last found is h =
    comes_follow name k frame t world last found (arrives t.cut (slice_get t.to_client.put t.to_client.got) t.actor.ended frame is) (client_at name world) refl h

got_follow : (name : List ℕ) (k : ℕ) (a : Arrival) (world : World) → latest name world ≡ Some k → arrival (slice_get world.transports k) ≡ a → IsFollowing world → IsFollowing (got_by name k a world)
got_follow name k (Comes frame) world last is h = frame_follow name k frame (slice_get world.transports k) world last refl is h
got_follow name k Ends world last is h = cut_at_follow name (Some k) world last (others_only name world h)
got_follow name k Nothing world last is h = h

got_on_follow : (name : List ℕ) (o : Option ℕ) (world : World) → latest name world ≡ o → IsFollowing world → IsFollowing (got_on name o world)
got_on_follow name None world last h = h
got_on_follow name (Some k) world last h = got_follow name k (arrival (slice_get world.transports k)) world last refl h

pub gets_follow : (name : List ℕ) (world : World) → IsFollowing world → IsFollowing (gets name world)
gets_follow name world h = got_on_follow name (latest name world) world refl h
