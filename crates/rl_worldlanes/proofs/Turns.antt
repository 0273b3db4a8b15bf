-- What a client's turn, or a cut of its transport, leaves of all lanes.
use Rattle.std.proofs.Common.{◌≡◌, ℕ, zero, suc, ◌≤◌, Bool, true, false, List, [], ◌∷◌, ◌++◌, length, map, take, refl, sym, ◌∙◌, ap, subst, true≢false, append_assoc, arith}
use Rattle.std.specs.Prelude.{⊤, Option, Some, None, option_map, slice_get, bytes_eq, flat_map}
use Rattle.std.specs.List.{AllByRecursion, filter}
use Rattle.rl_types.specs.declared.frames.Frame.{Frame}
use Rattle.rl_connsm.specs.Rules.{opens_link}
use Rattle.rl_names.specs.Names.{at}
use Rattle.rl_clientmodel.specs.States.{ClientState, Turn}
use Rattle.rl_lanes.specs.Lanes.{Setup, Ask, Link, Lane}
use Rattle.rl_lanes.specs.Moves.{with_asks, lane_of}
use Rattle.rl_worldmodel.specs.World.{World, Way, Transport, under_way, without_rest, on_transport, on_client, if_named, client_at, latest}
use Rattle.rl_worldmodel.specs.Clients.{cut_off, unlinks, cut_unless, cut_where, cut_at, cuts, put_unless, takes_frames, sent_on, sends, cuts_if, turned, gives_frame}
use Rattle.rl_worldtold.proofs.Shape.{same_bytes, changed_all}
use Rattle.rl_worldlanes.specs.Views.{concerns, asks_of, asks_in_hand, Sees}
use Rattle.rl_worldlanes.specs.Following.{setup_of, transport_at, latest_of, IsSeen, IsSeenOn, HasRisingNames, AsksNothing, IsFront, AreFronts, IsFollowing}
use Rattle.rl_worldlanes.specs.Growing.{MakesMore}
use Rattle.rl_worldlanes.specs.Turning.{link_by, asking, link_after, IsTurned, IsHeard, IsHeardOn}
use Rattle.rl_worldlanes.proofs.Commands.{unlinked_turned}
use Rattle.rl_worldlanes.proofs.Lanes.{flat_append}
use Rattle.rl_worldlanes.proofs.Ways.{put_within, way_put, way_got}
use Rattle.rl_worldlanes.proofs.Rising.{names_unlinked}
use Rattle.rl_worldlanes.proofs.Waiting.{asking_unlinked}
use Rattle.rl_worldlanes.proofs.Latest.{latest_owner}
use Rattle.rl_worldlanes.proofs.Joining.{IsFollowedIf, IsFollowerIf, IsFollowingIf, following_all, following_if, following_fewer}
use Rattle.rl_worldlanes.proofs.Aiming.{makes_same, IsAimed, aimed_same, aimed_changed, aimed_then, aimed_as, aimed_beside}
use Rattle.rl_worldlanes.proofs.Leading.{IsLinkSeen, IsLed, led_follows}

-- A CLIENT'S LATEST TRANSPORT SAYS NOTHING

-- the others' do, and of its own nothing is said
abbrev Others : List ℕ → List ℕ → Type 0
Others name owner = bytes_eq name owner ≡ false

free_follow : (name : List ℕ) (world : World) → ((setup : Setup) (lane : Lane) → IsSeenOn setup lane (latest_of name world)) → IsFollowingIf (Others name) world → IsFollowing world
free_follow name world free h = following_all (λ owner. ⊤) world (λ owner. tt) (record {
  found = h.found;
  fronts = h.fronts;
  owners = h.owners;
  clients = λ owner state is. of_client owner state (h.clients owner state is);
})
  where
    of_client : (owner : List ℕ) (state : ClientState) → IsFollowerIf (Others name owner) world owner state → IsFollowerIf ⊤ world owner state
    of_client owner state c = record { names = c.names; pending = c.pending; followed = λ q. of_name q (c.followed q) } where
      of_name : (q : List ℕ) → IsFollowedIf (Others name owner) world owner state q → IsFollowedIf ⊤ world owner state q
      of_name q f = record { moves = f.moves; past = f.past; channel = f.channel; own = f.own; seen = λ on. by_owner (bytes_eq name owner) refl } where
        by_owner : (b : Bool) → bytes_eq name owner ≡ b → IsSeenOn (setup_of q) (lane_of (setup_of q) f.moves) (latest_of owner world)
        by_owner false other = f.seen other
        by_owner true own = subst (λ (n : List ℕ). IsSeenOn (setup_of q) (lane_of (setup_of q) f.moves) (latest_of n world)) (same_bytes name owner own) (free (setup_of q) (lane_of (setup_of q) f.moves))

-- CUTS

front_rest : (way : Way) → IsFront way → IsFront (without_rest way)
front_rest way front = taken way.got way.put front where
  taken : (n : ℕ) (xs : List Frame) → n ≤ length xs → n ≤ length (take n xs)
  taken zero xs within = omega arith
  taken (suc n) [] within = absurd (omega (arith, within))
  taken (suc n) (x ∷ xs) within = let more : n ≤ length (take n xs) = taken n xs (omega (arith, within)) in omega (arith, more)

cut_fronts : (t : Transport) → AreFronts t → AreFronts (cut_off t)
cut_fronts t h = record { service = front_rest t.to_service h.service; client = front_rest t.to_client h.client }

cut_one : (name : List ℕ) (k : ℕ) (t : Transport) (world : World) → latest name world ≡ Some k → slice_get world.transports k ≡ Some t → t.owner ≡ name
    → (o : Option ClientState) → client_at name world ≡ o → IsFollowingIf (Others name) world → IsFollowing (on_client name (unlinks world.now) (on_transport k cut_off world))
cut_one name k t world last found own None none h = let wrong : None ≡ Some k = sym (h.owners name none) ∙ last in absurd (cc)
cut_one name k t world last found own (Some before) is h =
    following_all (λ owner. bytes_eq name owner ≡ true → false ≡ false) after (λ owner on. refl)
    (led_follows (Others name) name (unlinks world.now) before (unlinks world.now before) false (Some (cut_off t)) world after aimed is refl refl
    (changed_all AreFronts k cut_off cut_fronts world.transports h.fronts)
    (names_unlinked world.now before (h.clients name before is).names) (asking_unlinked world.now before (h.clients name before is).pending)
    (λ owner other. other)
    (λ q lane channel seen. record { link = None; leads = unlinked_turned world.now before q lane channel; seen = λ keeps uncut. absurd (true≢false uncut) }) h)
  where
    after : World
    after = on_client name (unlinks world.now) (on_transport k cut_off world)

    aimed : IsAimed name (Some (cut_off t)) world after
    aimed =
        aimed_beside name (Some (cut_off t)) world (on_transport k cut_off world) after refl refl
        (aimed_as name (option_map cut_off (slice_get world.transports k)) (Some (cut_off t)) world (on_transport k cut_off world) (ap (option_map cut_off) found)
        (aimed_changed name k cut_off world (λ u. record { owner = refl; more = []; made = refl }) last))

cut_by : (name : List ℕ) (k : ℕ) (t : Transport) (b : Bool) (world : World) → t.cut ≡ b → latest name world ≡ Some k → slice_get world.transports k ≡ Some t → IsFollowingIf (Others name) world → IsFollowing (cut_unless b k t world)
cut_by name k t true world cut last found h =
    free_follow name world
    (λ setup lane. subst (IsSeenOn setup lane) (sym (ap (λ (o : Option ℕ). transport_at o world) last ∙ found)) (λ uncut. absurd (true≢false (sym cut ∙ uncut)))) h
cut_by name k t false world cut last found h =
    let own : name ≡ t.owner = same_bytes name t.owner (latest_owner name world k t last found) in
    subst (λ (n : List ℕ). IsFollowing (on_client n (unlinks world.now) (on_transport k cut_off world))) own
    (cut_one name k t world last found (sym own) (client_at name world) refl h)

where_follow : (name : List ℕ) (k : ℕ) (o : Option Transport) (world : World) → slice_get world.transports k ≡ o → latest name world ≡ Some k → IsFollowingIf (Others name) world → IsFollowing (cut_where k o world)
where_follow name k None world found last h = free_follow name world (λ setup lane. subst (IsSeenOn setup lane) (sym (ap (λ (o : Option ℕ). transport_at o world) last ∙ found)) tt) h
where_follow name k (Some t) world found last h = cut_by name k t t.cut world refl last found h

pub cut_at_follow : (name : List ℕ) (o : Option ℕ) (world : World) → latest name world ≡ o → IsFollowingIf (Others name) world → IsFollowing (cut_at o world)
cut_at_follow name None world last h = free_follow name world (λ setup lane. subst (IsSeenOn setup lane) (sym (ap (λ (o : Option ℕ). transport_at o world) last)) tt) h
cut_at_follow name (Some k) world last h = where_follow name k (slice_get world.transports k) world refl last h

-- whatever its link was, afterwards nothing is said of it
pub cuts_follow : (name : List ℕ) (world : World) → IsFollowingIf (Others name) world → IsFollowing (cuts name world)
cuts_follow name world h = cut_at_follow name (latest name world) world refl h

-- FRAMES ARE SENT

takes_makes : (sent : List Frame) (b : Bool) (t : Transport) → MakesMore t (put_unless b sent t)
takes_makes sent true t = makes_same t
takes_makes sent false t = record { owner = refl; more = []; made = refl }

takes_fronts : (sent : List Frame) (b : Bool) (t : Transport) → AreFronts t → AreFronts (put_unless b sent t)
takes_fronts sent true t h = h
takes_fronts sent false t h = record { service = put_within t.to_service.got t.to_service.put sent h.service; client = h.client }

sent_aimed : (name : List ℕ) (sent : List Frame) (o : Option ℕ) (world : World) → latest name world ≡ o → IsAimed name (option_map (takes_frames sent) (transport_at o world)) world (sent_on o sent world)
sent_aimed name sent None world last = aimed_as name (latest_of name world) None world world (ap (λ (o : Option ℕ). transport_at o world) last) (aimed_same name world world refl refl)
sent_aimed name sent (Some k) world last = aimed_changed name k (takes_frames sent) world (λ t. takes_makes sent t.cut t) last

sent_clients : (sent : List Frame) (o : Option ℕ) (world : World) → (sent_on o sent world).clients ≡ world.clients
sent_clients sent None world = refl
sent_clients sent (Some k) world = refl

sent_fronts : (sent : List Frame) (o : Option ℕ) (world : World) → AllByRecursion AreFronts world.transports → AllByRecursion AreFronts (sent_on o sent world).transports
sent_fronts sent None world h = h
sent_fronts sent (Some k) world h = changed_all AreFronts k (takes_frames sent) (λ t is. takes_fronts sent t.cut t is) world.transports h

-- A TURN

-- where the turn leads each lane of the client to what its transport shows when the frames were sent, all clients go on
pub turn_follows : (name : List ℕ) (before : ClientState) (turn : Turn) (found : Option Transport) (world first : World) → IsAimed name found world first → first.clients ≡ world.clients → AllByRecursion AreFronts first.transports
    → client_at name world ≡ Some before → HasRisingNames turn.state → AsksNothing turn.state
    → ((q : List ℕ) (lane : Lane) → lane.channel ≡ at q before.channels → IsSeenOn (setup_of q) lane (latest_of name world) → IsLed q turn.state turn.output.drop_link (option_map (takes_frames turn.output.frames) found) lane)
    → IsFollowing world → IsFollowing (turned name turn first)
turn_follows name before turn found world first aimed same fronts is names pending leads h = by_drop turn.output.drop_link refl where
  middle : World
  middle = on_client name (λ _. turn.state) first

  last : World
  last = sends name turn.output.frames (on_client name (λ _. turn.state) first)

  of_found : latest_of name middle ≡ found
  of_found = (aimed_beside name found world first middle refl refl aimed).own

  sent : IsAimed name (option_map (takes_frames turn.output.frames) found) world last
  sent =
      aimed_then name found (option_map (takes_frames turn.output.frames) found) world middle last (aimed_beside name found world first middle refl refl aimed)
      (aimed_as name (option_map (takes_frames turn.output.frames) (latest_of name middle)) (option_map (takes_frames turn.output.frames) found) middle last
      (ap (option_map (takes_frames turn.output.frames)) of_found)
      (sent_aimed name turn.output.frames (latest name middle) middle refl))

  led : IsFollowingIf (λ owner. bytes_eq name owner ≡ true → turn.output.drop_link ≡ false) last
  led =
      led_follows (λ owner. ⊤) name (λ _. turn.state) before turn.state turn.output.drop_link (option_map (takes_frames turn.output.frames) found) world last sent is
      (sent_clients turn.output.frames (latest name middle) middle ∙ ap (map (if_named name (λ _. turn.state))) same) refl
      (sent_fronts turn.output.frames (latest name middle) middle fronts) names pending (λ owner other. tt)
      (λ q lane channel seen. leads q lane channel (seen tt))
      (following_if (λ owner. ⊤) world h)

  by_drop : (b : Bool) → turn.output.drop_link ≡ b → IsFollowing (cuts_if b name last)
  by_drop false keeps = following_all _ last (λ owner on. keeps) led
  by_drop true drops = cuts_follow name last (following_fewer _ (Others name) last (λ owner other on. absurd (true≢false (sym on ∙ other))) led)

-- WHAT THE TRANSPORT SHOWS THEN

-- what the client sends is asked behind what was asked
sees_sent : (setup : Setup) (sent : List Frame) (t : Transport) (link : Link) → IsFront t.to_service → Sees setup t link
    → Sees setup (put_unless false sent t) (with_asks (flat_map (asks_of setup.name) sent) link)
sees_sent setup sent t link front sees = record {
  coming = sees.coming;
  asks = λ on.
      ap (λ (frames : List Frame). asks_in_hand setup.name t.actor.wish ++ flat_map (asks_of setup.name) frames) (way_put sent t.to_service front)
      ∙ ap (λ (asks : List Ask). asks_in_hand setup.name t.actor.wish ++ asks) (flat_append (asks_of setup.name) (under_way t.to_service) sent)
      ∙ sym (append_assoc (asks_in_hand setup.name t.actor.wish) (flat_map (asks_of setup.name) (under_way t.to_service)) (flat_map (asks_of setup.name) sent))
      ∙ ap (λ (asks : List Ask). asks ++ flat_map (asks_of setup.name) sent) (sees.asks on);
  session = sees.session;
}

link_sent : (setup : Setup) (sent : List Frame) (b : Bool) (t : Transport) (link : Link) → t.cut ≡ b → AreFronts t → (b ≡ false → Sees setup t link)
    → IsLinkSeen setup (Some (with_asks (flat_map (asks_of setup.name) sent) link)) (Some (put_unless b sent t))
link_sent setup sent true t link cut fronts sees uncut = absurd (true≢false (sym cut ∙ uncut))
link_sent setup sent false t link cut fronts sees uncut = (with_asks (flat_map (asks_of setup.name) sent) link, refl, sees_sent setup sent t link fronts.service (sees refl))

-- of a command or of time
pub turned_led : (state : ClientState) (turn : Turn) → IsTurned state turn → opens_link state.conn turn.state.conn ≡ false → (o : Option Transport) → ((t : Transport) → o ≡ Some t → AreFronts t)
    → (q : List ℕ) (lane : Lane) → lane.channel ≡ at q state.channels → IsSeenOn (setup_of q) lane o → IsLed q turn.state turn.output.drop_link (option_map (takes_frames turn.output.frames) o) lane
turned_led state turn moves opens o fronts q lane channel seen = record {
  link = link_after q state turn lane.link;
  leads = moves q lane channel;
  seen = λ keeps. by_transport o keeps fronts seen;
}
  where
    link_is : (one : Link) → turn.output.drop_link ≡ false → lane.link ≡ Some one → link_after q state turn lane.link ≡ Some (with_asks (flat_map (asks_of q) turn.output.frames) one)
    link_is one keeps has =
        ap (λ (b : Bool). asking q turn.output.frames (link_by b turn.output.drop_link lane.link)) opens
        ∙ ap (λ (b : Bool). asking q turn.output.frames (link_by false b lane.link)) keeps
        ∙ ap (asking q turn.output.frames) has

    by_transport : (o : Option Transport) → turn.output.drop_link ≡ false → ((t : Transport) → o ≡ Some t → AreFronts t) → IsSeenOn (setup_of q) lane o
        → IsLinkSeen (setup_of q) (link_after q state turn lane.link) (option_map (takes_frames turn.output.frames) o)
    by_transport None keeps fronts seen = tt
    by_transport (Some t) keeps fronts seen = by_cut t.cut refl where
      by_cut : (b : Bool) → t.cut ≡ b → IsLinkSeen (setup_of q) (link_after q state turn lane.link) (Some (put_unless b turn.output.frames t))
      by_cut true cut = λ uncut. absurd (true≢false (sym cut ∙ uncut))
      by_cut false cut = of_seen (seen cut) where
        of_seen : IsSeen (setup_of q) lane t → IsLinkSeen (setup_of q) (link_after q state turn lane.link) (Some (put_unless false turn.output.frames t))
        of_seen s =
            subst (λ (l : Option Link). IsLinkSeen (setup_of q) l (Some (put_unless false turn.output.frames t))) (sym (link_is s.link keeps s.has))
            (link_sent (setup_of q) turn.output.frames false t s.link cut (fronts t refl) (λ on. s.sees))

-- of a frame that is got
pub heard_led : (frame : Frame) (more : List Frame) (state : ClientState) (turn : Turn) → IsHeard frame state turn → (t : Transport) → AreFronts t → t.cut ≡ false → under_way t.to_client ≡ frame ∷ more
    → (q : List ℕ) (lane : Lane) → lane.channel ≡ at q state.channels → IsSeen (setup_of q) lane t → IsLed q turn.state turn.output.drop_link (Some (takes_frames turn.output.frames (gives_frame t))) lane
heard_led frame more state turn heard t fronts uncut under q lane channel seen = of_heard (heard q lane seen.link more channel seen.has (ap (filter (concerns q)) (sym under) ∙ seen.sees.coming)) where
  of_heard : IsHeardOn q lane seen.link more turn → IsLed q turn.state turn.output.drop_link (Some (takes_frames turn.output.frames (gives_frame t))) lane
  of_heard h = record {
    link = link_by false turn.output.drop_link (Some h.left);
    leads = h.leads;
    seen = λ keeps.
        subst (λ (l : Option Link). IsLinkSeen (setup_of q) l (Some (takes_frames turn.output.frames (gives_frame t)))) (sym (ap (λ (b : Bool). link_by false b (Some h.left)) keeps))
        (subst (λ (b : Bool). IsLinkSeen (setup_of q) (Some h.left) (Some (put_unless b turn.output.frames (gives_frame t)))) (sym uncut)
        (λ still. (h.left, refl, sees)));
  }
    where
      sees : Sees (setup_of q) (put_unless false turn.output.frames (gives_frame t)) h.left
      sees = record {
        coming = ap (filter (concerns q)) (way_got t.to_client frame more under) ∙ h.coming;
        asks = λ on. (sees_sent (setup_of q) turn.output.frames t seen.link fronts.service seen.sees).asks on ∙ sym h.asks;
        session = λ on. seen.sees.session on ∙ sym h.session;
      }
