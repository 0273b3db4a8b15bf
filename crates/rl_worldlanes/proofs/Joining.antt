-- How a client's channel goes on following a lane as the world grows.
use Rattle.std.proofs.Common.{◌≡◌, ℕ, Bool, true, false, List, [], ◌∷◌, ◌++◌, refl, sym, ◌∙◌, ap, subst, true≢false}
use Rattle.std.specs.Prelude.{Option, Some, None, slice_get}
use Rattle.std.specs.List.{AllByRecursion}
use Rattle.rl_events.specs.declared.channel.ChannelEvent.{ChannelEvent}
use Rattle.rl_clientmodel.specs.States.{ClientState}
use Rattle.rl_lanes.specs.Lanes.{Lane}
use Rattle.rl_lanes.specs.Moves.{Move, lane_of}
use Rattle.rl_names.specs.Names.{at}
use Rattle.rl_worldmodel.specs.World.{World, Transport, latest, client_at, client_in}
use Rattle.rl_worldlanes.specs.Following.{setup_of, past_named, IsOwnJoin, transport_at, latest_of, IsSeen, IsSeenOn, IsLaneOf, IsFollowed, HasRisingNames, AsksNothing, AreFronts, IsFollower, AreFound, IsFollowing}
use Rattle.rl_worldlanes.specs.Serving.{moved_by, GoesOn, IsServed, AreServed}
use Rattle.rl_worldlanes.specs.Growing.{HasMore, Grows}
use Rattle.rl_worldlanes.proofs.Growing.{moved_of, happening, HasHappened, has_happened, all_own_stay, all_own_made}
use Rattle.rl_worldlanes.proofs.Latest.{latest_owner}
use Rattle.rl_worldtold.proofs.Shape.{same_bytes}

-- WHERE A LINK MAY NOT BE SEEN FOR A WHILE

-- a client's channel follows a lane, whose link is seen where this is so
pub record IsFollowedIf (said : Type 0) (world : World) (owner : List ℕ) (state : ClientState) (name : List ℕ) : Type 0 where
  pub moves : List Move
  pub past : (lane_of (setup_of name) moves).past ≡ past_named name world
  pub channel : (lane_of (setup_of name) moves).channel ≡ at name state.channels
  pub own : AllByRecursion (IsOwnJoin world owner name) (lane_of (setup_of name) moves).joins
  pub seen : said → IsSeenOn (setup_of name) (lane_of (setup_of name) moves) (latest_of owner world)

pub record IsFollowerIf (said : Type 0) (world : World) (owner : List ℕ) (state : ClientState) : Type 0 where
  pub names : HasRisingNames state
  pub pending : AsksNothing state
  pub followed : (name : List ℕ) → IsFollowedIf said world owner state name

-- every client, with its link where this is so of its name
pub record IsFollowingIf (said : List ℕ → Type 0) (world : World) : Type 0 where
  pub found : AreFound world.clients
  pub fronts : AllByRecursion AreFronts world.transports
  pub owners : (owner : List ℕ) → client_at owner world ≡ None → latest owner world ≡ None
  pub clients : (owner : List ℕ) (state : ClientState) → client_at owner world ≡ Some state → IsFollowerIf (said owner) world owner state

-- so everywhere
pub following_all : (said : List ℕ → Type 0) (world : World) → ((owner : List ℕ) → said owner) → IsFollowingIf said world → IsFollowing world
following_all said world all h = record {
  found = h.found;
  fronts = h.fronts;
  owners = h.owners;
  clients = λ owner state is. of_client owner state (h.clients owner state is);
}
  where
    of_client : (owner : List ℕ) (state : ClientState) → IsFollowerIf (said owner) world owner state → IsFollower world owner state
    of_client owner state c = record {
      names = c.names;
      pending = c.pending;
      followed = λ name. of_name name (c.followed name);
    }
      where
        of_name : (name : List ℕ) → IsFollowedIf (said owner) world owner state name → IsFollowed world owner state name
        of_name name f = record { moves = f.moves; is_lane = record { past = f.past; channel = f.channel; own = f.own; seen = f.seen (all owner) } }

pub following_if : (said : List ℕ → Type 0) (world : World) → IsFollowing world → IsFollowingIf said world
following_if said world h = record {
  found = h.found;
  fronts = h.fronts;
  owners = h.owners;
  clients = λ owner state is. of_client owner state (h.clients owner state is);
}
  where
    of_client : (owner : List ℕ) (state : ClientState) → IsFollower world owner state → IsFollowerIf (said owner) world owner state
    of_client owner state c = record {
      names = c.names;
      pending = c.pending;
      followed = λ name. of_name name (c.followed name);
    }
      where
        of_name : (name : List ℕ) → IsFollowed world owner state name → IsFollowedIf (said owner) world owner state name
        of_name name f = record { moves = f.moves; past = f.is_lane.past; channel = f.is_lane.channel; own = f.is_lane.own; seen = λ on. f.is_lane.seen }

-- where it is so of fewer
pub following_fewer : (said fewer : List ℕ → Type 0) (world : World) → ((owner : List ℕ) → fewer owner → said owner) → IsFollowingIf said world → IsFollowingIf fewer world
following_fewer said fewer world so h = record {
  found = h.found;
  fronts = h.fronts;
  owners = h.owners;
  clients = λ owner state is. of_client owner state (h.clients owner state is);
}
  where
    of_client : (owner : List ℕ) (state : ClientState) → IsFollowerIf (said owner) world owner state → IsFollowerIf (fewer owner) world owner state
    of_client owner state c = record {
      names = c.names;
      pending = c.pending;
      followed = λ name. of_name name (c.followed name);
    }
      where
        of_name : (name : List ℕ) → IsFollowedIf (said owner) world owner state name → IsFollowedIf (fewer owner) world owner state name
        of_name name f = record { moves = f.moves; past = f.past; channel = f.channel; own = f.own; seen = λ on. f.seen (so owner on) }

-- A LANE IS CARRIED ON

-- a lane goes on by moves to the client's channel after a turn: the client joins nothing by itself
pub record IsCarried (said : Type 0) (world after : World) (owner : List ℕ) (state : ClientState) (name : List ℕ) (lane : Lane) : Type 0 where
  pub moves : List Move
  pub past : (moved_by (setup_of name) moves lane).past ≡ past_named name after
  pub joins : (moved_by (setup_of name) moves lane).joins ≡ lane.joins
  pub channel : (moved_by (setup_of name) moves lane).channel ≡ at name state.channels
  pub seen : said → IsSeenOn (setup_of name) (moved_by (setup_of name) moves lane) (latest_of owner after)

pub carried_followed : (said told : Type 0) (world after : World) → Grows world after → (owner : List ℕ) (before state : ClientState) (name : List ℕ)
    → ((lane : Lane) → lane.past ≡ past_named name world → lane.channel ≡ at name before.channels → (told → IsSeenOn (setup_of name) lane (latest_of owner world)) → IsCarried said world after owner state name lane)
    → IsFollowedIf told world owner before name → IsFollowedIf said after owner state name
carried_followed said told world after grows owner before state name so h = by_lane (so (lane_of (setup_of name) h.moves) h.past h.channel h.seen) where
  by_lane : IsCarried said world after owner state name (lane_of (setup_of name) h.moves) → IsFollowedIf said after owner state name
  by_lane c =
      let same : moved_by (setup_of name) c.moves (lane_of (setup_of name) h.moves) ≡ lane_of (setup_of name) (c.moves ++ h.moves) = moved_of (setup_of name) c.moves h.moves in
      record {
        moves = c.moves ++ h.moves;
        past = ap (λ (lane : Lane). lane.past) (sym same) ∙ c.past;
        channel = ap (λ (lane : Lane). lane.channel) (sym same) ∙ c.channel;
        own = subst (λ (joins : List ℕ). AllByRecursion (IsOwnJoin after owner name) joins) (sym c.joins ∙ ap (λ (lane : Lane). lane.joins) same)
            (all_own_stay world after grows owner name (lane_of (setup_of name) h.moves).joins h.own);
        seen = λ on. subst (λ (lane : Lane). IsSeenOn (setup_of name) lane (latest_of owner after)) same (c.seen on);
      }

-- THE SERVICE ACTS

-- where nothing is said of the link the lane takes what happened
pub happens_followed : (world after : World) → Grows world after → (owner : List ℕ) (state : ClientState) (name : List ℕ)
    → ((lane : Lane) → IsSeenOn (setup_of name) lane (latest_of owner after))
    → IsFollowed world owner state name → IsFollowed after owner state name
happens_followed world after grows owner state name free h = by_more (grows.past name) where
  by_more : HasMore (past_named name world) (past_named name after) → IsFollowed after owner state name
  by_more m = by_lane (has_happened (setup_of name) m.more (lane_of (setup_of name) h.moves)) where
    by_lane : HasHappened (setup_of name) m.more (lane_of (setup_of name) h.moves) → IsFollowed after owner state name
    by_lane l =
        let same : moved_by (setup_of name) (happening m.more) (lane_of (setup_of name) h.moves) ≡ lane_of (setup_of name) (happening m.more ++ h.moves) = moved_of (setup_of name) (happening m.more) h.moves in
        record {
          moves = happening m.more ++ h.moves;
          is_lane = subst (λ (lane : Lane). IsLaneOf after owner state name lane) same (record {
            past = l.past ∙ ap (λ (past : List ChannelEvent). m.more ++ past) h.is_lane.past ∙ sym m.is;
            channel = l.channel ∙ h.is_lane.channel;
            own = subst (λ (joins : List ℕ). AllByRecursion (IsOwnJoin after owner name) joins) (sym l.joins) (all_own_stay world after grows owner name (lane_of (setup_of name) h.moves).joins h.is_lane.own);
            seen = free (moved_by (setup_of name) (happening m.more) (lane_of (setup_of name) h.moves));
          });
        }

all_append : (P : ℕ → Type 0) (xs ys : List ℕ) → AllByRecursion P xs → AllByRecursion P ys → AllByRecursion P (xs ++ ys)
all_append P [] ys one two = two
all_append P (x ∷ xs) ys one two = (one.0, all_append P xs ys one.1 two)

-- where the link goes on on the client's latest transport, so does the lane
pub served_followed : (world after : World) → Grows world after → (owner : List ℕ) (state : ClientState) (name : List ℕ) (k : ℕ) (u : Transport)
    → slice_get after.transports k ≡ Some u → u.owner ≡ owner → latest_of owner after ≡ Some u
    → (h : IsFollowed world owner state name) → GoesOn world after u name (lane_of (setup_of name) h.moves) → IsFollowed after owner state name
served_followed world after grows owner state name k u found owned is h on =
    let same : moved_by (setup_of name) on.moves (lane_of (setup_of name) h.moves) ≡ lane_of (setup_of name) (on.moves ++ h.moves) = moved_of (setup_of name) on.moves h.moves in
    record {
      moves = on.moves ++ h.moves;
      is_lane = subst (λ (lane : Lane). IsLaneOf after owner state name lane) same (record {
        past = on.past;
        channel = on.channel ∙ h.is_lane.channel;
        own = subst (λ (joins : List ℕ). AllByRecursion (IsOwnJoin after owner name) joins) (sym on.joined)
            (all_append (IsOwnJoin after owner name) on.joins (lane_of (setup_of name) h.moves).joins
            (all_own_made after k u owner name on.joins found owned on.made)
            (all_own_stay world after grows owner name (lane_of (setup_of name) h.moves).joins h.is_lane.own));
        seen = subst (IsSeenOn (setup_of name) (moved_by (setup_of name) on.moves (lane_of (setup_of name) h.moves))) (sym is)
            (λ uncut. record { link = on.link; has = on.has; sees = on.sees });
      });
    }

-- what the service makes of all transports, a client follows
pub service_followed : (world after : World) → Grows world after → AreServed world after → (owner : List ℕ) → latest owner after ≡ latest owner world
    → (state : ClientState) (name : List ℕ) → IsFollowed world owner state name → IsFollowed after owner state name
service_followed world after grows served owner last state name h = by_latest (latest owner after) refl where
  free_of : latest_of owner after ≡ None → IsFollowed after owner state name
  free_of none = happens_followed world after grows owner state name (λ lane. subst (IsSeenOn (setup_of name) lane) (sym none) tt) h

  by_cut : (k : ℕ) (t u : Transport) → latest owner after ≡ Some k → slice_get after.transports k ≡ Some u → slice_get world.transports k ≡ Some t → IsServed world after t u
      → (b : Bool) → u.cut ≡ b → IsFollowed after owner state name
  by_cut k t u at_after found before s true cut =
      happens_followed world after grows owner state name
      (λ lane. subst (IsSeenOn (setup_of name) lane) (sym (ap (λ o. transport_at o after) at_after ∙ found)) (λ uncut. absurd (true≢false (sym cut ∙ uncut)))) h
  by_cut k t u at_after found before s false cut =
      by_seen (subst (IsSeenOn (setup_of name) (lane_of (setup_of name) h.moves)) (ap (λ o. transport_at o world) (sym last ∙ at_after) ∙ before) h.is_lane.seen (sym s.cut ∙ cut))
    where
      own_of : u.owner ≡ owner
      own_of = sym (same_bytes owner u.owner (latest_owner owner after k u at_after found))

      by_seen : IsSeen (setup_of name) (lane_of (setup_of name) h.moves) t → IsFollowed after owner state name
      by_seen seen =
          served_followed world after grows owner state name k u found own_of (ap (λ o. transport_at o after) at_after ∙ found) h
          (s.goes_on (sym s.cut ∙ cut) name (lane_of (setup_of name) h.moves) seen.link h.is_lane.past seen.has seen.sees)

  by_transport : (k : ℕ) (o : Option Transport) → latest owner after ≡ Some k → slice_get after.transports k ≡ o → IsFollowed after owner state name
  by_transport k None at_after found = free_of (ap (λ o. transport_at o after) at_after ∙ found)
  by_transport k (Some u) at_after found = (λ (one : (t : Transport) × (slice_get world.transports k ≡ Some t) × IsServed world after t u). by_cut k one.0 u at_after found one.1 one.2 u.cut refl) (served k u found)

  by_latest : (o : Option ℕ) → latest owner after ≡ o → IsFollowed after owner state name
  by_latest None none = free_of (ap (λ o. transport_at o after) none)
  by_latest (Some k) at_after = by_transport k (slice_get after.transports k) at_after refl

-- all clients
pub service_follows : (world after : World) → Grows world after → AreServed world after → after.clients ≡ world.clients → ((owner : List ℕ) → latest owner after ≡ latest owner world)
    → AllByRecursion AreFronts after.transports → IsFollowing world → IsFollowing after
service_follows world after grows served same last fronts h = record {
  found = subst AreFound (sym same) h.found;
  fronts = fronts;
  owners = λ owner none. last owner ∙ h.owners owner (sym (clients_same owner) ∙ none);
  clients = λ owner state is. of_client owner state (h.clients owner state (sym (clients_same owner) ∙ is));
}
  where
    clients_same : (owner : List ℕ) → client_at owner after ≡ client_at owner world
    clients_same owner = ap (client_in owner) same

    of_client : (owner : List ℕ) (state : ClientState) → IsFollower world owner state → IsFollower after owner state
    of_client owner state c = record {
      names = c.names;
      pending = c.pending;
      followed = λ name. service_followed world after grows served owner (last owner) state name (c.followed name);
    }
