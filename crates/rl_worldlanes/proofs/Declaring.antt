-- What a client that is declared, and one that goes on where another one stood, leave of all lanes.
use Rattle.std.proofs.Common.{◌≡◌, ℕ, Bool, true, false, cond, List, [], ◌∷◌, ◌++◌, refl, sym, ◌∙◌, ap, subst}
use Rattle.std.specs.Prelude.{⊤, Option, Some, None, option_map, bytes_eq, if◌then◌else◌}
use Rattle.std.specs.List.{AllByRecursion}
use Rattle.rl_connbook.proofs.Each.{all_weaker, all_append}
use Rattle.rl_runs.specs.declared.commands.Command.TheVariants.{Die}
use Rattle.rl_runs.specs.declared.commands.RecoveryKey.{RecoveryKey}
use Rattle.rl_clientmodel.specs.States.{ClientState, new_state}
use Rattle.rl_clientmodel.specs.Keys.{recovery_key, may_recover, recovered}
use Rattle.rl_lanes.specs.Lanes.{Setup, Link, Lane}
use Rattle.rl_lanes.specs.Moves.{lane_of}
use Rattle.rl_worldmodel.specs.World.{World, Transport, on_client, client_in, client_at, latest}
use Rattle.rl_worldmodel.specs.Clients.{declared_unless, declares, obeys, recovered_with, recovered_if, recovered_from, recovers}
use Rattle.rl_worldtold.proofs.Shape.{same_bytes, self_bytes, client_changed, client_added}
use Rattle.rl_worldlanes.specs.Views.{Sees}
use Rattle.rl_worldlanes.specs.Following.{setup_of, past_named, transport_at, latest_of, IsOwnJoin, IsSeen, IsSeenOn, HasRisingNames, IsFollowed, IsFollower, IsFollowing}
use Rattle.rl_worldlanes.specs.Serving.{moved_by}
use Rattle.rl_worldlanes.proofs.Lanes.{append_none}
use Rattle.rl_worldlanes.proofs.Growing.{happening, HasHappened, has_happened, moved_of, all_own_stay}
use Rattle.rl_worldlanes.proofs.Rising.{names_new, names_recovered}
use Rattle.rl_worldlanes.proofs.Waiting.{asking_new, asking_recovered}
use Rattle.rl_worldlanes.proofs.Recovering.{recovered_turned}
use Rattle.rl_worldlanes.proofs.Joining.{following_all, following_if}
use Rattle.rl_worldlanes.proofs.Histories.{past_same}
use Rattle.rl_worldlanes.proofs.Aiming.{grows_beside, IsAimed, aimed_same}
use Rattle.rl_worldlanes.proofs.Leading.{IsLinkSeen, once_changed, led_follows}
use Rattle.rl_worldlanes.proofs.Obeying.{obeys_follow}

-- WORLDS WITH OTHER CLIENTS ALONE

beside_follower : (world after : World) → after.channels ≡ world.channels → after.transports ≡ world.transports → (owner : List ℕ) (state : ClientState) → IsFollower world owner state → IsFollower after owner state
beside_follower world after channels same owner state c = record {
  names = c.names;
  pending = c.pending;
  followed = λ q. of_name q (c.followed q);
}
  where
    aimed : IsAimed owner (latest_of owner world) world after
    aimed = aimed_same owner world after channels same

    of_name : (q : List ℕ) → IsFollowed world owner state q → IsFollowed after owner state q
    of_name q f = record {
      moves = f.moves;
      is_lane = record {
        past = f.is_lane.past ∙ sym (past_same q world after channels);
        channel = f.is_lane.channel;
        own = all_own_stay world after (grows_beside world after channels aimed.makes) owner q (lane_of (setup_of q) f.moves).joins f.is_lane.own;
        seen = subst (IsSeenOn (setup_of q) (lane_of (setup_of q) f.moves)) (sym aimed.own) f.is_lane.seen;
      };
    }

-- DECLARED

new_follower : (world : World) (name : List ℕ) → latest name world ≡ None → IsFollower world name (new_state name)
new_follower world name none = record { names = names_new name; pending = asking_new name; followed = of_name } where
  of_name : (q : List ℕ) → IsFollowed world name (new_state name) q
  of_name q = of_happened (has_happened (setup_of q) (past_named q world) (lane_of (setup_of q) [])) where
    of_happened : HasHappened (setup_of q) (past_named q world) (lane_of (setup_of q) []) → IsFollowed world name (new_state name) q
    of_happened h =
        let same : moved_by (setup_of q) (happening (past_named q world)) (lane_of (setup_of q) []) ≡ lane_of (setup_of q) (happening (past_named q world) ++ []) = moved_of (setup_of q) (happening (past_named q world)) [] in
        record {
          moves = happening (past_named q world) ++ [];
          is_lane = record {
            past = ap (λ (lane : Lane). lane.past) (sym same) ∙ h.past ∙ append_none (past_named q world);
            channel = ap (λ (lane : Lane). lane.channel) (sym same) ∙ h.channel;
            own = subst (λ (joins : List ℕ). AllByRecursion (IsOwnJoin world name q) joins) (sym h.joins ∙ ap (λ (lane : Lane). lane.joins) same) tt;
            seen = subst (IsSeenOn (setup_of q) (lane_of (setup_of q) (happening (past_named q world) ++ []))) (sym (ap (λ (o : Option ℕ). transport_at o world) none)) tt;
          };
        }

declared_follow : (o : Option ClientState) (name : List ℕ) (world : World) → client_at name world ≡ o → IsFollowing world → IsFollowing (declared_unless o name world)
declared_follow (Some state) name world is h = h
declared_follow None name world is h = record {
  found =
      all_append (λ (c : List ℕ × ClientState). client_in c.0 after.clients ≡ Some c.1) world.clients ((name, new_state name) ∷ [])
      (all_weaker (λ (c : List ℕ × ClientState). client_in c.0 world.clients ≡ Some c.1) (λ (c : List ℕ × ClientState). client_in c.0 after.clients ≡ Some c.1)
      (λ c there. (client_added c.0 world.clients ((name, new_state name) ∷ [])).1 c.1 there) world.clients h.found)
      ((client_added name world.clients ((name, new_state name) ∷ [])).0 is ∙ ap (λ (b : Bool). if b then Some (new_state name) else None) (self_bytes name), tt);
  fronts = h.fronts;
  owners = λ owner none. owner_by owner (client_at owner world) refl none;
  clients = λ owner s at_owner. client_by owner s (client_at owner world) refl at_owner;
}
  where
    after : World
    after = declared_unless None name world

    owner_by : (owner : List ℕ) (o : Option ClientState) → client_at owner world ≡ o → client_at owner after ≡ None → latest owner after ≡ None
    owner_by owner None there none = h.owners owner there
    owner_by owner (Some s) there none = let wrong : Some s ≡ None = sym ((client_added owner world.clients ((name, new_state name) ∷ [])).1 s there) ∙ none in absurd (cc)

    new_by : (owner : List ℕ) (s : ClientState) (b : Bool) → bytes_eq owner name ≡ b → client_at owner world ≡ None → cond b (Some (new_state name)) None ≡ Some s → IsFollower after owner s
    new_by owner s false by there found = absurd (cc)
    new_by owner s true by there found =
        let own : owner ≡ name = same_bytes owner name by in
        let it : new_state name ≡ s = cc in
        subst (λ (s : ClientState). IsFollower after owner s) it
        (subst (λ (n : List ℕ). IsFollower after n (new_state name)) (sym own) (new_follower after name (h.owners name is)))

    client_by : (owner : List ℕ) (s : ClientState) (o : Option ClientState) → client_at owner world ≡ o → client_at owner after ≡ Some s → IsFollower after owner s
    client_by owner s None there found =
        new_by owner s (bytes_eq owner name) refl there (sym ((client_added owner world.clients ((name, new_state name) ∷ [])).0 there) ∙ found)
    client_by owner s (Some before) there found =
        let two : Some before ≡ Some s = sym ((client_added owner world.clients ((name, new_state name) ∷ [])).1 before there) ∙ found in
        let it : before ≡ s = cc in
        subst (λ (s : ClientState). IsFollower after owner s) it (beside_follower world after refl refl owner before (h.clients owner before there))

pub declares_follow : (name : List ℕ) (world : World) → IsFollowing world → IsFollowing (declares name world)
declares_follow name world h = declared_follow (client_at name world) name world refl h

-- RECOVERY

-- a client that was never declared
none_follow : (name : List ℕ) (f : ClientState → ClientState) (world : World) → client_at name world ≡ None → IsFollowing world → IsFollowing (on_client name f world)
none_follow name f world none h = record {
  found = once_changed name f world.clients h.found;
  fronts = h.fronts;
  owners = λ owner gone. h.owners owner (sym (stays owner (bytes_eq name owner) refl) ∙ gone);
  clients = λ owner s at_owner. beside_follower world (on_client name f world) refl refl owner s (h.clients owner s (sym (stays owner (bytes_eq name owner) refl) ∙ at_owner));
}
  where
    stays : (owner : List ℕ) (b : Bool) → bytes_eq name owner ≡ b → client_at owner (on_client name f world) ≡ client_at owner world
    stays owner false by = client_changed owner name f world.clients ∙ ap (λ (b : Bool). if b then option_map f (client_at owner world) else client_at owner world) by
    stays owner true by =
        let gone : client_at owner world ≡ None = ap (λ (n : List ℕ). client_at n world) (sym (same_bytes name owner by)) ∙ none in
        client_changed owner name f world.clients ∙ ap (λ (b : Bool). if b then option_map f (client_at owner world) else client_at owner world) by
        ∙ ap (option_map f) gone ∙ sym gone

keyed_follow : (name : List ℕ) (key : RecoveryKey) (lost : ClientState) (world : World) → recovery_key lost ≡ Some key → HasRisingNames lost → (o : Option ClientState) → client_at name world ≡ o → IsFollowing world
    → IsFollowing (on_client name (recovered key) world)
keyed_follow name key lost world given rise None none h = none_follow name (recovered key) world none h
keyed_follow name key lost world given rise (Some before) is h =
    following_all (λ owner. bytes_eq name owner ≡ true → false ≡ false) after (λ owner on. refl)
    (led_follows (λ owner. ⊤) name (recovered key) before (recovered key before) false (latest_of name world) world after (aimed_same name world after refl refl) is refl refl h.fronts
    (names_recovered lost key before given rise (h.clients name before is).names) (asking_recovered key before (h.clients name before is).pending)
    (λ owner other. tt)
    (λ q lane channel seen. record { link = lane.link; leads = recovered_turned key before q lane channel; seen = λ keeps. link_seen (setup_of q) lane (latest_of name world) (seen tt) })
    (following_if (λ owner. ⊤) world h))
  where
    after : World
    after = on_client name (recovered key) world

    link_seen : (setup : Setup) (lane : Lane) (found : Option Transport) → IsSeenOn setup lane found → IsLinkSeen setup lane.link found
    link_seen setup lane None seen = tt
    link_seen setup lane (Some t) seen = λ uncut. of_seen (seen uncut) where
      of_seen : IsSeen setup lane t → (one : Link) × (lane.link ≡ Some one) × Sees setup t one
      of_seen s = (s.link, s.has, s.sees)

with_follow : (name other : List ℕ) (lost : ClientState) (o : Option RecoveryKey) (world : World) → client_at other world ≡ Some lost → recovery_key lost ≡ o → IsFollowing world → IsFollowing (recovered_with name other o world)
with_follow name other lost None world there given h = h
with_follow name other lost (Some key) world there given h =
    keyed_follow name key lost (obeys other Die world) given (h.clients other lost there).names (client_at name (obeys other Die world)) refl (obeys_follow other Die world h)

if_follow : (b : Bool) (name other : List ℕ) (lost : ClientState) (world : World) → client_at other world ≡ Some lost → IsFollowing world → IsFollowing (recovered_if b name other lost world)
if_follow true name other lost world there h = with_follow name other lost (recovery_key lost) world there refl h
if_follow false name other lost world there h = h

from_follow : (name other : List ℕ) (one two : Option ClientState) (world : World) → client_at other world ≡ two → IsFollowing world → IsFollowing (recovered_from name other one two world)
from_follow name other (Some state) (Some lost) world there h = if_follow (may_recover state) name other lost world there h
from_follow name other (Some state) None world there h = h
from_follow name other None two world there h = h

pub recovers_follow : (name other : List ℕ) (world : World) → IsFollowing world → IsFollowing (recovers name other world)
recovers_follow name other world h = from_follow name other (client_at name world) (client_at other world) world refl h
