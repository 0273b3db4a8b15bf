-- Where one client's lanes are led on, all clients go on following theirs.
use Rattle.std.proofs.Common.{◌≡◌, ℕ, Bool, true, false, List, [], map, refl, sym, ◌∙◌, ap, subst}
use Rattle.std.specs.Prelude.{⊤, Option, Some, None, option_map, bytes_eq, if◌then◌else◌}
use Rattle.std.specs.List.{AllByRecursion}
use Rattle.rl_connbook.proofs.Each.{all_weaker}
use Rattle.rl_names.specs.Names.{at}
use Rattle.rl_clientmodel.specs.States.{ClientState}
use Rattle.rl_lanes.specs.Lanes.{Setup, Link, Lane}
use Rattle.rl_worldmodel.specs.World.{World, Transport, latest, client_at, client_in, if_named}
use Rattle.rl_worldtold.proofs.Shape.{all_map, same_bytes, self_bytes, client_changed}
use Rattle.rl_worldlanes.specs.Following.{setup_of, past_named, latest_of, IsSeen, IsSeenOn, HasRisingNames, AsksNothing, AreFronts, AreFound}
use Rattle.rl_worldlanes.specs.Views.{Sees}
use Rattle.rl_worldlanes.specs.Serving.{moved_by}
use Rattle.rl_worldlanes.specs.Growing.{Grows}
use Rattle.rl_worldlanes.specs.Turning.{LeadsTo}
use Rattle.rl_worldlanes.proofs.Joining.{IsFollowerIf, IsFollowingIf, IsCarried, carried_followed}
use Rattle.rl_worldlanes.proofs.Histories.{past_same}
use Rattle.rl_worldlanes.proofs.Aiming.{grows_beside, IsAimed}

-- A LANE IS LED ON

-- where there is a transport that is not cut, this link is seen on it
abbrev pub IsLinkSeen : Setup → Option Link → Option Transport → Type 0
IsLinkSeen setup link None = ⊤
IsLinkSeen setup link (Some t) = t.cut ≡ false → (one : Link) × (link ≡ Some one) × Sees setup t one

lane_seen : (setup : Setup) (lane : Lane) (link : Option Link) (found : Option Transport) → lane.link ≡ link → IsLinkSeen setup link found → IsSeenOn setup lane found
lane_seen setup lane link None has seen = tt
lane_seen setup lane link (Some t) has seen = λ uncut. of_link (seen uncut) where
  of_link : (one : Link) × (link ≡ Some one) × Sees setup t one → IsSeen setup lane t
  of_link h = record { link = h.0; has = has ∙ h.1; sees = h.2 }

-- by the client's moves to its channel afterwards, and to a link that is seen on the transport, unless the client drops it
pub record IsLed (name : List ℕ) (state : ClientState) (drops : Bool) (found : Option Transport) (lane : Lane) : Type 0 where
  pub link : Option Link
  pub leads : LeadsTo (setup_of name) lane (at name state.channels) link
  pub seen : drops ≡ false → IsLinkSeen (setup_of name) link found

-- ALL CLIENTS

-- clients that are changed stand once as before
pub once_changed : (name : List ℕ) (f : ClientState → ClientState) (clients : List (List ℕ × ClientState)) → AreFound clients → AreFound (map (if_named name f) clients)
once_changed name f clients once =
    all_map (λ (c : List ℕ × ClientState). client_in c.0 (map (if_named name f) clients) ≡ Some c.1) (if_named name f) clients
    (all_weaker (λ (c : List ℕ × ClientState). client_in c.0 clients ≡ Some c.1) (λ (c : List ℕ × ClientState). client_in c.0 (map (if_named name f) clients) ≡ Some (if bytes_eq name c.0 then f c.1 else c.1))
    (λ c is. client_changed c.0 name f clients ∙ by_name c (bytes_eq name c.0) is) clients once)
  where
    by_name : (c : List ℕ × ClientState) (b : Bool) → client_in c.0 clients ≡ Some c.1 → (if b then option_map f (client_in c.0 clients) else client_in c.0 clients) ≡ Some (if b then f c.1 else c.1)
    by_name c true is = ap (option_map f) is
    by_name c false is = is

module _ (said : List ℕ → Type 0) (name : List ℕ) (f : ClientState → ClientState) (before state : ClientState) (drops : Bool) (found : Option Transport) (world after : World) (aimed : IsAimed name found world after) where
  abbrev Kept : List ℕ → Type 0
  Kept owner = bytes_eq name owner ≡ true → drops ≡ false

  grows : Grows world after
  grows = grows_beside world after aimed.channels aimed.makes

  -- the client itself
  led_own : client_at name world ≡ Some before → HasRisingNames state → AsksNothing state
      → ((q : List ℕ) (lane : Lane) → lane.channel ≡ at q before.channels → (said name → IsSeenOn (setup_of q) lane (latest_of name world)) → IsLed q state drops found lane)
      → IsFollowingIf said world → IsFollowerIf (Kept name) after name state
  led_own is names pending leads h = of_client (h.clients name before is) where
    carried : (q : List ℕ) (lane : Lane) → lane.past ≡ past_named q world → IsLed q state drops found lane → IsCarried (Kept name) world after name state q lane
    carried q lane past led = record {
      moves = led.leads.moves;
      past = led.leads.past ∙ past ∙ sym (past_same q world after aimed.channels);
      joins = led.leads.joins;
      channel = led.leads.channel;
      seen = λ on.
          subst (IsSeenOn (setup_of q) (moved_by (setup_of q) led.leads.moves lane)) (sym aimed.own)
          (lane_seen (setup_of q) (moved_by (setup_of q) led.leads.moves lane) led.link found led.leads.link (led.seen (on (self_bytes name))));
    }

    of_client : IsFollowerIf (said name) world name before → IsFollowerIf (Kept name) after name state
    of_client c = record {
      names = names;
      pending = pending;
      followed = λ q. carried_followed (Kept name) (said name) world after grows name before state q (λ lane past channel seen. carried q lane past (leads q lane channel seen)) (c.followed q);
    }

  -- another one
  led_other : (owner : List ℕ) (s : ClientState) → bytes_eq name owner ≡ false → said owner → IsFollowerIf (said owner) world owner s → IsFollowerIf (Kept owner) after owner s
  led_other owner s other on c = record {
    names = c.names;
    pending = c.pending;
    followed = λ q. carried_followed (Kept owner) (said owner) world after grows owner s s q
        (λ lane past channel seen. record {
          moves = [];
          past = past ∙ sym (past_same q world after aimed.channels);
          joins = refl;
          channel = channel;
          seen = λ kept. subst (IsSeenOn (setup_of q) lane) (sym (aimed.others owner other)) (seen on);
        })
        (c.followed q);
  }

  pub led_follows : client_at name world ≡ Some before → after.clients ≡ map (if_named name f) world.clients → f before ≡ state
      → AllByRecursion AreFronts after.transports → HasRisingNames state → AsksNothing state
      → ((owner : List ℕ) → bytes_eq name owner ≡ false → said owner)
      → ((q : List ℕ) (lane : Lane) → lane.channel ≡ at q before.channels → (said name → IsSeenOn (setup_of q) lane (latest_of name world)) → IsLed q state drops found lane)
      → IsFollowingIf said world → IsFollowingIf (λ owner. bytes_eq name owner ≡ true → drops ≡ false) after
  led_follows is same becomes fronts names pending others leads h = record {
    found = subst AreFound (sym same) (once_changed name f world.clients h.found);
    fronts = fronts;
    owners = λ owner none. owner_by owner (bytes_eq name owner) refl none;
    clients = λ owner s at_owner. client_by owner s (bytes_eq name owner) refl at_owner;
  }
    where
      changed : (owner : List ℕ) (b : Bool) → bytes_eq name owner ≡ b → client_at owner after ≡ (if b then option_map f (client_at owner world) else client_at owner world)
      changed owner b by = ap (client_in owner) same ∙ client_changed owner name f world.clients ∙ ap (λ (b : Bool). if b then option_map f (client_at owner world) else client_at owner world) by

      mine : (owner : List ℕ) → bytes_eq name owner ≡ true → client_at owner after ≡ Some state
      mine owner by =
          changed owner true by
          ∙ ap (λ (n : List ℕ). option_map f (client_at n world)) (sym (same_bytes name owner by))
          ∙ ap (option_map f) is
          ∙ ap (λ (s : ClientState). Some s) becomes

      owner_by : (owner : List ℕ) (b : Bool) → bytes_eq name owner ≡ b → client_at owner after ≡ None → latest owner after ≡ None
      owner_by owner true by none = let wrong : Some state ≡ None = sym (mine owner by) ∙ none in absurd (cc)
      owner_by owner false by none = aimed.last owner by ∙ h.owners owner (sym (changed owner false by) ∙ none)

      client_by : (owner : List ℕ) (s : ClientState) (b : Bool) → bytes_eq name owner ≡ b → client_at owner after ≡ Some s → IsFollowerIf (bytes_eq name owner ≡ true → drops ≡ false) after owner s
      client_by owner s true by at_owner =
          let two : Some state ≡ Some s = sym (mine owner by) ∙ at_owner in
          let it : state ≡ s = cc in
          subst (λ (s : ClientState). IsFollowerIf (Kept owner) after owner s) it
          (subst (λ (n : List ℕ). IsFollowerIf (Kept n) after n state) (same_bytes name owner by) (led_own is names pending leads h))
      client_by owner s false by at_owner = led_other owner s by (others owner by) (h.clients owner s (sym (changed owner false by) ∙ at_owner))
