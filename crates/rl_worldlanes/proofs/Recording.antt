-- A channel that follows a lane has a sound record, and so has every channel of every client.
use Rattle.std.proofs.Common.{◌≡◌, ℕ, Bool, false, cond, List, [], ◌∷◌, sym, refl, ◌∙◌, ap, subst, is_eq}
use Rattle.std.specs.Prelude.{Option, Some, bytes_eq}
use Rattle.std.specs.List.{AllByRecursion}
use Rattle.std.specs.Ordering.{nat_cmp}
use Rattle.std.specs.declared.cmp.Ordering.TheVariants.{Less}
use Rattle.std.specs.Cmp.Lexicographic.{slice_cmp}
use Rattle.std.proofs.lemmas.Map.Text.{is_eq-slice_cmp}
use Rattle.rl_events.specs.declared.channel.ChannelEvent.{ChannelEvent}
use Rattle.rl_objmodel.specs.Places.{AreRising}
use Rattle.rl_connbook.proofs.Each.{all_weaker}
use Rattle.rl_clientmodel.specs.Channels.{ClientChannel}
use Rattle.rl_clientmodel.specs.Commands.{channel_or_new}
use Rattle.rl_clientmodel.specs.States.{ClientState}
use Rattle.rl_names.specs.Names.{at}
use Rattle.rl_lanes.specs.Lanes.{Lane}
use Rattle.rl_lanes.specs.Moves.{lane_of}
use Rattle.rl_lanes.specs.Sound.{AreSoundRuns}
use Rattle.rl_lanes.proofs.Following as lanes
use Rattle.rl_worldmodel.specs.World.{World, the_site, client_in}
use Rattle.rl_claims.specs.Once.{OnceById}
use Rattle.rl_claims.proofs.Once.{once_by_id}
use Rattle.rl_clientlaws.proofs.Leaving as leaving
use Rattle.rl_worldtold.specs.Inputs.{inputs_of}
use Rattle.rl_worldtold.proofs.Inputs.{clients_are_of_their_inputs}
use Rattle.rl_worldtold.proofs.Runs.{runs_so}
use Rattle.rl_worldtold.proofs.Shape.{all_both, self_bytes, other_by}
use Rattle.rl_worldlanes.specs.Following.{setup_of, past_named, IsFollowed, IsFollower, IsFollowing}
use Rattle.rl_worldlanes.specs.Records.{HasSoundRecord, HasSoundRecords}
use Rattle.rl_worldlanes.specs.Laws.{RecordsAreSound, OpensAgainOnlyAfterLeaving, HasIdsOnce, IdsStandOnce}
use Rattle.rl_worldlanes.proofs.Walking.{clients_follow_lanes}

-- ONE CHANNEL

followed_sound : (world : World) (owner : List ℕ) (state : ClientState) (name : List ℕ) (channel : ClientChannel) → at name state.channels ≡ Some channel → IsFollowed world owner state name
    → HasSoundRecord world owner state name channel
followed_sound world owner state name channel is h =
    let lane : Lane = lane_of (setup_of name) h.moves in
    let one : AreSoundRuns (setup_of name) (past_named name world) lane.joins lane.begun (channel_or_new lane.channel).runs =
    subst (λ (past : List ChannelEvent). AreSoundRuns (setup_of name) past lane.joins lane.begun (channel_or_new lane.channel).runs) h.is_lane.past (lanes.records_are_sound (setup_of name) h.moves) in
    record {
      moves = h.moves;
      is_lane = h.is_lane;
      sound = subst (λ (o : Option ClientChannel). AreSoundRuns (setup_of name) (past_named name world) lane.joins lane.begun (channel_or_new o).runs) (h.is_lane.channel ∙ is) one;
    }

-- ALL CHANNELS

module _ {V : Type 0} where
  behind : (e o : List ℕ × V) (es : List (List ℕ × V)) → (slice_cmp nat_cmp e.0 o.0 ≡ Less) × (at o.0 es ≡ Some o.1) → at o.0 (e ∷ es) ≡ Some o.1
  behind e o es h =
      let other : bytes_eq e.0 o.0 ≡ false = sym (is_eq-slice_cmp e.0 o.0) ∙ ap is_eq h.0 in
      let apart : is_eq (slice_cmp nat_cmp o.0 e.0) ≡ false = is_eq-slice_cmp o.0 e.0 ∙ other_by e.0 o.0 other (bytes_eq o.0 e.0) refl in
      ap (λ (b : Bool). cond b (Some e.1) (at o.0 es)) apart ∙ h.1

  -- where names rise each entry is found under its own
  found_each : (es : List (List ℕ × V)) → AreRising es → AllByRecursion (λ (e : List ℕ × V). at e.0 es ≡ Some e.1) es
  found_each [] rise = tt
  found_each (e ∷ es) rise = (
    ap (λ (b : Bool). cond b (Some e.1) (at e.0 es)) (is_eq-slice_cmp e.0 e.0 ∙ self_bytes e.0),
    all_weaker (λ (o : List ℕ × V). (slice_cmp nat_cmp e.0 o.0 ≡ Less) × (at o.0 es ≡ Some o.1)) (λ (o : List ℕ × V). at o.0 (e ∷ es) ≡ Some o.1) (λ o h. behind e o es h) es
        (all_both (λ (o : List ℕ × V). slice_cmp nat_cmp e.0 o.0 ≡ Less) (λ (o : List ℕ × V). at o.0 es ≡ Some o.1) es rise.0 (found_each es rise.1)),
  )

follower_sound : (world : World) (owner : List ℕ) (state : ClientState) → IsFollower world owner state → AllByRecursion (λ (e : List ℕ × ClientChannel). HasSoundRecord world owner state e.0 e.1) state.channels
follower_sound world owner state h =
    all_weaker (λ (e : List ℕ × ClientChannel). at e.0 state.channels ≡ Some e.1) (λ (e : List ℕ × ClientChannel). HasSoundRecord world owner state e.0 e.1)
    (λ e is. followed_sound world owner state e.0 e.1 is (h.followed e.0)) state.channels (found_each state.channels h.names)

following_sound : (world : World) → IsFollowing world → HasSoundRecords world
following_sound world h =
    all_weaker (λ (c : List ℕ × ClientState). client_in c.0 world.clients ≡ Some c.1) (λ (c : List ℕ × ClientState). AllByRecursion (λ (e : List ℕ × ClientChannel). HasSoundRecord world c.0 c.1 e.0 e.1) c.1.channels)
    (λ c is. follower_sound world c.0 c.1 (h.clients c.0 c.1 is)) world.clients h.found

pub records_are_sound : RecordsAreSound
records_are_sound = runs_so IsFollowing HasSoundRecords following_sound clients_follow_lanes

-- THE MARK THAT A CHANNEL WAS LEFT

pub opens_again_only_after_leaving : OpensAgainOnlyAfterLeaving
opens_again_only_after_leaving actions owner state found name channel is =
    leaving.opens_again_only_after_leaving owner (inputs_of owner actions) name channel
    (ap (λ (s : ClientState). at name s.channels) (sym (clients_are_of_their_inputs actions owner state found)) ∙ is)

-- IDS

ids_once : (channels : List (List ℕ × List ChannelEvent)) → AllByRecursion (λ (c : List ℕ × List ChannelEvent). OnceById the_site c.1) channels
ids_once [] = tt
ids_once (c ∷ channels) = (once_by_id the_site c.1, ids_once channels)

pub ids_stand_once : IdsStandOnce
ids_stand_once = runs_so IsFollowing HasIdsOnce (λ world h. ids_once world.channels) clients_follow_lanes
