-- A client that goes on with another one's key: each lane is moved to the channel that the key makes.
use Rattle.std.proofs.Common.{◌≡◌, ℕ, Bool, true, false, ◌&&◌, cond, List, [], ◌∷◌, refl, sym, ◌∙◌, ap}
use Rattle.std.specs.Prelude.{Option, Some, None, option_map, if◌then◌else◌}
use Rattle.std.specs.Ordering.{nat_cmp}
use Rattle.std.specs.Cmp.Lexicographic.{slice_cmp}
use Rattle.std.specs.BTreeMap.{is_at}
use Rattle.rl_ids.specs.declared.serials.ChannelSerial.{ChannelSerial}
use Rattle.rl_runs.specs.declared.commands.RecoveryKey.{RecoveryKey}
use Rattle.rl_connsm.specs.Rules as rules
use Rattle.rl_names.specs.Names.{at}
use Rattle.rl_clientmodel.specs.Channels.{ClientChannel, channel_from}
use Rattle.rl_clientmodel.specs.States.{ClientState}
use Rattle.rl_clientmodel.specs.Keys.{is_empty, may_recover, recovered, with_key}
use Rattle.rl_lanes.specs.Lanes.{Lane}
use Rattle.rl_lanes.specs.Moves.{Recovers, lane_after, recovers}
use Rattle.rl_worldlanes.specs.Following.{setup_of}
use Rattle.rl_worldlanes.specs.Turning.{LeadsTo}
use Rattle.rl_worldlanes.proofs.Lanes.{stays, one_move, leads_as}
use Rattle.rl_worldlanes.proofs.Rising.{channels_in}

-- THE CHANNELS OF A KEY

same_by : (b : Bool) (serial : ChannelSerial) (o : Option ClientChannel) (r : Option ChannelSerial) → o ≡ option_map channel_from r → cond b (Some (channel_from serial)) o ≡ option_map channel_from (cond b (Some serial) r)
same_by true serial o r is = refl
same_by false serial o r is = is

-- of each name that has a serial the channel from it
pub at_key : (name : List ℕ) (serials : List (List ℕ × ChannelSerial)) → at name (channels_in serials) ≡ option_map channel_from (at name serials)
at_key name [] = refl
at_key name (e ∷ es) = same_by (is_at (slice_cmp nat_cmp name) e.0) e.1 (at name (channels_in es)) (at name es) (at_key name es)

-- WHERE A CLIENT MAY GO ON

and_left : (a b : Bool) → a && b ≡ true → a ≡ true
and_left true b is = refl
and_left false b is = absurd (cc)

and_right : (a b : Bool) → a && b ≡ true → b ≡ true
and_right true b is = is
and_right false b is = absurd (cc)

none_of : (name : List ℕ) (es : List (List ℕ × ClientChannel)) → is_empty es ≡ true → at name es ≡ None
none_of name [] is = refl
none_of name (e ∷ es) is = absurd (cc)

-- it knows no channel
pub knows_none : (name : List ℕ) (state : ClientState) → may_recover state ≡ true → at name state.channels ≡ None
knows_none name state may =
    none_of name state.channels (and_right (rules.may_recover state.conn) (is_empty state.channels) (and_left _ _ (and_left _ _ may)))

-- THE LANE

-- from the empty channel
from_none : (name : List ℕ) (o : Option ChannelSerial) (lane : Lane) → lane.channel ≡ None → LeadsTo (setup_of name) lane (option_map channel_from o) lane.link
from_none name None lane is = stays (setup_of name) lane _ _ is refl
from_none name (Some serial) lane is =
    let same : lane_after (setup_of name) (Recovers serial) lane ≡ record lane { channel = Some (channel_from serial) } = ap (λ (o : Option ClientChannel). recovers serial o lane) is in
    one_move (setup_of name) lane (Recovers serial) _ _
    (ap (λ (l : Lane). l.past) same) (ap (λ (l : Lane). l.joins) same) (ap (λ (l : Lane). l.channel) same) (ap (λ (l : Lane). l.link) same)

recovered_by : (b : Bool) (key : RecoveryKey) (state : ClientState) → may_recover state ≡ b → (name : List ℕ) (lane : Lane) → lane.channel ≡ at name state.channels
    → LeadsTo (setup_of name) lane (at name (if b then with_key key state else state).channels) lane.link
recovered_by true key state may name lane is =
    leads_as (setup_of name) lane _ _ _ _ (sym (at_key name key.serials)) refl (from_none name (at name key.serials) lane (is ∙ knows_none name state may))
recovered_by false key state may name lane is = stays (setup_of name) lane _ _ is refl

-- whether the client may go on with the key or not
pub recovered_turned : (key : RecoveryKey) (state : ClientState) (name : List ℕ) (lane : Lane) → lane.channel ≡ at name state.channels
    → LeadsTo (setup_of name) lane (at name (recovered key state).channels) lane.link
recovered_turned key state name lane is = recovered_by (may_recover state) key state refl name lane is
