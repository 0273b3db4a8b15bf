-- Moves of one lane, one after another, and entries by name.
use Rattle.std.proofs.Common.{◌≡◌, ℕ, Bool, true, false, cond, List, [], ◌∷◌, ◌++◌, refl, sym, ◌∙◌, ap, append_assoc}
use Rattle.std.specs.Prelude.{Option, Some, None, option_map, bytes_eq, flat_map}
use Rattle.std.specs.Ordering.{nat_cmp}
use Rattle.std.specs.Cmp.Lexicographic.{slice_cmp, bytes_decides}
use Rattle.std.specs.BTreeMap.{is_at}
use Rattle.rl_clientmodel.specs.declared.steps.ChannelStep.{ChannelStep}
use Rattle.rl_clientmodel.specs.Channels.{ClientChannel, channel_after, channel_asks}
use Rattle.rl_names.specs.Names.{at, each}
use Rattle.rl_lanes.specs.Lanes.{Setup, Ask, Link, Lane}
use Rattle.rl_lanes.specs.Moves.{Move, lane_after, with_asks, asks_in, steps_known}
use Rattle.rl_worldlanes.specs.Serving.{moved_by}
use Rattle.rl_worldlanes.specs.Turning.{LeadsTo}

pub append_none : {X : Type 0} → (xs : List X) → xs ++ [] ≡ xs
append_none [] = refl
append_none (x ∷ xs) = ap (λ ys. x ∷ ys) (append_none xs)

pub flat_append : {X Y : Type 0} → (f : X → List Y) (xs ys : List X) → flat_map f (xs ++ ys) ≡ flat_map f xs ++ flat_map f ys
flat_append f [] ys = refl
flat_append f (x ∷ xs) ys = ap (λ zs. f x ++ zs) (flat_append f xs ys) ∙ sym (append_assoc (f x) (flat_map f xs) (flat_map f ys))

-- ENTRIES BY NAME

pub same_name : (a b : List ℕ) → bytes_eq a b ≡ true → a ≡ b
same_name a b is = (bytes_decides a b).0 is

pub self_name : (a : List ℕ) → bytes_eq a a ≡ true
self_name a = (bytes_decides a a).1 refl

module _ {V : Type 0} where
  each_by : (f : V → V) (b : Bool) (x : V) (o r : Option V) → r ≡ option_map f o → cond b (Some (f x)) r ≡ option_map f (cond b (Some x) o)
  each_by f true x o r is = refl
  each_by f false x o r is = is

  pub at_each : (name : List ℕ) (f : V → V) (es : List (List ℕ × V)) → at name (each f es) ≡ option_map f (at name es)
  at_each name f [] = refl
  at_each name f (e ∷ es) = each_by f (is_at (slice_cmp nat_cmp name) e.0) e.1 (at name es) (at name (each f es)) (at_each name f es)

-- MOVES

pub moved_append : (setup : Setup) (xs ys : List Move) (lane : Lane) → moved_by setup (xs ++ ys) lane ≡ moved_by setup xs (moved_by setup ys lane)
moved_append setup [] ys lane = refl
moved_append setup (x ∷ xs) ys lane = ap (lane_after setup x) (moved_append setup xs ys lane)

pub stays : (setup : Setup) (lane : Lane) (c : Option ClientChannel) (l : Option Link) → lane.channel ≡ c → lane.link ≡ l → LeadsTo setup lane c l
stays setup lane c l channel link = record { moves = []; past = refl; joins = refl; channel = channel; link = link }

pub one_move : (setup : Setup) (lane : Lane) (move : Move) (c : Option ClientChannel) (l : Option Link)
    → (lane_after setup move lane).past ≡ lane.past → (lane_after setup move lane).joins ≡ lane.joins
    → (lane_after setup move lane).channel ≡ c → (lane_after setup move lane).link ≡ l → LeadsTo setup lane c l
one_move setup lane move c l past joins channel link =
    record { moves = move ∷ []; past = past; joins = joins; channel = channel; link = link }

pub goes_on : (setup : Setup) (lane : Lane) (c d : Option ClientChannel) (l m : Option Link)
    → LeadsTo setup lane c l → ((next : Lane) → next.channel ≡ c → next.link ≡ l → LeadsTo setup next d m) → LeadsTo setup lane d m
goes_on setup lane c d l m first second = joined (second (moved_by setup first.moves lane) first.channel first.link) where
  joined : LeadsTo setup (moved_by setup first.moves lane) d m → LeadsTo setup lane d m
  joined next =
      let all : moved_by setup (next.moves ++ first.moves) lane ≡ moved_by setup next.moves (moved_by setup first.moves lane) = moved_append setup next.moves first.moves lane in
      record {
        moves = next.moves ++ first.moves;
        past = ap (λ (x : Lane). x.past) all ∙ next.past ∙ first.past;
        joins = ap (λ (x : Lane). x.joins) all ∙ next.joins ∙ first.joins;
        channel = ap (λ (x : Lane). x.channel) all ∙ next.channel;
        link = ap (λ (x : Lane). x.link) all ∙ next.link;
      }

-- to the same by other words
pub leads_as : (setup : Setup) (lane : Lane) (c d : Option ClientChannel) (l m : Option Link) → c ≡ d → l ≡ m → LeadsTo setup lane c l → LeadsTo setup lane d m
leads_as setup lane c d l m channel link h = record { moves = h.moves; past = h.past; joins = h.joins; channel = h.channel ∙ channel; link = h.link ∙ link }

-- STEPS OF A CHANNEL

-- what a step of a channel asks, where it is known
abbrev pub known_asks : ChannelStep → List ℕ → Option ClientChannel → List Ask
known_asks step name None = []
known_asks step name (Some channel) = asks_in (channel_asks step name channel)

pub no_asks : (link : Option Link) → option_map (with_asks []) link ≡ link
no_asks None = refl
no_asks (Some link) = ap (λ (asks : List Ask). Some (record link { asks = asks })) (append_none link.asks)

pub more_asks : (xs ys : List Ask) (link : Option Link) → option_map (with_asks ys) (option_map (with_asks xs) link) ≡ option_map (with_asks (xs ++ ys)) link
more_asks xs ys None = refl
more_asks xs ys (Some link) = ap (λ (asks : List Ask). Some (record link { asks = asks })) (append_assoc link.asks xs ys)

-- a step of the channel that the lane has or not
pub record Steps (setup : Setup) (step : ChannelStep) (lane next : Lane) : Type 0 where
  pub past : next.past ≡ lane.past
  pub joins : next.joins ≡ lane.joins
  pub channel : next.channel ≡ option_map (channel_after step) lane.channel
  pub link : next.link ≡ option_map (with_asks (known_asks step setup.name lane.channel)) lane.link

steps_by : (setup : Setup) (step : ChannelStep) (o : Option ClientChannel) (lane : Lane) → lane.channel ≡ o → Steps setup step lane (steps_known setup step o lane)
steps_by setup step None lane is = record {
  past = refl;
  joins = refl;
  channel = is ∙ sym (ap (option_map (channel_after step)) is);
  link = sym (ap (λ (o : Option ClientChannel). option_map (with_asks (known_asks step setup.name o)) lane.link) is ∙ no_asks lane.link);
}
steps_by setup step (Some channel) lane is = record {
  past = refl;
  joins = refl;
  channel = sym (ap (option_map (channel_after step)) is);
  link = sym (ap (λ (o : Option ClientChannel). option_map (with_asks (known_asks step setup.name o)) lane.link) is);
}

pub steps_of : (setup : Setup) (step : ChannelStep) (lane : Lane) → Steps setup step lane (steps_known setup step lane.channel lane)
steps_of setup step lane = steps_by setup step lane.channel lane refl
