-- What stays as a world grows.
use Rattle.std.proofs.Common.{◌≡◌, inl, inr, ℕ, zero, suc, List, [], ◌∷◌, ◌++◌, refl, sym, ◌∙◌, ap, subst}
use Rattle.std.specs.Prelude.{Some, slice_get}
use Rattle.std.specs.List.{AllByRecursion}
use Rattle.rl_events.specs.declared.calls.Call.{Call}
use Rattle.rl_events.specs.declared.calls.Call.TheVariants as calls
use Rattle.rl_events.specs.declared.channel.ChannelEvent.{ChannelEvent}
use Rattle.rl_events.specs.declared.channel.ChannelEvent.TheVariants.{Join}
use Rattle.rl_connbook.specs.Laws.{SomeOf}
use Rattle.rl_connbook.proofs.Each.{all_weaker}
use Rattle.rl_lanes.specs.Lanes.{Setup, Lane}
use Rattle.rl_lanes.specs.Moves.{Move, Happens, lane_of, lane_after}
use Rattle.rl_worldmodel.specs.World.{World, Transport, CallMade}
use Rattle.rl_worldlanes.specs.Following.{IsJoinOf, IsOwnJoin, IsMadeBy}
use Rattle.rl_worldlanes.specs.Serving.{moved_by}
use Rattle.rl_worldlanes.specs.Growing.{MakesMore, MakeMore, Grows}

-- MOVES

pub moved_of : (setup : Setup) (more moves : List Move) → moved_by setup more (lane_of setup moves) ≡ lane_of setup (more ++ moves)
moved_of setup [] moves = refl
moved_of setup (move ∷ more) moves = ap (lane_after setup move) (moved_of setup more moves)

-- EVENTS OF OTHERS

pub happening : List ChannelEvent → List Move
happening [] = []
happening (event ∷ more) = Happens event ∷ happening more

-- a lane after these happened
pub record HasHappened (setup : Setup) (more : List ChannelEvent) (lane : Lane) : Type 0 where
  pub past : (moved_by setup (happening more) lane).past ≡ more ++ lane.past
  pub channel : (moved_by setup (happening more) lane).channel ≡ lane.channel
  pub joins : (moved_by setup (happening more) lane).joins ≡ lane.joins
  pub link : (moved_by setup (happening more) lane).link ≡ lane.link

pub has_happened : (setup : Setup) (more : List ChannelEvent) (lane : Lane) → HasHappened setup more lane
unfolding happening
has_happened setup [] lane = record { past = refl; channel = refl; joins = refl; link = refl }
has_happened setup (event ∷ more) lane = one_more (has_happened setup more lane) where
  one_more : HasHappened setup more lane → HasHappened setup (event ∷ more) lane
  one_more h = record { past = ap (λ (xs : List ChannelEvent). event ∷ xs) h.past; channel = h.channel; joins = h.joins; link = h.link }

-- JOINS

module _ {X : Type 0} where
  some_weaker : (P Q : X → Type 0) → ((x : X) → P x → Q x) → (xs : List X) → SomeOf P xs → SomeOf Q xs
  some_weaker P Q so [] some = absurd some
  some_weaker P Q so (x ∷ xs) (inl p) = inl (so x p)
  some_weaker P Q so (x ∷ xs) (inr some) = inr (some_weaker P Q so xs some)

  some_behind : (P : X → Type 0) (xs ys : List X) → SomeOf P ys → SomeOf P (xs ++ ys)
  some_behind P [] ys some = some
  some_behind P (x ∷ xs) ys some = inr (some_behind P xs ys some)

  pub some_at : (P : X → Type 0) (k : ℕ) (x : X) (xs : List X) → slice_get xs k ≡ Some x → P x → SomeOf P xs
  some_at P k x [] found p = absurd (cc)
  some_at P zero x (y ∷ ys) found p = let same : x ≡ y = cc in inl (subst P same p)
  some_at P (suc k) x (y ∷ ys) found p = inr (some_at P k x ys found p)

join_stays : (world after : World) → Grows world after → (name : List ℕ) (call : Call) → IsJoinOf world name call → IsJoinOf after name call
join_stays world after grows name (calls.Chan number (Join given)) is = grows.has name number is
join_stays world after grows name call is = absurd is

made_stays : (world after : World) → Grows world after → (name : List ℕ) (before : ℕ) (t u : Transport) → MakesMore t u → IsMadeBy world t name before → IsMadeBy after u name before
made_stays world after grows name before t u more some =
    let Old = λ (made : CallMade). IsJoinOf world name made.call × (made.before ≡ before) in
    let New = λ (made : CallMade). IsJoinOf after name made.call × (made.before ≡ before) in
    subst (SomeOf New) (sym more.made)
    (some_behind New more.more t.made (some_weaker Old New (λ made h. (join_stays world after grows name made.call h.0, h.1)) t.made some))

own_in : (world after : World) → Grows world after → (owner name : List ℕ) (before : ℕ) (ts us : List Transport) → MakeMore ts us
    → SomeOf (λ (t : Transport). (t.owner ≡ owner) × IsMadeBy world t name before) ts → SomeOf (λ (t : Transport). (t.owner ≡ owner) × IsMadeBy after t name before) us
own_in world after grows owner name before [] us more some = absurd some
own_in world after grows owner name before (t ∷ ts) [] more some = absurd more
own_in world after grows owner name before (t ∷ ts) (u ∷ us) more (inl p) =
    inl (more.0.owner ∙ p.0, made_stays world after grows name before t u more.0 p.1)
own_in world after grows owner name before (t ∷ ts) (u ∷ us) more (inr some) = inr (own_in world after grows owner name before ts us more.1 some)

-- a Join that was a client's stays its own
pub own_stays : (world after : World) → Grows world after → (owner name : List ℕ) (before : ℕ) → IsOwnJoin world owner name before → IsOwnJoin after owner name before
own_stays world after grows owner name before = own_in world after grows owner name before world.transports after.transports grows.made

pub all_own_stay : (world after : World) → Grows world after → (owner name : List ℕ) (joins : List ℕ) → AllByRecursion (IsOwnJoin world owner name) joins → AllByRecursion (IsOwnJoin after owner name) joins
all_own_stay world after grows owner name joins all = all_weaker (IsOwnJoin world owner name) (IsOwnJoin after owner name) (own_stays world after grows owner name) joins all

-- one that a transport of the client made is its own
pub own_made : (world : World) (k : ℕ) (t : Transport) (owner name : List ℕ) (before : ℕ) → slice_get world.transports k ≡ Some t → t.owner ≡ owner → IsMadeBy world t name before → IsOwnJoin world owner name before
own_made world k t owner name before found is made = some_at (λ (t : Transport). (t.owner ≡ owner) × IsMadeBy world t name before) k t world.transports found (is, made)

pub all_own_made : (world : World) (k : ℕ) (t : Transport) (owner name : List ℕ) (joins : List ℕ) → slice_get world.transports k ≡ Some t → t.owner ≡ owner → AllByRecursion (IsMadeBy world t name) joins → AllByRecursion (IsOwnJoin world owner name) joins
all_own_made world k t owner name joins found is all = all_weaker (IsMadeBy world t name) (IsOwnJoin world owner name) (λ before made. own_made world k t owner name before found is made) joins all
