-- What is under way after frames were put, and after one was got.
use Rattle.std.proofs.Common.{◌≡◌, ℕ, zero, suc, ◌≤◌, Bool, true, false, cond, List, [], ◌∷◌, ◌++◌, length, drop, ap, refl, ◌∙◌, length-append, arith}
use Rattle.std.specs.Prelude.{Some, flat_map, slice_get}
use Rattle.std.specs.List.{filter}
use Rattle.rl_types.specs.declared.frames.Frame.{Frame}
use Rattle.rl_worldmodel.specs.World.{Way, Transport, under_way, with_put, with_one_got}
use Rattle.rl_worldlanes.specs.Following.{IsFront}
use Rattle.rl_worldlanes.specs.Views.{concerns, coming_on, asks_of, asks_in_hand, asks_on}

-- LISTS

by_test : {X : Type 0} (b : Bool) (x : X) (ys xs zs : List X) → xs ≡ ys ++ zs → cond b (x ∷ xs) xs ≡ cond b (x ∷ ys) ys ++ zs
by_test true x ys xs zs same = ap (λ ws. x ∷ ws) same
by_test false x ys xs zs same = same

pub filter_append : {X : Type 0} (test : X → Bool) (xs ys : List X) → filter test (xs ++ ys) ≡ filter test xs ++ filter test ys
filter_append test [] ys = refl
filter_append test (x ∷ xs) ys = by_test (test x) x (filter test xs) (filter test (xs ++ ys)) (filter test ys) (filter_append test xs ys)

pub drop_append : {X : Type 0} (k : ℕ) (xs ys : List X) → k ≤ length xs → drop k (xs ++ ys) ≡ drop k xs ++ ys
drop_append zero xs ys within = refl
drop_append (suc k) [] ys within = absurd (omega arith)
drop_append (suc k) (x ∷ xs) ys within = drop_append k xs ys (omega arith)

pub drop_next : {X : Type 0} (k : ℕ) (xs : List X) (x : X) (rest : List X) → drop k xs ≡ x ∷ rest → drop (suc k) xs ≡ rest
drop_next zero [] x rest is = absurd (cc)
drop_next zero (y ∷ ys) x rest is = cc
drop_next (suc k) [] x rest is = absurd (cc)
drop_next (suc k) (y ∷ ys) x rest is = drop_next k ys x rest is

-- what was got is within what was put
pub get_within : {X : Type 0} (k : ℕ) (xs : List X) (x : X) → slice_get xs k ≡ Some x → suc k ≤ length xs
get_within k [] x found = absurd (cc)
get_within zero (y ∷ ys) x found = omega arith
get_within (suc k) (y ∷ ys) x found = let more : suc k ≤ length ys = get_within k ys x found in omega (arith, more)

pub put_within : {X : Type 0} (k : ℕ) (xs ys : List X) → k ≤ length xs → k ≤ length (xs ++ ys)
put_within k xs ys within = omega (arith, within, length-append xs ys)

-- A WAY

pub way_put : (frames : List Frame) (way : Way) → IsFront way → under_way (with_put frames way) ≡ under_way way ++ frames
way_put frames way within = drop_append way.got way.put frames within

pub way_got : (way : Way) (frame : Frame) (rest : List Frame) → under_way way ≡ frame ∷ rest → under_way (with_one_got way) ≡ rest
way_got way frame rest is = drop_next way.got way.put frame rest is

-- A CHANNEL ON A TRANSPORT

-- what is put comes last
pub coming_put : (name : List ℕ) (frames : List Frame) (t : Transport) → IsFront t.to_client
    → coming_on name (record t { to_client = with_put frames t.to_client }) ≡ coming_on name t ++ filter (concerns name) frames
coming_put name frames t within =
    ap (filter (concerns name)) (way_put frames t.to_client within) ∙ filter_append (concerns name) (under_way t.to_client) frames

-- what the service gets was asked behind what the actor has in hand
pub asks_got : (name : List ℕ) (t : Transport) (frame : Frame) (rest : List Frame) → under_way t.to_service ≡ frame ∷ rest
    → (asks_on name t ≡ asks_in_hand name t.actor.wish ++ (asks_of name frame ++ flat_map (asks_of name) rest))
    × (asks_on name (record t { to_service = with_one_got t.to_service }) ≡ asks_in_hand name t.actor.wish ++ flat_map (asks_of name) rest)
asks_got name t frame rest is = (
  ap (λ frames. asks_in_hand name t.actor.wish ++ flat_map (asks_of name) frames) is,
  ap (λ frames. asks_in_hand name t.actor.wish ++ flat_map (asks_of name) frames) (way_got t.to_service frame rest is),
)
