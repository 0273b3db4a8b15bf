-- What is changed at one client's latest transport leaves all others as they are.
use Rattle.std.proofs.Common.{◌≡◌, ℕ, zero, suc, true, false, List, [], ◌∷◌, ◌++◌, length, ◌+◌, refl, sym, ◌∙◌, ap, subst, true≢false, append_assoc, arith}
use Rattle.std.specs.Prelude.{Option, Some, None, option_map, slice_get, bytes_eq}
use Rattle.std.specs.List.{AllByRecursion}
use Rattle.rl_directory.specs.Directory.{number_of}
use Rattle.rl_worldmodel.specs.World.{World, Transport, CallMade, changed_at, on_transport, latest, last_of, owned}
use Rattle.rl_worldtold.specs.Truth.{Channels, names_of}
use Rattle.rl_worldtold.proofs.Shape.{same_bytes, self_bytes, other_by, get_append, latest_changed, latest_opened, latest_there}
use Rattle.rl_worldtold.proofs.Telling.{owned_new, last_append, get_last}
use Rattle.rl_worldlanes.specs.Following.{transport_at, latest_of}
use Rattle.rl_worldlanes.specs.Growing.{MakesMore, MakeMore, Grows}
use Rattle.rl_worldlanes.proofs.Histories.{past_same}
use Rattle.rl_worldlanes.proofs.Latest.{latest_owner}

-- GROWTH

pub makes_same : (t : Transport) → MakesMore t t
makes_same t = record { owner = refl; more = []; made = refl }

pub make_same : (ts : List Transport) → MakeMore ts ts
make_same [] = tt
make_same (t ∷ ts) = (makes_same t, make_same ts)

pub make_changed : (k : ℕ) (f : Transport → Transport) → ((t : Transport) → MakesMore t (f t)) → (ts : List Transport) → MakeMore ts (changed_at k f ts)
make_changed k f makes [] = tt
make_changed zero f makes (t ∷ ts) = (makes t, make_same ts)
make_changed (suc k) f makes (t ∷ ts) = (makes_same t, make_changed k f makes ts)

pub make_append : (ts more : List Transport) → MakeMore ts (ts ++ more)
make_append [] more = tt
make_append (t ∷ ts) more = (makes_same t, make_append ts more)

makes_then : (t u v : Transport) → MakesMore t u → MakesMore u v → MakesMore t v
makes_then t u v one two = record {
  owner = two.owner ∙ one.owner;
  more = two.more ++ one.more;
  made = two.made ∙ ap (λ (made : List CallMade). two.more ++ made) one.made ∙ sym (append_assoc two.more one.more t.made);
}

pub make_then : (ts us vs : List Transport) → MakeMore ts us → MakeMore us vs → MakeMore ts vs
make_then [] us vs one two = tt
make_then (t ∷ ts) [] vs one two = absurd one
make_then (t ∷ ts) (u ∷ us) [] one two = absurd two
make_then (t ∷ ts) (u ∷ us) (v ∷ vs) one two = (makes_then t u v one.0 two.0, make_then ts us vs one.1 two.1)

-- where the channels stay
pub grows_beside : (world after : World) → after.channels ≡ world.channels → MakeMore world.transports after.transports → Grows world after
grows_beside world after same make = record {
  has = λ name number is. ap (λ (channels : Channels). number_of name (names_of channels)) same ∙ is;
  past = λ name. record { more = []; is = past_same name world after same };
  made = make;
}

-- ONE TRANSPORT

module _ {X : Type 0} where
  -- the others stay
  pub get_other : (j k : ℕ) (f : X → X) (xs : List X) → (j ≡ k → ⊥) → slice_get (changed_at k f xs) j ≡ slice_get xs j
  get_other j k f [] other = refl
  get_other zero zero f (x ∷ xs) other = absurd (other refl)
  get_other (suc j) zero f (x ∷ xs) other = refl
  get_other zero (suc k) f (x ∷ xs) other = refl
  get_other (suc j) (suc k) f (x ∷ xs) other = get_other j k f xs (λ same. other (ap suc same))

  pub get_mapped : (k : ℕ) (f : X → X) (xs : List X) → slice_get (changed_at k f xs) k ≡ option_map f (slice_get xs k)
  get_mapped k f [] = refl
  get_mapped zero f (x ∷ xs) = refl
  get_mapped (suc k) f (x ∷ xs) = get_mapped k f xs

  pub all_get : (P : X → Type 0) (xs : List X) (k : ℕ) (x : X) → AllByRecursion P xs → slice_get xs k ≡ Some x → P x
  all_get P [] k x all found = absurd (cc)
  all_get P (y ∷ ys) zero x all found = let same : y ≡ x = cc in subst P same all.0
  all_get P (y ∷ ys) (suc k) x all found = all_get P ys k x all.1 found

-- AT ONE CLIENT

-- nothing but this client's latest transport is another one
pub record IsAimed (name : List ℕ) (found : Option Transport) (world after : World) : Type 0 where
  pub channels : after.channels ≡ world.channels
  pub last : (owner : List ℕ) → bytes_eq name owner ≡ false → latest owner after ≡ latest owner world
  pub others : (owner : List ℕ) → bytes_eq name owner ≡ false → latest_of owner after ≡ latest_of owner world
  pub own : latest_of name after ≡ found
  pub makes : MakeMore world.transports after.transports

-- nothing of what is looked at is changed
pub aimed_same : (name : List ℕ) (world after : World) → after.channels ≡ world.channels → after.transports ≡ world.transports → IsAimed name (latest_of name world) world after
aimed_same name world after channels same = record {
  channels = channels;
  last = λ owner other. latest_same owner;
  others = λ owner other. of_same owner;
  own = of_same name;
  makes = subst (MakeMore world.transports) (sym same) (make_same world.transports);
}
  where
    latest_same : (owner : List ℕ) → latest owner after ≡ latest owner world
    latest_same owner = ap (λ (ts : List Transport). last_of (owned owner 0 ts)) same

    by_number : (o : Option ℕ) → transport_at o after ≡ transport_at o world
    by_number None = refl
    by_number (Some k) = ap (λ (ts : List Transport). slice_get ts k) same

    of_same : (owner : List ℕ) → latest_of owner after ≡ latest_of owner world
    of_same owner = ap (λ (o : Option ℕ). transport_at o after) (latest_same owner) ∙ by_number (latest owner world)

-- its latest transport is changed
pub aimed_changed : (name : List ℕ) (k : ℕ) (f : Transport → Transport) (world : World) → ((t : Transport) → MakesMore t (f t)) → latest name world ≡ Some k
    → IsAimed name (option_map f (slice_get world.transports k)) world (on_transport k f world)
aimed_changed name k f world makes last = record {
  channels = refl;
  last = λ owner other. latest_changed owner k f (λ t. (makes t).owner) world;
  others = λ owner other. ap (λ (o : Option ℕ). transport_at o (on_transport k f world)) (latest_changed owner k f (λ t. (makes t).owner) world) ∙ by_other owner other (latest owner world) refl;
  own = ap (λ (o : Option ℕ). transport_at o (on_transport k f world)) (latest_changed name k f (λ t. (makes t).owner) world ∙ last) ∙ get_mapped k f world.transports;
  makes = make_changed k f makes world.transports;
}
  where
    wrong : (owner : List ℕ) → bytes_eq name owner ≡ false → (j : ℕ) → latest owner world ≡ Some j → j ≡ k → ⊥
    wrong owner other j at_j same = of_there (latest_there name world k last) where
      of_there : (t : Transport) × (slice_get world.transports k ≡ Some t) → ⊥
      of_there there =
          let mine : name ≡ there.0.owner = same_bytes name there.0.owner (latest_owner name world k there.0 last there.1) in
          let its : owner ≡ there.0.owner = same_bytes owner there.0.owner (latest_owner owner world k there.0 (at_j ∙ ap Some same) there.1) in
          true≢false (sym (self_bytes name) ∙ ap (bytes_eq name) (mine ∙ sym its) ∙ other)

    by_other : (owner : List ℕ) → bytes_eq name owner ≡ false → (o : Option ℕ) → latest owner world ≡ o → transport_at o (on_transport k f world) ≡ transport_at o world
    by_other owner other None at_o = refl
    by_other owner other (Some j) at_o = get_other j k f world.transports (wrong owner other j at_o)

-- one change after another
pub aimed_then : (name : List ℕ) (one two : Option Transport) (world middle after : World) → IsAimed name one world middle → IsAimed name two middle after → IsAimed name two world after
aimed_then name one two world middle after first second = record {
  channels = second.channels ∙ first.channels;
  last = λ owner other. second.last owner other ∙ first.last owner other;
  others = λ owner other. second.others owner other ∙ first.others owner other;
  own = second.own;
  makes = make_then world.transports middle.transports after.transports first.makes second.makes;
}

-- a new one is opened
pub aimed_opened : (name : List ℕ) (t : Transport) (world after : World) → bytes_eq name t.owner ≡ true → after.channels ≡ world.channels → after.transports ≡ world.transports ++ t ∷ []
    → IsAimed name (Some t) world after
aimed_opened name t world after mine channels same = record {
  channels = channels;
  last = last_other;
  others = λ owner other. ap (λ (o : Option ℕ). transport_at o after) (last_other owner other) ∙ by_other owner (latest owner world) refl;
  own =
      ap (λ (o : Option ℕ). transport_at o after) (ap (λ (ts : List Transport). last_of (owned name 0 ts)) same ∙ ap last_of (owned_new name 0 world.transports t mine) ∙ last_append (owned name 0 world.transports) (0 + length world.transports))
      ∙ ap (λ (k : ℕ). transport_at (Some k) after) none_before ∙ ap (λ (ts : List Transport). slice_get ts (length world.transports)) same ∙ get_last world.transports t;
  makes = subst (MakeMore world.transports) (sym same) (make_append world.transports (t ∷ []));
}
  where
    none_before : 0 + length world.transports ≡ length world.transports
    none_before = omega arith

    not_mine : (owner : List ℕ) → bytes_eq name owner ≡ false → bytes_eq owner t.owner ≡ false
    not_mine owner other = ap (bytes_eq owner) (sym (same_bytes name t.owner mine)) ∙ other_by name owner other (bytes_eq owner name) refl

    last_other : (owner : List ℕ) → bytes_eq name owner ≡ false → latest owner after ≡ latest owner world
    last_other owner other = ap (λ (ts : List Transport). last_of (owned owner 0 ts)) same ∙ latest_opened owner t world (not_mine owner other)

    by_other : (owner : List ℕ) → (o : Option ℕ) → latest owner world ≡ o → transport_at o after ≡ transport_at o world
    by_other owner None at_o = refl
    by_other owner (Some j) at_o = of_there (latest_there owner world j at_o) where
      of_there : (u : Transport) × (slice_get world.transports j ≡ Some u) → slice_get after.transports j ≡ slice_get world.transports j
      of_there there = ap (λ (ts : List Transport). slice_get ts j) same ∙ get_append j there.0 world.transports (t ∷ []) there.1 ∙ sym there.1

pub aimed_as : (name : List ℕ) (one two : Option Transport) (world after : World) → one ≡ two → IsAimed name one world after → IsAimed name two world after
aimed_as name one two world after same h = record { channels = h.channels; last = h.last; others = h.others; own = h.own ∙ same; makes = h.makes }

-- the clients alone are changed afterwards, or before
pub aimed_beside : (name : List ℕ) (found : Option Transport) (world middle after : World) → after.channels ≡ middle.channels → after.transports ≡ middle.transports → IsAimed name found world middle → IsAimed name found world after
aimed_beside name found world middle after channels same h =
    aimed_as name _ _ world after h.own (aimed_then name found (latest_of name middle) world middle after h (aimed_same name middle after channels same))

pub aimed_behind : (name : List ℕ) (found : Option Transport) (world middle after : World) → middle.channels ≡ world.channels → middle.transports ≡ world.transports → IsAimed name found middle after → IsAimed name found world after
aimed_behind name found world middle after channels same h = aimed_then name (latest_of name world) found world middle after (aimed_same name world middle channels same) h
