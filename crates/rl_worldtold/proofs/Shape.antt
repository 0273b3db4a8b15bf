-- What is wanted of every world: lists that are changed at one place, clients by name, transports by owner, and what each
-- step leaves as it was.
use Rattle.std.proofs.Common.{◌≡◌, ◌⊎◌, inl, inr, ℕ, zero, suc, ◌<◌, Bool, true, false, List, [], ◌∷◌, ◌++◌, length, map, refl, sym, ◌∙◌, ap, subst, arith, cond, ◌+◌, ◌≤◌}
use Rattle.std.specs.Prelude.{Some, None, slice_get, Option, option_map, if◌then◌else◌, bytes_eq, take}
use Rattle.std.specs.List.{AllByRecursion, filter}
use Rattle.std.specs.Cmp.Lexicographic.{bytes_decides}
use Rattle.rl_types.specs.declared.frames.Frame.{Frame}
use Rattle.rl_connbook.specs.Laws.{SomeOf}
use Rattle.rl_connbook.proofs.Each.{all_weaker}
use Rattle.rl_directory.specs.Directory.{number_of}
use Rattle.rl_clientmodel.specs.States.{ClientState}
use Rattle.rl_actormodel.specs.State as actor
use Rattle.rl_worldmodel.specs.World.{World, Transport, changed_at, if_named, client_in, names, owned, latest, last_of, on_transport}
use Rattle.rl_worldmodel.specs.Calls.{named_by, with_name}
use Rattle.rl_worldmodel.specs.Actors.{put_out_unless, works}

-- ALL AND SOME

module _ {X : Type 0} where
  pub all_at : (P : X → Type 0) (k : ℕ) (x : X) (xs : List X) → slice_get xs k ≡ Some x → AllByRecursion P xs → P x
  all_at P k x [] found each = absurd (cc)
  all_at P zero x (y ∷ ys) found each = let same : y ≡ x = cc in subst P same each.0
  all_at P (suc k) x (y ∷ ys) found each = all_at P k x ys found each.1

  pub all_both : (P Q : X → Type 0) (xs : List X) → AllByRecursion P xs → AllByRecursion Q xs → AllByRecursion (λ x. P x × Q x) xs
  all_both P Q [] one two = tt
  all_both P Q (x ∷ xs) one two = ((one.0, two.0), all_both P Q xs one.1 two.1)

  pub all_take : (P : X → Type 0) (n : ℕ) (xs : List X) → AllByRecursion P xs → AllByRecursion P (take n xs)
  all_take P zero xs each = tt
  all_take P (suc n) [] each = tt
  all_take P (suc n) (x ∷ xs) each = (each.0, all_take P n xs each.1)

  pub some_append : (P : X → Type 0) (xs ys : List X) → SomeOf P xs → SomeOf P (xs ++ ys)
  some_append P [] ys some = absurd some
  some_append P (x ∷ xs) ys (inl p) = inl p
  some_append P (x ∷ xs) ys (inr some) = inr (some_append P xs ys some)

  filter_by : (P : X → Type 0) (test : X → Bool) (x : X) (xs rest : List X) (b : Bool) → test x ≡ b → (P x → test x ≡ true) → (SomeOf P xs → SomeOf P rest) → SomeOf P (x ∷ xs) → SomeOf P (cond b (x ∷ rest) rest)
  filter_by P test x xs rest true is passes more (inl p) = inl p
  filter_by P test x xs rest true is passes more (inr some) = inr (more some)
  filter_by P test x xs rest false is passes more (inl p) = let wrong : true ≡ false = sym (passes p) ∙ is in absurd (cc)
  filter_by P test x xs rest false is passes more (inr some) = more some

  -- what passes a filter is left
  pub filter_some : (P : X → Type 0) (test : X → Bool) (xs : List X) → ((x : X) → P x → test x ≡ true) → SomeOf P xs → SomeOf P (filter test xs)
  filter_some P test [] passes some = absurd some
  filter_some P test (x ∷ xs) passes some = filter_by P test x xs (filter test xs) (test x) refl (passes x) (filter_some P test xs passes) some

  -- CHANGES IN ONE PLACE

  pub changed_all : (P : X → Type 0) (k : ℕ) (f : X → X) → ((x : X) → P x → P (f x)) → (xs : List X) → AllByRecursion P xs → AllByRecursion P (changed_at k f xs)
  changed_all P k f step [] each = tt
  changed_all P zero f step (x ∷ xs) each = (step x each.0, each.1)
  changed_all P (suc k) f step (x ∷ xs) each = (each.0, changed_all P k f step xs each.1)

  -- where only of the element that stands there it is known
  pub changed_one : (P : X → Type 0) (k : ℕ) (f : X → X) (x : X) → P (f x) → (xs : List X) → slice_get xs k ≡ Some x → AllByRecursion P xs → AllByRecursion P (changed_at k f xs)
  changed_one P k f x here [] found each = tt
  changed_one P zero f x here (y ∷ ys) found each = let same : x ≡ y = cc in (subst (λ z. P (f z)) same here, each.1)
  changed_one P (suc k) f x here (y ∷ ys) found each = (each.0, changed_one P k f x here ys found each.1)

  -- where nothing stands nothing is changed
  pub changed_none : (k : ℕ) (f : X → X) (xs : List X) → slice_get xs k ≡ None → changed_at k f xs ≡ xs
  changed_none k f [] found = refl
  changed_none zero f (x ∷ xs) found = absurd (cc)
  changed_none (suc k) f (x ∷ xs) found = ap (λ (zs : List X). x ∷ zs) (changed_none k f xs found)

  pub changed_some : (P : X → Type 0) (k : ℕ) (f : X → X) → ((x : X) → P x → P (f x)) → (xs : List X) → SomeOf P xs → SomeOf P (changed_at k f xs)
  changed_some P k f step [] some = absurd some
  changed_some P zero f step (x ∷ xs) (inl p) = inl (step x p)
  changed_some P zero f step (x ∷ xs) (inr some) = inr some
  changed_some P (suc k) f step (x ∷ xs) (inl p) = inl p
  changed_some P (suc k) f step (x ∷ xs) (inr some) = inr (changed_some P k f step xs some)

  -- what comes about where the change is
  pub some_changed : (P : X → Type 0) (k : ℕ) (f : X → X) (x : X) → P (f x) → (xs : List X) → slice_get xs k ≡ Some x → SomeOf P (changed_at k f xs)
  some_changed P k f x here [] found = absurd (cc)
  some_changed P zero f x here (y ∷ ys) found = let same : x ≡ y = cc in inl (subst (λ z. P (f z)) same here)
  some_changed P (suc k) f x here (y ∷ ys) found = inr (some_changed P k f x here ys found)

  pub length_changed : (k : ℕ) (f : X → X) (xs : List X) → length (changed_at k f xs) ≡ length xs
  length_changed k f [] = refl
  length_changed zero f (x ∷ xs) = refl
  length_changed (suc k) f (x ∷ xs) = ap (λ n. suc n) (length_changed k f xs)

  -- a number below the length has an element
  pub get_below : (k : ℕ) (xs : List X) → k < length xs → (x : X) × (slice_get xs k ≡ Some x)
  get_below k [] below = absurd (omega (arith, below))
  get_below zero (x ∷ xs) below = (x, refl)
  get_below (suc k) (x ∷ xs) below = get_below k xs (omega (arith, below))

  pub get_append : (k : ℕ) (x : X) (xs ys : List X) → slice_get xs k ≡ Some x → slice_get (xs ++ ys) k ≡ Some x
  get_append k x [] ys found = absurd (cc)
  get_append zero x (z ∷ zs) ys found = found
  get_append (suc k) x (z ∷ zs) ys found = get_append k x zs ys found

  -- an element after a change is one that stood there, or the changed one
  pub get_after : (j k : ℕ) (f : X → X) (u : X) (xs : List X) → slice_get (changed_at k f xs) j ≡ Some u → (slice_get xs j ≡ Some u) ⊎ ((x : X) × (slice_get xs j ≡ Some x) × (u ≡ f x) × (slice_get xs k ≡ Some x))
  get_after j k f u [] found = absurd (cc)
  get_after zero zero f u (x ∷ xs) found = let same : u ≡ f x = cc in inr (x, refl, same, refl)
  get_after (suc j) zero f u (x ∷ xs) found = inl found
  get_after zero (suc k) f u (x ∷ xs) found = inl found
  get_after (suc j) (suc k) f u (x ∷ xs) found = get_after j k f u xs found

  pub get_changed : (k : ℕ) (f : X → X) (x : X) (xs : List X) → slice_get xs k ≡ Some x → slice_get (changed_at k f xs) k ≡ Some (f x)
  get_changed k f x [] found = absurd (cc)
  get_changed zero f x (y ∷ ys) found = let same : y ≡ x = cc in ap (λ (z : X). Some (f z)) same
  get_changed (suc k) f x (y ∷ ys) found = get_changed k f x ys found

module _ {X Y : Type 0} where
  pub map_changed : (g : X → Y) (k : ℕ) (f : X → X) → ((x : X) → g (f x) ≡ g x) → (xs : List X) → map g (changed_at k f xs) ≡ map g xs
  map_changed g k f same [] = refl
  map_changed g zero f same (x ∷ xs) = ap (λ (y : Y). y ∷ map g xs) (same x)
  map_changed g (suc k) f same (x ∷ xs) = ap (λ (ys : List Y). g x ∷ ys) (map_changed g k f same xs)

  pub all_map : (P : Y → Type 0) (g : X → Y) (xs : List X) → AllByRecursion (λ x. P (g x)) xs → AllByRecursion P (map g xs)
  all_map P g [] each = tt
  all_map P g (x ∷ xs) each = (each.0, all_map P g xs each.1)

-- A CLIENT BY ITS NAME

pub same_bytes : (a b : List ℕ) → bytes_eq a b ≡ true → a ≡ b
same_bytes a b is = (bytes_decides a b).0 is

pub self_bytes : (a : List ℕ) → bytes_eq a a ≡ true
self_bytes a = (bytes_decides a a).1 refl

pub other_by : (a b : List ℕ) → bytes_eq a b ≡ false → (c : Bool) → bytes_eq b a ≡ c → c ≡ false
other_by a b is true back = let wrong : true ≡ false = sym (ap (bytes_eq a) (same_bytes b a back) ∙ self_bytes a) ∙ is in absurd (cc)
other_by a b is false back = refl

-- the client of this name, where the one of another name is changed
change_by : (owner name : List ℕ) (f : ClientState → ClientState) (c : List ℕ × ClientState) (rest : List (List ℕ × ClientState)) (b : Bool) → bytes_eq owner c.0 ≡ b
    → client_in owner (map (if_named name f) rest) ≡ (if bytes_eq name owner then option_map f (client_in owner rest) else client_in owner rest)
    → cond b (Some (if bytes_eq name c.0 then f c.1 else c.1)) (client_in owner (map (if_named name f) rest)) ≡ (if bytes_eq name owner then option_map f (cond b (Some c.1) (client_in owner rest)) else cond b (Some c.1) (client_in owner rest))
change_by owner name f c rest true is more =
    subst (λ (n : List ℕ). Some (if bytes_eq name n then f c.1 else c.1) ≡ (if bytes_eq name owner then Some (f c.1) else Some c.1)) (same_bytes owner c.0 is) (inside (bytes_eq name owner))
  where
    inside : (b : Bool) → Some (if b then f c.1 else c.1) ≡ (if b then Some (f c.1) else Some c.1)
    inside true = refl
    inside false = refl
change_by owner name f c rest false is more = more

pub client_changed : (owner name : List ℕ) (f : ClientState → ClientState) (clients : List (List ℕ × ClientState))
    → client_in owner (map (if_named name f) clients) ≡ (if bytes_eq name owner then option_map f (client_in owner clients) else client_in owner clients)
client_changed owner name f [] = none (bytes_eq name owner)
  where
    none : (b : Bool) → None ≡ (if b then option_map f None else None)
    none true = refl
    none false = refl
client_changed owner name f (c ∷ clients) = change_by owner name f c clients (bytes_eq owner c.0) refl (client_changed owner name f clients)

added_by : (owner : List ℕ) (c : List ℕ × ClientState) (rest more : List (List ℕ × ClientState)) (b : Bool)
    → (client_in owner rest ≡ None → client_in owner (rest ++ more) ≡ client_in owner more) × ((s : ClientState) → client_in owner rest ≡ Some s → client_in owner (rest ++ more) ≡ Some s)
    → (cond b (Some c.1) (client_in owner rest) ≡ None → cond b (Some c.1) (client_in owner (rest ++ more)) ≡ client_in owner more) × ((s : ClientState) → cond b (Some c.1) (client_in owner rest) ≡ Some s → cond b (Some c.1) (client_in owner (rest ++ more)) ≡ Some s)
added_by owner c rest more true h = (λ none. absurd (cc), λ s is. is)
added_by owner c rest more false h = h

-- a client that is declared leaves those that were there
pub client_added : (owner : List ℕ) (clients more : List (List ℕ × ClientState))
    → (client_in owner clients ≡ None → client_in owner (clients ++ more) ≡ client_in owner more) × ((s : ClientState) → client_in owner clients ≡ Some s → client_in owner (clients ++ more) ≡ Some s)
client_added owner [] more = (λ none. refl, λ s is. absurd (cc))
client_added owner (c ∷ clients) more = added_by owner c clients more (bytes_eq owner c.0) (client_added owner clients more)

-- WHAT A CALL LEAVES

-- all but the channels
pub record IsBeside (world after : World) : Type 0 where
  pub book : after.book ≡ world.book
  pub queue : after.queue ≡ world.queue
  pub clients : after.clients ≡ world.clients
  pub transports : after.transports ≡ world.transports

named_beside : (o : Option ℕ) (name : List ℕ) (world : World) → IsBeside world (named_by o name world)
named_beside None name world = record { book = refl; queue = refl; clients = refl; transports = refl }
named_beside (Some number) name world = record { book = refl; queue = refl; clients = refl; transports = refl }

pub name_beside : (name : List ℕ) (world : World) → IsBeside world (with_name name world)
name_beside name world = named_beside (number_of name (names world)) name world

-- WHICH TRANSPORTS A CLIENT HAS

owned_if : (b : Bool) (k : ℕ) (xs ys : List ℕ) → xs ≡ ys → (if b then k ∷ xs else xs) ≡ (if b then k ∷ ys else ys)
owned_if true k xs ys same = ap (λ (zs : List ℕ). k ∷ zs) same
owned_if false k xs ys same = same

pub owned_changed : (name : List ℕ) (n k : ℕ) (f : Transport → Transport) → ((t : Transport) → (f t).owner ≡ t.owner) → (ts : List Transport) → owned name n (changed_at k f ts) ≡ owned name n ts
owned_changed name n k f same [] = refl
owned_changed name n zero f same (t ∷ ts) = ap (λ (owner : List ℕ). if bytes_eq name owner then n ∷ owned name (suc n) ts else owned name (suc n) ts) (same t)
owned_changed name n (suc k) f same (t ∷ ts) = owned_if (bytes_eq name t.owner) n _ _ (owned_changed name (suc n) k f same ts)

pub owned_append : (name : List ℕ) (n : ℕ) (ts : List Transport) (t : Transport) → bytes_eq name t.owner ≡ false → owned name n (ts ++ t ∷ []) ≡ owned name n ts
owned_append name n [] t other = ap (λ (b : Bool). if b then n ∷ [] else []) other
owned_append name n (u ∷ ts) t other = owned_if (bytes_eq name u.owner) n _ _ (owned_append name (suc n) ts t other)

range_by : (b : Bool) (n k : ℕ) (xs : List ℕ) → AllByRecursion (λ j. (suc n ≤ j) × (j < suc n + k)) xs → AllByRecursion (λ j. (n ≤ j) × (j < n + suc k)) (if b then n ∷ xs else xs)
range_by true n k xs all = ((omega arith, omega arith), all_weaker _ _ (λ j h. (omega (arith, h.0), omega (arith, h.1))) xs all)
range_by false n k xs all = all_weaker _ _ (λ j h. (omega (arith, h.0), omega (arith, h.1))) xs all

owned_range : (name : List ℕ) (n : ℕ) (ts : List Transport) → AllByRecursion (λ j. (n ≤ j) × (j < n + length ts)) (owned name n ts)
owned_range name n [] = tt
owned_range name n (t ∷ ts) = range_by (bytes_eq name t.owner) n (length ts) (owned name (suc n) ts) (owned_range name (suc n) ts)

last_all : (P : ℕ → Type 0) (xs : List ℕ) (j : ℕ) → last_of xs ≡ Some j → AllByRecursion P xs → P j
last_all P [] j is all = absurd (cc)
last_all P (k ∷ []) j is all = let same : k ≡ j = cc in subst P same all.0
last_all P (k ∷ next ∷ more) j is all = last_all P (next ∷ more) j is all.1

-- the latest transport is there
pub latest_there : (name : List ℕ) (world : World) (j : ℕ) → latest name world ≡ Some j → (t : Transport) × (slice_get world.transports j ≡ Some t)
latest_there name world j is = get_below j world.transports (let h = last_all (λ j. (0 ≤ j) × (j < 0 + length world.transports)) (owned name 0 world.transports) j is (owned_range name 0 world.transports) in omega (arith, h.1))

pub latest_changed : (name : List ℕ) (k : ℕ) (f : Transport → Transport) → ((t : Transport) → (f t).owner ≡ t.owner) → (world : World) → latest name (on_transport k f world) ≡ latest name world
latest_changed name k f same world = ap last_of (owned_changed name 0 k f same world.transports)

-- a transport of another client is opened
pub latest_opened : (name : List ℕ) (t : Transport) (world : World) → bytes_eq name t.owner ≡ false → latest name (record world { transports = world.transports ++ t ∷ [] }) ≡ latest name world
latest_opened name t world other = ap last_of (owned_append name 0 world.transports t other)

-- WHAT AN ACTOR'S WORK LEAVES

out_actor : (b : Bool) (frames : List Frame) (t : Transport) → (put_out_unless b frames t).actor ≡ t.actor
out_actor true frames t = refl
out_actor false frames t = refl

out_owner : (b : Bool) (frames : List Frame) (t : Transport) → (put_out_unless b frames t).owner ≡ t.owner
out_owner true frames t = refl
out_owner false frames t = refl

out_cut : (b : Bool) (frames : List Frame) (t : Transport) → (put_out_unless b frames t).cut ≡ t.cut
out_cut true frames t = refl
out_cut false frames t = refl

-- it puts out all that waits
pub works_actor : (act : actor.State → actor.State) (t : Transport) → (works act t).actor ≡ record (act t.actor) { waiting = [] }
works_actor act t = ap (λ (s : actor.State). record s { waiting = [] }) (out_actor t.cut (act t.actor).waiting (record t { actor = act t.actor }))

pub works_owner : (act : actor.State → actor.State) (t : Transport) → (works act t).owner ≡ t.owner
works_owner act t = out_owner t.cut (act t.actor).waiting (record t { actor = act t.actor })

pub works_cut : (act : actor.State → actor.State) (t : Transport) → (works act t).cut ≡ t.cut
works_cut act t = out_cut t.cut (act t.actor).waiting (record t { actor = act t.actor })
