-- Which names the channels have, and what a call leaves of them and of what was put.
use Rattle.std.proofs.Common.{◌≡◌, ℕ, zero, suc, ◌≤◌, Bool, true, false, List, [], ◌∷◌, ◌++◌, length, refl, sym, ◌∙◌, ap, subst, arith, true≢false}
use Rattle.std.specs.Prelude.{Option, Some, None, slice_get, if◌then◌else◌, option_map, bytes_eq, ◌≢◌}
use Rattle.std.specs.List.{AllByRecursion}
use Rattle.rl_events.specs.declared.book.BookEvent.{BookEvent}
use Rattle.rl_events.specs.declared.channel.ChannelEvent.{ChannelEvent}
use Rattle.rl_events.specs.declared.calls.DirEvent.TheVariants.{Ask}
use Rattle.rl_events.specs.declared.calls.DirReply.TheVariants as dirs
use Rattle.rl_events.specs.declared.calls.Reply.TheVariants as replies
use Rattle.rl_connbook.specs.Book.{answered, last_number}
use Rattle.rl_connbook.proofs.Each.{all_append}
use Rattle.rl_connbook.proofs.History.{last_grows}
use Rattle.rl_directory.specs.Directory.{number_of, is_full}
use Rattle.rl_directory.specs.Directory as directory
use Rattle.rl_actormodel.specs.Replies.{Has, numbering}
use Rattle.rl_worldmodel.specs.World.{World, the_range, changed_at, names}
use Rattle.rl_worldmodel.specs.Calls.{with_book_event, named_by, with_name, event_onto}
use Rattle.rl_worldtold.specs.Truth.{Channels, names_of}
use Rattle.rl_worldtold.specs.Listed.{AreDistinct}
use Rattle.rl_worldtold.proofs.Shape.{all_at, get_append, changed_one, changed_none, map_changed, same_bytes, self_bytes}
use Rattle.rl_worldputs.specs.Uses.{Use, HasNumber, IsPutUsing, IsChannelUsing, IsUsing}

-- NAMES AND NUMBERS

has_by : (name other : List ℕ) (n : ℕ) (o : Option ℕ) (ns : List (List ℕ)) (b : Bool) → bytes_eq name other ≡ b → ((m : ℕ) → o ≡ Some m → slice_get ns m ≡ Some name) → (if b then Some 0 else option_map (λ m. suc m) o) ≡ Some n → slice_get (other ∷ ns) n ≡ Some name
has_by name other n o ns true is more found =
    let same : 0 ≡ n = cc in subst (λ m. slice_get (other ∷ ns) m ≡ Some name) same (ap (λ (x : List ℕ). Some x) (sym (same_bytes name other is)))
has_by name other n None ns false is more found = absurd (cc)
has_by name other n (Some m) ns false is more found = let same : suc m ≡ n = cc in subst (λ j. slice_get (other ∷ ns) j ≡ Some name) same (more m refl)

-- a number that a name has is the name's
number_has : (name : List ℕ) (n : ℕ) (ns : List (List ℕ)) → number_of name ns ≡ Some n → HasNumber ns name n
number_has name n [] found = absurd (cc)
number_has name n (other ∷ ns) found = has_by name other n (number_of name ns) ns (bytes_eq name other) refl (λ m is. number_has name m ns is) found

none_by : (name other : List ℕ) (o : Option ℕ) (b : Bool) → bytes_eq name other ≡ b → (if b then Some 0 else option_map (λ m. suc m) o) ≡ None → (other ≢ name) × (o ≡ None)
none_by name other o true is none = absurd (cc)
none_by name other (Some m) false is none = absurd (cc)
none_by name other None false is none = (λ same. true≢false (sym (self_bytes name) ∙ ap (bytes_eq name) (sym same) ∙ is), refl)

-- a name without a number is none of them
pub number_none : (name : List ℕ) (ns : List (List ℕ)) → number_of name ns ≡ None → AllByRecursion (λ other. other ≢ name) ns
number_none name [] none = tt
number_none name (other ∷ ns) none =
    let b = none_by name other (number_of name ns) (bytes_eq name other) refl none in (b.0, number_none name ns b.1)

distinct_more : (name : List ℕ) (ns : List (List ℕ)) → AllByRecursion (λ other. other ≢ name) ns → AreDistinct ns → AreDistinct (ns ++ name ∷ [])
distinct_more name [] others apart = (tt, tt)
distinct_more name (other ∷ ns) others apart = (all_append _ ns (name ∷ []) apart.0 (others.0, tt), distinct_more name ns others.1 apart.1)

at_once : (x : List ℕ) (ns : List (List ℕ)) (k : ℕ) → AllByRecursion (λ y. x ≢ y) ns → slice_get ns k ≡ Some x → ⊥
at_once x [] k others found = absurd (cc)
at_once x (y ∷ ns) zero others found = let same : y ≡ x = cc in others.0 (sym same)
at_once x (y ∷ ns) (suc k) others found = at_once x ns k others.1 found

-- one that is none of them stands nowhere
pub at_none : (x : List ℕ) (ns : List (List ℕ)) (k : ℕ) → AllByRecursion (λ other. other ≢ x) ns → slice_get ns k ≡ Some x → ⊥
at_none x [] k others found = absurd (cc)
at_none x (y ∷ ns) zero others found = let same : y ≡ x = cc in others.0 same
at_none x (y ∷ ns) (suc k) others found = at_none x ns k others.1 found

-- a name stands at one number
pub number_once : (x : List ℕ) (ns : List (List ℕ)) (j k : ℕ) → AreDistinct ns → slice_get ns j ≡ Some x → slice_get ns k ≡ Some x → j ≡ k
number_once x [] j k apart a b = absurd (cc)
number_once x (y ∷ ns) zero zero apart a b = refl
number_once x (y ∷ ns) zero (suc k) apart a b = let same : y ≡ x = cc in absurd (at_once x ns k (subst (λ (z : List ℕ). AllByRecursion (λ w. z ≢ w) ns) same apart.0) b)
number_once x (y ∷ ns) (suc j) zero apart a b = let same : y ≡ x = cc in absurd (at_once x ns j (subst (λ (z : List ℕ). AllByRecursion (λ w. z ≢ w) ns) same apart.0) a)
number_once x (y ∷ ns) (suc j) (suc k) apart a b = ap (λ n. suc n) (number_once x ns j k apart.1 a b)

names_more : (name : List ℕ) (channels : Channels) → names_of (channels ++ (name, []) ∷ []) ≡ names_of channels ++ name ∷ []
names_more name [] = refl
names_more name (c ∷ channels) = ap (λ (ns : List (List ℕ)). c.0 ∷ ns) (names_more name channels)

-- the name of the channel with this number
pub name_at : (number : ℕ) (channels : Channels) (c : List ℕ × List ChannelEvent) → slice_get channels number ≡ Some c → HasNumber (names_of channels) c.0 number
name_at number [] c found = absurd (cc)
name_at zero (d ∷ channels) c found = let same : d ≡ c = cc in ap (λ (e : List ℕ × List ChannelEvent). Some e.0) same
name_at (suc number) (d ∷ channels) c found = name_at number channels c found

get_end : (name : List ℕ) (ns : List (List ℕ)) → slice_get (ns ++ name ∷ []) (length ns) ≡ Some name
get_end name [] = refl
get_end name (other ∷ ns) = get_end name ns

-- WHAT A CALL LEAVES

-- of a world's book, channels, transports and clients
pub record Leaves (uses : List Use) (world after : World) : Type 0 where
  pub given : last_number the_range world.book ≤ last_number the_range after.book
  pub known : (name : List ℕ) (number : ℕ) → HasNumber (names_of world.channels) name number → HasNumber (names_of after.channels) name number
  pub apart : AreDistinct (names_of after.channels)
  pub puts : AllByRecursion (IsChannelUsing uses) after.channels
  pub fed : after.fed ≡ world.fed
  pub links : after.transports ≡ world.transports
  pub clients : after.clients ≡ world.clients

module _ (uses : List Use) (owner : List ℕ → Option (List ℕ)) (world : World) (h : IsUsing uses owner world) where
  pub leaves_all : (after : World) → last_number the_range world.book ≤ last_number the_range after.book → after.channels ≡ world.channels → after.fed ≡ world.fed → after.transports ≡ world.transports → after.clients ≡ world.clients → Leaves uses world after
  leaves_all after given channels fed links clients = record {
    given = given;
    known = λ name number has. subst (λ (cs : Channels). HasNumber (names_of cs) name number) (sym channels) has;
    apart = subst (λ (cs : Channels). AreDistinct (names_of cs)) (sym channels) h.apart;
    puts = subst (AllByRecursion (IsChannelUsing uses)) (sym channels) h.puts;
    fed = fed;
    links = links;
    clients = clients;
  }

  pub leaves_book : (event : BookEvent) → Leaves uses world (with_book_event event world)
  leaves_book event = leaves_all (with_book_event event world) (last_grows the_range (answered the_range event world.book) world.book) refl refl refl refl

  names_kept : (number : ℕ) (event : ChannelEvent) → names_of (changed_at number (event_onto event) world.channels) ≡ names_of world.channels
  names_kept number event = map_changed (λ (c : List ℕ × List ChannelEvent). c.0) number (event_onto event) (λ c. refl) world.channels

  pub leaves_event : (after : World) (number : ℕ) (event : ChannelEvent) → ((c : List ℕ × List ChannelEvent) → slice_get world.channels number ≡ Some c → IsPutUsing uses c.0 event) → last_number the_range world.book ≤ last_number the_range after.book
      → after.channels ≡ changed_at number (event_onto event) world.channels → after.fed ≡ world.fed → after.transports ≡ world.transports → after.clients ≡ world.clients → Leaves uses world after
  leaves_event after number event fits given channels fed links clients = record {
    given = given;
    known = λ name n has. subst (λ (ns : List (List ℕ)). HasNumber ns name n) (sym (ap names_of channels ∙ names_kept number event)) has;
    apart = subst AreDistinct (sym (ap names_of channels ∙ names_kept number event)) h.apart;
    puts = subst (AllByRecursion (IsChannelUsing uses)) (sym channels) (puts_by (slice_get world.channels number) refl);
    fed = fed;
    links = links;
    clients = clients;
  }
    where
      puts_by : (o : Option (List ℕ × List ChannelEvent)) → slice_get world.channels number ≡ o → AllByRecursion (IsChannelUsing uses) (changed_at number (event_onto event) world.channels)
      puts_by None found = subst (AllByRecursion (IsChannelUsing uses)) (sym (changed_none number (event_onto event) world.channels found)) h.puts
      puts_by (Some c) found =
          changed_one (IsChannelUsing uses) number (event_onto event) c (fits c found, all_at (IsChannelUsing uses) number c world.channels found h.puts) world.channels found h.puts

  -- A NAME IS ASKED FOR

  full_leaves : (full : Bool) (name : List ℕ) (after : World) → number_of name (names world) ≡ None → after.book ≡ world.book → after.channels ≡ (if full then world.channels else world.channels ++ (name, []) ∷ []) → after.fed ≡ world.fed → after.transports ≡ world.transports → after.clients ≡ world.clients
      → Leaves uses world after
  full_leaves true name after none book channels fed links clients = leaves_all after (let same = ap (last_number the_range) book in omega (arith, same)) channels fed links clients
  full_leaves false name after none book channels fed links clients =
      let now : names_of after.channels ≡ names_of world.channels ++ name ∷ [] = ap names_of channels ∙ names_more name world.channels in
      record {
        given = let same = ap (last_number the_range) book in omega (arith, same);
        known = λ other n has. subst (λ (ns : List (List ℕ)). HasNumber ns other n) (sym now) (get_append n other (names_of world.channels) (name ∷ []) has);
        apart = subst AreDistinct (sym now) (distinct_more name (names_of world.channels) (number_none name (names_of world.channels) none) h.apart);
        puts = subst (AllByRecursion (IsChannelUsing uses)) (sym channels) (all_append (IsChannelUsing uses) world.channels ((name, []) ∷ []) h.puts (tt, tt));
        fed = fed;
        links = links;
        clients = clients;
      }

  named_leaves : (o : Option ℕ) (name : List ℕ) → number_of name (names world) ≡ o → Leaves uses world (named_by o name world)
  named_leaves (Some number) name is = leaves_all world (omega arith) refl refl refl refl
  named_leaves None name is = full_leaves (is_full (names world)) name (named_by None name world) is refl refl refl refl refl

  pub leaves_name : (name : List ℕ) → Leaves uses world (with_name name world)
  leaves_name name = named_leaves (number_of name (names world)) name refl

-- what the directory says is the number of the name
full_fits : (full : Bool) (name : List ℕ) (channels : Channels) (n : ℕ) → numbering (replies.Dir (if full then dirs.Full (length (names_of channels)) else dirs.At (length (names_of channels)))) ≡ Has n
    → HasNumber (names_of (if full then channels else channels ++ (name, []) ∷ [])) name n
full_fits true name channels n is = absurd (cc)
full_fits false name channels n is =
    let same : length (names_of channels) ≡ n = cc in
    subst (λ m. HasNumber (names_of (channels ++ (name, []) ∷ [])) name m) same
    (subst (λ (ns : List (List ℕ)). HasNumber ns name (length (names_of channels))) (sym (names_more name channels)) (get_end name (names_of channels)))

named_fits : (o : Option ℕ) (name : List ℕ) (world : World) (n : ℕ) → number_of name (names world) ≡ o → numbering (replies.Dir (directory.asked_by o (names world))) ≡ Has n → HasNumber (names_of (named_by o name world).channels) name n
named_fits (Some number) name world n found is = let same : number ≡ n = cc in subst (λ m. HasNumber (names world) name m) same (number_has name number (names world) found)
named_fits None name world n found is = full_fits (is_full (names world)) name world.channels n is

pub name_fits : (name : List ℕ) (world : World) (n : ℕ) → numbering (replies.Dir (directory.told (names world) (Ask name))) ≡ Has n → HasNumber (names_of (with_name name world).channels) name n
name_fits name world n is = named_fits (number_of name (names world)) name world n refl is
