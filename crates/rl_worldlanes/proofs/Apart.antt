-- Where histories go on and at most one call is made, each call stays the event that it says, and no two are one event.
use Rattle.std.proofs.Common.{◌≡◌, ℕ, zero, suc, ◌<◌, append_assoc, Bool, true, false, List, [], ◌∷◌, ◌++◌, length, length-append, refl, sym, ◌∙◌, ap, subst, arith}
use Rattle.std.specs.Prelude.{⊤, Option, Some, None, slice_get, flat_map, if◌then◌else◌}
use Rattle.std.specs.List.{AllByRecursion}
use Rattle.rl_events.specs.declared.calls.Call.{Call}
use Rattle.rl_events.specs.declared.calls.Call.TheVariants as calls
use Rattle.rl_events.specs.declared.calls.DirEvent.TheVariants.{Ask, Names}
use Rattle.rl_events.specs.declared.channel.ChannelEvent.{ChannelEvent}
use Rattle.rl_connbook.proofs.Each.{all_weaker, all_append}
use Rattle.rl_directory.specs.Directory.{number_of, is_full}
use Rattle.rl_worldmodel.specs.World.{World, Transport, CallMade, changed_at, names, history}
use Rattle.rl_worldmodel.specs.Calls.{event_onto, named_by, with_name, with_event, taken_before, called}
use Rattle.rl_worldmodel.specs.Actors.{absorbs, performs}
use Rattle.rl_worldtold.specs.Truth.{Channels}
use Rattle.rl_worldtold.proofs.Shape.{changed_none}
use Rattle.rl_worldsessions.specs.Serving.{HasNumber, history_in}
use Rattle.rl_worldsessions.proofs.Serving.{called_transports}
use Rattle.rl_worldlanes.specs.Growing.{HasMore}
use Rattle.rl_worldlanes.specs.Made.{calls_of, calls_made, StandsBehind, IsEventBehind, IsEventMade, spot_at, spot_of, Differ, StandApart, HasTrueCalls}
use Rattle.rl_worldlanes.proofs.Lanes.{flat_append}
use Rattle.rl_worldlanes.proofs.Histories.{takes_own}
use Rattle.rl_worldlanes.proofs.Called.{absorbs_made}

-- HISTORIES GO ON

same_goes : (past : List ChannelEvent) → HasMore past past
same_goes past = record { more = []; is = refl }

takes_goes : (m number : ℕ) (event : ChannelEvent) (channels : Channels)
    → HasMore (history_in m channels) (history_in m (changed_at number (event_onto event) channels))
takes_goes m number event [] = record { more = []; is = refl }
takes_goes zero zero event (c ∷ channels) = record { more = event ∷ []; is = refl }
takes_goes (suc m) zero event (c ∷ channels) = record { more = []; is = refl }
takes_goes zero (suc number) event (c ∷ channels) = record { more = []; is = refl }
takes_goes (suc m) (suc number) event (c ∷ channels) = takes_goes m number event channels

added_goes : (m : ℕ) (name : List ℕ) (channels : Channels) → HasMore (history_in m channels) (history_in m (channels ++ (name, []) ∷ []))
added_goes zero name [] = record { more = []; is = refl }
added_goes (suc m) name [] = record { more = []; is = refl }
added_goes zero name (c ∷ channels) = record { more = []; is = refl }
added_goes (suc m) name (c ∷ channels) = added_goes m name channels

-- every channel's history goes on
abbrev pub AllGoOn : World → World → Type 0
AllGoOn world after = (number : ℕ) → HasMore (history number world) (history number after)

pub all_same : (world after : World) → after.channels ≡ world.channels → AllGoOn world after
all_same world after same number = record { more = []; is = ap (history_in number) same }

named_go : (o : Option ℕ) (name : List ℕ) (world : World) → AllGoOn world (named_by o name world)
named_go (Some one) name world number = same_goes (history number world)
named_go None name world number = by_full (is_full (names world)) where
  by_full : (full : Bool)
      → HasMore (history_in number world.channels) (history_in number (if full then world.channels else world.channels ++ (name, []) ∷ []))
  by_full true = same_goes (history number world)
  by_full false = added_goes number name world.channels

pub name_goes : (name : List ℕ) (world : World) → AllGoOn world (with_name name world)
name_goes name world = named_go (number_of name (names world)) name world

-- a channel takes an event
pub event_goes : (number : ℕ) (event : ChannelEvent) (world : World) → AllGoOn world (with_event number event world)
event_goes number event world m = takes_goes m number event world.channels

pub call_goes : (call : Call) (world : World) → AllGoOn world (called call world)
call_goes (calls.Book event) world = all_same world (called (calls.Book event) world) refl
call_goes (calls.Dir (Ask name)) world = name_goes name world
call_goes (calls.Dir Names) world = all_same world world refl
call_goes (calls.Chan number event) world = event_goes number event world

-- AN EVENT STAYS BEHIND AS MANY

event_stays : (event : ChannelEvent) (before : ℕ) (past after : List ChannelEvent) → HasMore past after
    → StandsBehind event before past → StandsBehind event before after
event_stays event before past after more h = record {
  later = more.more ++ h.later;
  earlier = h.earlier;
  is =
      more.is
      ∙ ap (λ (xs : List ChannelEvent). more.more ++ xs) h.is
      ∙ sym (append_assoc more.more h.later (event ∷ h.earlier));
  many = h.many;
}

call_stays : (world after : World) → AllGoOn world after → (call : Call) (before : ℕ) → IsEventBehind world call before
    → IsEventBehind after call before
call_stays world after goes (calls.Book event) before h = tt
call_stays world after goes (calls.Dir event) before h = tt
call_stays world after goes (calls.Chan number event) before h =
    event_stays event before (history number world) (history number after) (goes number) h

calls_stay : (world after : World) → AllGoOn world after → (made : List CallMade) → AllByRecursion (IsEventMade world) made
    → AllByRecursion (IsEventMade after) made
calls_stay world after goes made all =
    all_weaker (IsEventMade world) (IsEventMade after) (λ one is. call_stays world after goes one.call one.before is) made all

-- where no call is made
pub goes_true : (world after : World) → AllGoOn world after → calls_made after ≡ calls_made world → HasTrueCalls world → HasTrueCalls after
goes_true world after goes same h = record {
  events = subst (AllByRecursion (IsEventMade after)) (sym same) (calls_stay world after goes (calls_made world) h.events);
  apart = subst (λ (made : List CallMade). StandApart (flat_map spot_of made)) (sym same) h.apart;
}

-- WITHIN LISTS

module _ {X : Type 0} where
  all_between : (P : X → Type 0) (x : X) (xs ys : List X) → P x → AllByRecursion P (xs ++ ys) → AllByRecursion P (xs ++ x ∷ ys)
  all_between P x [] ys here all = (here, all)
  all_between P x (z ∷ xs) ys here all = (all.0, all_between P x xs ys here all.1)

apart_between : (x : ℕ × ℕ) (xs ys : List (ℕ × ℕ)) → AllByRecursion (Differ x) (xs ++ ys) → StandApart (xs ++ ys)
    → StandApart (xs ++ x ∷ ys)
apart_between x [] ys differ apart = (differ, apart)
apart_between x (z ∷ xs) ys differ apart =
    (all_between (Differ z) x xs ys (λ same. differ.0 (sym same)) apart.0, apart_between x xs ys differ.1 apart.1)

-- EARLIER CALLS

abbrev IsBelow : World → ℕ × ℕ → Type 0
IsBelow world one = one.1 < length (history one.0 world)

event_below : (event : ChannelEvent) (before : ℕ) (past : List ChannelEvent) → StandsBehind event before past → before < length past
event_below event before past h =
    let long : length past ≡ length (h.later ++ event ∷ h.earlier) = ap length h.is in
    omega (arith, long, length-append h.later (event ∷ h.earlier), h.many)

call_below : (world : World) (call : Call) (before : ℕ) → IsEventBehind world call before
    → AllByRecursion (IsBelow world) (spot_at call before)
call_below world (calls.Book event) before h = tt
call_below world (calls.Dir event) before h = tt
call_below world (calls.Chan number event) before h = (event_below event before (history number world) h, tt)

calls_below : (world : World) (made : List CallMade) → AllByRecursion (IsEventMade world) made
    → AllByRecursion (IsBelow world) (flat_map spot_of made)
calls_below world [] all = tt
calls_below world (one ∷ made) all =
    all_append (IsBelow world) (spot_of one) (flat_map spot_of made) (call_below world one.call one.before all.0)
    (calls_below world made all.1)

below_differs : (world : World) (number : ℕ) (one : ℕ × ℕ) → IsBelow world one → Differ (number, length (history number world)) one
below_differs world number one below same =
    let wrong : IsBelow world (number, length (history number world)) = subst (IsBelow world) (sym same) below in
    absurd (omega (arith, wrong))

-- A CALL IS MADE

-- one call stands among them that was not there before
record IsAmong (made : CallMade) (list after : List CallMade) : Type 0 where
  front : List CallMade
  back : List CallMade
  was : list ≡ front ++ back
  is : after ≡ front ++ made ∷ back

among_changed : (k : ℕ) (f : Transport → Transport) (made : CallMade) (t : Transport) (ts : List Transport)
    → ((t : Transport) → (f t).made ≡ made ∷ t.made) → slice_get ts k ≡ Some t → IsAmong made (calls_of ts) (calls_of (changed_at k f ts))
among_changed k f made t [] puts found = absurd (cc)
among_changed zero f made t (u ∷ ts) puts found =
    record { front = []; back = u.made ++ calls_of ts; was = refl; is = ap (λ (list : List CallMade). list ++ calls_of ts) (puts u) }
among_changed (suc k) f made t (u ∷ ts) puts found = behind (among_changed k f made t ts puts found) where
  behind : IsAmong made (calls_of ts) (calls_of (changed_at k f ts))
      → IsAmong made (u.made ++ calls_of ts) (u.made ++ calls_of (changed_at k f ts))
  behind h = record {
    front = u.made ++ h.front;
    back = h.back;
    was = ap (λ (list : List CallMade). u.made ++ list) h.was ∙ sym (append_assoc u.made h.front h.back);
    is = ap (λ (list : List CallMade). u.made ++ list) h.is ∙ sym (append_assoc u.made h.front (made ∷ h.back));
  }

-- where it is no call on a channel, nothing more stands there
apart_beside : (made : CallMade) (front back : List CallMade) → spot_of made ≡ [] → StandApart (flat_map spot_of (front ++ back))
    → StandApart (flat_map spot_of (front ++ made ∷ back))
apart_beside made front back none apart =
    subst StandApart
    (flat_append spot_of front back
    ∙ ap (λ (spots : List (ℕ × ℕ)). flat_map spot_of front ++ (spots ++ flat_map spot_of back)) (sym none)
    ∙ sym (flat_append spot_of front (made ∷ back))) apart

-- where it is one, fewer events came before all others of its channel
apart_among : (world : World) (call : Call) (front back : List CallMade) → AllByRecursion (IsBelow world) (flat_map spot_of (front ++ back))
    → StandApart (flat_map spot_of (front ++ back))
    → StandApart (flat_map spot_of (front ++ record { call = call; before = taken_before call world } ∷ back))
apart_among world (calls.Book event) front back below apart =
    apart_beside (record { call = calls.Book event; before = taken_before (calls.Book event) world }) front back refl apart
apart_among world (calls.Dir event) front back below apart =
    apart_beside (record { call = calls.Dir event; before = taken_before (calls.Dir event) world }) front back refl apart
apart_among world (calls.Chan number event) front back below apart =
    subst StandApart (sym (flat_append spot_of front (made ∷ back)))
    (apart_between spot (flat_map spot_of front) (flat_map spot_of back)
    (subst (AllByRecursion (Differ spot)) (flat_append spot_of front back)
    (all_weaker (IsBelow world) (Differ spot) (below_differs world number) (flat_map spot_of (front ++ back)) below))
    (subst StandApart (flat_append spot_of front back) apart))
  where
    spot : ℕ × ℕ
    spot = (number, length (history number world))

    made : CallMade
    made = record { call = calls.Chan number event; before = length (history number world) }

among_true : (world after : World) (call : Call) → AllGoOn world after
    → IsAmong (record { call = call; before = taken_before call world }) (calls_made world) (calls_made after)
    → IsEventBehind after call (taken_before call world) → HasTrueCalls world → HasTrueCalls after
among_true world after call goes among is h = record {
  events =
      subst (AllByRecursion (IsEventMade after)) (sym among.is)
      (all_between (IsEventMade after) (record { call = call; before = taken_before call world }) among.front among.back is
      (subst (AllByRecursion (IsEventMade after)) among.was (calls_stay world after goes (calls_made world) h.events)));
  apart =
      subst (λ (made : List CallMade). StandApart (flat_map spot_of made)) (sym among.is)
      (apart_among world call among.front among.back
      (calls_below world (among.front ++ among.back) (subst (AllByRecursion (IsEventMade world)) among.was h.events))
      (subst (λ (made : List CallMade). StandApart (flat_map spot_of made)) among.was h.apart));
}

-- the call's channel is one that the directory has
abbrev pub IsAtChannel : World → Call → Type 0
IsAtChannel world (calls.Chan number event) = (name : List ℕ) × HasNumber world.channels name number
IsAtChannel world call = ⊤

-- its event is then the latest of the channel
is_latest : (world : World) (call : Call) → IsAtChannel world call → IsEventBehind (called call world) call (taken_before call world)
is_latest world (calls.Book event) at = tt
is_latest world (calls.Dir event) at = tt
is_latest world (calls.Chan number event) at =
    record { later = []; earlier = history number world; is = takes_own at.0 number event world.channels at.1; many = refl }

performs_calls : (k : ℕ) (call : Call) (world : World)
    → calls_made (performs k call world) ≡ calls_of (changed_at k (absorbs call world) world.transports)
performs_calls k call world = ap (λ (ts : List Transport). calls_of (changed_at k (absorbs call world) ts)) (called_transports call world)

latest_after : (k : ℕ) (call : Call) (world : World) → IsEventBehind (called call world) call (taken_before call world)
    → IsEventBehind (performs k call world) call (taken_before call world)
latest_after k (calls.Book event) world is = tt
latest_after k (calls.Dir event) world is = tt
latest_after k (calls.Chan number event) world is = is

-- a call is performed
pub performs_true : (world : World) (k : ℕ) (call : Call)
    → ((t : Transport) → slice_get world.transports k ≡ Some t → IsAtChannel world call)
    → HasTrueCalls world → HasTrueCalls (performs k call world)
performs_true world k call at h = by_found (slice_get world.transports k) refl where
  by_found : (o : Option Transport) → slice_get world.transports k ≡ o → HasTrueCalls (performs k call world)
  by_found None found =
      goes_true world (performs k call world) (call_goes call world)
      (performs_calls k call world ∙ ap calls_of (changed_none k (absorbs call world) world.transports found)) h
  by_found (Some t) found =
      among_true world (performs k call world) call (call_goes call world)
      (subst (IsAmong (record { call = call; before = taken_before call world }) (calls_made world)) (sym (performs_calls k call world))
      (among_changed k (absorbs call world) (record { call = call; before = taken_before call world }) t world.transports
      (absorbs_made call world) found))
      (latest_after k call world (is_latest world call (at t found))) h
