-- Refusals are of what channels decided, or of channels that a full directory has not: all else that the service does, and all
-- that clients do.
use Rattle.std.proofs.Common.{◌≡◌, inr, ℕ, Bool, true, false, List, [], ◌∷◌, ◌++◌, refl, sym, ◌∙◌, ap, subst}
use Rattle.std.specs.Prelude.{Option, Some, None}
use Rattle.std.specs.List.{AllByRecursion}
use Rattle.rl_types.specs.declared.frames.Frame.{Frame}
use Rattle.rl_types.specs.declared.messages.Body.{Body}
use Rattle.rl_events.specs.declared.channel.ChannelEvent.{ChannelEvent}
use Rattle.rl_events.specs.declared.channel.ChannelEvent.TheVariants.{Put, Gone, Tick}
use Rattle.rl_events.specs.declared.calls.Call.TheVariants as calls
use Rattle.rl_events.specs.declared.calls.DirEvent.TheVariants.{Ask}
use Rattle.rl_connbook.proofs.Each.{all_weaker}
use Rattle.rl_actormodel.specs.State as actor
use Rattle.rl_worldmodel.specs.World.{World, Transport, on_transport, changed_at}
use Rattle.rl_worldmodel.specs.Calls.{event_onto, with_name}
use Rattle.rl_worldmodel.specs.Services.{feed_conn, expires, reaped, event_at, fed_at}
use Rattle.rl_worldtold.specs.Truth.{Channels, names_of}
use Rattle.rl_connbook.proofs.Each.{all_append}
use Rattle.rl_runs.specs.declared.commands.Hello.{Hello}
use Rattle.rl_worldmodel.specs.World.{new_transport}
use Rattle.rl_worldmodel.specs.Clients.{cut_off, put_unless, takes_frames, gives_frame}
use Rattle.rl_worldtold.specs.Told.{IsRefused}
use Rattle.rl_worldtold.specs.Truth.{Decides}
use Rattle.rl_worldtold.proofs.Shape.{all_take, some_append, changed_some, map_changed, name_beside}
use Rattle.rl_worldtold.proofs.Quiet.{IsQuiet}
use Rattle.rl_worldputs.specs.Refusals.{IsOf, HasTaken, IsTakenUp, IsRefusal, IsWishSo, IsLinkSo, IsRefusing}
use Rattle.rl_worldputs.proofs.Lasting.{Lasts, lasts, link_stays_so, some_take_more, some_take_twice}
use Rattle.rl_worldputs.proofs.Calling.{AreEndsSo, serve_so, ends_last, decides_called, full_called}
use Rattle.rl_worldputs.proofs.Wishing.{change_lasts}

-- ALL ELSE THAT THE SERVICE DOES

-- no transport changes
simple_so : (world after : World) → after.transports ≡ world.transports → (l : Lasts world after) → AreEndsSo after after.book → IsRefusing world → IsRefusing after
simple_so world after same l ends h = record {
  ends = ends;
  links = subst (AllByRecursion (IsLinkSo (IsRefusal after.channels after.transports) (IsTakenUp after.transports))) (sym same)
      (all_weaker _ _ (link_stays_so (IsRefusal world.channels world.transports) (IsRefusal after.channels after.transports) (IsTakenUp world.transports) (IsTakenUp after.transports) l.so l.got) world.transports h.links);
}

event_lasts : (world after : World) (number : ℕ) (event : ChannelEvent) → after.channels ≡ changed_at number (event_onto event) world.channels → after.transports ≡ world.transports → Lasts world after
event_lasts world after number event channels same =
    lasts world after
    (λ conn serial code is. subst (λ (cs : Channels). Decides cs conn serial (IsRefused code)) (sym channels) (changed_some _ number (event_onto event) (λ c some. inr some) world.channels is))
    (λ full. ap names_of channels ∙ map_changed (λ (c : List ℕ × List ChannelEvent). c.0) number (event_onto event) (λ c. refl) world.channels)
    (λ conn serial channel is. subst (λ (ts : List Transport). IsTakenUp ts conn serial channel) (sym same) is)

same_lasts : (world after : World) → after.channels ≡ world.channels → after.transports ≡ world.transports → Lasts world after
same_lasts world after channels same =
    lasts world after (λ conn serial code is. subst (λ (cs : Channels). Decides cs conn serial (IsRefused code)) (sym channels) is) (λ full. ap names_of channels) (λ conn serial channel is. subst (λ (ts : List Transport). IsTakenUp ts conn serial channel) (sym same) is)

pub name_lasts : (world : World) (name : List ℕ) → Lasts world (with_name name world)
name_lasts world name =
    lasts world (with_name name world) (decides_called (calls.Dir (Ask name)) world) (full_called (calls.Dir (Ask name)) world) (λ conn serial channel is. subst (λ (ts : List Transport). IsTakenUp ts conn serial channel) (sym (name_beside name world).transports) is)

event_so : (world after : World) (number : ℕ) (event : ChannelEvent) → after.channels ≡ changed_at number (event_onto event) world.channels → after.transports ≡ world.transports → after.book ≡ world.book → IsRefusing world → IsRefusing after
event_so world after number event channels same book h =
    let l = event_lasts world after number event channels same in
    simple_so world after same l (subst (AreEndsSo after) (sym book) (ends_last world after l h)) h

pub expires_lasts : (world : World) → Lasts world (expires world)
expires_lasts world = same_lasts world (expires world) refl refl

pub expires_refuse : (world : World) → IsRefusing world → IsRefusing (expires world)
expires_refuse world h = simple_so world (expires world) refl (expires_lasts world) (tt, ends_last world (expires world) (expires_lasts world) h) h

pub reaped_lasts : (world : World) (queue : List (ℕ × ℕ)) → Lasts world (reaped queue world)
reaped_lasts world [] = same_lasts world world refl refl
reaped_lasts world (pair ∷ more) = event_lasts world (reaped (pair ∷ more) world) pair.1 (Gone pair.0 world.now) refl refl

pub reaped_refuse : (world : World) (queue : List (ℕ × ℕ)) → IsRefusing world → IsRefusing (reaped queue world)
reaped_refuse world [] h = h
reaped_refuse world (pair ∷ more) h = event_so world (reaped (pair ∷ more) world) pair.1 (Gone pair.0 world.now) refl refl refl h

pub aged_lasts : (world : World) (o : Option ℕ) → Lasts world (event_at o (Tick world.now) world)
aged_lasts world None = same_lasts world world refl refl
aged_lasts world (Some number) = event_lasts world (event_at (Some number) (Tick world.now) world) number (Tick world.now) refl refl

pub aged_refuse : (world : World) (o : Option ℕ) → IsRefusing world → IsRefusing (event_at o (Tick world.now) world)
aged_refuse world None h = h
aged_refuse world (Some number) h = event_so world (event_at (Some number) (Tick world.now) world) number (Tick world.now) refl refl refl h

pub fed_lasts : (world : World) (o : Option ℕ) (body : Body) → Lasts world (fed_at o body world)
fed_lasts world None body = same_lasts world world refl refl
fed_lasts world (Some number) body = event_lasts world (fed_at (Some number) body world) number (Put feed_conn world.fed body world.now) refl refl

pub fed_refuse : (world : World) (o : Option ℕ) (body : Body) → IsRefusing world → IsRefusing (fed_at o body world)
fed_refuse world None body h = h
fed_refuse world (Some number) body h = event_so world (fed_at (Some number) body world) number (Put feed_conn world.fed body world.now) refl refl refl h

pub names_refuse : (world : World) (name : List ℕ) → IsRefusing world → IsRefusing (with_name name world)
names_refuse world name h =
    let l = name_lasts world name in
    simple_so world (with_name name world) (name_beside name world).transports l (subst (AreEndsSo (with_name name world)) (sym (name_beside name world).book) (ends_last world (with_name name world) l h)) h

-- WHAT CLIENTS DO TO TRANSPORTS

cut_taken : (t : Transport) (conn serial : ℕ) (channel : List ℕ) → HasTaken conn serial channel t → HasTaken conn serial channel (cut_off t)
cut_taken t conn serial channel has = (has.0, some_take_twice (IsOf serial channel) t.to_service.got t.to_service.put has.1)

sent_taken : (list : List Frame) (cut : Bool) (t : Transport) (conn serial : ℕ) (channel : List ℕ) → HasTaken conn serial channel t → HasTaken conn serial channel (put_unless cut list t)
sent_taken list true t conn serial channel has = has
sent_taken list false t conn serial channel has = (has.0, some_take_more (IsOf serial channel) t.to_service.got t.to_service.put list has.1)

pub cut_lasts : (world : World) (k : ℕ) → Lasts world (on_transport k cut_off world)
cut_lasts world k = change_lasts world k cut_off cut_taken

pub sent_lasts : (world : World) (k : ℕ) (list : List Frame) → Lasts world (on_transport k (takes_frames list) world)
sent_lasts world k list = change_lasts world k (takes_frames list) (λ t. sent_taken list t.cut t)

pub gives_lasts : (world : World) (k : ℕ) → Lasts world (on_transport k gives_frame world)
gives_lasts world k = change_lasts world k gives_frame (λ t conn serial channel has. has)

pub opened_lasts : (world : World) (name : List ℕ) (hello : Hello) → Lasts world (record world { transports = world.transports ++ new_transport name hello world.now ∷ [] })
opened_lasts world name hello =
    lasts world (record world { transports = world.transports ++ new_transport name hello world.now ∷ [] }) (λ conn serial code is. is) (λ full. refl) (λ conn serial channel is. some_append (HasTaken conn serial channel) world.transports (new_transport name hello world.now ∷ []) is)

sent_link : (R : ℕ → ℕ → ℕ → Type 0) (G : ℕ → ℕ → List ℕ → Type 0) (list : List Frame) (cut : Bool) (t : Transport) → IsLinkSo R G t → IsLinkSo R G (put_unless cut list t)
sent_link R G list true t h = h
sent_link R G list false t h = record { of_actor = h.of_actor; on_way = h.on_way }

first_so : (R : ℕ → ℕ → ℕ → Type 0) (G : ℕ → ℕ → List ℕ → Type 0) (o : Option (List ℕ)) → IsWishSo R G (actor.first_wish o)
first_so R G None = tt
first_so R G (Some key) = tt

pub quiet_refusing : IsQuiet IsRefusing
quiet_refusing = record {
  of_client = λ world name change h. record { ends = h.ends; links = h.links };
  of_new = λ world name h. record { ends = h.ends; links = h.links };
  of_cut = λ world k h. serve_so world world k cut_off refl (cut_lasts world k) (ends_last world (on_transport k cut_off world) (cut_lasts world k) h)
      (λ t found link. record { of_actor = link.of_actor; on_way = all_take _ t.to_client.got t.to_client.put link.on_way }) h;
  of_sent = λ world k list h. serve_so world world k (takes_frames list) refl (sent_lasts world k list) (ends_last world (on_transport k (takes_frames list) world) (sent_lasts world k list) h) (λ t found link. sent_link _ _ list t.cut t link) h;
  of_got = λ world k frame is h. serve_so world world k gives_frame refl (gives_lasts world k) (ends_last world (on_transport k gives_frame world) (gives_lasts world k) h) (λ t found link. record { of_actor = link.of_actor; on_way = link.on_way }) h;
  of_opened = λ world name hello h. record {
    ends = ends_last world (record world { transports = world.transports ++ new_transport name hello world.now ∷ [] }) (opened_lasts world name hello) h;
    links = all_append _ world.transports (new_transport name hello world.now ∷ [])
        (all_weaker _ _ (link_stays_so (IsRefusal world.channels world.transports) (IsRefusal world.channels (world.transports ++ new_transport name hello world.now ∷ [])) (IsTakenUp world.transports) (IsTakenUp (world.transports ++ new_transport name hello world.now ∷ []))
        (opened_lasts world name hello).so (opened_lasts world name hello).got) world.transports h.links)
        (record { of_actor = record { wishing = first_so _ _ hello.resume; out = tt }; on_way = tt }, tt);
  };
  of_time = λ world span h. record { ends = h.ends; links = h.links };
}
