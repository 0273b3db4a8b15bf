-- A call of the book: what is put out after it is on no channel, and no ask is in hand before it or after it.
use Rattle.std.proofs.Common.{◌≡◌, ℕ, List, [], ◌∷◌, ◌++◌, ap, refl}
use Rattle.std.specs.Prelude.{Option, Some, None, slice_get}
use Rattle.std.specs.List.{AllByRecursion, filter}
use Rattle.rl_numbers.specs.declared.limits.TheConstants.{CONNECTION_STATE_TTL, MAX_IDLE_INTERVAL, MAX_MESSAGE_SIZE}
use Rattle.rl_ids.specs.Forms.{conn_text}
use Rattle.rl_types.specs.declared.frames.Frame.{Frame}
use Rattle.rl_types.specs.declared.frames.Frame.TheVariants as frames
use Rattle.rl_runs.specs.declared.commands.Hello.{Hello}
use Rattle.rl_events.specs.declared.channel.Outcome.{Outcome}
use Rattle.rl_events.specs.declared.channel.Outcome.TheVariants.{Taken, Refused}
use Rattle.rl_events.specs.declared.book.BookEvent.{BookEvent}
use Rattle.rl_events.specs.declared.calls.Call.TheVariants.{Book}
use Rattle.rl_events.specs.declared.calls.Reply.{Reply}
use Rattle.rl_events.specs.declared.calls.End.{End}
use Rattle.rl_events.specs.declared.calls.End.TheVariants as ends
use Rattle.rl_names.specs.Names.{at}
use Rattle.rl_actormodel.specs.declared.parts.Publish.{Publish}
use Rattle.rl_actormodel.specs.declared.parts.Holder.{Holder}
use Rattle.rl_actormodel.specs.declared.parts.Wish.{Wish}
use Rattle.rl_actormodel.specs.declared.parts.Wish.TheVariants as wishes
use Rattle.rl_actormodel.specs.State as actor
use Rattle.rl_actormodel.specs.State.{wishing}
use Rattle.rl_actormodel.specs.Wishes.{wanted, next_call}
use Rattle.rl_actormodel.specs.Replies.{Standing, Passed, Gone, Holds, Unsaid, standing, Beginning, Overtaken, Missing, Knows, Above, Below, Goes, Unbegun, beginning, Opening, Opens, Limited, Unopened, opening, Resuming, Back, NotKnown, Unresumed, resuming}
use Rattle.rl_actormodel.specs.Connects.{unknown_code, connected, resumed_by, opened_by, if_held, closed}
use Rattle.rl_actormodel.specs.Publishes.{settled, put_wish, begun_by}
use Rattle.rl_actormodel.specs.Reads.{replied, answered_at, absorbed}
use Rattle.rl_worldmodel.specs.World.{World, Transport}
use Rattle.rl_worldmodel.specs.Calls.{reply_to}
use Rattle.rl_worldmodel.specs.Actors.{with_call, absorbs, performs}
use Rattle.rl_worldsessions.specs.Serving.{AreServing}
use Rattle.rl_worldtold.proofs.Shape.{works_owner, works_cut}
use Rattle.rl_worldlanes.specs.Views.{concerns, asks_in_hand}
use Rattle.rl_worldlanes.specs.Following.{AreFronts, setup_of}
use Rattle.rl_worldlanes.specs.Serving.{IsServed, AllTakeAtMostOne}
use Rattle.rl_worldlanes.proofs.Mute.{IsMute, mute_sees, goes_same}
use Rattle.rl_worldlanes.proofs.Histories.{past_same, none_takes}
use Rattle.rl_worldlanes.proofs.Silence.{put_quiet, none_quiet, same_mute, ended_mute, wants_mute, IsKnown, known_at}

-- WHAT IS WANTED

-- who calls the book has no ask in hand
no_ask : (name : List ℕ) (wish : Wish) (hello : Hello) (now : ℕ) (event : BookEvent) → wanted wish hello now ≡ Some (Book event)
    → asks_in_hand name wish ≡ []
no_ask name wishes.Nothing hello now event is = refl
no_ask name (wishes.Resume key) hello now event is = refl
no_ask name wishes.Open hello now event is = refl
no_ask name (wishes.Lost holder) hello now event is = refl
no_ask name (wishes.Close holder) hello now event is = refl
no_ask name (wishes.AskToAttach asked) hello now event is = absurd (cc)
no_ask name (wishes.Join asked number) hello now event is = absurd (cc)
no_ask name (wishes.Begin p holder) hello now event is = refl
no_ask name (wishes.AskToPut p holder) hello now event is = refl
no_ask name (wishes.Put p holder number) hello now event is = refl
no_ask name (wishes.Finish p holder outcome) hello now event is = refl

put_hand : (name : List ℕ) (p : Publish) (holder : Holder) (o : Option ℕ) → asks_in_hand name (put_wish p holder o) ≡ []
put_hand name p holder None = refl
put_hand name p holder (Some number) = refl

-- WHAT A REPLY LEADS TO

module _ (name : List ℕ) (s : actor.State) (empty : s.waiting ≡ []) (hand : asks_in_hand name s.wish ≡ []) where
  -- no call is wanted any more
  silent_mute : IsMute name s (wishing wishes.Nothing s)
  silent_mute = wants_mute name wishes.Nothing s (wishing wishes.Nothing s) hand refl refl refl refl (none_quiet name s.waiting empty)

  connected_mute : (holder : Holder) (key : List ℕ) (now : ℕ) → IsMute name s (connected holder key now s)
  connected_mute holder key now =
      wants_mute name wishes.Nothing s (connected holder key now s) hand refl refl refl refl
      (put_quiet name (frames.Connected (conn_text holder.conn) key CONNECTION_STATE_TTL MAX_IDLE_INTERVAL MAX_MESSAGE_SIZE (unknown_code s.unknown)) s.waiting empty refl)

  resumed_mute : (key : List ℕ) (r : Resuming) (now : ℕ) → IsMute name s (resumed_by key r now s)
  resumed_mute key (Back holder) now = connected_mute holder key now
  resumed_mute key NotKnown now = wants_mute name wishes.Open s _ hand refl refl refl refl (none_quiet name s.waiting empty)
  resumed_mute key Unresumed now = same_mute name s empty

  opened_mute : (o : Opening) (now : ℕ) → IsMute name s (opened_by o now s)
  opened_mute (Opens holder key) now = connected_mute holder key now
  opened_mute (Limited count given) now = ended_mute name (ends.ConnectionLimit count given) s empty
  opened_mute Unopened now = same_mute name s empty

  held_mute : (holder : Holder) (stands : Standing) (next : actor.State → actor.State) → IsMute name s (next s)
      → IsMute name s (if_held holder stands next s)
  held_mute holder (Passed newer) next good = ended_mute name (ends.Superseded holder.generation newer) s empty
  held_mute holder Gone next good = ended_mute name ends.Forgotten s empty
  held_mute holder Holds next good = good
  held_mute holder Unsaid next good = same_mute name s empty

  -- CLOSED is put out at the end
  closed_mute : (now : ℕ) → IsMute name s (closed now s)
  closed_mute now = record {
    goes = λ on. absurd (cc);
    asks = λ on. absurd (cc);
    sessions = λ on. absurd (cc);
    none = ap (λ (ws : List Frame). filter (concerns name) ((ws ++ frames.Closed ∷ []) ++ [])) empty;
  }

  settled_mute : (p : Publish) (o : Option Outcome) (now : ℕ) → IsMute name s (settled p o now s)
  settled_mute p None now = silent_mute
  settled_mute p (Some (Taken place)) now =
      wants_mute name wishes.Nothing s _ hand refl refl refl refl (put_quiet name (frames.Ack p.serial 1) s.waiting empty refl)
  settled_mute p (Some (Refused code)) now =
      wants_mute name wishes.Nothing s _ hand refl refl refl refl (put_quiet name (frames.Nack p.serial 1 code) s.waiting empty refl)

  begun_mute : (p : Publish) (holder : Holder) (b : Beginning) (now : ℕ) → IsMute name s (begun_by p holder b now s)
  begun_mute p holder (Overtaken newer) now = ended_mute name (ends.Superseded holder.generation newer) s empty
  begun_mute p holder Missing now = ended_mute name ends.Forgotten s empty
  begun_mute p holder (Knows outcome) now = settled_mute p (Some outcome) now
  begun_mute p holder (Above got expected) now = ended_mute name (ends.SerialGap got expected) s empty
  begun_mute p holder (Below got expected) now = ended_mute name (ends.SerialOld got expected) s empty
  begun_mute p holder Goes now =
      wants_mute name (put_wish p holder (at p.channel s.numbers)) s _ hand (put_hand name p holder (at p.channel s.numbers)) refl refl refl (none_quiet name s.waiting empty)
  begun_mute p holder Unbegun now = same_mute name s empty

  replied_mute : (wish : Wish) (hello : Hello) (moment : ℕ) (event : BookEvent) (reply : Reply) (now : ℕ)
      → wanted wish hello moment ≡ Some (Book event) → IsMute name s (replied wish reply now s)
  replied_mute wishes.Nothing hello moment event reply now is = absurd (cc)
  replied_mute (wishes.Resume key) hello moment event reply now is = resumed_mute key (resuming reply) now
  replied_mute wishes.Open hello moment event reply now is = opened_mute (opening reply) now
  replied_mute (wishes.Lost holder) hello moment event reply now is = silent_mute
  replied_mute (wishes.Close holder) hello moment event reply now is = held_mute holder (standing reply) (closed now) (closed_mute now)
  replied_mute (wishes.AskToAttach asked) hello moment event reply now is = absurd (cc)
  replied_mute (wishes.Join asked number) hello moment event reply now is = absurd (cc)
  replied_mute (wishes.Begin p holder) hello moment event reply now is = begun_mute p holder (beginning reply) now
  replied_mute (wishes.AskToPut p holder) hello moment event reply now is = absurd (cc)
  replied_mute (wishes.Put p holder number) hello moment event reply now is = absurd (cc)
  replied_mute (wishes.Finish p holder outcome) hello moment event reply now is = held_mute holder (standing reply) (settled p outcome now) (settled_mute p outcome now)

  -- an actor that is ended was told of its loss
  answered_mute : (o : Option End) (hello : Hello) (moment : ℕ) (event : BookEvent) (reply : Reply) (now : ℕ)
      → wanted s.wish hello moment ≡ Some (Book event) → IsMute name s (answered_at o (Book event) reply now s)
  answered_mute None hello moment event reply now is = replied_mute s.wish hello moment event reply now is
  answered_mute (Some why) hello moment event reply now is = silent_mute

-- A CALL OF THE BOOK

module _ (world : World) (k : ℕ) (t : Transport) (event : BookEvent) (wants : next_call world.now t.actor ≡ Some (Book event)) where
  call_mute : (name : List ℕ) → t.actor.waiting ≡ []
      → IsMute name t.actor (absorbed (Book event) (reply_to (Book event) world) world.now t.actor)
  call_mute name empty =
      answered_mute name t.actor empty (no_ask name t.actor.wish t.actor.hello world.now event wants)
      t.actor.ended t.actor.hello world.now event (reply_to (Book event) world) world.now wants

  call_served : IsKnown world t → IsServed world (performs k (Book event) world) t (absorbs (Book event) world t)
  call_served known = record {
    owner = works_owner (absorbed (Book event) (reply_to (Book event) world) world.now) (with_call (Book event) world t);
    cut = works_cut (absorbed (Book event) (reply_to (Book event) world) world.now) (with_call (Book event) world t);
    goes_on = λ uncut name lane link past has sees.
        goes_same world (performs k (Book event) world) (absorbs (Book event) world t) name lane link past
        (past_same name world (performs k (Book event) world) refl) has
        (mute_sees (setup_of name) (absorbed (Book event) (reply_to (Book event) world) world.now) (with_call (Book event) world t) link uncut known.fronts.client
        (call_mute name known.serving.flushed)
        (record { coming = sees.coming; asks = sees.asks; session = sees.session }));
  }

-- the book takes an event, and the actor what it answers
pub book_served : (world : World) (k : ℕ) (t : Transport) (event : BookEvent) → AreServing world → AllByRecursion AreFronts world.transports
    → slice_get world.transports k ≡ Some t → next_call world.now t.actor ≡ Some (Book event)
    → IsServed world (performs k (Book event) world) t (absorbs (Book event) world t)
book_served world k t event serving fronts found wants = call_served world k t event wants (known_at world k t serving fronts found)

pub book_no_event : (world : World) (k : ℕ) (event : BookEvent) → AllTakeAtMostOne world (performs k (Book event) world)
book_no_event world k event = none_takes world (performs k (Book event) world) refl
