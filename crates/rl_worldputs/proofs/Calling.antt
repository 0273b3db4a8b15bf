-- Refusals are of what channels decided, or of channels that a full directory has not: what the service does keeps it.
use Rattle.std.proofs.Common.{◌≡◌, inl, inr, ℕ, ◌<◌, Bool, true, false, List, [], ◌∷◌, ◌++◌, length, refl, sym, ◌∙◌, ap, subst}
use Rattle.std.specs.Prelude.{Option, Some, None, slice_get, if◌then◌else◌}
use Rattle.std.specs.List.{AllByRecursion}
use Rattle.rl_types.specs.declared.messages.Body.{Body}
use Rattle.rl_events.specs.declared.book.BookEvent.{BookEvent}
use Rattle.rl_events.specs.declared.book.BookEvent.TheVariants as events
use Rattle.rl_events.specs.declared.channel.ChannelEvent.{ChannelEvent}
use Rattle.rl_events.specs.declared.channel.ChannelEvent.TheVariants.{Put}
use Rattle.rl_events.specs.declared.calls.Call.{Call}
use Rattle.rl_events.specs.declared.calls.Call.TheVariants as calls
use Rattle.rl_events.specs.declared.calls.DirEvent.TheVariants.{Ask, Names}
use Rattle.rl_connbook.specs.Records.{Answered}
use Rattle.rl_connbook.specs.Book.{book_of, told}
use Rattle.rl_connbook.proofs.Each.{all_weaker}
use Rattle.rl_directory.specs.Directory.{number_of}
use Rattle.rl_actormodel.specs.declared.parts.Publish.{Publish}
use Rattle.rl_actormodel.specs.declared.parts.Holder.{Holder}
use Rattle.rl_actormodel.specs.declared.parts.Wish.{Wish}
use Rattle.rl_actormodel.specs.declared.parts.Wish.TheVariants as wishes
use Rattle.rl_actormodel.specs.Reads as reads
use Rattle.rl_actormodel.specs.Reads.{absorbed, answered_at, replied, read_by}
use Rattle.rl_worldmodel.specs.World.{World, Transport, the_range, on_transport, changed_at, names}
use Rattle.rl_worldmodel.specs.Calls.{reply_to, called, event_onto, with_name}
use Rattle.rl_worldmodel.specs.Actors.{with_call, absorbs, performs}
use Rattle.rl_worldtold.specs.Truth.{names_of, IsHeldBy}
use Rattle.rl_worldtold.proofs.Shape.{all_at, changed_one, changed_none}
use Rattle.rl_worldtold.proofs.Asks.{IsSteady, IsLater, replied_steady, absorbed_steady}
use Rattle.rl_worldputs.proofs.Serving.{IsSameOrFirst, call_same}
use Rattle.rl_events.specs.declared.book.BookReply.{BookReply}
use Rattle.rl_events.specs.declared.book.BookReply.TheVariants as book
use Rattle.rl_events.specs.declared.channel.Outcome.{Outcome}
use Rattle.rl_events.specs.declared.channel.Outcome.TheVariants.{Taken, Refused}
use Rattle.rl_events.specs.declared.channel.Verdict.{Verdict}
use Rattle.rl_events.specs.declared.channel.Verdict.TheVariants.{Done}
use Rattle.rl_events.specs.declared.calls.DirReply.TheVariants as dirs
use Rattle.rl_events.specs.declared.calls.Reply.TheVariants as replies
use Rattle.rl_connbook.specs.Laws.{IsEndOf}
use Rattle.rl_connbook.proofs.Each.{all_some}
use Rattle.rl_connbook.proofs.Outcomes.{known_is_end}
use Rattle.rl_directory.specs.Directory.{is_full}
use Rattle.rl_directory.specs.Directory as directory
use Rattle.rl_model.specs.History.{setting}
use Rattle.rl_model.specs.Verdict.{decisions, verdict}
use Rattle.rl_model.specs.Reply as channel
use Rattle.rl_actormodel.specs.Replies.{Knows, beginning, HasNone, numbering, verdict_in}
use Rattle.rl_worldmodel.specs.World.{past_of, the_epoch, the_site, history}
use Rattle.rl_worldmodel.specs.Calls.{named_by}
use Rattle.rl_worldtold.specs.Told.{IsRefused}
use Rattle.rl_worldtold.specs.Truth.{Decides}
use Rattle.rl_worldtold.proofs.Shape.{some_append, changed_some, some_changed, map_changed, get_below, name_beside}
use Rattle.rl_worldputs.specs.Refusals.{HasTaken, IsTakenUp, IsRefusal, IsWishSo, IsEndSo, IsActorSo, IsLinkSo, IsRefusing}
use Rattle.rl_worldputs.proofs.Refusing.{FitsSo, replied_so, absorbed_so}
use Rattle.rl_worldputs.proofs.Lasting.{Lasts, lasts, end_stays, link_stays_so, some_at, works_taken, works_so}

-- CHANNELS

pub decides_called : (call : Call) (world : World) (conn serial code : ℕ) → Decides world.channels conn serial (IsRefused code) → Decides (called call world).channels conn serial (IsRefused code)
decides_called (calls.Book event) world conn serial code is = is
decides_called (calls.Dir (Ask name)) world conn serial code is = named (number_of name (names world)) (is_full (names world)) refl
  where
    named : (o : Option ℕ) (b : Bool) → is_full (names world) ≡ b → Decides (named_by o name world).channels conn serial (IsRefused code)
    named (Some number) b same = is
    named None true same = subst (λ (full : Bool). Decides (if full then world.channels else world.channels ++ (name, []) ∷ []) conn serial (IsRefused code)) (sym same) is
    named None false same = subst (λ (full : Bool). Decides (if full then world.channels else world.channels ++ (name, []) ∷ []) conn serial (IsRefused code)) (sym same) (some_append _ world.channels ((name, []) ∷ []) is)
decides_called (calls.Dir Names) world conn serial code is = is
decides_called (calls.Chan number event) world conn serial code is = changed_some _ number (event_onto event) (λ c some. inr some) world.channels is

pub full_called : (call : Call) (world : World) → is_full (names_of world.channels) ≡ true → names_of (called call world).channels ≡ names_of world.channels
full_called (calls.Book event) world full = refl
full_called (calls.Dir (Ask name)) world full = named (number_of name (names world))
  where
    named : (o : Option ℕ) → names_of (named_by o name world).channels ≡ names_of world.channels
    named (Some number) = refl
    named None = ap (λ (b : Bool). names_of (if b then world.channels else world.channels ++ (name, []) ∷ [])) full
full_called (calls.Dir Names) world full = refl
full_called (calls.Chan number event) world full = map_changed (λ (c : List ℕ × List ChannelEvent). c.0) number (event_onto event) (λ c. refl) world.channels

pub called_links : (call : Call) (world : World) → (called call world).transports ≡ world.transports
called_links (calls.Book event) world = refl
called_links (calls.Dir (Ask name)) world = (name_beside name world).transports
called_links (calls.Dir Names) world = refl
called_links (calls.Chan number event) world = refl

-- ONE TRANSPORT CHANGES

abbrev pub AreEndsSo : World → List Answered → Type 0
AreEndsSo world book = AllByRecursion (λ (a : Answered). IsEndSo (IsRefusal world.channels world.transports) a.event) book

pub serve_so : (world mid : World) (k : ℕ) (f : Transport → Transport) → mid.transports ≡ world.transports → Lasts world (on_transport k f mid) → AreEndsSo (on_transport k f mid) mid.book
    → ((t : Transport) → slice_get world.transports k ≡ Some t → IsLinkSo (IsRefusal mid.channels (changed_at k f mid.transports)) (IsTakenUp (changed_at k f mid.transports)) t → IsLinkSo (IsRefusal mid.channels (changed_at k f mid.transports)) (IsTakenUp (changed_at k f mid.transports)) (f t))
    → IsRefusing world → IsRefusing (on_transport k f mid)
serve_so world mid k f same l ends step h = record {
  ends = ends;
  links = subst (λ (ts : List Transport). AllByRecursion (IsLinkSo (IsRefusal mid.channels (changed_at k f mid.transports)) (IsTakenUp (changed_at k f mid.transports))) (changed_at k f ts)) (sym same) (links_by (slice_get world.transports k) refl);
}
  where
    before : AllByRecursion (IsLinkSo (IsRefusal mid.channels (changed_at k f mid.transports)) (IsTakenUp (changed_at k f mid.transports))) world.transports
    before = all_weaker _ _ (link_stays_so (IsRefusal world.channels world.transports) (IsRefusal mid.channels (changed_at k f mid.transports)) (IsTakenUp world.transports) (IsTakenUp (changed_at k f mid.transports)) l.so l.got) world.transports h.links

    links_by : (o : Option Transport) → slice_get world.transports k ≡ o → AllByRecursion (IsLinkSo (IsRefusal mid.channels (changed_at k f mid.transports)) (IsTakenUp (changed_at k f mid.transports))) (changed_at k f world.transports)
    links_by None found = subst (AllByRecursion (IsLinkSo (IsRefusal mid.channels (changed_at k f mid.transports)) (IsTakenUp (changed_at k f mid.transports)))) (sym (changed_none k f world.transports found)) before
    links_by (Some t) found = changed_one _ k f t (step t found (all_at _ k t world.transports found before)) world.transports found before

-- the ends that the book was told stay so
pub ends_last : (world after : World) → Lasts world after → IsRefusing world → AreEndsSo after world.book
ends_last world after l h = all_weaker _ _ (λ a is. end_stays (IsRefusal world.channels world.transports) (IsRefusal after.channels after.transports) (IsTakenUp world.transports) (IsTakenUp after.transports) l.so l.got a.event is) world.book h.ends

ends_called : (call : Call) (world after : World) → Lasts world after → ((event : BookEvent) → call ≡ calls.Book event → IsEndSo (IsRefusal after.channels after.transports) event) → IsRefusing world → AreEndsSo after (called call world).book
ends_called (calls.Book event) world after l new h = (new event refl, ends_last world after l h)
ends_called (calls.Dir (Ask name)) world after l new h = subst (AreEndsSo after) (sym (name_beside name world).book) (ends_last world after l h)
ends_called (calls.Dir Names) world after l new h = ends_last world after l h
ends_called (calls.Chan number event) world after l new h = ends_last world after l h

-- CALLS

-- what an action of the service leaves, and that what was so is so
pub record Passes (world after : World) : Type 0 where
  pub refusing : IsRefusing after
  pub lasting : Lasts world after

-- how long what is so lasts in a call
pub call_lasts : (world : World) (k : ℕ) (call : Call) → ((t : Transport) → slice_get world.transports k ≡ Some t → IsSameOrFirst t.actor.holder (absorbed call (reply_to call world) world.now t.actor).holder) → Lasts world (performs k call world)
call_lasts world k call holds =
    lasts world (performs k call world) (decides_called call world) (full_called call world)
    (λ conn serial channel is. subst (λ (ts : List Transport). IsTakenUp (changed_at k (absorbs call world) ts) conn serial channel) (sym (called_links call world))
    (some_at (HasTaken conn serial channel) k (absorbs call world) world.transports (λ t found has. works_taken (absorbed call (reply_to call world) world.now) (with_call call world t) conn serial channel (holds t found) has) is))

abbrev pub RefusalAfter : ℕ → Call → World → ℕ → ℕ → ℕ → Type 0
RefusalAfter k call world = IsRefusal (performs k call world).channels (performs k call world).transports

abbrev pub TakenAfter : ℕ → Call → World → ℕ → ℕ → List ℕ → Type 0
TakenAfter k call world = IsTakenUp (performs k call world).transports

pub perform_so : (world : World) (k : ℕ) (call : Call) → (holds : (t : Transport) → slice_get world.transports k ≡ Some t → IsSameOrFirst t.actor.holder (absorbed call (reply_to call world) world.now t.actor).holder)
    → ((event : BookEvent) → call ≡ calls.Book event → IsEndSo (RefusalAfter k call world) event)
    → ((t : Transport) → slice_get world.transports k ≡ Some t → IsActorSo (RefusalAfter k call world) (TakenAfter k call world) t.actor → IsActorSo (RefusalAfter k call world) (TakenAfter k call world) (absorbed call (reply_to call world) world.now t.actor))
    → IsRefusing world → Passes world (performs k call world)
perform_so world k call holds new good h =
    let l = call_lasts world k call holds in
    record {
      lasting = l;
      refusing = serve_so world (called call world) k (absorbs call world) (called_links call world) l (ends_called call world (performs k call world) l new h)
          (λ t found link. works_so (RefusalAfter k call world) (TakenAfter k call world) (absorbed call (reply_to call world) world.now) (with_call call world t) (holds t found) (good t found link.of_actor) link.on_way) h;
    }

-- the call of a wish
pub wish_so : (world : World) (k : ℕ) (t : Transport) (wish : Wish) (call : Call) → slice_get world.transports k ≡ Some t → t.actor.wish ≡ wish → IsHeldBy t.actor.holder wish → IsSameOrFirst t.actor.holder (absorbed call (reply_to call world) world.now t.actor).holder
    → reads.answered call (reply_to call world) world.now t.actor ≡ replied t.actor.wish (reply_to call world) world.now t.actor
    → ((event : BookEvent) → call ≡ calls.Book event → IsEndSo (RefusalAfter k call world) event) → FitsSo (RefusalAfter k call world) (TakenAfter k call world) wish (reply_to call world) → IsRefusing world → Passes world (performs k call world)
wish_so world k t wish call found is held holds same new fits h =
    let state : reads.answered call (reply_to call world) world.now t.actor ≡ replied wish (reply_to call world) world.now t.actor = same ∙ ap (λ (w : Wish). replied w (reply_to call world) world.now t.actor) is in
    perform_so world k call
    (λ u found_u. subst (λ (v : Transport). IsSameOrFirst v.actor.holder (absorbed call (reply_to call world) world.now v.actor).holder) (call_same world k t u found found_u) holds)
    new
    (λ u found_u good. subst (λ (v : Transport). IsActorSo (RefusalAfter k call world) (TakenAfter k call world) v.actor → IsActorSo (RefusalAfter k call world) (TakenAfter k call world) (absorbed call (reply_to call world) world.now v.actor)) (call_same world k t u found found_u)
    (λ g. absorbed_so (RefusalAfter k call world) (TakenAfter k call world) t.actor.ended call (reply_to call world) world.now t.actor
    (subst (IsActorSo (RefusalAfter k call world) (TakenAfter k call world)) (sym state)
    (replied_so (RefusalAfter k call world) (TakenAfter k call world) wish (reply_to call world) world.now t.actor held fits (subst (IsWishSo (RefusalAfter k call world) (TakenAfter k call world)) is g.wishing) g)) g) good) h

-- of a wish for no connection
pub later_holds : (world : World) (t : Transport) (wish : Wish) (call : Call) → t.actor.wish ≡ wish → IsLater wish → reads.answered call (reply_to call world) world.now t.actor ≡ replied t.actor.wish (reply_to call world) world.now t.actor
    → IsSameOrFirst t.actor.holder (absorbed call (reply_to call world) world.now t.actor).holder
later_holds world t wish call is later same =
    inr (absorbed_steady t.actor.ended call (reply_to call world) world.now t.actor
    (subst (IsSteady t.actor) (sym (same ∙ ap (λ (w : Wish). replied w (reply_to call world) world.now t.actor) is)) (replied_steady wish later (reply_to call world) world.now t.actor))).holder

-- WHAT A KNOWN REFUSAL, A PUT AND A FULL DIRECTORY SAY

known_is : (r : BookReply) (outcome : Outcome) → beginning (replies.Book r) ≡ Knows outcome → r ≡ book.Known outcome
known_is (book.Known x) outcome is = let same : x ≡ outcome = cc in ap (λ (y : Outcome). book.Known y) same
known_is r outcome is = absurd (cc)

end_refused : (R : ℕ → ℕ → ℕ → Type 0) (conn serial code : ℕ) (event : BookEvent) → IsEndSo R event → IsEndOf conn serial (Refused code) event → R conn serial code
end_refused R conn serial code (events.End c generation s (Some (Taken place))) is of = absurd (let wrong : Taken place ≡ Refused code = of.2 in cc)
end_refused R conn serial code (events.End c generation s (Some (Refused k))) is of =
    let same : k ≡ code = (let two : Refused k ≡ Refused code = of.2 in cc) in
    subst (R conn serial) same (subst (λ m. R conn m k) of.1 (subst (λ m. R m s k) of.0 is))
end_refused R conn serial code event is of = absurd of

pub known_refused : (world : World) (conn generation serial code : ℕ) → IsRefusing world → beginning (replies.Book (told (book_of the_range world.book) (events.Begin conn generation serial))) ≡ Knows (Refused code) → IsRefusal world.channels world.transports conn serial code
known_refused world conn generation serial code h is =
    all_some (λ (a : Answered). IsEndSo (IsRefusal world.channels world.transports) a.event) (λ (a : Answered). IsEndOf conn serial (Refused code) a.event) (IsRefusal world.channels world.transports conn serial code) world.book
    (λ a t e. end_refused (IsRefusal world.channels world.transports) conn serial code a.event t e) h.ends
    (known_is_end the_range conn generation serial (Refused code) world.book (known_is (told (book_of the_range world.book) (events.Begin conn generation serial)) (Refused code) is))

pub put_refused : (world : World) (number conn serial code : ℕ) (body : Body) → number < length world.channels → verdict_in (replies.Chan (channel.reply the_epoch the_site (history number world) (Put conn serial body world.now))) ≡ Some (Done (Refused code))
    → Decides (changed_at number (event_onto (Put conn serial body world.now)) world.channels) conn serial (IsRefused code)
put_refused world number conn serial code body below said =
    let c = get_below number world.channels below in
    let same : verdict (setting the_site (Put conn serial body world.now ∷ history number world)) (decisions the_site (history number world)) conn serial body ≡ Done (Refused code) = cc in
    some_changed _ number (event_onto (Put conn serial body world.now)) c.0 (inl ((refl, refl), ap (λ (v : Verdict). Some v) (subst (λ (o : Option (List ℕ × List ChannelEvent)). verdict (setting the_site (Put conn serial body world.now ∷ past_of o)) (decisions the_site (past_of o)) conn serial body ≡ Done (Refused code)) c.1 same))) world.channels c.1

shut_by : (o : Option ℕ) (full : Bool) (name : List ℕ) (world : World) → number_of name (names world) ≡ o → is_full (names world) ≡ full → numbering (replies.Dir (directory.asked_by o (names world))) ≡ HasNone → (is_full (names_of (named_by o name world).channels) ≡ true) × (number_of name (names_of (named_by o name world).channels) ≡ None)
shut_by (Some number) full name world at is none = absurd (cc)
shut_by None true name world at is none =
    let same : names_of (named_by None name world).channels ≡ names world = ap (λ (b : Bool). names_of (if b then world.channels else world.channels ++ (name, []) ∷ [])) is in
    (ap is_full same ∙ is, ap (number_of name) same ∙ at)
shut_by None false name world at is none =
    let wrong : numbering (replies.Dir (if false then dirs.Full (length (names world)) else dirs.At (length (names world)))) ≡ HasNone = subst (λ (b : Bool). numbering (replies.Dir (if b then dirs.Full (length (names world)) else dirs.At (length (names world)))) ≡ HasNone) is none in
    absurd (cc)

-- a directory that has no number for a name is full, and has it not
pub shut_fits : (name : List ℕ) (world : World) → numbering (replies.Dir (directory.told (names world) (Ask name))) ≡ HasNone → (is_full (names_of (with_name name world).channels) ≡ true) × (number_of name (names_of (with_name name world).channels) ≡ None)
shut_fits name world none = shut_by (number_of name (names world)) (is_full (names world)) name world refl refl none

pub finish_end : (R : ℕ → ℕ → ℕ → Type 0) (G : ℕ → ℕ → List ℕ → Type 0) (p : Publish) (h : Holder) (o : Option Outcome) → IsWishSo R G (wishes.Finish p h o) → IsEndSo R (events.End h.conn h.generation p.serial o)
finish_end R G p h None is = tt
finish_end R G p h (Some (Taken place)) is = tt
finish_end R G p h (Some (Refused code)) is = is
