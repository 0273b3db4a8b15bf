-- A refused Put has no entry on any channel: all actions, and the law.
use Rattle.std.proofs.Common.{◌≡◌, inl, inr, ℕ, suc, ◌<◌, ◌^◌, List, [], ◌∷◌, take, refl, sym, ◌∙◌, subst}
use Rattle.std.specs.Prelude.{Option, Some, None, slice_get}
use Rattle.std.specs.List.{AllByRecursion}
use Rattle.rl_ids.specs.Forms.{conn_text}
use Rattle.rl_ids.proofs.Forms.{conn_texts_differ}
use Rattle.rl_types.specs.declared.frames.Frame.{Frame}
use Rattle.rl_types.specs.declared.frames.Frame.TheVariants as frames
use Rattle.rl_types.specs.declared.messages.Entry.{Entry}
use Rattle.rl_events.specs.declared.channel.ChannelEvent.{ChannelEvent}
use Rattle.rl_events.specs.declared.channel.ChannelEvent.TheVariants.{Put}
use Rattle.rl_runs.specs.declared.findings.Answer.{Answer}
use Rattle.rl_runs.specs.declared.findings.Answer.TheVariants.{Ack, Nack}
use Rattle.rl_connbook.specs.Laws.{SomeOf}
use Rattle.rl_connbook.proofs.Each.{all_weaker, all_some, some_weaker}
use Rattle.rl_directory.specs.Directory.{number_of}
use Rattle.rl_model.specs.History.{setting}
use Rattle.rl_model.specs.Verdict.{Decision, decided, decisions, log}
use Rattle.rl_actormodel.specs.declared.parts.Holder.{Holder}
use Rattle.rl_worldmodel.specs.World.{World, Transport, the_site, client_at, latest, names}
use Rattle.rl_worldmodel.specs.Actions.{Action, Declares, Opens, Cuts, Recovers, Obeys, Gets, LooksAtTime, Steps, Pages, Polls, Passes, Expires, Reaps, Ages, Asks, Feeds, does}
use Rattle.rl_worldtold.specs.Runs.{HoldsOfRuns}
use Rattle.rl_worldtold.specs.Told.{IsRefused}
use Rattle.rl_worldtold.specs.Truth.{IsPutBy, Decides, OnHolder, IsTrueWorld, names_of}
use Rattle.rl_worldtold.specs.Decided.{DecidesOnce, HasDecidedOnce}
use Rattle.rl_worldtold.proofs.Shape.{all_at, all_take}
use Rattle.rl_worldtold.proofs.Runs.{runs_hold}
use Rattle.rl_worldtold.proofs.Quiet.{declares_keeps, opens_keeps, cuts_keeps, recovers_keeps, obeys_keeps, gets_keeps, looks_keeps}
use Rattle.rl_worldtold.proofs.Service.{steps_true, pages_true, polls_true, expires_true, reaps_true, ages_true, names_true, feeds_true}
use Rattle.rl_worldtold.proofs.Answers.{keeps_true, begins_true}
use Rattle.rl_worldtold.proofs.Deciding.{IsEntryOf, entry_decided, channels_decide_once}
use Rattle.rl_worldputs.specs.Uses.{Use, IsUse, IsSent, HasNumber, IsPutUsing, IsChannelUsing, IsLinkUsing, IsUsing, HasUses}
use Rattle.rl_worldputs.specs.Refusals.{IsOf, HasTaken, IsTakenUp, IsShutOut, IsRefusal, IsRefusing, IsAnswerSo, AreAnswersSo}
use Rattle.rl_worldputs.specs.NoEntries.{HasNoEntry, IsOfNoEntry, AllOfNoEntry, RefusedHasNoEntry}
use Rattle.rl_worldputs.proofs.Naming.{name_at, number_once, number_none, at_none}
use Rattle.rl_worldputs.proofs.Puts.{always_kept}
use Rattle.rl_worldputs.proofs.Wishing.{steps_refuse, pages_refuse, polls_refuse}
use Rattle.rl_worldputs.proofs.Elsewhere.{expires_lasts, expires_refuse, reaped_lasts, reaped_refuse, aged_lasts, aged_refuse, fed_lasts, fed_refuse, name_lasts, names_refuse, quiet_refusing}
use Rattle.rl_worldputs.proofs.Listing.{answers_last, cuts_answers, looks_answers, got_on_answers, opens_answers, obeys_answers, from_answers, declared_answers}

-- ALL ACTIONS

-- what is refused, and what clients list of it
pub record IsAllSo (world : World) : Type 0 where
  pub true_ : IsTrueWorld world
  pub refusing : IsRefusing world
  pub listed : AreAnswersSo world

keeps_refusing : (action : Action) (world : World) → IsTrueWorld world → IsRefusing world → IsRefusing (does action world)
keeps_refusing (Declares name) world true_ h = declares_keeps IsRefusing quiet_refusing name world h
keeps_refusing (Opens name) world true_ h = opens_keeps IsRefusing quiet_refusing name world h
keeps_refusing (Cuts name) world true_ h = cuts_keeps IsRefusing quiet_refusing name world h
keeps_refusing (Recovers name other) world true_ h = recovers_keeps IsRefusing quiet_refusing name other world h
keeps_refusing (Obeys name command) world true_ h = obeys_keeps IsRefusing quiet_refusing name command world h
keeps_refusing (Gets name) world true_ h = gets_keeps IsRefusing quiet_refusing name world h
keeps_refusing (LooksAtTime name) world true_ h = looks_keeps IsRefusing quiet_refusing name world h
keeps_refusing (Steps k) world true_ h = (steps_refuse world k true_ h).refusing
keeps_refusing (Pages k name) world true_ h = (pages_refuse world k name h).refusing
keeps_refusing (Polls k name) world true_ h = (polls_refuse world k name h).refusing
keeps_refusing (Passes span) world true_ h = quiet_refusing.of_time world span h
keeps_refusing Expires world true_ h = expires_refuse world h
keeps_refusing Reaps world true_ h = reaped_refuse world world.queue h
keeps_refusing (Ages name) world true_ h = aged_refuse world (number_of name (names world)) h
keeps_refusing (Asks name) world true_ h = names_refuse world name h
keeps_refusing (Feeds name body) world true_ h = fed_refuse world (number_of name (names world)) body h

keeps_listed : (action : Action) (world : World) → IsTrueWorld world → IsRefusing world → AreAnswersSo world → AreAnswersSo (does action world)
keeps_listed (Declares name) world true_ refusing h = declared_answers (client_at name world) name world h
keeps_listed (Opens name) world true_ refusing h = opens_answers name world h
keeps_listed (Cuts name) world true_ refusing h = cuts_answers name world h
keeps_listed (Recovers name other) world true_ refusing h = from_answers name other (client_at name world) (client_at other world) world h
keeps_listed (Obeys name command) world true_ refusing h = obeys_answers name command world h
keeps_listed (Gets name) world true_ refusing h = got_on_answers name (latest name world) world refl true_ refusing h
keeps_listed (LooksAtTime name) world true_ refusing h = looks_answers name world h
keeps_listed (Steps k) world true_ refusing h = answers_last world (does (Steps k) world) (steps_refuse world k true_ refusing).lasting (steps_true world k true_.service).clients h
keeps_listed (Pages k name) world true_ refusing h = answers_last world (does (Pages k name) world) (pages_refuse world k name refusing).lasting (pages_true world k name true_.service).clients h
keeps_listed (Polls k name) world true_ refusing h = answers_last world (does (Polls k name) world) (polls_refuse world k name refusing).lasting (polls_true world k name true_.service).clients h
keeps_listed (Passes span) world true_ refusing h = h
keeps_listed Expires world true_ refusing h = answers_last world (does Expires world) (expires_lasts world) (expires_true world true_.service).clients h
keeps_listed Reaps world true_ refusing h = answers_last world (does Reaps world) (reaped_lasts world world.queue) (reaps_true world true_.service).clients h
keeps_listed (Ages name) world true_ refusing h = answers_last world (does (Ages name) world) (aged_lasts world (number_of name (names world))) (ages_true world name true_.service).clients h
keeps_listed (Asks name) world true_ refusing h = answers_last world (does (Asks name) world) (name_lasts world name) (names_true world name true_.service).clients h
keeps_listed (Feeds name body) world true_ refusing h = answers_last world (does (Feeds name body) world) (fed_lasts world (number_of name (names world)) body) (feeds_true world name body true_.service).clients h

always_so : HoldsOfRuns IsAllSo
always_so =
    runs_hold IsAllSo (λ action world h. record { true_ = keeps_true action world h.true_; refusing = keeps_refusing action world h.true_ h.refusing; listed = keeps_listed action world h.true_ h.refusing h.listed })
    (record { true_ = begins_true; refusing = record { ends = tt; links = tt }; listed = tt })

-- LISTS

module _ {X : Type 0} where
  some_get : (P : X → Type 0) (xs : List X) → SomeOf P xs → (k : ℕ) × (x : X) × (slice_get xs k ≡ Some x) × P x
  some_get P [] some = absurd some
  some_get P (x ∷ xs) (inl p) = (0, x, refl, p)
  some_get P (x ∷ xs) (inr some) = let r = some_get P xs some in (suc r.0, r.1, r.2, r.3)

  get_all : (P : X → Type 0) (xs : List X) → ((k : ℕ) (x : X) → slice_get xs k ≡ Some x → P x) → AllByRecursion P xs
  get_all P [] each = tt
  get_all P (x ∷ xs) each = (each 0 x refl, get_all P xs (λ k y found. each (suc k) y found))

  none_all : (P Q : X → Type 0) (xs : List X) → (SomeOf (λ x. P x × Q x) xs → ⊥) → AllByRecursion (λ x. P x → Q x → ⊥) xs
  none_all P Q [] none = tt
  none_all P Q (x ∷ xs) none = (λ p q. none (inl (p, q)), none_all P Q xs (λ some. none (inr some)))

-- an entry of this id, and that it is in the log
entry_pick : (id : List ℕ) (serial : ℕ) (es : List Entry) → SomeOf (λ (e : Entry). (conn_text e.conn ≡ id) × (e.serial ≡ Some serial)) es → (conn : ℕ) × (conn_text conn ≡ id) × SomeOf (IsEntryOf conn serial) es
entry_pick id serial [] some = absurd some
entry_pick id serial (e ∷ es) (inl is) = (e.conn, is.0, inl (refl, is.1))
entry_pick id serial (e ∷ es) (inr some) = let r = entry_pick id serial es some in (r.0, r.1, inr r.2)

put_here : (event : ChannelEvent) (past : List ChannelEvent) (conn serial : ℕ) → IsPutBy conn serial (decided (setting the_site (event ∷ past)) (decisions the_site past) event).event → IsPutBy conn serial event
put_here (Put c s body now) past conn serial is = is
put_here event past conn serial is = is

-- a Put that was decided is in the history
put_in : (past : List ChannelEvent) (conn serial : ℕ) → SomeOf (λ (d : Decision). IsPutBy conn serial d.event) (decisions the_site past) → SomeOf (IsPutBy conn serial) past
put_in [] conn serial some = absurd some
put_in (event ∷ past) conn serial (inl is) = inl (put_here event past conn serial is)
put_in (event ∷ past) conn serial (inr some) = inr (put_in past conn serial some)

-- THE LAW

-- a Put in a channel's history: its serial is used there, and its connection is a small number
put_used : (uses : List Use) (name : List ℕ) (conn serial : ℕ) (past : List ChannelEvent) → AllByRecursion (IsPutUsing uses name) past → SomeOf (IsPutBy conn serial) past → IsUse uses (conn_text conn) serial name × (conn < 2 ^ 32)
put_used uses name conn serial past all some =
    all_some (IsPutUsing uses name) (IsPutBy conn serial) (IsUse uses (conn_text conn) serial name × (conn < 2 ^ 32)) past (one_used) all some
  where
    one_used : (event : ChannelEvent) → IsPutUsing uses name event → IsPutBy conn serial event → IsUse uses (conn_text conn) serial name × (conn < 2 ^ 32)
    one_used (Put c s body now) is by = (subst (λ n. IsUse uses (conn_text conn) n name) by.1 (subst (λ n. IsUse uses (conn_text n) s name) by.0 is.0), subst (λ n. n < 2 ^ 32) by.0 is.1)
    one_used event is by = absurd by

-- a frame that was taken up is a use
head_used : (uses : List Use) (holder : Option Holder) (conn serial : ℕ) (channel : List ℕ) (frame : Frame) → OnHolder holder (λ h. h.conn ≡ conn) → IsSent uses holder frame → IsOf serial channel frame → IsUse uses (conn_text conn) serial channel
head_used uses None conn serial channel frame on sent of = absurd on
head_used uses (Some h) conn serial channel (frames.Message head items) on sent of = subst (λ n. IsUse uses (conn_text n) serial channel) on (subst (λ (x : List ℕ). IsUse uses (conn_text h.conn) serial x) of.1 (sent serial of.0))
head_used uses (Some h) conn serial channel (frames.Presence head items) on sent of = subst (λ n. IsUse uses (conn_text n) serial channel) on (subst (λ (x : List ℕ). IsUse uses (conn_text h.conn) serial x) of.1 (sent serial of.0))
head_used uses (Some h) conn serial channel (frames.Object head ops) on sent of = subst (λ n. IsUse uses (conn_text n) serial channel) on (subst (λ (x : List ℕ). IsUse uses (conn_text h.conn) serial x) of.1 (sent serial of.0))
head_used uses (Some h) conn serial channel frame on sent of = absurd of

taken_used : (uses : List Use) (ns : List (List ℕ)) (conn serial : ℕ) (channel : List ℕ) (ts : List Transport) → AllByRecursion (IsLinkUsing uses ns) ts → IsTakenUp ts conn serial channel → IsUse uses (conn_text conn) serial channel
taken_used uses ns conn serial channel ts all some =
    all_some (IsLinkUsing uses ns) (HasTaken conn serial channel) (IsUse uses (conn_text conn) serial channel) ts
    (λ t link has. all_some (IsSent uses t.actor.holder) (IsOf serial channel) (IsUse uses (conn_text conn) serial channel) (take t.to_service.got t.to_service.put)
    (λ frame sent of. head_used uses t.actor.holder conn serial channel frame has.0 sent of) (all_take (IsSent uses t.actor.holder) t.to_service.got t.to_service.put link.sent) has.1) all some

-- where a refusal is so, a channel has no entry of it
module _ (uses : List Use) (owner : List ℕ → Option (List ℕ)) (world : World) (h : IsUsing uses owner world) (once : HasDecidedOnce world) where
  not_decided : (conn serial code number : ℕ) (c : List ℕ × List ChannelEvent) (entry_conn : ℕ) → slice_get world.channels number ≡ Some c → conn_text entry_conn ≡ conn_text conn → IsUse uses (conn_text entry_conn) serial c.0 → entry_conn < 2 ^ 32 → SomeOf (IsEntryOf entry_conn serial) (log the_site c.1)
      → Decides world.channels conn serial (IsRefused code) → ⊥
  not_decided conn serial code number c entry_conn found same used small entry refused =
      let there = some_get _ world.channels refused in
      let put = put_used uses there.1.0 conn serial there.1.1 (all_at (IsChannelUsing uses) there.0 there.1 world.channels there.2 h.puts) (put_in there.1.1 conn serial (some_weaker _ _ (λ x is. is.0) (decisions the_site there.1.1) there.3)) in
      let name : c.0 ≡ there.1.0 = h.single (conn_text entry_conn) serial c.0 there.1.0 used (subst (λ (x : List ℕ). IsUse uses x serial there.1.0) (sym same) put.0) in
      let number_is : number ≡ there.0 = number_once there.1.0 (names_of world.channels) number there.0 h.apart (subst (λ (x : List ℕ). HasNumber (names_of world.channels) x number) name (name_at number world.channels c found)) (name_at there.0 world.channels there.1 there.2) in
      let two : Some c ≡ Some there.1 = sym found ∙ subst (λ n. slice_get world.channels n ≡ Some there.1) (sym number_is) there.2 in
      let it : c ≡ there.1 = cc in
      let conn_is : entry_conn ≡ conn = conn_texts_differ entry_conn conn small put.1 same in
      let none = (all_at (λ (c : List ℕ × List ChannelEvent). DecidesOnce c.1) there.0 there.1 world.channels there.2 once).none conn serial code there.3 in
      all_some (λ (e : Entry). e.conn ≡ conn → e.serial ≡ Some serial → ⊥) (IsEntryOf conn serial) ⊥ (log the_site there.1.1) (λ e no is. no is.0 is.1) none
      (subst (λ (x : List ℕ × List ChannelEvent). SomeOf (IsEntryOf conn serial) (log the_site x.1)) it (subst (λ n. SomeOf (IsEntryOf n serial) (log the_site c.1)) conn_is entry))

  not_shut : (conn serial number : ℕ) (c : List ℕ × List ChannelEvent) (entry_conn : ℕ) → slice_get world.channels number ≡ Some c → conn_text entry_conn ≡ conn_text conn → IsUse uses (conn_text entry_conn) serial c.0 → IsShutOut (names_of world.channels) world.transports conn serial → ⊥
  not_shut conn serial number c entry_conn found same used out =
      let taken = taken_used uses (names_of world.channels) conn serial out.channel world.transports h.links out.taken in
      let name : c.0 ≡ out.channel = h.single (conn_text entry_conn) serial c.0 out.channel used (subst (λ (x : List ℕ). IsUse uses x serial out.channel) (sym same) taken) in
      at_none out.channel (names_of world.channels) number (number_none out.channel (names_of world.channels) out.none) (subst (λ (x : List ℕ). HasNumber (names_of world.channels) x number) name (name_at number world.channels c found))

  no_entry : (id : List ℕ) (conn serial code : ℕ) → conn_text conn ≡ id → IsRefusal world.channels world.transports conn serial code → HasNoEntry world id serial
  no_entry id conn serial code is refusal =
      get_all _ world.channels (λ number c found. none_all (λ (e : Entry). conn_text e.conn ≡ id) (λ (e : Entry). e.serial ≡ Some serial) (log the_site c.1) (λ some.
      let e = entry_pick id serial (log the_site c.1) some in
      let taken = entry_decided c.1 e.0 serial e.2 in
      let put = put_used uses c.0 e.0 serial c.1 (all_at (IsChannelUsing uses) number c world.channels found h.puts) (put_in c.1 e.0 serial (some_weaker _ _ (λ x both. both.0) (decisions the_site c.1) taken.1)) in
      elim refusal [
        | inl refused ↦ not_decided conn serial code number c e.0 found (e.1 ∙ sym is) put.0 put.1 e.2 refused
        | inr out ↦ not_shut conn serial number c e.0 found (e.1 ∙ sym is) put.0 out
      ]))

  answer_no_entry : (a : Answer) → IsAnswerSo (IsRefusal world.channels world.transports) a → IsOfNoEntry world a
  answer_no_entry (Ack id serial) is = tt
  answer_no_entry (Nack id serial code) is = no_entry id is.0 serial code is.1 is.2

all_no_entry : (world : World) → HasUses world → HasDecidedOnce world → AreAnswersSo world → AllOfNoEntry world
all_no_entry world u once listed = all_weaker _ _ (λ c is. all_weaker _ _ (answer_no_entry u.uses u.owner world u.fits once) c.1.answers is) world.clients listed

pub refused_has_no_entry : RefusedHasNoEntry
refused_has_no_entry = record {
  actions = λ actions. all_no_entry _ (always_kept.actions actions).uses (channels_decide_once.actions actions) (always_so.actions actions).listed;
  scripts = λ script. all_no_entry _ (always_kept.scripts script).uses (channels_decide_once.scripts script) (always_so.scripts script).listed;
}
