-- What a lane keeps where the client gets an answer.
use Rattle.std.proofs.Common.{◌≡◌, ◌⊎◌, inl, inr, ℕ, zero, suc, ◌-◌, ◌^◌, ◌<◌, Bool, true, false, cond, List, [], ◌∷◌, ◌++◌, length, refl, sym, ◌∙◌, ap, subst, arith}
use Rattle.std.specs.Prelude.{Option, Some, ◌==◌, ◌&&◌, not}
use Rattle.rl_ids.specs.declared.serials.ChannelSerial.{ChannelSerial}
use Rattle.rl_types.specs.declared.messages.Given.{Given}
use Rattle.rl_types.specs.declared.states.ChanState.{ChanState}
use Rattle.rl_types.specs.declared.states.ChanState.TheVariants as chan
use Rattle.rl_events.specs.declared.channel.ChannelEvent.{ChannelEvent}
use Rattle.rl_chansm.specs.Owed.{awaits_attached, is_last, lowered, takes_attached, takes_detached, takes_error, takes_unasked}
use Rattle.rl_chansm.specs.Rules.{is_attached}
use Rattle.rl_chansm.specs.declared.table.ChanEvent.TheVariants as event
use Rattle.rl_clientmodel.specs.declared.runs.Beginning.TheVariants.{Answered}
use Rattle.rl_clientmodel.specs.Runs.{goes_on_answered, runs_with}
use Rattle.rl_clientmodel.specs.Channels.{ClientChannel, asks, failed, moved, one_less, told}
use Rattle.rl_clientmodel.specs.Answers as answers
use Rattle.rl_clientmodel.specs.Answers.{answered, attached_got, told_unasked}
use Rattle.rl_actormodel.specs.declared.parts.Session.{Session}
use Rattle.rl_actormodel.specs.Attaches.{flags_of}
use Rattle.rl_actormodel.specs.Replies.{Joining}
use Rattle.rl_lanes.specs.Lanes.{Setup, Ask, ToAttach, ToDetach, as_given, Coming, Tells, Leaves, Fails, Gives, Shows, Link}
use Rattle.rl_lanes.specs.Moves.{asks_in, begun_with, begins, got, asked_by}
use Rattle.rl_lanes.specs.Follows.{Took, Began, answered_in, OfLast, Part, part_of, end_of, IsAskOf, IsTold, Flows, IsLinked, HoldsOnLink, Holds}
use Rattle.rl_lanes.proofs.Flight.{later_ones, only_one}
use Rattle.rl_lanes.proofs.Records.{Grown, answer_taken}
use Rattle.rl_lanes.proofs.Holds.{moves}
use Rattle.rl_lanes.proofs.Sends.{WithAsks, asks_none}
use Rattle.rl_lanes.proofs.Gets.{link_of, live_true, none_asked}

-- THE COUNT

lowered_is : (k n : ℕ) → k ≡ suc n → k < 2 ^ 64 - 1 → lowered k ≡ n
lowered_is k n is few = grind (arith, is)

lowered_stuck : (k : ℕ) → k ≡ 2 ^ 64 - 1 → lowered k ≡ k
lowered_stuck k is = grind (arith, is)

some_owed : (k n : ℕ) (state : ChanState) → k ≡ suc n → takes_unasked k state ≡ false
some_owed k n state is = grind (arith, is)

-- AN ANSWER IS PASSED OVER

abbrev pub IsAnswer : Coming → Ask → Type 0
IsAnswer (Tells given number joining) ask = ask ≡ ToAttach given
IsAnswer Leaves ask = ask ≡ ToDetach
IsAnswer (Fails given code) ask = ask ≡ ToAttach given
IsAnswer coming ask = ⊥

answer_asks : (one : Coming) (ask : Ask) (more : List Coming) → IsAnswer one ask → answered_in (one ∷ more) ≡ ask ∷ answered_in more
answer_asks (Tells given number joining) ask more is = ap (λ a. a ∷ answered_in more) (sym is)
answer_asks Leaves ask more is = ap (λ a. a ∷ answered_in more) (sym is)
answer_asks (Fails given code) ask more is = ap (λ a. a ∷ answered_in more) (sym is)
answer_asks (Gives epoch entry) ask more is = absurd is
answer_asks (Shows page) ask more is = absurd is

flows_then : (setup : Setup) (n : ℕ) (took : List Took) (one : Coming) (ask : Ask) (more : List Coming) (asked : List Ask) (session : Option Session) → IsAnswer one ask
    → Flows setup (suc (suc n)) took (link_of (one ∷ more) asked session) → Flows setup (suc n) took (link_of more asked session)
flows_then setup n took (Tells given number joining) ask more asked session is c = record { fits = c.fits; matches = c.matches }
flows_then setup n took Leaves ask more asked session is c = record { fits = c.fits; matches = c.matches }
flows_then setup n took (Fails given code) ask more asked session is c = record { fits = c.fits; matches = c.matches }
flows_then setup n took (Gives epoch entry) ask more asked session is c = absurd is
flows_then setup n took (Shows page) ask more asked session is c = absurd is

abbrev less_owed : Part → Part
less_owed part = record part { owed = lowered part.owed }

-- so many answers were owed
owed_then : (setup : Setup) (past : List ChannelEvent) (part : Part) (took : List Took) (joins begun : List ℕ) (one : Coming) (ask : Ask) (more : List Coming) (asked : List Ask) (session : Option Session) → IsAnswer one ask
    → IsLinked setup past part took joins begun (link_of (one ∷ more) asked session) → part.owed ≡ suc (length (answered_in more ++ asked))
owed_then setup past part took joins begun one ask more asked session is old = old.owed ∙ ap (λ xs. length (xs ++ asked)) (answer_asks one ask more is)

passed_linked : (setup : Setup) (past : List ChannelEvent) (part : Part) (took : List Took) (joins begun : List ℕ) (one : Coming) (ask : Ask) (more : List Coming) (asked : List Ask) (session : Option Session) → IsAnswer one ask
    → IsLinked setup past part took joins begun (link_of (one ∷ more) asked session) → IsLinked setup past (less_owed part) took joins begun (link_of more asked session)
passed_linked setup past part took joins begun one ask more asked session is old = record {
  owed = lower;
  few = omega (arith, lower, count, old.few);
  told = old.told.1;
  last = later_ones (IsAskOf part.runs part.away part.asked) ask (answered_in more ++ asked) (subst (λ xs. OfLast (IsAskOf part.runs part.away part.asked) (xs ++ asked)) (answer_asks one ask more is) old.last);
  nothing = λ a. absurd (never a);
  flows = λ may. by_count (length (answered_in more ++ asked)) refl may;
}
  where
    count : part.owed ≡ suc (length (answered_in more ++ asked))
    count = owed_then setup past part took joins begun one ask more asked session is old

    lower : lowered part.owed ≡ length (answered_in more ++ asked)
    lower = lowered_is part.owed (length (answered_in more ++ asked)) count old.few

    never : part.state ≡ chan.Attached → ⊥
    never a = let none = old.nothing a in absurd (omega (arith, none, count))

    by_count : (n : ℕ) → length (answered_in more ++ asked) ≡ n → (lowered part.owed ≡ 0 → part.state ≡ chan.Attached) → Flows setup (lowered part.owed) took (link_of more asked session)
    by_count zero last may = absurd (never (may (lower ∙ last)))
    by_count (suc n) last may =
        let c : Flows setup part.owed took (link_of (one ∷ more) asked session) = old.flows (λ none. absurd (omega (arith, none, count))) in
        subst (λ k. Flows setup k took (link_of more asked session)) (sym (lower ∙ last))
        (flows_then setup n took one ask more asked session is (subst (λ k. Flows setup k took (link_of (one ∷ more) asked session)) (count ∙ ap suc last) c))

passed_on_link : (setup : Setup) (past : List ChannelEvent) (part : Part) (took : List Took) (joins begun : List ℕ) (one : Coming) (ask : Ask) (more : List Coming) (asked : List Ask) (session : Option Session) → IsAnswer one ask
    → HoldsOnLink setup past part took joins begun (Some (link_of (one ∷ more) asked session)) → HoldsOnLink setup past (less_owed part) took joins begun (Some (link_of more asked session))
passed_on_link setup past part took joins begun one ask more asked session is (inl old) = inl (passed_linked setup past part took joins begun one ask more asked session is old)
passed_on_link setup past part took joins begun one ask more asked session is (inr stuck) = inr (record { owed = lowered_stuck part.owed stuck.owed ∙ stuck.owed; never = stuck.never })

pub answer_passed : (setup : Setup) (past : List ChannelEvent) (part : Part) (joins begun : List ℕ) (one : Coming) (ask : Ask) (more : List Coming) (asked : List Ask) (session : Option Session) → IsAnswer one ask
    → Holds setup past part joins begun (Some (link_of (one ∷ more) asked session)) → Holds setup past (less_owed part) joins begun (Some (link_of more asked session))
answer_passed setup past part joins begun one ask more asked session is holds = record {
  sound = holds.sound;
  ends = holds.ends;
  early = holds.early;
  took = holds.took;
  stands = λ a. let s = holds.stands a in record { serial = s.serial; held = s.held; epoch = s.epoch; place = s.place };
  linked = passed_on_link setup past part holds.took joins begun one ask more asked session is holds.linked;
}

-- no answer is unasked for
asked_for : (setup : Setup) (past : List ChannelEvent) (part : Part) (took : List Took) (joins begun : List ℕ) (one : Coming) (ask : Ask) (more : List Coming) (asked : List Ask) (session : Option Session) → IsAnswer one ask
    → HoldsOnLink setup past part took joins begun (Some (link_of (one ∷ more) asked session)) → takes_unasked part.owed part.state ≡ false
asked_for setup past part took joins begun one ask more asked session is (inl old) =
    some_owed part.owed (length (answered_in more ++ asked)) part.state (owed_then setup past part took joins begun one ask more asked session is old)
asked_for setup past part took joins begun one ask more asked session is (inr stuck) = ap (λ k. (k == 0) && is_attached part.state) stuck.owed

-- DETACHED, AND ERROR

detach_or_not : (setup : Setup) (past : List ChannelEvent) (channel : ClientChannel) (joins begun : List ℕ) (link : Option Link) (taken : Bool)
    → Holds setup past (part_of (one_less channel)) joins begun link → Holds setup past (part_of (cond taken (moved event.DetachedTaken (one_less channel)) (one_less channel))) joins begun link
detach_or_not setup past channel joins begun link true holds = moves setup past event.DetachedTaken (one_less channel) joins begun link (λ is. absurd (cc)) holds
detach_or_not setup past channel joins begun link false holds = holds

fail_or_not : (setup : Setup) (past : List ChannelEvent) (channel : ClientChannel) (joins begun : List ℕ) (link : Option Link) (taken : Bool)
    → Holds setup past (part_of (one_less channel)) joins begun link → Holds setup past (part_of (cond taken (moved event.ErrorTaken (one_less channel)) (one_less channel))) joins begun link
fail_or_not setup past channel joins begun link true holds = moves setup past event.ErrorTaken (one_less channel) joins begun link (λ is. absurd (cc)) holds
fail_or_not setup past channel joins begun link false holds = holds

pub leaves_gets : (setup : Setup) (past : List ChannelEvent) (connected : Bool) (now : ℕ) (channel : ClientChannel) (joins begun : List ℕ) (more : List Coming) (asked : List Ask) (session : Option Session)
    → Holds setup past (part_of channel) joins begun (Some (link_of (Leaves ∷ more) asked session))
    → WithAsks setup past (got setup Leaves connected now channel) joins begun (asked_by setup Leaves connected now channel) (Some (link_of more asked session))
leaves_gets setup past connected now channel joins begun more asked session holds =
    let unasked : takes_unasked channel.owed channel.state ≡ false = asked_for setup past (part_of channel) holds.took joins begun Leaves ToDetach more asked session refl holds.linked in
    let after : ClientChannel = cond (takes_detached channel.owed channel.state) (moved event.DetachedTaken (one_less channel)) (one_less channel) in
    subst (λ (b : Bool). WithAsks setup past (cond b (told connected event.DetachedUnasked now channel) after) joins begun (asks_in (cond b (asks connected event.DetachedUnasked setup.name channel) [])) (Some (link_of more asked session)))
    (sym unasked)
    (asks_none setup past after joins begun (Some (link_of more asked session))
    (detach_or_not setup past channel joins begun (Some (link_of more asked session)) (takes_detached channel.owed channel.state)
    (answer_passed setup past (part_of channel) joins begun Leaves ToDetach more asked session refl holds)))

pub fails_gets : (setup : Setup) (past : List ChannelEvent) (given : Option Given) (code : ℕ) (channel : ClientChannel) (joins begun : List ℕ) (more : List Coming) (asked : List Ask) (session : Option Session)
    → Holds setup past (part_of channel) joins begun (Some (link_of (Fails given code ∷ more) asked session))
    → Holds setup past (part_of (failed channel)) joins begun (Some (link_of more asked session))
fails_gets setup past given code channel joins begun more asked session holds =
    fail_or_not setup past channel joins begun (Some (link_of more asked session)) (takes_error channel.owed channel.state)
    (answer_passed setup past (part_of channel) joins begun (Fails given code) (ToAttach given) more asked session refl holds)

-- ATTACHED

-- the flag RESUMED says it
resumed_by : (joining : Joining) → answers.is_resumed (flags_of joining) ≡ joining.resumed
resumed_by joining = by_flags joining.presence joining.resumed joining.objects where
  by_flags : (presence resumed objects : Bool) → answers.is_resumed (flags_of (record { serial = joining.serial; resumed = resumed; presence = presence; objects = objects })) ≡ resumed
  by_flags true true true = refl
  by_flags true true false = refl
  by_flags true false true = refl
  by_flags true false false = refl
  by_flags false true true = refl
  by_flags false true false = refl
  by_flags false false true = refl
  by_flags false false false = refl

abbrev pub TellsGets : Setup → List ChannelEvent → ℕ → Joining → ClientChannel → List ℕ → List ℕ → List Coming → List Ask → Option Session → Type 0
TellsGets setup past number joining channel joins begun more asked session =
    Holds setup past (part_of (attached_got (flags_of joining) joining.serial channel)) joins (begun_with (begins (flags_of joining) joining.serial channel) number begun) (Some (link_of more asked session))

-- it is not the one that is awaited
tells_passed : (setup : Setup) (past : List ChannelEvent) (given : Option Given) (number : ℕ) (joining : Joining) (channel : ClientChannel) (joins begun : List ℕ) (more : List Coming) (asked : List Ask) (session : Option Session)
    → takes_attached channel.owed channel.state ≡ false → takes_unasked channel.owed channel.state ≡ false
    → Holds setup past (part_of channel) joins begun (Some (link_of (Tells given number joining ∷ more) asked session))
    → TellsGets setup past number joining channel joins begun more asked session
tells_passed setup past given number joining channel joins begun more asked session other unasked holds =
    subst (λ (b : Bool). Holds setup past (part_of (cond b (answered (flags_of joining) joining.serial channel) (cond (takes_unasked channel.owed channel.state) (told_unasked (flags_of joining) joining.serial channel) (one_less channel))))
    joins (begun_with (b && not (goes_on_answered channel.asked (answers.is_resumed (flags_of joining)) joining.serial channel.runs)) number begun) (Some (link_of more asked session)))
    (sym other)
    (subst (λ (b : Bool). Holds setup past (part_of (cond b (told_unasked (flags_of joining) joining.serial channel) (one_less channel))) joins begun (Some (link_of more asked session)))
    (sym unasked)
    (answer_passed setup past (part_of channel) joins begun (Tells given number joining) (ToAttach given) more asked session refl holds))

-- the channel attaches, and one answer is owed
abbrev awaiting : ClientChannel → ClientChannel
awaiting channel = record channel { state = chan.Attaching; owed = 1 }

tells_taken : (setup : Setup) (past : List ChannelEvent) (given : Option Given) (number : ℕ) (joining : Joining) (channel : ClientChannel) (joins begun : List ℕ) (more : List Coming) (asked : List Ask) (session : Option Session)
    → (holds : Holds setup past (part_of (awaiting channel)) joins begun (Some (link_of (Tells given number joining ∷ more) asked session)))
    → IsLinked setup past (part_of (awaiting channel)) holds.took joins begun (link_of (Tells given number joining ∷ more) asked session)
    → TellsGets setup past number joining (awaiting channel) joins begun more asked session
tells_taken setup past given number joining channel joins begun more asked session holds old = record {
  sound = grown.0;
  ends = grown.1;
  early = grown.2;
  took = took;
  stands = λ _. record { serial = joining.serial; held = refl; epoch = ap (λ (s : ChannelSerial). s.epoch) is_told.tells; place = refl };
  linked = inl (record {
    owed = none;
    few = omega arith;
    told = live_true setup past (end_of channel.runs) (end_of (runs_with goes_on (Answered channel.asked (answers.is_resumed (flags_of joining)) joining.serial channel.away) channel.runs)) joins begun
        (begun_with (not goes_on) number begun) took more c.fits old.told.1;
    last = none_asked (IsAskOf (runs_with goes_on (Answered channel.asked (answers.is_resumed (flags_of joining)) joining.serial channel.away) channel.runs) (channel.away && goes_on) channel.asked) (answered_in more ++ asked) none;
    nothing = λ a. refl;
    flows = λ may. record { fits = c.fits; matches = c.matches };
  });
}
  where
    goes_on : Bool
    goes_on = goes_on_answered channel.asked (answers.is_resumed (flags_of joining)) joining.serial channel.runs

    took : List Took
    took = Began number joining ∷ holds.took

    none : zero ≡ length (answered_in more ++ asked)
    none = omega (arith, old.owed)

    own : IsAskOf channel.runs channel.away channel.asked (ToAttach given)
    own = only_one (IsAskOf channel.runs channel.away channel.asked) (ToAttach given) (answered_in more ++ asked) old.last none

    c : Flows setup 1 holds.took (link_of (Tells given number joining ∷ more) asked session)
    c = old.flows (λ none. absurd (cc))

    is_told : IsTold setup past (end_of channel.runs) joins begun (as_given channel.asked) number joining
    is_told = subst (λ g. IsTold setup past (end_of channel.runs) joins begun g number joining) own.0 old.told.0

    grown : Grown setup past joins number begun channel.runs (Answered channel.asked (answers.is_resumed (flags_of joining)) joining.serial channel.away) joining.serial.place goes_on
    grown =
        subst (λ (b : Bool). Grown setup past joins number begun channel.runs (Answered channel.asked b joining.serial channel.away) joining.serial.place (goes_on_answered channel.asked b joining.serial channel.runs))
        (sym (resumed_by joining))
        (answer_taken setup past joins begun number channel.runs channel.asked joining.resumed joining.serial joining.presence joining.objects channel.away is_told own.1 holds.early holds.sound)

-- by how many are owed, and by the state
not_last : (n m : ℕ) (state : ChanState) → lowered n ≡ suc m → takes_attached n state ≡ false
not_last n m state is = grind (arith, is)

not_awaited : (n : ℕ) (state : ChanState) → awaits_attached state ≡ false → takes_attached n state ≡ false
not_awaited n state is = by_last (is_last n) where
  by_last : (last : Bool) → (last && awaits_attached state) ≡ false
  by_last true = is
  by_last false = refl

awaits_or_not : (state : ChanState) → (state ≡ chan.Attaching) ⊎ (awaits_attached state ≡ false)
awaits_or_not chan.Attaching = inl refl
awaits_or_not chan.Initialized = inr refl
awaits_or_not chan.Attached = inr refl
awaits_or_not chan.Detaching = inr refl
awaits_or_not chan.Detached = inr refl
awaits_or_not chan.Suspended = inr refl
awaits_or_not chan.Failed = inr refl

abbrev counted : ChanState → ℕ → ClientChannel → ClientChannel
counted state owed channel = record channel { state = state; owed = owed }

tells_awaited : (setup : Setup) (past : List ChannelEvent) (given : Option Given) (number : ℕ) (joining : Joining) (state : ChanState) (owed : ℕ) (channel : ClientChannel) (joins begun : List ℕ) (more : List Coming) (asked : List Ask) (session : Option Session)
    → state ≡ chan.Attaching → owed ≡ 1
    → (holds : Holds setup past (part_of (counted state owed channel)) joins begun (Some (link_of (Tells given number joining ∷ more) asked session)))
    → IsLinked setup past (part_of (counted state owed channel)) holds.took joins begun (link_of (Tells given number joining ∷ more) asked session)
    → TellsGets setup past number joining (counted state owed channel) joins begun more asked session
tells_awaited setup past given number joining state owed channel joins begun more asked session st one holds old =
    let P : ChanState → ℕ → Type 0 = λ s n.
    (h : Holds setup past (part_of (counted s n channel)) joins begun (Some (link_of (Tells given number joining ∷ more) asked session)))
    → IsLinked setup past (part_of (counted s n channel)) h.took joins begun (link_of (Tells given number joining ∷ more) asked session)
    → TellsGets setup past number joining (counted s n channel) joins begun more asked session in
    let at_one : P chan.Attaching 1 = tells_taken setup past given number joining channel joins begun more asked session in
    subst (λ s. P s owed) (sym st) (subst (λ n. P chan.Attaching n) (sym one) at_one) holds old

tells_linked : (setup : Setup) (past : List ChannelEvent) (given : Option Given) (number : ℕ) (joining : Joining) (channel : ClientChannel) (joins begun : List ℕ) (more : List Coming) (asked : List Ask) (session : Option Session)
    → takes_unasked channel.owed channel.state ≡ false
    → (holds : Holds setup past (part_of channel) joins begun (Some (link_of (Tells given number joining ∷ more) asked session)))
    → IsLinked setup past (part_of channel) holds.took joins begun (link_of (Tells given number joining ∷ more) asked session)
    → TellsGets setup past number joining channel joins begun more asked session
tells_linked setup past given number joining channel joins begun more asked session unasked holds old = by_count (length (answered_in more ++ asked)) refl (awaits_or_not channel.state) where
  count : channel.owed ≡ suc (length (answered_in more ++ asked))
  count = owed_then setup past (part_of channel) holds.took joins begun (Tells given number joining) (ToAttach given) more asked session refl old

  by_count : (n : ℕ) → length (answered_in more ++ asked) ≡ n → (channel.state ≡ chan.Attaching) ⊎ (awaits_attached channel.state ≡ false) → TellsGets setup past number joining channel joins begun more asked session
  by_count (suc m) is either =
      tells_passed setup past given number joining channel joins begun more asked session
      (not_last channel.owed m channel.state (lowered_is channel.owed (length (answered_in more ++ asked)) count old.few ∙ is)) unasked holds
  by_count zero is (inl st) = tells_awaited setup past given number joining channel.state channel.owed channel joins begun more asked session st (count ∙ ap suc is) holds old
  by_count zero is (inr not_awaiting) = tells_passed setup past given number joining channel joins begun more asked session (not_awaited channel.owed channel.state not_awaiting) unasked holds

tells_on_link : (setup : Setup) (past : List ChannelEvent) (given : Option Given) (number : ℕ) (joining : Joining) (channel : ClientChannel) (joins begun : List ℕ) (more : List Coming) (asked : List Ask) (session : Option Session)
    → takes_unasked channel.owed channel.state ≡ false
    → (holds : Holds setup past (part_of channel) joins begun (Some (link_of (Tells given number joining ∷ more) asked session)))
    → HoldsOnLink setup past (part_of channel) holds.took joins begun (Some (link_of (Tells given number joining ∷ more) asked session))
    → TellsGets setup past number joining channel joins begun more asked session
tells_on_link setup past given number joining channel joins begun more asked session unasked holds (inl old) = tells_linked setup past given number joining channel joins begun more asked session unasked holds old
tells_on_link setup past given number joining channel joins begun more asked session unasked holds (inr stuck) =
    tells_passed setup past given number joining channel joins begun more asked session (ap (λ n. takes_attached n channel.state) stuck.owed) unasked holds

pub tells_gets : (setup : Setup) (past : List ChannelEvent) (given : Option Given) (number : ℕ) (joining : Joining) (channel : ClientChannel) (joins begun : List ℕ) (more : List Coming) (asked : List Ask) (session : Option Session)
    → Holds setup past (part_of channel) joins begun (Some (link_of (Tells given number joining ∷ more) asked session))
    → TellsGets setup past number joining channel joins begun more asked session
tells_gets setup past given number joining channel joins begun more asked session holds =
    tells_on_link setup past given number joining channel joins begun more asked session
    (asked_for setup past (part_of channel) holds.took joins begun (Tells given number joining) (ToAttach given) more asked session refl holds.linked) holds holds.linked
