-- The record of a client while the channel goes on, and while it takes answers and entries.
use Rattle.std.proofs.Common.{◌≡◌, ◌⊎◌, inl, inr, ℕ, suc, ◌+◌, ◌-◌, ◌≤◌, Bool, true, false, cond, List, [], ◌∷◌, ◌++◌, length, take, drop, map, refl, sym, ◌∙◌, ap, subst, arith, length-append}
use Rattle.std.specs.Prelude.{Option, Some, None, slice_get, ◌==◌, ◌&&◌, not}
use Rattle.std.specs.List.{AllByRecursion}
use Rattle.std.proofs.lemmas.Bool.{eq-eqb, eqb-true}
use Rattle.std.proofs.lemmas.List.{map-append}
use Rattle.std.proofs.lemmas.Option.{slice_get_within}
use Rattle.rl_ids.specs.declared.serials.ChannelSerial.{ChannelSerial}
use Rattle.rl_types.specs.declared.messages.Entry.{Entry}
use Rattle.rl_types.specs.declared.messages.Body.{Body}
use Rattle.rl_types.specs.declared.messages.Given.TheVariants.{Ours}
use Rattle.rl_events.specs.declared.channel.ChannelEvent.{ChannelEvent}
use Rattle.rl_events.specs.declared.channel.ChannelEvent.TheVariants.{Join}
use Rattle.rl_model.specs.Verdict.{log, head, run_between}
use Rattle.rl_model.specs.Window.{is_retained}
use Rattle.rl_model.specs.Records.{got_of}
use Rattle.rl_model.specs.Reply.{is_resumed, joined_place}
use Rattle.rl_runs.specs.declared.findings.Cause.TheVariants.{Recovered, Moved}
use Rattle.rl_claims.specs.Sound.{MayBegin}
use Rattle.rl_claims.proofs.Sound.{each_weaker}
use Rattle.rl_claims.proofs.Runs.{log_grows, run_more, run_stays}
use Rattle.rl_clientmodel.specs.declared.runs.Beginning.{Beginning}
use Rattle.rl_clientmodel.specs.declared.runs.Beginning.TheVariants.{Answered, Unasked, Skipped}
use Rattle.rl_clientmodel.specs.declared.runs.Run.{Run}
use Rattle.rl_clientmodel.specs.Runs.{begun, answer_cause, goes_on_answered, got_onto, runs_with, same_serial, start_of}
use Rattle.rl_actormodel.specs.Replies.{Joining}
use Rattle.rl_lanes.specs.Lanes.{Setup, as_given}
use Rattle.rl_lanes.specs.Moves.{begun_with}
use Rattle.rl_lanes.specs.Sound.{IsBegun, AreBegun, DoFall, IsAmong, MayComeLater, ComesLater, LaterOnes, run_end, AreInOrder, IsSoundRun, AreSoundRuns}
use Rattle.rl_lanes.specs.Follows.{end_of, EndsAt, EndsWith, AllBelow, IsTold}
use Rattle.rl_lanes.proofs.Logs.{head_grows}

-- THE CHANNEL GOES ON

run_grows : (setup : Setup) (event : ChannelEvent) (past : List ChannelEvent) (run : Run) → IsSoundRun setup past run → IsSoundRun setup (event ∷ past) run
run_grows setup event past run sound =
    let g = log_grows setup.site event past in
    let from : ℕ = start_of run.beginning in
    let upto : ℕ = run_end run in
    let order : from ≤ upto = omega arith in
    record {
      within = omega (arith, sound.within, head_grows setup.site event past);
      run = sound.run ∙ ap (map got_of) (sym (ap (λ l. run_between l from upto) g.1 ∙ run_stays (log setup.site past) g.0 from upto order sound.within));
    }

begun_grows : (setup : Setup) (event : ChannelEvent) (past : List ChannelEvent) (number : ℕ) (beginning : Beginning) → IsBegun setup past number beginning → IsBegun setup (event ∷ past) number beginning
begun_grows setup event past number (Answered asked resumed told away) is = record {
  before = is.before;
  later = event ∷ is.later;
  taken = ap (λ events. event ∷ events) is.taken;
  at = is.at;
  presence = is.presence;
  objects = is.objects;
  replied = is.replied;
  may = is.may;
}
begun_grows setup event past number (Unasked held resumed told) is = absurd is
begun_grows setup event past number (Skipped held told) is = absurd is

all_begun_grow : (setup : Setup) (event : ChannelEvent) (past : List ChannelEvent) (numbers : List ℕ) (runs : List Run) → AreBegun setup past numbers runs → AreBegun setup (event ∷ past) numbers runs
all_begun_grow setup event past [] [] are = tt
all_begun_grow setup event past [] (run ∷ runs) are = absurd are
all_begun_grow setup event past (number ∷ numbers) [] are = absurd are
all_begun_grow setup event past (number ∷ numbers) (run ∷ runs) are =
    (begun_grows setup event past number run.beginning are.0, all_begun_grow setup event past numbers runs are.1)

-- with more Joins of the client's own, or not
pub runs_grow : (setup : Setup) (event : ChannelEvent) (past : List ChannelEvent) (joins more numbers : List ℕ) (runs : List Run) → ((n : ℕ) → IsAmong joins n → IsAmong more n)
    → AreSoundRuns setup past joins numbers runs → AreSoundRuns setup (event ∷ past) more numbers runs
runs_grow setup event past joins more numbers runs wider sound = record {
  each = each_weaker (IsSoundRun setup past) (IsSoundRun setup (event ∷ past)) (run_grows setup event past) runs sound.each;
  begin = all_begun_grow setup event past numbers runs sound.begin;
  fall = sound.fall;
  own = each_weaker (IsAmong joins) (IsAmong more) wider numbers sound.own;
  later = sound.later;
  in_order = sound.in_order;
}

pub below_more : (number : ℕ) (numbers : List ℕ) → AllBelow number numbers → AllBelow (suc number) numbers
below_more number [] below = tt
below_more number (one ∷ more) below = omega (arith, below)

-- no record goes beyond the log
pub end_within : (setup : Setup) (past : List ChannelEvent) (runs : List Run) → AllByRecursion (IsSoundRun setup past) runs → end_of runs ≤ head setup.site past
end_within setup past [] each = omega arith
end_within setup past (run ∷ runs) each = each.0.within

-- AN ANSWER IS TAKEN

abbrev pub joining_of : ChannelSerial → Bool → Bool → Bool → Joining
joining_of told resumed presence objects = record { serial = told; resumed = resumed; presence = presence; objects = objects }

-- the record after it, where the latest run goes on or not
abbrev pub Grown : Setup → List ChannelEvent → List ℕ → ℕ → List ℕ → List Run → Beginning → ℕ → Bool → Type 0
Grown setup past joins number numbers runs beginning place goes_on =
    AreSoundRuns setup past joins (begun_with (not goes_on) number numbers) (runs_with goes_on beginning runs)
    × EndsAt (runs_with goes_on beginning runs) place
    × AllBelow (length past) (begun_with (not goes_on) number numbers)

falls : (number : ℕ) (numbers : List ℕ) → AllBelow number numbers → DoFall numbers → DoFall (number ∷ numbers)
falls number [] below fall = tt
falls number (one ∷ more) below fall = (below, fall)

comes : (run : Run) (runs : List Run) → (runs ≡ []) ⊎ ComesLater run → LaterOnes runs → LaterOnes (run ∷ runs)
comes run [] may later = tt
comes run (earlier ∷ runs) (inl none) later = absurd (cc)
comes run (earlier ∷ runs) (inr may) later = (may, later)

follows_on : (run : Run) (runs : List Run) → (runs ≡ []) ⊎ (end_of runs ≤ start_of run.beginning) → AreInOrder runs → AreInOrder (run ∷ runs)
follows_on run [] low order = tt
follows_on run (earlier ∷ runs) (inl none) order = absurd (cc)
follows_on run (earlier ∷ runs) (inr low) order = (low, order)

-- a run begins
begins : (setup : Setup) (past : List ChannelEvent) (joins numbers : List ℕ) (number : ℕ) (runs : List Run) (asked : Option ChannelSerial) (resumed : Bool) (serial : ChannelSerial) (presence objects away : Bool)
    → (told : IsTold setup past (end_of runs) joins numbers (as_given asked) number (joining_of serial resumed presence objects))
    → MayBegin setup.epoch setup.site (record { before = told.before; asked = as_given asked }) (answer_cause asked resumed serial)
    → (runs ≡ []) ⊎ MayComeLater (answer_cause asked resumed serial) away
    → (runs ≡ []) ⊎ (end_of runs ≤ serial.place)
    → AreSoundRuns setup past joins numbers runs
    → Grown setup past joins number numbers runs (Answered asked resumed serial away) serial.place false
begins setup past joins numbers number runs asked resumed serial presence objects away told may later low sound = (
  record {
    each = (record { within = omega (arith, told.within); run = sym (ap (λ n. map got_of (take n (drop serial.place (log setup.site past)))) none) }, sound.each);
    begin = (
      record {
        before = told.before;
        later = told.later;
        taken = told.taken;
        at = told.at;
        presence = presence;
        objects = objects;
        replied = told.replied;
        may = may;
      },
      sound.begin,
    );
    fall = falls number numbers told.above sound.fall;
    own = (told.own, sound.own);
    later = comes (begun (Answered asked resumed serial away)) runs later sound.later;
    in_order = follows_on (begun (Answered asked resumed serial away)) runs low sound.in_order;
  },
  omega arith,
  omega (arith, told.at, ap length told.taken, length-append told.later (Join (as_given asked) ∷ told.before)),
) where
  none : serial.place + 0 - serial.place ≡ 0
  none = omega arith

both : (a b : Bool) → (a && b) ≡ true → (a ≡ true) × (b ≡ true)
both true true is = (refl, refl)
both true false is = absurd (cc)
both false b is = absurd (cc)

-- an answer that is resumed tells what was asked
same_told : (epoch : ℕ) (site : List ℕ) (before : List ChannelEvent) (asked serial : ChannelSerial) → is_resumed epoch site before (Some (Ours asked)) ≡ true
    → serial ≡ record { epoch = epoch; place = joined_place epoch site before (Some (Ours asked)) } → (serial.place ≡ asked.place) × (same_serial asked serial ≡ true)
same_told epoch site before asked serial resumed tells =
    let place : serial.place ≡ asked.place = ap (λ (s : ChannelSerial). s.place) tells ∙ ap (λ b. cond b asked.place (head site before)) resumed in
    let parts = both (asked.epoch == epoch) (is_retained site before asked.place) resumed in
    let epochs : asked.epoch ≡ serial.epoch = eqb-true asked.epoch epoch parts.0 ∙ sym (ap (λ (s : ChannelSerial). s.epoch) tells) in
    (place, ap (λ b. b && (asked.place == serial.place)) (eq-eqb asked.epoch serial.epoch epochs) ∙ eq-eqb asked.place serial.place (sym place))

-- one that is not tells the head
head_told : (epoch : ℕ) (site : List ℕ) (before : List ChannelEvent) (asked serial : ChannelSerial) → is_resumed epoch site before (Some (Ours asked)) ≡ false
    → serial ≡ record { epoch = epoch; place = joined_place epoch site before (Some (Ours asked)) } → serial.place ≡ head site before
head_told epoch site before asked serial resumed tells = ap (λ (s : ChannelSerial). s.place) tells ∙ ap (λ b. cond b asked.place (head site before)) resumed

pub answer_taken : (setup : Setup) (past : List ChannelEvent) (joins numbers : List ℕ) (number : ℕ) (runs : List Run) (asked : Option ChannelSerial) (resumed : Bool) (serial : ChannelSerial) (presence objects away : Bool)
    → IsTold setup past (end_of runs) joins numbers (as_given asked) number (joining_of serial resumed presence objects)
    → EndsWith runs away asked → AllBelow (length past) numbers → AreSoundRuns setup past joins numbers runs
    → Grown setup past joins number numbers runs (Answered asked resumed serial away) serial.place (goes_on_answered asked resumed serial runs)
answer_taken setup past joins numbers number runs None resumed serial presence objects away told ends early sound =
    let at : serial.place ≡ head setup.site told.before = ap (λ (s : ChannelSerial). s.place) told.tells in
    begins setup past joins numbers number runs None resumed serial presence objects away told refl ends (inr (omega (arith, told.low, at))) sound
answer_taken setup past joins numbers number [] (Some asked) false serial presence objects away told ends early sound =
    begins setup past joins numbers number [] (Some asked) false serial presence objects away told (refl, told.resumes) (inl refl) (inl refl) sound
answer_taken setup past joins numbers number (run ∷ runs) (Some asked) false serial presence objects away told ends early sound =
    let at = head_told setup.epoch setup.site told.before asked serial told.resumes told.tells in
    begins setup past joins numbers number (run ∷ runs) (Some asked) false serial presence objects away told (refl, told.resumes) (inr tt) (inr (omega (arith, told.low, at))) sound
answer_taken setup past joins numbers number [] (Some asked) true serial presence objects away told ends early sound =
    let same = same_told setup.epoch setup.site told.before asked serial told.resumes told.tells in
    let may : MayBegin setup.epoch setup.site (record { before = told.before; asked = Some (Ours asked) }) (answer_cause (Some asked) true serial) =
    subst (λ (b : Bool). MayBegin setup.epoch setup.site (record { before = told.before; asked = Some (Ours asked) }) (cond b (Recovered (Ours asked)) (Moved (Ours asked) serial)))
    (sym same.1) (refl, told.resumes) in
    begins setup past joins numbers number [] (Some asked) true serial presence objects away told may (inl refl) (inl refl) sound
answer_taken setup past joins numbers number (run ∷ runs) (Some asked) true serial presence objects away told ends early sound =
    let same = same_told setup.epoch setup.site told.before asked serial told.resumes told.tells in
    subst (λ (b : Bool). Grown setup past joins number numbers (run ∷ runs) (Answered (Some asked) true serial away) serial.place b)
    (sym same.1) (sound, same.0 ∙ ends, early)

-- AN ENTRY IS GOT

one_more : (setup : Setup) (past : List ChannelEvent) (run : Run) (e : Entry) → IsSoundRun setup past run → e.place ≡ suc (run_end run) → slice_get (log setup.site past) (run_end run) ≡ Some e
    → IsSoundRun setup past (record run { got = run.got ++ (e.place, e.body) ∷ [] })
one_more setup past run e sound at found =
    let from : ℕ = start_of run.beginning in
    let upto : ℕ = run_end run in
    let order : from ≤ upto = omega arith in
    let next : from + length (run.got ++ (e.place, e.body) ∷ []) ≡ suc upto = omega (arith, length-append run.got ((e.place, e.body) ∷ [])) in
    record {
      within = omega (arith, next, slice_get_within (log setup.site past) upto e found);
      run =
          ap (λ got. got ++ (e.place, e.body) ∷ []) sound.run
          ∙ sym (map-append got_of (run_between (log setup.site past) from upto) (e ∷ []))
          ∙ ap (map got_of) (sym (run_more (log setup.site past) from upto e order found))
          ∙ ap (λ n. map got_of (run_between (log setup.site past) from n)) (sym next);
    }

begun_got : (setup : Setup) (past : List ChannelEvent) (numbers : List ℕ) (run : Run) (runs : List Run) (got : List (ℕ × Body)) → AreBegun setup past numbers (run ∷ runs) → AreBegun setup past numbers (record run { got = got } ∷ runs)
begun_got setup past [] run runs got are = absurd are
begun_got setup past (number ∷ numbers) run runs got are = are

later_got : (run : Run) (runs : List Run) (got : List (ℕ × Body)) → LaterOnes (run ∷ runs) → LaterOnes (record run { got = got } ∷ runs)
later_got run [] got later = tt
later_got run (earlier ∷ runs) got later = later

order_got : (run : Run) (runs : List Run) (got : List (ℕ × Body)) → AreInOrder (run ∷ runs) → AreInOrder (record run { got = got } ∷ runs)
order_got run [] got order = tt
order_got run (earlier ∷ runs) got order = order

pub entry_taken : (setup : Setup) (past : List ChannelEvent) (joins numbers : List ℕ) (runs : List Run) (k : ℕ) (e : Entry)
    → e.place ≡ suc k → slice_get (log setup.site past) k ≡ Some e → EndsAt runs k → AreSoundRuns setup past joins numbers runs
    → AreSoundRuns setup past joins numbers (got_onto (e.place, e.body) runs) × EndsAt (got_onto (e.place, e.body) runs) e.place
entry_taken setup past joins numbers [] k e at found ends sound = (sound, tt)
entry_taken setup past joins numbers (run ∷ runs) k e at found ends sound =
    let found' : slice_get (log setup.site past) (run_end run) ≡ Some e = subst (λ n. slice_get (log setup.site past) n ≡ Some e) ends found in (
      record {
        each = (one_more setup past run e sound.each.0 (at ∙ ap suc ends) found', sound.each.1);
        begin = begun_got setup past numbers run runs (run.got ++ (e.place, e.body) ∷ []) sound.begin;
        fall = sound.fall;
        own = sound.own;
        later = later_got run runs (run.got ++ (e.place, e.body) ∷ []) sound.later;
        in_order = order_got run runs (run.got ++ (e.place, e.body) ∷ []) sound.in_order;
      },
      omega (arith, at, ends, length-append run.got ((e.place, e.body) ∷ [])),
    )
