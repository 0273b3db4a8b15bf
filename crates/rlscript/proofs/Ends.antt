-- How a call ends in each of its cases.
use Rattle.std.proofs.Common.{◌≡◌, ◌⊎◌, inl, inr, ℕ, ◌+◌, ◌-◌, ◌≤◌, Bool, true, false, cond, List, [], ◌∷◌, ◌++◌, length, refl, sym, ◌∙◌, ap, subst, arith, not, ◌||◌, length-append, append_assoc, zero-add}
use Rattle.std.proofs.lemmas.Bool.Decides.{nat_tests}
use Rattle.std.proofs.lemmas.List.Sums.{sum_by-append}
use Rattle.std.specs.Prelude.{is_some, slice_get, count_by, nat_lt, Option, Some, None, Result, Ok, Err, IsTrue, IsFalse, IsSome, IfSome}
use Rattle.std.specs.Io.KnownBytes.{Consumes, Keeps, IsAtEnd}
use Rattle.std.proofs.lemmas.List.{append_cancel_right}
use Rattle.std.proofs.KnownBytes.{Keeps-refl}
use Rattle.rl_runs.specs.declared.script.Line.{Line}
use Rattle.rl_runs.specs.declared.script.ScriptCause.{ScriptCause}
use Rattle.rl_model.specs.Script.{Refusal, is_too_long, script_of, line_count, ends_open, is_open, is_feed}
use Rattle.rl_model.specs.Records.{the_site}
use Rattle.rl_model.specs.World.{final}
use Rattle.rl_claims.proofs.Sound.{sound_records}
use Rattle.rl_claims.proofs.Once.{once_by_id}
use Rattle.rl_claims.proofs.Opened.{opens_again_only_after_leaving}
use Rattle.rl_world.specs.State.{WorldState}
use Rattle.rlscript.specs.Stages.{Said, SaidFor, Ran, HandsOn}
use Rattle.rlscript.specs.Input.{most_taken}
use Rattle.rlscript.specs.Top.{Outside, SourceFailed, SinkFailed, WroteFront, TookFrom, TookAll, Tells, TookTooMuch, TookWithinLimit, Unread, Ended, IsToBeWritten, IsWorldOf, Ends, usage, read_fault, too_long, refusal, script_report, text_by, status_by, status_of}

-- BYTES

append_none : (xs : List ℕ) → xs ++ [] ≡ xs
append_none [] = refl
append_none (x ∷ xs) = ap (λ ys. x ∷ ys) (append_none xs)

took_all : (left after : Option (List ℕ)) (bytes : List ℕ) → Consumes left after bytes → IsAtEnd after → IsSome left → (left ≡ Some bytes) × (after ≡ Some [])
took_all None after bytes consumes end some = absurd (cc)
took_all (Some xs) None bytes consumes end some = absurd consumes
took_all (Some xs) (Some ys) bytes consumes end some =
    let all : xs ≡ bytes = consumes ∙ ap (λ rest. bytes ++ rest) end ∙ append_none bytes in
    (ap (λ l. Some l) all, ap (λ l. Some l) end)

short_by : (a b : ℕ) → (nat_lt 16777216 a || nat_lt 100000 b) ≡ false → a ≤ 16777216
short_by a b fits = grind (arith, nat_tests)

short : (bytes : List ℕ) → IsFalse (is_too_long bytes) → length bytes ≤ most_taken
short bytes fits = omega (arith, short_by (length bytes) (line_count bytes) fits)

took_once : (left after : Option (List ℕ)) (bytes taken : List ℕ) → Consumes left after bytes → TookFrom left after taken → taken ≡ bytes
took_once None after bytes taken consumes took = absurd took
took_once (Some xs) None bytes taken consumes took = absurd took
took_once (Some xs) (Some ys) bytes taken consumes took = append_cancel_right taken bytes ys (sym took ∙ consumes)

took_from : (left after : Option (List ℕ)) (taken : List ℕ) → Consumes left after taken → IsSome left → TookFrom left after taken
took_from None after taken consumes some = absurd (cc)
took_from (Some xs) None taken consumes some = absurd consumes
took_from (Some xs) (Some ys) taken consumes some = consumes

-- what was taken is within the limit
within : (o : Outside) (taken : List ℕ) → Consumes o.left o.left_after taken → length taken ≤ most_taken → Tells o → TookWithinLimit o
within o taken consumes short tells = (taken, took_from o.left o.left_after taken consumes tells, short)

not_too_much : (o : Outside) (bytes : List ℕ) → Consumes o.left o.left_after bytes → IsFalse (is_too_long bytes) → TookTooMuch o → ⊥
not_too_much o bytes consumes fits much =
    let same : much.taken ≡ bytes = took_once o.left o.left_after bytes much.taken consumes much.took in
    let long : is_too_long bytes ≡ true = sym (ap is_too_long same) ∙ much.too_long in
    absurd (cc)

where_told : (left : Option (List ℕ)) (P : List ℕ → Type 0) → ((bytes : List ℕ) → left ≡ Some bytes → P bytes) → IfSome left P
where_told None P told = tt
where_told (Some bytes) P told = told bytes refl

-- MORE BYTES HAVE NO FEWER LINES

last_get : (xs : List ℕ) (y : ℕ) → slice_get (xs ++ y ∷ []) (length xs) ≡ Some y
last_get [] y = refl
last_get (x ∷ xs) y = last_get xs y

step_by : (count : ℕ) (begun feed : Bool) → count + cond begun 1 0 ≤ (count + cond feed 1 0) + cond (not feed) 1 0
step_by count true true = omega arith
step_by count true false = omega arith
step_by count false true = omega arith
step_by count false false = omega arith

line_step : (xs : List ℕ) (y : ℕ) → line_count xs ≤ line_count (xs ++ y ∷ [])
line_step xs y =
    let size : length (xs ++ y ∷ []) - 1 ≡ length xs = omega (arith, length-append xs (y ∷ [])) in
    let ends : ends_open (xs ++ y ∷ []) ≡ not (is_feed y) = ap is_open (ap (slice_get (xs ++ y ∷ [])) size ∙ last_get xs y) in
    let count : count_by is_feed (xs ++ y ∷ []) ≡ count_by is_feed xs + cond (is_feed y) 1 0 =
    sum_by-append (λ b. cond (is_feed b) 1 0) xs (y ∷ []) ∙ ap (λ n. count_by is_feed xs + n) (zero-add (cond (is_feed y) 1 0)) in
    subst (λ n. line_count xs ≤ n) (sym (ap (λ n. n + cond (ends_open (xs ++ y ∷ [])) 1 0) count ∙ ap (λ b. (count_by is_feed xs + cond (is_feed y) 1 0) + cond b 1 0) ends))
    (step_by (count_by is_feed xs) (ends_open xs) (is_feed y))

lines_grow : (ys xs : List ℕ) → line_count xs ≤ line_count (xs ++ ys)
lines_grow [] xs = omega (arith, ap line_count (append_none xs))
lines_grow (y ∷ ys) xs =
    omega (arith, line_step xs y, lines_grow ys (xs ++ y ∷ []), ap line_count (append_assoc xs (y ∷ []) ys))

long_by : (a b c d : ℕ) → a ≤ c → b ≤ d → (nat_lt 16777216 a || nat_lt 100000 b) ≡ true → (nat_lt 16777216 c || nat_lt 100000 d) ≡ true
long_by a b c d le le' long = grind (arith, nat_tests)

long_grows : (taken rest : List ℕ) → is_too_long taken ≡ true → is_too_long (taken ++ rest) ≡ true
long_grows taken rest long =
    long_by (length taken) (line_count taken) (length (taken ++ rest)) (line_count (taken ++ rest)) (omega (arith, length-append taken rest)) (lines_grow rest taken) long

long_whole : (left after : Option (List ℕ)) (bytes taken : List ℕ) → left ≡ Some bytes → Consumes left after taken → is_too_long taken ≡ true → is_too_long bytes ≡ true
long_whole None after bytes taken is consumes long = absurd (cc)
long_whole (Some xs) None bytes taken is consumes long = absurd consumes
long_whole (Some xs) (Some ys) bytes taken is consumes long =
    let same : xs ≡ bytes = cc in
    ap is_too_long (sym same ∙ consumes) ∙ long_grows taken ys long

no_end : (status : ℕ) → (status ≡ 0 → ⊥) → (status ≡ 3 → ⊥) → (status ≡ 0) ⊎ (status ≡ 3) → ⊥
no_end status zero three (inl is) = zero is
no_end status zero three (inr is) = three is

-- THE SINK FAILED

sink_failed : (asked : Bool) (o : Outside) (status : ℕ) (world : Option WorldState) → status ≡ 5 → world ≡ None → SinkFailed o
    → (Tells o → (text : List ℕ) × IsToBeWritten asked o text × WroteFront o text)
    → (asked ≡ false → WroteFront o usage) → (asked ≡ false → Unread o) → (Tells o → TookWithinLimit o) → Ends asked o status world
sink_failed asked o status world is none failed front of_usage unread limit = record {
  reported = λ other. absurd (omega arith);
  handed_on = λ other. absurd (omega arith);
  kept_back = λ _. none;
  usage = λ other. absurd (omega arith);
  usage_always = λ _. inr is;
  usage_front = λ wrong _. of_usage wrong;
  unread = unread;
  refused = λ other. absurd (omega arith);
  ended = λ other. absurd (no_end status (λ e. omega (arith, is)) (λ e. omega (arith, is)) other);
  ended_always = λ _ _. where_told o.left _ (λ other same. inr (inl is));
  read_fault = λ other. absurd (omega arith);
  write_fault = λ _. failed;
  front = λ _. front;
  too_much = λ other. absurd (omega arith);
  too_much_always = λ _. inr (inl is);
  within_limit = limit;
  no_memory = λ other. absurd (omega arith);
  others = (omega arith, λ other. absurd (omega arith));
  complete = λ _ _ fine. absurd (fine failed);
}

keeps_none : (before after : Option (List ℕ)) → Keeps before after → Consumes before after []
keeps_none None after kept = tt
keeps_none (Some xs) None kept = kept
keeps_none (Some xs) (Some ys) kept = sym kept

nothing_taken : (o : Outside) → Unread o → Tells o → TookWithinLimit o
nothing_taken o unread tells = within o [] (keeps_none o.left o.left_after unread.left) (omega arith) tells

-- OTHER WORDS

pub usage_ends : (asked : Bool) (o : Outside) (status : ℕ) (world : Option WorldState) → asked ≡ false → Unread o → world ≡ None
    → Said status 2 o.written o.written_after o.write_faults o.write_faults_after usage → Ends asked o status world
usage_ends asked o status world wrong unread none (inl said) = record {
  reported = λ other. absurd (omega (arith, said.0));
  handed_on = λ other. absurd (omega (arith, said.0));
  kept_back = λ _. none;
  usage = λ _. (wrong, unread.left, said.1);
  usage_always = λ _. inl said.0;
  usage_front = λ _ other. absurd (omega (arith, said.0));
  unread = λ _. unread;
  refused = λ other. absurd (omega (arith, said.0));
  ended = λ other. absurd (no_end status (λ e. omega (arith, said.0)) (λ e. omega (arith, said.0)) other);
  ended_always = λ right _. absurd (cc);
  read_fault = λ other. absurd (omega (arith, said.0));
  write_fault = λ other. absurd (omega (arith, said.0));
  front = λ other. absurd (omega (arith, said.0));
  too_much = λ other. absurd (omega (arith, said.0));
  too_much_always = λ much. absurd (not_too_much o [] (keeps_none o.left o.left_after unread.left) refl much);
  within_limit = nothing_taken o unread;
  no_memory = λ other. absurd (omega (arith, said.0));
  others = (omega (arith, said.0), λ other. absurd (omega (arith, said.0)));
  complete = λ right _ _. absurd (cc);
}
usage_ends asked o status world wrong unread none (inr failed) =
    sink_failed asked o status world failed.0 none failed.1
    (λ tells. (usage, subst (λ (b : Bool). IsToBeWritten b o usage) (sym wrong) refl, failed.2)) (λ _. failed.2) (λ _. unread) (nothing_taken o unread)

-- TOO MUCH

too_much_ends : (o : Outside) (status : ℕ) (world : Option WorldState) → world ≡ None → (taken : List ℕ) → Consumes o.left o.left_after taken → IsTrue (is_too_long taken) → length taken ≤ most_taken → o.ends_after ≡ o.ends
    → Said status 6 o.written o.written_after o.write_faults o.write_faults_after too_long → Ends true o status world
too_much_ends o status world none taken consumes long fits kept (inl said) = record {
  reported = λ other. absurd (omega (arith, said.0));
  handed_on = λ other. absurd (omega (arith, said.0));
  kept_back = λ _. none;
  usage = λ other. absurd (omega (arith, said.0));
  usage_always = λ wrong. absurd (cc);
  usage_front = λ wrong _. absurd (cc);
  unread = λ wrong. absurd (cc);
  refused = λ other. absurd (omega (arith, said.0));
  ended = λ other. absurd (no_end status (λ e. omega (arith, said.0)) (λ e. omega (arith, said.0)) other);
  ended_always = λ _ rose. absurd (omega (arith, rose, kept));
  read_fault = λ other. absurd (omega (arith, said.0));
  write_fault = λ other. absurd (omega (arith, said.0));
  front = λ other. absurd (omega (arith, said.0));
  too_much = λ _. ((λ tells. record { taken = taken; took = took_from o.left o.left_after taken consumes tells; too_long = long }), said.1);
  too_much_always = λ _. inl said.0;
  within_limit = within o taken consumes fits;
  no_memory = λ other. absurd (omega (arith, said.0));
  others = (omega (arith, said.0), λ other. absurd (omega (arith, said.0)));
  complete = λ _ _ _. where_told o.left _ (λ bytes is. inl (said.0 ∙ sym (longer bytes is)));
}
  where
    longer : (bytes : List ℕ) → o.left ≡ Some bytes → status_of bytes ≡ 6
    longer bytes is = ap (λ b. cond b 6 (status_by (script_of bytes))) (long_whole o.left o.left_after bytes taken is consumes long)
too_much_ends o status world none taken consumes long fits kept (inr failed) =
    sink_failed true o status world failed.0 none failed.1
    (λ tells. (
      too_long,
      inr (inr (record { taken = taken; took = took_from o.left o.left_after taken consumes tells; too_long = long }, refl)),
      failed.2,
    )) (λ wrong. absurd (cc)) (λ wrong. absurd (cc)) (within o taken consumes fits)

-- A READ FAILED

read_fault_ends : (o : Outside) (status : ℕ) (world : Option WorldState) → world ≡ None → (taken : List ℕ) → Consumes o.left o.left_after taken → IsFalse (is_too_long taken) → SourceFailed o → o.ends_after ≡ o.ends
    → Said status 4 o.written o.written_after o.write_faults o.write_faults_after read_fault → Ends true o status world
read_fault_ends o status world none taken consumes fits source kept (inl said) = record {
  reported = λ other. absurd (omega (arith, said.0));
  handed_on = λ other. absurd (omega (arith, said.0));
  kept_back = λ _. none;
  usage = λ other. absurd (omega (arith, said.0));
  usage_always = λ wrong. absurd (cc);
  usage_front = λ wrong _. absurd (cc);
  unread = λ wrong. absurd (cc);
  refused = λ other. absurd (omega (arith, said.0));
  ended = λ other. absurd (no_end status (λ e. omega (arith, said.0)) (λ e. omega (arith, said.0)) other);
  ended_always = λ _ rose. absurd (omega (arith, rose, kept));
  read_fault = λ _. (source, said.1);
  write_fault = λ other. absurd (omega (arith, said.0));
  front = λ other. absurd (omega (arith, said.0));
  too_much = λ other. absurd (omega (arith, said.0));
  too_much_always = λ much. absurd (not_too_much o taken consumes fits much);
  within_limit = within o taken consumes (short taken fits);
  no_memory = λ other. absurd (omega (arith, said.0));
  others = (omega (arith, said.0), λ other. absurd (omega (arith, said.0)));
  complete = λ _ fine _. absurd (fine source);
}
read_fault_ends o status world none taken consumes fits source kept (inr failed) =
    sink_failed true o status world failed.0 none failed.1 (λ tells. (read_fault, inr (inl (source, refl)), failed.2))
    (λ wrong. absurd (cc)) (λ wrong. absurd (cc)) (within o taken consumes (short taken fits))

-- WANT OF MEMORY

no_memory_ends : (o : Outside) (status : ℕ) (world : Option WorldState) → status ≡ 7 → world ≡ None → Keeps o.written o.written_after → (Tells o → TookWithinLimit o) → Ends true o status world
no_memory_ends o status world is none kept limit = record {
  reported = λ other. absurd (omega arith);
  handed_on = λ other. absurd (omega arith);
  kept_back = λ _. none;
  usage = λ other. absurd (omega arith);
  usage_always = λ wrong. absurd (cc);
  usage_front = λ wrong _. absurd (cc);
  unread = λ wrong. absurd (cc);
  refused = λ other. absurd (omega arith);
  ended = λ other. absurd (no_end status (λ e. omega (arith, is)) (λ e. omega (arith, is)) other);
  ended_always = λ _ _. where_told o.left _ (λ other same. inr (inr is));
  read_fault = λ other. absurd (omega arith);
  write_fault = λ other. absurd (omega arith);
  front = λ other. absurd (omega arith);
  too_much = λ other. absurd (omega arith);
  too_much_always = λ _. inr (inr is);
  within_limit = limit;
  no_memory = λ _. (refl, kept);
  others = (omega arith, λ other. absurd (omega arith));
  complete = λ _ _ _. where_told o.left _ (λ other same. inr is);
}

-- THE BYTES WERE READ

module _ (o : Outside) (status : ℕ) (world : Option WorldState) (bytes : List ℕ) (consumes : Consumes o.left o.left_after bytes) (end : IsAtEnd o.left_after) (fits : IsFalse (is_too_long bytes)) (ended : Ended o) where
  all_taken : Tells o → TookAll o bytes
  all_taken tells = let all = took_all o.left o.left_after bytes consumes end tells in (all.0, all.1, ended)

  limit : Tells o → TookWithinLimit o
  limit = within o bytes consumes (short bytes fits)

  called_for : (said : Result (List Line) Refusal) → script_of bytes ≡ said → (other : List ℕ) → o.left ≡ Some other → status_of other ≡ status_by said
  called_for said reads other is =
      let tells : IsSome o.left = ap is_some is in
      let all = all_taken tells in
      let left : o.left ≡ Some bytes = all.0 in
      let same : other ≡ bytes = cc in
      ap status_of same ∙ ap (λ b. cond b 6 (status_by (script_of bytes))) fits ∙ ap status_by reads

  bytes_text : (said : Result (List Line) Refusal) → script_of bytes ≡ said → Tells o → IsToBeWritten true o (text_by said)
  bytes_text said reads tells = inl (bytes, all_taken tells, fits, ap text_by (sym reads))

  some_world : (script : List Line) (handed : Option WorldState) → IsWorldOf handed script → IsSome handed
  some_world script None is = absurd is
  some_world script (Some state) is = refl

  reported_ends : (script : List Line) → script_of bytes ≡ Ok script → Said status 0 o.written o.written_after o.write_faults o.write_faults_after (script_report script) → HandsOn status world script → Ends true o status world
  reported_ends script reads (inl said) hands = record {
    reported = λ _ tells. record { bytes = bytes; script = script; took = all_taken tells; fits = fits; reads = reads; wrote = said.1; sound = sound_records script; reopened = opens_again_only_after_leaving script; once = once_by_id the_site (final script).past; handed_on = hands.given said.0 };
    handed_on = λ _. some_world script world (hands.given said.0);
    kept_back = hands.kept_back;
    usage = λ other. absurd (omega (arith, said.0));
    usage_always = λ wrong. absurd (cc);
    usage_front = λ wrong _. absurd (cc);
    unread = λ wrong. absurd (cc);
    refused = λ other. absurd (omega (arith, said.0));
    ended = λ _. ended;
    ended_always = λ _ _. where_told o.left _ (λ other is. inl (said.0 ∙ sym (called_for (Ok script) reads other is)));
    read_fault = λ other. absurd (omega (arith, said.0));
    write_fault = λ other. absurd (omega (arith, said.0));
    front = λ other. absurd (omega (arith, said.0));
    too_much = λ other. absurd (omega (arith, said.0));
    too_much_always = λ much. absurd (not_too_much o bytes consumes fits much);
    within_limit = limit;
    no_memory = λ other. absurd (omega (arith, said.0));
    others = (omega (arith, said.0), λ other. absurd (omega (arith, said.0)));
    complete = λ _ _ _. where_told o.left _ (λ other is. inl (said.0 ∙ sym (called_for (Ok script) reads other is)));
  }
  reported_ends script reads (inr failed) hands =
      sink_failed true o status world failed.0 (hands.kept_back (λ zero. absurd (omega (arith, failed.0, zero)))) failed.1
      (λ tells. (script_report script, bytes_text (Ok script) reads tells, failed.2)) (λ wrong. absurd (cc)) (λ wrong. absurd (cc)) limit

  refused_ends : (line : ℕ) (fault : ScriptCause) → script_of bytes ≡ Err (line, fault) → Said status 3 o.written o.written_after o.write_faults o.write_faults_after (refusal line fault) → world ≡ None → Ends true o status world
  refused_ends line fault reads (inl said) none = record {
    reported = λ other. absurd (omega (arith, said.0));
    handed_on = λ other. absurd (omega (arith, said.0));
    kept_back = λ _. none;
    usage = λ other. absurd (omega (arith, said.0));
    usage_always = λ wrong. absurd (cc);
    usage_front = λ wrong _. absurd (cc);
    unread = λ wrong. absurd (cc);
    refused = λ _ tells. record { bytes = bytes; line = line; fault = fault; took = all_taken tells; fits = fits; reads = reads; wrote = said.1 };
    ended = λ _. ended;
    ended_always = λ _ _. where_told o.left _ (λ other is. inl (said.0 ∙ sym (called_for (Err (line, fault)) reads other is)));
    read_fault = λ other. absurd (omega (arith, said.0));
    write_fault = λ other. absurd (omega (arith, said.0));
    front = λ other. absurd (omega (arith, said.0));
    too_much = λ other. absurd (omega (arith, said.0));
    too_much_always = λ much. absurd (not_too_much o bytes consumes fits much);
    within_limit = limit;
    no_memory = λ other. absurd (omega (arith, said.0));
    others = (omega (arith, said.0), λ other. absurd (omega (arith, said.0)));
    complete = λ _ _ _. where_told o.left _ (λ other is. inl (said.0 ∙ sym (called_for (Err (line, fault)) reads other is)));
  }
  refused_ends line fault reads (inr failed) none =
      sink_failed true o status world failed.0 none failed.1 (λ tells. (refusal line fault, bytes_text (Err (line, fault)) reads tells, failed.2))
      (λ wrong. absurd (cc)) (λ wrong. absurd (cc)) limit

  said_ends : (said : Result (List Line) Refusal) → script_of bytes ≡ said → SaidFor said status world o.written o.written_after o.write_faults o.write_faults_after → Ends true o status world
  said_ends (Ok script) reads said = reported_ends script reads said.0 said.1
  said_ends (Err refused) reads said = refused_ends refused.0 refused.1 reads said.0 said.1

  pub bytes_end : Ran bytes status world o.written o.written_after o.write_faults o.write_faults_after → Ends true o status world
  bytes_end (inl said) = said_ends (script_of bytes) refl said
  bytes_end (inr none) =
      no_memory_ends o status world none.0 none.1 (subst (λ (w : Option (List ℕ)). Keeps o.written w) (sym none.2) (Keeps-refl o.written)) limit

-- THE SAME, AS THE CALLS ANSWER

pub no_memory_met : (o : Outside) (status : ℕ) (world : Option WorldState) → status ≡ 7 → world ≡ None → Keeps o.written o.written_after
    → (taken : List ℕ) → Consumes o.left o.left_after taken → length taken ≤ most_taken → Ends true o status world
no_memory_met o status world is none kept taken consumes fits = no_memory_ends o status world is none kept (within o taken consumes fits)

pub usage_said : (asked : Bool) (o : Outside) (status code : ℕ) (world : Option WorldState) → asked ≡ false → Unread o → status ≡ code → world ≡ None
    → Said code 2 o.written o.written_after o.write_faults o.write_faults_after usage → Ends asked o status world
usage_said asked o status code world wrong unread is none said =
    usage_ends asked o status world wrong unread none
    (subst (λ (n : ℕ). Said n 2 o.written o.written_after o.write_faults o.write_faults_after usage) (sym is) said)

pub too_much_said : (o : Outside) (status code : ℕ) (world : Option WorldState) → status ≡ code → world ≡ None → (taken : List ℕ) → Consumes o.left o.left_after taken → IsTrue (is_too_long taken) → length taken ≤ most_taken → o.ends_after ≡ o.ends
    → Said code 6 o.written o.written_after o.write_faults o.write_faults_after too_long → Ends true o status world
too_much_said o status code world is none taken consumes long fits kept said =
    too_much_ends o status world none taken consumes long fits kept
    (subst (λ (n : ℕ). Said n 6 o.written o.written_after o.write_faults o.write_faults_after too_long) (sym is) said)

pub read_fault_said : (o : Outside) (status code : ℕ) (world : Option WorldState) → status ≡ code → world ≡ None → (taken : List ℕ) → Consumes o.left o.left_after taken → IsFalse (is_too_long taken) → SourceFailed o → o.ends_after ≡ o.ends
    → Said code 4 o.written o.written_after o.write_faults o.write_faults_after read_fault → Ends true o status world
read_fault_said o status code world is none taken consumes fits source kept said =
    read_fault_ends o status world none taken consumes fits source kept
    (subst (λ (n : ℕ). Said n 4 o.written o.written_after o.write_faults o.write_faults_after read_fault) (sym is) said)
