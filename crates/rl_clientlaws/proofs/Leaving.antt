-- A channel's record opens again only after the channel was left.
use Rattle.std.proofs.Common.{◌≡◌, ℕ, Bool, true, false, List, [], ◌∷◌, ◌++◌, length, Option, Some, None, refl, sym, ap, subst, ◌∙◌, arith}
use Rattle.std.specs.Prelude.{⊤}
use Rattle.rl_names.specs.Names.{at}
use Rattle.rl_clientmodel.specs.declared.runs.Beginning.{Beginning}
use Rattle.rl_clientmodel.specs.declared.runs.Beginning.TheVariants.{Answered, Unasked, Skipped}
use Rattle.rl_clientmodel.specs.declared.runs.Run.{Run}
use Rattle.rl_clientmodel.specs.Channels.{ClientChannel, new_channel}
use Rattle.rl_clientmodel.specs.Commands.{channel_or_new}
use Rattle.rl_clientmodel.specs.Inputs.{Input, after, run}
use Rattle.rl_clientlaws.specs.Leaving.{HasLeft, OpensAfterLeaving, OpensAgainOnlyAfterLeaving, is_left}
use Rattle.rl_clientlaws.proofs.Away.{Begins, Calmly, GoesTo, Leaves, Stays, Tells, beginnings}
use Rattle.rl_clientlaws.proofs.Turned.{GoesAt}
use Rattle.rl_clientlaws.proofs.Turning.{input_turned}

-- AT A TIME BEFORE

same_count : (runs : List Run) → length (beginnings runs) ≡ length runs
same_count [] = refl
same_count (run ∷ more) = let rest = same_count more in omega (arith, rest)

-- so it was before one input more
still : (client : List ℕ) (input : Input) (inputs : List Input) (name : List ℕ) (count : ℕ) → HasLeft client inputs name count → HasLeft client (input ∷ inputs) name count
still client input inputs name count h = record {
  later = input ∷ h.later;
  earlier = h.earlier;
  is_front = ap (λ (xs : List Input). input ∷ xs) h.is_front;
  channel = h.channel;
  was_there = h.was_there;
  was_left = h.was_left;
  had_runs = h.had_runs;
}

-- WHAT EACH INPUT KEEPS

-- a run that began while the flag stood, with so many runs before it
abbrev WasAway : (client : List ℕ) (inputs : List Input) (name : List ℕ) → Beginning → ℕ → Type 0
WasAway client inputs name (Answered asked resumed told away) count = away ≡ true → HasLeft client inputs name count
WasAway client inputs name (Unasked held resumed told) count = ⊤
WasAway client inputs name (Skipped held told) count = ⊤

abbrev WereAway : (client : List ℕ) (inputs : List Input) (name : List ℕ) → List Beginning → Type 0
WereAway client inputs name [] = ⊤
WereAway client inputs name (beginning ∷ before) = WasAway client inputs name beginning (length before) × WereAway client inputs name before

-- of a flag and what began the runs
record Holds (client : List ℕ) (inputs : List Input) (name : List ℕ) (away : Bool) (began : List Beginning) : Type 0 where
  flag : away ≡ true → HasLeft client inputs name (length began)
  runs : WereAway client inputs name began

abbrev HoldsOf : (client : List ℕ) (inputs : List Input) (name : List ℕ) → ClientChannel → Type 0
HoldsOf client inputs name channel = Holds client inputs name channel.away (beginnings channel.runs)

was_still : (client : List ℕ) (input : Input) (inputs : List Input) (name : List ℕ) (beginning : Beginning) (count : ℕ)
    → WasAway client inputs name beginning count → WasAway client (input ∷ inputs) name beginning count
was_still client input inputs name (Answered asked resumed told away) count h = λ is. still client input inputs name count (h is)
was_still client input inputs name (Unasked held resumed told) count h = tt
was_still client input inputs name (Skipped held told) count h = tt

were_still : (client : List ℕ) (input : Input) (inputs : List Input) (name : List ℕ) (began : List Beginning) → WereAway client inputs name began → WereAway client (input ∷ inputs) name began
were_still client input inputs name [] h = tt
were_still client input inputs name (beginning ∷ before) h =
    (was_still client input inputs name beginning (length before) h.0, were_still client input inputs name before h.1)

-- the run that begins tells the flag as it stood
told_so : (client : List ℕ) (input : Input) (inputs : List Input) (name : List ℕ) (away : Bool) (beginning : Beginning) (count : ℕ)
    → Tells away beginning → (away ≡ true → HasLeft client inputs name count) → WasAway client (input ∷ inputs) name beginning count
told_so client input inputs name away (Answered asked resumed told flag) count tells h = λ is. still client input inputs name count (h (sym tells ∙ is))
told_so client input inputs name away (Unasked held resumed told) count tells h = tt
told_so client input inputs name away (Skipped held told) count tells h = tt

-- the channel that stands now, where it is left now
left_now : (client : List ℕ) (inputs : List Input) (name : List ℕ) (c : ClientChannel) → at name (after client inputs).channels ≡ Some c → is_left c.state ≡ true
    → HasLeft client inputs name (length (beginnings c.runs))
left_now client inputs name c is left = record {
  later = [];
  earlier = inputs;
  is_front = refl;
  channel = c;
  was_there = is;
  was_left = left;
  had_runs = sym (same_count c.runs);
}

goes_on : (client : List ℕ) (input : Input) (inputs : List Input) (name : List ℕ) (b c : ClientChannel) → at name (after client (input ∷ inputs)).channels ≡ Some c
    → GoesTo b c → HoldsOf client inputs name b → HoldsOf client (input ∷ inputs) name c
goes_on client input inputs name b c is (Calmly (Stays same stands)) h = record {
  flag = λ away. still client input inputs name _ (subst (λ (began : List Beginning). HasLeft client inputs name (length began)) (sym same) (h.flag (sym stands ∙ away)));
  runs = were_still client input inputs name _ (subst (WereAway client inputs name) (sym same) h.runs);
}
goes_on client input inputs name b c is (Calmly (Leaves same left)) h = record {
  flag = λ away. left_now client (input ∷ inputs) name c is left;
  runs = were_still client input inputs name _ (subst (WereAway client inputs name) (sym same) h.runs);
}
goes_on client input inputs name b c is (Begins beginning more off tells) h = record {
  flag = λ away. absurd (false_true (sym off ∙ away));
  runs = subst (WereAway client (input ∷ inputs) name) (sym more)
      (told_so client input inputs name b.away beginning (length (beginnings b.runs)) tells h.flag, were_still client input inputs name (beginnings b.runs) h.runs);
} where
  false_true : false ≡ true → ⊥
  false_true same = cc

-- ALL INPUTS

abbrev HoldsAt : (client : List ℕ) (inputs : List Input) (name : List ℕ) → Option ClientChannel → Type 0
HoldsAt client inputs name None = ⊤
HoldsAt client inputs name (Some c) = HoldsOf client inputs name c

new_holds : (client : List ℕ) (inputs : List Input) (name : List ℕ) → HoldsOf client inputs name new_channel
new_holds client inputs name = record { flag = λ away. absurd (false_true away); runs = tt } where
  false_true : false ≡ true → ⊥
  false_true same = cc

or_new : (client : List ℕ) (inputs : List Input) (name : List ℕ) (o : Option ClientChannel) → HoldsAt client inputs name o → HoldsOf client inputs name (channel_or_new o)
or_new client inputs name None h = new_holds client inputs name
or_new client inputs name (Some c) h = h

one_more : (client : List ℕ) (input : Input) (inputs : List Input) (name : List ℕ) (o p : Option ClientChannel) → at name (after client (input ∷ inputs)).channels ≡ p
    → GoesAt o p → HoldsAt client inputs name o → HoldsAt client (input ∷ inputs) name p
one_more client input inputs name o None is goes h = tt
one_more client input inputs name o (Some c) is goes h = goes_on client input inputs name (channel_or_new o) c is goes (or_new client inputs name o h)

all_hold : (client : List ℕ) (inputs : List Input) (name : List ℕ) → HoldsAt client inputs name (at name (after client inputs).channels)
all_hold client [] name = tt
all_hold client (input ∷ before) name =
    one_more client input before name (at name (after client before).channels) (at name (after client (input ∷ before)).channels) refl
    (input_turned input (after client before) name) (all_hold client before name)

-- THE LAW

-- of each run that is found in the record
found : (client : List ℕ) (inputs : List Input) (name : List ℕ) (more before : List Run) (run : Run) → WereAway client inputs name (beginnings (more ++ run ∷ before))
    → WasAway client inputs name run.beginning (length (beginnings before))
found client inputs name [] before run h = h.0
found client inputs name (one ∷ more) before run h = found client inputs name more before run h.1

opens : (client : List ℕ) (inputs : List Input) (name : List ℕ) (c : ClientChannel) → HoldsOf client inputs name c → OpensAfterLeaving client inputs name c
opens client inputs name c h = record {
  is_away = λ away. subst (HasLeft client inputs name) (same_count c.runs) (h.flag away);
  was_away = λ more before run asked resumed told is began.
      subst (HasLeft client inputs name) (same_count before)
      (subst (λ (b : Beginning). WasAway client inputs name b (length (beginnings before))) began
      (found client inputs name more before run (subst (λ (runs : List Run). WereAway client inputs name (beginnings runs)) is h.runs)) refl);
}

pub opens_again_only_after_leaving : OpensAgainOnlyAfterLeaving
opens_again_only_after_leaving client inputs name channel is = opens client inputs name channel (subst (HoldsAt client inputs name) is (all_hold client inputs name))
