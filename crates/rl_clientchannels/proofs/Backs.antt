-- What is taken back leaves what was before.
use Rattle.std.proofs.Common.{◌≡◌, ℕ, ◌-◌, suc, Bool, true, false, List, [], ◌∷◌, ◌++◌, length, take, refl, ap, ◌∙◌, arith}
use Rattle.std.specs.Prelude.{Option, Some, None, not}
use Rattle.rl_ids.specs.declared.serials.ChannelSerial.{ChannelSerial}
use Rattle.rl_types.specs.declared.messages.Body.{Body}
use Rattle.rl_clientmodel.specs.declared.runs.Beginning.{Beginning}
use Rattle.rl_clientmodel.specs.declared.runs.Beginning.TheVariants.{Skipped}
use Rattle.rl_clientmodel.specs.declared.runs.Run.{Run}
use Rattle.rl_clientmodel.specs.Runs.{follows, got_onto, runs_with}
use Rattle.rl_clientmodel.specs.Entries.{runs_before, skips}
use Rattle.rl_clientchannels.specs.Back.{got_back, runs_back}

pub run_back : (goes_on : Bool) (beginning : Beginning) (runs : List Run) → runs_back goes_on (runs_with goes_on beginning runs) ≡ runs
run_back true beginning runs = refl
run_back false beginning runs = refl

length_push : {A : Type 0} (xs : List A) (x : A) → length (xs ++ x ∷ []) ≡ suc (length xs)
length_push [] x = refl
length_push (y ∷ xs) x = ap suc (length_push xs x)

take_front : {A : Type 0} (xs : List A) (x : A) → take (length xs) (xs ++ x ∷ []) ≡ xs
take_front [] x = refl
take_front (y ∷ xs) x = ap (λ (ys : List _). y ∷ ys) (take_front xs x)

take_push : {A : Type 0} (xs : List A) (x : A) → take (length (xs ++ x ∷ []) - 1) (xs ++ x ∷ []) ≡ xs
take_push xs x =
    let less : length (xs ++ x ∷ []) - 1 ≡ length xs = omega (arith, length_push xs x) in
    ap (λ n. take n (xs ++ x ∷ [])) less ∙ take_front xs x

got_with_back : (goes_on : Bool) (beginning : Beginning) (entry : ℕ × Body) (runs : List Run) → got_back goes_on (got_onto entry (runs_with goes_on beginning runs)) ≡ runs
got_with_back true beginning entry [] = refl
got_with_back true beginning entry (run ∷ runs) = ap (λ (got : List (ℕ × Body)). record run { got = got } ∷ runs) (take_push run.got entry)
got_with_back false beginning entry runs = refl

follows_back : (goes_on : Bool) (beginning : Beginning) (entry : ℕ × Body) (runs : List Run) → got_back (not (not goes_on)) (got_onto entry (runs_with goes_on beginning runs)) ≡ runs
follows_back true beginning entry runs = got_with_back true beginning entry runs
follows_back false beginning entry runs = got_with_back false beginning entry runs

-- an entry that was got is taken back, with the run that began with it
pub entry_back : (held : Option ChannelSerial) (before : ℕ) (told : ChannelSerial) (entry : ℕ × Body) (runs : List Run) → got_back (not (skips held before told)) (got_onto entry (runs_before held before told runs)) ≡ runs
entry_back None before told entry [] = refl
entry_back None before told entry (run ∷ runs) = ap (λ (got : List (ℕ × Body)). record run { got = got } ∷ runs) (take_push run.got entry)
entry_back (Some held) before told entry runs = follows_back (follows held before told.epoch) (Skipped held told) entry runs
