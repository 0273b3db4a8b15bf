-- The entries of a log stand at the places 1, 2, .. and are no more than a log may have; a read gives a run of them.
use Rattle.std.proofs.Common.{◌≡◌, ℕ, zero, suc, ◌+◌, ◌≤◌, ◌-◌, Bool, true, false, List, [], ◌∷◌, ◌++◌, length, take, drop, sym, subst, ap, refl, ◌∙◌, arith, length-append}
use Rattle.std.specs.Prelude.{Option, Some, None, option_to_list, slice_get, if◌then◌else◌, ◌==◌, nat_lt, nat_le, ◌||◌, ◌&&◌}
use Rattle.std.proofs.lemmas.Bool.Decides.{nat_tests}
use Rattle.rl_numbers.specs.declared.limits.TheConstants.{MAX_MESSAGE_SIZE, MAX_PLACE}
use Rattle.rl_numbers.specs.declared.codes.TheConstants.{LOG_FULL, TOO_LONG}
use Rattle.rl_events.specs.declared.channel.ChannelEvent.{ChannelEvent}
use Rattle.rl_events.specs.declared.channel.ChannelEvent.TheVariants.{Put, Join, Read, MemberPage, ObjectPage, Gone, Tick, Census}
use Rattle.rl_events.specs.declared.channel.Outcome.{Outcome}
use Rattle.rl_types.specs.declared.messages.Entry.{Entry}
use Rattle.rl_types.specs.declared.messages.Body.{Body}
use Rattle.rl_types.specs.declared.messages.Given.{Given}
use Rattle.rl_types.specs.declared.messages.Given.TheVariants.{Ours, Other}
use Rattle.rl_types.specs.declared.presence.PresenceItem.{PresenceItem}
use Rattle.rl_types.specs.Weight.{body_weight}
use Rattle.rl_objmodel.specs.Rules.{Setting}
use Rattle.rl_model.specs.Ids.{has_long}
use Rattle.rl_model.specs.History.{setting}
use Rattle.rl_model.specs.Objects.{object_rule}
use Rattle.rl_model.specs.Reply.{joined_place}
use Rattle.rl_model.specs.Window.{first}
use Rattle.rl_model.specs.Verdict.{Decision, Judgement, Stale, Again, Known, Fails, Adds, entries, decided, decisions, log, head, kept, remembered_of, judged, judged_by_serial, judged_by_id, judged_by_rules, fails_or, own_rule, limit_rule, told, entry_if, entry_of, entry_of_gone, gone_entry, members_on}
use Rattle.rl_worldsessions.specs.Logs.{ArePlaced, IsRun}

-- WHAT AN EVENT ADDS

-- an entry at the next place, where the log is not full
abbrev IsNew : ℕ → Option Entry → Type 0
IsNew last o = (e : Entry) → o ≡ Some e → (e.place ≡ suc last) × ((last == MAX_PLACE) ≡ false)

by_serial : (b c : Bool) (o : Outcome) (next : Judgement) → (if b then Stale else if c then Again o else next) ≡ Adds → next ≡ Adds
by_serial true c o next is = absurd (cc)
by_serial false true o next is = absurd (cc)
by_serial false false o next is = is

from_serial : (serial : ℕ) (o : Option (ℕ × Outcome)) (next : Judgement) → judged_by_serial serial o next ≡ Adds → next ≡ Adds
from_serial serial None next is = is
from_serial serial (Some last) next is = by_serial (nat_lt serial last.0) (serial == last.0) last.1 next is

from_id : (o : Option ℕ) (next : Judgement) → judged_by_id o next ≡ Adds → next ≡ Adds
from_id None next is = is
from_id (Some place) next is = absurd (cc)

by_rules : (b c : Bool) (next : Judgement) → (if b then Fails TOO_LONG else if c then Fails LOG_FULL else next) ≡ Adds → c ≡ false
by_rules true c next is = absurd (cc)
by_rules false true next is = absurd (cc)
by_rules false false next is = refl

adds_below : (at : Setting) (before : List Decision) (conn serial : ℕ) (body : Body) → judged at before conn serial body ≡ Adds → (length (entries before) == MAX_PLACE) ≡ false
adds_below at before conn serial body is =
    by_rules (nat_lt MAX_MESSAGE_SIZE (body_weight body) || has_long body) (length (entries before) == MAX_PLACE) (fails_or (own_rule body) (fails_or (limit_rule (told before) conn body) (fails_or (object_rule at (entries before) body) Adds)))
    (from_id (remembered_of body before) (judged_by_rules (length (entries before)) body (fails_or (limit_rule (told before) conn body) (fails_or (object_rule at (entries before) body) Adds)))
    (from_serial serial (kept conn before) (judged_by_id (remembered_of body before) (judged_by_rules (length (entries before)) body (fails_or (limit_rule (told before) conn body) (fails_or (object_rule at (entries before) body) Adds)))) is))

put_new : (last : ℕ) (j : Judgement) (entry : Entry) → entry.place ≡ suc last → (j ≡ Adds → (last == MAX_PLACE) ≡ false) → IsNew last (entry_if j entry)
put_new last Adds entry at below e is = let same : entry ≡ e = cc in (ap (λ (x : Entry). x.place) (sym same) ∙ at, below refl)
put_new last Stale entry at below e is = absurd (cc)
put_new last (Again outcome) entry at below e is = absurd (cc)
put_new last (Known place) entry at below e is = absurd (cc)
put_new last (Fails code) entry at below e is = absurd (cc)

gone_by : (b : Bool) (last : ℕ) (entry : Entry) → (last == MAX_PLACE) ≡ b → entry.place ≡ suc last → IsNew last (if b then None else Some entry)
gone_by true last entry is at e found = absurd (cc)
gone_by false last entry is at e found = let same : entry ≡ e = cc in (ap (λ (x : Entry). x.place) (sym same) ∙ at, is)

gone_new : (last now conn : ℕ) (members : List PresenceItem) → IsNew last (entry_of_gone last now conn members)
gone_new last now conn [] e found = absurd (cc)
gone_new last now conn (member ∷ members) e found = gone_by (last == MAX_PLACE) last (gone_entry last now conn (member ∷ members)) refl (omega arith) e found

decided_new : (at : Setting) (before : List Decision) (event : ChannelEvent) → IsNew (length (entries before)) (decided at before event).entry
decided_new at before (Put conn serial body moment) e found =
    put_new (length (entries before)) (judged at before conn serial body) (entry_of at (length (entries before)) conn serial body) (omega arith) (adds_below at before conn serial body) e found
decided_new at before (Gone conn moment) e found = gone_new (length (entries before)) at.now conn (members_on conn before) e found
decided_new at before (Join asked) e found = absurd (cc)
decided_new at before (Read from most) e found = absurd (cc)
decided_new at before (MemberPage after most) e found = absurd (cc)
decided_new at before (ObjectPage after most) e found = absurd (cc)
decided_new at before (Tick moment) e found = absurd (cc)
decided_new at before Census e found = absurd (cc)

-- THE LOG

placed_more : (xs : List Entry) (n : ℕ) (o : Option Entry) → ArePlaced n xs → ((e : Entry) → o ≡ Some e → e.place ≡ suc (n + length xs)) → ArePlaced n (xs ++ option_to_list o)
placed_more [] n None all one = tt
placed_more [] n (Some e) all one = (omega (arith, one e refl), tt)
placed_more (x ∷ xs) n o all one = (all.0, placed_more xs (suc n) o all.1 (λ e is. omega (arith, one e is)))

length_more : (xs : List Entry) (o : Option Entry) → length xs ≤ MAX_PLACE → IsNew (length xs) o → length (xs ++ option_to_list o) ≤ MAX_PLACE
length_more xs None small new = omega (arith, small, length-append xs [])
length_more xs (Some e) small new =
    let other = (new e refl).1 in
    let long = length-append xs (e ∷ []) in
    grind (arith, nat_tests, small, other, long)

pub log_is : (site : List ℕ) (past : List ChannelEvent) → ArePlaced 0 (log site past) × (head site past ≤ MAX_PLACE)
log_is site [] = (tt, omega arith)
log_is site (event ∷ past) =
    let before = log_is site past in
    let new = decided_new (setting site (event ∷ past)) (decisions site past) event in (
      placed_more (log site past) 0 (decided (setting site (event ∷ past)) (decisions site past) event).entry before.0 (λ e is. omega (arith, (new e is).0)),
      length_more (log site past) (decided (setting site (event ∷ past)) (decisions site past) event).entry before.1 new,
    )

pub head_grows : (site : List ℕ) (event : ChannelEvent) (past : List ChannelEvent) → head site past ≤ head site (event ∷ past)
head_grows site event past = omega (arith, length-append (log site past) (option_to_list (decided (setting site (event ∷ past)) (decisions site past) event).entry))

-- A SESSION THAT BEGINS

low_enough : (a b c : Bool) (place last : ℕ) → (c ≡ true → place ≤ last) → (if a && (b && c) then place else last) ≤ last
low_enough true true true place last low = low refl
low_enough true true false place last low = omega arith
low_enough true false c place last low = omega arith
low_enough false b c place last low = omega arith

-- it begins within the log
pub joined_low : (epoch : ℕ) (site : List ℕ) (past : List ChannelEvent) (asked : Option Given) → joined_place epoch site past asked ≤ head site past
joined_low epoch site past None = omega arith
joined_low epoch site past (Some (Other text)) = omega arith
joined_low epoch site past (Some (Ours serial)) =
    low_enough (serial.epoch == epoch) (nat_le (first site past - 1) serial.place) (nat_le serial.place (head site past)) serial.place (head site past) (λ is. le_is serial.place (head site past) is)
  where
    le_is : (a b : ℕ) → nat_le a b ≡ true → a ≤ b
    le_is a b is = grind (arith, nat_tests, is)

-- RUNS

placed_at : (n k : ℕ) (xs : List Entry) (e : Entry) → ArePlaced n xs → slice_get xs k ≡ Some e → e.place ≡ suc (n + k)
placed_at n k [] e all found = absurd (cc)
placed_at n zero (x ∷ xs) e all found = let same : x ≡ e = cc in let at : e.place ≡ suc n = subst (λ (y : Entry). y.place ≡ suc n) same all.0 in omega (arith, at)
placed_at n (suc k) (x ∷ xs) e all found = omega (arith, placed_at (suc n) k xs e all.1 found)

drop_step : (k : ℕ) (xs : List Entry) (e : Entry) (rest : List Entry) → drop k xs ≡ e ∷ rest → (slice_get xs k ≡ Some e) × (drop (suc k) xs ≡ rest)
drop_step zero [] e rest is = absurd (cc)
drop_step zero (x ∷ xs) e rest is = let same : x ≡ e = cc in let tail : xs ≡ rest = cc in (ap (λ (y : Entry). Some y) same, tail)
drop_step (suc k) [] e rest is = absurd (cc)
drop_step (suc k) (x ∷ xs) e rest is = drop_step k xs e rest is

pub run_read : (site : List ℕ) (past : List ChannelEvent) (most k : ℕ) (d : List Entry) → drop k (log site past) ≡ d → IsRun site past k (take most d)
run_read site past zero k d is = tt
run_read site past (suc most) k [] is = tt
run_read site past (suc most) k (e ∷ rest) is =
    let step = drop_step k (log site past) e rest is in
    let at : e.place ≡ suc k = omega (arith, placed_at 0 k (log site past) e (log_is site past).0 step.0) in
    (at, step.0, run_read site past most (suc k) rest step.1)

pub take_low : (most : ℕ) (xs : List Entry) → length (take most xs) ≤ length xs
take_low zero xs = omega arith
take_low (suc most) [] = omega arith
take_low (suc most) (x ∷ xs) = omega (arith, take_low most xs)

pub drop_low : (k : ℕ) (xs : List Entry) → k ≤ length xs → k + length (drop k xs) ≤ length xs
drop_low zero xs low = omega arith
drop_low (suc k) [] low = absurd (omega (arith, low))
drop_low (suc k) (x ∷ xs) low = omega (arith, drop_low k xs (omega (arith, low)))
