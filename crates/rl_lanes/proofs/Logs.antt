-- Logs and histories that grow.
use Rattle.std.proofs.Common.{◌≡◌, ◌⊎◌, inl, inr, ℕ, zero, suc, ◌+◌, ◌-◌, ◌≤◌, Bool, true, false, cond, List, [], ◌∷◌, ◌++◌, length, take, drop, refl, sym, ap, arith, length-append}
use Rattle.std.specs.Prelude.{⊤, Option, Some, None, slice_get, nat_le, ◌==◌, ◌&&◌, option_to_list}
use Rattle.std.specs.List.{AllByRecursion}
use Rattle.std.proofs.lemmas.Bool.{leb-true}
use Rattle.rl_numbers.specs.declared.limits.TheConstants.{MAX_PLACE}
use Rattle.rl_events.specs.declared.channel.ChannelEvent.{ChannelEvent}
use Rattle.rl_events.specs.declared.channel.ChannelEvent.TheVariants.{Put, Join, Read, MemberPage, ObjectPage, Gone, Tick, Census}
use Rattle.rl_types.specs.declared.messages.Entry.{Entry}
use Rattle.rl_types.specs.declared.messages.Given.{Given}
use Rattle.rl_types.specs.declared.messages.Given.TheVariants.{Ours, Other}
use Rattle.rl_types.specs.declared.presence.PresenceItem.{PresenceItem}
use Rattle.rl_objmodel.specs.Rules.{Setting}
use Rattle.rl_model.specs.History.{setting}
use Rattle.rl_model.specs.Verdict.{Decision, entries, Judgement, Stale, Again, Known, Fails, Adds, judged, entry_if, entry_of, entry_of_gone, gone_entry, members_on, decided, decisions, log, head}
use Rattle.rl_model.specs.Window.{first}
use Rattle.rl_model.specs.Reply.{joined_place}
use Rattle.rl_claims.proofs.Runs.{log_grows}

-- LISTS

pub append_none : {X : Type 0} (xs : List X) → xs ++ [] ≡ xs
append_none [] = refl
append_none (x ∷ xs) = ap (λ ys. x ∷ ys) (append_none xs)

pub each_append : {X : Type 0} (P : X → Type 0) → (xs ys : List X) → AllByRecursion P xs → AllByRecursion P ys → AllByRecursion P (xs ++ ys)
each_append P [] ys each more = more
each_append P (x ∷ xs) ys each more = (each.0, each_append P xs ys each.1 more)

pub get_append : (xs ys : List Entry) (k : ℕ) (e : Entry) → slice_get xs k ≡ Some e → slice_get (xs ++ ys) k ≡ Some e
get_append [] ys k e found = absurd (cc)
get_append (x ∷ xs) ys zero e found = found
get_append (x ∷ xs) ys (suc k) e found = get_append xs ys k e found

-- what is found in a list with one more or none
get_last : (xs : List Entry) (more : Option Entry) (k : ℕ) (e : Entry) → slice_get (xs ++ option_to_list more) k ≡ Some e → (slice_get xs k ≡ Some e) ⊎ ((k ≡ length xs) × (more ≡ Some e))
get_last [] None k e found = absurd (cc)
get_last [] (Some one) zero e found = inr (refl, found)
get_last [] (Some one) (suc k) e found = absurd (cc)
get_last (x ∷ xs) more zero e found = inl found
get_last (x ∷ xs) more (suc k) e found = next (get_last xs more k e found) where
  next : (slice_get xs k ≡ Some e) ⊎ ((k ≡ length xs) × (more ≡ Some e)) → (slice_get xs k ≡ Some e) ⊎ ((suc k ≡ suc (length xs)) × (more ≡ Some e))
  next (inl old) = inl old
  next (inr new) = inr (ap suc new.0, new.1)

-- AN ENTRY STANDS AT ITS PLACE

if_adds : (judgement : Judgement) (one e : Entry) → entry_if judgement one ≡ Some e → one ≡ e
if_adds Adds one e is = cc
if_adds Stale one e is = absurd (cc)
if_adds (Again outcome) one e is = absurd (cc)
if_adds (Known place) one e is = absurd (cc)
if_adds (Fails code) one e is = absurd (cc)

gone_place : (end now conn : ℕ) (gone : List PresenceItem) (e : Entry) → entry_of_gone end now conn gone ≡ Some e → e.place ≡ end + 1
gone_place end now conn [] e is = absurd (cc)
gone_place end now conn (member ∷ gone) e is = by_test (end == MAX_PLACE) is where
  by_test : (full : Bool) → cond full None (Some (gone_entry end now conn (member ∷ gone))) ≡ Some e → e.place ≡ end + 1
  by_test true is = absurd (cc)
  by_test false is = let same : gone_entry end now conn (member ∷ gone) ≡ e = cc in sym (ap (λ (x : Entry). x.place) same)

decided_place : (set : Setting) (before : List Decision) (event : ChannelEvent) (e : Entry) → (decided set before event).entry ≡ Some e → e.place ≡ length (entries before) + 1
decided_place set before (Put conn serial body now) e is =
    sym (ap (λ (x : Entry). x.place) (if_adds (judged set before conn serial body) (entry_of set (length (entries before)) conn serial body) e is))
decided_place set before (Gone conn now) e is = gone_place (length (entries before)) set.now conn (members_on conn before) e is
decided_place set before (Join asked) e is = absurd (cc)
decided_place set before (Read from most) e is = absurd (cc)
decided_place set before (MemberPage after most) e is = absurd (cc)
decided_place set before (ObjectPage after most) e is = absurd (cc)
decided_place set before (Tick now) e is = absurd (cc)
decided_place set before Census e is = absurd (cc)

pub place_is : (site : List ℕ) (past : List ChannelEvent) (k : ℕ) (e : Entry) → slice_get (log site past) k ≡ Some e → e.place ≡ suc k
place_is site [] k e found = absurd (cc)
place_is site (event ∷ past) k e found =
    by_side (get_last (log site past) (decided (setting site (event ∷ past)) (decisions site past) event).entry k e found) (λ old. place_is site past k e old) where
      by_side : (slice_get (log site past) k ≡ Some e) ⊎ ((k ≡ length (log site past)) × ((decided (setting site (event ∷ past)) (decisions site past) event).entry ≡ Some e))
          → (slice_get (log site past) k ≡ Some e → e.place ≡ suc k) → e.place ≡ suc k
      by_side (inl old) earlier = earlier old
      by_side (inr new) earlier = omega (arith, new.0, decided_place (setting site (event ∷ past)) (decisions site past) event e new.1)

-- RUNS

-- entries that stand in a log one after another, from a place on
abbrev pub AreAt : List Entry → ℕ → List Entry → Type 0
AreAt whole place [] = ⊤
AreAt whole place (e ∷ more) = (e.place ≡ suc place) × (slice_get whole place ≡ Some e) × AreAt whole (suc place) more

drop_cons : (whole : List Entry) (from : ℕ) (e : Entry) (more : List Entry) → e ∷ more ≡ drop from whole → (slice_get whole from ≡ Some e) × (more ≡ drop (suc from) whole)
drop_cons [] zero e more is = absurd (cc)
drop_cons [] (suc from) e more is = absurd (cc)
drop_cons (x ∷ whole) zero e more is = let one : e ≡ x = cc in let rest : more ≡ whole = cc in (ap (λ y. Some y) (sym one), rest)
drop_cons (x ∷ whole) (suc from) e more is = drop_cons whole from e more is

at_drop : (whole : List Entry) → ((k : ℕ) (e : Entry) → slice_get whole k ≡ Some e → e.place ≡ suc k) → (from : ℕ) (xs : List Entry) → xs ≡ drop from whole → AreAt whole from xs
at_drop whole all from [] is = tt
at_drop whole all from (e ∷ more) is =
    let found = drop_cons whole from e more is in
    (all from e found.0, found.0, at_drop whole all (suc from) more found.1)

at_take : (whole : List Entry) (place most : ℕ) (xs : List Entry) → AreAt whole place xs → AreAt whole place (take most xs)
at_take whole place zero [] at = tt
at_take whole place zero (e ∷ more) at = tt
at_take whole place (suc most) [] at = tt
at_take whole place (suc most) (e ∷ more) at = (at.0, at.1, at_take whole (suc place) most more at.2)

pub read_at : (site : List ℕ) (past : List ChannelEvent) (from most : ℕ) → AreAt (log site past) from (take most (drop from (log site past)))
read_at site past from most = at_take (log site past) from most (drop from (log site past)) (at_drop (log site past) (place_is site past) from (drop from (log site past)) refl)

-- HISTORIES

pub head_grows : (site : List ℕ) (event : ChannelEvent) (past : List ChannelEvent) → head site past ≤ head site (event ∷ past)
head_grows site event past =
    let g = log_grows site event past in
    omega (arith, ap length g.1, length-append (log site past) g.0)

low_enough : (a b c : Bool) (place end : ℕ) → (c ≡ true → place ≤ end) → cond (a && (b && c)) place end ≤ end
low_enough true true true place end low = low refl
low_enough true true false place end low = omega arith
low_enough true false c place end low = omega arith
low_enough false b c place end low = omega arith

pub joined_low : (epoch : ℕ) (site : List ℕ) (past : List ChannelEvent) (asked : Option Given) → joined_place epoch site past asked ≤ head site past
joined_low epoch site past None = omega arith
joined_low epoch site past (Some (Other text)) = omega arith
joined_low epoch site past (Some (Ours serial)) =
    low_enough (serial.epoch == epoch) (nat_le (first site past - 1) serial.place) (nat_le serial.place (head site past)) serial.place (head site past)
    (leb-true serial.place (head site past))
