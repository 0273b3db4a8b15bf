-- Two entries with one given id stand far apart.
use Rattle.std.proofs.Common.{◌≡◌, ℕ, zero, suc, ◌+◌, ◌<◌, ◌≤◌, Bool, true, false, cond, List, [], ◌∷◌, ◌++◌, length, take, refl, sym, ap, ◌∙◌, subst, arith, length-append}
use Rattle.std.specs.Prelude.{⊤, Option, Some, None, find, option_map, option_to_list, option_and_then, nat_lt, ◌==◌}
use Rattle.std.specs.List.{AllByRecursion, cons_option}
use Rattle.std.proofs.lemmas.Slice.Eq.{bytes_eq-Decides}
use Rattle.rl_events.specs.declared.channel.ChannelEvent.{ChannelEvent}
use Rattle.rl_events.specs.declared.channel.ChannelEvent.TheVariants.{Put, Join, Read, MemberPage, ObjectPage, Gone, Tick, Census}
use Rattle.rl_types.specs.declared.presence.PresenceItem.{PresenceItem}
use Rattle.rl_types.specs.declared.messages.Entry.{Entry}
use Rattle.rl_events.specs.declared.channel.Outcome.{Outcome}
use Rattle.rl_types.specs.declared.messages.Body.{Body}
use Rattle.rl_numbers.specs.declared.limits.TheConstants.{MAX_PLACE, MAX_REMEMBERED}
use Rattle.rl_objmodel.specs.Rules.{Setting}
use Rattle.rl_model.specs.History.{setting}
use Rattle.rl_model.specs.Objects.{object_rule}
use Rattle.rl_model.specs.Ids.{given_id}
use Rattle.rl_model.specs.Verdict.{Decision, Added, added, added_by, entries, decided, decisions, is_text, remembered, remembered_of, judged, judged_by_id, judged_by_rules, judged_by_serial, fails_or, limit_rule, told, entry_of_gone, members_on, given_id_of, Judgement, Stale, Again, Known, Fails, Adds, kept, entry_if, gone_entry}
use Rattle.rl_claims.specs.Once.{AreApart, OnceById}

-- PLACES

each_weaker : {X : Type 0} (P Q : X → Type 0) → ((x : X) → P x → Q x) → (xs : List X) → AllByRecursion P xs → AllByRecursion Q xs
each_weaker P Q weaker [] each = tt
each_weaker P Q weaker (x ∷ xs) each = (weaker x each.0, each_weaker P Q weaker xs each.1)

-- places that count down to 1
abbrev pub Counted : List Added → Type 0
Counted [] = ⊤
Counted (a ∷ more) = (a.place ≡ length more + 1) × Counted more

len_step : (id : Option (List ℕ)) (entry : Option Entry) (more : List Added) (es : List Entry) → length more ≡ length es → length (cons_option (added_by id entry) more) ≡ length (es ++ option_to_list entry)
len_step id None more es same = grind (arith, length-append)
len_step id (Some entry) more es same = grind (arith, length-append)

pub length-added : (ds : List Decision) → length (added ds) ≡ length (entries ds)
length-added [] = refl
length-added (d ∷ ds) = len_step (given_id_of d.event) d.entry (added ds) (entries ds) (length-added ds)

places_below : (more : List Added) (n : ℕ) → Counted more → length more ≤ n → AllByRecursion (λ (a : Added). a.place ≤ n) more
places_below [] n counted h = tt
places_below (a ∷ more) n counted h = (omega (arith, counted.0), places_below more n counted.1 (omega arith))

-- SEARCHING FOR AN ID

abbrev has : List ℕ → Added → Bool
has id a = is_text id a.id

missed : (a : Added) (found : Option Added) (id : List ℕ) (test : Bool) → is_text id a.id ≡ test → cond test (Some a) found ≡ None → (a.id ≡ Some id → ⊥) × (found ≡ None)
missed a found id true is none = absurd (cc)
missed a found id false is none = (λ same. let own : is_text id (Some id) ≡ true = (bytes_eq-Decides id id).1 refl in cc, none)

far : (n : ℕ) (more : List Added) (id : List ℕ) → Counted more → find (has id) (take n more) ≡ None → AllByRecursion (λ (early : Added). early.id ≡ Some id → early.place + n ≤ length more) more
far n [] id counted none = tt
far zero (a ∷ more) id counted none =
    each_weaker (λ (early : Added). early.place ≤ length (a ∷ more)) (λ (early : Added). early.id ≡ Some id → early.place + 0 ≤ length (a ∷ more))
    (λ (early : Added) low same. omega (arith, low)) (a ∷ more) (places_below (a ∷ more) (length (a ∷ more)) counted (omega arith))
far (suc n) (a ∷ more) id counted none =
    let m = missed a (find (has id) (take n more)) id (is_text id a.id) refl none in (
      λ same. absurd (m.0 same),
      each_weaker (λ (early : Added). early.id ≡ Some id → early.place + n ≤ length more) (λ (early : Added). early.id ≡ Some id → early.place + suc n ≤ length (a ∷ more))
          (λ (early : Added) low same. omega (arith, low same)) more (far n more id counted.1 m.1),
    )

-- A PUT THAT ADDS FOUND ITS ID NOWHERE

new_serial : (serial : ℕ) (last : Option (ℕ × Outcome)) (new : Judgement) → judged_by_serial serial last new ≡ Adds → new ≡ Adds
new_serial serial None new adds = adds
new_serial serial (Some last) new adds = by_tests (nat_lt serial last.0) (serial == last.0) adds
  where
    by_tests : (low same : Bool) → cond low Stale (cond same (Again last.1) new) ≡ Adds → new ≡ Adds
    by_tests true same h = absurd (cc)
    by_tests false true h = absurd (cc)
    by_tests false false h = h

not_known : (place : Option ℕ) (new : Judgement) → judged_by_id place new ≡ Adds → place ≡ None
not_known None new adds = refl
not_known (Some place) new adds = absurd (cc)

none_found : (found : Option Added) → option_map (λ (a : Added). a.place) found ≡ None → found ≡ None
none_found None h = refl
none_found (Some a) h = absurd (cc)

adds_new : (setting : Setting) (before : List Decision) (conn serial : ℕ) (body : Body) → judged setting before conn serial body ≡ Adds → (id : List ℕ) → given_id body ≡ Some id → find (has id) (take MAX_REMEMBERED (added before)) ≡ None
adds_new setting before conn serial body adds id given =
    let rules = judged_by_rules (length (entries before)) body (fails_or (limit_rule (told before) conn body) (fails_or (object_rule setting (entries before) body) Adds)) in
    let new = new_serial serial (kept conn before) (judged_by_id (remembered_of body before) rules) adds in
    let unknown = not_known (remembered_of body before) rules new in
    let F : Option (List ℕ) → Type 0 = λ x. option_and_then (λ (i : List ℕ). remembered i before) x ≡ None in
    none_found _ (subst F given unknown)

-- ONE MORE EVENT

abbrev Fine : List Added → Type 0
Fine more = Counted more × AreApart more

put_step : (judgement : Judgement) (entry : Entry) (id : Option (List ℕ)) (more : List Added) → entry.place ≡ length more + 1
    → (judgement ≡ Adds → (i : List ℕ) → id ≡ Some i → find (has i) (take MAX_REMEMBERED more) ≡ None)
    → Fine more → Fine (cons_option (added_by id (entry_if judgement entry)) more)
put_step Adds entry id more place new fine =
    ((place, fine.0), (apart, fine.1))
  where
    apart : AllByRecursion (λ (early : Added). (i : List ℕ) → id ≡ Some i → early.id ≡ Some i → early.place + MAX_REMEMBERED < entry.place) more
    apart = by_id id (λ i same. new refl i same)
      where
        by_id : (given : Option (List ℕ)) → ((i : List ℕ) → given ≡ Some i → find (has i) (take MAX_REMEMBERED more) ≡ None)
            → AllByRecursion (λ (early : Added). (i : List ℕ) → given ≡ Some i → early.id ≡ Some i → early.place + MAX_REMEMBERED < entry.place) more
        by_id None h = each_weaker (λ (early : Added). early.place ≤ length more) (λ (early : Added). (i : List ℕ) → None ≡ Some i → early.id ≡ Some i → early.place + MAX_REMEMBERED < entry.place)
            (λ (early : Added) low i same own. absurd (cc)) more (places_below more (length more) fine.0 (omega arith))
        by_id (Some given) h =
            each_weaker (λ (early : Added). early.id ≡ Some given → early.place + MAX_REMEMBERED ≤ length more) (λ (early : Added). (i : List ℕ) → Some given ≡ Some i → early.id ≡ Some i → early.place + MAX_REMEMBERED < entry.place)
            (λ (early : Added) low i same own. let own' : early.id ≡ Some given = cc in omega (arith, place, low own')) more
            (far MAX_REMEMBERED more given fine.0 (h given refl))
put_step Stale entry id more place new fine = fine
put_step (Again outcome) entry id more place new fine = fine
put_step (Known p) entry id more place new fine = fine
put_step (Fails code) entry id more place new fine = fine

-- a Gone gives no id
gone_place : (head now conn : ℕ) (gone : List PresenceItem) (entry : Entry) → entry_of_gone head now conn gone ≡ Some entry → entry.place ≡ head + 1
gone_place head now conn [] entry some = absurd (cc)
gone_place head now conn (member ∷ gone) entry some = by_test (head == MAX_PLACE) some
  where
    by_test : (full : Bool) → cond full None (Some (gone_entry head now conn (member ∷ gone))) ≡ Some entry → entry.place ≡ head + 1
    by_test true h = absurd (cc)
    by_test false h = cc

gone_step : (entry : Option Entry) (more : List Added) → ((e : Entry) → entry ≡ Some e → e.place ≡ length more + 1) → Fine more → Fine (cons_option (added_by None entry) more)
gone_step None more place fine = fine
gone_step (Some entry) more place fine = put_step Adds entry None more (place entry refl) (λ adds id same. absurd (cc)) fine

one_more : (setting : Setting) (before : List Decision) (event : ChannelEvent) → Fine (added before) → Fine (added (decided setting before event ∷ before))
one_more setting before (Put conn serial body moment) fine =
    put_step (judged setting before conn serial body) _ (given_id body) (added before)
    (ap (λ n. n + 1) (sym (length-added before))) (adds_new setting before conn serial body) fine
one_more setting before (Join asked) fine = fine
one_more setting before (Read from max_count) fine = fine
one_more setting before (MemberPage after max_count) fine = fine
one_more setting before (ObjectPage after max_count) fine = fine
one_more setting before (Gone conn moment) fine =
    gone_step (entry_of_gone (length (entries before)) setting.now conn (members_on conn before)) (added before)
    (λ e some. gone_place (length (entries before)) setting.now conn (members_on conn before) e some ∙ ap (λ n. n + 1) (sym (length-added before))) fine
one_more setting before (Tick moment) fine = fine
one_more setting before Census fine = fine

all_fine : (site : List ℕ) (past : List ChannelEvent) → Fine (added (decisions site past))
all_fine site [] = (tt, tt)
all_fine site (event ∷ past) = one_more (setting site (event ∷ past)) (decisions site past) event (all_fine site past)

pub once_by_id : (site : List ℕ) (past : List ChannelEvent) → OnceById site past
once_by_id site past = (all_fine site past).1
