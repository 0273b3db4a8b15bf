-- The objects of every channel's log last.
use Rattle.std.proofs.Common.{◌≡◌, ℕ, suc, ◌≤◌, Bool, true, false, cond, List, [], ◌∷◌, ◌++◌, length, reverse, map, refl, sym, ◌∙◌, ap, subst, arith, append_assoc}
use Rattle.std.specs.Prelude.{Option, Some, None, ◌||◌, nat_lt, ◌==◌, option_to_list}
use Rattle.std.proofs.lemmas.List.{append-nil, reverse-append, length-append}
use Rattle.std.proofs.Math.Nat.{le-max_right}
use Rattle.rl_numbers.specs.declared.limits.TheConstants.{MAX_MESSAGE_SIZE, MAX_PLACE}
use Rattle.rl_types.specs.declared.objects.ObjectOp.{ObjectOp}
use Rattle.rl_types.specs.declared.messages.Entry.{Entry}
use Rattle.rl_types.specs.declared.messages.Body.{Body}
use Rattle.rl_types.specs.declared.messages.Body.TheVariants.{Messages, Presence, Objects}
use Rattle.rl_types.specs.declared.presence.PresenceItem.{PresenceItem}
use Rattle.rl_types.specs.Weight.{body_weight}
use Rattle.rl_events.specs.declared.channel.ChannelEvent.{ChannelEvent}
use Rattle.rl_events.specs.declared.channel.ChannelEvent.TheVariants.{Put, Join, Read, MemberPage, ObjectPage, Gone, Tick, Census}
use Rattle.rl_events.specs.declared.channel.Outcome.{Outcome}
use Rattle.rl_objmodel.specs.Operations.{Stamped, stamped_at}
use Rattle.rl_objmodel.specs.Rules.{Setting, ops_rule, serial_at, entering}
use Rattle.rl_objmodel.specs.Lasting.{Lasts, entered}
use Rattle.rl_objmodel.proofs.Lasting.{entries_follow, entries_last, lasting_longer, below_place}
use Rattle.rl_model.specs.Ids.{has_long, filled_ops}
use Rattle.rl_model.specs.History.{moment_of, clock, ticked, setting}
use Rattle.rl_model.specs.Objects.{added_by_entry, operations, operated, object_rule}
use Rattle.rl_model.specs.Verdict.{Decision, entries, Judgement, Stale, Again, Known, Fails, Adds, own_rule, fails_or, judged_by_rules, judged_by_id, judged_by_serial, limit_rule, judged, kept, remembered_of, told, entry_if, entry_of, gone_entry, entry_of_gone, members_on, decided, decisions, log, head}
use Rattle.rl_model.specs.Lasting.{LogsLast, PutsFollow}

-- THE OPERATIONS OF AN ENTRY

reverse_cons : (x : Stamped) (xs : List Stamped) → reverse (x ∷ xs) ≡ reverse xs ++ x ∷ []
reverse_cons x xs = reverse-append (x ∷ []) xs

pub entered_is : (at : Setting) (place index : ℕ) (ops : List ObjectOp) (before : List Stamped)
    → entered at place index before ops ≡ reverse (map (stamped_at at.now) (filled_ops at.site place index ops)) ++ before
entered_is at place index [] before = refl
entered_is at place index (op ∷ ops) before =
    let more = map (stamped_at at.now) (filled_ops at.site place (suc index) ops) in
    let one = entering at place index op in
    entered_is at place (suc index) ops (one ∷ before)
    ∙ sym (ap (λ xs. xs ++ before) (reverse_cons one more) ∙ append_assoc (reverse more) (one ∷ []) before)

operations_append : (xs ys : List Entry) → operations (xs ++ ys) ≡ operations xs ++ operations ys
operations_append [] ys = refl
operations_append (x ∷ xs) ys = ap (λ os. added_by_entry x ++ os) (operations_append xs ys) ∙ sym (append_assoc (added_by_entry x) (operations xs) (operations ys))

abbrev pub ops_added : Option Entry → List Stamped
ops_added None = []
ops_added (Some entry) = added_by_entry entry

ops_listed : (added : Option Entry) → operations (option_to_list added) ≡ ops_added added
ops_listed None = refl
ops_listed (Some entry) = append-nil (added_by_entry entry)

-- one more entry puts its operations before the others
pub operated_more : (log : List Entry) (added : Option Entry) → operated (log ++ option_to_list added) ≡ reverse (ops_added added) ++ operated log
operated_more log added =
    ap reverse (operations_append log (option_to_list added) ∙ ap (λ os. operations log ++ os) (ops_listed added))
    ∙ reverse-append (operations log) (ops_added added)

-- A JUDGEMENT THAT ADDS PASSED THE RULES

by_serial : (serial : ℕ) (last : Option (ℕ × Outcome)) (next : Judgement) → judged_by_serial serial last next ≡ Adds → next ≡ Adds
by_serial serial None next is = is
by_serial serial (Some last) next is = by_tests (nat_lt serial last.0) (serial == last.0) is
  where
    by_tests : (below same : Bool) → cond below Stale (cond same (Again last.1) next) ≡ Adds → next ≡ Adds
    by_tests true same is = cc
    by_tests false true is = cc
    by_tests false false is = is

by_id : (found : Option ℕ) (next : Judgement) → judged_by_id found next ≡ Adds → next ≡ Adds
by_id None next is = is
by_id (Some place) next is = cc

failed_none : (failed : Option ℕ) (next : Judgement) → fails_or failed next ≡ Adds → failed ≡ None
failed_none None next is = refl
failed_none (Some code) next is = cc

failed_next : (failed : Option ℕ) (next : Judgement) → fails_or failed next ≡ Adds → next ≡ Adds
failed_next None next is = is
failed_next (Some code) next is = cc

by_rules : (head : ℕ) (body : Body) (next : Judgement) → judged_by_rules head body next ≡ Adds → next ≡ Adds
by_rules head body next is = by_tests (nat_lt MAX_MESSAGE_SIZE (body_weight body) || has_long body) (head == MAX_PLACE) is
  where
    by_tests : (long full : Bool) → cond long (Fails 104) (cond full (Fails 116) (fails_or (own_rule body) next)) ≡ Adds → next ≡ Adds
    by_tests true full is = cc
    by_tests false true is = cc
    by_tests false false is = failed_next (own_rule body) next is

adds_passes : (at : Setting) (before : List Decision) (conn serial : ℕ) (body : Body) → judged at before conn serial body ≡ Adds
    → object_rule at (entries before) body ≡ None
adds_passes at before conn serial body is =
    let last = fails_or (object_rule at (entries before) body) Adds in
    let from_limit = fails_or (limit_rule (told before) conn body) last in
    let from_rules = judged_by_rules (length (entries before)) body from_limit in
    let from_id = judged_by_id (remembered_of body before) from_rules in
    failed_none (object_rule at (entries before) body) Adds
    (failed_next (limit_rule (told before) conn body) last
    (by_rules (length (entries before)) body from_limit
    (by_id (remembered_of body before) from_rules
    (by_serial serial (kept conn before) from_id is))))

-- HISTORIES

clock_grows : (event : ChannelEvent) (past : List ChannelEvent) → clock past ≤ clock (event ∷ past)
clock_grows event past = le-max_right (moment_of event) (clock past)

pub ticked_low : (past : List ChannelEvent) → ticked past ≤ clock past
ticked_low [] = omega arith
ticked_low (event ∷ past) = by_event event (ticked_low past) (clock_grows event past)
  where
    by_event : (e : ChannelEvent) → ticked past ≤ clock past → clock past ≤ clock (e ∷ past) → ticked (e ∷ past) ≤ clock (e ∷ past)
    by_event (Tick now) low grows = omega arith
    by_event (Put conn serial body now) low grows = omega (arith, low, grows)
    by_event (Join asked) low grows = omega (arith, low, grows)
    by_event (Read from most) low grows = omega (arith, low, grows)
    by_event (MemberPage after most) low grows = omega (arith, low, grows)
    by_event (ObjectPage after most) low grows = omega (arith, low, grows)
    by_event (Gone conn now) low grows = omega (arith, low, grows)
    by_event Census low grows = omega (arith, low, grows)

-- the objects of a log last, below the serials of its next entry
abbrev LogLasts : ℕ → List ℕ → List Entry → Type 0
LogLasts now site log = Lasts now (serial_at site (suc (length log)) 0) (operated log)

abbrev StaysWith : ℕ → List ℕ → List Entry → Option Entry → Type 0
StaysWith now site log added = LogLasts now site (log ++ option_to_list added)

one_longer : (log : List Entry) (entry : Entry) → length (log ++ entry ∷ []) ≡ suc (length log)
one_longer log entry = length-append log (entry ∷ []) ∙ omega arith

-- an entry without operations changes nothing
no_more : (now : ℕ) (site : List ℕ) (log : List Entry) (added : Option Entry) → ops_added added ≡ [] → LogLasts now site log → StaysWith now site log added
no_more now site log None none holds = subst (λ (entries : List Entry). LogLasts now site entries) (sym (append-nil log)) holds
no_more now site log (Some entry) none holds =
    subst (λ (n : ℕ). Lasts now (serial_at site (suc n) 0) (operated (log ++ entry ∷ []))) (sym (one_longer log entry))
    (subst (Lasts now (serial_at site (suc (suc (length log))) 0)) (sym (operated_more log (Some entry) ∙ ap (λ os. reverse os ++ operated log) none))
    (below_place now site (suc (length log)) (operated log) holds))

some_more : (at : Setting) (log : List Entry) (conn serial : ℕ) (ops : List ObjectOp) → at.ticked ≤ at.now → LogLasts at.now at.site log
    → ops_rule at (suc (length log)) 0 (operated log) ops ≡ None → StaysWith at.now at.site log (Some (entry_of at (length log) conn serial (Objects ops)))
some_more at log conn serial ops order holds passes =
    let entry = entry_of at (length log) conn serial (Objects ops) in
    subst (λ (n : ℕ). Lasts at.now (serial_at at.site (suc n) 0) (operated (log ++ entry ∷ []))) (sym (one_longer log entry))
    (subst (Lasts at.now (serial_at at.site (suc (suc (length log))) 0))
    (entered_is at (suc (length log)) 0 ops (operated log) ∙ ap (λ (n : ℕ). reverse (map (stamped_at at.now) (filled_ops at.site n 0 ops)) ++ operated log) (omega arith) ∙ sym (operated_more log (Some entry)))
    (entries_last at (suc (length log)) 0 (operated log) ops order holds passes))

put_lasts : (at : Setting) (before : List Decision) (conn serial : ℕ) (body : Body) → at.ticked ≤ at.now → LogLasts at.now at.site (entries before)
    → (j : Judgement) → judged at before conn serial body ≡ j → StaysWith at.now at.site (entries before) (entry_if j (entry_of at (length (entries before)) conn serial body))
put_lasts at before conn serial body order holds Stale is = no_more at.now at.site (entries before) None refl holds
put_lasts at before conn serial body order holds (Again outcome) is = no_more at.now at.site (entries before) None refl holds
put_lasts at before conn serial body order holds (Known place) is = no_more at.now at.site (entries before) None refl holds
put_lasts at before conn serial body order holds (Fails code) is = no_more at.now at.site (entries before) None refl holds
put_lasts at before conn serial (Messages items) order holds Adds is = no_more at.now at.site (entries before) (Some (entry_of at (length (entries before)) conn serial (Messages items))) refl holds
put_lasts at before conn serial (Presence items) order holds Adds is = no_more at.now at.site (entries before) (Some (entry_of at (length (entries before)) conn serial (Presence items))) refl holds
put_lasts at before conn serial (Objects ops) order holds Adds is = some_more at (entries before) conn serial ops order holds (adds_passes at before conn serial (Objects ops) is)

pub gone_none : (head now conn : ℕ) (gone : List PresenceItem) → ops_added (entry_of_gone head now conn gone) ≡ []
gone_none head now conn [] = refl
gone_none head now conn (member ∷ gone) = by_test (head == MAX_PLACE)
  where
    by_test : (b : Bool) → ops_added (cond b None (Some (gone_entry head now conn (member ∷ gone)))) ≡ []
    by_test true = refl
    by_test false = refl

event_lasts : (at : Setting) (before : List Decision) (event : ChannelEvent) → at.ticked ≤ at.now → LogLasts at.now at.site (entries before)
    → LogLasts at.now at.site (entries (decided at before event ∷ before))
event_lasts at before (Put conn serial body now) order holds = put_lasts at before conn serial body order holds (judged at before conn serial body) refl
event_lasts at before (Gone conn now) order holds =
    no_more at.now at.site (entries before) (entry_of_gone (length (entries before)) at.now conn (members_on conn before)) (gone_none (length (entries before)) at.now conn (members_on conn before)) holds
event_lasts at before (Join asked) order holds = no_more at.now at.site (entries before) None refl holds
event_lasts at before (Read from most) order holds = no_more at.now at.site (entries before) None refl holds
event_lasts at before (MemberPage after most) order holds = no_more at.now at.site (entries before) None refl holds
event_lasts at before (ObjectPage after most) order holds = no_more at.now at.site (entries before) None refl holds
event_lasts at before (Tick now) order holds = no_more at.now at.site (entries before) None refl holds
event_lasts at before Census order holds = no_more at.now at.site (entries before) None refl holds

pub logs_last : LogsLast
logs_last site [] = record { lives = tt; times = tt; below = tt }
logs_last site (event ∷ past) =
    event_lasts (setting site (event ∷ past)) (decisions site past) event (ticked_low (event ∷ past))
    (lasting_longer (clock past) (clock (event ∷ past)) (serial_at site (suc (head site past)) 0) (operated (log site past)) (clock_grows event past) (logs_last site past))

pub puts_follow : PutsFollow
puts_follow site past event ops =
    entries_follow (setting site (event ∷ past)) (suc (head site past)) 0 (operated (log site past)) ops (ticked_low (event ∷ past))
    (lasting_longer (clock past) (clock (event ∷ past)) (serial_at site (suc (head site past)) 0) (operated (log site past)) (clock_grows event past) (logs_last site past))
