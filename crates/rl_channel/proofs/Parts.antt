-- What one more event makes of what a history leaves.
use Rattle.std.proofs.Common.{◌≡◌, ℕ, ◌+◌, true, false, List, [], ◌∷◌, ◌++◌, length, refl, ap, sym, ◌∙◌, arith, length-append}
use Rattle.std.specs.Prelude.{max, Option, Some, None, nat_lt, option_to_list}
use Rattle.std.specs.List.{cons_option}
use Rattle.rl_events.specs.declared.channel.ChannelEvent.{ChannelEvent}
use Rattle.rl_events.specs.declared.channel.ChannelEvent.TheVariants.{Put, Join, Read, MemberPage, ObjectPage, Gone, Tick, Census}
use Rattle.rl_events.specs.declared.channel.Verdict.{Verdict}
use Rattle.rl_events.specs.declared.channel.Verdict.TheVariants.{Done, Old}
use Rattle.rl_events.specs.declared.channel.Outcome.TheVariants.{Taken}
use Rattle.rl_types.specs.declared.messages.Body.{Body}
use Rattle.rl_types.specs.declared.messages.Entry.{Entry}
use Rattle.rl_types.specs.declared.messages.Given.{Given}
use Rattle.rl_ids.specs.declared.members.MemberKey.{MemberKey}
use Rattle.rl_ids.specs.declared.objects.ObjectId.{ObjectId}
use Rattle.rl_model.specs.Ids.{given_id}
use Rattle.rl_model.specs.History.{clock, setting}
use Rattle.rl_model.specs.Verdict.{decisions, kept, kept_at, added, added_by, Judgement, Stale, Again, Known, Fails, Adds, judged, verdict_at, entry_if, entry_of, entry_of_gone, members_on, log, head, given_id_of}
use Rattle.rl_model.specs.Window.{first, first_next}
use Rattle.rl_model.specs.Parts.{Parts, parts_of, with_entry, with_outcome, aged}
use Rattle.rl_channel.specs.Steps.{settled, settled_parts, gone_parts}

pub append_none : {A : Type 0} (xs : List A) → xs ++ [] ≡ xs
append_none [] = refl
append_none (x ∷ xs) = ap (λ (ys : List _). x ∷ ys) (append_none xs)

none_added : (log : List Entry) → nat_lt (length log) (length (log ++ [])) ≡ false
none_added log = rw (append_none log) (grind arith)

one_added : (log : List Entry) (entry : Entry) → nat_lt (length log) (length (log ++ entry ∷ [])) ≡ true
one_added log entry = rw (length-append log (entry ∷ [])) (grind arith)

-- what an event leaves that was answered so and added this entry
abbrev pub after : List ℕ → ChannelEvent → Option Verdict → Option Entry → List ChannelEvent → Parts
after site event answer entry past =
    record {
      log = log site past ++ option_to_list entry;
      first = first_next event (clock (event ∷ past)) (nat_lt (head site past) (length (log site past ++ option_to_list entry))) (log site past ++ option_to_list entry) (first site past);
      added = cons_option (added_by (given_id_of event) entry) (added (decisions site past));
      kept = λ conn. kept_at conn event answer (kept conn (decisions site past));
    }

-- PUTS

put_next : (site : List ℕ) (past : List ChannelEvent) (conn serial : ℕ) (body : Body) (now : ℕ)
    → parts_of site (Put conn serial body now ∷ past)
    ≡ after site (Put conn serial body now) (Some (verdict_at (head site past) (judged (setting site (Put conn serial body now ∷ past)) (decisions site past) conn serial body))) (entry_if (judged (setting site (Put conn serial body now ∷ past)) (decisions site past) conn serial body) (entry_of (setting site (Put conn serial body now ∷ past)) (head site past) conn serial body)) past
put_next site past conn serial body now = refl

put_unmoved : (site : List ℕ) (past : List ChannelEvent) (conn serial : ℕ) (body : Body) (now : ℕ) (answer : Verdict)
    → after site (Put conn serial body now) (Some answer) None past ≡ settled_parts conn serial answer (parts_of site past)
put_unmoved site past conn serial body now Old = rw (none_added (log site past), append_none (log site past)) refl
put_unmoved site past conn serial body now (Done outcome) = rw (none_added (log site past), append_none (log site past)) refl

settled_entry : (head : ℕ) (judgement : Judgement) (entry : Entry) (answer : Verdict) → settled head judgement ≡ Some answer → entry_if judgement entry ≡ None
settled_entry head Stale entry answer is = refl
settled_entry head (Again outcome) entry answer is = refl
settled_entry head (Known place) entry answer is = refl
settled_entry head (Fails code) entry answer is = refl
settled_entry head Adds entry answer is = cc

pub settled_is : (head : ℕ) (judgement : Judgement) (answer : Verdict) → settled head judgement ≡ Some answer → answer ≡ verdict_at head judgement
settled_is head Stale answer is = cc
settled_is head (Again outcome) answer is = cc
settled_is head (Known place) answer is = cc
settled_is head (Fails code) answer is = cc
settled_is head Adds answer is = cc

-- a Put that adds nothing
pub put_settles : (site : List ℕ) (past : List ChannelEvent) (conn serial : ℕ) (body : Body) (now : ℕ) (answer : Verdict)
    → settled (head site past) (judged (setting site (Put conn serial body now ∷ past)) (decisions site past) conn serial body) ≡ Some answer
    → parts_of site (Put conn serial body now ∷ past) ≡ settled_parts conn serial answer (parts_of site past)
put_settles site past conn serial body now answer is =
    let judgement = judged (setting site (Put conn serial body now ∷ past)) (decisions site past) conn serial body in
    let entry = entry_of (setting site (Put conn serial body now ∷ past)) (head site past) conn serial body in
    put_next site past conn serial body now
    ∙ ap (λ (e : Option Entry). after site (Put conn serial body now) (Some (verdict_at (head site past) judgement)) e past) (settled_entry (head site past) judgement entry answer is)
    ∙ ap (λ (v : Verdict). after site (Put conn serial body now) (Some v) None past) (sym (settled_is (head site past) judgement answer is))
    ∙ put_unmoved site past conn serial body now answer

-- the log after a Put that adds nothing
pub put_settles_log : (site : List ℕ) (past : List ChannelEvent) (conn serial : ℕ) (body : Body) (now : ℕ) (answer : Verdict)
    → settled (head site past) (judged (setting site (Put conn serial body now ∷ past)) (decisions site past) conn serial body) ≡ Some answer
    → log site (Put conn serial body now ∷ past) ≡ log site past
put_settles_log site past conn serial body now answer is =
    ap (λ (p : Parts). p.log) (put_settles site past conn serial body now answer is) ∙ same_log conn serial answer (parts_of site past)
  where
    same_log : (conn serial : ℕ) (answer : Verdict) (parts : Parts) → (settled_parts conn serial answer parts).log ≡ parts.log
    same_log conn serial Old parts = refl
    same_log conn serial (Done outcome) parts = refl

added_parts : (site : List ℕ) (past : List ChannelEvent) (conn serial : ℕ) (body : Body) (now : ℕ) (entry : Entry)
    → after site (Put conn serial body now) (Some (Done (Taken (head site past + 1)))) (Some entry) past
    ≡ with_outcome conn serial (Taken (head site past + 1)) (with_entry entry (given_id body) (parts_of site past))
added_parts site past conn serial body now entry = rw (one_added (log site past) entry) refl

-- a Put that adds an entry
pub put_adds : (site : List ℕ) (past : List ChannelEvent) (conn serial : ℕ) (body : Body) (now : ℕ)
    → judged (setting site (Put conn serial body now ∷ past)) (decisions site past) conn serial body ≡ Adds
    → parts_of site (Put conn serial body now ∷ past)
    ≡ with_outcome conn serial (Taken (head site past + 1)) (with_entry (entry_of (setting site (Put conn serial body now ∷ past)) (head site past) conn serial body) (given_id body) (parts_of site past))
put_adds site past conn serial body now adds =
    let entry = entry_of (setting site (Put conn serial body now ∷ past)) (head site past) conn serial body in
    put_next site past conn serial body now
    ∙ ap (λ (j : Judgement). after site (Put conn serial body now) (Some (verdict_at (head site past) j)) (entry_if j entry) past) adds
    ∙ added_parts site past conn serial body now entry

-- A CONNECTION GOES

gone_next : (site : List ℕ) (past : List ChannelEvent) (conn now : ℕ)
    → parts_of site (Gone conn now ∷ past) ≡ after site (Gone conn now) None (entry_of_gone (head site past) (max now (clock past)) conn (members_on conn (decisions site past))) past
gone_next site past conn now = refl

gone_by_entry : (site : List ℕ) (past : List ChannelEvent) (conn now : ℕ) (entry : Option Entry) → after site (Gone conn now) None entry past ≡ gone_parts conn entry (parts_of site past)
gone_by_entry site past conn now None = rw (none_added (log site past), append_none (log site past)) refl
gone_by_entry site past conn now (Some entry) = rw (one_added (log site past) entry) refl

pub gone_leaves : (site : List ℕ) (past : List ChannelEvent) (conn now : ℕ) (entry : Option Entry)
    → entry ≡ entry_of_gone (head site past) (max now (clock past)) conn (members_on conn (decisions site past))
    → parts_of site (Gone conn now ∷ past) ≡ gone_parts conn entry (parts_of site past)
gone_leaves site past conn now entry is =
    gone_next site past conn now ∙ ap (λ (e : Option Entry). after site (Gone conn now) None e past) (sym is) ∙ gone_by_entry site past conn now entry

-- TIME PASSES

pub tick_ages : (site : List ℕ) (past : List ChannelEvent) (now : ℕ) → parts_of site (Tick now ∷ past) ≡ aged (max now (clock past)) (parts_of site past)
tick_ages site past now = rw (append_none (log site past)) refl

-- WHAT ADDS NOTHING

pub join_stays : (site : List ℕ) (past : List ChannelEvent) (asked : Option Given) → parts_of site (Join asked ∷ past) ≡ parts_of site past
join_stays site past asked = rw (none_added (log site past), append_none (log site past)) refl

pub read_stays : (site : List ℕ) (past : List ChannelEvent) (from most : ℕ) → parts_of site (Read from most ∷ past) ≡ parts_of site past
read_stays site past from most = rw (none_added (log site past), append_none (log site past)) refl

pub page_stays : (site : List ℕ) (past : List ChannelEvent) (from : Option MemberKey) (most : ℕ) → parts_of site (MemberPage from most ∷ past) ≡ parts_of site past
page_stays site past from most = rw (none_added (log site past), append_none (log site past)) refl

pub objects_stay : (site : List ℕ) (past : List ChannelEvent) (from : Option ObjectId) (most : ℕ) → parts_of site (ObjectPage from most ∷ past) ≡ parts_of site past
objects_stay site past from most = rw (none_added (log site past), append_none (log site past)) refl

pub census_stays : (site : List ℕ) (past : List ChannelEvent) → parts_of site (Census ∷ past) ≡ parts_of site past
census_stays site past = rw (none_added (log site past), append_none (log site past)) refl
