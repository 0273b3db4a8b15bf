-- A Put that no rule before the limit of members decides.
use Rattle.std.proofs.Common.{◌≡◌, ℕ, ◌+◌, Bool, true, false, cond, List, [], ◌∷◌, ◌++◌, refl, ap, sym, subst, ◌∙◌}
use Rattle.std.specs.Prelude.{Result, Ok, Err, IsOk, IfOk, OnOk, OnErr, OnSome, max, reverse, map, Option, Some, None, option_to_list}
use Rattle.rl_events.specs.declared.channel.ChannelEvent.{ChannelEvent}
use Rattle.rl_events.specs.declared.channel.ChannelEvent.TheVariants.{Put}
use Rattle.rl_events.specs.declared.channel.Verdict.{Verdict}
use Rattle.rl_events.specs.declared.channel.Verdict.TheVariants.{Done}
use Rattle.rl_events.specs.declared.channel.Outcome.TheVariants.{Taken, Refused}
use Rattle.rl_types.specs.declared.messages.Body.{Body}
use Rattle.rl_types.specs.declared.messages.Body.TheVariants.{Messages, Presence, Objects}
use Rattle.rl_types.specs.declared.messages.Entry.{Entry}
use Rattle.rl_types.specs.declared.presence.PresenceItem.{PresenceItem}
use Rattle.rl_model.specs.Ids.{given_id, filled}
use Rattle.rl_numbers.specs.declared.codes.TheConstants.{MEMBER_LIMIT}
use Rattle.rl_objmodel.specs.Held.{Held}
use Rattle.rl_objmodel.specs.Rules.{Setting}
use Rattle.rl_model.specs.Objects.{object_rule}
use Rattle.rl_model.specs.History.{clock, setting}
use Rattle.rl_model.specs.Members.{members, members_of, items_of, has_too_many, told_by}
use Rattle.rl_model.specs.Verdict.{decisions, kept, remembered_of, Judgement, Fails, Adds, fails_or, limit_rule, told, judged, verdict_at, entry_if, entry_of, log, head}
use Rattle.rl_model.specs.Parts.{Parts, parts_of, with_entry, with_outcome}
use Rattle.rl_chanlog.specs.Keeps.{ChanLogView, Keeps}
use Rattle.rl_channel.specs.State.{ChannelState, DecidesLate, IsDecided, StandsAt, StandsFor, Stays, StaysLog, next_entry}
use Rattle.rl_channel.specs.Steps.{settled, settled_parts, settled_at, verdict_of}
use Rattle.rl_channel.specs.declared.channel.ChannelSetup.{ChannelSetup}
use Rattle.rl_channel.specs.Changes.{BodyFits, Changes, IsAfterPut, Operates}
use Rattle.rl_channel.proofs.Kept.{Obeys, obeys, put_objects, same_objects, settled_objects}
use Rattle.rl_channel.proofs.Rules.{early_passes}
use Rattle.rl_channel.proofs.Told.{told_more, limit_of_filled}
use Rattle.rl_channel.proofs.Parts.{put_adds, put_settles, put_settles_log, settled_is}

-- the rules after the early ones
abbrev late : Setting → List Entry → List PresenceItem → ℕ → Body → Judgement
late setting log latest conn body = fails_or (limit_rule latest conn body) (fails_or (object_rule setting log body) Adds)

-- they decide it
limited : (site : List ℕ) (past : List ChannelEvent) (conn serial : ℕ) (body : Body) (now : ℕ) → settled_at site past conn serial body ≡ None
    → judged (setting site (Put conn serial body now ∷ past)) (decisions site past) conn serial body ≡ late (setting site (Put conn serial body now ∷ past)) (log site past) (told (decisions site past)) conn body
limited site past conn serial body now passes =
    early_passes serial (kept conn (decisions site past)) (remembered_of body (decisions site past)) (head site past) body passes
    (late (setting site (Put conn serial body now ∷ past)) (log site past) (told (decisions site past)) conn body)

abbrev pub over : Bool → Judgement
over b = fails_or (cond b (Some MEMBER_LIMIT) None) Adds

if_test : (test : Bool) (is : Bool) → test ≡ is → over test ≡ over is
if_test test is same = ap over same

refused_by : (setting : Setting) (log : List Entry) (latest : List PresenceItem) (site : List ℕ) (place conn serial now code : ℕ) (body : Body) (new : List PresenceItem)
    → IsAfterPut latest (filled site place conn serial now body) (Some code) new → Obeys setting log body (Some code) → late setting log latest conn body ≡ Fails code
refused_by setting log latest site place conn serial now code (Messages items) new is rule = absurd is
refused_by setting log latest site place conn serial now code (Presence items) new is rule =
    if_test (has_too_many latest (map (told_by conn) items)) true (sym (limit_of_filled latest conn serial now items) ∙ is.1) ∙ ap Fails (sym is.0)
refused_by setting log latest site place conn serial now code (Objects ops) new is rule = ap (λ (failed : Option ℕ). fails_or failed Adds) (sym rule)

may_add : (setting : Setting) (log : List Entry) (latest : List PresenceItem) (site : List ℕ) (place conn serial now : ℕ) (body : Body) (new : List PresenceItem)
    → IsAfterPut latest (filled site place conn serial now body) None new → Obeys setting log body None → late setting log latest conn body ≡ Adds
may_add setting log latest site place conn serial now (Messages items) new is rule = refl
may_add setting log latest site place conn serial now (Presence items) new is rule =
    if_test (has_too_many latest (map (told_by conn) items)) false (sym (limit_of_filled latest conn serial now items) ∙ is.1)
may_add setting log latest site place conn serial now (Objects ops) new is rule = ap (λ (failed : Option ℕ). fails_or failed Adds) (sym rule)

-- the members after its entry
members_put : (log : List Entry) (site : List ℕ) (place stamp conn serial now : ℕ) (body : Body) (new : List PresenceItem)
    → IsAfterPut (reverse (items_of log)) (filled site place conn serial now body) None new
    → new ≡ members (log ++ record { place = place; stamp = stamp; conn = conn; serial = Some serial; body = filled site place conn serial now body } ∷ [])
members_put log site place stamp conn serial now (Messages items) new is =
    is ∙ ap members_of (sym (told_more log (record { place = place; stamp = stamp; conn = conn; serial = Some serial; body = filled site place conn serial now (Messages items) })))
members_put log site place stamp conn serial now (Presence items) new is =
    is.0 ∙ ap members_of (sym (told_more log (record { place = place; stamp = stamp; conn = conn; serial = Some serial; body = filled site place conn serial now (Presence items) })))
members_put log site place stamp conn serial now (Objects ops) new is =
    is ∙ ap members_of (sym (told_more log (record { place = place; stamp = stamp; conn = conn; serial = Some serial; body = filled site place conn serial now (Objects ops) })))

-- WHAT STANDS AFTER IT

-- it is answered as the definition says, and the state after it stands for the history with it
abbrev pub IsPut : List ℕ → ChannelState → ℕ → ℕ → Body → ℕ → Verdict → List ChannelEvent → Type 0
IsPut site new conn serial body now answer past = (answer ≡ verdict_of site past conn serial body now) × StandsAt site new (Put conn serial body now ∷ past)

settles_with : (site : List ℕ) (past : List ChannelEvent) (conn serial : ℕ) (body : Body) (now : ℕ) (answer : Verdict) (old new : ChannelState)
    → settled (head site past) (judged (setting site (Put conn serial body now ∷ past)) (decisions site past) conn serial body) ≡ Some answer → StandsAt site old past
    → ((parts : Parts) → Keeps old.log parts → Keeps new.log (settled_parts conn serial answer parts))
    → new.members ≡ old.members → new.objects ≡ old.objects → new.clock ≡ max now old.clock
    → IsPut site new conn serial body now answer past
settles_with site past conn serial body now answer old new is stands keeps same same_objects clocked = (
  settled_is (head site past) (judged (setting site (Put conn serial body now ∷ past)) (decisions site past) conn serial body) answer is,
  record {
    keeps = subst (Keeps new.log) (sym (put_settles site past conn serial body now answer is)) (keeps (parts_of site past) stands.keeps);
    members = same ∙ stands.members ∙ ap members (sym (put_settles_log site past conn serial body now answer is));
    objects = settled_objects site past conn serial body now old.objects new.objects (put_settles_log site past conn serial body now answer is) same_objects stands.objects;
    clock = clocked ∙ ap (max now) stands.clock;
  },
)

-- a late rule refuses it
pub refuses_late : (site : List ℕ) (past : List ChannelEvent) (conn serial code : ℕ) (body : Body) (now stamp place : ℕ) (old new : ChannelState) (after : List PresenceItem)
    → StandsAt site old past → settled_at site past conn serial body ≡ None
    → Changes (filled site place conn serial stamp body) (Some code) old.members after
    → Obeys (setting site (Put conn serial body now ∷ past)) (log site past) body (Some code)
    → ((parts : Parts) → Keeps old.log parts → Keeps new.log (settled_parts conn serial (Done (Refused code)) parts))
    → new.members ≡ old.members → new.objects ≡ old.objects → new.clock ≡ max now old.clock
    → IsPut site new conn serial body now (Done (Refused code)) past
refuses_late site past conn serial code body now stamp place old new after stands passes changes rule keeps same same_objects clocked =
    let latest = told (decisions site past) in
    let fails : judged (setting site (Put conn serial body now ∷ past)) (decisions site past) conn serial body ≡ Fails code =
    limited site past conn serial body now passes
    ∙ refused_by (setting site (Put conn serial body now ∷ past)) (log site past) latest site place conn serial stamp code body after (changes latest stands.members) rule in
    settles_with site past conn serial body now (Done (Refused code)) old new (ap (settled (head site past)) fails) stands keeps same same_objects clocked

-- what was settled by a rule before
pub settles_early : (site : List ℕ) (past : List ChannelEvent) (conn serial : ℕ) (body : Body) (now : ℕ) (answer : Verdict) (old new : ChannelState)
    → settled (head site past) (judged (setting site (Put conn serial body now ∷ past)) (decisions site past) conn serial body) ≡ Some answer → StandsAt site old past
    → ((parts : Parts) → Keeps old.log parts → Keeps new.log (settled_parts conn serial answer parts))
    → new.members ≡ old.members → new.objects ≡ old.objects → new.clock ≡ max now old.clock
    → IsPut site new conn serial body now answer past
settles_early site past conn serial body now answer old new is stands keeps same same_objects clocked = settles_with site past conn serial body now answer old new is stands keeps same same_objects clocked

adds_at : (site : List ℕ) (past : List ChannelEvent) (conn serial : ℕ) (body : Body) (now : ℕ) (old new : ChannelState)
    → StandsAt site old past → settled_at site past conn serial body ≡ None
    → IsAfterPut (told (decisions site past)) (filled site (head site past + 1) conn serial (max now (clock past)) body) None new.members
    → BodyFits body → Operates (max now (clock past)) (filled site (head site past + 1) conn serial (max now (clock past)) body) None old.objects new.objects
    → Keeps new.log (with_outcome conn serial (Taken (head site past + 1)) (with_entry (entry_of (setting site (Put conn serial body now ∷ past)) (head site past) conn serial body) (given_id body) (parts_of site past)))
    → new.clock ≡ max now (clock past)
    → IsPut site new conn serial body now (Done (Taken (head site past + 1))) past
adds_at site past conn serial body now old new stands passes is fits operates keeps clocked =
    let set = setting site (Put conn serial body now ∷ past) in
    let adds : judged set (decisions site past) conn serial body ≡ Adds =
    limited site past conn serial body now passes
    ∙ may_add set (log site past) (told (decisions site past)) site (head site past + 1) conn serial (max now (clock past)) body new.members is
    (obeys site past conn serial body now None old.objects new.objects stands.objects fits operates) in
    let entry = entry_of set (head site past) conn serial body in
    let logged : log site (Put conn serial body now ∷ past) ≡ log site past ++ entry ∷ [] = ap (λ (j : Judgement). log site past ++ option_to_list (entry_if j entry)) adds in (
      ap (verdict_at (head site past)) (sym adds),
      record {
        keeps = subst (Keeps new.log) (sym (put_adds site past conn serial body now adds)) keeps;
        members = members_put (log site past) site (head site past + 1) (max now (clock past)) conn serial (max now (clock past)) body new.members is ∙ ap members (sym logged);
        objects = put_objects site past conn serial body now old.objects new.objects adds stands.objects fits operates;
        clock = clocked;
      },
    )

-- the entry of what is kept is the one of the definition
entry_at : (site : List ℕ) (past : List ChannelEvent) (conn serial : ℕ) (body : Body) (now : ℕ) (old : ChannelState) → old.setup.site ≡ site → StandsAt site old past
    → next_entry old conn serial body now ≡ entry_of (setting site (Put conn serial body now ∷ past)) (head site past) conn serial body
entry_at site past conn serial body now old same stands =
    ap (λ t. record { place = old.log.head + 1; stamp = max now old.clock; conn = conn; serial = Some serial; body = filled t (old.log.head + 1) conn serial (max now old.clock) body }) same
    ∙ ap (λ p. record { place = p + 1; stamp = max now old.clock; conn = conn; serial = Some serial; body = filled site (p + 1) conn serial (max now old.clock) body }) stands.keeps.head
    ∙ ap (λ s. record { place = head site past + 1; stamp = max now s; conn = conn; serial = Some serial; body = filled site (head site past + 1) conn serial (max now s) body }) stands.clock

-- it adds an entry
pub adds_entry : (past : List ChannelEvent) (conn serial : ℕ) (body : Body) (now : ℕ) (id : Option (List ℕ)) (entry : Entry) (old new : ChannelState)
    → StandsFor old past → settled_at old.setup.site past conn serial body ≡ None
    → id ≡ given_id body → entry ≡ next_entry old conn serial body now
    → Changes entry.body None old.members new.members
    → BodyFits body → Operates entry.stamp entry.body None old.objects new.objects
    → ((parts : Parts) → Keeps old.log parts → Keeps new.log (with_outcome entry.conn serial (Taken entry.place) (with_entry entry id parts)))
    → new.clock ≡ entry.stamp
    → IsPut old.setup.site new conn serial body now (Done (Taken entry.place)) past
adds_entry past conn serial body now id entry old new stands passes given is changes fits operates keeps clocked =
    let site = old.setup.site in
    let made = is ∙ entry_at site past conn serial body now old refl stands in
    let kept : Keeps new.log (with_outcome entry.conn serial (Taken entry.place) (with_entry entry id (parts_of site past))) = keeps (parts_of site past) stands.keeps in
    let kept_entry = subst (λ (e : Entry). Keeps new.log (with_outcome e.conn serial (Taken e.place) (with_entry e id (parts_of site past)))) made kept in
    let kept_given = subst (λ (i : Option (List ℕ)). Keeps new.log (with_outcome conn serial (Taken (head site past + 1)) (with_entry (entry_of (setting site (Put conn serial body now ∷ past)) (head site past) conn serial body) i (parts_of site past)))) given kept_entry in
    let after = subst (λ (e : Entry). IsAfterPut (told (decisions site past)) e.body None new.members) made (changes (told (decisions site past)) stands.members) in
    let operated = subst (λ (e : Entry). Operates e.stamp e.body None old.objects new.objects) made operates in
    let put = adds_at site past conn serial body now old new stands passes after fits operated kept_given (clocked ∙ ap (λ (e : Entry). e.stamp) made) in
    subst (λ (e : Entry). IsPut site new conn serial body now (Done (Taken e.place)) past) (sym made) put

-- with the setup of a state before
pub at_site : (old new : ChannelState) (past : List ChannelEvent) → new.setup ≡ old.setup → StandsAt old.setup.site new past → StandsFor new past
at_site old new past made stands = subst (λ (s : ChannelSetup). StandsAt s.site new past) (sym made) stands

-- what a Put is answered and leaves, with the setup of the state before
pub put_at : (old new : ChannelState) (past : List ChannelEvent) (conn serial : ℕ) (body : Body) (now : ℕ) (answer : Verdict) → new.setup ≡ old.setup
    → IsPut old.setup.site new conn serial body now answer past
    → (answer ≡ verdict_of old.setup.site past conn serial body now) × StandsFor new (Put conn serial body now ∷ past)
put_at old new past conn serial body now answer made is = (is.0, at_site old new (Put conn serial body now ∷ past) made is.1)

-- WHERE MEMORY IS WANTED

pub stays : {A E : Type 0} (result : Result A E) (old new : ChannelState)
    → ((parts : Parts) → Keeps old.log parts → Keeps new.log parts) → new.members ≡ old.members → new.objects ≡ old.objects → new.clock ≡ old.clock → new.setup ≡ old.setup
    → OnErr result ((past : List ChannelEvent) → StandsFor old past → StandsFor new past)
stays (Ok a) old new keeps same same_held clocked made = tt
stays (Err e) old new keeps same same_held clocked made = λ past stands. at_site old new past made (
    record {
      keeps = keeps (parts_of old.setup.site past) stands.keeps;
      members = same ∙ stands.members;
      objects = same_objects old.setup.site old.objects new.objects past same_held stands.objects;
      clock = clocked ∙ stands.clock;
    })

-- of calls in between
pub log_kept : (old mid new : ChannelState) → StaysLog old mid → new.log ≡ mid.log → StaysLog old new
log_kept old mid new first same = λ parts keeps. subst (λ (log : ChanLogView). Keeps log parts) (sym same) (first parts keeps)

pub changes_as : (body : Body) (given code : Option ℕ) (old mid new : List PresenceItem) → Changes body given mid new → given ≡ code → mid ≡ old → Changes body code old new
changes_as body given code old mid new changes is same = λ latest stands. subst (λ (o : Option ℕ). IsAfterPut latest body o new) is (changes latest (same ∙ stands))

pub operates_as : (stamp : ℕ) (body : Body) (given code : Option ℕ) (old mid new : List Held) → Operates stamp body given mid new → given ≡ code → mid ≡ old → Operates stamp body code old new
operates_as stamp body given code old mid new operates is same =
    subst (λ (o : Option ℕ). Operates stamp body o old new) is (subst (λ (held : List Held). Operates stamp body given held new) same operates)

pub same_refused : {T : Type 0} (given : Option ℕ) (code : ℕ) (mid new : T) → OnSome given (new ≡ mid) → given ≡ Some code → new ≡ mid
same_refused given code mid new same is = subst (λ (o : Option ℕ). OnSome o (new ≡ mid)) is same

pub ok_holds : {A E X : Type 0} (result : Result A E) → IsOk result → OnOk result X → X
ok_holds (Ok a) is h = h
ok_holds (Err e) is h = absurd (cc)

pub stays_after : {A E : Type 0} (result : Result A E) (old mid new : ChannelState) → StaysLog old mid → mid.members ≡ old.members → mid.objects ≡ old.objects → mid.clock ≡ old.clock
    → OnErr result (StaysLog mid new) → new.members ≡ mid.members → new.objects ≡ mid.objects → OnErr result (new.clock ≡ mid.clock) → new.setup ≡ old.setup → OnErr result (Stays old new)
stays_after {A = A} {E = E} (Ok a) old mid new first same_first held_first clock_first keeps same same_held clocked made = tt
stays_after {A = A} {E = E} (Err e) old mid new first same_first held_first clock_first keeps same same_held clocked made =
    stays {A = A} {E = E} (Err e) old new (λ parts kept. keeps parts (first parts kept)) (same ∙ same_first) (same_held ∙ held_first) (clocked ∙ clock_first) made

-- a call that refuses answers so; before it memory was taken, and the members were looked at
pub refused : {E : Type 0} (result : Result Verdict E) (old mid new : ChannelState) (conn serial code : ℕ) (body : Body) (now : ℕ) (entry : Entry) (after : List PresenceItem) (held : List Held)
    → entry ≡ next_entry old conn serial body now
    → Changes entry.body (Some code) old.members after
    → BodyFits body → Operates entry.stamp entry.body (Some code) old.objects held
    → StaysLog old mid → mid.members ≡ old.members → mid.objects ≡ old.objects → mid.clock ≡ old.clock
    → IfOk result (λ answer. answer ≡ Done (Refused code))
    → OnOk result ((parts : Parts) → Keeps mid.log parts → Keeps new.log (settled_parts conn serial (Done (Refused code)) parts))
    → new.members ≡ mid.members → new.objects ≡ mid.objects → OnOk result (new.clock ≡ max now mid.clock) → new.setup ≡ old.setup
    → IfOk result (λ answer. DecidesLate old new (record { conn = conn; serial = serial; body = body; now = now }) answer)
refused (Err e) old mid new conn serial code body now entry after held is changes fits operates prepared same_first held_first clock_first answered keeps same same_held clocked made = tt
refused (Ok answer) old mid new conn serial code body now entry after held is changes fits operates prepared same_first held_first clock_first answered keeps same same_held clocked made = λ past stands passes.
    let made_is = is ∙ entry_at old.setup.site past conn serial body now old refl stands in
    let operated = subst (λ (e : Entry). Operates e.stamp e.body (Some code) old.objects held) made_is operates in
    subst (λ (v : Verdict). IsDecided old new past (record { conn = conn; serial = serial; body = body; now = now }) v) (sym answered)
    (put_at old new past conn serial body now (Done (Refused code)) made
    (refuses_late old.setup.site past conn serial code body now (max now old.clock) (old.log.head + 1) old new after stands passes
    (subst (λ (e : Entry). Changes e.body (Some code) old.members after) is changes)
    (obeys old.setup.site past conn serial body now (Some code) old.objects held stands.objects fits operated)
    (λ parts kept. keeps parts (prepared parts kept)) (same ∙ same_first) (same_held ∙ held_first) (clocked ∙ ap (max now) clock_first)))
