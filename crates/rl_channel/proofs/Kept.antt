-- The objects that a channel keeps are those that its log leaves.
use Rattle.std.proofs.Common.{◌≡◌, ℕ, suc, ◌+◌, Bool, true, false, cond, List, [], ◌∷◌, ◌++◌, length, reverse, map, refl, ap, sym, subst, ◌∙◌, arith}
use Rattle.std.specs.Prelude.{⊤, max, ◌==◌, Option, Some, None, option_to_list}
use Rattle.std.specs.List.{AllByRecursion}
use Rattle.rl_events.specs.declared.channel.ChannelEvent.{ChannelEvent}
use Rattle.rl_events.specs.declared.channel.ChannelEvent.TheVariants.{Put, Gone, Tick}
use Rattle.rl_types.specs.declared.messages.Body.{Body}
use Rattle.rl_types.specs.declared.messages.Body.TheVariants.{Messages, Presence, Objects}
use Rattle.rl_types.specs.declared.messages.Entry.{Entry}
use Rattle.rl_types.specs.declared.objects.ObjectOp.{ObjectOp}
use Rattle.rl_types.specs.declared.presence.PresenceItem.{PresenceItem}
use Rattle.rl_numbers.specs.declared.limits.TheConstants.{MAX_PLACE}
use Rattle.rl_objmodel.specs.Held.{Held}
use Rattle.rl_objmodel.specs.Operations.{Stamped, stamped_at}
use Rattle.rl_objmodel.specs.Objects.{all_kept}
use Rattle.rl_objmodel.specs.Rules.{Setting, entering, ops_rule}
use Rattle.rl_objmodel.specs.Steps.{collected, numbered, pool_after}
use Rattle.rl_objmodel.specs.Following.{IsOpInRange}
use Rattle.rl_objmodel.specs.Lasting.{entered, numbered_all}
use Rattle.rl_objmodel.proofs.CollectingKept.{ticks_collect}
use Rattle.rl_objmodel.proofs.FollowingRules.{entries_kept, rules_agree}
use Rattle.rl_pool.specs.Admitting.{admitted_rule}
use Rattle.rl_pool.proofs.Numbered.{numbered_are_judged}
use Rattle.rl_model.specs.Ids.{filled, filled_ops}
use Rattle.rl_model.specs.History.{clock, setting, ticked}
use Rattle.rl_model.specs.Objects.{object_rule, operated}
use Rattle.rl_model.specs.Verdict.{decisions, Judgement, Adds, judged, entry_if, entry_of, entry_of_gone, gone_entry, members_on, log, head}
use Rattle.rl_model.specs.Reply.{objects_at}
use Rattle.rl_model.proofs.Lasting.{entered_is, operated_more, ops_added, puts_follow, ticked_low}
use Rattle.rl_channel.specs.Changes.{BodyFits, Operates}
use Rattle.rl_channel.specs.State.{IdsFit, KeepsObjects}

-- an event that adds no operation, and is no Tick, leaves them as they are
pub unmoved : (site : List ℕ) (objects : List Held) (past : List ChannelEvent) (event : ChannelEvent)
    → operated (log site (event ∷ past)) ≡ operated (log site past) → ticked (event ∷ past) ≡ ticked past
    → KeepsObjects site objects past → KeepsObjects site objects (event ∷ past)
unmoved site objects past event same still keeps = record {
  same =
      keeps.same
      ∙ ap (λ (ops : List Stamped). all_kept (ticked past) ops) (sym same)
      ∙ ap (λ (at : ℕ). all_kept at (operated (log site (event ∷ past)))) (sym still);
  fit = subst IdsFit (sym same) keeps.fit;
}

-- with other objects that are the same
pub same_objects : (site : List ℕ) (old new : List Held) (past : List ChannelEvent) → new ≡ old → KeepsObjects site old past → KeepsObjects site new past
same_objects site old new past same keeps = record { same = same ∙ keeps.same; fit = keeps.fit }

-- A CONNECTION GOES

gone_none : (head now conn : ℕ) (gone : List PresenceItem) → ops_added (entry_of_gone head now conn gone) ≡ []
gone_none head now conn [] = refl
gone_none head now conn (member ∷ gone) = by_test (head == MAX_PLACE)
  where
    by_test : (b : Bool) → ops_added (cond b None (Some (gone_entry head now conn (member ∷ gone)))) ≡ []
    by_test true = refl
    by_test false = refl

none_more : (log : List Entry) (added : Option Entry) → ops_added added ≡ [] → operated (log ++ option_to_list added) ≡ operated log
none_more log added none = operated_more log added ∙ ap (λ (ops : List Stamped). reverse ops ++ operated log) none

pub gone_objects : (site : List ℕ) (objects : List Held) (past : List ChannelEvent) (conn now : ℕ) → KeepsObjects site objects past → KeepsObjects site objects (Gone conn now ∷ past)
gone_objects site objects past conn now keeps =
    unmoved site objects past (Gone conn now)
    (none_more (log site past) (entry_of_gone (head site past) (max now (clock past)) conn (members_on conn (decisions site past))) (gone_none (head site past) (max now (clock past)) conn (members_on conn (decisions site past))))
    refl keeps

-- TIME PASSES

pub tick_objects : (site : List ℕ) (old new : List Held) (past : List ChannelEvent) (now : ℕ) → new ≡ collected (max now (clock past)) old → log site (Tick now ∷ past) ≡ log site past
    → KeepsObjects site old past → KeepsObjects site new (Tick now ∷ past)
tick_objects site old new past now is logged keeps =
    let later = ticked_low past in
    record {
      same =
          is
          ∙ ap (collected (max now (clock past))) keeps.same
          ∙ sym (ticks_collect (ticked past) (max now (clock past)) (omega (arith, later)) (operated (log site past)))
          ∙ ap (λ (entries : List Entry). all_kept (max now (clock past)) (operated entries)) (sym logged);
      fit = subst (λ (entries : List Entry). IdsFit (operated entries)) (sym logged) keeps.fit;
    }

-- A PUT

-- a body is judged by this code
abbrev pub Obeys : Setting → List Entry → Body → Option ℕ → Type 0
Obeys at entries (Objects ops) code = code ≡ object_rule at entries (Objects ops)
Obeys at entries _ code = ⊤

filled_is : (at : Setting) (place index : ℕ) (ops : List ObjectOp) → filled_ops at.site place index ops ≡ numbered_all at place index ops
filled_is at place index [] = refl
filled_is at place index (op ∷ ops) = ap (λ (more : List ObjectOp). numbered at place index op ∷ more) (filled_is at place (suc index) ops)

next_is : (n : ℕ) → n + 1 ≡ suc n
next_is n = omega arith

-- the operations of a put, as its entry has them
entry_ops : (site : List ℕ) (past : List ChannelEvent) (event : ChannelEvent) (ops : List ObjectOp) → filled_ops site (head site past + 1) 0 ops ≡ numbered_all (setting site (event ∷ past)) (suc (head site past)) 0 ops
entry_ops site past event ops = ap (λ (place : ℕ). filled_ops site place 0 ops) (next_is (head site past)) ∙ filled_is (setting site (event ∷ past)) (suc (head site past)) 0 ops

module _ (site : List ℕ) (past : List ChannelEvent) (conn serial : ℕ) (ops : List ObjectOp) (now : ℕ) where
  ops_obey : (old : List Held) → KeepsObjects site old past → AllByRecursion IsOpInRange ops
      → admitted_rule (max now (clock past)) (filled_ops site (head site past + 1) 0 ops) old ≡ object_rule (setting site (Put conn serial (Objects ops) now ∷ past)) (log site past) (Objects ops)
  ops_obey old keeps fits =
      ap (admitted_rule (max now (clock past)) (filled_ops site (head site past + 1) 0 ops)) keeps.same
      ∙ ap (λ (all : List ObjectOp). admitted_rule (max now (clock past)) all (objects_at site past)) (entry_ops site past (Put conn serial (Objects ops) now) ops)
      ∙ numbered_are_judged (setting site (Put conn serial (Objects ops) now ∷ past)) (suc (head site past)) 0 (objects_at site past) ops
      ∙ sym (rules_agree (setting site (Put conn serial (Objects ops) now ∷ past)) (suc (head site past)) 0 (operated (log site past)) ops (puts_follow site past (Put conn serial (Objects ops) now) ops) keeps.fit fits)

entered_fit : (at : Setting) (place index : ℕ) (latest : List Stamped) (ops : List ObjectOp) → IdsFit latest → AllByRecursion IsOpInRange ops → IdsFit (entered at place index latest ops)
entered_fit at place index latest [] fit fits = fit
entered_fit at place index latest (op ∷ ops) fit fits = entered_fit at place (suc index) (entering at place index op ∷ latest) ops (fits.0.target, fit) fits.1

-- what is judged of a body is what the definition says of it
pub obeys : (site : List ℕ) (past : List ChannelEvent) (conn serial : ℕ) (body : Body) (now : ℕ) (code : Option ℕ) (old new : List Held)
    → KeepsObjects site old past → BodyFits body → Operates (max now (clock past)) (filled site (head site past + 1) conn serial (max now (clock past)) body) code old new
    → Obeys (setting site (Put conn serial body now ∷ past)) (log site past) body code
obeys site past conn serial (Messages items) now code old new keeps fits operates = tt
obeys site past conn serial (Presence items) now code old new keeps fits operates = tt
obeys site past conn serial (Objects ops) now code old new keeps fits operates = operates.0 ∙ ops_obey site past conn serial ops now old keeps fits

-- THE OBJECTS AFTER A PUT THAT ADDS ITS ENTRY

-- its log
put_log : (site : List ℕ) (past : List ChannelEvent) (conn serial : ℕ) (body : Body) (now : ℕ) → judged (setting site (Put conn serial body now ∷ past)) (decisions site past) conn serial body ≡ Adds
    → log site (Put conn serial body now ∷ past) ≡ log site past ++ entry_of (setting site (Put conn serial body now ∷ past)) (head site past) conn serial body ∷ []
put_log site past conn serial body now adds =
    ap (λ (j : Judgement). log site past ++ option_to_list (entry_if j (entry_of (setting site (Put conn serial body now ∷ past)) (head site past) conn serial body))) adds

none_operated : (site : List ℕ) (past : List ChannelEvent) (conn serial : ℕ) (body : Body) (now : ℕ) → judged (setting site (Put conn serial body now ∷ past)) (decisions site past) conn serial body ≡ Adds
    → ops_added (Some (entry_of (setting site (Put conn serial body now ∷ past)) (head site past) conn serial body)) ≡ []
    → operated (log site (Put conn serial body now ∷ past)) ≡ operated (log site past)
none_operated site past conn serial body now adds none =
    ap operated (put_log site past conn serial body now adds) ∙ none_more (log site past) (Some (entry_of (setting site (Put conn serial body now ∷ past)) (head site past) conn serial body)) none

some_operated : (site : List ℕ) (past : List ChannelEvent) (conn serial : ℕ) (ops : List ObjectOp) (now : ℕ) → judged (setting site (Put conn serial (Objects ops) now ∷ past)) (decisions site past) conn serial (Objects ops) ≡ Adds
    → operated (log site (Put conn serial (Objects ops) now ∷ past)) ≡ entered (setting site (Put conn serial (Objects ops) now ∷ past)) (suc (head site past)) 0 (operated (log site past)) ops
some_operated site past conn serial ops now adds =
    let set = setting site (Put conn serial (Objects ops) now ∷ past) in
    ap operated (put_log site past conn serial (Objects ops) now adds)
    ∙ operated_more (log site past) (Some (entry_of set (head site past) conn serial (Objects ops)))
    ∙ ap (λ (place : ℕ). reverse (map (stamped_at set.now) (filled_ops set.site place 0 ops)) ++ operated (log site past)) (next_is (head site past))
    ∙ sym (entered_is set (suc (head site past)) 0 ops (operated (log site past)))

pub put_objects : (site : List ℕ) (past : List ChannelEvent) (conn serial : ℕ) (body : Body) (now : ℕ) (old new : List Held)
    → judged (setting site (Put conn serial body now ∷ past)) (decisions site past) conn serial body ≡ Adds
    → KeepsObjects site old past → BodyFits body → Operates (max now (clock past)) (filled site (head site past + 1) conn serial (max now (clock past)) body) None old new
    → KeepsObjects site new (Put conn serial body now ∷ past)
put_objects site past conn serial (Messages items) now old new adds keeps fits same =
    unmoved site new past (Put conn serial (Messages items) now) (none_operated site past conn serial (Messages items) now adds refl) refl (same_objects site old new past same keeps)
put_objects site past conn serial (Presence items) now old new adds keeps fits same =
    unmoved site new past (Put conn serial (Presence items) now) (none_operated site past conn serial (Presence items) now adds refl) refl (same_objects site old new past same keeps)
put_objects site past conn serial (Objects ops) now old new adds keeps fits operates =
    let event = Put conn serial (Objects ops) now in
    let set = setting site (Put conn serial (Objects ops) now ∷ past) in
    let more = some_operated site past conn serial ops now adds in
    let passed : ops_rule set (suc (length (log site past))) 0 (operated (log site past)) ops ≡ None = sym (operates.0 ∙ ops_obey site past conn serial ops now old keeps fits) in
    record {
      same =
          operates.1
          ∙ ap (pool_after set.now (filled_ops site (head site past + 1) 0 ops)) keeps.same
          ∙ ap (λ (all : List ObjectOp). pool_after set.now all (objects_at site past)) (entry_ops site past event ops)
          ∙ sym (entries_kept set (suc (head site past)) 0 (operated (log site past)) ops (puts_follow site past event ops) keeps.fit fits passed)
          ∙ ap (all_kept set.ticked) (sym more);
      fit = subst IdsFit (sym more) (entered_fit set (suc (head site past)) 0 (operated (log site past)) ops keeps.fit fits);
    }

-- a put that adds nothing
pub settled_objects : (site : List ℕ) (past : List ChannelEvent) (conn serial : ℕ) (body : Body) (now : ℕ) (old new : List Held)
    → log site (Put conn serial body now ∷ past) ≡ log site past → new ≡ old → KeepsObjects site old past → KeepsObjects site new (Put conn serial body now ∷ past)
settled_objects site past conn serial body now old new logged same keeps = unmoved site new past (Put conn serial body now) (ap operated logged) refl (same_objects site old new past same keeps)
