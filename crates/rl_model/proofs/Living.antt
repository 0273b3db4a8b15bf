-- What is live of a channel's objects, by its log.
use Rattle.std.proofs.Common.{◌+◌, ℕ, suc, List, [], ◌∷◌, ◌++◌, length, reverse, map, sym, subst}
use Rattle.std.specs.Prelude.{Option, None, option_to_list}
use Rattle.std.specs.List.{AllByRecursion}
use Rattle.std.proofs.lemmas.List.{reverse-append}
use Rattle.rl_types.specs.declared.objects.ObjectOp.{ObjectOp}
use Rattle.rl_types.specs.declared.messages.Entry.{Entry}
use Rattle.rl_types.specs.declared.messages.Body.{Body}
use Rattle.rl_types.specs.declared.messages.Body.TheVariants.{Messages, Presence, Objects}
use Rattle.rl_events.specs.declared.channel.ChannelEvent.{ChannelEvent}
use Rattle.rl_events.specs.declared.channel.ChannelEvent.TheVariants.{Put, Join, Read, MemberPage, ObjectPage, Gone, Tick, Census}
use Rattle.rl_objmodel.specs.Operations.{Stamped, stamped_at}
use Rattle.rl_objmodel.specs.Following.{IsOpInRange}
use Rattle.rl_objmodel.specs.Living.{OpsFit}
use Rattle.rl_objmodel.specs.Rules.{Setting}
use Rattle.rl_objmodel.proofs.Living.{live_is_kept, live_is_objects}
use Rattle.rl_model.specs.Ids.{filled_ops}
use Rattle.rl_model.specs.History.{ticked, setting}
use Rattle.rl_model.specs.Objects.{operated}
use Rattle.rl_model.specs.Verdict.{Decision, entries, Judgement, Stale, Again, Known, Fails, Adds, judged, entry_if, entry_of, entry_of_gone, members_on, decided, decisions, log}
use Rattle.rl_model.specs.Living.{OpsOfBodyFit, PutFits, ChannelsShowLive}
use Rattle.rl_model.proofs.Lasting.{ops_added, operated_more, gone_none, logs_last}

both_fit : (xs ys : List Stamped) → OpsFit xs → OpsFit ys → OpsFit (xs ++ ys)
both_fit [] ys h k = k
both_fit (x ∷ xs) ys h k = (h.0, both_fit xs ys h.1 k)

turned_fit : (xs : List Stamped) → OpsFit xs → OpsFit (reverse xs)
turned_fit [] h = tt
turned_fit (x ∷ xs) h = subst OpsFit (sym (reverse-append (x ∷ []) xs)) (both_fit (reverse xs) (x ∷ []) (turned_fit xs h.1) (h.0, tt))

-- an operation is not changed by its serial
filled_fit : (site : List ℕ) (place now index : ℕ) (ops : List ObjectOp) → AllByRecursion IsOpInRange ops → OpsFit (map (stamped_at now) (filled_ops site place index ops))
filled_fit site place now index [] h = tt
filled_fit site place now index (op ∷ ops) h = (record { target = h.0.target; refs = h.0.refs }, filled_fit site place now (suc index) ops h.1)

more_fit : (log : List Entry) (added : Option Entry) → OpsFit (ops_added added) → OpsFit (operated log) → OpsFit (operated (log ++ option_to_list added))
more_fit log added h k = subst OpsFit (sym (operated_more log added)) (both_fit (reverse (ops_added added)) (operated log) (turned_fit (ops_added added) h) k)

put_fits : (at : Setting) (head conn serial : ℕ) (body : Body) (j : Judgement) → OpsOfBodyFit body → OpsFit (ops_added (entry_if j (entry_of at head conn serial body)))
put_fits at head conn serial body Stale h = tt
put_fits at head conn serial body (Again outcome) h = tt
put_fits at head conn serial body (Known place) h = tt
put_fits at head conn serial body (Fails code) h = tt
put_fits at head conn serial (Messages items) Adds h = tt
put_fits at head conn serial (Presence items) Adds h = tt
put_fits at head conn serial (Objects ops) Adds h = filled_fit at.site (head + 1) at.now 0 ops h

event_fits : (at : Setting) (before : List Decision) (event : ChannelEvent) → PutFits event → OpsFit (operated (entries before)) → OpsFit (operated (entries (decided at before event ∷ before)))
event_fits at before (Put conn serial body now) h k =
    let j = judged at before conn serial body in
    more_fit (entries before) (entry_if j (entry_of at (length (entries before)) conn serial body)) (put_fits at (length (entries before)) conn serial body j h) k
event_fits at before (Gone conn now) h k =
    let left = members_on conn before in
    more_fit (entries before) (entry_of_gone (length (entries before)) at.now conn left) (subst OpsFit (sym (gone_none (length (entries before)) at.now conn left)) tt) k
event_fits at before (Join asked) h k = more_fit (entries before) None tt k
event_fits at before (Read from most) h k = more_fit (entries before) None tt k
event_fits at before (MemberPage after most) h k = more_fit (entries before) None tt k
event_fits at before (ObjectPage after most) h k = more_fit (entries before) None tt k
event_fits at before (Tick now) h k = more_fit (entries before) None tt k
event_fits at before Census h k = more_fit (entries before) None tt k

log_fits : (site : List ℕ) (past : List ChannelEvent) → AllByRecursion PutFits past → OpsFit (operated (log site past))
log_fits site [] h = tt
log_fits site (event ∷ past) h = event_fits (setting site (event ∷ past)) (decisions site past) event h.0 (log_fits site past h.1)

pub channels_show_live : ChannelsShowLive
channels_show_live site past h =
    let latest = operated (log site past) in
    let lives = (logs_last site past).lives in
    (live_is_kept (ticked past) latest lives (log_fits site past h), live_is_objects (ticked past) latest lives (log_fits site past h))
