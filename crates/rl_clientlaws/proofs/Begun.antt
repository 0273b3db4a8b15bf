-- What an answer, an entry and a page make of a channel's flag `away` and of the runs of its record.
use Rattle.std.proofs.Common.{◌≡◌, ℕ, zero, suc, Bool, true, false, ◌&&◌, List, [], ◌∷◌, Option, Some, None, refl, sym, subst}
use Rattle.std.specs.Prelude.{not, if◌then◌else◌}
use Rattle.rl_ids.specs.declared.serials.ChannelSerial.{ChannelSerial}
use Rattle.rl_types.specs.declared.frames.Cursor.{Cursor}
use Rattle.rl_types.specs.declared.messages.Body.{Body}
use Rattle.rl_types.specs.declared.messages.Body.TheVariants.{Messages, Presence, Objects}
use Rattle.rl_types.specs.declared.objects.ObjectState.{ObjectState}
use Rattle.rl_types.specs.declared.presence.PresenceItem.{PresenceItem}
use Rattle.rl_types.specs.declared.states.ChanState.{ChanState}
use Rattle.rl_types.specs.declared.states.ChanState.TheVariants as chan
use Rattle.rl_chansm.specs.declared.table.ChanEvent.TheVariants as event
use Rattle.rl_chansm.specs.Table.{chan_table}
use Rattle.rl_chansm.specs.Owed.{awaits_attached, is_last, takes_attached, takes_unasked}
use Rattle.rl_clientmodel.specs.declared.runs.Beginning.{Beginning}
use Rattle.rl_clientmodel.specs.declared.runs.Beginning.TheVariants.{Answered, Unasked, Skipped}
use Rattle.rl_clientmodel.specs.declared.runs.Run.{Run}
use Rattle.rl_clientmodel.specs.Channels.{ClientChannel, in_state, one_less}
use Rattle.rl_clientmodel.specs.Runs.{follows, goes_on_answered, goes_on_unasked, got_onto, runs_with}
use Rattle.rl_clientmodel.specs.Answers.{answered, attached_got, is_resumed, told_unasked, with_answer, with_syncs, with_unasked}
use Rattle.rl_clientmodel.specs.Entries.{entry_got, got_at, got_in, object_page_got, object_page_in, page_got, page_in, runs_before, skips, with_body, with_entry_got}
use Rattle.rl_clientlaws.proofs.Away.{Begins, Calmly, CalmTo, Goes, GoesTo, Stays, Tells, as_it_was, beginnings}

-- THE ANSWER THAT IS AWAITED

is_attaching : (owed : ℕ) (s : ChanState) → takes_attached owed s ≡ true → s ≡ chan.Attaching
is_attaching owed s is = by_parts (is_last owed) s is where
  by_parts : (b : Bool) (s : ChanState) → b && awaits_attached s ≡ true → s ≡ chan.Attaching
  by_parts false s is = absurd (cc)
  by_parts true chan.Attaching is = refl
  by_parts true chan.Initialized is = absurd (cc)
  by_parts true chan.Attached is = absurd (cc)
  by_parts true chan.Detaching is = absurd (cc)
  by_parts true chan.Detached is = absurd (cc)
  by_parts true chan.Suspended is = absurd (cc)
  by_parts true chan.Failed is = absurd (cc)

-- the latest run goes on, or one begins with the flag as it stood
goes_by : (on : Bool) (beginning : Beginning) (away : Bool) (state : ChanState) (runs : List Run) → Tells away beginning
    → Goes runs away state (runs_with on beginning runs) (away && on)
goes_by true beginning true state runs tells = Calmly (Stays refl refl)
goes_by true beginning false state runs tells = Calmly (Stays refl refl)
goes_by false beginning true state runs tells = Begins beginning refl refl tells
goes_by false beginning false state runs tells = Begins beginning refl refl tells

answered_from : (flags : ℕ) (told : ChannelSerial) (c : ClientChannel)
    → GoesTo c (with_syncs flags (with_answer (goes_on_answered c.asked (is_resumed flags) told c.runs) (is_resumed flags) told (in_state chan.Attached (one_less c))))
answered_from flags told c =
    goes_by (goes_on_answered c.asked (is_resumed flags) told c.runs) (Answered c.asked (is_resumed flags) told c.away) c.away chan.Attached c.runs refl

answer_goes : (flags : ℕ) (told : ChannelSerial) (c : ClientChannel) → takes_attached c.owed c.state ≡ true → GoesTo c (answered flags told c)
answer_goes flags told c is =
    subst
    (λ (s : ChanState).
    GoesTo c (with_syncs flags (with_answer (goes_on_answered c.asked (is_resumed flags) told c.runs) (is_resumed flags) told
    (in_state (chan_table s event.AttachedTaken) (one_less c)))))
    (sym (is_attaching c.owed c.state is)) (answered_from flags told c)

-- ONE THAT NOBODY ASKED FOR

unasked_by : (held : Option ChannelSerial) (flags : ℕ) (told : ChannelSerial) (c : ClientChannel)
    → GoesTo c (with_syncs flags (record (with_unasked held (is_resumed flags) told c) { held = Some told }))
unasked_by None flags told c = Calmly (Stays refl refl)
unasked_by (Some held) flags told c = goes_by (goes_on_unasked held (is_resumed flags) told) (Unasked held (is_resumed flags) told) c.away c.state c.runs tt

attached_by : (b d : Bool) (flags : ℕ) (told : ChannelSerial) (c : ClientChannel) → takes_attached c.owed c.state ≡ b
    → GoesTo c (if b then answered flags told c else if d then told_unasked flags told c else one_less c)
attached_by true d flags told c is = answer_goes flags told c is
attached_by false true flags told c is = unasked_by c.held flags told c
attached_by false false flags told c is = Calmly (Stays refl refl)

-- an ATTACHED
pub attached_goes : (flags : ℕ) (told : ChannelSerial) (c : ClientChannel) → GoesTo c (attached_got flags told c)
attached_goes flags told c = attached_by (takes_attached c.owed c.state) (takes_unasked c.owed c.state) flags told c refl

-- AN ENTRY

got_begins : (entry : ℕ × Body) (runs : List Run) → beginnings (got_onto entry runs) ≡ beginnings runs
got_begins entry [] = refl
got_begins entry (run ∷ earlier) = refl

entry_goes_by : (on : Bool) (held told : ChannelSerial) (entry : ℕ × Body) (away : Bool) (state : ChanState) (runs : List Run)
    → Goes runs away state (got_onto entry (runs_with on (Skipped held told) runs)) (if not on then false else away)
entry_goes_by true held told entry away state runs = Calmly (Stays (got_begins entry runs) refl)
entry_goes_by false held told entry away state runs = Begins (Skipped held told) refl refl tt

held_goes : (held : Option ChannelSerial) (before : ℕ) (told : ChannelSerial) (entry : ℕ × Body) (away : Bool) (state : ChanState) (runs : List Run)
    → Goes runs away state (got_onto entry (runs_before held before told runs)) (if skips held before told then false else away)
held_goes None before told entry away state runs = Calmly (Stays (got_begins entry runs) refl)
held_goes (Some held) before told entry away state runs = entry_goes_by (follows held before told.epoch) held told entry away state runs

body_goes : (body : Body) (before : ℕ) (told : ChannelSerial) (any : Body) (now : ℕ) (c : ClientChannel) → GoesTo c (with_body body now (with_entry_got before told any c))
body_goes (Messages items) before told any now c = held_goes c.held before told (told.place, any) c.away c.state c.runs
body_goes (Presence items) before told any now c = held_goes c.held before told (told.place, any) c.away c.state c.runs
body_goes (Objects ops) before told any now c = held_goes c.held before told (told.place, any) c.away c.state c.runs

calm : (c : ClientChannel) → GoesTo c c
calm c = Calmly (as_it_was c)

in_goes : (s : ChanState) (before : ℕ) (told : ChannelSerial) (body : Body) (now : ℕ) (c : ClientChannel) → GoesTo c (got_in s before told body now c)
in_goes chan.Attached before told body now c = body_goes body before told body now c
in_goes chan.Initialized before told body now c = calm c
in_goes chan.Attaching before told body now c = calm c
in_goes chan.Detaching before told body now c = calm c
in_goes chan.Detached before told body now c = calm c
in_goes chan.Suspended before told body now c = calm c
in_goes chan.Failed before told body now c = calm c

at_goes : (place : ℕ) (told : ChannelSerial) (body : Body) (now : ℕ) (c : ClientChannel) → GoesTo c (got_at place told body now c)
at_goes zero told body now c = calm c
at_goes (suc before) told body now c = in_goes c.state before told body now c

pub entry_goes : (serial : Option ChannelSerial) (body : Body) (now : ℕ) (c : ClientChannel) → GoesTo c (entry_got serial body now c)
entry_goes None body now c = calm c
entry_goes (Some told) body now c = at_goes told.place told body now c

-- A PAGE

page_in_calm : (s : ChanState) (cursor : Option Cursor) (items : List PresenceItem) (c : ClientChannel) → CalmTo c (page_in s cursor items c)
page_in_calm chan.Attached cursor items c = Stays refl refl
page_in_calm chan.Initialized cursor items c = Stays refl refl
page_in_calm chan.Attaching cursor items c = Stays refl refl
page_in_calm chan.Detaching cursor items c = Stays refl refl
page_in_calm chan.Detached cursor items c = Stays refl refl
page_in_calm chan.Suspended cursor items c = Stays refl refl
page_in_calm chan.Failed cursor items c = Stays refl refl

pub page_calm : (cursor : Option Cursor) (items : List PresenceItem) (c : ClientChannel) → CalmTo c (page_got cursor items c)
page_calm cursor items c = page_in_calm c.state cursor items c

object_in_calm : (s : ChanState) (cursor : Option Cursor) (states : List ObjectState) (now : ℕ) (c : ClientChannel) → CalmTo c (object_page_in s cursor states now c)
object_in_calm chan.Attached cursor states now c = Stays refl refl
object_in_calm chan.Initialized cursor states now c = Stays refl refl
object_in_calm chan.Attaching cursor states now c = Stays refl refl
object_in_calm chan.Detaching cursor states now c = Stays refl refl
object_in_calm chan.Detached cursor states now c = Stays refl refl
object_in_calm chan.Suspended cursor states now c = Stays refl refl
object_in_calm chan.Failed cursor states now c = Stays refl refl

pub object_page_calm : (cursor : Option Cursor) (states : List ObjectState) (now : ℕ) (c : ClientChannel) → CalmTo c (object_page_got cursor states now c)
object_page_calm cursor states now c = object_in_calm c.state cursor states now c
