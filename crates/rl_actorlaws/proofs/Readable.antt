-- All frames that an actor puts out are readable.
use Rattle.std.specs.Prelude.{IfSome, take, drop}
use Rattle.std.specs.List.{AllByRecursion}
use Rattle.std.proofs.Common.{ℕ, Bool, true, false, List, [], ◌∷◌, Option, Some, None}
use Rattle.std.proofs.lemmas.List.Elements.{All-from_recursion}
use Rattle.rl_types.specs.declared.messages.Body.{Body}
use Rattle.rl_types.specs.declared.frames.Head.{Head}
use Rattle.rl_types.specs.declared.frames.Frame.{Frame}
use Rattle.rl_types.specs.declared.frames.Frame.TheVariants as frames
use Rattle.rl_events.specs.declared.calls.End.{End}
use Rattle.rl_events.specs.declared.calls.End.TheVariants as ends
use Rattle.rl_wire.specs.Sendable.{IsName, IsMsgSerial, IsSendable}
use Rattle.rl_names.specs.Names.{at}
use Rattle.rl_actormodel.specs.declared.parts.Asked.{Asked}
use Rattle.rl_actormodel.specs.declared.parts.Publish.{Publish}
use Rattle.rl_actormodel.specs.declared.parts.Holder.{Holder}
use Rattle.rl_actormodel.specs.State.{State, begun, first_wish, is_free}
use Rattle.rl_actormodel.specs.Ends.{over_at}
use Rattle.rl_actormodel.specs.Takes.{attach_wish, begin_wish, close_wish, Came, A, Unknown, Bad, publish, took}
use Rattle.rl_actormodel.specs.Takes as takes
use Rattle.rl_actormodel.specs.Rests.{is_idle, is_quiet}
use Rattle.rl_actormodel.specs.Inputs.{Input, Took, Absorbed, Rested, Ended, Gave, step, run, given, taken, after}
use Rattle.rl_actormodel.specs.Conditions.{IsAllowed, AreAllowed}
use Rattle.rl_actormodel.proofs.Answered.{rests_by}
use Rattle.rl_actorlaws.specs.Carried.{IsTakenUp, IsCarried}
use Rattle.rl_actorlaws.specs.Readable.{IsReadable, FramesFit}
use Rattle.rl_actorlaws.proofs.Frames.{AreReadable, join, detached_readable, heartbeat_readable}
use Rattle.rl_actorlaws.proofs.Kept.{IsWishKept, Kept, behind, all_without, end_kept, put_kept, absorbed_kept}

-- FRAMES TAKEN UP

attach_wished : (asked : Asked) (found : Option ℕ) → IsName asked.channel → IsWishKept (attach_wish asked found)
attach_wished asked None n = n
attach_wished asked (Some number) n = n

begin_wished : (p : Publish) (holder : Option Holder) → IsMsgSerial p.serial → IsWishKept (begin_wish p holder)
begin_wished p None m = tt
begin_wished p (Some holder) m = m

close_wished : (holder : Option Holder) → IsWishKept (close_wish holder)
close_wished None = tt
close_wished (Some holder) = tt

publish_kept : (head : Head) (serial : Option ℕ) (body : Body) (s : State) → IfSome serial IsMsgSerial → Kept s → Kept (publish head serial body s)
publish_kept head None body s m k = k
publish_kept head (Some serial) body s m k = record {
  wished = begin_wished (record { channel = head.channel; serial = serial; body = body }) s.holder m;
  attached = k.attached;
  shown = k.shown;
}

take_kept : (frame : Frame) (now : ℕ) (s : State) → IsSendable frame → Kept s → Kept (takes.take frame now s)
take_kept (frames.Attach channel serial) now s h k = record {
  wished = attach_wished (record { channel = channel; serial = serial }) (at channel s.numbers) h.0;
  attached = k.attached;
  shown = k.shown;
}
take_kept (frames.Detach channel) now s h k = record {
  wished = k.wished;
  attached = all_without channel s.sessions k.attached;
  shown = behind (detached_readable channel h) k;
}
take_kept (frames.Message head items) now s h k = publish_kept head head.msg _ s h.0.1 k
take_kept (frames.Presence head items) now s h k = publish_kept head head.msg _ s h.0.1 k
take_kept (frames.Object head ops) now s h k = publish_kept head head.msg _ s h.0.1 k
take_kept frames.Close now s h k = record { wished = close_wished s.holder; attached = k.attached; shown = k.shown }
take_kept frames.Heartbeat now s h k = put_kept frames.Heartbeat now s heartbeat_readable k
take_kept (frames.Ack serial count) now s h k = k
take_kept (frames.Nack serial count code) now s h k = k
take_kept frames.Connect now s h k = k
take_kept (frames.Connected a b c d e f) now s h k = k
take_kept frames.Disconnect now s h k = k
take_kept (frames.Disconnected code) now s h k = k
take_kept frames.Closed now s h k = k
take_kept (frames.Error channel code) now s h k = k
take_kept (frames.Attached a b c d) now s h k = k
take_kept (frames.Detached channel code) now s h k = k
take_kept (frames.Sync channel place items) now s h k = k
take_kept frames.Auth now s h k = k
take_kept (frames.ObjectSync channel place states) now s h k = k

took_kept : (came : Came) (now : ℕ) (s : State) → IsTakenUp came → Kept s → Kept (took came now s)
took_kept (A frame) now s h k = take_kept frame now (record s { last_in = now }) h (record { wished = k.wished; attached = k.attached; shown = k.shown })
took_kept Unknown now s h k = record { wished = k.wished; attached = k.attached; shown = k.shown }
took_kept (Bad bytes) now s h k = end_kept (ends.BadFrame bytes) (record s { last_in = now }) (record { wished = k.wished; attached = k.attached; shown = k.shown })

-- RESTS AND ENDINGS

rest_kept : (free idle quiet : Bool) (now : ℕ) (s : State) → Kept s → Kept (rests_by free idle quiet now s)
rest_kept false idle quiet now s k = k
rest_kept true true quiet now s k = end_kept (ends.Idle s.last_in now) s k
rest_kept true false true now s k = put_kept frames.Heartbeat now s heartbeat_readable k
rest_kept true false false now s k = k

over_kept : (e : Option End) (why : End) (s : State) → Kept s → Kept (over_at e why s)
over_kept None why s k = end_kept why s k
over_kept (Some end) why s k = k

-- ALL INPUTS

first : (fs : List Frame) → AreReadable fs → AreReadable (take 1 fs)
first [] h = tt
first (f ∷ fs) h = (h.0, tt)

rest : (fs : List Frame) → AreReadable fs → AreReadable (drop 1 fs)
rest [] h = tt
rest (f ∷ fs) h = h.1

step_kept : (input : Input) (s : State) → IsAllowed input s → IsCarried input → Kept s → Kept (step input s)
step_kept (Took came now) s a h k = took_kept came now s h k
step_kept (Absorbed call reply now) s a h k = absorbed_kept s.ended call reply now s a.0 h k
step_kept (Rested now) s a h k = rest_kept (is_free s) (is_idle now s) (is_quiet now s) now s k
step_kept (Ended why) s a h k = over_kept s.ended why s k
step_kept Gave s a h k = record { wished = k.wished; attached = k.attached; shown = rest s.waiting k.shown }

given_readable : (input : Input) (s : State) → Kept s → AreReadable (given input s)
given_readable (Took came now) s k = tt
given_readable (Absorbed call reply now) s k = tt
given_readable (Rested now) s k = tt
given_readable (Ended why) s k = tt
given_readable Gave s k = first s.waiting k.shown

run_kept : (inputs : List Input) (s : State) → AreAllowed inputs s → AllByRecursion IsCarried inputs → Kept s → Kept (run inputs s)
run_kept [] s a h k = k
run_kept (input ∷ before) s a h k = step_kept input (run before s) a.0 h.0 (run_kept before s a.1 h.1 k)

taken_readable : (inputs : List Input) (s : State) → AreAllowed inputs s → AllByRecursion IsCarried inputs → Kept s → AreReadable (taken inputs s)
taken_readable [] s a h k = tt
taken_readable (input ∷ before) s a h k =
    join (taken before s) (given input (run before s)) (taken_readable before s a.1 h.1 k) (given_readable input (run before s) (run_kept before s a.1 h.1 k))

first_wished : (key : Option (List ℕ)) → IsWishKept (first_wish key)
first_wished None = tt
first_wished (Some key) = tt

pub frames_fit : FramesFit
frames_fit hello start inputs allowed are =
    let k : Kept (begun hello start) = record { wished = first_wished hello.resume; attached = tt; shown = tt } in
    All-from_recursion IsReadable _
    (join (taken inputs (begun hello start)) (after hello start inputs).waiting (taken_readable inputs (begun hello start) allowed are k) (run_kept inputs (begun hello start) allowed are k).shown)
