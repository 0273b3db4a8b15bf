-- What the actors of the service do in a world: one thing at a time.
use Rattle.std.specs.Prelude.{ℕ, Bool, true, false, not, nat_le, is_some, List, [], ◌∷◌, length, Option, Some, None, slice_get}
use Rattle.rl_numbers.specs.declared.limits.TheConstants.{MAX_FRAME_SIZE}
use Rattle.rl_types.specs.declared.frames.Frame.{Frame}
use Rattle.rl_events.specs.declared.calls.Call.{Call}
use Rattle.rl_events.specs.declared.calls.End.TheVariants.{LinkEnded}
use Rattle.rl_actormodel.specs.State as actor
use Rattle.rl_actormodel.specs.Ends.{over}
use Rattle.rl_actormodel.specs.Wishes.{next_call, page_call, poll_call}
use Rattle.rl_actormodel.specs.Takes.{Came, A, Bad, took}
use Rattle.rl_actormodel.specs.Reads.{absorbed}
use Rattle.rl_actormodel.specs.Rests.{rested, does_rest, is_empty}
use Rattle.rl_wire.specs.Texts.{frame_text}
use Rattle.rl_worldmodel.specs.World.{World, Transport, with_put, with_one_got, on_transport}
use Rattle.rl_worldmodel.specs.Calls.{reply_to, taken_before, called}

-- WHAT AN ACTOR PUTS OUT

abbrev pub put_out_unless : Bool → List Frame → Transport → Transport
put_out_unless true frames t = t
put_out_unless false frames t = record t { to_client = with_put frames t.to_client }

abbrev pub emptied : Transport → Transport
emptied t = record t { actor = record t.actor { waiting = [] } }

-- what waits is put on the transport; on one that is cut it is lost
abbrev pub flushed : Transport → Transport
flushed t = emptied (put_out_unless t.cut t.actor.waiting t)

-- the actor does something, and what it puts out is put on the transport at once
abbrev pub works : (actor.State → actor.State) → Transport → Transport
works act t = flushed (record t { actor = act t.actor })

-- A CALL

-- it is the actor's from then on
abbrev pub with_call : Call → World → Transport → Transport
with_call call world t = record t { made = record { call = call; before = taken_before call world } ∷ t.made }

-- the actor absorbs what the call is answered
abbrev pub absorbs : Call → World → Transport → Transport
absorbs call world t = works (absorbed call (reply_to call world) world.now) (with_call call world t)

-- the machine takes the call, and the actor absorbs the reply
abbrev pub performs : ℕ → Call → World → World
performs k call world = on_transport k (absorbs call world) (called call world)

-- ONE STEP

-- the first of these that applies. For an actor that is ended only the first does
pub data Deed : Type 0 where
  Calls : (call : Call) → Deed  -- the call that is wanted is performed
  Notices : Deed  -- the transport is cut, which is noticed
  TakesUp : (frame : Frame) → Deed  -- the client's next frame is taken up
  Rests : Deed  -- the actor ends as idle, or shows that it is there
  Waits : Deed

abbrev pub deed_by : Option Call → Bool → Bool → Option Frame → Bool → Deed
deed_by (Some call) ended cut frame rests = Calls call
deed_by None true cut frame rests = Waits
deed_by None false true frame rests = Notices
deed_by None false false (Some frame) rests = TakesUp frame
deed_by None false false None true = Rests
deed_by None false false None false = Waits

abbrev pub deed : ℕ → Transport → Deed
deed now t =
    deed_by (next_call now t.actor) (is_some t.actor.ended) t.cut (slice_get t.to_service.put t.to_service.got)
    (does_rest now t.actor)

abbrev pub deed_of : ℕ → Option Transport → Deed
deed_of now None = Waits
deed_of now (Some t) = deed now t

-- what the actor of this transport does next
abbrev pub next_deed : ℕ → World → Deed
next_deed k world = deed_of world.now (slice_get world.transports k)

-- the service reads texts of so many bytes at most
abbrev pub is_short : Frame → Bool
is_short frame = nat_le (length (frame_text frame)) MAX_FRAME_SIZE

abbrev pub arrives_if : Bool → Frame → Came
arrives_if true frame = A frame
arrives_if false frame = Bad (frame_text frame)

-- what comes where a client sent this frame: the frame, or else bytes that are too long for one
abbrev pub arrives : Frame → Came
arrives frame = arrives_if (is_short frame) frame

abbrev pub takes_up : Frame → ℕ → Transport → Transport
takes_up frame now t = works (took (arrives frame) now) (record t { to_service = with_one_got t.to_service })

abbrev pub done : ℕ → Deed → World → World
done k (Calls call) world = performs k call world
done k Notices world = on_transport k (works (over LinkEnded)) world
done k (TakesUp frame) world = on_transport k (takes_up frame world.now) world
done k Rests world = on_transport k (works (rested world.now)) world
done k Waits world = world

abbrev pub steps : ℕ → World → World
steps k world = done k (next_deed k world) world

abbrev pub is_deed : Deed → Bool
is_deed Waits = false
is_deed deed = true

-- whether a step does anything
abbrev pub is_busy : ℕ → World → Bool
is_busy k world = is_deed (next_deed k world)

-- PAGES AND READS

abbrev pub unless_cut : Bool → Option Call → Option Call
unless_cut true call = None
unless_cut false call = call

abbrev pub call_on : (actor.State → Option Call) → Option Transport → Option Call
call_on call None = None
call_on call (Some t) = unless_cut t.cut (call t.actor)

-- the actor's next page call on a channel; none where its transport is cut
abbrev pub next_page : ℕ → List ℕ → World → Option Call
next_page k name world = call_on (page_call name) (slice_get world.transports k)

-- its read of a channel
abbrev pub next_poll : ℕ → List ℕ → World → Option Call
next_poll k name world = call_on (poll_call name) (slice_get world.transports k)

abbrev pub performs_if : ℕ → Option Call → World → World
performs_if k None world = world
performs_if k (Some call) world = performs k call world

abbrev pub pages : ℕ → List ℕ → World → World
pages k name world = performs_if k (next_page k name world) world

abbrev pub polls : ℕ → List ℕ → World → World
polls k name world = performs_if k (next_poll k name world) world

-- whether a page is asked for
abbrev pub has_page : ℕ → List ℕ → World → Bool
has_page k name world = is_some (next_page k name world)

-- whether an actor would put something out by the reply to a call
abbrev pub puts_out : Call → World → Option Transport → Bool
puts_out call world None = false
puts_out call world (Some t) = not (is_empty (absorbed call (reply_to call world) world.now t.actor).waiting)

abbrev pub gives_by : ℕ → Option Call → World → Bool
gives_by k None world = false
gives_by k (Some call) world = puts_out call world (slice_get world.transports k)

-- whether a read gives an entry, an end page or an end
abbrev pub gives : ℕ → List ℕ → World → Bool
gives k name world = gives_by k (next_poll k name world) world

abbrev pub names_on : Option Transport → List (List ℕ)
names_on None = []
names_on (Some t) = actor.session_names t.actor

-- the channels of a transport's sessions, in order of name
abbrev pub session_names : ℕ → World → List (List ℕ)
session_names k world = names_on (slice_get world.transports k)
