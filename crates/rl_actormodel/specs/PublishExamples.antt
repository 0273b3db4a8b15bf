-- Worked examples on publishing: on a connection that came back, on several channels, and what is kept of the directory's
-- replies.
use Rattle.std.specs.Prelude.{◌≡◌, ℕ, List, [], ◌∷◌, ◌++◌, Option, Some, None, codes}
use Rattle.rl_types.specs.declared.messages.Body.{Body}
use Rattle.rl_types.specs.declared.messages.Body.TheVariants.{Messages}
use Rattle.rl_types.specs.declared.frames.Frame.{Frame}
use Rattle.rl_types.specs.declared.frames.Frame.TheVariants as frames
use Rattle.rl_events.specs.declared.book.BookEvent.TheVariants as book_events
use Rattle.rl_events.specs.declared.book.BookReply.TheVariants as book
use Rattle.rl_events.specs.declared.channel.Outcome.TheVariants.{Taken, Refused}
use Rattle.rl_events.specs.declared.channel.Verdict.{Verdict}
use Rattle.rl_events.specs.declared.channel.Verdict.TheVariants.{Done}
use Rattle.rl_events.specs.declared.channel.ChannelEvent.TheVariants as events
use Rattle.rl_events.specs.declared.calls.Call.{Call}
use Rattle.rl_events.specs.declared.calls.Call.TheVariants as calls
use Rattle.rl_events.specs.declared.calls.DirEvent.TheVariants.{Ask}
use Rattle.rl_events.specs.declared.calls.DirReply.TheVariants.{At, Full}
use Rattle.rl_events.specs.declared.calls.End.TheVariants as ends
use Rattle.rl_actormodel.specs.Wishes.{next_call}
use Rattle.rl_actormodel.specs.Inputs.{Input, Ended, Gave, after}
use Rattle.rl_actormodel.specs.Examples.{room, keyed, says, took_frame, wants}
use Rattle.rl_actormodel.specs.ChannelExamples.{directory_says, attach, hall, both_attached, head_of, message, publish, put_says, put_made}

-- the one message that is put
abbrev pub body : Body
body = Messages (message None ∷ [])

-- A CONNECTION THAT CAME BACK

-- connection 3 came back under generation 2, and CONNECTED was taken
abbrev pub back : List Input
back = Gave ∷ says (book.Resumed 3 2) ∷ []

-- after these inputs more: what is wanted at 9, what waits, and the end
abbrev pub wants_back : List Input → Option Call
wants_back inputs = next_call 9 (after keyed 0 (inputs ++ back))

abbrev pub waits_back : List Input → List Frame
waits_back inputs = (after keyed 0 (inputs ++ back)).waiting

abbrev pub publish_seventh : Input
publish_seventh = took_frame (frames.Message (head_of 7) (message None ∷ []))

-- it was put, with this verdict
abbrev pub put_seventh : Verdict → List Input
put_seventh verdict = put_says verdict ∷ directory_says (At 4) ∷ says book.Go ∷ publish_seventh ∷ []

pub record ShowsBack : Type 0 where
  pub begins : wants_back (publish_seventh ∷ []) ≡ Some (calls.Book (book_events.Begin 3 2 7))
  pub puts : wants_back (directory_says (At 4) ∷ says book.Go ∷ publish_seventh ∷ []) ≡ Some (calls.Chan 4 (events.Put 3 7 body 9))
  pub finishes : wants_back (put_seventh (Done (Taken 5))) ≡ Some (calls.Book (book_events.End 3 2 7 (Some (Taken 5))))
  pub finishes_refused : wants_back (put_seventh (Done (Refused 106))) ≡ Some (calls.Book (book_events.End 3 2 7 (Some (Refused 106))))
  pub taken : waits_back (says book.Done ∷ put_seventh (Done (Taken 5))) ≡ frames.Ack 7 1 ∷ []
  pub refused : waits_back (says book.Done ∷ put_seventh (Done (Refused 106))) ≡ frames.Nack 7 1 106 ∷ []
  pub known : waits_back (says (book.Known (Taken 5)) ∷ publish_seventh ∷ []) ≡ frames.Ack 7 1 ∷ []
  pub superseded : (after keyed 0 (says (book.Superseded 5) ∷ publish_seventh ∷ back)).ended ≡ Some (ends.Superseded 2 5)
  pub late : (after keyed 0 (says (book.Superseded 5) ∷ put_seventh (Done (Taken 5)) ++ back)).ended ≡ Some (ends.Superseded 2 5)
  pub closes : wants_back (took_frame frames.Close ∷ []) ≡ Some (calls.Book (book_events.Close 3 2))
  pub lost : wants_back (Ended ends.LinkEnded ∷ []) ≡ Some (calls.Book (book_events.Lost 3 2 9))

-- SEVERAL CHANNELS

abbrev pub publish_on : List ℕ → Input
publish_on name = took_frame (frames.Message (record (head_of 0) { channel = name }) (message None ∷ []))

-- each put goes to its own channel, whose number is known or asked for
pub record ShowsNumbers : Type 0 where
  pub first : wants (says book.Go ∷ publish_on room ∷ both_attached) ≡ Some (calls.Chan 4 (events.Put 1 0 body 9))
  pub second : wants (says book.Go ∷ publish_on hall ∷ both_attached) ≡ Some (calls.Chan 5 (events.Put 1 0 body 9))
  pub third : wants (says book.Go ∷ publish_on (codes "attic") ∷ both_attached) ≡ Some (calls.Dir (Ask (codes "attic")))

-- WHAT IS KEPT OF THE DIRECTORY'S REPLIES

-- a put was acknowledged; and one was refused, since the directory was full
abbrev pub put_done : List Input
put_done = says book.Done ∷ put_made (Done (Taken 5))

abbrev pub put_full : List Input
put_full = says book.Done ∷ directory_says (Full 256) ∷ says book.Go ∷ publish ∷ []

-- a number is kept and Full is not, whatever it was asked for
pub record ShowsKept : Type 0 where
  pub joins : wants (attach None ∷ put_done) ≡ Some (calls.Chan 4 (events.Join None))
  pub puts : wants (says book.Go ∷ publish_seventh ∷ put_done) ≡ Some (calls.Chan 4 (events.Put 1 7 body 9))
  pub asks_to_put : wants (says book.Go ∷ publish_seventh ∷ put_full) ≡ Some (calls.Dir (Ask room))
  pub asks_to_attach : wants (attach None ∷ put_full) ≡ Some (calls.Dir (Ask room))
