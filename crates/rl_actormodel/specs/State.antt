-- What an actor keeps, and the small steps of which all others are made.
use Rattle.std.specs.Prelude.{ℕ, Bool, true, false, ◌&&◌, ◌==◌, nat_le, is_none, List, [], ◌∷◌, ◌++◌, length, map, find, Option, Some, None, slice_get}
use Rattle.rl_numbers.specs.declared.limits.TheConstants.{OUTBOX_ROOM}
use Rattle.rl_types.specs.declared.frames.Frame.{Frame}
use Rattle.rl_runs.specs.declared.commands.Hello.{Hello}
use Rattle.rl_events.specs.declared.calls.End.{End}
use Rattle.rl_actormodel.specs.declared.parts.Wish.{Wish}
use Rattle.rl_actormodel.specs.declared.parts.Wish.TheVariants as wishes
use Rattle.rl_actormodel.specs.declared.parts.Holder.{Holder}
use Rattle.rl_actormodel.specs.declared.parts.Session.{Session}

-- an actor. (This project's own.)
pub record State : Type 0 where
  pub hello : Hello  -- with which the client came
  pub wish : Wish  -- the call that it wants next
  pub holder : Option Holder  -- the connection that it serves
  pub unknown : Bool  -- the key of the hello was not known
  pub numbers : List (List ℕ × ℕ)  -- of the channels that were asked for, in order of name
  pub sessions : List (List ℕ × Session)  -- in order of name
  pub sequence : ℕ  -- how many ATTACHED were put out
  pub waiting : List Frame  -- put out and not taken yet, in order
  pub last_in : ℕ  -- when the last frame was taken up, or the actor began
  pub last_out : ℕ  -- when the last frame was put out, or the actor began
  pub ended : Option End

-- THE START

-- a client that brings a key wants its connection back (RTN15b); another one wants a new one (RTN4)
abbrev pub first_wish : Option (List ℕ) → Wish
first_wish None = wishes.Open
first_wish (Some key) = wishes.Resume key

-- an actor as it begins. (This project's own.)
abbrev pub begun : Hello → ℕ → State
begun hello now = record {
  hello = hello;
  wish = first_wish hello.resume;
  holder = None;
  unknown = false;
  numbers = [];
  sessions = [];
  sequence = 0;
  waiting = [];
  last_in = now;
  last_out = now;
  ended = None;
}

-- SESSIONS

-- a session on the channel of this number. (This project's own.)
abbrev pub has_number : ℕ → List ℕ × Session → Bool
has_number number e = e.1.number == number

-- the session on the channel of this number, with the channel's name. (This project's own.)
abbrev pub numbered : ℕ → List (List ℕ × Session) → Option (List ℕ × Session)
numbered number sessions = find (has_number number) sessions

-- the channels that have a session, in order of name. (This project's own.)
abbrev pub session_names : State → List (List ℕ)
session_names s = map (λ (e : List ℕ × Session). e.0) s.sessions

-- one of them, counted from 0; none where there are no more. (This project's own.)
abbrev pub session_name : ℕ → State → Option (List ℕ)
session_name index s = slice_get (session_names s) index

-- SMALL STEPS

-- no call is wanted. (This project's own.)
abbrev pub is_nothing : Wish → Bool
is_nothing wishes.Nothing = true
is_nothing wish = false

-- not ended, and no call is wanted. (This project's own.)
abbrev pub is_free : State → Bool
is_free s = is_none s.ended && is_nothing s.wish

-- so few frames wait that more may be put out. (This project's own.)
abbrev pub has_room : State → Bool
has_room s = nat_le (length s.waiting) OUTBOX_ROOM

-- this call is wanted next. (This project's own.)
abbrev pub wishing : Wish → State → State
wishing wish s = record s { wish = wish }

-- frames are put out, in order; where there are none nothing is. (This project's own.)
abbrev pub puts : List Frame → ℕ → State → State
puts [] now s = s
puts (frame ∷ more) now s = record s { waiting = s.waiting ++ frame ∷ more; last_out = now }

-- one frame is put out. (This project's own.)
abbrev pub put : Frame → ℕ → State → State
put frame now s = record s { waiting = s.waiting ++ frame ∷ []; last_out = now }
