-- What comes to an actor of the frames that its client sent.
use Rattle.std.specs.Prelude.{ℕ, ◌≡◌, ◌≤◌, ◌<◌, ◌+◌, false, [], ◌∷◌, ◌++◌, length, replicate, Some, None, codes}
use Rattle.rl_numbers.specs.declared.limits.TheConstants.{MAX_FRAME_SIZE}
use Rattle.rl_numbers.specs.declared.codes.TheConstants.{BAD_FRAME}
use Rattle.rl_types.specs.declared.frames.Frame.{Frame}
use Rattle.rl_types.specs.declared.frames.Frame.TheVariants.{Disconnected, Message}
use Rattle.rl_events.specs.declared.calls.End.TheVariants.{BadFrame}
use Rattle.rl_actormodel.specs.Takes.{A, Bad}
use Rattle.rl_wire.specs.Texts.{frame_text}
use Rattle.rl_worldmodel.specs.World.{Transport, with_put}
use Rattle.rl_worldmodel.specs.Actors.{arrives, takes_up}

-- the frame's text has more bytes than the service reads
abbrev pub IsLong : Frame → Type 0
IsLong frame = MAX_FRAME_SIZE < length (frame_text frame)

pub record FramesArrive : Type 0 where
  pub short : (frame : Frame) → length (frame_text frame) ≤ MAX_FRAME_SIZE → arrives frame ≡ A frame
  pub long : (frame : Frame) → IsLong frame → arrives frame ≡ Bad (frame_text frame)
  -- a frame that is too long ends the actor that takes it up, which tells so behind all else
  pub ends : (frame : Frame) (now : ℕ) (t : Transport) → IsLong frame → t.cut ≡ false
      → (takes_up frame now t).actor.ended ≡ Some (BadFrame (frame_text frame))
  pub tells : (frame : Frame) (now : ℕ) (t : Transport) → IsLong frame → t.cut ≡ false
      → (takes_up frame now t).to_client ≡ with_put (t.actor.waiting ++ Disconnected (Some BAD_FRAME) ∷ []) t.to_client

-- EXACTLY WHERE: a message of so many letters, the text of which is
-- `{"action":15,"channel":"room","messages":[{"data":"xx..x"}],"msgSerial":0}`

abbrev pub letters_frame : ℕ → Frame
letters_frame n =
    Message (record { channel = codes "room"; msg = Some 0; serial = None; conn = None; id = None; stamp = None })
    (record { id = None; name = None; payload = Some (replicate n 120); encoding = None; client = None } ∷ [])

pub record LettersArrive : Type 0 where
  pub size : (n : ℕ) → length (frame_text (letters_frame n)) ≡ 69 + n
  pub fits : (n : ℕ) → n ≤ 4194235 → arrives (letters_frame n) ≡ A (letters_frame n)
  pub too_long : (n : ℕ) → 4194235 < n → arrives (letters_frame n) ≡ Bad (frame_text (letters_frame n))
