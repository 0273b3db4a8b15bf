-- What comes of a frame is told by the length of its text.
use Rattle.std.proofs.Common.{◌≡◌, ◌≤◌, ◌<◌, ◌+◌, refl, ap, ◌∙◌, ℕ, zero, suc, Bool, false, List, [], ◌∷◌, ◌++◌, length, replicate, codes, arith, length-append}
use Rattle.std.specs.Fmt.{digits}
use Rattle.json.specs.Print.{escape, escape_byte}
use Rattle.std.proofs.lemmas.Bool.{lt-leb, le-leb}
use Rattle.rl_numbers.specs.declared.limits.TheConstants.{MAX_FRAME_SIZE}
use Rattle.rl_types.specs.declared.frames.Frame.{Frame}
use Rattle.rl_actormodel.specs.Takes.{A, Bad, took}
use Rattle.rl_jsonfields.specs.Names.{spelled}
use Rattle.rl_wireitems.specs.Items.{message_values, message_value}
use Rattle.rl_wire.specs.Texts.{frame_text, frame_members, head_members}
use Rattle.rl_worldmodel.specs.World.{Transport, with_one_got}
use Rattle.rl_worldmodel.specs.Actors.{arrives, arrives_if, takes_up, works, emptied, put_out_unless}
use Rattle.rl_worldmodel.specs.Arriving.{IsLong, FramesArrive, letters_frame, LettersArrive}

short_comes : (frame : Frame) → length (frame_text frame) ≤ MAX_FRAME_SIZE → arrives frame ≡ A frame
short_comes frame short = ap (λ b. arrives_if b frame) (le-leb (length (frame_text frame)) MAX_FRAME_SIZE short)

long_comes : (frame : Frame) → IsLong frame → arrives frame ≡ Bad (frame_text frame)
long_comes frame long = ap (λ b. arrives_if b frame) (lt-leb (length (frame_text frame)) MAX_FRAME_SIZE long)

-- the transport after bad bytes were taken up
abbrev after_bad : Frame → ℕ → Transport → Bool → Transport
after_bad frame now t cut =
    emptied (put_out_unless cut (took (Bad (frame_text frame)) now t.actor).waiting (record t { actor = took (Bad (frame_text frame)) now t.actor; to_service = with_one_got t.to_service }))

taken_up : (frame : Frame) (now : ℕ) (t : Transport) → IsLong frame → t.cut ≡ false → takes_up frame now t ≡ after_bad frame now t false
taken_up frame now t long open_yet =
    ap (λ came. works (took came now) (record t { to_service = with_one_got t.to_service })) (long_comes frame long)
    ∙ ap (after_bad frame now t) open_yet

pub frames_arrive : FramesArrive
frames_arrive = record {
  short = short_comes;
  long = long_comes;
  ends = λ frame now t long open_yet. ap (λ after. after.actor.ended) (taken_up frame now t long open_yet);
  tells = λ frame now t long open_yet. ap (λ after. after.to_client) (taken_up frame now t long open_yet);
}

-- A MESSAGE OF LETTERS

escaped : (n : ℕ) → length (escape (replicate n 120)) ≡ n
unfolding escape_byte
escaped zero = refl
escaped (suc n) = ap (λ k. suc k) (escaped n)

-- what stands before the letters, and at the end
abbrev front : List ℕ
front = codes "{\"action\":15,\"channel\":\"room\",\"messages\":[{\"data\":\""

abbrev back : List ℕ
back = codes ",\"msgSerial\":0}"

abbrev behind_front : List ℕ → List ℕ
behind_front xs = (((xs ++ 34 ∷ []) ++ 125 ∷ []) ++ 93 ∷ []) ++ back

text_is : (n : ℕ) → frame_text (letters_frame n) ≡ front ++ behind_front (escape (replicate n 120))
unfolding digits frame_members head_members message_values message_value spelled escape_byte
text_is n = refl

ends_with : (xs a b c d : List ℕ) → length ((((xs ++ a) ++ b) ++ c) ++ d) ≡ length xs + (length a + length b + length c + length d)
ends_with xs a b c d =
    omega (arith, length-append (((xs ++ a) ++ b) ++ c) d, length-append ((xs ++ a) ++ b) c, length-append (xs ++ a) b, length-append xs a)

sums : (body xs n : ℕ) → body ≡ xs + 18 → xs ≡ n → 51 + body ≡ 69 + n
sums body xs n ends is = omega (arith, ends, is)

size_is : (n : ℕ) → length (frame_text (letters_frame n)) ≡ 69 + n
size_is n =
    let xs : List ℕ = escape (replicate n 120) in
    let ends : length (behind_front xs) ≡ length xs + 18 = ends_with xs (34 ∷ []) (125 ∷ []) (93 ∷ []) back in
    let whole : length (front ++ behind_front xs) ≡ 51 + length (behind_front xs) = length-append front (behind_front xs) in
    ap length (text_is n) ∙ whole ∙ sums (length (behind_front xs)) (length xs) n ends (escaped n)

is_within : (n size : ℕ) → size ≡ 69 + n → n ≤ 4194235 → size ≤ MAX_FRAME_SIZE
is_within n size is small = omega (arith, is, small)

is_past : (n size : ℕ) → size ≡ 69 + n → 4194235 < n → MAX_FRAME_SIZE < size
is_past n size is large = omega (arith, is, large)

pub letters_arrive : LettersArrive
letters_arrive = record {
  size = size_is;
  fits = λ n small. short_comes (letters_frame n) (is_within n (length (frame_text (letters_frame n))) (size_is n) small);
  too_long = λ n large. long_comes (letters_frame n) (is_past n (length (frame_text (letters_frame n))) (size_is n) large);
}
