-- The frames that a world sends can be sent, and are short; and what they say is what was sent.
use Rattle.std.proofs.Common.{◌≡◌, ℕ, ◌≤◌, ◌<◌, ◌^◌, Bool, true, false, List, [], ◌∷◌, ◌++◌, length, refl, sym, ◌∙◌, ap, subst, arith, length-append, IfSome}
use Rattle.std.specs.Prelude.{Option, Some, None, sum_by, codes, option_and_then}
use Rattle.rl_base.specs.Digits.{fixed_text}
use Rattle.rl_base.proofs.Digits.{fixed_lengths}
use Rattle.rl_ids.specs.Forms.{conn_text}
use Rattle.rl_types.specs.Weight.{option_len}
use Rattle.rl_types.specs.declared.messages.Item.{Item}
use Rattle.rl_types.specs.declared.messages.Body.{Body}
use Rattle.rl_types.specs.declared.messages.Body.TheVariants.{Messages, Presence, Objects}
use Rattle.rl_types.specs.declared.messages.Entry.{Entry}
use Rattle.rl_types.specs.declared.messages.Given.TheVariants.{Ours, Other}
use Rattle.rl_types.specs.declared.frames.Frame.{Frame}
use Rattle.rl_types.specs.declared.frames.Frame.TheVariants as frames
use Rattle.rl_numbers.specs.declared.limits.TheConstants.{MAX_FRAME_SIZE}
use Rattle.rl_wire.specs.Texts.{frame_text}
use Rattle.rl_wire.specs.Sendable.{IsSendable}
use Rattle.rl_wire.specs.Sizes.{text_bytes, item_count, object_count, entry_count, cell_count, message_bytes}
use Rattle.rl_wire.proofs.TextLengths.{frame_length}
use Rattle.rl_model.specs.declared.plain.Sent.{Sent}
use Rattle.rl_model.specs.declared.plain.Sent.TheVariants.{Asks, Sends}
use Rattle.rl_model.specs.Limits.{IsChannelName, IsSmallItem, IsSmallBody}
use Rattle.rl_model.specs.Records.{got_of}
use Rattle.rl_model.specs.World.{the_conn}
use Rattle.rl_world.proofs.Added.{conn_length}
use Rattle.rl_world.specs.Travels.{IsSmallSent, IsSmallEntry}
use Rattle.rl_world.specs.Frames.{body_frame, publish_head, sent_frame, entry_head, entry_frame, flags_of, attach_code, attached_frame, answer_frame, connected_frame, asked_by, entry_in, told_by, answered_by, is_connected, IsSentInRange}

-- a frame that can be sent and whose text is not too long
pub record IsCarried (frame : Frame) : Type 0 where
  pub sendable : IsSendable frame
  pub short : length (frame_text frame) ≤ MAX_FRAME_SIZE

-- a frame with few bytes and items, and with nothing of objects
carried_by : (frame : Frame) → IsSendable frame → text_bytes frame ≤ 10000 → item_count frame ≤ 1 → object_count frame ≡ 0 → entry_count frame ≡ 0 → cell_count frame ≡ 0 → IsCarried frame
carried_by frame sendable bytes items objects entries cells =
    record { sendable = sendable; short = omega (arith, frame_length frame sendable, bytes, items, objects, entries, cells) }

-- WHAT THE CLIENT SENDS

item_small : (item : Item) → IsSmallItem item → message_bytes item ≤ 4160
item_small item small =
    let name : option_len item.name ≡ 0 = ap option_len small.name in
    let encoding : option_len item.encoding ≡ 0 = ap option_len small.encoding in
    let client : option_len item.client ≡ 0 = ap option_len small.client in
    omega (arith, small.id, small.payload, name, encoding, client)

pub sent_carried : (channel : List ℕ) (sent : Sent) → IsChannelName channel → IsSmallSent sent → IsSentInRange sent → IsCarried (sent_frame channel sent)
sent_carried channel (Asks None) name small range = carried_by (frames.Attach channel None) ((name.some, name.fits), tt) (omega (arith, name.fits)) (omega arith) refl refl refl
sent_carried channel (Asks (Some (Ours serial))) name small range = carried_by (frames.Attach channel (Some (Ours serial))) ((name.some, name.fits), range) (omega (arith, name.fits)) (omega arith) refl refl refl
sent_carried channel (Asks (Some (Other text))) name small range = absurd small
sent_carried channel (Sends serial (Messages [])) name small range = absurd small.1
sent_carried channel (Sends serial (Messages (item ∷ []))) name small range =
    let one : sum_by message_bytes (item ∷ []) ≡ message_bytes item = omega arith in
    carried_by (frames.Message (publish_head channel serial) (item ∷ []))
    (((name.some, name.fits), omega (arith, small.0), tt, tt), omega arith, λ k d within none. refl)
    (omega (arith, name.fits, one, item_small item small.1)) (omega arith) refl refl refl
sent_carried channel (Sends serial (Messages (item ∷ next ∷ items))) name small range = absurd small.1
sent_carried channel (Sends serial (Presence items)) name small range = absurd small.1
sent_carried channel (Sends serial (Objects ops)) name small range = absurd small.1

pub sent_back : (channel : List ℕ) (sent : Sent) → asked_by (sent_frame channel sent) ≡ Some sent
sent_back channel (Asks asked) = refl
sent_back channel (Sends serial (Messages items)) = refl
sent_back channel (Sends serial (Presence items)) = refl
sent_back channel (Sends serial (Objects ops)) = refl

-- ENTRIES

pub entry_carried : (channel : List ℕ) (entry : Entry) → IsChannelName channel → IsSmallEntry entry → entry.place < 2 ^ 64 → entry.stamp < 2 ^ 64 → IsCarried (entry_frame channel entry)
entry_carried channel entry name small place stamp = of entry.body small
  where
    of : (body : Body) → IsSmallBody body → IsCarried (body_frame (entry_head channel entry) body)
    of (Messages []) own = absurd own
    of (Messages (item ∷ [])) own =
        let one : sum_by message_bytes (item ∷ []) ≡ message_bytes item = omega arith in
        carried_by (frames.Message (entry_head channel entry) (item ∷ []))
        (((name.some, name.fits), tt, (omega arith, place), stamp), omega arith, λ k d within none. refl)
        (omega (arith, name.fits, one, item_small item own, conn_length entry.conn)) (omega arith) refl refl refl
    of (Messages (item ∷ next ∷ items)) own = absurd own
    of (Presence items) own = absurd own
    of (Objects ops) own = absurd own

pub entry_back : (channel : List ℕ) (entry : Entry) → entry_in (entry_frame channel entry) ≡ Some (got_of entry)
entry_back channel entry = of entry.body
  where
    of : (body : Body) → entry_in (body_frame (entry_head channel entry) body) ≡ Some (entry.place, body)
    of (Messages items) = refl
    of (Presence items) = refl
    of (Objects ops) = refl

-- ANSWERS

pub attached_carried : (channel : List ℕ) (place : ℕ) (resumed presence given : Bool) → IsChannelName channel → place < 2 ^ 64 → IsCarried (attached_frame channel place resumed presence given)
attached_carried channel place resumed presence given name fits =
    carried_by (attached_frame channel place resumed presence given) ((name.some, name.fits), (omega arith, fits), flags_small resumed presence, code_small given resumed)
    (omega (arith, name.fits)) (omega arith) refl refl refl
  where
    flags_small : (resumed presence : Bool) → flags_of resumed presence < 2 ^ 64
    flags_small true true = omega arith
    flags_small true false = omega arith
    flags_small false true = omega arith
    flags_small false false = omega arith

    code_small : (given resumed : Bool) → IfSome (attach_code given resumed) (λ c. c < 2 ^ 32)
    code_small true true = tt
    code_small true false = omega arith
    code_small false resumed = tt

pub attached_back : (channel : List ℕ) (place : ℕ) (resumed presence given : Bool) → told_by (attached_frame channel place resumed presence given) ≡ Some (place, resumed)
attached_back channel place true true given = refl
attached_back channel place true false given = refl
attached_back channel place false true given = refl
attached_back channel place false false given = refl

pub answer_carried : (serial : ℕ) (code : Option ℕ) → serial < 2 ^ 53 → IfSome code (λ c. c < 2 ^ 32) → IsCarried (answer_frame serial code)
answer_carried serial None low fits = carried_by (frames.Ack serial 1) (omega (arith, low), (omega arith, omega arith)) (omega arith) (omega arith) refl refl refl
answer_carried serial (Some code) low fits = carried_by (frames.Nack serial 1 code) (omega (arith, low), (omega arith, omega arith), fits) (omega arith) (omega arith) refl refl refl

pub answer_back : (serial : ℕ) (code : Option ℕ) → answered_by (answer_frame serial code) ≡ Some (serial, code)
answer_back serial None = refl
answer_back serial (Some code) = refl

pub connected_carried : IsCarried connected_frame
connected_carried =
    let mark : List ℕ = conn_text the_conn ++ codes "!" in
    carried_by connected_frame (omega arith, omega arith, omega arith, tt)
    (omega (arith, conn_length the_conn, length-append (conn_text the_conn) (codes "!"), length-append mark (fixed_text 16 16 0), fixed_lengths 16 16 0 (fixed_text 16 16 0) refl)) (omega arith) refl refl refl

-- WHAT ARRIVES

abbrev Arrives : Frame → Option Frame → Type 0
Arrives frame arrived = IsSendable frame → length (frame_text frame) ≤ MAX_FRAME_SIZE → arrived ≡ Some frame

there : (frame made : Frame) (arrived : Option Frame) → frame ≡ made → IsCarried made → Arrives frame arrived → arrived ≡ Some made
there frame made arrived is carried arrives =
    arrives (subst IsSendable (sym is) carried.sendable) (subst (λ f. length (frame_text f) ≤ MAX_FRAME_SIZE) (sym is) carried.short) ∙ ap (λ f. Some f) is

-- what is taken from what arrives is what was sent
pub got_back : {X : Type 0} (back : Frame → Option X) (frame made : Frame) (x : X) (arrived : Option Frame) (got : Option X) → frame ≡ made → IsCarried made → back made ≡ Some x
    → (IsSendable frame → length (frame_text frame) ≤ MAX_FRAME_SIZE → arrived ≡ Some frame) → got ≡ option_and_then back arrived → got ≡ Some x
got_back back frame made x arrived got is carried says arrives shown = shown ∙ ap (option_and_then back) (there frame made arrived is carried arrives) ∙ says

pub connected_back : (frame : Frame) (arrived : Option Frame) (got : Bool) → frame ≡ connected_frame
    → (IsSendable frame → length (frame_text frame) ≤ MAX_FRAME_SIZE → arrived ≡ Some frame) → got ≡ is_connected arrived → got ≡ true
connected_back frame arrived got is arrives shown = shown ∙ ap is_connected (there frame connected_frame arrived is connected_carried arrives)
