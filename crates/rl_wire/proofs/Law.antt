-- What a written frame's bytes are, and what they are read as.
use Rattle.std.proofs.Common.{◌≡◌, ℕ, ◌≤◌, List, length, Some, Ok, false, ap, ◌∙◌, arith}
use Rattle.std.specs.Prelude.{IsUtf8}
use Rattle.std.proofs.lemmas.Bool.{le-ltb}
use Rattle.serde_json.specs.Data.{Data, depth}
use Rattle.serde_json.specs.Read.{read, max_depth}
use Rattle.serde_json.specs.Written.{has_float, compact_text}
use Rattle.rl_numbers.specs.declared.limits.TheConstants.{MAX_FRAME_SIZE}
use Rattle.rl_types.specs.declared.frames.Frame.{Frame}
use Rattle.rl_jsonfields.proofs.Compact.{read_compact}
use Rattle.rl_jsonfields.proofs.Utf8.{is_text}
use Rattle.rl_wire.specs.Frames.{frame_at}
use Rattle.rl_wire.specs.Sendable.{IsSendable}
use Rattle.rl_wire.specs.Texts.{frame_value, frame_text}
use Rattle.rl_wire.proofs.Flat.{frame_flat}
use Rattle.rl_wire.proofs.Plains.{frame_plain}
use Rattle.rl_wire.proofs.Again.{bytes_again}

pub written : (f : Frame) (d : Data) (bs : List ℕ) → d ≡ frame_value f → (has_float d ≡ false → bs ≡ compact_text d) → bs ≡ frame_text f
written f d bs e h = let k : has_float d ≡ false = rw e ((frame_flat f).no_float) in h k ∙ ap compact_text e

pub reads_again : (f : Frame) (d : Data) (bs : List ℕ) → d ≡ frame_value f → IsUtf8 bs → (depth d ≤ max_depth → read bs ≡ Some d) → IsSendable f → length bs ≤ MAX_FRAME_SIZE → frame_at bs ≡ Ok (Some f)
reads_again f d bs e u h sendable short = bytes_again bs f (le-ltb MAX_FRAME_SIZE (length bs) short) (is_text bs u) (h (rw e (omega (arith, (frame_flat f).shallow))) ∙ ap Some e) sendable

pub text_again : (f : Frame) → IsSendable f → IsUtf8 (frame_text f) → length (frame_text f) ≤ MAX_FRAME_SIZE → frame_at (frame_text f) ≡ Ok (Some f)
text_again f sendable u short =
    bytes_again (frame_text f) f (le-ltb MAX_FRAME_SIZE (length (frame_text f)) short) (is_text (frame_text f) u) (read_compact (frame_value f) (frame_plain f sendable) (omega (arith, (frame_flat f).shallow))) sendable
