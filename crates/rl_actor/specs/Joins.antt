-- A channel is joined, but for the wish; and the wish behind a put.
use Rattle.std.specs.Prelude.{ℕ, Option, Some, None}
use Rattle.rl_numbers.specs.declared.codes.TheConstants.{CHANNEL_LIMIT}
use Rattle.rl_types.specs.declared.frames.Frame.TheVariants as frames
use Rattle.rl_names.specs.Names.{with_entry}
use Rattle.rl_events.specs.declared.channel.Verdict.{Verdict}
use Rattle.rl_actormodel.specs.declared.parts.Asked.{Asked}
use Rattle.rl_actormodel.specs.declared.parts.Holder.{Holder}
use Rattle.rl_actormodel.specs.declared.parts.Publish.{Publish}
use Rattle.rl_actormodel.specs.declared.parts.Wish.{Wish}
use Rattle.rl_actormodel.specs.declared.parts.Wish.TheVariants as wishes
use Rattle.rl_actormodel.specs.Attaches.{flags_of, attach_code, next_sequence, new_session}
use Rattle.rl_actormodel.specs.Replies.{Joining, Numbering, Has, HasNone, Unnumbered, outcome_of}
use Rattle.rl_actormodel.specs.State.{State, put}

abbrev pub joined_but : Asked → ℕ → Option Joining → ℕ → State → State
joined_but asked number None now s = s
joined_but asked number (Some j) now s =
    put (frames.Attached asked.channel j.serial (flags_of j) (attach_code asked.serial j.resumed)) now
    (record s {
      sequence = next_sequence s;
      sessions = with_entry asked.channel (new_session asked.channel number j (next_sequence s)) s.sessions;
    })

-- what is wanted once a put was replied
abbrev pub put_next : Publish → Holder → ℕ → Option Verdict → Wish
put_next p holder number None = wishes.Put p holder number
put_next p holder number (Some verdict) = wishes.Finish p holder (outcome_of verdict)

-- what the directory's reply to an ATTACH leads to, but for the wish
abbrev pub numbered_but : Asked → Numbering → ℕ → State → State
numbered_but asked (Has number) now s = record s { numbers = with_entry asked.channel number s.numbers }
numbered_but asked HasNone now s = put (frames.Error (Some asked.channel) CHANNEL_LIMIT) now s
numbered_but asked Unnumbered now s = s

-- what is wanted then
abbrev pub numbered_next : Asked → Numbering → Wish
numbered_next asked (Has number) = wishes.Join asked number
numbered_next asked HasNone = wishes.Nothing
numbered_next asked Unnumbered = wishes.AskToAttach asked
