-- The answer that is awaited: a channel that takes it was ATTACHING, and is ATTACHED.
use Rattle.std.proofs.Common.{◌≡◌, ℕ, Bool, true, false, refl, ap}
use Rattle.std.specs.Prelude.{◌&&◌}
use Rattle.rl_ids.specs.declared.serials.ChannelSerial.{ChannelSerial}
use Rattle.rl_types.specs.declared.states.ChanState.{ChanState}
use Rattle.rl_types.specs.declared.states.ChanState.TheVariants as chan
use Rattle.rl_chansm.specs.declared.table.ChanEvent.TheVariants as event
use Rattle.rl_chansm.specs.Owed.{awaits_attached, is_last, lowered, takes_attached}
use Rattle.rl_clientmodel.specs.Channels.{ClientChannel, moved, one_less}
use Rattle.rl_clientmodel.specs.Answers.{answered, is_resumed, with_answer, with_syncs}
use Rattle.rl_clientmodel.specs.Runs.{goes_on_answered}

never : (b : Bool) → (b && false) ≡ true → ⊥
never true is = cc
never false is = cc

abbrev Taken : ChanState → ClientChannel → Type 0
Taken state channel = moved event.AttachedTaken (record channel { state = state; owed = lowered channel.owed }) ≡ record channel { owed = lowered channel.owed; state = chan.Attached }

taken_in : (b : Bool) (state : ChanState) (channel : ClientChannel) → (b && awaits_attached state) ≡ true → Taken state channel
taken_in b chan.Attaching channel is = refl
taken_in b chan.Initialized channel is = absurd (never b is)
taken_in b chan.Attached channel is = absurd (never b is)
taken_in b chan.Detaching channel is = absurd (never b is)
taken_in b chan.Detached channel is = absurd (never b is)
taken_in b chan.Suspended channel is = absurd (never b is)
taken_in b chan.Failed channel is = absurd (never b is)

pub taken : (channel : ClientChannel) → takes_attached channel.owed channel.state ≡ true → moved event.AttachedTaken (one_less channel) ≡ record channel { owed = lowered channel.owed; state = chan.Attached }
taken channel is = taken_in (is_last channel.owed) channel.state channel is

-- what the answer makes of the channel, where it is taken
pub answered_is : (flags : ℕ) (told : ChannelSerial) (channel : ClientChannel) → takes_attached channel.owed channel.state ≡ true
    → answered flags told channel ≡ with_syncs flags (with_answer (goes_on_answered channel.asked (is_resumed flags) told channel.runs) (is_resumed flags) told (record channel { owed = lowered channel.owed; state = chan.Attached }))
answered_is flags told channel is =
    ap (λ (c : ClientChannel). with_syncs flags (with_answer (goes_on_answered channel.asked (is_resumed flags) told channel.runs) (is_resumed flags) told c)) (taken channel is)
