-- The channels by name: one is changed, or each.
use Rattle.std.specs.Prelude.{ℕ, List, [], Option, Some, None}
use Rattle.std.specs.Map.{keys_of}
use Rattle.std.specs.Ordering.{nat_cmp}
use Rattle.std.specs.Cmp.Lexicographic.{slice_cmp}
use Rattle.std.specs.List.Sorted.{IsStrictlySortedBy}
use Rattle.rl_ids.specs.declared.serials.ChannelSerial.{ChannelSerial}
use Rattle.rl_types.specs.declared.frames.Frame.{Frame}
use Rattle.rl_clientmodel.specs.declared.steps.ChannelStep.{ChannelStep}
use Rattle.rl_names.specs.Names.{at, with_entry}
use Rattle.rl_clientmodel.specs.Channels.{ClientChannel, channel_asks}

-- the names rise
abbrev pub AreChannels : List (List ℕ × ClientChannel) → Type 0
AreChannels channels = IsStrictlySortedBy (slice_cmp nat_cmp) (keys_of channels)

-- a channel that is known is changed
abbrev pub changed_if : List ℕ → (ClientChannel → ClientChannel) → Option ClientChannel → List (List ℕ × ClientChannel) → List (List ℕ × ClientChannel)
changed_if name change None channels = channels
changed_if name change (Some channel) channels = with_entry name (change channel) channels

abbrev pub changed_at : List ℕ → (ClientChannel → ClientChannel) → List (List ℕ × ClientChannel) → List (List ℕ × ClientChannel)
changed_at name change channels = changed_if name change (at name channels) channels

-- what the client sends for a channel, where it is known
abbrev pub asks_if : ChannelStep → List ℕ → Option ClientChannel → List Frame
asks_if step name None = []
asks_if step name (Some channel) = channel_asks step name channel

abbrev pub asks_at : ChannelStep → List ℕ → List (List ℕ × ClientChannel) → List Frame
asks_at step name channels = asks_if step name (at name channels)

-- the names of serials rise
abbrev pub AreNames : List (List ℕ × ChannelSerial) → Type 0
AreNames serials = IsStrictlySortedBy (slice_cmp nat_cmp) (keys_of serials)
