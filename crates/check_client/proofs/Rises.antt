-- The channels of a key that was read rise by name: by the word with which keys are read, and so by that with which a
-- client takes them.
use Rattle.std.proofs.Common.{◌≡◌, ℕ, List, [], ◌∷◌}
use Rattle.std.specs.declared.cmp.Ordering.TheVariants.{Less}
use Rattle.std.specs.Ordering.{nat_cmp}
use Rattle.std.specs.Cmp.Lexicographic.{slice_cmp}
use Rattle.std.specs.List.{AllByRecursion}
use Rattle.std.specs.List.Sorted.{IsStrictlySortedBy}
use Rattle.std.specs.Map.{keys_of}
use Rattle.rl_ids.specs.declared.serials.ChannelSerial.{ChannelSerial}
use Rattle.rl_jsonfields.specs.Order.{IsFirst, Rise}
use Rattle.rl_clientchannels.specs.Changes.{AreNames}

abbrev One : Type 0
One = List ℕ × ChannelSerial

above : (name : List ℕ) (serials : List One) → IsFirst name serials → AllByRecursion (λ other. slice_cmp nat_cmp name other ≡ Less) (keys_of serials)
above name [] first = tt
above name (one ∷ serials) first = (first.0, above name serials first.1)

pub names_rise : (serials : List One) → Rise serials → AreNames serials
unfolding IsStrictlySortedBy
names_rise [] rise = tt
names_rise (one ∷ serials) rise = (above one.0 serials rise.0, names_rise serials rise.1)
