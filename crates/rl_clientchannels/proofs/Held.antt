-- The names of the serials that are held rise, as those of the channels do.
use Rattle.std.proofs.Common.{◌≡◌, ℕ, List, [], ◌∷◌, ◌++◌, ap, sym, subst, refl, ◌∙◌}
use Rattle.std.specs.Prelude.{Option, Some, None, option_map, filter_map}
use Rattle.std.specs.declared.cmp.Ordering.TheVariants.{Less}
use Rattle.std.specs.Ordering.{nat_cmp}
use Rattle.std.specs.Cmp.Lexicographic.{slice_cmp}
use Rattle.std.specs.List.{AllByRecursion, cons_option}
use Rattle.std.specs.List.Sorted.{IsStrictlySortedBy}
use Rattle.std.specs.Map.{keys_of}
use Rattle.rl_ids.specs.declared.serials.ChannelSerial.{ChannelSerial}
use Rattle.rl_clientmodel.specs.Channels.{ClientChannel}
use Rattle.rl_clientmodel.specs.Keys.{serial_held}
use Rattle.rl_clientchannels.specs.Changes.{AreChannels, AreNames}

abbrev One : Type 0
One = List ℕ × ChannelSerial

abbrev AllAbove : List ℕ → List (List ℕ) → Type 0
AllAbove name names = AllByRecursion (λ other. slice_cmp nat_cmp name other ≡ Less) names

abbrev with_held : List ℕ → Option ChannelSerial → List One → List One
with_held one held serials = cons_option (option_map (λ serial. (one, serial)) held) serials

above_one : (name one : List ℕ) (held : Option ChannelSerial) (serials : List One) → slice_cmp nat_cmp name one ≡ Less → AllAbove name (keys_of serials) → AllAbove name (keys_of (with_held one held serials))
above_one name one None serials less all = all
above_one name one (Some serial) serials less all = (less, all)

above_held : (name : List ℕ) (channels : List (List ℕ × ClientChannel)) → AllAbove name (keys_of channels) → AllAbove name (keys_of (filter_map serial_held channels))
above_held name [] all = tt
above_held name (e ∷ more) all = above_one name e.0 e.1.held (filter_map serial_held more) all.0 (above_held name more all.1)

one_rises : (one : List ℕ) (held : Option ChannelSerial) (serials : List One) → AllAbove one (keys_of serials) → AreNames serials → AreNames (with_held one held serials)
unfolding IsStrictlySortedBy
one_rises one None serials all rises = rises
one_rises one (Some serial) serials all rises = (all, rises)

held_names_rise : (channels : List (List ℕ × ClientChannel)) → AreChannels channels → AreNames (filter_map serial_held channels)
unfolding IsStrictlySortedBy
held_names_rise [] rises = tt
held_names_rise (e ∷ more) rises = one_rises e.0 e.1.held (filter_map serial_held more) (above_held e.0 more rises.0) (held_names_rise more rises.1)

append_none : (xs : List One) → xs ++ [] ≡ xs
append_none [] = refl
append_none (x ∷ xs) = ap (λ ys. x ∷ ys) (append_none xs)

-- none of the channels is left, so the serials are those of all
pub all_held_rise : (serials : List One) (left channels : List (List ℕ × ClientChannel)) → serials ++ filter_map serial_held left ≡ filter_map serial_held channels → left ≡ [] → AreChannels channels → AreNames serials
all_held_rise serials left channels all none rises =
    let is : filter_map serial_held channels ≡ serials = sym all ∙ ap (λ (xs : List (List ℕ × ClientChannel)). serials ++ filter_map serial_held xs) none ∙ append_none serials in
    subst AreNames is (held_names_rise channels rises)
