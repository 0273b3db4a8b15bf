-- Channels are put in order of name.
use Rattle.std.proofs.Common.{◌≡◌, ℕ, ◌+◌, zero, suc, List, [], ◌∷◌, map, take, ap, sym, subst, ◌∙◌, arith}
use Rattle.std.specs.Prelude.{Some, slice_get}
use Rattle.std.specs.declared.cmp.Ordering.{Ordering}
use Rattle.std.specs.declared.cmp.Ordering.TheVariants.{Less, Greater}
use Rattle.std.specs.Ordering.{nat_cmp, match_ordering, ordering_reverse}
use Rattle.std.specs.Cmp.Lexicographic.{slice_cmp, nat_list_cmp_total}
use Rattle.std.specs.List.{AllByRecursion}
use Rattle.std.specs.List.Sorted.{IsStrictlySortedBy}
use Rattle.std.specs.Map.{keys_of}
use Rattle.rl_ids.specs.declared.serials.ChannelSerial.{ChannelSerial}
use Rattle.rl_names.specs.Names.{with_entry}
use Rattle.rl_clientmodel.specs.Keys.{channel_of_serial}
use Rattle.rl_clientmodel.specs.Channels.{ClientChannel, channel_from}
use Rattle.rl_clientchannels.specs.Changes.{AreNames}

abbrev One : Type 0
One = List ℕ × ChannelSerial

all_at : (P : List ℕ → Type 0) (xs : List One) (k : ℕ) (x : One) → AllByRecursion P (keys_of xs) → slice_get xs k ≡ Some x → P x.0
all_at P [] k x all found = absurd cc
all_at P (y ∷ xs) zero x all found = let same : y ≡ x = cc in subst (λ (z : One). P z.0) same all.0
all_at P (y ∷ xs) (suc k) x all found = all_at P xs k x all.1 found

behind : (y x : List ℕ) → slice_cmp nat_cmp y x ≡ Less → slice_cmp nat_cmp x y ≡ Greater
behind y x less = nat_list_cmp_total.antisymm x y ∙ ap ordering_reverse less

put_by : (k : ℕ) (x : One) (xs : List One) → AreNames xs → slice_get xs k ≡ Some x → with_entry x.0 (channel_from x.1) (map channel_of_serial (take k xs)) ≡ map channel_of_serial (take (suc k) xs)
unfolding IsStrictlySortedBy
put_by k x [] rises found = absurd cc
put_by zero x (y ∷ xs) rises found = let same : y ≡ x = cc in ap (λ (z : One). channel_of_serial z ∷ []) (sym same)
put_by (suc k) x (y ∷ xs) rises found =
    let after : slice_cmp nat_cmp x.0 y.0 ≡ Greater = behind y.0 x.0 (all_at (λ q. slice_cmp nat_cmp y.0 q ≡ Less) xs k x rises.0 found) in
    let rest = map channel_of_serial (take k xs) in
    ap (λ (o : Ordering). match_ordering o ((x.0, channel_from x.1) ∷ channel_of_serial y ∷ rest) ((y.0, channel_from x.1) ∷ rest) (channel_of_serial y ∷ with_entry x.0 (channel_from x.1) rest)) after
    ∙ ap (λ (ps : List (List ℕ × ClientChannel)). channel_of_serial y ∷ ps) (put_by k x xs rises.1 found)

pub put_more : (k : ℕ) (x : One) (xs : List One) → AreNames xs → slice_get xs k ≡ Some x → with_entry x.0 (channel_from x.1) (map channel_of_serial (take k xs)) ≡ map channel_of_serial (take (k + 1) xs)
put_more k x xs rises found = let one : k + 1 ≡ suc k = omega arith in rw one (put_by k x xs rises found)
