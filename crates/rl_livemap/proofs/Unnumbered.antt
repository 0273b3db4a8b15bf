-- Cells without their serials.
use Rattle.std.proofs.Common.{◌≡◌, ℕ, suc, List, [], ◌∷◌, length, refl, ap, sym, subst, ◌∙◌, arith}
use Rattle.std.specs.Prelude.{map}
use Rattle.std.specs.List.{AllByRecursion}
use Rattle.std.specs.declared.cmp.Ordering.TheVariants.{Less}
use Rattle.std.specs.Ordering.{nat_cmp}
use Rattle.std.specs.Cmp.Lexicographic.{slice_cmp}
use Rattle.rl_types.specs.declared.objects.MapCell.{MapCell}
use Rattle.rl_objmodel.specs.Held.{Cells, Write}
use Rattle.rl_objmodel.specs.Places.{AreRising, IsRising}
use Rattle.std.specs.Prelude.{Bool}
use Rattle.rl_objmodel.specs.Steps.{told_write, MapHeld}
use Rattle.rl_objmodel.proofs.PlacesHeld.{AllLater}
use Rattle.rl_livemap.specs.Stamps.{stamped, map_weight, unnumbered, unnumbered_cell, unnumbered_shown, IsKept, IsMap}
use Rattle.rl_livemap.proofs.Weighed.{weight_unnumbered}

cons_one : (one : List ℕ × Write) (xs ys : Cells) → xs ≡ ys → one ∷ xs ≡ one ∷ ys
cons_one one xs ys h = cc

pub unnumbered_is : (cells : List (List ℕ × MapCell)) (stamps : List ℕ) → stamped (map unnumbered_shown cells) stamps ≡ unnumbered (stamped cells stamps)
unnumbered_is [] stamps = refl
unnumbered_is (cell ∷ cells) [] = refl
unnumbered_is (cell ∷ cells) (stamp ∷ stamps) = cons_one _ _ _ (unnumbered_is cells stamps)

later : (text : List ℕ) (cells : Cells) → AllLater text cells → AllLater text (unnumbered cells)
later text [] all = tt
later text (one ∷ cells) all = (all.0, later text cells all.1)

rising : (cells : Cells) → AreRising cells → AreRising (unnumbered cells)
rising [] all = tt
rising (one ∷ cells) all = (later one.0 cells all.0, rising cells all.1)

length_shown : (cells : List (List ℕ × MapCell)) → length (map unnumbered_shown cells) ≡ length cells
length_shown [] = refl
length_shown (cell ∷ cells) = ap suc (length_shown cells)

kept : (cells made : List (List ℕ × MapCell)) (stamps again : List ℕ) → IsKept cells stamps → made ≡ map unnumbered_shown cells → again ≡ stamps → IsKept made again
kept cells made stamps again h is same = record {
  rising =
      let all : IsRising (unnumbered (stamped cells stamps)) = record { rising = rising (stamped cells stamps) h.rising.rising } in
      subst IsRising (sym (ap (λ (xs : List (List ℕ × MapCell)). stamped xs again) is ∙ ap (stamped (map unnumbered_shown cells)) same ∙ unnumbered_is cells stamps)) all;
  even = ap length same ∙ h.even ∙ sym (ap length is ∙ length_shown cells);
}

pub copied : (cells made : List (List ℕ × MapCell)) (stamps again : List ℕ) → made ≡ map unnumbered_shown cells → again ≡ stamps → stamped made again ≡ unnumbered (stamped cells stamps)
copied cells made stamps again is same = ap (λ (xs : List (List ℕ × MapCell)). stamped xs again) is ∙ ap (stamped (map unnumbered_shown cells)) same ∙ unnumbered_is cells stamps

pub map_copied : (weight : ℕ) (cells made : List (List ℕ × MapCell)) (stamps again : List ℕ) → IsMap cells stamps weight → made ≡ map unnumbered_shown cells → again ≡ stamps → IsMap made again weight
map_copied weight cells made stamps again whole is same = record {
  kept = kept cells made stamps again whole.kept is same;
  weighs = whole.weighs ∙ sym (weight_unnumbered (stamped cells stamps)) ∙ sym (ap map_weight (copied cells made stamps again is same));
}

abbrev pub made : Bool → Cells → MapHeld
made created cells = record { created = created; cells = cells }
