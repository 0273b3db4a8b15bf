-- What the searches among sites leave.
use Rattle.std.proofs.Common.{◌≡◌, ℕ, Bool, true, false, cond, List, refl, ap, sym, ◌∙◌, get_or}
use Rattle.std.specs.Prelude.{insert, slice_set, Option, Some, None, Result, OnOk}
use Rattle.std.proofs.lemmas.Result.{on_ok_weaker}
use Rattle.rl_ids.specs.declared.serials.OpSerial.{OpSerial}
use Rattle.rl_ids.specs.Objects.{is_below}
use Rattle.rl_objmodel.specs.Objects.{greater_serial}
use Rattle.rl_objmodel.specs.Places.{at_text, with_at, IsRising, IsHeldAt, IsMissedAt}
use Rattle.rl_objmodel.specs.Steps.{passes, is_above, with_told_site}
use Rattle.rl_objmodel.proofs.PlacesHeld.{held_there, same_with}
use Rattle.rl_objmodel.proofs.PlacesFound.{held, missing, set_with, insert_with}

abbrev Sites : Type 0
Sites = List (List ℕ × OpSerial)

pub newer_held : (serial : OpSerial) (sites : Sites) (at : ℕ) (d : List ℕ × OpSerial) (b : Bool) → b ≡ is_below (get_or sites at d).1 serial → (IsRising sites → IsHeldAt serial.site sites at) → IsRising sites → b ≡ passes serial sites
newer_held serial sites at d b below place rising =
    below ∙ ap (λ (o : Option OpSerial). is_above o serial) (sym (held_there serial.site sites at d (place rising)))

pub newer_missed : (serial : OpSerial) (sites : Sites) (at : ℕ) → (IsRising sites → IsMissedAt serial.site sites at) → IsRising sites → true ≡ passes serial sites
newer_missed serial sites at place rising =
    ap (λ (o : Option OpSerial). is_above o serial) (sym (missing serial.site sites sites at refl place rising))

-- a site as it was told

told_by : (one : List ℕ × OpSerial) (sites : Sites) (there : Option OpSerial) (new : OpSerial) → at_text one.0 sites ≡ there → greater_serial there one.1 ≡ new → with_told_site one sites ≡ with_at one.0 new sites
told_by one sites there new is greater =
    ap (λ (o : Option OpSerial). with_at one.0 (greater_serial o one.1) sites) is ∙ ap (λ (s : OpSerial). with_at one.0 s sites) greater

greater_at : (old new : OpSerial) (b : Bool) → b ≡ is_below old new → greater_serial (Some old) new ≡ cond b new old
greater_at old new b e = ap (λ (c : Bool). cond c new old) (sym e)

there_is : (one : List ℕ × OpSerial) (sites seen again : Sites) (at : ℕ) (d : List ℕ × OpSerial) → seen ≡ sites → again ≡ sites → (IsRising seen → IsHeldAt one.0 seen at) → IsRising sites → at_text one.0 sites ≡ Some (get_or again at d).1
there_is one sites seen again at d same same2 place rising =
    held_there one.0 sites at d (held one.0 sites seen at same place rising) ∙ ap (λ (xs : Sites). Some (get_or xs at d).1) (sym same2)

pub told_set : (one : List ℕ × OpSerial) (sites seen again : Sites) (at : ℕ) (d : List ℕ × OpSerial) (b : Bool) → seen ≡ sites → again ≡ sites → (IsRising seen → IsHeldAt one.0 seen at) → b ≡ is_below (get_or again at d).1 one.1 → b ≡ true → IsRising sites → slice_set sites at one ≡ with_told_site one sites
told_set one sites seen again at d b same same2 place below smaller rising =
    set_with one.0 one.1 sites seen at same place rising
    ∙ sym (told_by one sites (Some (get_or again at d).1) one.1 (there_is one sites seen again at d same same2 place rising) (greater_at (get_or again at d).1 one.1 b below ∙ ap (λ (c : Bool). cond c one.1 (get_or again at d).1) smaller))

pub told_kept : (one : List ℕ × OpSerial) (sites seen again : Sites) (at : ℕ) (d : List ℕ × OpSerial) (b : Bool) → seen ≡ sites → again ≡ sites → (IsRising seen → IsHeldAt one.0 seen at) → b ≡ is_below (get_or again at d).1 one.1 → b ≡ false → IsRising sites → sites ≡ with_told_site one sites
told_kept one sites seen again at d b same same2 place below greater rising =
    sym (same_with one.0 (get_or again at d).1 sites rising (there_is one sites seen again at d same same2 place rising))
    ∙ sym (told_by one sites (Some (get_or again at d).1) (get_or again at d).1 (there_is one sites seen again at d same same2 place rising) (greater_at (get_or again at d).1 one.1 b below ∙ ap (λ (c : Bool). cond c one.1 (get_or again at d).1) greater))

pub told_insert : {U E : Type 0} (r : Result U E) (one : List ℕ × OpSerial) (sites seen new : Sites) (at : ℕ) → seen ≡ sites → (IsRising seen → IsMissedAt one.0 seen at) → IsRising sites → OnOk r (new ≡ insert sites at one) → OnOk r (new ≡ with_told_site one sites)
told_insert r one sites seen new at same place rising ok =
    on_ok_weaker r (λ is. is ∙ insert_with one.0 one.1 sites seen at same place rising ∙ sym (told_by one sites None one.1 (missing one.0 sites seen at same place rising) refl)) ok
