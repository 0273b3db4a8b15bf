use Rattle.std.proofs.Common.{◌≡◌, ℕ, Bool, refl, ap, sym, ◌∙◌, subst, inl}
use Rattle.std.specs.Prelude.{Option, None}
use Rattle.std.proofs.KnownBytes.{Keeps-refl}
use Rattle.rl_world.specs.State.{WorldState}
use Rattle.rlscript.specs.Top.{asks_for_run, words_of, Outside, Ends}
use Rattle.rlscript.specs.Start.{args_ask_for_run, EndsProgram}
use Rattle.rlscript.proofs.Ends.{usage_ends}
use Rattle.rlscript.proofs.start.status_by.Goals as goal

-- the status alone of a call
status_ends : (o : Outside) (asked other : Bool) (status given : ℕ) (world : Option WorldState) → given ≡ status → other ≡ asked → Ends other o given world → EndsProgram asked o status
status_ends o asked other status given world same words ends =
    inl (world, subst (λ (s : ℕ). Ends asked o s world) same (subst (λ (b : Bool). Ends b o given world) words ends))

pub returns-in_default : goal.returns-in_default
returns-in_default g c =
    inl (None, usage_ends _ _ c.refuse_words.result None (ap args_ask_for_run c.in_default.is) (record { left = Keeps-refl _; faults = refl; ends = refl }) refl c.refuse_words.ensures)

pub returns-in-Ok-words_after_name : goal.returns-in-Ok-words_after_name
returns-in-Ok-words_after_name g c =
    let words = c.deref.ensures.value ∙ c.in-Ok-words_after_name.ensures in
    let asked = ap (λ all. asks_for_run (words_of all)) words ∙ sym (ap args_ask_for_run c.in-Ok.is) in
    status_ends _ (args_ask_for_run c.args.args) _ c.status_of.result _ c.script_top.result.world (sym c.status_of.ensures) asked c.script_top.ensures
