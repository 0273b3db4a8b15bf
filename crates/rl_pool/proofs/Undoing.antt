-- A journal that leads back.
use Rattle.std.proofs.Common.{◌≡◌, ℕ, zero, suc, ◌<◌, List, [], ◌∷◌, ◌++◌, length, refl, ap, sym, subst, ◌∙◌, arith, get_or}
use Rattle.std.specs.Prelude.{Option, Some, None}
use Rattle.rl_ids.specs.declared.serials.OpSerial.{OpSerial}
use Rattle.rl_types.specs.declared.objects.Op.{Op}
use Rattle.rl_types.specs.declared.objects.ObjectOp.{ObjectOp}
use Rattle.rl_objmodel.specs.Held.{Held}
use Rattle.rl_pool.specs.declared.changes.Change.{Change}
use Rattle.rl_pool.specs.declared.journal.Step.{Step}
use Rattle.rl_pool.specs.Changes.{IsBackBy, IsUndoable, put_back_by}
use Rattle.rl_pool.specs.Journal.{all_undone, op_in, recorded, undone, CanUndo, CanUndoAll, LeadsBack}

pub op_any : (ops : List ObjectOp) (at : ℕ) (d e : ObjectOp) → at < length ops → get_or ops at d ≡ get_or ops at e
op_any [] at d e h = absurd (omega arith)
op_any (x ∷ ops) zero d e h = refl
op_any (x ∷ ops) (suc at) d e h = op_any ops at d e (omega arith)

-- THE LAST STEP

module _ (ops : List ObjectOp) (step : Step) (pool : List Held) where
  undone_last : (steps : List Step) → all_undone ops (steps ++ step ∷ []) pool ≡ all_undone ops steps (undone ops step pool)
  undone_last [] = refl
  undone_last (one ∷ steps) = ap (undone ops one) (undone_last steps)

  can_more : (steps : List Step) → CanUndo ops step pool → CanUndoAll ops steps (undone ops step pool) → CanUndoAll ops (steps ++ step ∷ []) pool
  can_more [] h all = (h, tt)
  can_more (one ∷ steps) h all = (subst (CanUndo ops one) (sym (undone_last steps)) all.0, can_more steps h all.1)

  can_last : (steps : List Step) → CanUndoAll ops (steps ++ step ∷ []) pool → CanUndo ops step pool
  can_last [] all = all.0
  can_last (one ∷ steps) all = can_last steps all.1

  can_rest : (steps : List Step) → CanUndoAll ops (steps ++ step ∷ []) pool → CanUndoAll ops steps (undone ops step pool)
  can_rest [] all = tt
  can_rest (one ∷ steps) all = (subst (CanUndo ops one) (undone_last steps) all.0, can_rest steps all.1)

  -- where all steps are those before it and it

  pub last_can : (all steps : List Step) → all ≡ steps ++ step ∷ [] → CanUndoAll ops all pool → CanUndo ops step pool
  last_can all steps is h = can_last steps (subst (λ (xs : List Step). CanUndoAll ops xs pool) is h)

  pub rest_can : (all steps : List Step) (new : List Held) → all ≡ steps ++ step ∷ [] → new ≡ undone ops step pool → CanUndoAll ops all pool → CanUndoAll ops steps new
  rest_can all steps new is step_is h = subst (CanUndoAll ops steps) (sym step_is) (can_rest steps (subst (λ (xs : List Step). CanUndoAll ops xs pool) is h))

  pub rest_back : (all steps : List Step) (new before : List Held) → all ≡ steps ++ step ∷ [] → new ≡ undone ops step pool → all_undone ops all pool ≡ before → all_undone ops steps new ≡ before
  rest_back all steps new before is step_is h =
      ap (all_undone ops steps) step_is ∙ sym (undone_last steps) ∙ ap (λ (xs : List Step). all_undone ops xs pool) (sym is) ∙ h

-- ONE MORE

module _ (ops : List ObjectOp) (at : ℕ) (serial : OpSerial) (op : Op) (within : at < length ops) (same : op ≡ (op_in ops at).op) where
  abbrev step_of : Change → Step
  step_of change = record { op = at; serial = serial; change = change }

  more_can : (change : Change) (new : List Held) → IsUndoable serial op change new → CanUndo ops (step_of change) new
  more_can change new h = record { op = within; can = subst (λ (o : Op). IsUndoable serial o change new) same h }

  more_back : (change : Change) (new old : List Held) → put_back_by change.stood serial op change.at new ≡ old → undone ops (step_of change) new ≡ old
  more_back change new old h = ap (λ (o : Op). put_back_by change.stood serial o change.at new) (sym same) ∙ h

  leads_by : (change : Option Change) (steps : List Step) (new old before : List Held) → IsBackBy serial op change new old → LeadsBack ops steps old before → LeadsBack ops (recorded at serial change steps) new before
  leads_by None steps new old before back leads = subst (λ (xs : List Held). LeadsBack ops steps xs before) (sym back.back) leads
  leads_by (Some change) steps new old before back leads =
      let there : undone ops (step_of change) new ≡ old = more_back change new old back.back in
      record {
        can = can_more ops (step_of change) new steps (more_can change new back.can) (subst (CanUndoAll ops steps) (sym there) leads.can);
        back = undone_last ops (step_of change) new steps ∙ ap (all_undone ops steps) there ∙ leads.back;
      }

  pub leads_on : (change : Option Change) (steps kept made : List Step) (new old before : List Held) → kept ≡ steps → made ≡ recorded at serial change kept → IsBackBy serial op change new old → LeadsBack ops steps old before → LeadsBack ops made new before
  leads_on change steps kept made new old before kept_is made_is back leads =
      subst (λ (xs : List Step). LeadsBack ops xs new before) (sym (made_is ∙ ap (recorded at serial change) kept_is)) (leads_by change steps new old before back leads)

pub leads_same : (ops : List ObjectOp) (steps kept : List Step) (pool before : List Held) → kept ≡ steps → LeadsBack ops steps pool before → LeadsBack ops kept pool before
leads_same ops steps kept pool before is leads = subst (λ (xs : List Step). LeadsBack ops xs pool before) (sym is) leads

pub leads_none : (ops : List ObjectOp) (steps : List Step) (pool : List Held) → steps ≡ [] → LeadsBack ops steps pool pool
leads_none ops steps pool is = subst (λ (xs : List Step). LeadsBack ops xs pool pool) (sym is) (record { can = tt; back = refl })
