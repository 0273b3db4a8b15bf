-- What a log stands for after a step.
use Rattle.std.proofs.Common.{◌≡◌, ℕ, ◌+◌, ◌-◌, List, [], ◌∷◌, ◌++◌, length, sym, subst, ◌∙◌, arith, length-append}
use Rattle.std.specs.Prelude.{Option}
use Rattle.rl_types.specs.declared.messages.Entry.{Entry}
use Rattle.rl_model.specs.Verdict.{Added}
use Rattle.rl_model.specs.Window.{fits, fits_at}
use Rattle.rl_model.specs.Parts.{Parts, with_entry, aged}
use Rattle.rl_chanlog.specs.Window.{WindowView, KeepsWindow, narrowed}
use Rattle.rl_chanlog.specs.Ids.{IdsView, KeepsIds, CountDown}
use Rattle.rl_chanlog.specs.Outcomes.{OutcomesView, KeepsOutcomes}
use Rattle.rl_chanlog.specs.Keeps.{ChanLogView, Keeps}
use Rattle.rl_chanlog.proofs.Ends.{keeps_added, keeps_moved}

keeps_window : (view new : WindowView) (log : List Entry) (first : ℕ) → new.entries ≡ view.entries → new.head ≡ view.head → KeepsWindow view log first → KeepsWindow new log first
keeps_window view new log first entries head keeps =
    record { head = head ∙ keeps.head; from = keeps.from; within = keeps.within; entries = entries ∙ keeps.entries }

pub keeps_reserved : (view new : ChanLogView) (parts : Parts) → new.head ≡ view.head → new.window.entries ≡ view.window.entries → new.window.head ≡ view.window.head → ((added : List Added) → KeepsIds view.ids added → KeepsIds new.ids added) → new.outcomes ≡ view.outcomes → Keeps view parts → Keeps new parts
keeps_reserved view new parts head entries window_head ids outcomes keeps =
    record {
      head = head ∙ keeps.head;
      window = keeps_window view.window new.window parts.log parts.first entries window_head keeps.window;
      ids = ids parts.added keeps.ids;
      places = keeps.places;
      outcomes = subst (λ (o : OutcomesView). KeepsOutcomes o parts.kept) (sym outcomes) keeps.outcomes;
    }

pub keeps_entry : (view new : ChanLogView) (entry : Entry) (id : Option (List ℕ)) (parts : Parts) → entry.place ≡ view.head + 1 → new.head ≡ view.head + 1 → new.window.entries ≡ narrowed fits (view.window.entries ++ entry ∷ []) → new.window.head ≡ view.window.head + 1 → ((added : List Added) → KeepsIds view.ids added → KeepsIds new.ids (record { id = id; place = entry.place } ∷ added)) → new.outcomes ≡ view.outcomes → Keeps view parts → Keeps new (with_entry entry id parts)
keeps_entry view new entry id parts place head entries window_head ids outcomes keeps =
    let long = length-append parts.log (entry ∷ []) in
    let at = keeps.head in
    let before : length parts.log ≡ length (parts.log ++ entry ∷ []) - 1 = omega (arith, long) in
    record {
      head = omega (arith, head, at, long);
      window = keeps_added view.window new.window entry parts.log parts.first keeps.window window_head entries;
      ids = ids parts.added keeps.ids;
      places = (omega (arith, place, at, long), omega (arith, long), subst (λ (k : ℕ). CountDown k parts.added) before keeps.places);
      outcomes = subst (λ (o : OutcomesView). KeepsOutcomes o parts.kept) (sym outcomes) keeps.outcomes;
    }

pub keeps_aged : (view new : ChanLogView) (now : ℕ) (parts : Parts) → new.head ≡ view.head → new.window.entries ≡ narrowed (fits_at now) view.window.entries → new.window.head ≡ view.window.head → new.ids ≡ view.ids → new.outcomes ≡ view.outcomes → Keeps view parts → Keeps new (aged now parts)
keeps_aged view new now parts head entries window_head ids outcomes keeps =
    record {
      head = head ∙ keeps.head;
      window = keeps_moved view.window new.window (fits_at now) parts.log parts.first keeps.window window_head entries;
      ids = subst (λ (i : IdsView). KeepsIds i parts.added) (sym ids) keeps.ids;
      places = keeps.places;
      outcomes = subst (λ (o : OutcomesView). KeepsOutcomes o parts.kept) (sym outcomes) keeps.outcomes;
    }
