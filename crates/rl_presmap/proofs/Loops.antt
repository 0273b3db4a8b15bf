-- One turn of the loops over what is held, and over what is taken up.
use Rattle.std.proofs.Common.{◌≡◌, Bool, true, false, cond, List, [], ◌∷◌, ◌++◌, refl, ap, sym, ◌∙◌, append_assoc}
use Rattle.std.specs.Prelude.{Option, filter, option_to_list}
use Rattle.rl_types.specs.declared.presence.PresenceItem.{PresenceItem}
use Rattle.rl_presmap.specs.declared.held.Held.{Held}
use Rattle.rl_presmap.specs.declared.events.PresenceEvent.{PresenceEvent}
use Rattle.rl_presmap.specs.declared.events.PresenceEvent.TheVariants.{Left}
use Rattle.rl_presmap.specs.Held.{is_plain, is_residual, is_member}
use Rattle.rl_presmap.specs.Steps.{with_each, with_item, with_items, event_of, events_of, all_plain, end_events, leaves}

-- TAKING UP

pub each_more : (syncing : Bool) (rest more : List PresenceItem) (one : PresenceItem) (held new all : List Held) → rest ≡ one ∷ more → new ≡ with_item syncing one held → with_each syncing rest held ≡ all → with_each syncing more new ≡ all
each_more syncing rest more one held new all is step so_far =
    ap (with_each syncing more) step ∙ sym (ap (λ (xs : List PresenceItem). with_each syncing xs held) is) ∙ so_far

pub taken_more : (rest more : List PresenceItem) (one : PresenceItem) (held new all : List Held) → rest ≡ one ∷ more → new ≡ with_item true one held → with_items rest held ≡ all → with_items more new ≡ all
taken_more rest more one held new all is step so_far =
    ap (with_items more) step ∙ sym (ap (λ (xs : List PresenceItem). with_items xs held) is) ∙ so_far

pub told_more : (rest more : List PresenceItem) (one : PresenceItem) (held new : List Held) (event : Option PresenceEvent) (told next all : List PresenceEvent)
    → rest ≡ one ∷ more → new ≡ with_item true one held → event ≡ event_of one held → next ≡ told ++ option_to_list event → told ++ events_of rest held ≡ all → next ++ events_of more new ≡ all
told_more rest more one held new event told next all is step tells adds so_far =
    ap (λ (xs : List PresenceEvent). xs ++ events_of more new) adds
    ∙ append_assoc told (option_to_list event) (events_of more new)
    ∙ ap (λ (e : Option PresenceEvent). told ++ (option_to_list e ++ events_of more new)) tells
    ∙ ap (λ (xs : List Held). told ++ (option_to_list (event_of one held) ++ events_of more xs)) step
    ∙ sym (ap (λ (xs : List PresenceItem). told ++ events_of xs held) is)
    ∙ so_far

-- FILTERS

filter_first : (test : Held → Bool) (one : Held) (more : List Held) → filter test (one ∷ more) ≡ filter test (one ∷ []) ++ filter test more
filter_first test one more = by_test (test one)
  where
    by_test : (b : Bool) → cond b (one ∷ filter test more) (filter test more) ≡ cond b (one ∷ []) [] ++ filter test more
    by_test true = refl
    by_test false = refl

leaves_append : (xs ys : List Held) → leaves (xs ++ ys) ≡ leaves xs ++ leaves ys
leaves_append [] ys = refl
leaves_append (x ∷ xs) ys = ap (λ (es : List PresenceEvent). Left x.item ∷ es) (leaves_append xs ys)

more_of : {X : Type 0} (f : List Held → List X) (rest more : List Held) (one : Held) (done next all : List X) → ((one : Held) (more : List Held) → f (one ∷ more) ≡ f (one ∷ []) ++ f more)
    → rest ≡ one ∷ more → next ≡ done ++ f (one ∷ []) → done ++ f rest ≡ all → next ++ f more ≡ all
more_of f rest more one done next all first is step so_far =
    ap (λ xs. xs ++ f more) step ∙ append_assoc done (f (one ∷ [])) (f more) ∙ ap (λ xs. done ++ xs) (sym (first one more)) ∙ sym (ap (λ xs. done ++ f xs) is) ∙ so_far

pub kept_more : (rest more : List Held) (one : Held) (done next all : List Held) → rest ≡ one ∷ more → next ≡ done ++ all_plain (one ∷ []) → done ++ all_plain rest ≡ all → next ++ all_plain more ≡ all
kept_more rest more one done next all is step so_far = more_of all_plain rest more one done next all (filter_first (λ one. is_plain one.standing)) is step so_far

leaves_first : (test : Held → Bool) (one : Held) (more : List Held) → leaves (filter test (one ∷ more)) ≡ leaves (filter test (one ∷ [])) ++ leaves (filter test more)
leaves_first test one more = ap leaves (filter_first test one more) ∙ leaves_append (filter test (one ∷ [])) (filter test more)

pub ended_more : (rest more : List Held) (one : Held) (done next all : List PresenceEvent) → rest ≡ one ∷ more → next ≡ done ++ end_events (one ∷ []) → done ++ end_events rest ≡ all → next ++ end_events more ≡ all
ended_more rest more one done next all is step so_far = more_of end_events rest more one done next all (leaves_first (λ one. is_residual one.standing)) is step so_far

pub left_more : (rest more : List Held) (one : Held) (done next all : List PresenceEvent) → rest ≡ one ∷ more → next ≡ done ++ leaves (filter is_member (one ∷ [])) → done ++ leaves (filter is_member rest) ≡ all
    → next ++ leaves (filter is_member more) ≡ all
left_more rest more one done next all is step so_far = more_of (λ held. leaves (filter is_member held)) rest more one done next all (leaves_first is_member) is step so_far
