-- The history of each name: in worlds with the same channels, and after one event of one channel.
use Rattle.std.proofs.Common.{◌≡◌, inl, inr, ℕ, zero, suc, Bool, true, false, List, [], ◌∷◌, refl, sym, ◌∙◌, ap, arith}
use Rattle.std.specs.Prelude.{Option, Some, None, option_map, bytes_eq, if◌then◌else◌, ◌==◌}
use Rattle.std.proofs.lemmas.Bool.{eq-eqb, eqb-true}
use Rattle.rl_events.specs.declared.channel.ChannelEvent.{ChannelEvent}
use Rattle.rl_directory.specs.Directory.{number_of}
use Rattle.rl_worldmodel.specs.World.{World, changed_at, names, history}
use Rattle.rl_worldmodel.specs.Calls.{event_onto}
use Rattle.rl_worldtold.specs.Truth.{Channels, names_of}
use Rattle.rl_worldtold.proofs.Shape.{map_changed, self_bytes}
use Rattle.rl_worldsessions.specs.Serving.{history_in}
use Rattle.rl_worldsessions.proofs.Found.{one_name}
use Rattle.rl_worldlanes.specs.Following.{past_at, past_named}
use Rattle.rl_worldlanes.specs.Serving.{TakesAtMostOne, AllTakeAtMostOne}

-- THE SAME CHANNELS

same_at : (o : Option ℕ) (world after : World) → after.channels ≡ world.channels → past_at o after ≡ past_at o world
same_at None world after same = refl
same_at (Some n) world after same = ap (history_in n) same

-- of worlds with the same channels the histories are the same
pub past_same : (name : List ℕ) (world after : World) → after.channels ≡ world.channels → past_named name after ≡ past_named name world
past_same name world after same =
    ap (λ (channels : Channels). past_at (number_of name (names_of channels)) after) same ∙ same_at (number_of name (names world)) world after same

-- so they take no event
pub none_takes : (world after : World) → after.channels ≡ world.channels → AllTakeAtMostOne world after
none_takes world after same name = inl (past_same name world after same)

-- BY NUMBER

-- a name that is not the first is found among the others
later : (b : Bool) (o : Option ℕ) (n : ℕ) → (if b then Some 0 else option_map (λ m. suc m) o) ≡ Some (suc n) → o ≡ Some n
later true o n is = let wrong : 0 ≡ suc n = cc in absurd (omega (arith, wrong))
later false None n is = absurd (cc)
later false (Some m) n is = let same : suc m ≡ suc n = cc in let one : m ≡ n = omega (arith, same) in ap (λ (k : ℕ). Some k) one

-- the channel of a number that the directory gave takes the event
pub takes_own : (name : List ℕ) (n : ℕ) (event : ChannelEvent) (channels : Channels) → number_of name (names_of channels) ≡ Some n
    → history_in n (changed_at n (event_onto event) channels) ≡ event ∷ history_in n channels
takes_own name n event [] is = absurd (cc)
takes_own name zero event (c ∷ channels) is = refl
takes_own name (suc n) event (c ∷ channels) is =
    takes_own name n event channels (later (bytes_eq name c.0) (number_of name (names_of channels)) n is)

-- one of another number stays
takes_other : (m n : ℕ) (event : ChannelEvent) (channels : Channels) → (m ≡ n → ⊥)
    → history_in m (changed_at n (event_onto event) channels) ≡ history_in m channels
takes_other m n event [] apart = refl
takes_other zero zero event (c ∷ channels) apart = absurd (apart refl)
takes_other (suc m) zero event (c ∷ channels) apart = refl
takes_other zero (suc n) event (c ∷ channels) apart = refl
takes_other (suc m) (suc n) event (c ∷ channels) apart = takes_other m n event channels (λ same. apart (ap (λ (k : ℕ). suc k) same))

-- BY NAME

module _ (world after : World) (n : ℕ) (event : ChannelEvent)
    (is : after.channels ≡ changed_at n (event_onto event) world.channels) where
  -- each name has the number that it had
  pub numbers_stay : (name : List ℕ) → number_of name (names after) ≡ number_of name (names world)
  numbers_stay name =
      ap (λ (channels : Channels). number_of name (names_of channels)) is
      ∙ ap (number_of name) (map_changed (λ (c : List ℕ × List ChannelEvent). c.0) n (event_onto event) (λ c. refl) world.channels)

  -- the channel of the name that has this number takes the event
  pub past_here : (name : List ℕ) → number_of name (names world) ≡ Some n → past_named name after ≡ event ∷ history n world
  past_here name number =
      ap (λ (o : Option ℕ). past_at o after) (numbers_stay name ∙ number)
      ∙ ap (history_in n) is
      ∙ takes_own name n event world.channels number

  pub past_own : (name : List ℕ) → number_of name (names world) ≡ Some n → past_named name after ≡ event ∷ past_named name world
  past_own name number = past_here name number ∙ sym (ap (λ (o : Option ℕ). event ∷ past_at o world) number)

  -- that of every other name stays
  pub past_other : (q name : List ℕ) → number_of name (names world) ≡ Some n → bytes_eq q name ≡ false
      → past_named q after ≡ past_named q world
  past_other q name number apart =
      ap (λ (o : Option ℕ). past_at o after) (numbers_stay q) ∙ by_number (number_of q (names world)) refl where
        differs : (m : ℕ) → number_of q (names world) ≡ Some m → m ≡ n → ⊥
        differs m found same =
            let one : q ≡ name = one_name q name n (names world) (found ∙ ap (λ (k : ℕ). Some k) same) number in
            let wrong : true ≡ false = sym (ap (λ (x : List ℕ). bytes_eq x name) one ∙ self_bytes name) ∙ apart in
            absurd (cc)

        by_number : (o : Option ℕ) → number_of q (names world) ≡ o → past_at o after ≡ past_at o world
        by_number None found = refl
        by_number (Some m) found = ap (history_in m) is ∙ takes_other m n event world.channels (differs m found)

  -- so each history takes at most this one event, whether a name has the number or not
  pub event_takes : AllTakeAtMostOne world after
  event_takes name = by_number (number_of name (names world)) refl where
    by_test : (m : ℕ) (b : Bool) → number_of name (names world) ≡ Some m → (m == n) ≡ b
        → TakesAtMostOne (past_named name world) (past_named name after)
    by_test m true found same = inr (event, past_own name (found ∙ ap (λ (k : ℕ). Some k) (eqb-true m n same)))
    by_test m false found apart =
        let stays : past_at (Some m) after ≡ past_at (Some m) world =
        ap (history_in m) is
        ∙ takes_other m n event world.channels (λ same. let wrong : true ≡ false = sym (eq-eqb m n same) ∙ apart in absurd (cc)) in
        inl (ap (λ (o : Option ℕ). past_at o after) (numbers_stay name ∙ found)
        ∙ stays
        ∙ sym (ap (λ (o : Option ℕ). past_at o world) found))

    by_number : (o : Option ℕ) → number_of name (names world) ≡ o → TakesAtMostOne (past_named name world) (past_named name after)
    by_number None found =
        inl (ap (λ (o : Option ℕ). past_at o after) (numbers_stay name ∙ found) ∙ sym (ap (λ (o : Option ℕ). past_at o world) found))
    by_number (Some m) found = by_test m (m == n) found refl
