-- One entry for each remembered id.
use Rattle.std.specs.Prelude.{◌≡◌, ℕ, ◌+◌, ◌<◌, List, [], ◌∷◌, Some, ⊤}
use Rattle.std.specs.List.{AllByRecursion}
use Rattle.rl_numbers.specs.declared.limits.TheConstants.{MAX_REMEMBERED}
use Rattle.rl_events.specs.declared.channel.ChannelEvent.{ChannelEvent}
use Rattle.rl_model.specs.Verdict.{decisions, Added, added}

-- entries, the latest first, of which each stands farther behind any earlier one with its id than ids are remembered
abbrev pub AreApart : List Added → Type 0
AreApart [] = ⊤
AreApart (late ∷ earlier) =
    AllByRecursion (λ (early : Added). (id : List ℕ) → late.id ≡ Some id → early.id ≡ Some id → early.place + MAX_REMEMBERED < late.place) earlier
    × AreApart earlier

-- two entries whose Puts gave their first message one id stand farther apart than ids are remembered (RSL1k)
abbrev pub OnceById : List ℕ → List ChannelEvent → Type 0
OnceById site past = AreApart (added (decisions site past))
