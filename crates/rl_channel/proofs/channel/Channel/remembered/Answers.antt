use Rattle.std.proofs.Common.{ℕ, List, sym, ap, subst, ◌∙◌}
use Rattle.std.specs.Prelude.{Option, option_and_then}
use Rattle.rl_model.specs.Parts.{parts_of, remembered_in}
use Rattle.rl_model.specs.Verdict.{decisions, remembered}
use Rattle.rl_channel.specs.State.{ChannelState, StandsAt}
use Rattle.rl_channel.proofs.channel.Channel.remembered.Goals as goal

pub returns-in-Some : goal.returns-in-Some
returns-in-Some c = λ past stands.
    let site = c.args.self.now.setup.site in
    let old = subst (λ (s : ChannelState). StandsAt site s past) (sym c.self.view_is) stands in
    c.holds_id.ensures (parts_of site past) old.keeps
    ∙ ap (λ (id : List ℕ). remembered_in (parts_of site past) id) c.as_str.ensures
    ∙ ap (λ (given : Option (List ℕ)). option_and_then (λ (id : List ℕ). remembered id (decisions site past)) given) c.in-Some.ensures
