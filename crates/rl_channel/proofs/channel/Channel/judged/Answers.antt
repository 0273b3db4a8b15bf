use Rattle.std.proofs.Common.{ℕ, sym, ap, subst, ◌∙◌}
use Rattle.std.specs.Prelude.{Option}
use Rattle.rl_events.specs.declared.channel.Outcome.{Outcome}
use Rattle.rl_model.specs.Parts.{parts_of}
use Rattle.rl_model.specs.Verdict.{Adds, decisions, head, kept}
use Rattle.rl_channel.specs.State.{ChannelState, StandsAt}
use Rattle.rl_channel.specs.Steps.{early, settled}
use Rattle.rl_channel.proofs.channel.Channel.judged.Goals as goal

pub returns-clause-value : goal.returns-clause-value
returns-clause-value c = λ past stands.
    let site = c.args.self.now.setup.site in
    let old = subst (λ (s : ChannelState). StandsAt site s past) (sym c.self.view_is) stands in
    let at = c.judged_early.view_is ∙ c.head.ensures.value (parts_of site past) old.keeps in
    c.judged_early-2.ensures.value
    ∙ ap (λ (h : ℕ). settled h (early c.args.serial c.last_of-last.result c.remembered-found.result h c.args.body.now Adds)) at
    ∙ ap (λ (last : Option (ℕ × Outcome)). settled (head site past) (early c.args.serial last c.remembered-found.result (head site past) c.args.body.now Adds)) (c.last_of-last.ensures (parts_of site past) old.keeps)
    ∙ ap (λ (found : Option ℕ). settled (head site past) (early c.args.serial (kept c.args.conn (decisions site past)) found (head site past) c.args.body.now Adds)) (c.remembered-found.ensures past stands)
