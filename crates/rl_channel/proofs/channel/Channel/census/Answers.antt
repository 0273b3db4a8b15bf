use Rattle.std.proofs.Common.{ℕ, List, length, sym, ap, subst, ◌∙◌}
use Rattle.rl_events.specs.declared.channel.ChannelReply.TheVariants as replies
use Rattle.rl_types.specs.declared.presence.PresenceItem.{PresenceItem}
use Rattle.rl_model.specs.Parts.{parts_of}
use Rattle.rl_objmodel.specs.Held.{Held}
use Rattle.rl_model.specs.Members.{members}
use Rattle.rl_model.specs.Verdict.{head, log}
use Rattle.rl_model.specs.Window.{first}
use Rattle.rl_channel.specs.State.{ChannelState, StandsAt}
use Rattle.rl_channel.proofs.channel.Channel.census.Goals as goal

pub returns-clause-value : goal.returns-clause-value
returns-clause-value c = λ past stands.
    let site = c.args.self.now.setup.site in
    let old = subst (λ (s : ChannelState). StandsAt site s past) (sym c.self.view_is) stands in
    ap (λ (f : ℕ). replies.Census f c.head.result c.count.result c.count-2.result) (c.first.ensures.value (parts_of site past) old.keeps)
    ∙ ap (λ (h : ℕ). replies.Census (first site past) h c.count.result c.count-2.result) (c.head.ensures.value (parts_of site past) old.keeps)
    ∙ ap (λ (n : ℕ). replies.Census (first site past) (head site past) n c.count-2.result) (c.count.ensures ∙ ap (λ (l : List PresenceItem). length l) old.members)
    ∙ ap (λ (n : ℕ). replies.Census (first site past) (head site past) (length (members (log site past))) n) (c.count-2.ensures.count ∙ ap (λ (l : List Held). length l) old.objects.same)
