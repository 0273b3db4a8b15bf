use Rattle.rl_events.specs.declared.channel.ChannelEvent.TheVariants.{Gone}
use Rattle.std.proofs.Common.{◌≡◌, ℕ, List, ◌∷◌, map, refl, ap, sym, subst, ◌∙◌}
use Rattle.std.specs.Prelude.{filter}
use Rattle.rl_types.specs.declared.presence.PresenceItem.{PresenceItem}
use Rattle.rl_model.specs.Members.{is_on}
use Rattle.rl_chanlog.specs.Keeps.{Keeps}
use Rattle.rl_channel.specs.State.{ChannelState}
use Rattle.rl_channel.specs.Leaving.{left_entry, with_left}
use Rattle.rl_channel.proofs.Goes.{goes}
use Rattle.rl_channel.proofs.Puts.{at_site, stays}
use Rattle.rl_channel.proofs.channel.Channel.gone.Goals as goal

pub returns-in_err-place-clause-err : goal.returns-in_err-place-clause-err
returns-in_err-place-clause-err c =
    stays c.from_residual-in_err-place.result c.args.self.now c.leave.new.self
    (λ parts keeps. c.in_err-place.ensures.err parts keeps)
    c.in_err-place.ensures.same_members
    c.leave.ensures.objects
    c.in_err-place.ensures.same_clock
    c.leave.ensures.setup

pub returns-clause-decided : goal.returns-clause-decided
returns-clause-decided c = λ past stands.
    let are : c.in_ok-clients.clients ≡ map (λ (item : PresenceItem). item.client) (filter (is_on c.in_ok-id.id) c.args.self.now.members) =
    c.in_ok-clients.ensures
    ∙ ap (λ (conn : List ℕ). map (λ (item : PresenceItem). item.client) (filter (is_on conn) c.self.inside.members)) c.as_str.ensures
    ∙ ap (λ (s : ChannelState). map (λ (item : PresenceItem). item.client) (filter (is_on c.in_ok-id.id) s.members)) c.self.view_is in
    let left = goes c.args.self.now.setup.site past c.args.conn c.args.now c.clock_at-stamp.result c.in_ok-id.id c.in_ok-clients.clients c.args.self.now _ c.self-2.inside.log c.in_ok-place.place stands
    c.in_ok-id.ensures
    are
    c.clock_at-stamp.ensures.value
    c.in_ok-place.ensures.place
    (λ parts keeps. subst (λ (s : ChannelState). Keeps s.log (with_left (left_entry c.args.self.now.log.head c.clock_at-stamp.result c.args.conn c.in_ok-id.id c.in_ok-clients.clients) parts)) (sym c.self-2.view_is) (c.in_ok-place.ensures.log parts keeps))
    (λ parts keeps. c.forget.ensures.forgot parts keeps)
    (λ latest is. ap (λ (s : ChannelState). s.members) c.self-2.view_is ∙ c.in_ok-place.ensures.members latest are is)
    (ap (λ (s : ChannelState). s.objects) c.self-2.view_is ∙ c.leave.ensures.objects)
    refl in
    (left.0, at_site c.args.self.now _ (Gone c.args.conn c.args.now ∷ past) (ap (λ (s : ChannelState). s.setup) c.self-2.view_is ∙ c.leave.ensures.setup) left.1)
