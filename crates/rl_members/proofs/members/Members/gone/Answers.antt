use Rattle.std.proofs.Common.{rules, ◌≡◌, ◌∙◌, ap}
use Rattle.std.specs.Prelude.{not, filter}
use Rattle.std.proofs.lemmas.Fn.{filter_same}
use Rattle.rl_types.specs.declared.presence.PresenceItem.{PresenceItem}
use Rattle.rl_model.specs.Members.{is_on}
use Rattle.rl_members.proofs.Calls.{kept_rising, gone_members}
use Rattle.rl_members.proofs.members.Members.gone.Goals as goal

pub invariant_of-self : goal.invariant_of-self
invariant_of-self c =
    let old = c.self.inside.held.items in
    let left : c.retain.new.self.items ≡ filter (λ item. not (is_on c.args.conn.now item)) old = filter_same _ (λ (item : PresenceItem). not (is_on c.args.conn.now item)) _ (λ x b f k. search rules) _ _ c.retain.ensures.filtered in
    kept_rising (λ item. not (is_on c.args.conn.now item)) old _ c.self.invariant left

pub returns-clause-left : goal.returns-clause-left
returns-clause-left c =
    let left : c.retain.new.self.items ≡ filter (λ item. not (is_on c.args.conn.now item)) c.self.inside.held.items = filter_same _ (λ (item : PresenceItem). not (is_on c.args.conn.now item)) _ (λ x b f k. search rules) _ _ c.retain.ensures.filtered in
    left ∙ ap (filter (λ (item : PresenceItem). not (is_on c.args.conn.now item))) c.self.view_is

pub returns-clause-members : goal.returns-clause-members
returns-clause-members c = λ latest leaves h keys is. gone_members c.args.conn.now c.args.self.now _ latest leaves (returns-clause-left c) h keys is
