use Rattle.std.proofs.Common.{string_bytes, refl, sym, ap, subst, arith, rules}
use Rattle.serde_json.specs.View.{view, items_view, members_view}
use Rattle.serde_json.proofs.Views.{view-Array, view-Object}
use Rattle.rl_jsonread.specs.Places.{IsByteAt, IsValueAt}
use Rattle.rl_jsonread.proofs.Begins.{array_is, object_is}
use Rattle.rl_jsonread.proofs.Nested.{empty_array, next_item, last_item, empty_object, next_member, last_member}
use Rattle.rl_jsonread.proofs.values.+value.Goals as goal

pub array_at-returns : goal.array_at-returns
array_at-returns t c =
    let found = c.in_ok-items.items in
    let end = c.in_ok-items.end in
    let there : IsByteAt c.args.text.now c.args.from 91 = search rules in
    subst (λ x. IsValueAt c.args.depth c.args.text.now c.args.from x end) (sym (view-Array found))
    (array_is c.args.depth c.args.text.now c.args.from end (items_view found.items) there (omega arith) c.in_ok-items.ensures)

pub object_at-returns : goal.object_at-returns
object_at-returns t c =
    let found = c.in_ok-members.members in
    let end = c.in_ok-members.end in
    let there : IsByteAt c.args.text.now c.args.from 123 = search rules in
    subst (λ x. IsValueAt c.args.depth c.args.text.now c.args.from x end) (sym (view-Object found))
    (object_is c.args.depth c.args.text.now c.args.from end (members_view found.entries) there (omega arith) c.in_ok-members.ensures)

pub items_at-returns-then-is_at : goal.items_at-returns-then-is_at
items_at-returns-then-is_at t c = empty_array c.args.depth c.args.text.now c.args.from c.new-found.result.items c.new-found.ensures.items (c.if-is_at.ensures refl)

pub items_at-returns-then-is_at-2 : goal.items_at-returns-then-is_at-2
items_at-returns-then-is_at-2 t c =
    last_item c.args.depth c.args.text.now c.args.from c.loop-turn.found.items c.push_item.new.found.items c.loop-turn.at c.in_ok-item.end c.in_ok-item.item c.loop-turn.invariant c.in_ok-item.ensures
    c.in_ok-push_item.ensures (c.if-is_at-2.ensures refl)

pub items_at-loop-turn-preserved : goal.items_at-loop-turn-preserved
items_at-loop-turn-preserved t c =
    next_item c.args.depth c.args.text.now c.args.from c.loop-turn.found.items c.push_item.new.found.items c.loop-turn.at c.in_ok-item.end c.in_ok-item.item c.loop-turn.invariant c.in_ok-item.ensures
    c.in_ok-push_item.ensures (c.if-not-is_at.ensures refl)

pub members_at-returns-then-is_at : goal.members_at-returns-then-is_at
members_at-returns-then-is_at t c =
    empty_object c.args.depth c.args.text.now c.args.from (members_view c.new-found.result.entries) (ap members_view c.new-found.ensures.empty) (c.if-is_at.ensures refl)

pub members_at-returns-then-is_at-2 : goal.members_at-returns-then-is_at-2
members_at-returns-then-is_at-2 t c =
    last_member c.args.depth c.args.text.now c.args.from (members_view c.loop-turn.found.entries) (members_view c.insert_member.new.found.entries) c.loop-turn.at c.in_ok-key.start c.in_ok-member.end
    (string_bytes c.in_ok-key.key) (view c.in_ok-member.member) c.loop-turn.invariant c.in_ok-key.ensures c.in_ok-member.ensures c.in_ok-insert_member.ensures (c.if-is_at-2.ensures refl)

pub members_at-loop-turn-preserved : goal.members_at-loop-turn-preserved
members_at-loop-turn-preserved t c =
    next_member c.args.depth c.args.text.now c.args.from (members_view c.loop-turn.found.entries) (members_view c.insert_member.new.found.entries) c.loop-turn.at c.in_ok-key.start c.in_ok-member.end
    (string_bytes c.in_ok-key.key) (view c.in_ok-member.member) c.loop-turn.invariant c.in_ok-key.ensures c.in_ok-member.ensures c.in_ok-insert_member.ensures (c.if-not-is_at.ensures refl)
