use Rattle.std.proofs.Common.{rules, sym, ap, ◌∙◌, ◌≡◌, get_or, ℕ, ◌<◌}
use Rattle.std.specs.Prelude.{map}
use Rattle.std.specs.List.{filter}
use Rattle.rl_deadline.specs.Order.{is_due, in_order}
use Rattle.rl_deadline.specs.Ranked.{IsRanked}
use Rattle.rl_deadline.proofs.Putting.{is_ranked}
use Rattle.rl_deadline.proofs.Places.{due_so_far}
use Rattle.rl_deadline.proofs.deadlines.Deadlines.due.Goals as goal

pub returns-then-now-deadline : goal.returns-then-now-deadline
returns-then-now-deadline c =
    let items = c.as_slice-deadline-items.result.now in
    let is : items ≡ in_order c.self.inside.moments.entries = c.as_slice-deadline-items.ensures.value ∙ c.self.invariant in
    let ranked : IsRanked items = rw is (is_ranked c.self.inside.moments.entries) in
    let late : c.args.now < (get_or items c.loop-deadline.deadline-index (0, 0)).0 = rw (← c.now.view_is) c.if-now-deadline.true in
    let all = due_so_far c.args.now items c.loop-deadline.deadline-index (0, 0) ranked.ranked c.loop-deadline-test.true late in
    c.loop-deadline.invariant ∙ ap (λ ps. map (λ (p : ℕ × ℕ). p.1) ps) (sym all) ∙ ap (λ ps. map (λ (p : ℕ × ℕ). p.1) (filter (is_due c.args.now) ps)) is ∙ search rules
