use Rattle.std.proofs.Common.{refl, sym, ◌∙◌, ap, length, ◌++◌, drop, ◌≡◌}
use Rattle.std.specs.Prelude.{Some, slice_get}
use Rattle.std.proofs.lemmas.Option.{slice_get_read}
use Rattle.rl_model.specs.Client.{numbered}
use Rattle.rl_world.proofs.Places.{pending_step, pending_done}
use Rattle.rl_world.proofs.client.push_pending.Goals as goal

pub loop-serial-preserved : goal.loop-serial-preserved
loop-serial-preserved c =
    let at : slice_get c.args.published.now c.loop-serial.serial ≡ Some c.index-published-serial.result =
    slice_get_read c.args.published.now (length c.args.published.now) c.loop-serial.serial c.index-published-serial.result refl c.loop-serial-test.true c.index-published-serial.is in
    pending_step c.loop-serial.sent c.push.new.self (c.args.sent.now ++ drop c.args.answered (numbered 0 c.args.published.now)) c.args.published.now
    c.loop-serial.serial c.loop-serial.serial c.in_ok-body.body (at ∙ ap (λ b. Some b) (sym c.in_ok-body.ensures)) refl c.in_ok-push.ensures.ok c.loop-serial.invariant

pub returns : goal.returns
returns c = pending_done c.loop-serial.sent (c.args.sent.now ++ drop c.args.answered (numbered 0 c.args.published.now)) c.args.published.now c.loop-serial.serial c.loop-serial-test.false c.loop-serial.invariant
