use Rattle.rl_object.proofs.parts.Parts.apply.Goals as goal

pub returns-then-is_tombstone-clause-back : goal.returns-then-is_tombstone-clause-back
returns-then-is_tombstone-clause-back c = c.in_ok-stood.ensures.back c.args.op.now
