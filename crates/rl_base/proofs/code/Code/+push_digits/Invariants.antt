use Rattle.rl_base.proofs.code.Code.+push_digits.Given as goal

abbrev pub decreases-push_digits : goal.decreases-push_digits
decreases-push_digits g a = a.width
