use Rattle.std.proofs.Common.{length}
use Rattle.rl_base.proofs.numerals.+read_digits.Given as goal

abbrev pub decreases-read_digits : goal.decreases-read_digits
decreases-read_digits a = length a.bytes.now
