-- By recursion on the bytes that are left. Assumes nothing.
use lib.ListN.{length}
use Rattle.lines.proofs.text.+lay_digits.Given as goal

abbrev pub decreases-lay_digits : goal.decreases-lay_digits
decreases-lay_digits l = length l.out.now
