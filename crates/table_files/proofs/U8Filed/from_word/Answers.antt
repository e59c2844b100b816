-- By what the number is (OneNumber). Assumes nothing.
use native.Mathlib.Omega.{arith}
use Rattle.table_files.proofs.OneNumber.{an_owner, no_owner}
use Rattle.table_files.proofs.U8Filed.from_word.Goals as goal

pub returns-in-0-to-2 : goal.returns-in-0-to-2
returns-in-0-to-2 c = an_owner c.args.w (omega arith)

pub returns-in_default : goal.returns-in_default
returns-in_default c = no_owner c.args.w (omega arith)
