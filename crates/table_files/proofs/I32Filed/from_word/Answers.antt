-- By what the number is (OneNumber). Assumes nothing.
use native.Mathlib.Omega.{arith}
use Rattle.table_files.proofs.OneNumber.{a_reading, no_reading, bad_reading}
use Rattle.table_files.proofs.I32Filed.from_word.Goals as goal

pub returns-in-0-to-100000 : goal.returns-in-0-to-100000
returns-in-0-to-100000 c = a_reading c.args.w (omega arith)

pub returns-in-18446744073709551615 : goal.returns-in-18446744073709551615
returns-in-18446744073709551615 c = no_reading c.args.w (omega arith) (omega arith)

pub returns-in_default : goal.returns-in_default
returns-in_default c = bad_reading c.args.w (omega arith) (omega arith)
