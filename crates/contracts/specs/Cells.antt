-- Document 02, 2026-09: what the function that checks a cell list itself says, as grid/specs/CallContracts.antt has it of
-- document 01's. Assumes nothing.
use Rattle.std.specs.Prelude.{◌≡◌, Result}
use contract.Lifetimes.{Lfts}
use Rattle.frame.specs.Promises.{Says}
use Rattle.grid.specs.CallContracts.{Slice}
use Rattle.cells.specs.Checking.{checked, verdict_told}
use Rattle.cells.specs.declared.Offence.{Offence}
use Rattle.cells.proofs.check.Reads as check_call

-- For any list, left with any contents, and any result.
pub record Contracts : Type 0 where
  pub check : (κs : Lfts 1) (words new : Slice) (r : Result (Unit {0}) Offence)
      → Says (check_call.Asked κs (words, tt)) (check_call.Learnt κs (words, tt) r (new, tt)) (verdict_told r ≡ checked words.now)
