-- Document 02, 2026-10: what the function that mends a cell list itself says, as grid/specs/CallContracts.antt has it of
-- document 01's. Assumes nothing.
use Rattle.std.specs.Prelude.{Result}
use contract.Lifetimes.{Lfts}
use Rattle.frame.specs.Promises.{Says}
use Rattle.grid.specs.CallContracts.{Slice, Room}
use Rattle.frame.specs.declared.Refusal.{Refusal}
use Rattle.mending.specs.declared.Written.{Written}
use Rattle.mending.specs.Answers.{lists, mend_told, MendResult}
use Rattle.mender.proofs.mend.Reads as mend_call

-- For any four lists, left with any contents, and any result.
pub record Contracts : Type 0 where
  pub mend : (κs : Lfts 4) (input input' : Slice) (out words reasons out' words' reasons' : Room)
      (r : Result Written Refusal)
      → Says (mend_call.Asked κs (input, (out, (words, (reasons, tt)))))
      (mend_call.Learnt κs (input, (out, (words, (reasons, tt)))) r (input', (out', (words', (reasons', tt)))))
      (MendResult input.now (lists out.now words.now reasons.now) (mend_told r)
      (lists out'.now words'.now reasons'.now))
