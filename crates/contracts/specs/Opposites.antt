-- Document 02, 2026-12: what the two functions themselves say, as grid/specs/CallContracts.antt has it of document 01's.
-- Assumes nothing.
use Rattle.std.specs.Prelude.{Result}
use contract.Lifetimes.{Lfts}
use Rattle.frame.specs.declared.Refusal.{Refusal}
use Rattle.frame.specs.Promises.{Says}
use Rattle.words.specs.declared.TriangleCode.{TriangleCode}
use Rattle.words.specs.declared.CornerName.{CornerName}
use Rattle.words.specs.Family.{code_told}
use Rattle.corners.specs.Answers.{name_told}
use Rattle.opposites.specs.Answers.{OppositeAnswer, OppositeNameAnswer}
use Rattle.opposites.proofs.opposite.Reads as opposite_call
use Rattle.opposites.proofs.opposite_name.Reads as opposite_name_call

-- The calls in the order of `OneAnswer`, for any arguments and any result.
pub record Contracts : Type 0 where
  pub opposite : (κs : Lfts 0) (t : TriangleCode) (r : Result TriangleCode Refusal)
      → Says (opposite_call.Asked κs (t, tt)) (opposite_call.Learnt κs (t, tt) r (t, tt)) (OppositeAnswer t (code_told r))
  pub opposite_name : (κs : Lfts 0) (q : CornerName) (r : Result CornerName Refusal)
      → Says (opposite_name_call.Asked κs (q, tt)) (opposite_name_call.Learnt κs (q, tt) r (q, tt)) (OppositeNameAnswer q (name_told r))
