-- Document 02, 2026-12 and 2026-01: what is promised of the exported calls. Assumes nothing.
use Rattle.std.specs.Prelude.{List, [], ◌∷◌, ℕ}
use Rattle.frame.specs.Promises.{KeepsLent}
use Rattle.words.specs.declared.TriangleCode.{TriangleCode}
use Rattle.words.specs.declared.CornerName.{CornerName}
use Rattle.words.specs.Family.{CodeAnswer}
use Rattle.corners.specs.Answers.{NameAnswer}
use Rattle.exports.specs.Promises.{Hosted}
use Rattle.opposites.specs.Answers.{OppositeAnswer, OppositeNameAnswer}
use Rattle.host_opposites.specs.Refusals.{refuse_opposite, refuse_opposite_name}
use Rattle.host_opposites.specs.Answers.{OppositeBytes, OppositeNameBytes}

-- Demand 1, of the exported calls: exactly one answer for every input.
pub record OneAnswer : Type 0 where
  pub opposite : (t : TriangleCode) (out : List ℕ)
      → KeepsLent (refuse_opposite t out) (OppositeBytes t out) (λ r. r) (λ f. f) out
  pub opposite_name : (q : CornerName) (out : List ℕ)
      → KeepsLent (refuse_opposite_name q out) (OppositeNameBytes q out) (λ r. r) (λ f. f) out

-- Each is the call of the crate opposites: it refuses by the same number, and then a shorter slice by 9; what the host
-- reads in eight bytes is what that call answers, and all other bytes are as they were.
pub record AsTheOpposites : Type 0 where
  pub opposite : (t : TriangleCode) (a : CodeAnswer) (out : List ℕ) (r : ℕ) (new : List ℕ)
      → OppositeAnswer t a → OppositeBytes t out r new → Hosted a.refusal (a.code.0 ∷ []) 8 out r new
  pub opposite_name : (q : CornerName) (a : NameAnswer) (out : List ℕ) (r : ℕ) (new : List ℕ)
      → OppositeNameAnswer q a → OppositeNameBytes q out r new → Hosted a.refusal (a.name.0 ∷ []) 8 out r new
