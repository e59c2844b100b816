-- Document 02, 2026-12: the complete answer of the two calls, for every input: what the contracts cite. A code, or a
-- name, is refused just as checking refuses it. Assumes nothing.
use Rattle.std.specs.Prelude.{◌≡◌}
use Rattle.frame.specs.Answers.{Answer}
use Rattle.words.specs.Words.{degree_of}
use Rattle.words.specs.Refusals.{check_code}
use Rattle.words.specs.Family.{no_code}
use Rattle.words.specs.declared.TriangleCode.{TriangleCode}
use Rattle.words.specs.declared.CornerName.{CornerName}
use Rattle.words.specs.Family.{CodeAnswer}
use Rattle.net.specs.Refusals.{check_name}
use Rattle.corners.specs.Answers.{no_name}
use Rattle.corners.specs.Answers.{NameAnswer}
use Rattle.opposites.specs.Opposites.{IsOpposite, IsOppositeName}

pub record Opposing (t : TriangleCode) (r : CodeAnswer) : Type 0 where
  pub number : r.refusal ≡ 0
  pub is : IsOpposite (degree_of t.0) t r.code

abbrev pub OppositeAnswer : TriangleCode → CodeAnswer → Type 0
OppositeAnswer t r = Answer (check_code t) (Opposing t) no_code r

pub record OpposingName (q : CornerName) (r : NameAnswer) : Type 0 where
  pub number : r.refusal ≡ 0
  pub is : IsOppositeName (degree_of q.0) q r.name

abbrev pub OppositeNameAnswer : CornerName → NameAnswer → Type 0
OppositeNameAnswer q r = Answer (check_name q) (OpposingName q) no_name r
