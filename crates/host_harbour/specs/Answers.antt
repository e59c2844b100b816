-- Document 02, 2026-11 and 2026-01: the complete answer of each exported call on the small form, for every input: what
-- the contracts cite. `out` is the lent bytes as they come, `new` as they are left. (Check has no bytes: its contract
-- is an equation, at the function.) Assumes nothing.
use Rattle.std.specs.Prelude.{◌≡◌, List, [], ◌∷◌, ◌++◌, ℕ}
use Rattle.octets.specs.Bytes.{bytes_of, bytes}
use Rattle.words.specs.declared.TriangleCode.{TriangleCode}
use Rattle.filing.specs.declared.Direction.{Direction}
use Rattle.exports.specs.Answers.{ExportedAs, Exported}
use Rattle.harbour.specs.Small.{large_of, small_of}
use Rattle.harbour.specs.Answers.{SmallCrossed, SmallFiled}
use Rattle.harbour.specs.declared.SmallCode.{SmallCode}
use Rattle.harbour.specs.Answers.{SmallAnswer}
use Rattle.harbour.specs.Answers.{SmallStepAnswer}
use Rattle.host_harbour.specs.Refusals.{refuse_large, refuse_small, refuse_cross, refuse_file}

-- the reader writes the code, "eight for each number"
abbrev pub LargeBytes : SmallCode → List ℕ → ℕ → List ℕ → Type 0
LargeBytes s out r new = Exported (refuse_large s out) (λ ms. ms ≡ (large_of s).0 ∷ []) out r new

-- the writer writes the small code, "32-bit words": four bytes
abbrev pub SmallBytes : TriangleCode → List ℕ → ℕ → List ℕ → Type 0
SmallBytes t out r new = ExportedAs (bytes 4) (refuse_small t out) (λ ms. ms ≡ (small_of t).0 ∷ []) out r new

-- "cross writes code and edge number": the small code has four bytes, the number eight. (2026-06: "the exported call
-- drops" how the corners turned.)
abbrev pub four_and_eight : List ℕ → List ℕ
four_and_eight [] = []
four_and_eight (w ∷ ms) = bytes_of 4 w ++ bytes 8 ms

pub record SmallAndEdge (s : SmallCode) (k : ℕ) (numbers : List ℕ) : Type 0 where
  pub step : SmallStepAnswer
  pub are : numbers ≡ step.code.0 ∷ step.edge ∷ []
  pub crossed : SmallCrossed s k step

abbrev pub CrossSmallBytes : SmallCode → ℕ → List ℕ → ℕ → List ℕ → Type 0
CrossSmallBytes s k out r new = ExportedAs four_and_eight (refuse_cross s k out) (SmallAndEdge s k) out r new

-- "file the code"
pub record FiledSmall (n : ℕ) (d : Direction) (numbers : List ℕ) : Type 0 where
  pub answer : SmallAnswer
  pub are : numbers ≡ answer.code.0 ∷ []
  pub filed : SmallFiled n d answer

abbrev pub FileSmallBytes : ℕ → Direction → List ℕ → ℕ → List ℕ → Type 0
FileSmallBytes n d out r new = ExportedAs (bytes 4) (refuse_file n d out) (FiledSmall n d) out r new
