-- Document 02, 2026-12 and 2026-01: the complete answer of each exported call, for every input: what the contracts
-- cite. `out` is the lent bytes as they come, `new` as they are left. Assumes nothing.
use Rattle.std.specs.Prelude.{◌≡◌, List, [], ◌∷◌, ℕ}
use Rattle.words.specs.Words.{degree_of}
use Rattle.words.specs.Family.{code_of}
use Rattle.words.specs.declared.TriangleCode.{TriangleCode}
use Rattle.words.specs.declared.CornerName.{CornerName}
use Rattle.net.specs.Corners.{name_of}
use Rattle.exports.specs.Answers.{Exported}
use Rattle.opposites.specs.Opposites.{IsOpposite, IsOppositeName}
use Rattle.host_opposites.specs.Refusals.{refuse_opposite, refuse_opposite_name}

-- The numbers are one word, and this holds of it.
pub record OneWord (Is : ℕ → Type 0) (numbers : List ℕ) : Type 0 where
  pub word : ℕ
  pub are : numbers ≡ word ∷ []
  pub is : Is word

abbrev pub OppositeBytes : TriangleCode → List ℕ → ℕ → List ℕ → Type 0
OppositeBytes t out r new =
    Exported (refuse_opposite t out) (OneWord (λ w. IsOpposite (degree_of t.0) t (code_of w))) out r new

abbrev pub OppositeNameBytes : CornerName → List ℕ → ℕ → List ℕ → Type 0
OppositeNameBytes q out r new =
    Exported (refuse_opposite_name q out) (OneWord (λ w. IsOppositeName (degree_of q.0) q (name_of w))) out r new
