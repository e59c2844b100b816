-- Document 02, 2026-06, 'Tell me how the corners turned': what is promised of crossing, beside demand 3. Assumes
-- nothing.
use Rattle.std.specs.Prelude.{◌≡◌, ◌⊎◌, ◌↔◌, ℕ, ◌<◌}
use Rattle.words.specs.Family.{code_of}
use Rattle.words.specs.declared.TriangleCode.{TriangleCode}
use Rattle.net.specs.Sides.{OneToThree}
use Rattle.net.specs.Corners.{corner}
use Rattle.corners.specs.Refusals.{refuse_numbered}
use Rattle.corners.specs.Turns.{lower, higher}
use Rattle.corners.specs.Answers.{CrossAnswer, step_answer}
use Rattle.corners.specs.Answers.{StepAnswer}

-- An answer r to crossing edge k pairs corner i with corner j of the neighbour.
abbrev pub Pairs : (k : ℕ) → StepAnswer → (i j : ℕ) → Type 0
Pairs k r i j = ((i ≡ lower k) × (j ≡ r.first)) ⊎ ((i ≡ higher k) × (j ≡ r.second))

pub record Turns : Type 0 where
  -- "the shared edge's two corners in rising number": the two that do not lie opposite
  pub rising : (k : ℕ) → OneToThree k
      → (lower k < higher k)
      × ((i : ℕ) → OneToThree i → (i ≡ k → ⊥) ↔ ((i ≡ lower k) ⊎ (i ≡ higher k)))
  -- "their numbers in the neighbour": two corners are paired exactly where all twelve weights agree
  pub pairs : (t : TriangleCode) (k : ℕ) (r : StepAnswer) → CrossAnswer t k r → r.refusal ≡ 0
      → (i j : ℕ) → Pairs k r i j ↔ (OneToThree i × OneToThree j × (corner t i ≡ corner r.code j))
  -- "The refusals are as before, with zeros in the new fields."
  pub refused : (t : TriangleCode) (k : ℕ) (r : StepAnswer) → CrossAnswer t k r
      → (refuse_numbered t k ≡ 0 → ⊥) → r ≡ step_answer (refuse_numbered t k) (code_of 0) 0 0 0
  -- crossing back gives the same pairs turned round
  pub back : (t : TriangleCode) (k : ℕ) (r s : StepAnswer) → CrossAnswer t k r → r.refusal ≡ 0
      → CrossAnswer r.code r.edge s → (i j : ℕ) → Pairs k r i j ↔ Pairs r.edge s j i
  -- and the third number is the edge reported
  pub third : (t : TriangleCode) (k : ℕ) (r : StepAnswer) → CrossAnswer t k r → r.refusal ≡ 0
      → (m : ℕ) → OneToThree m → ((m ≡ r.first → ⊥) × (m ≡ r.second → ⊥)) ↔ (m ≡ r.edge)
