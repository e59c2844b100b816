-- Document 01, 'Filing a direction': the least code that holds a direction, and all codes that do. Assumes nothing.
use Rattle.std.specs.Prelude.{◌≡◌, List, ℕ, suc, ◌≤◌, ◌<◌, length, get_or}
use Rattle.words.specs.Refusals.{IsCode}
use Rattle.words.specs.Family.{code_of}
use Rattle.words.specs.declared.TriangleCode.{TriangleCode}
use Rattle.filing.specs.Holding.{Holds}
use Rattle.filing.specs.declared.Direction.{Direction}

-- "The answer is the least code that holds it, codes of one degree being compared as 64-bit words."
pub record IsFiled (n : ℕ) (d : Direction) (r : TriangleCode) : Type 0 where
  pub code : IsCode n r
  pub holds : Holds r d
  pub least : (t : TriangleCode) → IsCode n t → Holds t d → r.0 ≤ t.0

-- "The list of all holders is in rising order"
pub record AreHolders (n : ℕ) (d : Direction) (ts : List ℕ) : Type 0 where
  pub rising : (m : ℕ) → suc m < length ts → get_or ts m 0 < get_or ts (suc m) 0
  pub codes : (m : ℕ) → m < length ts → IsCode n (code_of (get_or ts m 0))
  pub hold : (m : ℕ) → m < length ts → Holds (code_of (get_or ts m 0)) d
  pub complete : (t : TriangleCode) → IsCode n t → Holds t d → (m : ℕ) × (m < length ts) × (get_or ts m 0 ≡ t.0)
