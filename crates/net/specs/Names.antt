-- Document 01, 'The 64-bit words': canonical corner names. Assumes nothing.
use Rattle.std.specs.Prelude.{◌≡◌, ℕ, ◌≤◌}
use Rattle.words.specs.Words.{corner_number}
use Rattle.words.specs.Refusals.{IsCode}
use Rattle.words.specs.declared.TriangleCode.{TriangleCode}
use Rattle.words.specs.declared.CornerName.{CornerName}
use Rattle.net.specs.Sides.{OneToThree}
use Rattle.net.specs.Division.{Weights}
use Rattle.net.specs.Corners.{HasCorner, code_inside, named}

-- "A corner name has corner number 1 to 3, and is canonical: the least triangle code of that degree that has the corner, with the number the
-- corner has in it." r is the name of the corner p of degree n.
pub record IsName (n : ℕ) (p : Weights) (r : CornerName) : Type 0 where
  pub code : IsCode n (code_inside r)
  pub number : OneToThree (corner_number r.0)
  pub there : named r ≡ p
  pub least : (t : TriangleCode) → IsCode n t → HasCorner t p → (code_inside r).0 ≤ t.0
