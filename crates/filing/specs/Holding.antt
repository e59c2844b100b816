-- Document 01, 'Filing a direction': when a closed triangle holds a direction. Assumes nothing.
use Rattle.golden.specs.Numbers.{whole, ◌+φ◌, negφ, ◌*φ◌}
use Rattle.golden.specs.Order.{NonNeg}
use Rattle.golden.specs.declared.Golden.{Golden}
use Rattle.words.specs.declared.TriangleCode.{TriangleCode}
use Rattle.net.specs.Division.{Triangle}
use Rattle.net.specs.Corners.{triangle_of}
use Rattle.filing.specs.Coordinates.{coordinates, exact}
use Rattle.filing.specs.declared.Coordinates.{Coordinates}
use Rattle.filing.specs.declared.Direction.{Direction}
use Rattle.filing.specs.declared.Determinants.{Determinants}

-- "A direction is three signed 32-bit numbers."
abbrev pub along : Direction → Coordinates
along d = coordinates (whole d.x) (whole d.y) (whole d.z)

infixl 6 ◌-φ◌
abbrev pub ◌-φ◌ : Golden → Golden → Golden
a -φ b = a +φ negφ b

-- a × b and a · b: the determinant of a, b, c is a · (b × c)
abbrev pub cross : Coordinates → Coordinates → Coordinates
cross b c = coordinates (b.y *φ c.z -φ b.z *φ c.y) (b.z *φ c.x -φ b.x *φ c.z) (b.x *φ c.y -φ b.y *φ c.x)

abbrev pub dot : Coordinates → Coordinates → Golden
dot a b = a.x *φ b.x +φ a.y *φ b.y +φ a.z *φ b.z

unfoldable pub determinant : (a b c : Coordinates) → Golden
determinant a b c = dot a (cross b c)

abbrev pub three : Golden → Golden → Golden → Determinants
three a b c = record { d1 = a; d2 = b; d3 = c }

-- "put the direction in place of corner 1, 2 or 3 among the triangle's three exact corner coordinates in order; the three determinants"
unfoldable pub replaced : (g a b c : Coordinates) → Determinants
replaced g a b c = three (determinant g b c) (determinant a g c) (determinant a b g)

unfoldable pub determinants : (g : Coordinates) → Triangle → Determinants
determinants g t = replaced g (exact t.a1) (exact t.a2) (exact t.a3)

-- "are all at least 0."
pub record AllNonNeg (D : Determinants) : Type 0 where
  pub n1 : NonNeg D.d1
  pub n2 : NonNeg D.d2
  pub n3 : NonNeg D.d3

-- "A closed triangle holds it"
abbrev pub dets : TriangleCode → Direction → Determinants
dets t d = determinants (along d) (triangle_of t)

abbrev pub Holds : TriangleCode → Direction → Type 0
Holds t d = AllNonNeg (dets t d)
