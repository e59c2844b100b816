-- The complete answer of each call for a corner's place, for every input: what the contracts cite. Assumes nothing.
use Rattle.std.specs.Prelude.{◌≡◌, ℕ, pos, Result}
use Rattle.frame.specs.declared.Refusal.{Refusal}
use Rattle.frame.specs.Refusals.{told}
use Rattle.frame.specs.Answers.{Answer}
use Rattle.words.specs.Words.{degree_of}
use Rattle.words.specs.declared.TriangleCode.{TriangleCode}
use Rattle.words.specs.declared.CornerName.{CornerName}
use Rattle.net.specs.Corners.{corner, named}
use Rattle.net.specs.Refusals.{check_name}
use Rattle.filing.specs.Coordinates.{origin, exact}
use Rattle.filing.specs.Fractions.{plus_zero}
use Rattle.filing.specs.Drawing.{AreTicks, IsPoint}
use Rattle.filing.specs.declared.Coordinates.{Coordinates}
use Rattle.filing.specs.declared.Ticks.{Ticks}
use Rattle.filing.specs.declared.Point.{Point}
use Rattle.corners.specs.Refusals.{refuse_numbered}
use Rattle.points.specs.Bits.{HasBits}

-- Exact coordinates, t on each axis, a drawn point; or a refusal's number with zeros.
pub record CoordinatesAnswer : Type 0 where
  pub refusal : ℕ
  pub at : Coordinates

pub record TicksAnswer : Type 0 where
  pub refusal : ℕ
  pub at : Ticks

pub record PointAnswer : Type 0 where
  pub refusal : ℕ
  pub at : Point

-- "Every refusal returns only its number and zeros"; "A zero, also in a refusal, is the positive zero."
abbrev pub no_coordinates : (refusal : ℕ) → CoordinatesAnswer
no_coordinates f = record { refusal = f; at = origin }

abbrev pub no_ticks : (refusal : ℕ) → TicksAnswer
no_ticks f = record { refusal = f; at = record { x = pos 0; y = pos 0; z = pos 0 } }

abbrev pub no_point : (refusal : ℕ) → PointAnswer
no_point f = record { refusal = f; at = record { x = plus_zero; y = plus_zero; z = plus_zero } }

-- the same of a call's result
abbrev pub place_told : Result Coordinates Refusal → CoordinatesAnswer
place_told r = told (λ c. record { refusal = 0; at = c }) no_coordinates r

abbrev pub ticks_told : Result Ticks Refusal → TicksAnswer
ticks_told r = told (λ t. record { refusal = 0; at = t }) no_ticks r

abbrev pub point_told : Result Point Refusal → PointAnswer
point_told r = told (λ p. record { refusal = 0; at = p }) no_point r

-- ---- exact coordinates c, t on each axis, the drawn point at degree n

pub record Placed (c : Coordinates) (r : CoordinatesAnswer) : Type 0 where
  pub number : r.refusal ≡ 0
  pub is : r.at ≡ c

pub record Ticked (c : Coordinates) (r : TicksAnswer) : Type 0 where
  pub number : r.refusal ≡ 0
  pub are : AreTicks c r.at

pub record Pointed (n : ℕ) (c : Coordinates) (r : PointAnswer) : Type 0 where
  pub number : r.refusal ≡ 0
  pub is : IsPoint n c r.at
  -- "with stated exact bits": those that t on each axis says
  pub bits : (t : Ticks) → AreTicks c t → HasBits n t r.at

abbrev pub PlaceAnswer : TriangleCode → ℕ → CoordinatesAnswer → Type 0
PlaceAnswer t i r = Answer (refuse_numbered t i) (Placed (exact (corner t i))) no_coordinates r

abbrev pub NamePlaceAnswer : CornerName → CoordinatesAnswer → Type 0
NamePlaceAnswer q r = Answer (check_name q) (Placed (exact (named q))) no_coordinates r

abbrev pub TickAnswer : TriangleCode → ℕ → TicksAnswer → Type 0
TickAnswer t i r = Answer (refuse_numbered t i) (Ticked (exact (corner t i))) no_ticks r

abbrev pub NameTickAnswer : CornerName → TicksAnswer → Type 0
NameTickAnswer q r = Answer (check_name q) (Ticked (exact (named q))) no_ticks r

abbrev pub DrawAnswer : TriangleCode → ℕ → PointAnswer → Type 0
DrawAnswer t i r = Answer (refuse_numbered t i) (Pointed (degree_of t.0) (exact (corner t i))) no_point r

abbrev pub NameDrawAnswer : CornerName → PointAnswer → Type 0
NameDrawAnswer q r = Answer (check_name q) (Pointed (degree_of q.0) (exact (named q))) no_point r
