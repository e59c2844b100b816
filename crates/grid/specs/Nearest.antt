-- Document 02, 2026-02, 'Nearest, not floor': what is promised of t and of drawn coordinates. Assumes nothing.
use Rattle.std.specs.Prelude.{◌≡◌, ◌↔◌, ℕ, ◌+◌, ◌/◌, ◌%◌, ◌^◌, ℤ, pos, neg_ℤ, ◌*ℤ◌, Float}
use Rattle.std.specs.Float.{binary64}
use Rattle.std.specs.Float.Ieee.{to_bits}
use Rattle.golden.specs.declared.Golden.{Golden}
use Rattle.golden.specs.Numbers.{whole, ◌+φ◌, negφ, ◌*φ◌}
use Rattle.golden.specs.Order.{NonNeg}
use Rattle.golden.specs.Drawing.{AtMostHalf, IsT, NotNearer, quantity}
use Rattle.words.specs.Words.{degree_of}
use Rattle.words.specs.Refusals.{IsCode}
use Rattle.words.specs.declared.TriangleCode.{TriangleCode}
use Rattle.words.specs.declared.CornerName.{CornerName}
use Rattle.net.specs.Sides.{OneToThree}
use Rattle.net.specs.Corners.{corner, named}
use Rattle.net.specs.Refusals.{check_name}
use Rattle.filing.specs.Coordinates.{exact, negated}
use Rattle.filing.specs.declared.Ticks.{Ticks}
use Rattle.filing.specs.declared.Point.{Point}
use Rattle.points.specs.Answers.{TickAnswer, NameTickAnswer, DrawAnswer, NameDrawAnswer}
use Rattle.points.specs.Answers.{TicksAnswer}
use Rattle.points.specs.Answers.{PointAnswer}

-- Twice d is just 1, by the rule for the sign: at that distance from a whole number, another is as near.
abbrev pub IsHalf : Golden → Type 0
IsHalf d = AtMostHalf d × NonNeg (d +φ d +φ negφ (whole (pos 1)))

-- "the negative, on all three axes"
abbrev pub negative : Ticks → Ticks
negative t = record { x = neg_ℤ t.x; y = neg_ℤ t.y; z = neg_ℤ t.z }

-- the sign bit of an f64, and the 63 bits that tell its size
abbrev pub sign_bit : Float → ℕ
sign_bit a = to_bits binary64 a / 2 ^ 63

abbrev pub size_bits : Float → ℕ
size_bits a = to_bits binary64 a % 2 ^ 63

-- Two drawn coordinates are equal in size and opposite in sign, and 0 is the positive zero both times.
pub record Opposed (a b : Float) : Type 0 where
  pub size : size_bits a ≡ size_bits b
  pub sign : (size_bits a ≡ 0 → ⊥) → sign_bit a + sign_bit b ≡ 1
  pub zero : size_bits a ≡ 0 → (sign_bit a ≡ 0) × (sign_bit b ≡ 0)

pub record OpposedPoints (a b : Point) : Type 0 where
  pub x : Opposed a.x b.x
  pub y : Opposed a.y b.y
  pub z : Opposed a.z b.z

pub record Nearest : Type 0 where
  -- "From now on t is the whole number nearest to 65,536·(u + vφ).": just the one than which none is nearer;
  -- and there is one, and no other, whatever u and v are
  pub none_nearer : (x : Golden) (t : ℤ) → IsT x t ↔ ((s : ℤ) → NotNearer (quantity x) t s)
  pub one : (x : Golden) → (t : ℤ) × IsT x t × ((s : ℤ) → IsT x s → s ≡ t)
  -- "A tie can't occur"
  pub no_tie : (x : Golden) (t : ℤ)
      → (IsHalf (quantity x +φ negφ (whole t)) → ⊥) × (IsHalf (whole t +φ negφ (quantity x)) → ⊥)
  -- "the quantity is whole when v is 0"
  pub whole_there : (x : Golden) → x.v ≡ pos 0 → quantity x ≡ whole (pos 65536 *ℤ x.u)
  -- "else irrational": for no whole numbers a and b, b not 0, is b times it a
  pub irrational : (x : Golden) → (x.v ≡ pos 0 → ⊥) → (a b : ℤ) → (b ≡ pos 0 → ⊥)
      → let d = whole b *φ quantity x +φ negφ (whole a) in NonNeg d → NonNeg (negφ d) → ⊥
  -- t of -x is the negative
  pub turned : (x : Golden) (s t : ℤ) → IsT x t → IsT (negφ x) s → s ≡ neg_ℤ t
  -- "the opposite corner": each corner has one of its degree, whose coordinates are the negated ones, and each name
  pub corner_some : (n : ℕ) (t : TriangleCode) (i : ℕ) → IsCode n t → OneToThree i
      → (u : TriangleCode) × (j : ℕ) × IsCode n u × OneToThree j
      × (exact (corner u j) ≡ negated (exact (corner t i)))
  pub name_some : (p : CornerName) → check_name p ≡ 0
      → (q : CornerName) × (check_name q ≡ 0) × (degree_of q.0 ≡ degree_of p.0)
      × (exact (named q) ≡ negated (exact (named p)))
  -- "t of the opposite corner is the negative, on all three axes"
  pub corners : (t u : TriangleCode) (i j : ℕ) (r s : TicksAnswer)
      → exact (corner u j) ≡ negated (exact (corner t i))
      → TickAnswer t i r → r.refusal ≡ 0 → TickAnswer u j s → s.refusal ≡ 0 → s.at ≡ negative r.at
  pub names : (p q : CornerName) (r s : TicksAnswer) → exact (named q) ≡ negated (exact (named p))
      → NameTickAnswer p r → r.refusal ≡ 0 → NameTickAnswer q s → s.refusal ≡ 0
      → s.at ≡ negative r.at
  -- and it is drawn opposite: "opposite points of the globe aren't drawn opposite" no more
  pub drawn : (t u : TriangleCode) (i j : ℕ) (r s : PointAnswer)
      → exact (corner u j) ≡ negated (exact (corner t i))
      → DrawAnswer t i r → r.refusal ≡ 0 → DrawAnswer u j s → s.refusal ≡ 0
      → OpposedPoints r.at s.at
  pub drawn_names : (p q : CornerName) (r s : PointAnswer) → exact (named q) ≡ negated (exact (named p))
      → NameDrawAnswer p r → r.refusal ≡ 0 → NameDrawAnswer q s → s.refusal ≡ 0
      → OpposedPoints r.at s.at
