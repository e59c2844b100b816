-- Document 01, 'Vertices and sides' and 'Division and weights': the numbers u + vφ. Assumes nothing.
use Rattle.std.specs.Prelude.{ℕ, ◌<◌, ℤ, pos, neg_ℤ, nat_abs, ◌+ℤ◌, ◌*ℤ◌}
use Rattle.golden.specs.declared.Golden.{Golden}

-- "two signed whole numbers u, v for u + vφ"
abbrev pub golden : ℤ → ℤ → Golden
golden a b = record { u = a; v = b }

-- a whole number as one of them
abbrev pub whole : ℤ → Golden
whole c = golden c (pos 0)

infixl 6 ◌+φ◌
unfoldable pub ◌+φ◌ : Golden → Golden → Golden
x +φ y = golden (x.u +ℤ y.u) (x.v +ℤ y.v)

unfoldable pub negφ : Golden → Golden
negφ x = golden (neg_ℤ x.u) (neg_ℤ x.v)

-- "φ is the positive root of φ² = φ + 1": so (a + bφ)(c + dφ) = (ac + bd) + (ad + bc + bd)φ.
infixl 7 ◌*φ◌
unfoldable pub ◌*φ◌ : Golden → Golden → Golden
x *φ y = golden (x.u *ℤ y.u +ℤ x.v *ℤ y.v) (x.u *ℤ y.v +ℤ x.v *ℤ y.u +ℤ x.v *ℤ y.v)

-- Both parts of x are below b in size: what the code asks of the numbers that it is given.
pub record Below (b : ℕ) (x : Golden) : Type 0 where
  pub u_below : nat_abs x.u < b
  pub v_below : nat_abs x.v < b
