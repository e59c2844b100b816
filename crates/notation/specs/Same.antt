-- Document 02, 2026-13: when a code of the paper and a word of ours mean the same. Assumes nothing.
use Rattle.std.specs.Prelude.{◌≡◌, true, List, ℕ, ◌+◌, length}
use Rattle.words.specs.Refusals.{IsCode}
use Rattle.words.specs.declared.TriangleCode.{TriangleCode}
use Rattle.words.specs.declared.CornerName.{CornerName}
use Rattle.net.specs.Corners.{triangle_of}
use Rattle.net.specs.Names.{IsName}
use Rattle.notation.specs.Domains.{is_domain, domain}
use Rattle.notation.specs.Vertices.{is_vertex, point}

-- "translated corners have the same weights": the paper's code Σ, of degree n, and our code t have the same three
-- corners, in the same order. (30) N(Σ0) = 0, N(Σr) = N(Σ) + 1: a code of degree n has n + 3 digits.
pub record SameDomain (n : ℕ) (xs : List ℕ) (t : TriangleCode) : Type 0 where
  pub allowed : is_domain xs ≡ true
  pub degree : length xs ≡ 3 + n
  pub code : IsCode n t
  pub corners : domain xs ≡ triangle_of t

-- The paper's code T, of degree n, is of the corner that our name r names. (33) Nv(T0) = 0, Nv(Ts) = Nv(T) + 1: a code
-- of degree n has n + 2 digits.
pub record SameVertex (n : ℕ) (xs : List ℕ) (r : CornerName) : Type 0 where
  pub allowed : is_vertex xs ≡ true
  pub degree : length xs ≡ 2 + n
  pub name : IsName n (point xs) r
