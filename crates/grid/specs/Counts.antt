-- Document 01, 'Division and weights': "There are 20·4^N triangles, 30·4^N edges and 10·4^N + 2 corners." Assumes nothing.
use Rattle.std.specs.Prelude.{◌≡◌, ℕ, ◌+◌, ◌*◌, ◌^◌, ◌<◌}
use Rattle.words.specs.Refusals.{IsCode}
use Rattle.words.specs.declared.TriangleCode.{TriangleCode}
use Rattle.words.specs.declared.CornerName.{CornerName}
use Rattle.net.specs.Corners.{HasCorner, corner, named}
use Rattle.net.specs.Names.{IsName}
use Rattle.net.specs.Division.{Weights}
use Rattle.net.specs.Sides.{OneToThree, next, prev}
use Rattle.net.specs.Steps.{Across, SameTwo}

-- There are m things that P holds of: a list of them, all of them, each once.
pub record Count {A : Type 0} (m : ℕ) (P : A → Type 0) : Type 0 where
  pub at : ℕ → A
  pub each : (i : ℕ) → i < m → P (at i)
  pub every : (x : A) → P x → (i : ℕ) × (i < m) × (at i ≡ x)
  pub once : (i j : ℕ) → i < m → j < m → at i ≡ at j → i ≡ j

-- An edge as a triangle tells it: "Edge k lies opposite corner k".
pub record Edge : Type 0 where
  pub code : TriangleCode
  pub number : ℕ

abbrev pub edge : TriangleCode → ℕ → Edge
edge t k = record { code = t; number = k }

-- An edge lies in two triangles, and is told here from the lesser of its two codes, so that it is counted once.
pub record IsEdge (n : ℕ) (e : Edge) : Type 0 where
  pub a_code : IsCode n e.code
  pub a_number : OneToThree e.number
  pub lesser : (t' : TriangleCode) (k' : ℕ) → Across n e.code e.number t' k' → e.code.0 < t'.0

-- Both have the same two ends.
abbrev pub SameEnds : Edge → Edge → Type 0
SameEnds e f =
    SameTwo (corner e.code (next e.number)) (corner e.code (prev e.number))
    (corner f.code (next f.number)) (corner f.code (prev f.number))

-- p is a corner of degree n: some triangle of the degree has it. "Two corners of one degree are the same point exactly when all twelve weights agree."
abbrev pub IsCorner : ℕ → Weights → Type 0
IsCorner n p = (t : TriangleCode) × IsCode n t × HasCorner t p

-- "There are 20·4^N triangles, 30·4^N edges and 10·4^N + 2 corners", and as many names as corners.
pub record Counts (n : ℕ) : Type 0 where
  pub triangles : Count (20 * 4 ^ n) (IsCode n)
  pub edges : Count (30 * 4 ^ n) (IsEdge n)
  pub corners : Count (10 * 4 ^ n + 2) (IsCorner n)
  pub names : Count (10 * 4 ^ n + 2) (λ (r : CornerName). IsName n (named r) r)
