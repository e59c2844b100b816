-- Document 02, 2026-10: which triangles of degree 24 a list covers. Assumes nothing.
use Rattle.std.specs.Prelude.{◌≡◌, true, ◌⊎◌, ◌↔◌, List, ℕ, ◌<◌, length, get_or}
use Rattle.words.specs.Refusals.{IsCode}
use Rattle.words.specs.Family.{code_of}
use Rattle.cells.specs.Order.{valid, inside_of}

-- The list covers the triangle t: a valid word of it is t or has t inside.
pub record Covers (ws : List ℕ) (t : ℕ) : Type 0 where
  pub place : ℕ
  pub within : place < length ws
  pub code : valid (get_or ws place 0) ≡ true
  pub holds : (get_or ws place 0 ≡ t) ⊎ (inside_of t (get_or ws place 0) ≡ true)

-- "covers exactly the same triangles of degree 24"
abbrev pub SameCover : List ℕ → List ℕ → Type 0
SameCover ws us = (t : ℕ) → IsCode 24 (code_of t) → Covers ws t ↔ Covers us t
