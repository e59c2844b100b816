-- Document 02, 2026-12, over bytes: what a stranger would try, each refusal at its bound, and wrong answers. Assumes
-- nothing.
use Rattle.std.specs.Prelude.{◌≡◌, [], ◌∷◌, ◌++◌, replicate}
use Rattle.frame.specs.Promises.{◌leaves◌}
use Rattle.words.specs.Family.{code_of}
use Rattle.words.specs.Writing.{written}
use Rattle.net.specs.Corners.{name_of}
use Rattle.grid.specs.Writing.{corner_in}
use Rattle.host_opposites.specs.Refusals.{refuse_opposite, refuse_opposite_name}
use Rattle.host_opposites.specs.Answers.{OppositeBytes, OppositeNameBytes}

pub record Examples : Type 0 where
  -- 10003 and 31002, "most significant first"; a ninth byte stays
  pub e3 : OppositeBytes (written 10003) (replicate 9 9) leaves (0, 0x70 ∷ 0x88 ∷ replicate 6 0 ++ (9 ∷ []))
  -- V(20) and V(41)
  pub v20 : OppositeNameBytes (name_of 0x2000000000000003) (replicate 8 9) leaves (0, 0x70 ∷ replicate 6 0 ++ (2 ∷ []))
  -- refused: "lent memory keeps its contents"
  pub word_0 : OppositeBytes (code_of 0) (replicate 8 9) leaves (2, replicate 8 9)
  pub short : OppositeBytes (written 10003) (replicate 7 9) leaves (9, replicate 7 9)
  pub not_canonical : OppositeNameBytes (corner_in 200 2) (replicate 8 9) leaves (10, replicate 8 9)

pub record Bounds : Type 0 where
  -- "a shorter slice is refusal 9"
  pub seven : refuse_opposite (written 10003) (replicate 7 9) ≡ 9
  pub eight : refuse_opposite (written 10003) (replicate 8 9) ≡ 0
  pub name_seven : refuse_opposite_name (name_of 0x2000000000000003) (replicate 7 9) ≡ 9
  pub name_eight : refuse_opposite_name (name_of 0x2000000000000003) (replicate 8 9) ≡ 0
  -- 9 has its place in document 01's order: after 4 and 10
  pub kind_first : refuse_opposite (code_of 0x2000000000000003) [] ≡ 4
  pub ten_first : refuse_opposite_name (corner_in 200 2) [] ≡ 10

-- Wrong answers that the promises refuse.
pub record Mistakes : Type 0 where
  -- least significant byte first
  pub reversed : OppositeBytes (written 10003) (replicate 8 9) 0 (replicate 6 0 ++ (0x88 ∷ 0x70 ∷ [])) → ⊥
  -- the triangle itself
  pub itself : OppositeBytes (written 10003) (replicate 8 9) 0 (0x20 ∷ 0x8C ∷ replicate 6 0) → ⊥
  -- the rest of the slice cleared
  pub cleared : OppositeBytes (written 10003) (replicate 9 9) 0 (0x70 ∷ 0x88 ∷ replicate 7 0) → ⊥
  -- the number dropped from the name
  pub number_dropped : OppositeNameBytes (name_of 0x2000000000000003) (replicate 8 9) 0 (0x70 ∷ replicate 7 0) → ⊥
