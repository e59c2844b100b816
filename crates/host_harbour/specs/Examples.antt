-- Document 02, 2026-11, over bytes: what a stranger would try, each refusal at its bound, and wrong answers. Assumes
-- nothing.
use Rattle.std.specs.Prelude.{◌≡◌, [], ◌∷◌, ◌++◌, ◌+◌, pos, replicate}
use Rattle.frame.specs.Promises.{◌leaves◌}
use Rattle.words.specs.Family.{code_of}
use Rattle.words.specs.Writing.{written, zero_digits}
use Rattle.grid.specs.Writing.{towards, up}
use Rattle.harbour.specs.Small.{small_code}
use Rattle.host_harbour.specs.Refusals.{refuse_large, refuse_small, refuse_cross, refuse_file}
use Rattle.host_harbour.specs.Answers.{LargeBytes, SmallBytes, CrossSmallBytes, FileSmallBytes}

pub record Examples : Type 0 where
  -- 1001 in four bytes, "most significant first"; a fifth byte stays
  pub small : SmallBytes (written 1001) (replicate 5 9) leaves (0, 0x20 ∷ 0xA0 ∷ 0 ∷ 0 ∷ 9 ∷ [])
  -- and in eight again
  pub large : LargeBytes (small_code 0x20A00000) (replicate 9 9) leaves (0, 0x20 ∷ 0x50 ∷ replicate 6 0 ++ (9 ∷ []))
  -- E8: the small code in four bytes, the edge in eight
  pub e8 : CrossSmallBytes (small_code 0x20A00000) 2 (replicate 13 9)
      leaves (0, 0x40 ∷ 0xA0 ∷ 0 ∷ 0 ∷ replicate 7 0 ++ (3 ∷ 9 ∷ []))
  -- E3
  pub e3 : FileSmallBytes 2 up (replicate 5 9) leaves (0, 0x21 ∷ 0x18 ∷ 0 ∷ 0 ∷ 9 ∷ [])
  -- refused: "lent memory keeps its contents"
  pub too_deep : SmallBytes (code_of (zero_digits 12)) (replicate 4 9) leaves (30, replicate 4 9)
  pub bit_set : LargeBytes (small_code 0x20A00001) (replicate 8 9) leaves (31, replicate 8 9)
  pub short : CrossSmallBytes (small_code 0x20A00000) 2 (replicate 11 9) leaves (9, replicate 11 9)
  pub deep : FileSmallBytes 12 up (replicate 4 9) leaves (30, replicate 4 9)

pub record Bounds : Type 0 where
  -- "a shorter slice is refusal 9"
  pub small_3 : refuse_small (written 1001) (replicate 3 9) ≡ 9
  pub small_4 : refuse_small (written 1001) (replicate 4 9) ≡ 0
  pub large_7 : refuse_large (small_code 0x20A00000) (replicate 7 9) ≡ 9
  pub large_8 : refuse_large (small_code 0x20A00000) (replicate 8 9) ≡ 0
  pub cross_11 : refuse_cross (small_code 0x20A00000) 2 (replicate 11 9) ≡ 9
  pub cross_12 : refuse_cross (small_code 0x20A00000) 2 (replicate 12 9) ≡ 0
  pub file_3 : refuse_file 2 up (replicate 3 9) ≡ 9
  pub file_4 : refuse_file 2 up (replicate 4 9) ≡ 0
  -- 9 has its place in document 01's order: after 30, 31, 4, 5 and 7
  pub deep_first : refuse_small (code_of (zero_digits 12)) [] ≡ 30
  pub kind_first : refuse_small (code_of (zero_digits 11 + 1)) [] ≡ 4
  pub bit_first : refuse_large (small_code 0x20A00001) [] ≡ 31
  pub edge_first : refuse_cross (small_code 0x20A00000) 4 [] ≡ 5
  pub degree_first : refuse_file 12 up [] ≡ 30
  pub zero_first : refuse_file 2 (towards (pos 0) (pos 0) (pos 0)) [] ≡ 7

-- Wrong answers that the promises refuse.
pub record Mistakes : Type 0 where
  -- least significant byte first
  pub reversed : SmallBytes (written 1001) (replicate 4 9) 0 (0 ∷ 0 ∷ 0xA0 ∷ 0x20 ∷ []) → ⊥
  -- a small code in eight bytes
  pub in_eight : SmallBytes (written 1001) (replicate 8 9) 0 (replicate 4 0 ++ (0x20 ∷ 0xA0 ∷ 0 ∷ 0 ∷ [])) → ⊥
  -- the edge in four bytes, and the others left
  pub edge_in_four : CrossSmallBytes (small_code 0x20A00000) 2 (replicate 12 9) 0
      (0x40 ∷ 0xA0 ∷ 0 ∷ 0 ∷ 0 ∷ 0 ∷ 0 ∷ 3 ∷ replicate 4 9) → ⊥
  -- the edge carried over unchanged
  pub edge_kept : CrossSmallBytes (small_code 0x20A00000) 2 (replicate 12 9) 0
      (0x40 ∷ 0xA0 ∷ 0 ∷ 0 ∷ replicate 7 0 ++ (2 ∷ [])) → ⊥
  -- three bytes taken for enough, and written
  pub three : FileSmallBytes 2 up (replicate 3 9) 0 (0x21 ∷ 0x18 ∷ 0 ∷ []) → ⊥
  -- the rest of the slice cleared
  pub cleared : FileSmallBytes 2 up (replicate 5 9) 0 (0x21 ∷ 0x18 ∷ 0 ∷ 0 ∷ 0 ∷ []) → ⊥
  -- refusing a longer slice
  pub longer : LargeBytes (small_code 0x20A00000) (replicate 9 9) 9 (replicate 9 9) → ⊥
