-- Document 02, 2026-01: what a stranger would try, each refusal at its bound, and wrong answers. Assumes nothing.
use Rattle.std.specs.Prelude.{◌≡◌, [], ◌∷◌, ◌++◌, pos, replicate}
use Rattle.frame.specs.Promises.{◌leaves◌}
use Rattle.octets.specs.Bytes.{bytes_of, bytes, number_of}
use Rattle.words.specs.Refusals.{check_code}
use Rattle.words.specs.Family.{code_of}
use Rattle.net.specs.Corners.{name_of}
use Rattle.net.specs.Refusals.{check_name}
use Rattle.words.specs.Writing.{written, words_for}
use Rattle.grid.specs.Writing.{corner_in, minus, towards, up}
use Rattle.exports.specs.Refusals.{refuse_cross, refuse_file, refuse_list}
use Rattle.exports.specs.Answers.{CrossBytes, FileBytes, ListBytes}

pub record Examples : Type 0 where
  -- "most significant first"
  pub eight_bytes : bytes_of 8 0x208C000000000001 ≡ 0x20 ∷ 0x8C ∷ 0 ∷ 0 ∷ 0 ∷ 0 ∷ 0 ∷ 1 ∷ []
  pub back : number_of (0xFE ∷ 0xDC ∷ 0xBA ∷ 0x98 ∷ 0x76 ∷ 0x54 ∷ 0x32 ∷ 0x10 ∷ [])
      ≡ 0xFEDCBA9876543210
  -- "Check comes for both kinds of word": E11's name of V(20), which is no code
  pub both_kinds : (check_code (code_of 0x2000000000000003) ≡ 4) × (check_name (name_of 0x2000000000000003) ≡ 0)
  -- E8, "cross writes code and edge number (16 bytes)": 1001 across 2 is 2001, edge 3; a seventeenth byte stays
  pub e8 : CrossBytes (written 1001) 2 (replicate 17 9)
      leaves (0, 0x40 ∷ 0x50 ∷ replicate 6 0 ++ replicate 7 0 ++ (3 ∷ 9 ∷ []))
  -- E3, "file the code (8)": (0,0,1) at degree 2 is 10003
  pub e3 : FileBytes 2 up (replicate 9 9) leaves (0, 0x20 ∷ 0x8C ∷ replicate 6 0 ++ (9 ∷ []))
  -- "list the count and then its codes (56)": (0,0,1) at degree 0 is in 100 and 500; the last 32 of the 56 bytes stay,
  -- and so does a later one
  pub two : ListBytes 0 up (replicate 57 9)
      leaves (0, replicate 7 0 ++ (2 ∷ 0x20 ∷ replicate 7 0) ++ (0xA0 ∷ replicate 7 0) ++ replicate 33 9)
  -- at degree 2 it is in six triangles: all 56 bytes are written
  pub six : ListBytes 2 up (replicate 56 9)
      leaves (0, bytes 8 (6 ∷ words_for (10003 ∷ 10012 ∷ 10021 ∷ 50002 ∷ 50013 ∷ 50031 ∷ [])))
  -- refused: "lent memory keeps its contents"
  pub short : CrossBytes (written 1001) 2 (replicate 15 9) leaves (9, replicate 15 9)
  pub no_edge : CrossBytes (written 1001) 4 (replicate 16 9) leaves (5, replicate 16 9)

pub record Bounds : Type 0 where
  -- "a shorter slice is refusal 9"
  pub cross_15 : refuse_cross (written 1001) 2 (replicate 15 9) ≡ 9
  pub cross_16 : refuse_cross (written 1001) 2 (replicate 16 9) ≡ 0
  pub file_7 : refuse_file 2 up (replicate 7 9) ≡ 9
  pub file_8 : refuse_file 2 up (replicate 8 9) ≡ 0
  -- also where only one or two codes would be written
  pub list_55 : refuse_list 0 up (replicate 55 9) ≡ 9
  pub list_56 : refuse_list 0 up (replicate 56 9) ≡ 0
  -- "Otherwise document 01 holds": 9 has its place in document 01's order
  pub edge_first : refuse_cross (written 1001) 4 [] ≡ 5
  pub code_first : refuse_cross (code_of 0) 2 [] ≡ 2
  pub degree_first : refuse_file 25 up [] ≡ 1
  pub zero_first : refuse_file 2 (towards (pos 0) (pos 0) (pos 0)) [] ≡ 7
  pub far_first : refuse_list 2 (towards (minus 1000000001) (pos 0) (pos 0)) [] ≡ 8

-- Wrong answers that the promises refuse.
pub record Mistakes : Type 0 where
  -- the same check for both kinds of word: V(20) as corner 2 of 200 is no canonical name, and no code
  pub one_check : check_name (corner_in 200 2) ≡ check_code (code_of (corner_in 200 2).0) → ⊥
  -- least significant byte first
  pub reversed : FileBytes 2 up (replicate 8 9) 0 (replicate 6 0 ++ (0x8C ∷ 0x20 ∷ [])) → ⊥
  -- the edge in one byte, after the code
  pub one_byte_edge : CrossBytes (written 1001) 2 (replicate 16 9) 0
      (0x40 ∷ 0x50 ∷ replicate 6 0 ++ (3 ∷ replicate 7 9)) → ⊥
  -- the edge carried over unchanged
  pub edge_kept : CrossBytes (written 1001) 2 (replicate 16 9) 0
      (0x40 ∷ 0x50 ∷ replicate 6 0 ++ replicate 7 0 ++ (2 ∷ [])) → ⊥
  -- fifteen bytes taken for enough, and written
  pub fifteen : CrossBytes (written 1001) 2 (replicate 15 9) 0
      (0x40 ∷ 0x50 ∷ replicate 6 0 ++ replicate 7 0) → ⊥
  -- the unused places of the 56 bytes cleared
  pub cleared : ListBytes 0 up (replicate 56 9) 0
      (replicate 7 0 ++ (2 ∷ 0x20 ∷ replicate 7 0) ++ (0xA0 ∷ replicate 7 0) ++ replicate 32 0) → ⊥
  -- codes without the count
  pub no_count : ListBytes 0 up (replicate 56 9) 0
      ((0x20 ∷ replicate 7 0) ++ (0xA0 ∷ replicate 7 0) ++ replicate 40 9) → ⊥
  -- refusing a longer slice
  pub longer : FileBytes 2 up (replicate 9 9) 9 (replicate 9 9) → ⊥
