-- Document 02, 2026-09 and 2026-10: a list over bytes that a stranger would try, each refusal at its bound, and wrong
-- answers. Assumes nothing.
use Rattle.std.specs.Prelude.{◌≡◌, List, [], ◌∷◌, ◌++◌, ℕ, length, replicate}
use Rattle.frame.specs.Promises.{◌leaves◌}
use Rattle.octets.specs.Bytes.{bytes}
use Rattle.words.specs.Writing.{words_for}
use Rattle.mending.specs.Answers.{Lists, lists}
use Rattle.mending.specs.Examples.{lent}
use Rattle.host_cells.specs.Refusals.{refuse_check, refuse_mend}
use Rattle.host_cells.specs.Answers.{CheckBytes, MendBytes}

-- 1001 and then 10012, which lies inside it
abbrev pub inside : List ℕ
inside = 0x20 ∷ 0x50 ∷ replicate 6 0 ++ 0x20 ∷ 0x98 ∷ replicate 6 0

-- the four children of 100, the last one first, and the last one again
abbrev pub children : List ℕ
children = bytes 8 (words_for (1003 ∷ 1001 ∷ 1000 ∷ 1002 ∷ 1003 ∷ []))

pub record Examples : Type 0 where
  -- "most significant byte first": the codes of that list
  pub inside_is : bytes 8 (words_for (1001 ∷ 10012 ∷ [])) ≡ inside
  -- "The first offending place, from 0, and its reason": reason 4 at place 1; a byte more stays
  pub offence : CheckBytes inside (replicate 17 9)
      leaves (0, replicate 7 0 ++ (4 ∷ replicate 7 0) ++ (1 ∷ 9 ∷ []))
  -- "The empty list is accepted."
  pub empty : CheckBytes [] (replicate 16 9) leaves (0, replicate 16 0)
  -- refused: "lent memory keeps its contents"
  pub odd : CheckBytes (replicate 15 0) (replicate 16 9) leaves (9, replicate 16 9)
  -- 1003 is dropped for 3, and the four are merged into 100; one code and two changes. Later bytes stay
  pub merged : MendBytes children (lent 41 40 42) (replicate 17 9) leaves (
    0,
    (
      lists (0x20 ∷ replicate 7 0 ++ replicate 33 7)
          (0x20 ∷ 0x70 ∷ replicate 6 0 ++ 0x20 ∷ replicate 7 0 ++ replicate 24 8)
          (replicate 7 0 ++ (3 ∷ replicate 7 0) ++ (5 ∷ replicate 26 9)),
      replicate 7 0 ++ (1 ∷ replicate 7 0) ++ (2 ∷ 9 ∷ []),
    ),
  )
  -- nothing to do
  pub nothing : MendBytes [] (lent 1 0 0) (replicate 16 9) leaves (0, (lent 1 0 0, replicate 16 0))
  -- one byte too few in one of the lists, and nothing is written
  pub short : MendBytes children (lent 40 39 40) (replicate 16 9) leaves (9, (lent 40 39 40, replicate 16 9))

pub record Bounds : Type 0 where
  pub check_0 : refuse_check [] (replicate 16 9) ≡ 0
  pub check_7 : refuse_check (replicate 7 0) (replicate 16 9) ≡ 9
  pub check_8 : refuse_check (replicate 8 0) (replicate 16 9) ≡ 0
  pub check_9 : refuse_check (replicate 9 0) (replicate 16 9) ≡ 9
  pub check_out_15 : refuse_check (replicate 8 0) (replicate 15 9) ≡ 9
  pub mend_8 : refuse_mend (replicate 8 0) (lent 8 8 8) (replicate 16 9) ≡ 0
  pub mend_9 : refuse_mend (replicate 9 0) (lent 16 16 16) (replicate 16 9) ≡ 9
  pub mend_mended_7 : refuse_mend (replicate 8 0) (lent 7 8 8) (replicate 16 9) ≡ 9
  pub mend_words_7 : refuse_mend (replicate 8 0) (lent 8 7 8) (replicate 16 9) ≡ 9
  pub mend_reasons_7 : refuse_mend (replicate 8 0) (lent 8 8 7) (replicate 16 9) ≡ 9
  pub mend_out_15 : refuse_mend (replicate 8 0) (lent 8 8 8) (replicate 15 9) ≡ 9
  -- "a list above 4,096 words is refusal 32, checked first": whatever the bytes after the last whole word are, and
  -- however short the lists
  pub mend_4097 : (list : List ℕ) (l : Lists) (out : List ℕ) → length list ≡ 32776 → refuse_mend list l out ≡ 32
  pub mend_over : (list : List ℕ) (l : Lists) (out : List ℕ) → length list ≡ 32777 → refuse_mend list l out ≡ 32
  pub mend_odd : (list : List ℕ) (l : Lists) (out : List ℕ) → length list ≡ 32775 → refuse_mend list l out ≡ 9
  pub mend_4096 : (list : List ℕ) (l : Lists) (out : List ℕ) → length list ≡ 32768 → length l.out ≡ 32768
      → length l.words ≡ 32768 → length l.reasons ≡ 32768 → length out ≡ 16 → refuse_mend list l out ≡ 0
  -- and checking has no such limit
  pub check_4097 : (list out : List ℕ) → length list ≡ 32776 → length out ≡ 16 → refuse_check list out ≡ 0

-- Wrong programs, each by an answer of its own.
pub record Mistakes : Type 0 where
  -- the place before the reason; the place counted in bytes; the later byte cleared
  pub place_first : CheckBytes inside (replicate 16 9) 0 (replicate 7 0 ++ (1 ∷ replicate 7 0) ++ (4 ∷ [])) → ⊥
  pub place_in_bytes : CheckBytes inside (replicate 16 9) 0 (replicate 7 0 ++ (4 ∷ replicate 7 0) ++ (8 ∷ [])) → ⊥
  pub check_cleared : CheckBytes [] (replicate 17 9) 0 (replicate 17 0) → ⊥
  -- the bytes after the last whole word let go
  pub bytes_over : CheckBytes (replicate 1 0) (replicate 16 9) 0 (replicate 16 0) → ⊥
  -- the counts exchanged; the merged list counted in bytes; the rest of the three lists cleared
  pub counts_exchanged : (new : Lists)
      → MendBytes children (lent 40 40 40) (replicate 16 9) 0
      (new, replicate 7 0 ++ (2 ∷ replicate 7 0) ++ (1 ∷ [])) → ⊥
  pub count_in_bytes : (new : Lists)
      → MendBytes children (lent 40 40 40) (replicate 16 9) 0
      (new, replicate 7 0 ++ (8 ∷ replicate 7 0) ++ (16 ∷ [])) → ⊥
  pub rest_cleared : MendBytes [] (lent 1 1 1) (replicate 16 9) 0 (lists (0 ∷ []) (0 ∷ []) (0 ∷ []), replicate 16 0) → ⊥
  -- a list of 4,096 words refused; the words rounded up; 9 looked at before 32
  pub full : (list : List ℕ) (l : Lists) (out : List ℕ) → length list ≡ 32768 → refuse_mend list l out ≡ 32 → ⊥
  pub rounded_up : (list : List ℕ) (l : Lists) (out : List ℕ) → length list ≡ 32775 → refuse_mend list l out ≡ 32 → ⊥
  pub nine_first : (list : List ℕ) (l : Lists) (out : List ℕ) → length list ≡ 32777 → refuse_mend list l out ≡ 9 → ⊥
