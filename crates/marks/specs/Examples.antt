-- Document 02, 2026-14: examples, refusals at their bounds, and wrong answers. Assumes nothing.
use Rattle.std.specs.Prelude.{ℕ, suc, List, ℤ, pos, set, replicate}
use Rattle.frame.specs.Promises.{◌gives◌}
use Rattle.words.specs.Family.{code_of}
use Rattle.words.specs.Writing.{written, zero_digits}
use Rattle.filing.specs.declared.Point.{Point}
use Rattle.grid.specs.Writing.{point}
use Rattle.tables.specs.Tables.{none, fresh}
use Rattle.tables.specs.Examples.{three_seven, bad}
use Rattle.marks.specs.declared.Mark.TheVariants.{Nothing, Dot, Segment}
use Rattle.marks.specs.Answers.{mark_answer, no_edge_mark, TableMarkAnswer, EdgeMarkAnswer}

-- a point by the bits of its coordinates
abbrev pub at : (x y z : ℕ) → Point
at x y z = (point 0 x y z).at

-- At degree 0, where 65,536·φ is nearly 106039.48: V(00), V(10), V(41), V(50), V(40) as they are drawn.
abbrev pub v00 : Point
v00 = at 0 0x3ff0000000000000 0x3ff9e37000000000

abbrev pub v10 : Point
v10 = at 0 0xbff0000000000000 0x3ff9e37000000000

abbrev pub v41 : Point
v41 = at 0xbff9e37000000000 0 0xbff0000000000000

abbrev pub v50 : Point
v50 = at 0xbff9e37000000000 0 0x3ff0000000000000

abbrev pub v40 : Point
v40 = at 0xbff0000000000000 0x3ff9e37000000000 0

-- a table of degree 0 or 1 with this reading for its first triangle, 100, or its second, 1001
abbrev pub first : (millimetres : ℕ) → List ℤ
first x = set (fresh 0) 0 (pos x)

abbrev pub second : (millimetres : ℕ) → List ℤ
second x = set (fresh 1) 1 (pos x)

pub record Examples : Type 0 where
  -- "nothing where it has no reading", also beside one that has
  pub no_reading : TableMarkAnswer 0 (written 100) (fresh 0) gives mark_answer 0 0 Nothing
  pub beside : TableMarkAnswer 0 (written 101) (first 1250) gives mark_answer 0 0 Nothing
  -- "and otherwise a dot at its corner 1": V(00) of 100; a reading of 0 is one
  pub dot : TableMarkAnswer 0 (written 100) (first 1250) gives mark_answer 0 0 (Dot v00)
  pub dot_0 : TableMarkAnswer 0 (written 100) (first 0) gives mark_answer 0 0 (Dot v00)
  -- V(00) again, at degree 1, where 65,536·2φ is nearly 212078.95
  pub deeper : TableMarkAnswer 1 (written 1001) (second 100000)
      gives mark_answer 0 0 (Dot (at 0 0x3ff0000000000000 0x3ff9e37800000000))
  -- "a segment between that edge's corners in rising number": the corners of 401 are V(41), V(50), V(40)
  pub edge_1 : EdgeMarkAnswer (written 401) 1 gives mark_answer 0 0 (Segment v50 v40)
  pub edge_2 : EdgeMarkAnswer (written 401) 2 gives mark_answer 0 0 (Segment v41 v40)
  pub edge_3 : EdgeMarkAnswer (written 401) 3 gives mark_answer 0 0 (Segment v41 v50)
  -- from V(00) to the middle on the way to V(20), at degree 1
  pub edge_deeper : EdgeMarkAnswer (written 1001) 2
      gives mark_answer 0 0 (Segment (at 0 0x3ff0000000000000 0x3ff9e37800000000)
      (at 0x3fe9e37000000000 0x3fe0000000000000 0x3ff4f1b800000000))

-- "Refusals are those already numbered, with the mark nothing."
pub record Bounds : Type 0 where
  pub edge_0 : EdgeMarkAnswer (written 401) 0 gives no_edge_mark 5
  pub edge_4 : EdgeMarkAnswer (written 401) 4 gives no_edge_mark 5
  pub edge_word_0 : EdgeMarkAnswer (code_of 0) 4 gives no_edge_mark 2
  pub edge_degree_25 : EdgeMarkAnswer (code_of (zero_digits 25)) 0 gives no_edge_mark 1
  pub edge_of_name : EdgeMarkAnswer (code_of 0x2000000000000003) 1 gives no_edge_mark 4
  pub table_25 : TableMarkAnswer 25 (written 100) (fresh 0) gives mark_answer 1 0 Nothing
  pub table_7 : TableMarkAnswer 7 (written 100) (fresh 0) gives mark_answer 20 0 Nothing
  pub table_word_0 : TableMarkAnswer 0 (code_of 0) (fresh 0) gives mark_answer 2 0 Nothing
  pub table_deeper : TableMarkAnswer 0 (written 1001) (first 0) gives mark_answer 20 0 Nothing
  pub table_short : TableMarkAnswer 0 (written 100) (replicate 19 none) gives mark_answer 22 0 Nothing
  -- the place of 23 is passed on
  pub table_bad : TableMarkAnswer 0 (written 100) (three_seven bad (pos 2)) gives mark_answer 23 3 Nothing
  pub table_bad_later : TableMarkAnswer 0 (written 100) (three_seven (pos 2) bad) gives mark_answer 23 7 Nothing

-- Wrong programs, each by an answer of its own.
pub record Mistakes : Type 0 where
  -- draws a dot at corner 2, or by the floor of 65,536·(u + vφ)
  pub corner_2 : TableMarkAnswer 0 (written 100) (first 1250) (mark_answer 0 0 (Dot v10)) → ⊥
  pub floor : EdgeMarkAnswer (written 401) 3
      (mark_answer 0 0 (Segment (at 0xbff9e38000000000 0 0xbff0000000000000) v50)) → ⊥
  -- draws a dot where there is no reading, or none for a reading of 0
  pub dot_for_none : TableMarkAnswer 0 (written 100) (fresh 0) (mark_answer 0 0 (Dot v00)) → ⊥
  pub none_for_0 : TableMarkAnswer 0 (written 100) (first 0) (mark_answer 0 0 Nothing) → ⊥
  -- looks at another triangle's place
  pub another's : TableMarkAnswer 0 (written 101) (first 1250) (mark_answer 0 0 (Dot v00)) → ⊥
  -- the edge's corners falling; both ends one corner; the edge at the corner of its number; a dot for a segment
  pub falling : EdgeMarkAnswer (written 401) 2 (mark_answer 0 0 (Segment v40 v41)) → ⊥
  pub one_corner : EdgeMarkAnswer (written 401) 2 (mark_answer 0 0 (Segment v41 v41)) → ⊥
  pub other_edge : EdgeMarkAnswer (written 401) 2 (mark_answer 0 0 (Segment v41 v50)) → ⊥
  pub dot_for_edge : EdgeMarkAnswer (written 401) 2 (mark_answer 0 0 (Dot v41)) → ⊥
  -- the degree's own scale left out: V(00) at degree 1 as at degree 0
  pub scale : TableMarkAnswer 1 (written 1001) (second 100000) (mark_answer 0 0 (Dot v00)) → ⊥
  -- a negative zero
  pub minus_zero : EdgeMarkAnswer (written 401) 3
      (mark_answer 0 0 (Segment v41 (at 0xbff9e37000000000 0x8000000000000000 0x3ff0000000000000))) → ⊥
  -- drops the place of 23, or answers it with another refusal; a mark beside a refusal
  pub place_dropped : TableMarkAnswer 0 (written 100) (three_seven bad (pos 2)) (mark_answer 23 0 Nothing) → ⊥
  pub place_of_22 : TableMarkAnswer 0 (written 100) (replicate 19 none) (mark_answer 22 19 Nothing) → ⊥
  pub marked_refusal : EdgeMarkAnswer (written 401) 4 (mark_answer 5 0 (Segment v41 v40)) → ⊥
  -- refuses everything, or nothing
  pub refuses : (k : ℕ) → EdgeMarkAnswer (written 401) 2 (no_edge_mark (suc k)) → ⊥
  pub answers : TableMarkAnswer 0 (written 1001) (first 0) (mark_answer 0 0 Nothing) → ⊥
