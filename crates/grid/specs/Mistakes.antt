-- Document 01, 'Mistakes that have looked right' and 'What the contracts owe': answers that the promises of the calls
-- refuse. Assumes nothing.
use Rattle.std.specs.Prelude.{◌≡◌, List, ◌∷◌, ℕ, suc, ◌+◌, ◌-◌, ◌^◌, ◌≤◌, ◌<◌, pos, length, replicate}
use Rattle.frame.specs.Promises.{◌gives◌}
use Rattle.golden.specs.Numbers.{golden, whole}
use Rattle.golden.specs.Order.{NonNeg, Positive}
use Rattle.words.specs.Words.{degree_of}
use Rattle.words.specs.Refusals.{IsCode}
use Rattle.words.specs.Family.{code_of, code_answer, no_code}
use Rattle.words.specs.declared.TriangleCode.{TriangleCode}
use Rattle.words.specs.declared.CornerName.{CornerName}
use Rattle.net.specs.Corners.{name_of}
use Rattle.filing.specs.Holding.{dets, Holds}
use Rattle.filing.specs.declared.Direction.{Direction}
use Rattle.corners.specs.Refusals.{refuse_numbered}
use Rattle.corners.specs.Answers.{CrossAnswer, WeightsAnswer, NamingAnswer, BackAnswer, RingAnswer, step_answer}
use Rattle.corners.specs.Answers.{name_answer, count_answer}
use Rattle.points.specs.Answers.{TickAnswer, NameTickAnswer}
use Rattle.directions.specs.Refusals.{refuse_file}
use Rattle.directions.specs.Answers.{FileAnswer, ListAnswer}
use Rattle.words.specs.Writing.{written}
use Rattle.grid.specs.Writing.{corner_in, minus, towards, up, ticks}

-- A direction close to an edge of a triangle of degree 24. Its determinant by that edge is about 0.005, u + vφ with u
-- and v above 10^16 in size; in 64-bit floating point it comes out as -4, so that the triangle across the edge, which
-- has the lesser code, seems to hold the direction.
abbrev pub close : Direction
close = towards (pos 620913201) (minus 951902864) (pos 231958876)

abbrev pub holder : TriangleCode
holder = written 101113201032313131212120111

abbrev pub across_edge : TriangleCode
across_edge = written 101113201032313131212120110

-- the test that leaves out a triangle's edges
abbrev pub StrictlyInside : TriangleCode → Direction → Type 0
StrictlyInside t d = Positive (dets t d).d1 × Positive (dets t d).d2 × Positive (dets t d).d3

pub record Mistakes : Type 0 where
  -- "Carrying the edge number across a seam unchanged: E8 goes from edge 2 to edge 3."
  pub edge_kept : (i j : ℕ) → CrossAnswer (written 1001) 2 (step_answer 0 (written 2001) 2 i j) → ⊥
  -- and of document 02, 2026-06, at E8: the corners' numbers kept unchanged across a seam, or exchanged
  pub corners_kept : CrossAnswer (written 1001) 2 (step_answer 0 (written 2001) 3 1 3) → ⊥
  pub corners_exchanged : CrossAnswer (written 1001) 2 (step_answer 0 (written 2001) 3 2 1) → ⊥
  -- and at E9, where corners 2 and 3 become 3 and 2: in the order of the neighbour's numbers
  pub corners_sorted : CrossAnswer (written 1002) 1 (step_answer 0 (written 1013) 1 2 3) → ⊥
  -- "Naming a corner by the triangle asked about, so one seam point has two names.": V(20) as corner 2 of 200
  pub own_name : NamingAnswer (written 200) 2 (name_answer 0 (corner_in 200 2)) → ⊥
  -- or with one of the four zero bits set
  pub zero_bit : NamingAnswer (written 200) 2 (name_answer 0 (name_of (0x2000000000000003 + 4))) → ⊥
  -- "Deciding the sign of u + vφ in floating point: wrong close to an edge.": two numbers within 10^-16 of 0, above
  -- and below it; in 64-bit floating point they come out as -2 and 0
  pub close_above : NonNeg (golden (pos 14472334024676221) (minus 8944394323791464))
  pub close_below : NonNeg (golden (pos 23416728348467685) (minus 14472334024676221)) → ⊥
  -- and so for a direction
  pub close_filed : FileAnswer 24 close gives code_answer 0 holder
  pub close_across : CrossAnswer holder 1 gives step_answer 0 across_edge 1 3 2
  pub close_outside : Holds across_edge close → ⊥
  pub close_wrong : FileAnswer 24 close (code_answer 0 across_edge) → ⊥
  -- "Testing strictly inside, so E3 is in no triangle.": two of the three determinants of what E3 answers are 0
  pub on_edge : ((dets (written 10003) up).d1 ≡ whole (pos 0)) × ((dets (written 10003) up).d2 ≡ whole (pos 0))
  pub in_none : (t : TriangleCode) → IsCode 2 t → StrictlyInside t up → ⊥
  -- "Truncating toward zero for t on negative coordinates.": V(41) at degree 1, where 65,536·(-2φ) is about
  -- -212078.95
  pub truncated : TickAnswer (written 4011) 1 (ticks (minus 212078) (pos 0) (minus 131072)) → ⊥
  -- and of document 02, 2026-02, "Nearest, not floor": the floor at E12, as it was before, and at V(20) of degree 1
  pub floored : TickAnswer (written 401) 1 (ticks (minus 106040) (pos 0) (minus 65536)) → ⊥
  pub floored_name : NameTickAnswer (name_of 0x7000000000000002) (ticks (minus 106040) (pos 0) (minus 65536)) → ⊥
  pub floored_above : TickAnswer (written 2002) 2 (ticks (pos 212078) (pos 0) (pos 131072)) → ⊥
  -- the next whole number above, at V(20); and the nearest with its sign lost, at E12
  pub raised : TickAnswer (written 200) 2 (ticks (pos 106040) (pos 0) (pos 65536)) → ⊥
  pub unsigned : TickAnswer (written 401) 1 (ticks (pos 106039) (pos 0) (pos 65536)) → ⊥
  -- "A program that refuses everything breaks demand 1, since refusals are given only when the table says.": any
  -- refusal at E3
  pub refusing : (k : ℕ) → FileAnswer 2 up (no_code (suc k)) → ⊥
  -- "One fixed code for all directions breaks demand 2's holding rule": at any degree
  pub fixed_code : (n : ℕ) (t : TriangleCode) → n ≤ 24
      → ((d : Direction) → refuse_file n d ≡ 0 → FileAnswer n d (code_answer 0 t)) → ⊥
  -- "one fixed name for all corners breaks demand 3's last clause.": at any degree
  pub fixed_name : (n : ℕ) (q : CornerName) → n ≤ 24
      → ((t : TriangleCode) (i : ℕ) → refuse_numbered t i ≡ 0 → degree_of t.0 ≡ n
      → NamingAnswer t i (name_answer 0 q)) → ⊥
  -- "A neighbour that returns its own triangle, or does nothing, breaks demand 3's "other triangle".": with any
  -- numbers
  pub itself : (t : TriangleCode) (k e i j : ℕ) → refuse_numbered t k ≡ 0
      → CrossAnswer t k (step_answer 0 t e i j) → ⊥
  pub nothing : (t : TriangleCode) (k e i j : ℕ) → refuse_numbered t k ≡ 0
      → CrossAnswer t k (step_answer 0 (code_of 0) e i j) → ⊥
  -- "Finding the first digit honestly and then writing zeros breaks demand 2 at E3."
  pub then_zeros : FileAnswer 2 up (code_answer 0 (written 10000)) → ⊥
  -- "The answer is the least code that holds it": 500 holds (0,0,1) too, and is not the least
  pub also_holds : Holds (written 500) up
  pub not_least : FileAnswer 0 up (code_answer 0 (written 500)) → ⊥
  -- "An invented holder or ring count breaks the listed contents.": any but 2 for (0,0,1) at degree 0, any but 5 round
  -- V(00)
  pub holder_count : (k : ℕ) (out new : List ℕ) → 6 ≤ length out → (k ≡ 2 → ⊥)
      → ListAnswer 0 up out (count_answer 0 k) new → ⊥
  pub ring_count : (k : ℕ) (out new : List ℕ) → 6 ≤ length out → (k ≡ 5 → ⊥)
      → RingAnswer (corner_in 100 1) out (count_answer 0 k) new → ⊥
  -- "lent memory keeps its contents": a list of eleven places or fewer that is changed, whatever number is returned
  pub written_on : (r : ℕ) (out new : List ℕ) → length out < 12 → (new ≡ out → ⊥)
      → WeightsAnswer (written 100) 1 out r new → ⊥
  -- "its sum is meant exactly, never wrapped": weights of V(00) and V(10) that add to 2^64 + 1, taken for 1
  pub wrapped_sum : (q : CornerName)
      → BackAnswer 0 ((2 ^ 64 - 1) ∷ 0 ∷ 2 ∷ replicate 9 0) (name_answer 0 q) → ⊥
