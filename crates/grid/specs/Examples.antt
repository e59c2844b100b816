-- Document 01, 'Examples, proved together as one tabled statement (E1 to E12)', over the promises of the calls; and
-- beside that table what it leaves open, down to each refusal at its bound. Assumes nothing.
use Rattle.std.specs.Prelude.{◌≡◌, List, [], ◌∷◌, ◌++◌, ℕ, ◌+◌, ◌-◌, ◌*◌, ◌^◌, ◌≤◌, pos, length, replicate}
use Rattle.frame.specs.Answers.{over}
use Rattle.frame.specs.Promises.{◌gives◌, ◌leaves◌}
use Rattle.golden.specs.Numbers.{golden}
use Rattle.words.specs.Refusals.{check_code}
use Rattle.words.specs.Family.{code_of, code_answer, refuse_parent, refuse_child, ParentAnswer, ChildAnswer}
use Rattle.net.specs.Sides.{vertex}
use Rattle.net.specs.Division.{unit_at}
use Rattle.net.specs.Corners.{name_of}
use Rattle.net.specs.Refusals.{check_name}
use Rattle.corners.specs.Refusals.{refuse_numbered, refuse_weights, refuse_name_weights, refuse_back, refuse_ring}
use Rattle.corners.specs.Answers.{CrossAnswer, WeightsAnswer, NameWeightsAnswer, NamingAnswer, BackAnswer, RingAnswer}
use Rattle.corners.specs.Answers.{step_answer, name_answer, count_answer}
use Rattle.points.specs.Answers.{PlaceAnswer, NamePlaceAnswer, TickAnswer, NameTickAnswer, DrawAnswer, NameDrawAnswer}
use Rattle.points.specs.Answers.{no_coordinates}
use Rattle.directions.specs.Refusals.{refuse_file, refuse_list}
use Rattle.directions.specs.Answers.{FileAnswer, ListAnswer}
use Rattle.words.specs.Writing.{written, words_for, zero_digits}
use Rattle.grid.specs.Writing.{corner_in, minus, towards, up}
use Rattle.grid.specs.Writing.{place, ticks, point}

-- "Codes are written apq then digits."
pub record Examples : Type 0 where
  -- E1: "word for 100, degree 0: 0x2000000000000000"
  pub e1 : (written 100).0 ≡ 0x2000000000000000
  -- E2: "word for 1001: 0x2050000000000000"
  pub e2 : (written 1001).0 ≡ 0x2050000000000000
  -- E3: "file (0,0,1), degree 2: 10003, word 0x208C000000000000"
  pub e3 : FileAnswer 2 (towards (pos 0) (pos 0) (pos 1)) gives code_answer 0 (written 10003)
  pub e3_word : (written 10003).0 ≡ 0x208C000000000000
  -- E4: "file (1,1,1), degree 3: 200000"
  pub e4 : FileAnswer 3 (towards (pos 1) (pos 1) (pos 1)) gives code_answer 0 (written 200000)
  -- E5: "file (-1,-1,-1), degree 3: 410000"
  pub e5 : FileAnswer 3 (towards (minus 1) (minus 1) (minus 1)) gives code_answer 0 (written 410000)
  -- E6: "file (1,0,0), degree 2: 11102"
  pub e6 : FileAnswer 2 (towards (pos 1) (pos 0) (pos 0)) gives code_answer 0 (written 11102)
  -- E7: "file (0,0,-1), degree 2: 21003"
  pub e7 : FileAnswer 2 (towards (pos 0) (pos 0) (minus 1)) gives code_answer 0 (written 21003)
  -- E8: "1001 across 2: 2001, edge 3", and of document 02, 2026-06: "For E8 corners 1 and 3 become 1 and 2."
  pub e8 : CrossAnswer (written 1001) 2 gives step_answer 0 (written 2001) 3 1 2
  -- E9: "1002 across 1: 1013, edge 1"
  pub e9 : CrossAnswer (written 1002) 1 gives step_answer 0 (written 1013) 1 3 2
  -- E10: "1011 across 2: 5113, edge 2"
  pub e10 : CrossAnswer (written 1011) 2 gives step_answer 0 (written 5113) 2 3 1
  -- E11: "name of V(20), degree 0: 0x2000000000000003", from its weights and as corner 2 of 200
  pub e11 : BackAnswer 0 (unit_at (vertex 2 0)) gives name_answer 0 (name_of 0x2000000000000003)
  pub e11_corner : NamingAnswer (written 200) 2 gives name_answer 0 (name_of 0x2000000000000003)
  -- E12, t of V(41), degree 0, and of document 02, 2026-02: "E12 becomes -106039, 0, -65536.", by its name and as
  -- corner 1 of 401
  pub e12_name : BackAnswer 0 (unit_at (vertex 4 1)) gives name_answer 0 (name_of 0x7000000000000002)
  pub e12 : NameTickAnswer (name_of 0x7000000000000002) gives ticks (minus 106039) (pos 0) (minus 65536)
  pub e12_corner : TickAnswer (written 401) 1 gives ticks (minus 106039) (pos 0) (minus 65536)
  -- "All holders of (0,0,1) at degree 0, whole: 100, 500; count 2.", in any list of six places or more
  pub whole : (out : List ℕ) → 6 ≤ length out
      → ListAnswer 0 (towards (pos 0) (pos 0) (pos 1)) out
      leaves (count_answer 0 2, over (words_for (100 ∷ 500 ∷ [])) out)

-- How the corners turn (document 02, 2026-06), beside E8 to E10.
pub record Crossings : Type 0 where
  -- inside a side they are exchanged
  pub inside : CrossAnswer (written 1000) 1 gives step_answer 0 (written 1001) 1 3 2
  -- on the seam from 100 to 500 and back
  pub seam : CrossAnswer (written 100) 3 gives step_answer 0 (written 500) 2 1 3
  pub seam_back : CrossAnswer (written 500) 2 gives step_answer 0 (written 100) 3 1 2
  -- refused, with zeros in the new fields
  pub no_edge : CrossAnswer (written 1001) 4 gives step_answer 5 (code_of 0) 0 0 0

-- Parent and child.
pub record Family : Type 0 where
  pub child : ChildAnswer (written 1001) 3 gives code_answer 0 (written 10013)
  pub parent : ParentAnswer (written 10013) gives code_answer 0 (written 1001)
  pub no_parent : ParentAnswer (written 100) gives code_answer 6 (code_of 0)
  pub no_child : ChildAnswer (written 1001) 4 gives code_answer 5 (code_of 0)

-- Weights of the corners of 10012, one of them kept: "At each step a kept corner's weights are doubled and a middle's
-- weights are the sum of its two ends'."
pub record Weighed : Type 0 where
  pub w1 : (out : List ℕ) → 12 ≤ length out
      → WeightsAnswer (written 10012) 1 out leaves (0, over (3 ∷ 0 ∷ 1 ∷ replicate 9 0) out)
  pub w2 : (out : List ℕ) → 12 ≤ length out
      → WeightsAnswer (written 10012) 2 out leaves (0, over (2 ∷ 0 ∷ 2 ∷ replicate 9 0) out)
  pub w3 : (out : List ℕ) → 12 ≤ length out
      → WeightsAnswer (written 10012) 3 out leaves (0, over (2 ∷ 0 ∷ 1 ∷ 1 ∷ replicate 8 0) out)
  -- the last of these by its name
  pub named : (out : List ℕ) → 12 ≤ length out
      → NameWeightsAnswer (corner_in 10000 1) out leaves (0, over (2 ∷ 0 ∷ 1 ∷ 1 ∷ replicate 8 0) out)

-- Rings: five round V(00) at degree 0, and six round the middle of the edge from V(00) to V(10) at degree 1, in any
-- list of six places or more.
pub record Rings : Type 0 where
  pub five : (out : List ℕ) → 6 ≤ length out
      → RingAnswer (corner_in 100 1) out
      leaves (count_answer 0 5, over (words_for (100 ∷ 200 ∷ 300 ∷ 400 ∷ 500 ∷ [])) out)
  pub six : (out : List ℕ) → 6 ≤ length out
      → RingAnswer (corner_in 1000 3) out
      leaves (count_answer 0 6, over (words_for (1000 ∷ 1001 ∷ 5001 ∷ 5000 ∷ 5003 ∷ 1002 ∷ [])) out)

-- Lent lists to their last place: 7 stays where nothing is written.
pub record Places : Type 0 where
  -- "the sixth place stays unchanged when there are 5"
  pub ring : RingAnswer (corner_in 100 1) (replicate 7 7)
      leaves (count_answer 0 5, words_for (100 ∷ 200 ∷ 300 ∷ 400 ∷ 500 ∷ []) ++ replicate 2 7)
  -- "places after the count are unchanged"
  pub holders : ListAnswer 0 up (replicate 7 7) leaves (count_answer 0 2, words_for (100 ∷ 500 ∷ []) ++ replicate 5 7)
  -- "A longer list is allowed; only its first 12 or 6 places are used."
  pub weights : WeightsAnswer (written 100) 3 (replicate 13 7)
      leaves (0, 0 ∷ 0 ∷ 0 ∷ 1 ∷ replicate 8 0 ++ replicate 1 7)
  -- "lent memory keeps its contents"
  pub short_ring : RingAnswer (corner_in 100 1) (replicate 5 7) leaves (count_answer 9 0, replicate 5 7)
  pub short_holders : ListAnswer 0 up (replicate 5 7) leaves (count_answer 9 0, replicate 5 7)
  pub short_weights : WeightsAnswer (written 100) 3 (replicate 11 7) leaves (9, replicate 11 7)

-- Exact coordinates, t, and drawn coordinates to the bit.
pub record Points : Type 0 where
  -- V(41): (-φ, 0, -1)
  pub v41 : PlaceAnswer (written 401) 1
      gives place (golden (pos 0) (minus 1)) (golden (pos 0) (pos 0)) (golden (minus 1) (pos 0))
  pub v41_name : NamePlaceAnswer (name_of 0x7000000000000002)
      gives place (golden (pos 0) (minus 1)) (golden (pos 0) (pos 0)) (golden (minus 1) (pos 0))
  -- the middle of the edge from V(00) to V(20): (φ, 1, 1 + φ)
  pub middle : PlaceAnswer (written 1001) 3
      gives place (golden (pos 0) (pos 1)) (golden (pos 1) (pos 0)) (golden (pos 1) (pos 1))
  pub no_corner : PlaceAnswer (written 1001) 4 gives no_coordinates 5
  -- document 02, 2026-02: "V(20) has t 106039", and V(41), which lies opposite, the negative
  pub v20_ticks : TickAnswer (written 200) 2 gives ticks (pos 106039) (pos 0) (pos 65536)
  pub v20_ticks_name : NameTickAnswer (name_of 0x2000000000000003) gives ticks (pos 106039) (pos 0) (pos 65536)
  -- both at degree 1, where 65,536·2φ is about 212078.95
  pub v20_deeper : TickAnswer (written 2002) 2 gives ticks (pos 212079) (pos 0) (pos 131072)
  pub v41_deeper : TickAnswer (written 4011) 1 gives ticks (minus 212079) (pos 0) (minus 131072)
  -- V(41) drawn: -106039/65536, 0, -65536/65536
  pub drawn : DrawAnswer (written 401) 1 gives point 0 0xbff9e37000000000 0 0xbff0000000000000
  pub drawn_name : NameDrawAnswer (name_of 0x7000000000000002) gives point 0 0xbff9e37000000000 0 0xbff0000000000000
  -- V(20) drawn: the same bits but for the sign's, and the same zero
  pub v20_drawn : DrawAnswer (written 200) 2 gives point 0 0x3ff9e37000000000 0 0x3ff0000000000000
  -- the middle of the edge from V(00) to V(10) at degree 1: 0, 0, 212079/131072
  pub drawn_middle : NameDrawAnswer (corner_in 1000 3) gives point 0 0 0 0x3ff9e37800000000
  -- "A zero, also in a refusal, is the positive zero."
  pub not_drawn : NameDrawAnswer (name_of 0) gives point 2 0 0 0

-- Refusals at their bounds, and which is given where several hold.
pub record Bounds : Type 0 where
  -- "The word 0 is neither."
  pub word_0 : check_code (code_of 0) ≡ 2
  pub word_0_name : check_name (name_of 0) ≡ 2
  -- 1: "degree 24 accepted and 25 refused"
  pub degree_24 : check_code (code_of (zero_digits 24)) ≡ 0
  pub degree_25 : check_code (code_of (zero_digits 25)) ≡ 1
  pub degree_25_name : check_name (name_of (zero_digits 25 + 1)) ≡ 1
  pub all_ones : check_code (code_of (2 ^ 64 - 1)) ≡ 1
  pub file_24 : refuse_file 24 up ≡ 0
  pub file_25 : refuse_file 25 up ≡ 1
  pub list_24 : refuse_list 24 up (replicate 6 7) ≡ 0
  pub list_25 : refuse_list 25 up (replicate 6 7) ≡ 1
  pub back_24 : refuse_back 24 (2 ^ 24 ∷ replicate 11 0) ≡ 0
  pub back_25 : refuse_back 25 (2 ^ 25 ∷ replicate 11 0) ≡ 1
  -- 2: "a is 0, 6 or 7"
  pub a_5 : check_code (code_of (5 * 2 ^ 61)) ≡ 0
  pub a_6 : check_code (code_of (6 * 2 ^ 61)) ≡ 2
  pub a_7 : check_code (code_of (7 * 2 ^ 61)) ≡ 2
  -- 3: "a digit beyond the degree is not 0"
  pub digit_beyond : check_code (code_of (zero_digits 0 + 2 ^ 52)) ≡ 3
  pub last_digit_beyond : check_code (code_of (zero_digits 23 + 2 ^ 6)) ≡ 3
  pub last_digit : check_code (code_of (zero_digits 24 + 2 ^ 6)) ≡ 0
  -- 4: "the four zero bits are not zero, or the corner number does not fit the kind of word"
  pub zero_bits : check_code (code_of (zero_digits 0 + 4)) ≡ 4
  pub zero_bits_name : check_name (name_of (zero_digits 0 + 32 + 1)) ≡ 4
  pub code_with_corner : check_code (code_of (zero_digits 0 + 1)) ≡ 4
  pub name_without_corner : check_name (name_of (zero_digits 0)) ≡ 4
  -- 10: "a word passes 1 to 4 as a corner name and is not the canonical one"
  pub canonical : check_name (corner_in 100 3) ≡ 0
  pub not_canonical : check_name (corner_in 200 2) ≡ 10
  -- 5: "an edge or corner argument is not 1 to 3, or a child digit is not 0 to 3"
  pub corner_0 : refuse_numbered (written 100) 0 ≡ 5
  pub corner_1 : refuse_numbered (written 100) 1 ≡ 0
  pub corner_3 : refuse_numbered (written 100) 3 ≡ 0
  pub corner_4 : refuse_numbered (written 100) 4 ≡ 5
  pub digit_3 : refuse_child (written 100) 3 ≡ 0
  pub digit_4 : refuse_child (written 100) 4 ≡ 5
  -- 6: "parent of degree 0, or child of degree 24"
  pub parent_of_0 : refuse_parent (written 100) ≡ 6
  pub parent_of_1 : refuse_parent (written 1001) ≡ 0
  pub child_of_23 : refuse_child (code_of (zero_digits 23)) 3 ≡ 0
  pub child_of_24 : refuse_child (code_of (zero_digits 24)) 3 ≡ 6
  -- 7: "the direction is (0, 0, 0)"
  pub nowhere : refuse_file 0 (towards (pos 0) (pos 0) (pos 0)) ≡ 7
  pub only_x : refuse_file 0 (towards (pos 1) (pos 0) (pos 0)) ≡ 0
  pub only_y : refuse_file 0 (towards (pos 0) (pos 1) (pos 0)) ≡ 0
  pub only_z : refuse_file 0 (towards (pos 0) (pos 0) (pos 1)) ≡ 0
  -- 8: "coordinate 1,000,000,000 accepted and 1,000,000,001 refused"
  pub far : refuse_file 24 (towards (pos 1000000000) (pos 1000000000) (pos 1000000000)) ≡ 0
  pub far_minus : refuse_file 24 (towards (minus 1000000000) (minus 1000000000) (minus 1000000000)) ≡ 0
  pub far_x : refuse_file 24 (towards (pos 1000000001) (pos 0) (pos 0)) ≡ 8
  pub far_y : refuse_file 24 (towards (pos 0) (pos 1000000001) (pos 0)) ≡ 8
  pub far_z : refuse_file 24 (towards (pos 0) (pos 0) (pos 1000000001)) ≡ 8
  pub far_x_minus : refuse_file 24 (towards (minus 1000000001) (pos 0) (pos 0)) ≡ 8
  pub far_y_minus : refuse_file 24 (towards (pos 0) (minus 1000000001) (pos 0)) ≡ 8
  pub far_z_minus : refuse_file 24 (towards (pos 0) (pos 0) (minus 1000000001)) ≡ 8
  -- 9: "list lengths 5 and 6, 11 and 12"
  pub ring_5 : refuse_ring (corner_in 100 1) (replicate 5 7) ≡ 9
  pub ring_6 : refuse_ring (corner_in 100 1) (replicate 6 7) ≡ 0
  pub list_5 : refuse_list 0 up (replicate 5 7) ≡ 9
  pub list_6 : refuse_list 0 up (replicate 6 7) ≡ 0
  pub weights_11 : refuse_weights (written 100) 3 (replicate 11 7) ≡ 9
  pub weights_12 : refuse_weights (written 100) 3 (replicate 12 7) ≡ 0
  pub name_weights_11 : refuse_name_weights (corner_in 100 3) (replicate 11 7) ≡ 9
  pub name_weights_12 : refuse_name_weights (corner_in 100 3) (replicate 12 7) ≡ 0
  pub back_11 : refuse_back 0 (1 ∷ replicate 10 0) ≡ 9
  pub back_12 : refuse_back 0 (1 ∷ replicate 11 0) ≡ 0
  -- 11: "no corner of the degree has the twelve weights"
  pub three_weights : refuse_back 2 (2 ∷ 0 ∷ 1 ∷ 1 ∷ replicate 8 0) ≡ 0
  pub not_one_side : refuse_back 1 (1 ∷ 1 ∷ replicate 10 0) ≡ 11
  pub another_sum : refuse_back 1 (1 ∷ replicate 11 0) ≡ 11
  -- "its sum is meant exactly, never wrapped": here it is 2^64 + 1
  pub wrapped : refuse_back 0 ((2 ^ 64 - 1) ∷ 0 ∷ 2 ∷ replicate 9 0) ≡ 11
  -- "only its first 12 or 6 places are used": a thirteenth weight does not count
  pub thirteenth : refuse_back 0 (1 ∷ replicate 11 0 ++ (5 ∷ [])) ≡ 0
  -- "Where several hold, the order is 1, 2, 3, 4, 10, 5, 6, 8, 7, 9, 11." (Row 10 asks that 1 to 4 pass, so none
  -- of them holds with it; no call can break 10 and 5, or 6 and 8; and 8 and 7 never both hold.)
  pub one_before_two : check_code (code_of (25 * 2 ^ 54)) ≡ 1
  pub two_before_three : check_code (code_of 64) ≡ 2
  pub three_before_four : check_code (code_of (zero_digits 0 + 64 + 1)) ≡ 3
  pub four_before_five : refuse_numbered (code_of (zero_digits 0 + 1)) 0 ≡ 4
  pub four_not_ten : check_name (name_of ((written 200).0 + 4 + 2)) ≡ 4
  pub four_before_six : refuse_parent (code_of (zero_digits 0 + 1)) ≡ 4
  pub ten_before_nine : refuse_name_weights (corner_in 200 2) [] ≡ 10
  pub ten_before_nine_ring : refuse_ring (corner_in 200 2) [] ≡ 10
  pub five_before_six : refuse_child (code_of (zero_digits 24)) 4 ≡ 5
  pub five_before_nine : refuse_weights (written 100) 4 [] ≡ 5
  pub one_before_eight : refuse_file 25 (towards (minus 2147483648) (pos 0) (pos 0)) ≡ 1
  pub one_before_seven : refuse_file 25 (towards (pos 0) (pos 0) (pos 0)) ≡ 1
  pub eight_before_nine : refuse_list 24 (towards (pos 1000000001) (pos 0) (pos 0)) (replicate 5 7) ≡ 8
  pub seven_before_nine : refuse_list 24 (towards (pos 0) (pos 0) (pos 0)) (replicate 5 7) ≡ 7
  pub one_before_nine : refuse_back 25 [] ≡ 1
  pub nine_before_eleven : refuse_back 0 (replicate 11 0) ≡ 9
