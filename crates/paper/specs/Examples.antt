-- Document 02, 2026-13: examples, and wrong answers. Assumes nothing.
use Rattle.std.specs.Prelude.{[], ◌∷◌, ℕ, suc, replicate}
use Rattle.frame.specs.Promises.{◌gives◌, ◌leaves◌}
use Rattle.words.specs.Family.{code_of, code_answer, no_code}
use Rattle.words.specs.Writing.{written, zero_digits}
use Rattle.net.specs.Corners.{name_of}
use Rattle.corners.specs.Answers.{count_answer, name_answer, no_count, no_name}
use Rattle.paper.specs.Answers.{FromDomainAnswer, FromVertexAnswer, ToDomainAnswer, ToVertexAnswer}

pub record Examples : Type 0 where
  -- S(511) and S(5113210): digit for digit
  pub side : FromDomainAnswer (5 ∷ 1 ∷ 1 ∷ []) gives code_answer 0 (written 511)
  pub domain : FromDomainAnswer (5 ∷ 1 ∷ 1 ∷ 3 ∷ 2 ∷ 1 ∷ 0 ∷ []) gives code_answer 0 (written 5113210)
  pub to_domain : ToDomainAnswer (written 5113210) (replicate 28 9)
      leaves (count_answer 0 7, 5 ∷ 1 ∷ 1 ∷ 3 ∷ 2 ∷ 1 ∷ 0 ∷ replicate 21 9)
  -- V(10), which is corner 2 of 100, and V(00) at degree 0 and V(01) at degree 2: "a sequence of digits 0"
  pub ring : FromVertexAnswer (1 ∷ 0 ∷ []) gives name_answer 0 (name_of 0x2000000000000002)
  pub pole : FromVertexAnswer (0 ∷ 0 ∷ []) gives name_answer 0 (name_of 0x2000000000000001)
  pub pole_01 : FromVertexAnswer (0 ∷ 1 ∷ 0 ∷ 0 ∷ []) gives name_answer 0 (name_of 0x3094000000000001)
  pub to_pole : ToVertexAnswer (name_of 0x3094000000000001) (replicate 26 9)
      leaves (count_answer 0 4, 0 ∷ 1 ∷ 0 ∷ 0 ∷ replicate 22 9)
  -- (63) to (68): V(a01) = C(V(a0), V(a+0)), V(a02) = C(V(a0), V(a1)), V(a03) = C(V(a0), V(00)),
  -- V(a11) = C(V(a1), V(a+1)), V(a12) = C(V(a1), V(01)), V(a13) = C(V(a1), V(a+0))
  pub v101 : FromVertexAnswer (1 ∷ 0 ∷ 1 ∷ []) gives name_answer 0 (name_of 0x2040000000000001)
  pub v102 : FromVertexAnswer (1 ∷ 0 ∷ 2 ∷ []) gives name_answer 0 (name_of 0x2840000000000002)
  pub v103 : FromVertexAnswer (1 ∷ 0 ∷ 3 ∷ []) gives name_answer 0 (name_of 0x2040000000000003)
  pub v111 : FromVertexAnswer (1 ∷ 1 ∷ 1 ∷ []) gives name_answer 0 (name_of 0x3040000000000001)
  pub v112 : FromVertexAnswer (1 ∷ 1 ∷ 2 ∷ []) gives name_answer 0 (name_of 0x3040000000000002)
  pub v113 : FromVertexAnswer (1 ∷ 1 ∷ 3 ∷ []) gives name_answer 0 (name_of 0x2840000000000003)
  -- a longer one, that ends in 0
  pub vertex : FromVertexAnswer (2 ∷ 1 ∷ 3 ∷ 2 ∷ 0 ∷ []) gives name_answer 0 (name_of 0x58C2000000000002)
  pub to_vertex : ToVertexAnswer (name_of 0x58C2000000000002) (replicate 27 9)
      leaves (count_answer 0 5, 2 ∷ 1 ∷ 3 ∷ 2 ∷ 0 ∷ replicate 22 9)
  -- "A paper code above degree 24 is refusal 1", whatever its digits are; "one the paper's text doesn't allow is 33,
  -- checked after it"
  pub too_deep : FromDomainAnswer (replicate 28 9) gives no_code 1
  pub vertex_too_deep : FromVertexAnswer (replicate 27 9) gives no_name 1
  pub none : FromDomainAnswer [] gives no_code 33
  pub too_few : FromDomainAnswer (1 ∷ 0 ∷ []) gives no_code 33
  pub a_0 : FromDomainAnswer (0 ∷ 0 ∷ 0 ∷ []) gives no_code 33
  pub a_6 : FromDomainAnswer (6 ∷ 0 ∷ 0 ∷ []) gives no_code 33
  pub p_2 : FromDomainAnswer (1 ∷ 2 ∷ 0 ∷ []) gives no_code 33
  pub q_2 : FromDomainAnswer (1 ∷ 0 ∷ 2 ∷ []) gives no_code 33
  pub digit_4 : FromDomainAnswer (1 ∷ 0 ∷ 0 ∷ 4 ∷ []) gives no_code 33
  pub vertex_too_few : FromVertexAnswer (1 ∷ []) gives no_name 33
  pub vertex_a_6 : FromVertexAnswer (6 ∷ 0 ∷ []) gives no_name 33
  pub vertex_p_2 : FromVertexAnswer (0 ∷ 2 ∷ []) gives no_name 33
  pub vertex_digit_4 : FromVertexAnswer (1 ∷ 0 ∷ 4 ∷ []) gives no_name 33
  pub polar_1 : FromVertexAnswer (0 ∷ 0 ∷ 0 ∷ 1 ∷ []) gives no_name 33
  -- to the paper: as checking the word, then 9
  pub degree_25 : ToDomainAnswer (code_of (zero_digits 25)) [] leaves (no_count 1, [])
  pub name_for_code : ToDomainAnswer (code_of 0x2000000000000003) [] leaves (no_count 4, [])
  pub short : ToDomainAnswer (written 511) (replicate 26 9) leaves (no_count 9, replicate 26 9)
  pub not_canonical : ToVertexAnswer (name_of 0x4000000000000002) [] leaves (no_count 10, [])
  pub vertex_short : ToVertexAnswer (name_of 0x2000000000000002) (replicate 25 9) leaves (no_count 9, replicate 25 9)

-- Where the refusals begin.
pub record Bounds : Type 0 where
  pub deepest : FromDomainAnswer (5 ∷ 1 ∷ 1 ∷ replicate 24 3) gives code_answer 0 (written 511333333333333333333333333)
  pub one_deeper : FromDomainAnswer (5 ∷ 1 ∷ 1 ∷ replicate 25 3) gives no_code 1
  pub vertex_deepest : FromVertexAnswer (4 ∷ 0 ∷ replicate 24 3) gives name_answer 0 (name_of 0x6615555555555502)
  pub vertex_one_deeper : FromVertexAnswer (4 ∷ 0 ∷ replicate 25 3) gives no_name 1
  pub long_enough : ToDomainAnswer (written 511) (replicate 27 9)
      leaves (count_answer 0 3, 5 ∷ 1 ∷ 1 ∷ replicate 24 9)
  pub all_places : ToDomainAnswer (written 511333333333333333333333333) (replicate 27 9)
      leaves (count_answer 0 27, 5 ∷ 1 ∷ 1 ∷ replicate 24 3)
  pub vertex_all_places : ToVertexAnswer (name_of 0x6615555555555502) (replicate 26 9)
      leaves (count_answer 0 26, 4 ∷ 0 ∷ replicate 24 3)
  pub vertex_long_enough : ToVertexAnswer (name_of 0x2000000000000002) (replicate 26 9)
      leaves (count_answer 0 2, 1 ∷ 0 ∷ replicate 24 9)

-- Wrong programs, each by an answer of its own.
pub record Mistakes : Type 0 where
  -- digits reversed
  pub reversed : FromDomainAnswer (5 ∷ 1 ∷ 1 ∷ 3 ∷ 2 ∷ 1 ∷ 0 ∷ []) (code_answer 0 (written 5110123)) → ⊥
  pub to_reversed : ToDomainAnswer (written 5113210) (replicate 27 9) (count_answer 0 7)
      (5 ∷ 1 ∷ 1 ∷ 0 ∷ 1 ∷ 2 ∷ 3 ∷ replicate 20 9) → ⊥
  -- digits 2 and 3 exchanged by orientation: S(101) has orientation 1, where the e-indices of 2 and 3 are 3 and 2
  pub e_index : FromDomainAnswer (1 ∷ 0 ∷ 1 ∷ 3 ∷ 2 ∷ []) (code_answer 0 (written 10123)) → ⊥
  -- corner 2 of the other domain, σ(1, T): for V(10) that of 101, which is V(20)
  pub other_domain : FromVertexAnswer (1 ∷ 0 ∷ []) (name_answer 0 (name_of 0x2000000000000003)) → ⊥
  -- direction 2 taken for 3, and 3 for 2
  pub direction_2 : FromVertexAnswer (1 ∷ 0 ∷ 2 ∷ []) (name_answer 0 (name_of 0x2040000000000003)) → ⊥
  pub direction_3 : FromVertexAnswer (1 ∷ 0 ∷ 3 ∷ []) (name_answer 0 (name_of 0x2840000000000002)) → ⊥
  -- the polar code with a = 1, as its name has it
  pub pole_as_1 : ToVertexAnswer (name_of 0x2000000000000001) (replicate 26 9) (count_answer 0 2)
      (1 ∷ 0 ∷ replicate 24 9) → ⊥
  -- trailing zeros dropped, in the list, in the count, or in both
  pub zeros_dropped : ToVertexAnswer (name_of 0x58C2000000000002) (replicate 26 9) (count_answer 0 4)
      (2 ∷ 1 ∷ 3 ∷ 2 ∷ replicate 22 9) → ⊥
  pub not_written : ToVertexAnswer (name_of 0x58C2000000000002) (replicate 26 9) (count_answer 0 5)
      (2 ∷ 1 ∷ 3 ∷ 2 ∷ replicate 22 9) → ⊥
  pub not_counted : ToVertexAnswer (name_of 0x58C2000000000002) (replicate 26 9) (count_answer 0 4)
      (2 ∷ 1 ∷ 3 ∷ 2 ∷ 0 ∷ replicate 21 9) → ⊥
  -- later places cleared
  pub cleared : ToDomainAnswer (written 511) (replicate 27 9) (count_answer 0 3) (5 ∷ 1 ∷ 1 ∷ replicate 24 0) → ⊥
  -- 33 before 1
  pub before_1 : FromDomainAnswer (replicate 28 9) (no_code 33) → ⊥
  -- refuses everything, or nothing
  pub refuses : (k : ℕ) → FromDomainAnswer (5 ∷ 1 ∷ 1 ∷ []) (no_code (suc k)) → ⊥
  pub answers : FromVertexAnswer (0 ∷ 0 ∷ 0 ∷ 1 ∷ []) (name_answer 0 (name_of 0x2094000000000001)) → ⊥
  -- names the corner by a triangle that is not the least
  pub not_least : FromVertexAnswer (1 ∷ 1 ∷ 1 ∷ []) (name_answer 0 (name_of 0x3840000000000001)) → ⊥
