-- The calls on the small form beside the large ones: they refuse the same once the word, or the degree, has passed, and
-- what the large ones answer has a small form. Assumes nothing.
use mathlib.Core.Path.{◌≡◌, ◌∙◌, refl, sym}
use mathlib.Core.List.{◌++◌}
use Prim.Native.Nat.{ℕ, ◌≤◌}
use native.Mathlib.Omega.{arith}
use borrow.Author.Tests.{le-ltb}
use Rattle.frame.specs.Refusals.{first_of, order}
use Rattle.frame.proofs.Refusing.{none_so, none_after, refuse_rest}
use Rattle.frame.proofs.Answering.{number_is}
use Rattle.words.specs.Refusals.{check_code, code_rows, degree_rows}
use Rattle.words.specs.Family.{CodeAnswer}
use Rattle.net.specs.Refusals.{one_to_three_rows}
use Rattle.filing.specs.Refusals.{direction_rows}
use Rattle.filing.specs.declared.Direction.{Direction}
use Rattle.corners.specs.Refusals.{refuse_numbered}
use Rattle.corners.specs.Answers.{CrossAnswer, Crossed}
use Rattle.corners.specs.Answers.{StepAnswer}
use Rattle.directions.specs.Refusals.{refuse_file}
use Rattle.directions.specs.Answers.{FileAnswer, Filed}
use Rattle.harbour.specs.Small.{large_of}
use Rattle.harbour.specs.Refusals.{harbour_order, depth_rows, small_rows, check_small, refuse_write}
use Rattle.harbour.specs.Refusals.{refuse_small_cross, refuse_small_file}
use Rattle.harbour.specs.declared.SmallCode.{SmallCode}
use Rattle.harbour.proofs.SmallWords.{shallow, depth_passes, write_passes, low_degree, large_code}

-- ---- crossing

module _ (s : SmallCode) (k : ℕ) where
  pub cross_code : refuse_small_cross s k ≡ 0 → check_small s ≡ 0
  unfolding refuse_small_cross check_small
  cross_code z = ((none_after harbour_order harbour_order (small_rows s) (one_to_three_rows k) tt tt).0 z).0

  module _ (h : check_small s ≡ 0) where
    pub cross_same : refuse_numbered (large_of s) k ≡ refuse_small_cross s k
    unfolding refuse_small_cross check_small refuse_numbered check_code
    cross_same =
        sym (refuse_rest order order order (code_rows (large_of s)) (one_to_three_rows k) tt tt tt (large_code s h).passes)
        ∙ refuse_rest harbour_order order harbour_order (small_rows s) (one_to_three_rows k) tt tt tt h

    pub cross_number : (a : StepAnswer) → CrossAnswer (large_of s) k a → a.refusal ≡ refuse_small_cross s k
    cross_number a x = number_is (λ (r : StepAnswer). r.refusal) refl (λ r g. g.number) x ∙ cross_same

    pub neighbour_small : (a : StepAnswer) → Crossed (large_of s) k a → refuse_write a.code ≡ 0
    neighbour_small a x =
        let c = x.across.code in
        (write_passes a.code).1 (c.passes, omega (arith, c.degree_is, (large_code s h).degree_is, low_degree s h))

-- ---- filing

module _ (n : ℕ) (d : Direction) where
  pub file_degree : refuse_small_file n d ≡ 0 → n ≤ 11
  unfolding refuse_small_file
  file_degree z = let r = (none_so harbour_order (depth_rows n ++ direction_rows d) tt).0 z in shallow n r.0 r.1.0

  module _ (h : n ≤ 11) where
    pub file_same : refuse_file n d ≡ refuse_small_file n d
    unfolding refuse_small_file refuse_file
    file_same =
        let low : first_of order (degree_rows n) ≡ 0 =
        (none_so order (degree_rows n) tt).1 (le-ltb 24 n (omega arith), tt) in
        sym (refuse_rest order order order (degree_rows n) (direction_rows d) tt tt tt low)
        ∙ refuse_rest harbour_order order harbour_order (depth_rows n) (direction_rows d) tt tt tt ((depth_passes n).1 h)

    pub file_number : (a : CodeAnswer) → FileAnswer n d a → a.refusal ≡ refuse_small_file n d
    file_number a x = number_is (λ (r : CodeAnswer). r.refusal) refl (λ r g. g.number) x ∙ file_same

    pub filed_small : (a : CodeAnswer) → Filed n d a → refuse_write a.code ≡ 0
    filed_small a x =
        let c = x.is.code in (write_passes a.code).1 (c.passes, omega (arith, c.degree_is))
