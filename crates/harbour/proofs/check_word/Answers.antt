-- Row by row; and all that stands below the digits at once, as in checking a large word (WordLayout). Assumes nothing.
use mathlib.Core.Path.{◌≡◌, ◌∙◌, sym, ap}
use mathlib.Core.Bool.{false, not}
use mathlib.Core.List.{◌++◌}
use Prim.Native.Nat.{ℕ, ◌-◌, ◌*◌, ◌/◌, ◌%◌, ◌^◌, ◌≤◌}
use native.Mathlib.Nat.{pos_of_ne-zero}
use native.Mathlib.Omega.{arith}
use lib.Dec.{ltb, eqb}
use lib.Pow.{pow_pos}
use borrow.Author.Tests.{le-ltb, lt-ltb, eq-eqb, ne_eqb}
use Rattle.frame.specs.Refusals.{◌either◌, first_of}
use Rattle.frame.proofs.Refusing.{First, here, next, refuse_before, refuse_after, either_left, either_right}
use Rattle.frame.proofs.Refusing.{either_false}
use Rattle.frame.proofs.Told.{number_some, told_handed}
use Rattle.words.specs.Forms.{a_in, degree_in, beyond_in, low_in}
use Rattle.words.specs.Refusals.{field_rows}
use Rattle.words.proofs.WordLayout.{below_zero}
use Rattle.harbour.specs.Small.{small, small_code}
use Rattle.harbour.specs.Refusals.{harbour_order, depth_rows, last_bit_rows, check_small}
use Rattle.harbour.proofs.SmallWords.{depth_passes, small_passes}
use Rattle.harbour.proofs.check_word.Goals as goal

-- ---- the rows after 30

module _ (w : ℕ) (l : degree_in small w ≤ 11) where
  after_30 : {k : ℕ} → First (field_rows small w ++ last_bit_rows (small_code w)) k → k ≡ check_small (small_code w)
  unfolding check_small
  after_30 f =
      let n = degree_in small w in
      refuse_after harbour_order harbour_order (depth_rows n) _ tt tt ((depth_passes n).1 l) f

  module _ (x : a_in small w ≡ 0 → ⊥) (y : a_in small w ≤ 5) where
    a_good : (eqb (a_in small w) 0 either ltb 5 (a_in small w)) ≡ false
    a_good = (either_false _ _).1 (ne_eqb (a_in small w) 0 x, le-ltb 5 _ y)

    is_code : beyond_in small w (degree_in small w) ≡ 0 → low_in small w ≡ 0 → 0 ≡ check_small (small_code w)
    is_code b z =
        sym ((small_passes (small_code w)).1 (record { degree = l; a_low = pos_of_ne-zero x; a_high = y; clear = b }, z))

-- ---- the goals; the degree as the code has it and as the law

pub returns-in_err-refuse_depth : goal.returns-in_err-refuse_depth
unfolding check_small
returns-in_err-refuse_depth c =
    told_handed _ _ c.from_residual.ensures
    (refuse_before harbour_order harbour_order (depth_rows (degree_in small c.args.w)) _ tt tt
    (c.in_err-refuse_depth.ensures ∙ ap (λ (n : ℕ). first_of harbour_order (depth_rows n)) c.degree_in-n.ensures)
    (number_some _))

shallow : (w n : ℕ) → n ≡ degree_in small w → 0 ≡ first_of harbour_order (depth_rows n) → degree_in small w ≤ 11
shallow w n d e =
    (depth_passes (degree_in small w)).0 (sym (e ∙ ap (λ (m : ℕ). first_of harbour_order (depth_rows m)) d))

pub returns-then-a-eq0 : goal.returns-then-a-eq0
returns-then-a-eq0 c =
    let w = c.args.w in
    after_30 w (shallow w _ c.degree_in-n.ensures c.in_ok-refuse_depth.ensures)
    (here (either_left _ _ (eq-eqb (a_in small w) 0 c.if-a-eq0.true)))

pub returns-then-a-gt5 : goal.returns-then-a-gt5
returns-then-a-gt5 c =
    let w = c.args.w in
    after_30 w (shallow w _ c.degree_in-n.ensures c.in_ok-refuse_depth.ensures)
    (here (either_right (eqb (a_in small w) 0) _ (lt-ltb 5 (a_in small w) c.if-a-gt5.true)))

pub overflow_sub-n : goal.overflow_sub-n
overflow_sub-n c =
    omega (arith, shallow _ _ c.degree_in-n.ensures c.in_ok-refuse_depth.ensures, c.degree_in-n.ensures)

pub nonzero_rem-w : goal.nonzero_rem-w
nonzero_rem-w c = rw c.power.ensures (pow_pos _)

-- all below the digits, and those beyond the degree
below_is : (w n p : ℕ) → n ≡ degree_in small w → p ≡ 2 ^ (23 - 2 * n) → w % p ≡ w % 2 ^ (23 - 2 * degree_in small w)
below_is w n p d e = ap (λ (q : ℕ). w % q) (e ∙ ap (λ (m : ℕ). 2 ^ (23 - 2 * m)) d)

beyond_is : (w n b : ℕ) → n ≡ degree_in small w → b ≡ w / 2 % 2 ^ (22 - 2 * n)
    → b ≡ beyond_in small w (degree_in small w)
beyond_is w n b d e = e ∙ ap (λ (m : ℕ). w / 2 % 2 ^ (22 - 2 * m)) d

pub returns-then-w-power-eq0 : goal.returns-then-w-power-eq0
returns-then-w-power-eq0 c =
    let w = c.args.w in
    let d = c.degree_in-n.ensures in
    let l = shallow w _ d c.in_ok-refuse_depth.ensures in
    let z = (below_zero small w (degree_in small w) l).0
    (sym (below_is w _ _ d c.power.ensures) ∙ c.if-w-power-eq0.true) in
    is_code w l c.if-a-eq0.false c.if-a-gt5.false z.0 z.1

pub overflow_sub-n-2 : goal.overflow_sub-n-2
overflow_sub-n-2 c =
    omega (arith, shallow _ _ c.degree_in-n.ensures c.in_ok-refuse_depth.ensures, c.degree_in-n.ensures)

pub returns-then-bits_of-eq0 : goal.returns-then-bits_of-eq0
returns-then-bits_of-eq0 c =
    let w = c.args.w in
    let n = degree_in small w in
    let d = c.degree_in-n.ensures in
    let l = shallow w _ d c.in_ok-refuse_depth.ensures in
    let b : beyond_in small w n ≡ 0 = sym (beyond_is w _ _ d c.bits_of.ensures) ∙ c.if-bits_of-eq0.true in
    let some : low_in small w ≡ 0 → ⊥ =
    λ z. c.if-w-power-eq0.false (below_is w _ _ d c.power.ensures ∙ (below_zero small w n l).1 (b, z)) in
    after_30 w l (next (a_good w l c.if-a-eq0.false c.if-a-gt5.false)
    (next (ap not (eq-eqb (beyond_in small w n) 0 b)) (here (ap not (ne_eqb (low_in small w) 0 some)))))

pub returns : goal.returns
returns c =
    let w = c.args.w in
    let d = c.degree_in-n.ensures in
    let l = shallow w _ d c.in_ok-refuse_depth.ensures in
    let some = ne_eqb (beyond_in small w (degree_in small w)) 0
    (λ z. c.if-bits_of-eq0.false (beyond_is w _ _ d c.bits_of.ensures ∙ z)) in
    after_30 w l (next (a_good w l c.if-a-eq0.false c.if-a-gt5.false) (here (ap not some)))
