-- Which words are small codes, and which codes have a small form; there and back between the forms. Assumes nothing.
use mathlib.Core.Path.{◌≡◌, ◌∙◌, refl, sym, ap}
use mathlib.Core.Bool.{Bool, true, false, not, ◌&&◌, true≢false}
use mathlib.Core.Logic.{◌↔◌}
use mathlib.Core.List.{◌++◌}
use Prim.Native.Nat.{ℕ, ◌+◌, ◌*◌, ◌/◌, ◌%◌, ◌^◌, ◌≤◌, ◌<◌}
use native.Mathlib.Omega.{arith}
use lib.Dec.{ltb, leb, lit<}
use borrow.Author.Tests.{ltb-false, eqb-true, not-false, le-ltb, lt-ltb, le-leb, eq-eqb}
use Rattle.frame.specs.Refusals.{first_of, order}
use Rattle.frame.proofs.Refusing.{none_so, none_after, refuse_rest}
use Rattle.words.specs.Forms.{degree_in, first_digits, side_in}
use Rattle.words.specs.Words.{large, degree_of, digits, side_of}
use Rattle.words.specs.Refusals.{degree_rows, field_rows, code_low_rows, check_code, IsCode}
use Rattle.words.specs.Family.{code_of}
use Rattle.words.specs.declared.TriangleCode.{TriangleCode}
use Rattle.words.proofs.WordLayout.{Roomy, side_top}
use Rattle.words.proofs.Digits.{large_roomy, digits_in, path_injective}
use Rattle.words.proofs.FormCodes.{CodeIn, rows_pass, fields_below}
use Rattle.words.proofs.Carrying.{carried_code, carried_side, carried_degree, carried_path, carried_back, carried_order}
use Rattle.words.proofs.Carrying.{carried_up, carried_down}
use Rattle.words.proofs.Codes.{code_passes}
use Rattle.harbour.specs.Small.{small, small_code, large_of, small_of}
use Rattle.harbour.specs.Refusals.{harbour_order, depth_rows, small_rows, check_small, refuse_write}
use Rattle.harbour.specs.declared.SmallCode.{SmallCode}

pub small_roomy : Roomy small
small_roomy = lit< tt

-- ---- the row of 30

module _ (n : ℕ) where
  pub not_deep : n ≤ 11 → ltb 11 n && leb n 24 ≡ false
  not_deep h = rw (le-ltb 11 n h)

  pub deep : 11 < n → n ≤ 24 → ltb 11 n && leb n 24 ≡ true
  deep h k = rw (lt-ltb 11 n h, le-leb n 24 k)

  pub shallow : ltb 24 n ≡ false → ltb 11 n && leb n 24 ≡ false → n ≤ 11
  shallow l e = go (ltb 11 n) refl (rw (le-leb n 24 (ltb-false 24 n l)) at e)
    where
      go : (b : Bool) → ltb 11 n ≡ b → (ltb 11 n && true ≡ false) → n ≤ 11
      go true q f = absurd (true≢false (rw q at f))
      go false q f = ltb-false 11 n q

  pub depth_passes : (first_of harbour_order (depth_rows n) ≡ 0) ↔ (n ≤ 11)
  depth_passes = (
    λ e. let r = (none_so harbour_order (depth_rows n) tt).0 e in shallow r.0 r.1.0,
    λ h. (none_so harbour_order (depth_rows n) tt).1 (le-ltb 24 n (omega (arith, h)), (not_deep h, tt)),
  )

-- ---- which words pass

pub small_passes : (s : SmallCode) → (check_small s ≡ 0) ↔ CodeIn small s.0
unfolding check_small
small_passes s =
    let w = s.0 in
    let n = degree_in small w in (
      λ e.
          let r = (none_so harbour_order (small_rows s) tt).0 e in
          let d = shallow n r.0 r.1.0 in
          let fields = (rows_pass small w d).0 (r.1.1.0, (r.1.1.1.0, tt)) in
          (fields, eqb-true _ _ (not-false _ r.1.1.1.1.0)),
      λ c.
          let d = c.0.degree in
          let r = (rows_pass small w d).1 c.0 in
          (none_so harbour_order (small_rows s) tt).1
          (le-ltb 24 n (omega (arith, d)), (not_deep n d, (r.0, (r.1.0, (ap not (eq-eqb _ _ c.1), tt))))),
    )

-- a code of degree 11 or less is refused as by checking it
pub write_same : (t : TriangleCode) → degree_of t.0 ≤ 11 → check_code t ≡ refuse_write t
unfolding check_code refuse_write
write_same t h =
    let n = degree_of t.0 in
    let rest = field_rows large t.0 ++ code_low_rows t in
    let low : first_of order (degree_rows n) ≡ 0 = (none_so order (degree_rows n) tt).1 (le-ltb 24 n (omega arith), tt) in
    sym (refuse_rest order order order (degree_rows n) rest tt tt tt low)
    ∙ refuse_rest harbour_order order harbour_order (depth_rows n) rest tt tt tt ((depth_passes n).1 h)

write_low : (t : TriangleCode) → refuse_write t ≡ 0 → degree_of t.0 ≤ 11
unfolding refuse_write
write_low t e =
    let n = degree_of t.0 in
    (depth_passes n).0 ((none_after harbour_order harbour_order (depth_rows n) _ tt tt).0 e).0

pub write_passes : (t : TriangleCode) → (refuse_write t ≡ 0) ↔ ((check_code t ≡ 0) × (degree_of t.0 ≤ 11))
write_passes t =
    (λ e. let d = write_low t e in (write_same t d ∙ e, d), λ p. sym (write_same t p.1) ∙ p.0)

-- ---- from the small form to the large one, and back

module _ (s : SmallCode) (h : check_small s ≡ 0) where
  code : CodeIn small s.0
  code = (small_passes s).0 h

  pub low_degree : degree_in small s.0 ≤ 11
  low_degree = code.0.degree

  n≤ : degree_in small s.0 ≤ 24
  n≤ = omega (arith, low_degree)

  pub large_code : IsCode (degree_in small s.0) (large_of s)
  large_code = record {
    passes = (code_passes (large_of s)).1 (carried_code small large large_roomy code n≤);
    degree_is = carried_degree small large large_roomy code n≤;
  }

  pub same_side_lem : side_of (large_of s).0 ≡ side_in small s.0
  same_side_lem = carried_side small large large_roomy code n≤

  pub same_digits_lem : let n = degree_in small s.0 in digits (large_of s).0 n ≡ first_digits small s.0 n
  same_digits_lem =
      let n = degree_in small s.0 in
      path_injective (digits_in large (large_of s).0 n) (digits_in small s.0 n)
      (carried_path small large large_roomy code n≤)

  pub there_back : small_of (large_of s) ≡ s
  there_back = let e = carried_back small large large_roomy code n≤ in λ i. small_code (e i)

  pub write_again : refuse_write (large_of s) ≡ 0
  write_again = (write_passes (large_of s)).1 (large_code.passes, omega (arith, large_code.degree_is, low_degree))

  -- the large word as it is computed
  pub large_number : s.0 / 134217728 * 576460752303423488 + degree_in small s.0 * 18014398509481984
      + s.0 % 8388608 * 2147483648
      ≡ (large_of s).0
  large_number =
      let w = s.0 in
      let u = carried_up small small_roomy code large 31 refl in
      let t = side_top small w in
      ap (λ (x : ℕ). x * 576460752303423488 + degree_in small w * 18014398509481984 + w % 8388608 * 2147483648) (sym t)
      ∙ sym u

-- ---- from the large form to the small one, and back

module _ (t : TriangleCode) (h : refuse_write t ≡ 0) where
  code' : CodeIn large t.0
  code' = (code_passes t).0 ((write_passes t).0 h).0

  pub shallow_code : degree_of t.0 ≤ 11
  shallow_code = ((write_passes t).0 h).1

  small_in : CodeIn small (small_of t).0
  small_in = carried_code large small small_roomy code' shallow_code

  pub small_code_lem : check_small (small_of t) ≡ 0
  small_code_lem = (small_passes (small_of t)).1 small_in

  pub back_there : large_of (small_of t) ≡ t
  back_there = let e = carried_back large small small_roomy code' shallow_code in λ i. code_of (e i)

  pub small_fits : (small_of t).0 < 2 ^ 32
  small_fits = fields_below small small_in.0

  -- the small word as it is computed
  pub small_number : side_of t.0 * 134217728 + degree_of t.0 * 8388608 + t.0 % 18014398509481984 / 2147483648
      ≡ (small_of t).0
  small_number = sym (carried_down large large_roomy code' small 31 shallow_code refl)

-- codes of one degree are in the same order in both forms
pub same_order_lem : (n : ℕ) (t u : TriangleCode) → IsCode n t → IsCode n u → n ≤ 11
    → (t.0 < u.0) ↔ ((small_of t).0 < (small_of u).0)
same_order_lem n t u c d h =
    carried_order large small large_roomy small_roomy ((code_passes t).0 c.passes) ((code_passes u).0 d.passes) n
    c.degree_is d.degree_is h
