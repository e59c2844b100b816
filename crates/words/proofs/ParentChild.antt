-- Parent and child undo one another, and both give codes. Assumes nothing.
use mathlib.Core.Path.{◌≡◌, ◌∙◌}
use mathlib.Core.Logic.{◌↔◌}
use mathlib.Core.List.{◌∷◌}
use Prim.Native.Nat.{ℕ, suc, ◌-◌, ◌≤◌, ◌<◌}
use native.Mathlib.Nat.{pos_of_ne-zero}
use native.Mathlib.Omega.{arith}
use lib.Arith.{lt_of_le-ne}
use borrow.Author.Tests.{ltb-false, eqb-false, le-ltb, ne_eqb}
use Rattle.words.specs.Words.{degree_of, digit_of, digits, first_digits, side_of}
use Rattle.words.specs.Refusals.{code_rows, check_code}
use Rattle.words.specs.Family.{refuse_parent, refuse_child, parent_of, child_of}
use Rattle.words.specs.declared.TriangleCode.{TriangleCode}
use Rattle.frame.proofs.Refusing.{none_after}
use Rattle.frame.specs.Refusals.{order}
use Rattle.words.proofs.Digits.{more, digits_are}
use Rattle.words.proofs.Codes.{code_passes, is_code, code_degree, code_side, same_code, Has, made}

pub parent_passes : (t : TriangleCode) → (refuse_parent t ≡ 0) ↔ ((check_code t ≡ 0) × (1 ≤ degree_of t.0))
unfolding refuse_parent check_code
parent_passes t = (
  λ e. let n = (none_after order order (code_rows t) _ tt tt).0 e in (n.0, pos_of_ne-zero (eqb-false _ _ n.1.0)),
  λ p. (none_after order order (code_rows t) _ tt tt).1
      (p.0, (ne_eqb (degree_of t.0) 0 (λ e. omega (arith, p.1)), tt)),
)

pub child_passes : (t : TriangleCode) (d : ℕ) → (refuse_child t d ≡ 0)
    ↔ ((check_code t ≡ 0) × (d ≤ 3) × (degree_of t.0 < 24))
unfolding refuse_child check_code
child_passes t d = (
  λ e.
      let n = (none_after order order (code_rows t) _ tt tt).0 e in
      (n.0, ltb-false 3 d n.1.0, lt_of_le-ne ((code_passes t).0 n.0).0.degree (eqb-false _ _ n.1.1.0)),
  λ p. (none_after order order (code_rows t) _ tt tt).1
      (p.0, (le-ltb 3 d p.1, (ne_eqb (degree_of t.0) 24 (λ e. omega (arith, p.2)), tt))),
)

-- the child has the code's side and digits and one more
pub child_has : (t : TriangleCode) (d : ℕ) → refuse_child t d ≡ 0 → Has (side_of t.0) (suc (degree_of t.0))
    (d ∷ digits t.0 (degree_of t.0)) (child_of t d)
unfolding child_of
child_has t d e =
    let p = (child_passes t d).0 e in
    let s = code_side (is_code t p.0) in
    made _ _ s.0 s.1 p.2 (more p.1 (digits_are t.0 (degree_of t.0)))

-- the parent has the code's side and all digits but the last
pub parent_has : (t : TriangleCode) → refuse_parent t ≡ 0
    → Has (side_of t.0) (degree_of t.0 - 1) (digits t.0 (degree_of t.0 - 1)) (parent_of t)
unfolding parent_of
parent_has t e =
    let c = is_code t ((parent_passes t).0 e).0 in
    let s = code_side c in
    made _ _ s.0 s.1 (omega (arith, code_degree c)) (digits_are t.0 (degree_of t.0 - 1))

-- the child's parent is the code itself
pub child_then_parent : (t : TriangleCode) (d : ℕ) → refuse_child t d ≡ 0
    → (refuse_parent (child_of t d) ≡ 0) × (parent_of (child_of t d) ≡ t)
unfolding first_digits
child_then_parent t d e =
    let n = degree_of t.0 in
    let u = child_of t d in
    let h = child_has t d e in
    let z : refuse_parent u ≡ 0 = (parent_passes u).1 (h.code.passes, omega (arith, h.code.degree_is)) in
    let m : degree_of u.0 - 1 ≡ n = omega (arith, h.code.degree_is) in
    let g : Has (side_of u.0) n (digits u.0 n) (parent_of u) = rw m at (parent_has u z) in
    let q : digits u.0 n ≡ digits t.0 n = cc h.digits_are in
    let same : parent_of u ≡ t = same_code g.code (is_code t ((child_passes t d).0 e).0) (g.side ∙ h.side)
    (g.digits_are ∙ q) in
    (z, same)

-- the parent's child with the code's last digit is the code itself
pub parent_then_child : (t : TriangleCode) → refuse_parent t ≡ 0
    → let d = digit_of t.0 (degree_of t.0) in (refuse_child (parent_of t) d ≡ 0) × (child_of (parent_of t) d ≡ t)
unfolding first_digits
parent_then_child t e =
    let w = t.0 in
    let n = degree_of w in
    let k = n - 1 in
    let u = parent_of t in
    let d = digit_of w n in
    let p = (parent_passes t).0 e in
    let h = parent_has t e in
    let z : refuse_child u d ≡ 0 =
    let low = code_degree (is_code t p.0) in
    (child_passes u d).1 (h.code.passes, omega arith, omega (arith, p.1, h.code.degree_is, low)) in
    let g : Has (side_of u.0) (suc k) (d ∷ digits u.0 k) (child_of u d) =
    rw h.code.degree_is at (child_has u d z) in
    let m : n ≡ suc k = omega (arith, p.1) in
    let q : d ∷ digits u.0 k ≡ digits w (suc k) = λ i. digit_of w (m i) ∷ h.digits_are i in
    let same : child_of u d ≡ t = same_code g.code (record { passes = p.0; degree_is = m }) (g.side ∙ h.side)
    (g.digits_are ∙ q) in
    (z, same)
