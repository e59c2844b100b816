-- A triangle's four children stand in a row among the codes of their degree, from four times its own place on. Assumes
-- nothing.
use mathlib.Core.Path.{◌≡◌, ◌∙◌, sym, ap}
use mathlib.Core.List.{◌∷◌}
use Prim.Native.Nat.{ℕ, zero, suc, ◌+◌, ◌-◌, ◌*◌, ◌/◌, ◌^◌, ◌≤◌, ◌<◌}
use native.Mathlib.Nat.{mul_assoc, pow-suc}
use native.Mathlib.Omega.{arith}
use Rattle.words.specs.Words.{degree_of, digit_of, digits, side_of, path}
use Rattle.words.specs.Refusals.{IsCode, check_code}
use Rattle.words.specs.Family.{refuse_parent, refuse_child, parent_of, child_of}
use Rattle.words.specs.Counting.{place_of}
use Rattle.words.specs.declared.TriangleCode.{TriangleCode}
use Rattle.words.proofs.Codes.{is_code, code_degree}
use Rattle.words.proofs.CodeCount.{place_is}
use Rattle.words.proofs.ParentChild.{child_passes, child_has, parent_passes, parent_has, parent_then_child}

module _ {n : ℕ} {q : TriangleCode} (c : IsCode n q) (l : n < 24) (k : ℕ) (h : k ≤ 3) where
  child_ok : refuse_child q k ≡ 0
  child_ok = (child_passes q k).1 (c.passes, h, omega (arith, c.degree_is))

  pub child_code : IsCode (suc n) (child_of q k)
  child_code = rw c.degree_is at (child_has q k child_ok).code

  pub child_place : place_of (child_of q k) ≡ 4 * place_of q + k
  unfolding path
  child_place =
      let w = q.0 in
      let a = side_of w - 4 in
      let v = path (digits w n) in
      let g = child_has q k child_ok in
      let s : side_of (child_of q k).0 ≡ side_of w = g.side in
      let d : digits (child_of q k).0 (suc n) ≡ k ∷ digits w n = rw c.degree_is at g.digits_are in
      place_is child_code ∙ (λ i. (s i - 4) * 4 ^ suc n + path (d i)) ∙ regroup a v
      ∙ ap (λ (x : ℕ). 4 * x + k) (sym (place_is c))
    where
      regroup : (a v : ℕ) → a * 4 ^ suc n + (4 * v + k) ≡ 4 * (a * 4 ^ n + v) + k
      regroup a v =
          let z : a * 4 ^ suc n ≡ (a * 4 ^ n) * 4 =
          ap (λ (x : ℕ). a * x) (pow-suc 4 n) ∙ sym (mul_assoc a (4 ^ n) 4) in
          omega (arith, z)

-- A code's parent, and which of its children the code is.
pub record Up (n : ℕ) (t : TriangleCode) : Type 0 where
  pub digit : ℕ
  pub small : digit ≤ 3
  pub code : IsCode n (parent_of t)
  pub place : place_of t ≡ 4 * place_of (parent_of t) + digit

pub up : {n : ℕ} {t : TriangleCode} → IsCode (suc n) t → n < 24 → Up n t
up {n} {t} c l =
    let z : refuse_parent t ≡ 0 = (parent_passes t).1 (c.passes, omega (arith, c.degree_is)) in
    let m : degree_of t.0 - 1 ≡ n = omega (arith, c.degree_is) in
    let p : IsCode n (parent_of t) = rw m at (parent_has t z).code in
    let d = digit_of t.0 (degree_of t.0) in
    let b = parent_then_child t z in
    let s : d ≤ 3 = ((child_passes (parent_of t) d).0 b.0).1 in
    record { digit = d; small = s; code = p; place = ap place_of (sym b.1) ∙ child_place p l d s }

-- the place of the parent, by that of the triangle
pub parent_place : (t : TriangleCode) {k : ℕ} → check_code t ≡ 0 → 1 ≤ degree_of t.0 → k ≡ place_of t
    → k / 4 ≡ place_of (parent_of t)
parent_place t {k} z l w = go (degree_of t.0) (is_code t z) l
  where
    go : (n : ℕ) → IsCode n t → 1 ≤ n → k / 4 ≡ place_of (parent_of t)
    go zero c l = absurd (omega (arith, l))
    go (suc n) c l = let u = up c (omega (arith, code_degree c)) in omega (arith, w, u.place, u.small)
