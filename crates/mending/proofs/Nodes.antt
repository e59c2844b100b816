-- The tree of triangles as numbers: a triangle is its degree and its place among those of the degree, and a triangle of
-- degree 24 is its place. One lies within another, or they share nothing. Assumes nothing.
use mathlib.Core.Path.{◌≡◌, ◌∙◌, sym, ap}
use mathlib.Core.Logic.{◌⊎◌, inl, inr, ⊎_elim}
use Prim.Native.Nat.{ℕ, zero, suc, ◌+◌, ◌-◌, ◌*◌, ◌/◌, ◌^◌, ◌≤◌, ◌<◌}
use native.Mathlib.Nat.{div-one, div-div-eq-div-mul, mul-div_cancel, eq-or-lt_of_le}
use native.Mathlib.Decide.{dec_le}
use native.Mathlib.Omega.{arith}
use lib.Pow.{pow-add}
use Rattle.words.proofs.CodeCount.{four_pos}

pub record Node : Type 0 where
  pub deg : ℕ
  pub at : ℕ

abbrev pub node : ℕ → ℕ → Node
node n i = record { deg = n; at = i }

-- the triangle t of degree 24 is one of x's
abbrev pub In : ℕ → Node → Type 0
In t x = t / 4 ^ (24 - x.deg) ≡ x.at

-- x is y or lies inside it
pub record Within (x y : Node) : Type 0 where
  pub deeper : y.deg ≤ x.deg
  pub under : x.at / 4 ^ (x.deg - y.deg) ≡ y.at

abbrev pub child : Node → ℕ → Node
child x d = node (suc x.deg) (4 * x.at + d)

-- the first triangle of degree 24 in x
abbrev pub first : Node → ℕ
first x = x.at * 4 ^ (24 - x.deg)

pub le_or_lt : (a b : ℕ) → (a ≤ b) ⊎ (b < a)
le_or_lt a b = go (dec_le a b)
  where
    go : Dec (a ≤ b) → (a ≤ b) ⊎ (b < a)
    go (yes h) = inl h
    go (no h) = inr (omega arith)

-- two divisions in a row
div_twice : (t a b : ℕ) → t / 4 ^ a / 4 ^ b ≡ t / 4 ^ (a + b)
div_twice t a b = div-div-eq-div-mul t (4 ^ a) (4 ^ b) ∙ ap (λ (k : ℕ). t / k) (sym (pow-add 4 a b))

-- division by 1, written as a power
div_none : (t k : ℕ) → k ≡ 0 → t / 4 ^ k ≡ t
div_none t k z = ap (λ (j : ℕ). t / 4 ^ j) z ∙ div-one t

pub first_in : (x : Node) → In (first x) x
first_in x = mul-div_cancel x.at (four_pos (24 - x.deg))

-- a triangle of degree 24 has itself
pub leaf_in : (x : Node) → x.deg ≡ 24 → In x.at x
leaf_in x d = div_none x.at (24 - x.deg) (omega arith)

-- ---- one within another

pub within_in : {x y : Node} (t : ℕ) → x.deg ≤ 24 → Within x y → In t x → In t y
within_in {x} {y} t h w e =
    let s : 24 - x.deg + (x.deg - y.deg) ≡ 24 - y.deg = omega (arith, w.deeper) in
    ap (λ (k : ℕ). t / 4 ^ k) (sym s) ∙ sym (div_twice t (24 - x.deg) (x.deg - y.deg))
    ∙ ap (λ (k : ℕ). k / 4 ^ (x.deg - y.deg)) e ∙ w.under

in_within : {x y : Node} (t : ℕ) → x.deg ≤ 24 → y.deg ≤ x.deg → In t x → In t y → Within x y
in_within {x} {y} t h l e f =
    let s : 24 - x.deg + (x.deg - y.deg) ≡ 24 - y.deg = omega arith in
    record {
      deeper = l;
      under = ap (λ (k : ℕ). k / 4 ^ (x.deg - y.deg)) (sym e) ∙ div_twice t (24 - x.deg) (x.deg - y.deg)
          ∙ ap (λ (k : ℕ). t / 4 ^ k) s ∙ f;
    }

-- a triangle of degree 24 is one of y's where it lies within it
pub leaf_within : (x y : Node) → x.deg ≡ 24 → y.deg ≤ 24 → In x.at y → Within x y
leaf_within x y d h e =
    let s : x.deg - y.deg ≡ 24 - y.deg = omega arith in
    record { deeper = omega arith; under = ap (λ (k : ℕ). x.at / 4 ^ k) s ∙ e }

-- of two that have a triangle in common one lies within the other
pub nested : {x y : Node} (t : ℕ) → x.deg ≤ 24 → y.deg ≤ 24 → In t x → In t y → Within x y ⊎ Within y x
nested {x} {y} t h k e f =
    ⊎_elim (λ l. inl (in_within t h l e f)) (λ l. inr (in_within t k (omega arith) f e))
    (le_or_lt y.deg x.deg)

-- within another of its own degree is that other
pub within_level : {x y : Node} → x.deg ≡ y.deg → Within x y → x ≡ y
within_level {x} {y} d w =
    let p : x.at ≡ y.at = sym (div_none x.at (x.deg - y.deg) (omega arith)) ∙ w.under in
    λ i. node (d i) (p i)

pub within_both : {x y : Node} → Within x y → Within y x → x ≡ y
within_both v w = within_level (omega (arith, v.deeper, w.deeper)) v

pub within_trans : {x y z : Node} → Within x y → Within y z → Within x z
within_trans {x} {y} {z} v w =
    let s : x.deg - y.deg + (y.deg - z.deg) ≡ x.deg - z.deg = omega (arith, v.deeper, w.deeper) in
    record {
      deeper = omega (arith, v.deeper, w.deeper);
      under = ap (λ (k : ℕ). x.at / 4 ^ k) (sym s) ∙ sym (div_twice x.at (x.deg - y.deg) (y.deg - z.deg))
          ∙ ap (λ (k : ℕ). k / 4 ^ (y.deg - z.deg)) v.under ∙ w.under;
    }

-- ---- children

-- what is so of each of the four
pub four_of : (P : ℕ → Type 0) → P 0 → P 1 → P 2 → P 3 → (k : ℕ) → k < 4 → P k
four_of P a b c d zero h = a
four_of P a b c d (suc zero) h = b
four_of P a b c d (suc (suc zero)) h = c
four_of P a b c d (suc (suc (suc zero))) h = d
four_of P a b c d (suc (suc (suc (suc k)))) h = absurd (omega arith)

four_one : (x d : ℕ) → d < 4 → (4 * x + d) / 4 ^ 1 ≡ x
four_one x d h = omega arith

pub child_within : (x : Node) (d : ℕ) → d < 4 → Within (child x d) x
child_within x d h =
    let s : suc x.deg - x.deg ≡ 1 = omega arith in
    record { deeper = omega arith; under = ap (λ (k : ℕ). (4 * x.at + d) / 4 ^ k) s ∙ four_one x.at d h }

-- a child is the child of one only
pub child_one : {x y : Node} (d k : ℕ) → d < 4 → k < 4 → child x d ≡ child y k → x ≡ y
child_one {x} {y} d k h l e =
    let a : suc x.deg ≡ suc y.deg = ap (λ (z : Node). z.deg) e in
    let b : 4 * x.at + d ≡ 4 * y.at + k = ap (λ (z : Node). z.at) e in
    let p : x.deg ≡ y.deg = omega arith in
    let q : x.at ≡ y.at = omega arith in
    λ i. node (p i) (q i)

-- what holds a child is the child or holds the parent
pub above_child : {x y : Node} (d : ℕ) → d < 4 → Within (child x d) y → (child x d ≡ y) ⊎ Within x y
above_child {x} {y} d h w =
    ⊎_elim (λ e. inl (within_level (sym e) w)) (λ l. inr (upper l)) (eq-or-lt_of_le w.deeper)
  where
    upper : y.deg < suc x.deg → Within x y
    upper l =
        let s : 1 + (x.deg - y.deg) ≡ suc x.deg - y.deg = omega arith in
        record {
          deeper = omega arith;
          under = ap (λ (k : ℕ). k / 4 ^ (x.deg - y.deg)) (sym (four_one x.at d h))
              ∙ div_twice (4 * x.at + d) 1 (x.deg - y.deg)
              ∙ ap (λ (k : ℕ). (4 * x.at + d) / 4 ^ k) s ∙ w.under;
        }
