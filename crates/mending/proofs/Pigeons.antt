-- If each of m things takes one of k places and no two take the same, m is at most k. Assumes nothing.
use mathlib.Core.Path.{◌≡◌}
use mathlib.Core.Bool.{cond}
use mathlib.Core.Logic.{⊎_elim}
use Prim.Native.Nat.{ℕ, zero, suc, ◌-◌, ◌≤◌, ◌<◌}
use native.Mathlib.Omega.{arith}
use lib.Dec.{ltb}
use borrow.Author.Tests.{lt-ltb, le-ltb}
use Rattle.mending.proofs.Nodes.{le_or_lt}

-- the places other than p, counted on
abbrev skip : (p j : ℕ) → ℕ
skip p j = cond (ltb j p) j (suc j)

-- a place other than p is one of those
skipped : (p j k : ℕ) → p < suc k → j < suc k → (j ≡ p → ⊥) → (i : ℕ) × (i < k) × (skip p i ≡ j)
skipped p j k hp hj ne = ⊎_elim (λ l. low l) (λ l. high l) (le_or_lt p j)
  where
    low : p ≤ j → (i : ℕ) × (i < k) × (skip p i ≡ j)
    low l =
        let s : p < j = ⊎_elim (λ h. absurd (ne (omega arith))) (λ h. h) (le_or_lt j p) in
        (j - 1, omega arith, rw (le-ltb (j - 1) p (omega arith)) (omega arith))

    high : j < p → (i : ℕ) × (i < k) × (skip p i ≡ j)
    high l = (j, omega arith, rw (lt-ltb j p l))

pub pigeons : (k m : ℕ) (R : ℕ → ℕ → Type 0) → ((i : ℕ) → i < m → (j : ℕ) × (j < k) × R i j)
    → ((i i' j : ℕ) → i < m → i' < m → R i j → R i' j → i ≡ i') → m ≤ k
pigeons zero zero R f one = omega arith
pigeons zero (suc m) R f one = absurd (omega (arith, (f 0 (omega arith)).1))
pigeons (suc k) zero R f one = omega arith
pigeons (suc k) (suc m) R f one =
    let p = f m (omega arith) in
    let g : (i : ℕ) → i < m → (j : ℕ) × (j < k) × R i (skip p.0 j) =
    λ i h.
    let q = f i (omega arith) in
    let ne : q.0 ≡ p.0 → ⊥ =
    λ e. let z = one i m p.0 (omega arith) (omega arith) (rw e at q.2) p.2 in omega arith in
    let s = skipped p.0 q.0 k p.1 q.1 ne in
    (s.0, s.1, rw s.2 q.2) in
    let r =
    pigeons k m (λ i j. R i (skip p.0 j)) g
    (λ i i' j h h' a b. one i i' (skip p.0 j) (omega arith) (omega arith) a b) in
    omega arith
