-- The corners of a state, and the states that have two given corners. Assumes nothing.
use mathlib.Core.Path.{◌≡◌, refl, ap}
use mathlib.Core.Logic.{◌⊎◌, inl, inr}
use Prim.Native.Nat.{ℕ, zero, suc, ◌+◌, ◌≤◌}
use native.Mathlib.Omega.{arith}
use Rattle.net.specs.Means.States.{Move, across, inside, outside, point_of}
use Rattle.net.specs.Sides.{OneToThree, next, prev}
use Rattle.net.specs.declared.Point.{Point}
use Rattle.net.specs.declared.State.{State}
use Rattle.net.specs.declared.State.TheVariants.{Down, Up}
use Rattle.net.proofs.Loads.{weight}
use Rattle.net.proofs.Spread.{same_point}
use Rattle.net.proofs.Table.{three}
use Rattle.net.proofs.Totals.{total}

abbrev pub In : State → Point → Type 0
In (Up x y z) p = (x ≤ p.w1) × (y ≤ p.w2) × (z ≤ p.w3)
In (Down x y z) p = (p.w1 ≤ x + 1) × (p.w2 ≤ y + 1) × (p.w3 ≤ z + 1)

pub corner_in : (i : ℕ) (s : State) → In s (point_of i s)
corner_in zero (Up x y z) = omega arith
corner_in zero (Down x y z) = omega arith
corner_in (suc zero) (Up x y z) = omega arith
corner_in (suc zero) (Down x y z) = omega arith
corner_in (suc (suc zero)) (Up x y z) = omega arith
corner_in (suc (suc zero)) (Down x y z) = omega arith
corner_in (suc (suc (suc i))) (Up x y z) = omega arith
corner_in (suc (suc (suc i))) (Down x y z) = omega arith

pub up_same : {x y z a b c : ℕ} → x ≡ a → y ≡ b → z ≡ c → Up x y z ≡ Up a b c
up_same e f g = cc

pub down_same : {x y z a b c : ℕ} → x ≡ a → y ≡ b → z ≡ c → Down x y z ≡ Down a b c
down_same e f g = cc

-- b has both ends of edge k of a: it is a, or what lies across
abbrev Two : ℕ → State → State → Type 0
Two k a b = total b ≡ total a → In b (point_of (next k) a) → In b (point_of (prev k) a) → (b ≡ a) ⊎ (across k a ≡ inside b)

two_1 : (a b : State) → Two 1 a b
two_1 (Up zero y z) (Up u v w) = λ t p q. inl (up_same (omega arith) (omega arith) (omega arith))
two_1 (Up zero y z) (Down u v w) = λ t p q. absurd (omega arith)
two_1 (Up (suc x) y z) (Up u v w) = λ t p q. inl (up_same (omega arith) (omega arith) (omega arith))
two_1 (Up (suc x) y z) (Down u v w) = λ t p q. inr (ap inside (down_same (omega arith) (omega arith) (omega arith)))
two_1 (Down x y z) (Up u v w) = λ t p q. inr (ap inside (up_same (omega arith) (omega arith) (omega arith)))
two_1 (Down x y z) (Down u v w) = λ t p q. inl (down_same (omega arith) (omega arith) (omega arith))

two_2 : (a b : State) → Two 2 a b
two_2 (Up x zero z) (Up u v w) = λ t p q. inl (up_same (omega arith) (omega arith) (omega arith))
two_2 (Up x zero z) (Down u v w) = λ t p q. absurd (omega arith)
two_2 (Up x (suc y) z) (Up u v w) = λ t p q. inl (up_same (omega arith) (omega arith) (omega arith))
two_2 (Up x (suc y) z) (Down u v w) = λ t p q. inr (ap inside (down_same (omega arith) (omega arith) (omega arith)))
two_2 (Down x y z) (Up u v w) = λ t p q. inr (ap inside (up_same (omega arith) (omega arith) (omega arith)))
two_2 (Down x y z) (Down u v w) = λ t p q. inl (down_same (omega arith) (omega arith) (omega arith))

two_3 : (a b : State) → Two 3 a b
two_3 (Up x y zero) (Up u v w) = λ t p q. inl (up_same (omega arith) (omega arith) (omega arith))
two_3 (Up x y zero) (Down u v w) = λ t p q. absurd (omega arith)
two_3 (Up x y (suc z)) (Up u v w) = λ t p q. inl (up_same (omega arith) (omega arith) (omega arith))
two_3 (Up x y (suc z)) (Down u v w) = λ t p q. inr (ap inside (down_same (omega arith) (omega arith) (omega arith)))
two_3 (Down x y z) (Up u v w) = λ t p q. inr (ap inside (up_same (omega arith) (omega arith) (omega arith)))
two_3 (Down x y z) (Down u v w) = λ t p q. inl (down_same (omega arith) (omega arith) (omega arith))

pub two_corners : (k : ℕ) → OneToThree k → (a b : State) → Two k a b
two_corners = three (λ k. (a b : State) → Two k a b) two_1 two_2 two_3

-- Across edge k lies a state with just the edge's ends, numbered the other way round; or nothing, and the ends have no weight on axis k.
abbrev pub Shares : ℕ → State → Move State → Type 0
Shares k a (inside b) = (point_of (prev k) b ≡ point_of (next k) a) × (point_of (next k) b ≡ point_of (prev k) a) × (In b (point_of k a) → ⊥)
Shares k a outside = (weight k (point_of (next k) a) ≡ 0) × (weight k (point_of (prev k) a) ≡ 0)

shares_1 : (a : State) → Shares 1 a (across 1 a)
shares_1 (Up zero y z) = omega arith
shares_1 (Up (suc x) y z) = (same_point _ _ (omega arith) (omega arith) (omega arith), same_point _ _ (omega arith) (omega arith) (omega arith), λ h. omega arith)
shares_1 (Down x y z) = (same_point _ _ (omega arith) (omega arith) (omega arith), same_point _ _ (omega arith) (omega arith) (omega arith), λ h. omega arith)

shares_2 : (a : State) → Shares 2 a (across 2 a)
shares_2 (Up x zero z) = omega arith
shares_2 (Up x (suc y) z) = (same_point _ _ (omega arith) (omega arith) (omega arith), same_point _ _ (omega arith) (omega arith) (omega arith), λ h. omega arith)
shares_2 (Down x y z) = (same_point _ _ (omega arith) (omega arith) (omega arith), same_point _ _ (omega arith) (omega arith) (omega arith), λ h. omega arith)

shares_3 : (a : State) → Shares 3 a (across 3 a)
shares_3 (Up x y zero) = omega arith
shares_3 (Up x y (suc z)) = (same_point _ _ (omega arith) (omega arith) (omega arith), same_point _ _ (omega arith) (omega arith) (omega arith), λ h. omega arith)
shares_3 (Down x y z) = (same_point _ _ (omega arith) (omega arith) (omega arith), same_point _ _ (omega arith) (omega arith) (omega arith), λ h. omega arith)

pub shares : (k : ℕ) → OneToThree k → (a : State) → Shares k a (across k a)
shares = three (λ k. (a : State) → Shares k a (across k a)) shares_1 shares_2 shares_3

-- The ends of an edge have weight on both of its axes, and on the third unless it is the side's own edge.
abbrev Pair : ℕ → ℕ → State → ℕ
Pair j k a = weight j (point_of (next k) a) + weight j (point_of (prev k) a)

abbrev pub Loaded : ℕ → State → Type 0
Loaded k a = (1 ≤ Pair (next k) k a) × (1 ≤ Pair (prev k) k a)

loaded_1 : (a : State) → Loaded 1 a
loaded_1 (Up x y z) = omega arith
loaded_1 (Down x y z) = omega arith

loaded_2 : (a : State) → Loaded 2 a
loaded_2 (Up x y z) = omega arith
loaded_2 (Down x y z) = omega arith

loaded_3 : (a : State) → Loaded 3 a
loaded_3 (Up x y z) = omega arith
loaded_3 (Down x y z) = omega arith

pub loaded : (k : ℕ) → OneToThree k → (a : State) → Loaded k a
loaded = three (λ k. (a : State) → Loaded k a) loaded_1 loaded_2 loaded_3

-- the corner opposite has weight on the third
pub apex : (k : ℕ) → OneToThree k → (a : State) → (across k a ≡ outside) ⊎ (1 ≤ Pair k k a)
apex = three (λ k. (a : State) → (across k a ≡ outside) ⊎ (1 ≤ Pair k k a)) apex_1 apex_2 apex_3
  where
    apex_1 : (a : State) → (across 1 a ≡ outside) ⊎ (1 ≤ Pair 1 1 a)
    apex_1 (Up zero y z) = inl refl
    apex_1 (Up (suc x) y z) = inr (omega arith)
    apex_1 (Down x y z) = inr (omega arith)

    apex_2 : (a : State) → (across 2 a ≡ outside) ⊎ (1 ≤ Pair 2 2 a)
    apex_2 (Up x zero z) = inl refl
    apex_2 (Up x (suc y) z) = inr (omega arith)
    apex_2 (Down x y z) = inr (omega arith)

    apex_3 : (a : State) → (across 3 a ≡ outside) ⊎ (1 ≤ Pair 3 3 a)
    apex_3 (Up x y zero) = inl refl
    apex_3 (Up x y (suc z)) = inr (omega arith)
    apex_3 (Down x y z) = inr (omega arith)

pub up_apex : (k : ℕ) → OneToThree k → (a : State) → across k a ≡ outside → 1 ≤ weight k (point_of k a)
up_apex = three (λ k. (a : State) → across k a ≡ outside → 1 ≤ weight k (point_of k a)) go_1 go_2 go_3
  where
    go_1 : (a : State) → across 1 a ≡ outside → 1 ≤ weight 1 (point_of 1 a)
    go_1 (Up x y z) e = omega arith
    go_1 (Down x y z) e = let q : ◌≡◌ {A = ℕ} 0 1 = cc in absurd (omega arith)

    go_2 : (a : State) → across 2 a ≡ outside → 1 ≤ weight 2 (point_of 2 a)
    go_2 (Up x y z) e = omega arith
    go_2 (Down x y z) e = let q : ◌≡◌ {A = ℕ} 0 1 = cc in absurd (omega arith)

    go_3 : (a : State) → across 3 a ≡ outside → 1 ≤ weight 3 (point_of 3 a)
    go_3 (Up x y z) e = omega arith
    go_3 (Down x y z) e = let q : ◌≡◌ {A = ℕ} 0 1 = cc in absurd (omega arith)
