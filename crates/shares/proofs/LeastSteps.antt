-- One step of the descent by the least child, as the program makes it, and how large its numbers are. Assumes nothing.
use mathlib.Core.Path.{◌≡◌, refl, ◌∙◌, ap}
use mathlib.Core.Bool.{true, false}
use Prim.Native.Nat.{ℕ, zero, suc, ◌+◌, ◌-◌, ◌*◌, ◌/◌, ◌≤◌, ◌<◌}
use native.Mathlib.Omega.{arith}
use lib.Dec.{leb}
use borrow.Author.Tests.{le-leb, lt-leb}
use Rattle.shares.specs.declared.Floors.{Floors}
use Rattle.shares.specs.declared.Gaps.{Gaps}
use Rattle.shares.specs.Means.Shares.{floors}
use Rattle.shares.specs.Means.Paths.{in_child, least_digit, least_path}
use Rattle.shares.proofs.Choosing.{choose_corner}

-- no floor is above m
abbrev pub AtMost : (m : ℕ) → Floors → Type 0
AtMost m F = (F.f1 ≤ m) × (F.f2 ≤ m) × (F.f3 ≤ m)

module _ (h : ℕ) (F : Floors) (G : Gaps) where
  -- d is the least child's digit, and K has the floors in it
  abbrev pub IsLeast : (d : ℕ) → (K : Floors) → Type 0
  IsLeast d K = (d ≡ least_digit h F G) × (K ≡ in_child h d F G)

  yes : (c : ℕ) → h < c → leb (suc h) c ≡ true
  yes c l = le-leb (suc h) c (omega arith)

  no : (c : ℕ) → c ≤ h → leb (suc h) c ≡ false
  no c l = lt-leb (suc h) c (omega arith)

  pub step_1 : h < F.f1 + G.g1 → IsLeast 1 (floors (F.f1 - h) F.f2 F.f3)
  unfolding least_digit in_child
  step_1 a = let p = yes (F.f1 + G.g1) a in (simp p, refl)

  pub step_2 : F.f1 + G.g1 ≤ h → h < F.f2 + G.g2 → IsLeast 2 (floors F.f1 (F.f2 - h) F.f3)
  unfolding least_digit in_child
  step_2 a b = let p = no (F.f1 + G.g1) a in let q = yes (F.f2 + G.g2) b in (simp (p, q), refl)

  pub step_3 :
      F.f1 + G.g1 ≤ h → F.f2 + G.g2 ≤ h → h < F.f3 + G.g3
      → IsLeast 3 (floors F.f1 F.f2 (F.f3 - h))
  unfolding least_digit in_child
  step_3 a b c =
      let p = no (F.f1 + G.g1) a in
      let q = no (F.f2 + G.g2) b in
      let r = yes (F.f3 + G.g3) c in
      (simp (p, q, r), refl)

  pub step_0 :
      F.f1 + G.g1 ≤ h
      → F.f2 + G.g2 ≤ h
      → F.f3 + G.g3 ≤ h
      → IsLeast 0 (floors (h - (F.f1 + G.g1)) (h - (F.f2 + G.g2)) (h - (F.f3 + G.g3)))
  unfolding least_digit in_child
  step_0 a b c =
      let p = no (F.f1 + G.g1) a in
      let q = no (F.f2 + G.g2) b in
      let r = no (F.f3 + G.g3) c in
      (simp (p, q, r), refl)

  pub digit_small : least_digit h F G < 4
  digit_small = choose_corner h F G (λ d K. d < 4) (λ k o a. omega (arith, o.1)) (λ a b c. omega arith)

  pub child_small : (m k : ℕ) → h ≤ m → AtMost m F → AtMost m (in_child h k F G)
  unfolding in_child
  child_small m zero l s = (omega arith, omega arith, omega arith)
  child_small m (suc zero) l s = (omega (arith, s.0), s.1, s.2)
  child_small m (suc (suc zero)) l s = (s.0, omega (arith, s.1), s.2)
  child_small m (suc (suc (suc k))) l s = (s.0, s.1, omega (arith, s.2))

pub path_0 : (n p : ℕ) (F : Floors) (G : Gaps) (v : ℕ) → n ≡ 0 → v ≡ least_path n p F G v
unfolding least_path
path_0 n p F G v e = rw e

pub path_more :
    (n p : ℕ) (F K : Floors) (G : Gaps) (v d r : ℕ)
    → (n ≡ 0 → ⊥)
    → IsLeast (p / 2) F G d K
    → r ≡ least_path (n - 1) (p / 2) K G (4 * v + d)
    → r ≡ least_path n p F G v
unfolding least_path
path_more zero p F K G v d r f e h = absurd (f refl)
path_more (suc n) p F K G v d r f e h =
    let q : suc n - 1 ≡ n = omega arith in
    h ∙ (λ i. least_path (q i) (p / 2) (e.1 i) G (4 * v + d))
    ∙ ap (λ (c : ℕ). least_path n (p / 2) (in_child (p / 2) c F G) G (4 * v + c)) e.0
