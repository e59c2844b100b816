-- The determinants by their two parts: how they are made of whole numbers, how large they are, and where they are 0.
-- Assumes nothing.
use mathlib.Core.Path.{◌≡◌, refl, sym, ◌∙◌, ap}
use mathlib.Core.List.{[], ◌∷◌}
use Prim.Native.Nat.{ℕ, zero, suc, ◌+◌, ◌*◌, ◌^◌, ◌≤◌, ◌<◌}
use native.Mathlib.Omega.{arith}
use lib.IntN.{pos, neg_ℤ, nat_abs, ◌+ℤ◌, +ℤ_idl}
use Rattle.golden.specs.Numbers.{golden, whole, Below, ◌+φ◌, negφ, ◌*φ◌}
use Rattle.golden.specs.declared.Golden.{Golden}
use Rattle.golden.proofs.Polynomials.{var, lit, ◌⊕◌, ◌⊝◌, ◌⊗◌, ⊖}
use Rattle.golden.proofs.RingSolver.{solve}
use Rattle.golden.proofs.GoldenRing.{φ_ring, φ_path, of_addφ}
use Rattle.golden.proofs.Magnitudes.{abs_add, abs_neg}
use Rattle.filing.specs.Holding.{◌-φ◌, three}
use Rattle.filing.specs.Means.Descent.{total}
use Rattle.seats.specs.Means.Roles.{Beside, Bound}
use Rattle.filing.specs.declared.Determinants.{Determinants}
use Rattle.shares.specs.Means.Shares.{times}
use Rattle.seats.specs.Means.Octants.{phi, lean, outer, double, roles_of}
use Rattle.seats.proofs.PackedTables.{from_three}

abbrev w : ℕ → Golden
w n = whole (pos n)

parts : (u v : ℕ) → golden (pos u) (pos v) ≡ w u +φ times v phi
unfolding ◌+φ◌ ◌*φ◌
parts u v = φ_path (ap pos (omega arith)) (ap pos (omega arith))

-- ---- by two parts

pub lean_is : (a b c : ℕ) → golden (pos (b + c)) (pos c) +φ negφ (golden (pos 0) (pos a)) ≡ lean a b c
lean_is a b c =
    (λ i. (parts (b + c) c ∙ ap (λ (z : Golden). z +φ times c phi) (of_addφ (pos b) (pos c))) i -φ parts 0 a i)
    ∙ solve φ_ring (w b ∷ w c ∷ times c phi ∷ times a phi ∷ [])
    (var 0 ⊕ var 1 ⊕ var 2 ⊝ (lit 0 ⊕ var 3))
    (var 0 ⊕ (var 1 ⊕ var 2) ⊝ var 3) refl

pub opposite_is : (a b c : ℕ) → golden (pos 0) (pos a) +φ negφ (golden (pos (b + c)) (pos c))
    ≡ negφ (lean a b c)
opposite_is a b c =
    solve φ_ring (golden (pos 0) (pos a) ∷ golden (pos (b + c)) (pos c) ∷ []) (var 0 ⊝ var 1)
    (⊖ (var 1 ⊝ var 0)) refl
    ∙ ap negφ (lean_is a b c)

pub outer_is : (a b c : ℕ) → golden (pos c) (pos (a + c)) +φ negφ (golden (pos b) (pos 0)) ≡ outer a b c
outer_is a b c =
    (λ i. (parts c (a + c) ∙ ap (λ (z : Golden). w c +φ z *φ phi) (of_addφ (pos a) (pos c))) i -φ w b)
    ∙ solve φ_ring (w a ∷ w b ∷ w c ∷ phi ∷ [])
    (var 2 ⊕ (var 0 ⊕ var 2) ⊗ var 3 ⊝ var 1)
    (var 0 ⊗ var 3 ⊕ (var 2 ⊕ var 2 ⊗ var 3) ⊝ var 1) refl

pub double_is : (b : ℕ) → golden (pos 0) (pos (2 * b)) ≡ double b
double_is b =
    let e : 2 * b ≡ b + b = omega arith in
    parts 0 (2 * b)
    ∙ ap (λ (z : Golden). w 0 +φ z *φ phi) (ap w e ∙ of_addφ (pos b) (pos b))
    ∙ solve φ_ring (w b ∷ phi ∷ []) (lit 0 ⊕ (var 0 ⊕ var 0) ⊗ var 1) (var 0 ⊗ var 1 ⊕ var 0 ⊗ var 1)
    refl

-- ---- by the kind

pub middle_is :
    (k a b c : ℕ) (x y z : Golden)
    → k ≡ 0
    → x ≡ lean a b c
    → y ≡ lean b c a
    → z ≡ lean c a b
    → three x y z ≡ roles_of k a b c
middle_is k a b c x y z e p q r = rw e (λ i. three (p i) (q i) (r i))

pub roles_at : (k j a b c : ℕ) (D : Determinants) → k ≡ j → D ≡ roles_of j a b c → D ≡ roles_of k a b c
roles_at k j a b c D e h = rw e h

-- a kind that is none of the first three
pub roles_rest :
    (k a b c : ℕ) (D : Determinants)
    → (k ≡ 0 → ⊥)
    → (k ≡ 1 → ⊥)
    → (k ≡ 2 → ⊥)
    → D ≡ roles_of 3 a b c
    → D ≡ roles_of k a b c
roles_rest k a b c D n0 n1 n2 h = from_three (λ j. D ≡ roles_of j a b c) (λ j. h) k n0 n1 n2

-- ---- how large they are

parts_small :
    (u v : ℕ) (r : Golden) → u ≤ 2000000000 → v ≤ 2000000000 → r ≡ golden (pos u) (pos v)
    → Below (2 ^ 61) r
parts_small u v r k l e = rw e (record { u_below = omega arith; v_below = omega arith })

-- one less another, each by its parts
module _ {u v m n : ℕ} {x y : Golden} (p : x ≡ golden (pos u) (pos v)) (q : y ≡ golden (pos m) (pos n)) where
  pub both_small : u + m ≤ 2000000000 → v + n ≤ 2000000000 → Below (2 ^ 61) x × Below (2 ^ 61) y
  both_small k l = (parts_small u v x (omega arith) (omega arith) p, parts_small m n y (omega arith) (omega arith) q)

  pub less_is :
      {r z : Golden}
      → r ≡ x +φ negφ y
      → golden (pos u) (pos v) +φ negφ (golden (pos m) (pos n)) ≡ z
      → r ≡ z
  less_is e t = e ∙ (λ i. p i +φ negφ (q i)) ∙ t

-- a difference
difference_small :
    (u v m n : ℕ) (x : Golden)
    → golden (pos u) (pos v) +φ negφ (golden (pos m) (pos n)) ≡ x
    → u + m ≤ 2000000000
    → v + n ≤ 2000000000
    → Below 2000000001 x
unfolding ◌+φ◌ negφ
difference_small u v m n x e k l = rw (sym e) (record { u_below = part u m k; v_below = part v n l })
  where
    part : (i j : ℕ) → i + j ≤ 2000000000 → nat_abs (pos i +ℤ neg_ℤ (pos j)) < 2000000001
    part i j h = omega (arith, abs_add (pos i) (neg_ℤ (pos j)), abs_neg (pos j))

pub wider : (m n : ℕ) (x : Golden) → m ≤ n → Below m x → Below n x
wider m n x l h = record { u_below = omega (arith, h.u_below); v_below = omega (arith, h.v_below) }

-- a sum
sum_small : (m n : ℕ) (x y : Golden) → Below (suc m) x → Below (suc n) y → Below (suc (m + n)) (x +φ y)
unfolding ◌+φ◌
sum_small m n x y k l = record {
  u_below = omega (arith, abs_add x.u y.u, k.u_below, l.u_below);
  v_below = omega (arith, abs_add x.v y.v, k.v_below, l.v_below);
}

beside : (s x : Golden) → Below 6000000001 s → Below 2000000001 x → Beside 8000000000 s x
beside s x k l = record {
  u_beside = omega (arith, k.u_below, l.u_below);
  v_beside = omega (arith, k.v_below, l.v_below);
}

-- each part of each of three is at most 2·10^9
pub record Small (D : Determinants) : Type 0 where
  pub b1 : Below 2000000001 D.d1
  pub b2 : Below 2000000001 D.d2
  pub b3 : Below 2000000001 D.d3

module _ (D : Determinants) (n : Small D) where
  two_small : Below 4000000001 (D.d1 +φ D.d2)
  two_small = sum_small 2000000000 2000000000 D.d1 D.d2 n.b1 n.b2

  total_small : Below 6000000001 (total D)
  total_small = sum_small 4000000000 2000000000 (D.d1 +φ D.d2) D.d3 two_small n.b3

  pub small_wide : Below (2 ^ 61) D.d1 × Below (2 ^ 61) D.d2 × Below (2 ^ 61) D.d3
  small_wide = (
    wider 2000000001 (2 ^ 61) _ (omega arith) n.b1,
    wider 2000000001 (2 ^ 61) _ (omega arith) n.b2,
    wider 2000000001 (2 ^ 61) _ (omega arith) n.b3,
  )

  pub two_wide : (r : Golden) → r ≡ D.d1 +φ D.d2 → Below (2 ^ 61) r
  two_wide r e = rw e (wider 4000000001 (2 ^ 61) _ (omega arith) two_small)

  pub total_wide : (s : Golden) → s ≡ total D → Below (2 ^ 61) s
  total_wide s e = rw e (wider 6000000001 (2 ^ 61) _ (omega arith) total_small)

  pub small_bound : (s : Golden) → s ≡ total D → Bound 8000000000 s D
  small_bound s e =
      let t : Below 6000000001 s = rw e total_small in
      record {
        b1 = beside s D.d1 t n.b1;
        b2 = beside s D.d2 t n.b2;
        b3 = beside s D.d3 t n.b3;
      }

module _ (a b c : ℕ) (ka : a ≤ 1000000000) (kb : b ≤ 1000000000) (kc : c ≤ 1000000000) where
  pub lean_small : Below 2000000001 (lean a b c)
  lean_small = difference_small (b + c) c 0 a _ (lean_is a b c) (omega arith) (omega arith)

  beyond_small : Small (roles_of 1 a b c)
  beyond_small = record {
    b1 = difference_small c (a + c) b 0 _ (outer_is a b c) (omega arith) (omega arith);
    b2 = difference_small 0 a (b + c) c _ (opposite_is a b c) (omega arith) (omega arith);
    b3 = rw (sym (double_is b)) (record { u_below = omega arith; v_below = omega arith });
  }

pub roles_small :
    (k a b c : ℕ) → a ≤ 1000000000 → b ≤ 1000000000 → c ≤ 1000000000 → Small (roles_of k a b c)
roles_small zero a b c ka kb kc =
    record { b1 = lean_small a b c ka kb kc; b2 = lean_small b c a kb kc ka; b3 = lean_small c a b kc ka kb }
roles_small (suc zero) a b c ka kb kc = beyond_small a b c ka kb kc
roles_small (suc (suc zero)) a b c ka kb kc = beyond_small b c a kb kc ka
roles_small (suc (suc (suc k))) a b c ka kb kc = beyond_small c a b kc ka kb

-- ---- where they are 0

-- a sum, and a difference
parts_zero :
    (m n c : ℕ)
    → n + c + 0 ≡ 0
    → pos c +ℤ neg_ℤ (pos m) ≡ pos 0
    → (m ≡ 0) × (n ≡ 0) × (c ≡ 0)
parts_zero m n c s e =
    let z : c ≡ 0 = omega arith in
    let o : neg_ℤ (pos m) ≡ pos 0 =
    sym (+ℤ_idl (neg_ℤ (pos m))) ∙ ap (λ (k : ℕ). pos k +ℤ neg_ℤ (pos m)) (sym z) ∙ e in
    (sym (abs_neg (pos m)) ∙ ap nat_abs o, omega arith, z)

module _ (a b c : ℕ) where
  pub lean_zero : lean a b c ≡ whole (pos 0) → (a ≡ 0) × (b ≡ 0) × (c ≡ 0)
  unfolding ◌+φ◌ negφ
  lean_zero e =
      let q = lean_is a b c ∙ e in
      parts_zero a b c (ap (λ (x : Golden). nat_abs x.u) q) (ap (λ (x : Golden). x.v) q)

  pub outer_zero : outer a b c ≡ whole (pos 0) → (a ≡ 0) × (b ≡ 0) × (c ≡ 0)
  unfolding ◌+φ◌ negφ
  outer_zero e =
      let q = outer_is a b c ∙ e in
      let z = parts_zero b a c (ap (λ (x : Golden). nat_abs x.v) q) (ap (λ (x : Golden). x.u) q) in
      (z.1, z.0, z.2)

  pub opposite_zero : negφ (lean a b c) ≡ whole (pos 0) → (a ≡ 0) × (b ≡ 0) × (c ≡ 0)
  unfolding negφ
  opposite_zero e = lean_zero (solve φ_ring (lean a b c ∷ []) (var 0) (⊖ (⊖ (var 0))) refl ∙ ap negφ e)

pub double_zero : (b : ℕ) → double b ≡ whole (pos 0) → b ≡ 0
double_zero b e = let v : 2 * b ≡ 0 = ap (λ (x : Golden). nat_abs x.v) (double_is b ∙ e) in omega arith
