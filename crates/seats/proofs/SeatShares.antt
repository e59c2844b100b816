-- Shares in the order of the roles are shares in the order of a side's corners. Assumes nothing.
use mathlib.Core.Path.{◌≡◌, refl, sym, ◌∙◌, subst}
use mathlib.Core.List.{[], ◌∷◌}
use Prim.Native.Nat.{ℕ, ◌-◌, ◌<◌}
use native.Mathlib.Omega.{arith}
use lib.IntN.{nat_abs}
use Rattle.golden.specs.Numbers.{◌+φ◌, negφ}
use Rattle.golden.specs.Order.{NonNeg}
use Rattle.golden.specs.declared.Golden.{Golden}
use Rattle.golden.proofs.Polynomials.{var, ◌⊕◌}
use Rattle.golden.proofs.RingSolver.{solve}
use Rattle.golden.proofs.GoldenRing.{φ_ring}
use Rattle.net.specs.Sides.{nth, OneToThree}
use Rattle.net.proofs.Table.{three as each-of-three}
use Rattle.filing.specs.Holding.{three}
use Rattle.filing.specs.Means.Sides.{side_dets}
use Rattle.filing.specs.declared.Direction.{Direction}
use Rattle.shares.specs.declared.Floors.{Floors}
use Rattle.shares.specs.declared.Gaps.{Gaps}
use Rattle.shares.specs.Means.Shares.{Share, Stands, floors, gaps}
use Rattle.seats.specs.Means.Octants.{role_of, roles_of, side_at, first_at, second_at, third_at, seat_of}
use Rattle.seats.specs.Means.Roles.{floors_at, gaps_at}
use Rattle.seats.proofs.SeatPlanes.{seat_first, seat_second, seat_apart, seat_dets}

-- ---- three in another order

-- what holds in each of the six orders
pub orders :
    (P : (i j k : ℕ) → Type 0)
    → P 1 2 3
    → P 1 3 2
    → P 2 1 3
    → P 2 3 1
    → P 3 1 2
    → P 3 2 1
    → (i : ℕ)
    → OneToThree i
    → (j : ℕ)
    → OneToThree j
    → (i ≡ j → ⊥)
    → P i j (6 - i - j)
orders P a b c d e f = each-of-three (λ i. (j : ℕ) → OneToThree j → (i ≡ j → ⊥) → P i j (6 - i - j))
    (each-of-three (λ j. (1 ≡ j → ⊥) → P 1 j (5 - j)) (λ n. absurd (n refl)) (λ n. a) (λ n. b))
    (each-of-three (λ j. (2 ≡ j → ⊥) → P 2 j (4 - j)) (λ n. c) (λ n. absurd (n refl)) (λ n. d))
    (each-of-three (λ j. (3 ≡ j → ⊥) → P 3 j (3 - j)) (λ n. e) (λ n. f) (λ n. absurd (n refl)))

third_of : (i : ℕ) → OneToThree i → (j : ℕ) → OneToThree j → (i ≡ j → ⊥) → OneToThree (6 - i - j)
third_of =
    let one : OneToThree 1 = (omega arith, omega arith) in
    let two : OneToThree 2 = (omega arith, omega arith) in
    let last : OneToThree 3 = (omega arith, omega arith) in
    orders (λ i j k. OneToThree k) last two last one two one

module _ (p : ℕ) (F : Floors) (G : Gaps) (x y z : Golden) (i : Stands p F G (three x y z)) where
  abbrev Ordered : (j k l : ℕ) → Type 0
  Ordered j k l =
      Stands p (floors (nth j F.f1 F.f2 F.f3) (nth k F.f1 F.f2 F.f3) (nth l F.f1 F.f2 F.f3))
      (gaps (nth j G.g1 G.g2 G.g3) (nth k G.g1 G.g2 G.g3) (nth l G.g1 G.g2 G.g3))
      (three (nth j x y z) (nth k x y z) (nth l x y z))

  share_of :
      (s : Golden)
      → x +φ y +φ z ≡ s
      → (j : ℕ)
      → OneToThree j
      → Share p (nth j F.f1 F.f2 F.f3) (nth j G.g1 G.g2 G.g3) s (nth j x y z)
  share_of s e =
      each-of-three (λ j. Share p (nth j F.f1 F.f2 F.f3) (nth j G.g1 G.g2 G.g3) s (nth j x y z))
      (rw e at i.s1) (rw e at i.s2) (rw e at i.s3)

  in_order : (j k l : ℕ) → OneToThree j → OneToThree k → OneToThree l
      → x +φ y +φ z ≡ nth j x y z +φ nth k x y z +φ nth l x y z → Ordered j k l
  in_order j k l hj hk hl e = record {
    some = subst NonNeg e i.some;
    more = subst (λ (s : Golden). NonNeg (negφ s) → ⊥) e i.more;
    s1 = share_of _ e j hj;
    s2 = share_of _ e k hk;
    s3 = share_of _ e l hl;
  }

  -- the three in any order have the same sum
  sums : (j : ℕ) → OneToThree j → (k : ℕ) → OneToThree k → (j ≡ k → ⊥)
      → x +φ y +φ z ≡ nth j x y z +φ nth k x y z +φ nth (6 - j - k) x y z
  sums = orders (λ j k l. x +φ y +φ z ≡ nth j x y z +φ nth k x y z +φ nth l x y z)
      refl
      (solve φ_ring (x ∷ y ∷ z ∷ []) (var 0 ⊕ var 1 ⊕ var 2) (var 0 ⊕ var 2 ⊕ var 1) refl)
      (solve φ_ring (x ∷ y ∷ z ∷ []) (var 0 ⊕ var 1 ⊕ var 2) (var 1 ⊕ var 0 ⊕ var 2) refl)
      (solve φ_ring (x ∷ y ∷ z ∷ []) (var 0 ⊕ var 1 ⊕ var 2) (var 1 ⊕ var 2 ⊕ var 0) refl)
      (solve φ_ring (x ∷ y ∷ z ∷ []) (var 0 ⊕ var 1 ⊕ var 2) (var 2 ⊕ var 0 ⊕ var 1) refl)
      (solve φ_ring (x ∷ y ∷ z ∷ []) (var 0 ⊕ var 1 ⊕ var 2) (var 2 ⊕ var 1 ⊕ var 0) refl)

  pub ordered : (j : ℕ) → OneToThree j → (k : ℕ) → OneToThree k → (j ≡ k → ⊥)
      → Ordered j k (6 - j - k)
  ordered j hj k hk f = in_order j k (6 - j - k) hj hk (third_of j hj k hk f) (sums j hj k hk f)

-- ---- in a seat

role_nth : (k a b c j : ℕ) → OneToThree j → nth j (role_of k 1 a b c) (role_of k 2 a b c) (role_of k 3 a b c)
    ≡ role_of k
    j a b c
role_nth k a b c = each-of-three (λ j. nth j (role_of k 1 a b c) (role_of k 2 a b c) (role_of k 3 a b c) ≡ role_of k j a
    b c) refl refl refl

module _ (d : Direction) (x y z : ℕ) (hx : x < 2) (hy : y < 2) (hz : z < 2) (k : ℕ) (hk : k < 4) where
  abbrev here : ℕ
  here = seat_of d x y z k

  pub seat_third : OneToThree (third_at here)
  seat_third =
      third_of _ (seat_first d x y z hx hy hz k hk) _ (seat_second d x y z hx hy hz k hk)
      (seat_apart d x y z hx hy hz k hk)

  pub seat_stands :
      (p : ℕ) (F : Floors) (G : Gaps)
      → Stands p F G (roles_of k (nat_abs d.x) (nat_abs d.y) (nat_abs d.z))
      → Stands p (floors_at here F) (gaps_at here G) (side_dets d (side_at here))
  seat_stands p F G i =
      let a = nat_abs d.x in
      let b = nat_abs d.y in
      let c = nat_abs d.z in
      let h1 = seat_first d x y z hx hy hz k hk in
      let h2 = seat_second d x y z hx hy hz k hk in
      let e : three (nth (first_at here) (role_of k 1 a b c) (role_of k 2 a b c) (role_of k 3 a b c))
      (nth (second_at here) (role_of k 1 a b c) (role_of k 2 a b c) (role_of k 3 a b c))
      (nth (third_at here) (role_of k 1 a b c) (role_of k 2 a b c) (role_of k 3 a b c)) ≡ side_dets d (side_at here) =
      (λ j. three (role_nth k a b c (first_at here) h1 j) (role_nth k a b c (second_at here) h2 j) (role_nth k a b c
      (third_at here) seat_third j))
      ∙ sym (seat_dets d x y z hx hy hz k hk) in
      subst (Stands p (floors_at here F) (gaps_at here G)) e
      (ordered p F G _ _ _ i (first_at here) h1 (second_at here) h2 (seat_apart d x y z hx hy hz k hk))
