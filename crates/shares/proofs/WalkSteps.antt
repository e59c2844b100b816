-- Where a walk stands after each of its steps, and that its numbers stay small. Assumes nothing.
use mathlib.Core.Path.{◌≡◌, sym, ◌∙◌, subst}
use Prim.Native.Nat.{ℕ, zero, suc, ◌+◌, ◌*◌, ◌-◌, ◌/◌, ◌^◌, ◌≤◌, ◌<◌}
use native.Mathlib.Omega.{arith}
use native.Mathlib.Nat.{pow-suc}
use lib.Pow.{pow_mono, pow_pos}
use Rattle.shares.specs.declared.Floors.{Floors}
use Rattle.shares.specs.declared.Gaps.{Gaps}
use Rattle.shares.specs.declared.walks.Walk.{Walk}
use Rattle.shares.specs.Means.Paths.{in_child, least_digit, least_path}
use Rattle.shares.specs.Means.WalkWords.{floor_at, Fair, IsWalk}
use Rattle.shares.proofs.LeastSteps.{AtMost, IsLeast, digit_small, child_small}
use Rattle.shares.proofs.LeastPath.{two_halves}
use Rattle.shares.proofs.FairChildren.{fair_corner, fair_least}

-- a path of m digits, and a digit more; n more
one_further : (m v d : ℕ) → v < 2 ^ (2 * m) → d < 4 → 4 * v + d < 2 ^ (2 * suc m)
one_further m v d l k =
    let q : 2 * suc m ≡ suc (suc (2 * m)) = omega arith in
    rw q (omega (arith, pow-suc 2 (suc (2 * m)), pow-suc 2 (2 * m)))

path_small :
    (n m p : ℕ) (F : Floors) (G : Gaps) (v : ℕ) → v < 2 ^ (2 * m) → least_path n p F G v < 2 ^ (2 * (n + m))
unfolding least_path
path_small zero m p F G v l = let e : 0 + m ≡ m = omega arith in rw e l
path_small (suc n) m p F G v l =
    let h = p / 2 in
    let e : n + suc m ≡ suc n + m = omega arith in
    let d = least_digit h F G in
    subst (λ (k : ℕ). least_path n h (in_child h d F G) G (4 * v + d) < 2 ^ (2 * k)) e
    (path_small n (suc m) h (in_child h d F G) G (4 * v + d) (one_further m v d l (digit_small h F G)))

module _ (w : Walk) (n p : ℕ) (F : Floors) (v : ℕ) (i : IsWalk w n p F v) where
  pub walk_short : v < 2 ^ 48
  walk_short = omega (arith, i.small, pow_mono {i = 2 * (w.degree - n)} {j = 48} (omega (arith, i.low)))

  -- the path v is short enough for n digits more
  pub walk_path : v < 2 ^ (2 * (24 - n))
  walk_path = omega (
    arith,
    i.small,
    pow_mono {i = 2 * (w.degree - n)} {j = 2 * (24 - n)} (omega (arith, i.low)),
  )

  pub walk_word : n ≡ 0 → (w.side < 32) × (w.degree ≤ 24) × (v < 2 ^ (2 * w.degree))
  walk_word e = (
    omega (arith, i.a_side),
    i.low,
    (let z : w.degree - n ≡ w.degree = omega arith in rw z at i.small),
  )

  pub walk_least :
      (u : ℕ)
      → u ≡ least_path n p F w.gaps v
      → (w.side < 32) × (w.degree ≤ 24) × (u < 2 ^ (2 * w.degree))
  walk_least u q =
      let e : n + (w.degree - n) ≡ w.degree = omega (arith, i.above) in (
        omega (arith, i.a_side),
        i.low,
        rw q (subst (λ (m : ℕ). least_path n p F w.gaps v < 2 ^ (2 * m)) e
            (path_small n (w.degree - n) p F w.gaps v i.small)),
      )

  -- where the edges of its children have p / 2 parts
  pub walk_half : (n ≡ 0 → ⊥) → IsWalk w (suc (n - 1)) (p / 2 + p / 2) F v
  walk_half f =
      let q : suc (n - 1) ≡ n = omega arith in
      let e : p / 2 + p / 2 ≡ p = halves in
      subst (λ (m : ℕ). IsWalk w m (p / 2 + p / 2) F v) (sym q) (subst (λ (r : ℕ). IsWalk w n r F v) (sym e) i)
    where
      halves : p / 2 + p / 2 ≡ p
      halves =
          let m = n - 1 + i.rest in
          let q : n + i.rest ≡ suc m = omega arith in
          let e : p ≡ 2 ^ suc m = i.parts ∙ (λ t. 2 ^ q t) in
          omega (arith, pow-suc 2 m)

-- where an edge has 2h parts
module _ (w : Walk) (n h : ℕ) (F K : Floors) (v k : ℕ) (i : IsWalk w (suc n) (h + h) F v) where
  -- to the child k, whose edge has h parts
  walk_child : k < 4 → K ≡ in_child h k F w.gaps → Fair h K w.gaps → IsWalk w n h K (4 * v + k)
  walk_child l e f = record {
    a_side = i.a_side;
    low = i.low;
    above = omega (arith, i.above);
    few = i.few;
    most = omega (arith, i.most);
    rest = i.rest;
    parts = omega (arith, i.parts, two_halves n i.rest);
    shares = rw e (child_small h F w.gaps 16777216 k (omega (arith, i.most)) i.shares);
    fair = f;
    small = further;
  }
    where
      further : 4 * v + k < 2 ^ (2 * (w.degree - n))
      further =
          let m = w.degree - suc n in
          let q : w.degree - n ≡ suc m = omega (arith, i.above) in
          rw q (one_further m v k i.small l)

  -- to the least, and to the child k with a share of half
  pub walk_to_least : IsLeast h F w.gaps k K → IsWalk w n h K (4 * v + k)
  walk_to_least e =
      let G = w.gaps in
      walk_child (rw e.0 (digit_small h F G)) e.1
      (rw (e.1, e.0) (fair_least h F G i.fair i.few))

  pub walk_to_corner : 1 ≤ k → k ≤ 3 → h ≤ floor_at k F → K ≡ in_child h k F w.gaps
      → IsWalk w n h K (4 * v + k)
  walk_to_corner l m a e =
      walk_child (omega arith) e (rw e (fair_corner h F w.gaps i.fair k l a))

-- from a side
pub walk_start :
    (w : Walk) (F : Floors)
    → w.side < 24
    → w.degree ≤ 24
    → (w.gaps.g1 ≤ 1) × (w.gaps.g2 ≤ 1) × (w.gaps.g3 ≤ 1)
    → AtMost 16777216 F
    → Fair 16777216 F w.gaps
    → IsWalk w w.degree 16777216 F 0
walk_start w F s l g f i = record {
  a_side = s;
  low = l;
  above = omega arith;
  few = g;
  most = omega arith;
  rest = 24 - w.degree;
  parts = (let e : 24 ≡ w.degree + (24 - w.degree) = omega arith in (λ t. 2 ^ e t));
  shares = f;
  fair = i;
  small = pow_pos (2 * (w.degree - w.degree));
}
