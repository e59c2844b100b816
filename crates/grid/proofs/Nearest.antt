-- t and drawn coordinates are as specs/Nearest.antt says. Assumes nothing.
use mathlib.Core.Path.{◌≡◌, ◌∙◌, refl, sym, ap, subst}
use Prim.Native.Nat.{ℕ, zero, suc, ◌^◌, ◌≤◌, ◌<◌}
use native.Mathlib.Omega.{arith}
use lib.IntN.{ℤ, pos, negsuc, neg_ℤ, nat_abs}
use lib.Ieee.{Float, binary64, to_bits}
use Rattle.frame.specs.Answers.{Answer}
use Rattle.frame.proofs.Answering.{good, passed}
use Rattle.golden.specs.Numbers.{negφ}
use Rattle.golden.specs.Drawing.{quantity}
use Rattle.golden.proofs.Nearest.{nearest_means, no_half, quantity_irrational, quantity_whole}
use Rattle.golden.proofs.Nearest.{t_neg, t_one, t_small, t_some}
use Rattle.words.specs.Words.{corner_number, degree_of}
use Rattle.words.specs.Refusals.{IsCode}
use Rattle.words.specs.declared.CornerName.{CornerName}
use Rattle.words.specs.declared.TriangleCode.{TriangleCode}
use Rattle.words.proofs.Codes.{code_degree}
use Rattle.net.specs.Corners.{code_inside, corner, named}
use Rattle.net.specs.Refusals.{check_name}
use Rattle.net.specs.Sides.{OneToThree}
use Rattle.net.specs.Means.Seams.{flip}
use Rattle.net.proofs.Canonical.{name_means, name_passes_all}
use Rattle.net.proofs.Demand3.{one_name_each}
use Rattle.net.proofs.Flips.{flip_three}
use Rattle.filing.specs.Coordinates.{exact, negated}
use Rattle.filing.specs.Drawing.{AreTicks, IsPoint}
use Rattle.filing.specs.Means.Opposites.{opposite_of}
use Rattle.filing.specs.Means.Places.{Small}
use Rattle.filing.specs.declared.Coordinates.{Coordinates}
use Rattle.filing.specs.declared.Point.{Point}
use Rattle.filing.specs.declared.Ticks.{Ticks}
use Rattle.filing.proofs.OppositeCorners.{opposite_code, opposite_degree, opposite_exact}
use Rattle.filing.proofs.Weighted.{corner_twelve, exact_small}
use Rattle.corners.proofs.Refused.{numbered}
use Rattle.points.specs.Answers.{Pointed, Ticked, no_point, no_ticks}
use Rattle.points.specs.Bits.{bits_of}
use Rattle.points.specs.Answers.{PointAnswer}
use Rattle.points.specs.Answers.{TicksAnswer}
use Rattle.points.proofs.DrawnBits.{magnitude_small, points_bits}
use Rattle.points.proofs.OnePlace.{ticks_one}
use Rattle.grid.specs.Nearest.{Nearest, Opposed, OpposedPoints, negative}

-- ---- opposite corners

-- the code and the number of a name
pub name_corner : (p : CornerName) → check_name p ≡ 0
    → IsCode (degree_of p.0) (code_inside p) × OneToThree (corner_number p.0)
name_corner p z = let x = ((name_means p).0 z).1 in (x.code, x.number)

name_some : (p : CornerName) → check_name p ≡ 0
    → (q : CornerName) × (check_name q ≡ 0) × (degree_of q.0 ≡ degree_of p.0)
    × (exact (named q) ≡ negated (exact (named p)))
name_some p z =
    let c = name_corner p z in
    let i = corner_number p.0 in
    let l = flip_three 1 (omega arith) i c.1 in
    let y = one_name_each (degree_of p.0) (opposite_of (code_inside p)) (flip 1 i) (opposite_code c.0) l in
    let w = name_passes_all y.1 in
    (y.0, w.0, w.1, ap exact y.1.there ∙ opposite_exact c.0 i c.1)

ticks_turned : (c : Coordinates) {r : Ticks} → AreTicks c r → AreTicks (negated c) (negative r)
ticks_turned c a = record { x = t_neg c.x a.x; y = t_neg c.y a.y; z = t_neg c.z a.z }

-- an answer whose number is 0
ticked : {f : ℕ} {c : Coordinates} {r : TicksAnswer} → Answer f (Ticked c) no_ticks r → r.refusal ≡ 0
    → AreTicks c r.at
ticked a y = (good (λ (r : TicksAnswer). r.refusal) refl (λ r g. g.number) a y).are

-- two answers at c and d, which are opposite
ticks_opposite : {f g : ℕ} {c d : Coordinates} {r s : TicksAnswer} → d ≡ negated c
    → Answer f (Ticked c) no_ticks r → r.refusal ≡ 0 → Answer g (Ticked d) no_ticks s → s.refusal ≡ 0
    → s.at ≡ negative r.at
ticks_opposite {c = c} {s = s} e a y b z =
    ticks_one (subst (λ (d : Coordinates). AreTicks d s.at) e (ticked b z)) (ticks_turned c (ticked a y))

-- ---- their bits

opposed : (n : ℕ) (t : ℤ) {a b : Float} → n ≤ 24 → nat_abs t < 2 ^ 53
    → to_bits binary64 a ≡ bits_of n t → to_bits binary64 b ≡ bits_of n (neg_ℤ t) → Opposed a b
unfolding bits_of
opposed n (pos zero) l h e f = record {
  size = omega arith;
  sign = λ z. absurd (z (omega arith));
  zero = λ z. omega arith;
}
opposed n (pos (suc k)) l h e f =
    let m = magnitude_small n k l h in
    record { size = omega arith; sign = λ z. omega arith; zero = λ z. absurd (omega arith) }
opposed n (negsuc k) l h e f =
    let m = magnitude_small n k l h in
    record { size = omega arith; sign = λ z. omega arith; zero = λ z. absurd (omega arith) }

points_opposed : {n : ℕ} (c : Coordinates) {r s : Point} → n ≤ 24 → Small c → Small (negated c)
    → IsPoint n c r → IsPoint n (negated c) s → OpposedPoints r s
points_opposed {n} c l w v p q =
    let ts : Ticks = record { x = p.x.0; y = p.y.0; z = p.z.0 } in
    let are : AreTicks c ts = record { x = p.x.1; y = p.y.1; z = p.z.1 } in
    let here = points_bits l w are p in
    let there = points_bits l v (ticks_turned c are) q in
    record {
      x = opposed n ts.x l (omega (arith, t_small w.x are.x)) here.x there.x;
      y = opposed n ts.y l (omega (arith, t_small w.y are.y)) here.y there.y;
      z = opposed n ts.z l (omega (arith, t_small w.z are.z)) here.z there.z;
    }

-- an answer whose number is 0
module _ {f n : ℕ} {c : Coordinates} {r : PointAnswer}
    (a : Answer f (Pointed n c) no_point r) (y : r.refusal ≡ 0) where
  none : f ≡ 0
  none = passed (λ (r : PointAnswer). r.refusal) refl (λ r g. g.number) a y

  pointed : IsPoint n c r.at
  pointed = (a.answered none).is

-- two answers at corner i of t and at corner j of u, which are opposite
points_opposite : {f g m n : ℕ} {t u : TriangleCode} {i j : ℕ} {r s : PointAnswer}
    → (f ≡ 0 → IsCode n t × OneToThree i) → (g ≡ 0 → IsCode m u × OneToThree j)
    → exact (corner u j) ≡ negated (exact (corner t i))
    → Answer f (Pointed n (exact (corner t i))) no_point r → r.refusal ≡ 0
    → Answer g (Pointed m (exact (corner u j))) no_point s → s.refusal ≡ 0
    → OpposedPoints r.at s.at
points_opposite {n = n} {t = t} {i = i} {j = j} {s = s} codes others e a y b z =
    let c = codes (none a y) in
    let d = others (none b z) in
    let same = opposite_degree c.0 d.0 i j c.1 d.1 e in
    points_opposed (exact (corner t i)) (code_degree c.0) (exact_small (corner_twelve c.0 i))
    (subst Small e (exact_small (corner_twelve d.0 j))) (pointed a y)
    (subst (λ (k : ℕ). IsPoint k (negated (exact (corner t i))) s.at) same (rw (sym e) (pointed b z)))

pub nearest : Nearest
nearest = record {
  none_nearer = λ x. nearest_means (quantity x);
  one = λ x. let h = t_some x in (h.0, h.1, λ s k. t_one x k h.1);
  no_tie = λ x t. (λ h. no_half _ h.0 h.1, λ h. no_half _ h.0 h.1);
  whole_there = quantity_whole;
  irrational = quantity_irrational;
  turned = λ x s t h k. t_one (negφ x) k (t_neg x h);
  corner_some = λ n t i c l.
      (opposite_of t, flip 1 i, opposite_code c, flip_three 1 (omega arith) i l, opposite_exact c i l);
  name_some = name_some;
  corners = λ t u i j r s. ticks_opposite;
  names = λ p q r s. ticks_opposite;
  drawn = λ t u i j r s. points_opposite (numbered t i) (numbered u j);
  drawn_names = λ p q r s. points_opposite (name_corner p) (name_corner q);
}
