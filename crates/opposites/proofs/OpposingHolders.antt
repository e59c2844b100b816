-- A triangle holds a direction exactly when its opposite holds the negated one. Assumes nothing.
use mathlib.Core.Path.{◌≡◌, ◌∙◌, refl, sym, subst}
use mathlib.Core.Logic.{◌↔◌}
use mathlib.Core.List.{[], ◌∷◌}
use mathlib.Core.Bool.{◌&&◌}
use Prim.Native.Nat.{ℕ, ◌≤◌}
use native.Mathlib.Omega.{arith}
use lib.Dec.{eqb, ltb}
use Rattle.frame.specs.Refusals.{◌either◌}
use Rattle.golden.specs.Numbers.{negφ}
use Rattle.golden.proofs.Magnitudes.{abs_neg}
use Rattle.golden.proofs.RingSolver.{reify, done}
use Rattle.golden.proofs.GoldenRing.{φ_ring, reφ}
use Rattle.words.specs.Refusals.{IsCode}
use Rattle.words.specs.declared.TriangleCode.{TriangleCode}
use Rattle.net.specs.Corners.{corner}
use Rattle.filing.specs.Coordinates.{exact, negated}
use Rattle.filing.specs.Filing.{IsFiled}
use Rattle.filing.specs.Holding.{along, determinant, replaced, determinants, three, dets, Holds, AllNonNeg}
use Rattle.filing.specs.Means.Opposites.{opposite_of}
use Rattle.filing.specs.declared.Coordinates.{Coordinates}
use Rattle.filing.specs.declared.Direction.{Direction}
use Rattle.filing.specs.declared.Determinants.{Determinants}
use Rattle.filing.proofs.Parts.{dets_path}
use Rattle.directions.specs.Refusals.{refuse_file}
use Rattle.directions.proofs.Refused.{far, none, refuse_by}
use Rattle.opposites.specs.Opposites.{negated_direction, IsOpposite}
use Rattle.opposites.specs.Promises.{OppositeHolder}
use Rattle.opposites.proofs.Opposing.{opposite_back, opposite_is}

-- three negated, and two of them exchanged
turned_determinant : (a b c : Coordinates) → determinant (negated a) (negated c) (negated b) ≡ determinant a b c
unfolding determinant
turned_determinant a b c =
    reify φ_ring (a.x ∷ a.y ∷ a.z ∷ b.x ∷ b.y ∷ b.z ∷ c.x ∷ c.y ∷ c.z ∷ [])
    (λ σ k. simp (k 0, k 1, k 2, k 3, k 4, k 5, k 6, k 7, k 8, reφ) (done φ_ring σ _ _ refl))

abbrev swapped : Determinants → Determinants
swapped D = three D.d1 D.d3 D.d2

turned_replaced : (g a b c : Coordinates)
    → replaced (negated g) (negated a) (negated c) (negated b) ≡ swapped (replaced g a b c)
unfolding replaced
turned_replaced g a b c =
    dets_path (turned_determinant g b c) (turned_determinant a b g) (turned_determinant a g c)

along_negated : (d : Direction) → along (negated_direction d) ≡ negated (along d)
unfolding negφ
along_negated d = refl

swapped_all : (D : Determinants) → AllNonNeg D → AllNonNeg (swapped D)
swapped_all D h = record { n1 = h.n1; n2 = h.n3; n3 = h.n2 }

module _ {n : ℕ} {t t' : TriangleCode} (o : IsOpposite n t t') (d : Direction) where
  turned_dets : dets t' (negated_direction d) ≡ swapped (dets t d)
  unfolding determinants
  turned_dets =
      (λ i. replaced (along_negated d i) (o.negates 1 (omega arith) i) (o.negates 3 (omega arith) i)
      (o.negates 2 (omega arith) i))
      ∙ turned_replaced (along d) (exact (corner t 1)) (exact (corner t 2)) (exact (corner t 3))

  pub opposite_holds : Holds t d ↔ Holds t' (negated_direction d)
  opposite_holds = (
    λ h. subst AllNonNeg (sym turned_dets) (swapped_all (dets t d) h),
    λ h. swapped_all (swapped (dets t d)) (subst AllNonNeg turned_dets h),
  )

-- "The set of holders of the negated direction is the set of opposites of the holders."
pub all_opposites : (n : ℕ) (d : Direction) (t' : TriangleCode) → IsCode n t'
    → Holds t' (negated_direction d) ↔ ((t : TriangleCode) × OppositeHolder n d t t')
all_opposites n d t' c = (
  λ h.
      let o = opposite_is c in
      let b = opposite_back c o in
      (opposite_of t', record { code = o.code; holds = (opposite_holds b d).1 h; opposite = b }),
  λ x. (opposite_holds x.1.opposite d).0 x.1.holds,
)

-- the filed code is the least of these
pub filed_least : (n : ℕ) (d : Direction) (r' : TriangleCode) → IsFiled n (negated_direction d) r'
    ↔ (((t : TriangleCode) × OppositeHolder n d t r')
    × ((t t' : TriangleCode) → OppositeHolder n d t t' → r'.0 ≤ t'.0))
filed_least n d r' = (
  λ f. (
    (all_opposites n d r' f.code).0 f.holds,
    λ t t' x. f.least t' x.opposite.code ((opposite_holds x.opposite d).0 x.holds),
  ),
  λ x. record {
    code = x.0.1.opposite.code;
    holds = (all_opposites n d r' x.0.1.opposite.code).1 x.0;
    least = λ t' c h. let y = (all_opposites n d t' c).0 h in x.1 y.0 t' y.1;
  },
)

-- where just one triangle holds the direction
pub filed_alone : (n : ℕ) (d : Direction) (r r' : TriangleCode) → IsFiled n d r → IsFiled n (negated_direction d) r'
    → ((t : TriangleCode) → IsCode n t → Holds t d → t ≡ r) → IsOpposite n r r'
filed_alone n d r r' f g alone =
    let x = ((filed_least n d r').0 g).0 in
    subst (λ (t : TriangleCode). IsOpposite n t r') (alone x.0 x.1.code x.1.holds) x.1.opposite

-- ---- the size of a coordinate, and so what is refused, stays

pub refused_alike : (n : ℕ) (d : Direction) → refuse_file n (negated_direction d) ≡ refuse_file n d
refused_alike n d =
    let x = abs_neg d.x in
    let y = abs_neg d.y in
    let z = abs_neg d.z in
    let far-too : far (negated_direction d) ≡ far d =
    λ i. ltb 1000000000 (x i) either ltb 1000000000 (y i) either ltb 1000000000 (z i) in
    let none-too : none (negated_direction d) ≡ none d = λ i. eqb (x i) 0 && (eqb (y i) 0 && eqb (z i) 0) in
    sym (refuse_by n (negated_direction d) refl far-too none-too) ∙ refuse_by n d refl refl refl
