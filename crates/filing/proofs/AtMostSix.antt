-- The sides that hold a direction of whole numbers other than zero are one or two, and together they have room for at most six triangles.
-- Assumes nothing.
use mathlib.Core.Path.{◌≡◌, refl, sym, ◌∙◌, ap}
use mathlib.Core.Logic.{◌⊎◌, inl, inr, ⊎_elim}
use Prim.Native.Nat.{ℕ, zero, suc, ◌+◌, ◌≤◌, ◌<◌}
use native.Mathlib.Decide.{ℕ_discrete}
use native.Mathlib.Omega.{arith}
use lib.ListN.{length}
use Rattle.golden.proofs.IntegerOrder.{le_or_lt}
use Rattle.net.proofs.Table.{Test, Holds, sound, below, same, most, ◌and◌, ◌or◌, ◌then◌, three}
use Rattle.net.specs.Means.Seams.{seam_side}
use Rattle.net.specs.Sides.{OneToThree, IsSide}
use Rattle.filing.specs.Holding.{AllNonNeg}
use Rattle.filing.specs.Means.Descent.{holders}
use Rattle.filing.specs.Means.Sides.{side_dets}
use Rattle.filing.specs.declared.Determinants.{Determinants}
use Rattle.filing.specs.declared.Direction.{Direction}
use Rattle.filing.proofs.SideUnits.{value, side_dets_lem}
use Rattle.filing.proofs.NoVertex.{0φ, zero_direction, two_planes}
use Rattle.filing.proofs.TwoSides.{one, two, Between, two_sides}
use Rattle.filing.proofs.Counting.{View, sgn, sgn_of, sgn_small, at_zero, at_least_zero, room, weight, live, count_weight}

-- f 4 + f 5 + .. over the first m sides
unfoldable pub sum_sides : (m : ℕ) → (ℕ → ℕ) → ℕ
sum_sides zero f = 0
sum_sides (suc m) f = sum_sides m f + f (4 + m)

-- ---- room

-- some room only where all are at least 0; at most 6, and at most 3 where one is 0
abbrev little : (a b c : ℕ) → Test
little a b c =
    (most 1 (room a b c) then (most 1 a and (most 1 b and most 1 c)))
    and (most (room a b c) 6 and ((same a 1 or (same b 1 or same c 1)) then most (room a b c) 3))

littles : (a : ℕ) → a < 3 → (b : ℕ) → b < 3 → (c : ℕ) → c < 3 → Holds (little a b c)
littles = sound (below 3 λ a. below 3 λ b. below 3 λ c. little a b c) refl

module _ (D : Determinants) where
  row : Holds (little (sgn D.d1) (sgn D.d2) (sgn D.d3))
  row = littles (sgn D.d1) (sgn_small D.d1) (sgn D.d2) (sgn_small D.d2) (sgn D.d3) (sgn_small D.d3)

  has_room : 1 ≤ weight D → AllNonNeg D
  unfolding weight
  has_room h =
      let r = row.0 h in
      record { n1 = at_least_zero D.d1 r.0; n2 = at_least_zero D.d2 r.1.0; n3 = at_least_zero D.d3 r.1.1 }

  weight_6 : weight D ≤ 6
  unfolding weight
  weight_6 = row.1.0

  weight_3 : (D.d1 ≡ 0φ) ⊎ ((D.d2 ≡ 0φ) ⊎ (D.d3 ≡ 0φ)) → weight D ≤ 3
  unfolding weight
  weight_3 h = row.1.1 (⊎_elim (λ e. inl (sgn_of (View.at e))) (λ h. inr (⊎_elim (λ e. inl (sgn_of (View.at e))) (λ e. inr (sgn_of (View.at e))) h)) h)

-- ---- the sides that hold d

module _ (d : Direction) (nonzero : d ≡ zero_direction → ⊥) where
  -- not all determinants of a side are 0
  pub side_live : (s : ℕ) → IsSide s → Holds (live (sgn (side_dets d s).d1) (sgn (side_dets d s).d2) (sgn (side_dets d s).d3))
  side_live s h = rw (side_dets_lem d s h) (λ z. nonzero (two_planes d s h 1 one 2 two (λ e. omega arith) (at_zero (value d s 1) z.0) (at_zero (value d s 2) z.1.0)))

  -- the triangles of degree n in the side s that hold d
  module _ (n : ℕ) where
    abbrev pub held_in : ℕ → ℕ
    held_in s = length (holders n (side_dets d s) 0)

    pub held_small : (s : ℕ) → IsSide s → held_in s ≤ weight (side_dets d s)
    held_small s h = count_weight n (side_dets d s) 0 (side_live s h)

    pub side_held : (s : ℕ) → IsSide s → 1 ≤ held_in s → AllNonNeg (side_dets d s)
    side_held s h l = has_room (side_dets d s) (omega (arith, held_small s h))

    pub meet : (s t : ℕ) → IsSide s → IsSide t → (s ≡ t → ⊥) → 1 ≤ held_in s → 1 ≤ held_in t → Between d s t
    meet s t hs ht f p q = two_sides d nonzero s hs (side_held s hs p) t ht (side_held t ht q) f

    -- the edge is the only one that d lies on, so there is no third side
    no_third : (s t r : ℕ) → IsSide s → IsSide t → IsSide r → (s ≡ t → ⊥) → (s ≡ r → ⊥) → 1 ≤ held_in s → 1 ≤ held_in t → 1 ≤ held_in r → t ≡ r
    no_third s t r hs ht hr f g p q o = go (ℕ_discrete a.0 b.0)
      where
        a : Between d s t
        a = meet s t hs ht f p q

        b : Between d s r
        b = meet s r hs hr g p o

        go : Dec (a.0 ≡ b.0) → t ≡ r
        go (yes e) = a.2 ∙ ap (seam_side s) e ∙ sym b.2
        go (no h) = absurd (nonzero (two_planes d s hs a.0 a.1 b.0 b.1 h a.3 b.3))

    -- on an edge a side has room for three
    pub at_most_3 : (s t : ℕ) → IsSide s → Between d s t → weight (side_dets d s) ≤ 3
    at_most_3 s t hs m = weight_3 (side_dets d s) (rw (side_dets_lem d s hs) (place m.0 m.1 m.3))
      where
        place : (k : ℕ) → OneToThree k → value d s k ≡ 0φ → (value d s 1 ≡ 0φ) ⊎ ((value d s 2 ≡ 0φ) ⊎ (value d s 3 ≡ 0φ))
        place = three (λ k. value d s k ≡ 0φ → (value d s 1 ≡ 0φ) ⊎ ((value d s 2 ≡ 0φ) ⊎ (value d s 3 ≡ 0φ))) (λ e. inl e) (λ e. inr (inl e)) (λ e. inr (inr e))

    -- of the first m sides none holds d, or one, or two
    pub data Few (m : ℕ) : Type 0 where
      none : ((t : ℕ) → IsSide t → t < 4 + m → held_in t ≡ 0) → sum_sides m held_in ≡ 0 → Few m
      single : (s : ℕ) → IsSide s → s < 4 + m → 1 ≤ held_in s → ((t : ℕ) → IsSide t → t < 4 + m → (s ≡ t → ⊥) → held_in t ≡ 0) → sum_sides m held_in ≡ held_in s → Few m
      double : (s t : ℕ) → IsSide s → IsSide t → s < 4 + m → t < 4 + m → (s ≡ t → ⊥) → 1 ≤ held_in s → 1 ≤ held_in t → sum_sides m held_in ≡ held_in s + held_in t → Few m

    -- the last of them, or one before
    last_or : (m t : ℕ) → t < 4 + suc m → (t ≡ 4 + m) ⊎ (t < 4 + m)
    last_or m t l = ⊎_elim (λ h. inl (omega arith)) (λ h. inr (omega arith)) (le_or_lt (4 + m) t)

    pub few : (m : ℕ) → m ≤ 20 → Few m
    unfolding sum_sides
    few zero h = none (λ t i l. absurd (omega (arith, i.0, l))) refl
    few (suc m) h = go (few m (omega arith)) (le_or_lt 1 (held_in (4 + m)))
      where
        here : IsSide (4 + m)
        here = (omega arith, omega arith)

        at : held_in (4 + m) < 1 → (t : ℕ) → t ≡ 4 + m → held_in t ≡ 0
        at p t e = ap held_in e ∙ (let z : held_in (4 + m) ≡ 0 = omega arith in z)

        go : Few m → (1 ≤ held_in (4 + m)) ⊎ (held_in (4 + m) < 1) → Few (suc m)
        go (none f e) (inl p) = single (4 + m) here (omega arith) p (λ t i l g. ⊎_elim (λ k. absurd (g (sym k))) (λ k. f t i k) (last_or m t l)) (omega arith)
        go (none f e) (inr p) = none (λ t i l. ⊎_elim (λ k. at p t k) (λ k. f t i k) (last_or m t l)) (omega arith)
        go (single s i l q f e) (inl p) = double (4 + m) s here i (omega arith) (omega arith) (λ g. omega arith) p q (omega arith)
        go (single s i l q f e) (inr p) = single s i (omega arith) q (λ t j k g. ⊎_elim (λ a. at p t a) (λ a. f t j a g) (last_or m t k)) (omega arith)
        go (double s t i j l k f q r e) (inl p) = absurd (f (no_third (4 + m) s t here i j (λ g. omega arith) (λ g. omega arith) p q r))
        go (double s t i j l k f q r e) (inr p) = double s t i j (omega arith) (omega arith) f q r (omega arith)

-- at every degree at most six triangles hold a direction of whole numbers other than zero
pub at_most_six : (n : ℕ) (d : Direction) → (d ≡ zero_direction → ⊥) → sum_sides 20 (λ s. length (holders n (side_dets d s) 0)) ≤ 6
at_most_six n d nonzero = go (few d nonzero n 20 (omega arith))
  where
    go : Few d nonzero n 20 → sum_sides 20 (λ s. length (holders n (side_dets d s) 0)) ≤ 6
    go (none f e) = omega arith
    go (single s i l q f e) = omega (arith, held_small d nonzero n s i, weight_6 (side_dets d s))
    go (double s t i j l k f q r e) =
        omega (
          arith,
          held_small d nonzero n s i,
          held_small d nonzero n t j,
          at_most_3 d nonzero n s t i (meet d nonzero n s t i j f q r),
          at_most_3 d nonzero n t s j (meet d nonzero n t s j i (λ g. f (sym g)) r q),
        )
