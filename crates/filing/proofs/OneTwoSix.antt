-- A direction of whole numbers other than zero is held by 1, 2 or 6 triangles of a degree, and by 1 or 2 sides. Where it lies on an edge of a
-- side, the side across has the same determinants in another order, so as many holders. Assumes nothing.
use mathlib.Core.Path.{◌≡◌, refl, sym, ◌∙◌, ap, subst}
use mathlib.Core.Bool.{Bool, true, false, cond}
use mathlib.Core.Logic.{◌⊎◌, inl, inr, ⊎_elim}
use mathlib.Core.List.{[], ◌∷◌}
use Prim.Native.Nat.{ℕ, ◌+◌, ◌≤◌, ◌<◌}
use native.Mathlib.Omega.{arith}
use lib.Dec.{eqb}
use lib.IntN.{pos, negsuc}
use lib.ListN.{length}
use Rattle.golden.proofs.GoldenRing.{φ_ring, reφ}
use Rattle.golden.proofs.Polynomials.{var, lit, ◌⊕◌, ◌⊗◌}
use Rattle.golden.proofs.RingSolver.{solve, reify, done}
use Rattle.golden.specs.Numbers.{golden, ◌+φ◌, negφ, ◌*φ◌}
use Rattle.golden.specs.declared.Golden.{Golden}
use Rattle.net.proofs.SharedVertices.{seam_side_lem, seam_kept_lem}
use Rattle.net.proofs.Table.{Test, Holds, sound, sides, threes, below, same, most, no, ◌and◌, ◌or◌, ◌then◌}
use Rattle.net.proofs.Table as table
use Rattle.net.specs.Means.Seams.{seam_side, seam_kept, flip}
use Rattle.net.specs.Sides.{OneToThree, IsSide, corner_vertex}
use Rattle.filing.specs.Coordinates.{◌+ᵛ◌, times}
use Rattle.filing.specs.Holding.{along, dot, three, AllNonNeg}
use Rattle.filing.specs.Means.Descent.{holds, holders}
use Rattle.filing.specs.Means.Sides.{side_dets}
use Rattle.filing.specs.declared.Coordinates.{Coordinates}
use Rattle.filing.specs.declared.Determinants.{Determinants}
use Rattle.filing.specs.declared.Direction.{Direction}
use Rattle.filing.proofs.GoldenTests.{sameᵛ, ᵛ_same}
use Rattle.filing.proofs.Parts.{dets_path}
use Rattle.filing.proofs.SideUnits.{plane, value, side_dets_lem}
use Rattle.filing.proofs.Cover.{cover}
use Rattle.filing.proofs.NoVertex.{0φ, zero_direction, two_planes}
use Rattle.filing.proofs.TwoSides.{one, two, last, Between}
use Rattle.filing.proofs.Counting.{sgn_small, sgn_held, at_zero, room, weight, roomy}
use Rattle.filing.proofs.Permuting.{count, count_now, count_mirrored, count_first_last, count_first_two}
use Rattle.filing.proofs.ExactCounts.{said, room_of, exactly}
use Rattle.filing.proofs.AtMostSix.{sum_sides, side_live, held_in, at_most_3, meet, Few, none, single, double, few}

-- ---- across an edge

-- by the plane of edge k the planes of the two sides differ: -2 times at the edge itself, φ - 1 times at the others
abbrev part : (i k : ℕ) → Golden
part i k = cond (eqb i k) (golden (negsuc 1) (pos 0)) (golden (negsuc 0) (pos 1))

across_plane : (s : ℕ) → IsSide s → (k : ℕ) → OneToThree k → (i : ℕ) → OneToThree i → plane (seam_side s k) (flip (seam_kept s k) i) ≡ plane s i +ᵛ times (part i k) (plane s k)
unfolding seam_side seam_kept corner_vertex ◌+φ◌ negφ ◌*φ◌
across_plane s h k l i m =
    ᵛ_same (plane (seam_side s k) (flip (seam_kept s k) i)) (plane s i +ᵛ times (part i k) (plane s k))
    (sound (sides λ s. threes λ k. threes λ i. sameᵛ (plane (seam_side s k) (flip (seam_kept s k) i)) (plane s i +ᵛ times (part i k) (plane s k))) refl s h k l i m)

dot_part : (g a b : Coordinates) (c : Golden) → dot g (a +ᵛ times c b) ≡ dot g a +φ c *φ dot g b
dot_part g a b c =
    reify φ_ring (g.x ∷ g.y ∷ g.z ∷ a.x ∷ a.y ∷ a.z ∷ b.x ∷ b.y ∷ b.z ∷ c ∷ [])
    (λ σ x. simp (x 0, x 1, x 2, x 3, x 4, x 5, x 6, x 7, x 8, x 9, reφ) (done φ_ring σ _ _ refl))

add_nothing : (x c : Golden) {e : Golden} → e ≡ 0φ → x +φ c *φ e ≡ x
add_nothing x c z = ap (λ (e : Golden). x +φ c *φ e) z ∙ solve φ_ring (x ∷ c ∷ []) (var 0 ⊕ var 1 ⊗ lit 0) (var 0) refl

flip_three : (c : ℕ) → OneToThree c → (i : ℕ) → OneToThree i → OneToThree (flip c i)
flip_three = sound (threes λ c. threes λ i. most 1 (flip c i) and most (flip c i) 3) refl

flip_back : (c : ℕ) → OneToThree c → (i : ℕ) → OneToThree i → flip c (flip c i) ≡ i
flip_back = sound (threes λ c. threes λ i. same (flip c (flip c i)) i) refl

module _ (d : Direction) (s : ℕ) (hs : IsSide s) (k : ℕ) (hk : OneToThree k) (on : value d s k ≡ 0φ) where
  across_value : (i : ℕ) → OneToThree i → value d (seam_side s k) (flip (seam_kept s k) i) ≡ value d s i
  across_value i m =
      ap (λ (w : Coordinates). dot (along d) w) (across_plane s hs k hk i m)
      ∙ dot_part (along d) (plane s i) (plane s k) (part i k) ∙ add_nothing (value d s i) (part i k) on

  back_value : (i : ℕ) → OneToThree i → value d (seam_side s k) i ≡ value d s (flip (seam_kept s k) i)
  back_value i m =
      let h = seam_kept_lem s hs k hk in
      ap (λ (j : ℕ). value d (seam_side s k) j) (sym (flip_back (seam_kept s k) h i m)) ∙ across_value (flip (seam_kept s k) i) (flip_three (seam_kept s k) h i m)

  permuted : (n v w c : ℕ) → OneToThree c
      → count n (three (value d s (flip c 1)) (value d s (flip c 2)) (value d s (flip c 3))) v ≡ count n (three (value d s 1) (value d s 2) (value d s 3)) w
  permuted n v w = table.three
      (λ c. count n (three (value d s (flip c 1)) (value d s (flip c 2)) (value d s (flip c 3))) v ≡ count n (three (value d s 1) (value d s 2) (value d s 3)) w)
      (count_mirrored n (three (value d s 1) (value d s 2) (value d s 3)) v w)
      (count_first_last n (value d s 1) (value d s 2) (value d s 3) v w)
      (count_first_two n (value d s 1) (value d s 2) (value d s 3) v w)

  -- as many hold in the side across
  pub across_count : (n v w : ℕ) → count n (side_dets d (seam_side s k)) v ≡ count n (side_dets d s) w
  across_count n v w =
      ap (λ (D : Determinants). count n D v) (side_dets_lem d (seam_side s k) (seam_side_lem s hs k hk) ∙ dets_path (back_value 1 one) (back_value 2 two) (back_value 3 last))
      ∙ permuted n v w (seam_kept s k) (seam_kept_lem s hs k hk) ∙ ap (λ (D : Determinants). count n D w) (sym (side_dets_lem d s hs))

seam_other : (s : ℕ) → IsSide s → (k : ℕ) → OneToThree k → s ≡ seam_side s k → ⊥
unfolding seam_side
seam_other = sound (sides λ s. threes λ k. no (same s (seam_side s k))) refl

-- ---- the room of a side that holds

-- all, or half with one determinant 0, or two are 0
abbrev kind : (a b c : ℕ) → Test
kind a b c =
    most 1 (room a b c)
    then (same (room a b c) 6 or ((same (room a b c) 3 and (same a 1 or (same b 1 or same c 1))) or ((same a 1 and same b 1) or ((same b 1 and same c 1) or (same a 1 and same c 1)))))

kinds : (a : ℕ) → a < 3 → (b : ℕ) → b < 3 → (c : ℕ) → c < 3 → Holds (kind a b c)
kinds = sound (below 3 λ a. below 3 λ b. below 3 λ c. kind a b c) refl

abbrev OnEdge : Direction → ℕ → Type 0
OnEdge d s = (k : ℕ) × OneToThree k × (value d s k ≡ 0φ)

abbrev Kind : Direction → ℕ → Determinants → Type 0
Kind d s D = 1 ≤ room_of D → (room_of D ≡ 6) ⊎ ((room_of D ≡ 3) × OnEdge d s)

module _ (d : Direction) (nonzero : d ≡ zero_direction → ⊥) where
  side_kind : (s : ℕ) → IsSide s → Kind d s (side_dets d s)
  side_kind s h = subst (Kind d s) (sym (side_dets_lem d s h)) (λ l. ⊎_elim (λ e. inl e)
      (⊎_elim (λ e. inr (e.0, ⊎_elim (λ z. (1, one, at_zero _ z)) (⊎_elim (λ z. (2, two, at_zero _ z)) (λ z. (3, last, at_zero _ z))) e.1))
      (λ e. absurd (nonzero (⊎_elim
      (λ z. two_planes d s h 1 one 2 two (λ f. omega arith) (at_zero _ z.0) (at_zero _ z.1))
      (⊎_elim (λ z. two_planes d s h 2 two 3 last (λ f. omega arith) (at_zero _ z.0) (at_zero _ z.1))
      (λ z. two_planes d s h 1 one 3 last (λ f. omega arith) (at_zero _ z.0) (at_zero _ z.1))) e))))
      (kinds _ (sgn_small (value d s 1)) _ (sgn_small (value d s 2)) _ (sgn_small (value d s 3)) l))

  module _ (n : ℕ) where
    abbrev held : ℕ → ℕ
    held s = held_in d nonzero n s

    exact_at : (s : ℕ) → IsSide s → Holds (said (room_of (side_dets d s)) (held s))
    exact_at s h = exactly n (side_dets d s) 0 (side_live d nonzero s h)

    has_one : (s : ℕ) → IsSide s → AllNonNeg (side_dets d s) → 1 ≤ held s
    has_one s h a =
        let D = side_dets d s in
        (exact_at s h).1.0 (roomy _ (sgn_small D.d1) _ (sgn_small D.d2) _ (sgn_small D.d3) (sgn_held D.d1 a.n1) (sgn_held D.d2 a.n2) (sgn_held D.d3 a.n3) (side_live d nonzero s h))

    not_none : ((t : ℕ) → IsSide t → t < 24 → held t ≡ 0) → ⊥
    not_none f = let c = cover d in omega (arith, has_one c.0 c.1 c.2, f c.0 c.1 c.1.1)

    -- a lone side is not on an edge
    lone : (s : ℕ) → IsSide s → 1 ≤ held s → ((t : ℕ) → IsSide t → t < 24 → (s ≡ t → ⊥) → held t ≡ 0) → room_of (side_dets d s) ≡ 6
    lone s h l f = ⊎_elim (λ e. e) (λ e. absurd (
        let k = e.1.0 in
        let t = seam_side_lem s h k e.1.1 in
        omega (arith, across_count d s h k e.1.1 e.1.2 n 0 0, f (seam_side s k) t t.1 (seam_other s h k e.1.1), l)))
        (side_kind s h (omega (arith, (exact_at s h).0, l)))

    -- of two sides, each has half the room, and they have as many holders
    half : (s t : ℕ) → IsSide s → 1 ≤ held s → Between d s t → room_of (side_dets d s) ≡ 3
    unfolding weight
    half s t h l m = ⊎_elim (λ e. absurd (omega (arith, at_most_3 d nonzero n s t h m, e))) (λ e. e.0) (side_kind s h (omega (arith, (exact_at s h).0, l)))

    equal : (s t : ℕ) → IsSide s → Between d s t → held t ≡ held s
    equal s t h m = ap held m.2 ∙ across_count d s h m.0 m.1 m.3 n 0 0

-- a direction of whole numbers other than zero is held by 1, 2 or 6 triangles of a degree
pub one_two_six : (n : ℕ) (d : Direction) → (d ≡ zero_direction → ⊥)
    → (sum_sides 20 (λ s. length (holders n (side_dets d s) 0)) ≡ 1) ⊎ ((sum_sides 20 (λ s. length (holders n (side_dets d s) 0)) ≡ 2) ⊎ (sum_sides 20 (λ s. length (holders n (side_dets d s) 0)) ≡ 6))
one_two_six n d nonzero = go (few d nonzero n 20 (omega arith))
  where
    S : ℕ
    S = sum_sides 20 (λ s. length (holders n (side_dets d s) 0))

    go : Few d nonzero n 20 → (S ≡ 1) ⊎ ((S ≡ 2) ⊎ (S ≡ 6))
    go (none f e) = absurd (not_none d nonzero n f)
    go (single s i l q f e) = ⊎_elim (λ z. inl (e ∙ z)) (⊎_elim (λ z. inr (inl (e ∙ z))) (λ z. inr (inr (e ∙ z))))
        ((exact_at d nonzero n s i).1.1.1 (lone d nonzero n s i q f))
    go (double s t i j l k f q r e) =
        let m = meet d nonzero n s t i j f q r in
        let w = equal d nonzero n s t i m in
        ⊎_elim (λ z. inr (inl (e ∙ (let y : held_in d nonzero n s + held_in d nonzero n t ≡ 2 = omega (arith, w, z) in y))))
        (λ z. inr (inr (e ∙ (let y : held_in d nonzero n s + held_in d nonzero n t ≡ 6 = omega (arith, w, z) in y))))
        ((exact_at d nonzero n s i).1.1.0 (half d nonzero n s t i q m))

at_once : (D : Determinants) (v : ℕ) → count 0 D v ≤ 1
at_once D v = rw (count_now D v) (go (holds D))
  where
    go : (b : Bool) → cond b 1 0 ≤ 1
    go true = omega arith
    go false = omega arith

-- and by one or two sides
pub one_or_two : (d : Direction) → (d ≡ zero_direction → ⊥)
    → (sum_sides 20 (λ s. length (holders 0 (side_dets d s) 0)) ≡ 1) ⊎ (sum_sides 20 (λ s. length (holders 0 (side_dets d s) 0)) ≡ 2)
one_or_two d nonzero = go (few d nonzero 0 20 (omega arith))
  where
    S : ℕ
    S = sum_sides 20 (λ s. length (holders 0 (side_dets d s) 0))

    one_each : (s : ℕ) → held_in d nonzero 0 s ≤ 1
    one_each s = at_once (side_dets d s) 0

    go : Few d nonzero 0 20 → (S ≡ 1) ⊎ (S ≡ 2)
    go (none f e) = absurd (not_none d nonzero 0 f)
    go (single s i l q f e) = inl (e ∙ (let y : held_in d nonzero 0 s ≡ 1 = omega (arith, one_each s) in y))
    go (double s t i j l k f q r e) = inr (e ∙ (let y : held_in d nonzero 0 s + held_in d nonzero 0 t ≡ 2 = omega (arith, one_each s, one_each t) in y))
