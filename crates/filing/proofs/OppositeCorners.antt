-- The opposite corner: the opposite side, with digits 2 and 3 exchanged, has at each vertex what the corner has at the
-- opposite vertex, and so the exact coordinates are the negated ones. Assumes nothing.
use mathlib.Core.Path.{◌≡◌, ◌∙◌, refl, sym, ap, subst}
use mathlib.Core.List.{List}
use mathlib.Core.Logic.{◌↔◌, ⊎_elim}
use Prim.Native.Nat.{ℕ, ◌+◌, ◌^◌, ◌<◌, ◌≤◌}
use native.Mathlib.Omega.{arith}
use lib.Dec.{eqb}
use lib.IntN.{neg_ℤ}
use lib.ListN.{length, get_or}
use lib.Pow.{pow-lt}
use borrow.Author.Tests.{eq-eqb, ne_eqb}
use Rattle.golden.specs.Numbers.{negφ}
use Rattle.golden.proofs.IntegerOrder.{difs, le_or_lt}
use Rattle.golden.proofs.GoldenRing.{φ_path}
use Rattle.words.specs.Words.{side_of}
use Rattle.words.specs.Refusals.{IsCode}
use Rattle.words.specs.declared.TriangleCode.{TriangleCode}
use Rattle.words.proofs.Codes.{code_degree, code_side}
use Rattle.net.specs.Corners.{corner}
use Rattle.net.specs.Sides.{IsSide, OneToThree, corner_vertex}
use Rattle.net.specs.Division.{Weights, corner_of, each, load, sum}
use Rattle.net.specs.Means.Seams.{flip}
use Rattle.net.specs.Means.Spreads.{spread, weight_at}
use Rattle.net.specs.Means.States.{point_of, state_of}
use Rattle.net.specs.declared.Point.{Point}
use Rattle.net.specs.declared.State.{State}
use Rattle.net.proofs.Table.{◌and◌, ◌then◌, below, either_way, less, most, same, sides, sound, threes}
use Rattle.net.proofs.Paths.{Digits, are_digits_lem}
use Rattle.net.proofs.CodePlaces.{corner_at, digits_in, for_code, for_corner, for_digits, in_digits, in_length}
use Rattle.net.proofs.Flips.{each_length, flip_digits, flip_three, turn_all, turn_corner, turn_point}
use Rattle.net.proofs.Loads.{at_vertex, corner_is}
use Rattle.net.proofs.Demand3.{add_up_lem}
use Rattle.filing.specs.Coordinates.{exact, negated}
use Rattle.filing.specs.Means.Opposites.{opposite_side, opposite_of}
use Rattle.filing.specs.Means.Places.{balance_of}
use Rattle.filing.proofs.OnePoint.{opposite, opposite_small, same_place}
use Rattle.filing.proofs.Parts.{coordinates_path}
use Rattle.filing.proofs.Weighted.{balances, corner_twelve, exact_is}

-- ---- sides

pub opposite_side_lem : (s : ℕ) → IsSide s → IsSide (opposite_side s)
unfolding opposite_side
opposite_side_lem = sound (sides λ s. most 4 (opposite_side s) and less (opposite_side s) 24) refl

-- a vertex is a corner there where the opposite one is a corner here, 2 and 3 exchanged
opposite_vertex : (s : ℕ) → IsSide s → (v : ℕ) → v < 12 → (i : ℕ) → OneToThree i
    → (v ≡ corner_vertex (opposite_side s) (flip 1 i)) ↔ (opposite v ≡ corner_vertex s i)
unfolding corner_vertex opposite_side
opposite_vertex =
    sound
    (sides λ s. below 12 λ v. threes λ i.
    (same v (corner_vertex (opposite_side s) (flip 1 i)) then same (opposite v) (corner_vertex s i))
    and (same (opposite v) (corner_vertex s i) then same v (corner_vertex (opposite_side s) (flip 1 i)))) refl

-- ---- weights

-- q has at each vertex what p has at the opposite one
abbrev Opposites : (p q : Weights) → Type 0
Opposites p q = (v : ℕ) → v < 12 → get_or q v 0 ≡ get_or p (opposite v) 0

same_load : {a b c d : ℕ} → (a ≡ b) ↔ (c ≡ d) → (x : ℕ) → load (eqb a b) x ≡ load (eqb c d) x
same_load {a} {b} {c} {d} h x = ⊎_elim
    (λ e. simp (eq-eqb a b e, eq-eqb c d (h.0 e)))
    (λ n. simp (ne_eqb a b n, ne_eqb c d (λ e. n (h.1 e))))
    (either_way (same a b))

module _ (s : ℕ) (h : IsSide s) (p : Point) where
  opposite_weight : (v : ℕ) → v < 12 → weight_at (opposite_side s) (turn_point 1 p) v ≡ weight_at s p (opposite v)
  unfolding weight_at
  opposite_weight v l =
      let at = opposite_vertex s h v l in
      omega (
        arith,
        same_load (at 1 (omega arith)) p.w1,
        same_load (at 2 (omega arith)) p.w2,
        same_load (at 3 (omega arith)) p.w3,
      )

  opposite_spread : Opposites (spread s p) (spread (opposite_side s) (turn_point 1 p))
  opposite_spread v l =
      at_vertex (opposite_side s) (turn_point 1 p) v l
      ∙ opposite_weight v l
      ∙ sym (at_vertex s p (opposite v) (opposite_small v l))

opposite_place : (s : ℕ) (ds : List ℕ) → IsSide s → Digits ds → (i : ℕ) → OneToThree i
    → Opposites (corner_of s ds i) (corner_of (opposite_side s) (each (flip 1) ds) (flip 1 i))
opposite_place s ds h hd i m =
    let p = point_of i (state_of ds) in
    let e : corner_of (opposite_side s) (each (flip 1) ds) (flip 1 i) ≡ spread (opposite_side s) (turn_point 1 p) =
    corner_is (opposite_side s) (each (flip 1) ds) (flip 1 i)
    ∙ ap (λ (a : State). spread (opposite_side s) (point_of (flip 1 i) a)) (turn_all 1 (omega arith) ds hd)
    ∙ ap (spread (opposite_side s)) (turn_corner 1 (omega arith) i m (state_of ds)) in
    rw (corner_is s ds i, e) (opposite_spread s h p)

-- ---- coordinates

module _ (p q : Weights) (f : Opposites p q) where
  -- the weights at a and b less those at c and d, which are opposite to them in either order
  turned : (a b c d : ℕ) → (a < 12) × (b < 12) × (c < 12) × (d < 12)
      → (get_or p (opposite a) 0 + get_or p (opposite b) 0 ≡ get_or p c 0 + get_or p d 0)
      × (get_or p (opposite c) 0 + get_or p (opposite d) 0 ≡ get_or p a 0 + get_or p b 0)
      → balance_of q a b c d ≡ neg_ℤ (balance_of p a b c d)
  unfolding balance_of
  turned a b c d (la, lb, lc, ld) (e, g) =
      let e' : get_or q a 0 + get_or q b 0 ≡ get_or p c 0 + get_or p d 0 = omega (arith, f a la, f b lb, e) in
      let g' : get_or q c 0 + get_or q d 0 ≡ get_or p a 0 + get_or p b 0 = omega (arith, f c lc, f d ld, g) in
      rw (e', g') (simp difs (omega arith))

  opposite_balances : balances q ≡ negated (balances p)
  unfolding negφ
  opposite_balances =
      coordinates_path
      (φ_path (turned 4 7 5 11 (omega arith) (omega arith)) (turned 3 8 6 10 (omega arith) (omega arith)))
      (φ_path (turned 0 9 1 2 (omega arith) (omega arith)) (turned 4 5 7 11 (omega arith) (omega arith)))
      (φ_path (turned 3 6 8 10 (omega arith) (omega arith)) (turned 0 2 1 9 (omega arith) (omega arith)))

opposite_coordinates : (p q : Weights) → Opposites p q → length p ≡ 12 → length q ≡ 12
    → exact q ≡ negated (exact p)
opposite_coordinates p q f h k = exact_is q k ∙ opposite_balances p q f ∙ ap negated (sym (exact_is p h))

-- ---- codes

one_power : (m n : ℕ) → 2 ^ m ≡ 2 ^ n → m ≡ n
one_power m n e = ⊎_elim
    (λ a. ⊎_elim (λ b. omega arith) (λ b. absurd (omega (arith, pow-lt b))) (le_or_lt n m))
    (λ b. absurd (omega (arith, pow-lt b))) (le_or_lt m n)

module _ {n : ℕ} {t : TriangleCode} (c : IsCode n t) where
  abbrev s : ℕ
  s = side_of t.0

  abbrev ds : List ℕ
  ds = each (flip 1) (digits_in t)

  there : Digits ds
  there = are_digits_lem (flip_digits 1 (omega arith) (in_digits c))

  size : length ds ≡ n
  size = each_length (flip 1) (digits_in t) ∙ in_length c

  long : length ds ≤ 24
  long = omega (arith, size, code_degree c)

  pub opposite_code : IsCode n (opposite_of t)
  opposite_code =
      subst (λ (m : ℕ). IsCode m (opposite_of t)) size
      (for_code (opposite_side s) ds (opposite_side_lem s (code_side c)) there long)

  pub opposite_digits : digits_in (opposite_of t) ≡ ds
  opposite_digits = for_digits (opposite_side s) ds (opposite_side_lem s (code_side c)) there long

  opposite_corner : (i : ℕ) → OneToThree i → Opposites (corner t i) (corner (opposite_of t) (flip 1 i))
  opposite_corner i m =
      rw (corner_at t i, for_corner (opposite_side s) ds (opposite_side_lem s (code_side c)) there long (flip 1 i))
      (opposite_place s (digits_in t) (code_side c) (in_digits c) i m)

  pub opposite_exact : (i : ℕ) → OneToThree i
      → exact (corner (opposite_of t) (flip 1 i)) ≡ negated (exact (corner t i))
  opposite_exact i m =
      opposite_coordinates (corner t i) (corner (opposite_of t) (flip 1 i)) (opposite_corner i m)
      (corner_twelve c i).places (corner_twelve opposite_code (flip 1 i)).places

  -- no corner of another degree has them: its weights add to another power of two
  pub opposite_degree : {m : ℕ} {u : TriangleCode} → IsCode m u → (i j : ℕ) → OneToThree i → OneToThree j
      → exact (corner u j) ≡ negated (exact (corner t i)) → m ≡ n
  opposite_degree {m} {u} d i j l k e =
      let there = e ∙ sym (opposite_exact i l) in
      let p = (same_place d opposite_code j (flip 1 i) k (flip_three 1 (omega arith) i l)).0 there in
      one_power m n (sym (add_up_lem m u j d) ∙ ap sum p ∙ add_up_lem n (opposite_of t) (flip 1 i) opposite_code)
