-- The demands on steps, from what a step answers and from its being the only such answer. Assumes nothing.
use mathlib.Core.Path.{◌≡◌, ◌∙◌, refl, sym, ap}
use mathlib.Core.List.{List}
use mathlib.Core.Logic.{◌⊎◌, inl, inr, ⊎_elim}
use Prim.Native.Nat.{ℕ}
use native.Mathlib.Omega.{arith}
use lib.ListN.{length}
use Rattle.net.specs.Division.{corner_of}
use Rattle.net.specs.Means.States.{point_of, state_of}
use Rattle.net.specs.Means.Walks.{Arrival, step_of}
use Rattle.net.specs.Sides.{IsSide, OneToThree, next, prev}
use Rattle.net.specs.declared.Point.{Point}
use Rattle.net.specs.declared.State.{State}
use Rattle.net.specs.declared.State.TheVariants.{Down, Up}
use Rattle.net.proofs.Loads.{HasAt, corner_is, spread_one}
use Rattle.net.proofs.Paths.{Digits}
use Rattle.net.proofs.Stepping.{Beside, next_three, prev_three, step_beside, step_only}
use Rattle.net.proofs.Table.{three}

abbrev Apart : State → ℕ → ℕ → Type 0
Apart a i j = point_of i a ≡ point_of j a → i ≡ j

differ : (a : State) (i : ℕ) → OneToThree i → (j : ℕ) → OneToThree j → Apart a i j
differ (Up x y z) =
    three (λ i. (j : ℕ) → OneToThree j → Apart (Up x y z) i j)
    (three (Apart (Up x y z) 1) (λ e. refl) (λ e. absurd (omega (arith, ap (λ (p : Point). p.w1) e))) (λ e. absurd (omega (arith, ap (λ (p : Point). p.w1) e))))
    (three (Apart (Up x y z) 2) (λ e. absurd (omega (arith, ap (λ (p : Point). p.w1) e))) (λ e. refl) (λ e. absurd (omega (arith, ap (λ (p : Point). p.w2) e))))
    (three (Apart (Up x y z) 3) (λ e. absurd (omega (arith, ap (λ (p : Point). p.w1) e))) (λ e. absurd (omega (arith, ap (λ (p : Point). p.w2) e))) (λ e. refl))
differ (Down x y z) =
    three (λ i. (j : ℕ) → OneToThree j → Apart (Down x y z) i j)
    (three (Apart (Down x y z) 1) (λ e. refl) (λ e. absurd (omega (arith, ap (λ (p : Point). p.w1) e))) (λ e. absurd (omega (arith, ap (λ (p : Point). p.w1) e))))
    (three (Apart (Down x y z) 2) (λ e. absurd (omega (arith, ap (λ (p : Point). p.w1) e))) (λ e. refl) (λ e. absurd (omega (arith, ap (λ (p : Point). p.w2) e))))
    (three (Apart (Down x y z) 3) (λ e. absurd (omega (arith, ap (λ (p : Point). p.w1) e))) (λ e. absurd (omega (arith, ap (λ (p : Point). p.w2) e))) (λ e. refl))

pub corners_differ : (s : ℕ) (ds : List ℕ) → IsSide s → (i : ℕ) → OneToThree i → (j : ℕ) → OneToThree j → corner_of s ds i ≡ corner_of s ds j → i ≡ j
corners_differ s ds h i l j m e =
    differ (state_of ds) i l j m (spread_one s _ _ h (sym (corner_is s ds i) ∙ e ∙ corner_is s ds j))

prev_one : (i : ℕ) → OneToThree i → (j : ℕ) → OneToThree j → prev i ≡ prev j → i ≡ j
prev_one =
    three (λ i. (j : ℕ) → OneToThree j → prev i ≡ prev j → i ≡ j)
    (three (λ j. prev 1 ≡ prev j → 1 ≡ j) (λ e. refl) (λ e. absurd (omega arith)) (λ e. absurd (omega arith)))
    (three (λ j. prev 2 ≡ prev j → 2 ≡ j) (λ e. absurd (omega arith)) (λ e. refl) (λ e. absurd (omega arith)))
    (three (λ j. prev 3 ≡ prev j → 3 ≡ j) (λ e. absurd (omega arith)) (λ e. absurd (omega arith)) (λ e. refl))

-- of two different numbers, the one is next or previous to the other
around : (i : ℕ) → OneToThree i → (k : ℕ) → OneToThree k → (i ≡ k → ⊥) → (i ≡ next k) ⊎ (i ≡ prev k)
around =
    three (λ i. (k : ℕ) → OneToThree k → (i ≡ k → ⊥) → (i ≡ next k) ⊎ (i ≡ prev k))
    (three (λ k. (1 ≡ k → ⊥) → (1 ≡ next k) ⊎ (1 ≡ prev k)) (λ f. absurd (f refl)) (λ f. inr refl) (λ f. inl refl))
    (three (λ k. (2 ≡ k → ⊥) → (2 ≡ next k) ⊎ (2 ≡ prev k)) (λ f. inl refl) (λ f. absurd (f refl)) (λ f. inr refl))
    (three (λ k. (3 ≡ k → ⊥) → (3 ≡ next k) ⊎ (3 ≡ prev k)) (λ f. inr refl) (λ f. inl refl) (λ f. absurd (f refl)))

module _ (s : ℕ) (ds : List ℕ) (hs : IsSide s) (hd : Digits ds) where
  own : (i : ℕ) → OneToThree i → HasAt s ds (corner_of s ds i)
  own i l = (i, l, refl)

  module _ (k : ℕ) (l : OneToThree k) where
    b : Beside k s ds (step_of k s ds)
    b = step_beside k s ds l hs hd

    -- "each shares with it just that edge's two corners"
    pub shares_ends : (i : ℕ) → OneToThree i → (i ≡ k → ⊥) → HasAt (step_of k s ds).side (step_of k s ds).digits (corner_of s ds i)
    shares_ends i m f =
        ⊎_elim (λ e. rw e (prev (step_of k s ds).edge, prev_three _ b.an_edge, b.after))
        (λ e. rw e (next (step_of k s ds).edge, next_three _ b.an_edge, b.before)) (around i m k l f)

    pub shares_just : HasAt (step_of k s ds).side (step_of k s ds).digits (corner_of s ds k) → ⊥
    shares_just = b.apart

    -- "one other triangle"
    pub another : (step_of k s ds).side ≡ s → (step_of k s ds).digits ≡ ds → ⊥
    another e f = b.apart (rw (e, f) (own k l))

  -- "a triangle's three neighbours are distinct"
  pub neighbours_differ : (k : ℕ) → OneToThree k → (m : ℕ) → OneToThree m → (k ≡ m → ⊥)
      → (step_of k s ds).side ≡ (step_of m s ds).side → (step_of k s ds).digits ≡ (step_of m s ds).digits → ⊥
  neighbours_differ k l m h f e g = shares_just k l (rw (e, g) (shares_ends m h k l f))

  -- a triangle with all three corners is the triangle itself
  pub one_triangle : (t : ℕ) (es : List ℕ) → IsSide t → Digits es → length es ≡ length ds
      → ((i : ℕ) → OneToThree i → HasAt t es (corner_of s ds i)) → (t ≡ s) × (es ≡ ds)
  one_triangle t es ht he n c =
      let l : OneToThree 1 = omega arith in
      ⊎_elim (λ e. e) (λ e. absurd (shares_just 1 l (rw (← e.0, ← e.1) (c 1 l))))
      (step_only 1 s ds l hs hd t es ht he n (c 2 (omega arith)) (c 3 (omega arith)))

  pub same_corners : (t : ℕ) (es : List ℕ) → IsSide t → Digits es → length es ≡ length ds
      → ((i : ℕ) → OneToThree i → corner_of t es i ≡ corner_of s ds i) → (t ≡ s) × (es ≡ ds)
  same_corners t es ht he n c = one_triangle t es ht he n (λ i l. (i, l, c i l))

  -- "stepping back through the edge reported returns the first triangle and edge"
  module _ (k : ℕ) (l : OneToThree k) where
    r : Arrival
    r = step_of k s ds

    returns : (s ≡ (step_of (step_of k s ds).edge (step_of k s ds).side (step_of k s ds).digits).side)
        × (ds ≡ (step_of (step_of k s ds).edge (step_of k s ds).side (step_of k s ds).digits).digits)
    returns =
        let c = b k l in
        ⊎_elim (λ e. absurd (another k l (sym e.0) (sym e.1))) (λ e. e)
        (step_only (step_of k s ds).edge (step_of k s ds).side (step_of k s ds).digits c.an_edge c.a_side c.the_digits s ds hs hd (sym c.degree)
        (prev k, prev_three k l, sym c.before) (next k, next_three k l, sym c.after))

    pub step_back : step_of (step_of k s ds).edge (step_of k s ds).side (step_of k s ds).digits ≡ record { side = s; digits = ds; edge = k }
    step_back =
        let c = b k l in
        let d = step_beside (step_of k s ds).edge (step_of k s ds).side (step_of k s ds).digits c.an_edge c.a_side c.the_digits in
        let q = step_of (step_of k s ds).edge (step_of k s ds).side (step_of k s ds).digits in
        let e : prev q.edge ≡ prev k =
        corners_differ s ds hs (prev q.edge) (prev_three _ d.an_edge) (prev k) (prev_three k l)
        (rw (← returns.0, ← returns.1) at d.after ∙ c.before) in
        let f : q.edge ≡ k = prev_one q.edge d.an_edge k l e in
        λ i. record { side = sym returns.0 i; digits = sym returns.1 i; edge = f i }
