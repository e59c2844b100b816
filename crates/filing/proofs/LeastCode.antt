-- The descent from the least side that holds a direction finds the least code that holds it, and there is one such code. Assumes nothing.
use mathlib.Core.Path.{◌≡◌, refl, sym, ◌∙◌, ap, subst}
use mathlib.Core.Logic.{◌⊎◌, inl, inr, ⊎_elim}
use mathlib.Core.List.{List, [], ◌∷◌}
use Prim.Native.Nat.{ℕ, zero, suc, ◌+◌, ◌*◌, ◌≤◌, ◌<◌}
use native.Mathlib.Omega.{arith}
use Rattle.words.specs.Words.{digits, path, side_of, word_of}
use Rattle.words.specs.Family.{code_of}
use Rattle.words.specs.Refusals.{IsCode}
use Rattle.words.specs.declared.TriangleCode.{TriangleCode}
use Rattle.words.proofs.Digits.{AreDigits, none, more, digits_are, path_injective}
use Rattle.words.proofs.Codes.{Has, code_side, made}
use Rattle.words.proofs.WordOrder.{order_by_path}
use Rattle.golden.proofs.IntegerOrder.{le_or_lt}
use Rattle.net.specs.Sides.{IsSide}
use Rattle.net.specs.Division.{triangle_at}
use Rattle.filing.specs.Holding.{along, determinants, AllNonNeg, Holds}
use Rattle.filing.specs.Filing.{IsFiled}
use Rattle.filing.specs.Means.Descent.{child_dets, least_child, descent}
use Rattle.filing.specs.declared.Coordinates.{Coordinates}
use Rattle.filing.specs.declared.Determinants.{Determinants}
use Rattle.filing.specs.declared.Direction.{Direction}
use Rattle.filing.proofs.Recurrence.{child_at}
use Rattle.filing.proofs.Children.{parent_holds}
use Rattle.filing.proofs.Tests.{test_holds, holds_test, least_child_lem}
use Rattle.filing.proofs.HeldCodes.{code_triangle, made_triangle}

-- the side s with the digits ds comes before the side t with the digits es, or they are the same
abbrev NotAfter : (s : ℕ) (ds : List ℕ) (t : ℕ) (es : List ℕ) → Type 0
NotAfter s ds t es = (s < t) ⊎ ((s ≡ t) × (path ds ≤ path es))

record Found (n : ℕ) (g : Coordinates) (s : ℕ) (ds : List ℕ) : Type 0 where
  pub are : AreDigits n ds
  pub holds : AllNonNeg (determinants g (triangle_at s ds))
  pub least : (t : ℕ) (es : List ℕ) → IsSide t → AreDigits n es → AllNonNeg (determinants g (triangle_at t es)) → NotAfter s ds t es

abbrev Least : Coordinates → ℕ → Type 0
Least g s = (t : ℕ) → IsSide t → AllNonNeg (determinants g (triangle_at t [])) → s ≤ t

-- the side itself
found_side : (g : Coordinates) (s : ℕ) → AllNonNeg (determinants g (triangle_at s [])) → Least g s → Found 0 g s []
found_side g s h l = record { are = none; holds = h; least = against }
  where
    against : (t : ℕ) (es : List ℕ) → IsSide t → AreDigits 0 es → AllNonNeg (determinants g (triangle_at t es)) → NotAfter s [] t es
    against t es i none k = ⊎_elim (λ e. let q : s ≡ t = omega (arith, l t i k) in inr (q, omega arith)) inl (le_or_lt t s)

-- the least child of the least triangle
module _ (n : ℕ) (g : Coordinates) (s : ℕ) (ds : List ℕ) (f : Found n g s ds) (k : ℕ) (small : k ≤ 3) where
  against_child :
      ((j : ℕ) → AllNonNeg (child_dets j (determinants g (triangle_at s ds))) → k ≤ j)
      → (t : ℕ) (es : List ℕ)
      → IsSide t
      → AreDigits (suc n) es
      → AllNonNeg (determinants g (triangle_at t es))
      → NotAfter s (k ∷ ds) t es
  unfolding path
  against_child l t es i (more {d = j} {ds = fs} hj af) a =
      let b : AllNonNeg (child_dets j (determinants g (triangle_at t fs))) = subst AllNonNeg (child_at g t j fs) a in
      ⊎_elim
      inl
      (λ p. inr (
        p.0,
        ⊎_elim
            (λ q.
            let same : fs ≡ ds = path_injective af f.are (omega (arith, p.1)) in
            let back : t ≡ s = sym p.0 in
            omega (arith, p.1, l j (subst AllNonNeg (λ i. child_dets j (determinants g (triangle_at (back i) (same i)))) b)))
            (λ q. omega arith)
            (le_or_lt (path fs) (path ds)),
      ))
      (f.least t fs i af (parent_holds (determinants g (triangle_at t fs)) j b))

  found_child :
      AllNonNeg (child_dets k (determinants g (triangle_at s ds)))
      → ((j : ℕ) → AllNonNeg (child_dets j (determinants g (triangle_at s ds))) → k ≤ j)
      → Found (suc n) g s (k ∷ ds)
  found_child h l = record { are = more small f.are; holds = subst AllNonNeg (sym (child_at g s k ds)) h; least = against_child l }

-- one digit further
next : (m : ℕ) (g : Coordinates) (s : ℕ) (ds : List ℕ) → Found m g s ds → Found (suc m) g s (least_child (determinants g (triangle_at s ds)) ∷ ds)
next m g s ds f =
    let D = determinants g (triangle_at s ds) in
    let r = least_child_lem D f.holds in
    found_child m g s ds f (least_child D) r.high (test_holds (child_dets (least_child D) D) r.passes) (λ j h. r.least j (omega arith) (holds_test (child_dets j D) h))

abbrev Reached : ℕ → Coordinates → ℕ → ℕ → Type 0
Reached n g s r = (es : List ℕ) × Found n g s es × (r ≡ path es)

-- from the least triangle of one degree, n digits further down, to the least of another
reach : (n m : ℕ) (g : Coordinates) (s : ℕ) (ds : List ℕ) → Found m g s ds → Reached (m + n) g s (descent n (determinants g (triangle_at s ds)) (path ds))
unfolding descent path
reach zero m g s ds f = let e : m + 0 ≡ m = omega arith in rw e (ds, f, refl)
reach (suc n) m g s ds f =
    let k = least_child (determinants g (triangle_at s ds)) in
    let r = reach n (suc m) g s (k ∷ ds) (next m g s ds f) in
    let e : suc m + n ≡ m + suc n = omega arith in
    (r.0, subst (λ (i : ℕ). Found i g s r.0) e r.1, ap (λ (D : Determinants). descent n D (4 * path ds + k)) (sym (child_at g s k ds)) ∙ r.2)

-- ---- the least code

-- of what is found by side and digits, the word
filed : (n : ℕ) (d : Direction) (s : ℕ) (ds : List ℕ) → IsSide s → n ≤ 24 → Found n (along d) s ds → IsFiled n d (code_of (word_of s n (path ds)))
filed n d s ds hs hn f =
    record { code = m.code; holds = subst AllNonNeg (ap (determinants (along d)) (sym (made_triangle m))) f.holds; least = against }
  where
    r : TriangleCode
    r = code_of (word_of s n (path ds))

    m : Has s n ds r
    m = made s n hs.0 hs.1 hn f.are

    against : (t : TriangleCode) → IsCode n t → Holds t d → r.0 ≤ t.0
    against t c h =
        let a = subst AllNonNeg (ap (determinants (along d)) (code_triangle t c.degree_is)) h in
        ⊎_elim
        (λ l. l)
        (λ l.
        absurd
        (⊎_elim
        (λ x. ⊎_elim (λ y. omega (arith, m.side)) (λ y. omega (arith, m.side, y.0)) (f.least (side_of t.0) (digits t.0 n) (code_side c) (digits_are t.0 n) a))
        (λ x. ⊎_elim (λ y. omega (arith, m.side, x.0)) (λ y. omega (arith, x.1, y.1, ap path m.digits_are)) (f.least (side_of t.0) (digits t.0 n) (code_side c) (digits_are t.0 n) a))
        ((order_by_path c m.code).0 l)))
        (le_or_lt r.0 t.0)

-- the descent from the least side that holds finds the least code that holds
pub descent_filed :
    (n : ℕ) (d : Direction) (s : ℕ)
    → IsSide s
    → n ≤ 24
    → AllNonNeg (determinants (along d) (triangle_at s []))
    → ((t : ℕ) → IsSide t → AllNonNeg (determinants (along d) (triangle_at t [])) → s ≤ t)
    → IsFiled n d (code_of (word_of s n (descent n (determinants (along d) (triangle_at s [])) 0)))
unfolding path
descent_filed n d s hs hn h l =
    let r = reach n 0 (along d) s [] (found_side (along d) s h l) in
    let e : 0 + n ≡ n = omega arith in
    subst (λ (v : ℕ). IsFiled n d (code_of (word_of s n v))) (sym r.2) (filed n d s r.0 hs hn (subst (λ (i : ℕ). Found i (along d) s r.0) e r.1))

-- two answers for one direction and degree are the same
pub filed_once : {n : ℕ} {d : Direction} {r r' : TriangleCode} → IsFiled n d r → IsFiled n d r' → r ≡ r'
filed_once {r = r} {r' = r'} a b =
    let e : r.0 ≡ r'.0 = omega (arith, a.least r' b.code b.holds, b.least r a.code a.holds) in
    λ i. code_of (e i)
