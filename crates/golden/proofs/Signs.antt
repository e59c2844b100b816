-- The sign of w + v√5 by squares of whole numbers from 0 up: total, closed under adding and halving, 0 alone on both sides, and how the
-- code decides it. Assumes nothing.
use mathlib.Core.Path.{◌≡◌, refl}
use mathlib.Core.Logic.{◌⊎◌, inl, inr, ⊎_elim}
use mathlib.Core.Bool.{Bool, true, false, not}
use Prim.Native.Nat.{ℕ, zero, suc, ◌+◌, ◌*◌, ◌≤◌, ◌<◌}
use native.Mathlib.Nat.{add_comm}
use native.Mathlib.Omega.{arith}
use lib.Dec.{T, leb, leb→le, le→leb}
use lib.IntN.{ℤ, pos, negsuc, neg_ℤ, nat_abs, sub_ℕ, ◌+ℤ◌}
use lib.Signed.{◌≤ℤ◌, ◌<ℤ◌}
use Rattle.golden.specs.Decisions.{Decides}
use Rattle.golden.specs.Order.{Sign, both, left, right}
use Rattle.golden.proofs.IntegerOrder.{le→, →le, le_or_lt, zarith, sub_ind}
use Rattle.golden.proofs.RootFive.{sq_le, sq_lt, sum_ge, sum_gt, sum_le, sum_lt, irrational, is_true, is_false}

-- the sign rule, by the signs of w and v
abbrev pub BySquares : ℤ → ℤ → Type 0
BySquares (pos a) (pos b) = Unit {0}
BySquares (pos a) (negsuc b) = 5 * (suc b * suc b) ≤ a * a
BySquares (negsuc a) (pos b) = suc a * suc a ≤ 5 * (b * b)
BySquares (negsuc a) (negsuc b) = ⊥

pub to_squares : (w v : ℤ) → Sign w v → BySquares w v
to_squares (pos a) (pos b) s = tt
to_squares (pos a) (negsuc b) (both f g) = absurd g.le
to_squares (pos a) (negsuc b) (left f g h) = omega (arith, le→ _ _ h)
to_squares (pos a) (negsuc b) (right f g h) = absurd f.le
to_squares (negsuc a) (pos b) (both f g) = absurd f.le
to_squares (negsuc a) (pos b) (left f g h) = absurd f.le
to_squares (negsuc a) (pos b) (right f g h) = omega (arith, le→ _ _ h)
to_squares (negsuc a) (negsuc b) (both f g) = g.le
to_squares (negsuc a) (negsuc b) (left f g h) = f.le
to_squares (negsuc a) (negsuc b) (right f g h) = f.le

pub of_squares : (w v : ℤ) → BySquares w v → Sign w v
of_squares (pos a) (pos b) s = both (omega zarith) (omega zarith)
of_squares (pos a) (negsuc b) s = left (omega zarith) (omega zarith) (→le _ _ (omega arith))
of_squares (negsuc a) (pos b) s = right (omega zarith) (omega zarith) (→le _ _ (omega arith))
of_squares (negsuc a) (negsuc b) s = absurd s

-- ---- totality

pub squares_total : (w v : ℤ) → BySquares w v ⊎ BySquares (neg_ℤ w) (neg_ℤ v)
squares_total (pos a) (pos b) = inl tt
squares_total (pos zero) (negsuc b) = inr tt
squares_total (pos (suc a)) (negsuc b) = ⊎_elim (λ h. inl h) (λ h. inr (omega arith)) (le_or_lt (5 * (suc b * suc b)) (suc a * suc a))
squares_total (negsuc a) (pos zero) = inr tt
squares_total (negsuc a) (pos (suc b)) = ⊎_elim (λ h. inl h) (λ h. inr (omega arith)) (le_or_lt (suc a * suc a) (5 * (suc b * suc b)))
squares_total (negsuc a) (negsuc b) = inr tt

-- ---- antisymmetry

abbrev pub Zero : ℤ → ℤ → Type 0
Zero w v = (w ≡ pos 0) × (v ≡ pos 0)

pub squares_antisym : (w v : ℤ) → BySquares w v → BySquares (neg_ℤ w) (neg_ℤ v) → Zero w v
squares_antisym (pos zero) (pos zero) s t = (refl, refl)
squares_antisym (pos zero) (pos (suc b)) s t = let z : ⊥ = omega arith in absurd z
squares_antisym (pos (suc a)) (pos zero) s t = let z : ⊥ = omega arith in absurd z
squares_antisym (pos (suc a)) (pos (suc b)) s t = absurd t
squares_antisym (pos zero) (negsuc b) s t = let z : ⊥ = omega arith in absurd z
squares_antisym (pos (suc a)) (negsuc b) s t = let z : ⊥ = omega (arith, irrational (suc a) (suc b) (omega arith)) in absurd z
squares_antisym (negsuc a) (pos zero) s t = let z : ⊥ = omega arith in absurd z
squares_antisym (negsuc a) (pos (suc b)) s t = let z : ⊥ = omega (arith, irrational (suc a) (suc b) (omega arith)) in absurd z
squares_antisym (negsuc a) (negsuc b) s t = absurd s

-- ---- closed under addition

-- the six kinds of summands, up to their order
pp_pn : (a b c d : ℕ) → 5 * (suc d * suc d) ≤ c * c → BySquares (pos (a + c)) (sub_ℕ b (suc d))
pp_pn a b c d h = sub_ind (λ (z : ℤ). BySquares (pos (a + c)) z) b (suc d) (λ k e. tt)
    (λ k e. let l : suc k ≤ suc d = omega arith in omega (arith, sq_le l))

pp_np : (a b c d : ℕ) → suc c * suc c ≤ 5 * (d * d) → BySquares (sub_ℕ a (suc c)) (pos (b + d))
pp_np a b c d h = sub_ind (λ (z : ℤ). BySquares z (pos (b + d))) a (suc c) (λ k e. tt)
    (λ k e. let l : suc k ≤ suc c = omega arith in omega (arith, sq_le l))

pn_pn : (a b c d : ℕ) → 5 * (suc b * suc b) ≤ a * a → 5 * (suc d * suc d) ≤ c * c → BySquares (pos (a + c)) (negsuc (suc (b + d)))
pn_pn a b c d h k = omega (arith, sum_ge a (suc b) c (suc d) h k)

np_np : (a b c d : ℕ) → suc a * suc a ≤ 5 * (b * b) → suc c * suc c ≤ 5 * (d * d) → BySquares (negsuc (suc (a + c))) (pos (b + d))
np_np a b c d h k = omega (arith, sum_le (suc a) b (suc c) d h k)

pn_np : (a b c d : ℕ) → 5 * (suc b * suc b) ≤ a * a → suc c * suc c ≤ 5 * (d * d) → BySquares (sub_ℕ a (suc c)) (sub_ℕ d (suc b))
pn_np a b c d h k =
    sub_ind (λ (z : ℤ). BySquares z (sub_ℕ d (suc b))) a (suc c)
    (λ i e. sub_ind (λ (z : ℤ). BySquares (pos i) z) d (suc b) (λ j f. tt) (λ j f. pos_neg i j e f))
    (λ i e. sub_ind (λ (z : ℤ). BySquares (negsuc i) z) d (suc b) (λ j f. neg_pos i j e f) (λ j f. neg_neg i j e f))
  where
    pos_neg : (i j : ℕ) → a ≡ i + suc c → suc b ≡ suc j + d → 5 * (suc j * suc j) ≤ i * i
    pos_neg i j e f = ⊎_elim (λ l. l)
        (λ l. let z : ⊥ = omega (arith, rw (← e, ← f) at (sum_lt i (suc j) (suc c) d l k)) in absurd z)
        (le_or_lt (5 * (suc j * suc j)) (i * i))

    neg_pos : (i j : ℕ) → suc c ≡ suc i + a → d ≡ j + suc b → suc i * suc i ≤ 5 * (j * j)
    neg_pos i j e f = ⊎_elim (λ l. l)
        (λ l. let z : ⊥ = omega (arith, rw (← e, ← f) at (sum_gt (suc i) j a (suc b) l h)) in absurd z)
        (le_or_lt (suc i * suc i) (5 * (j * j)))

    neg_neg : (i j : ℕ) → suc c ≡ suc i + a → suc b ≡ suc j + d → ⊥
    neg_neg i j e f =
        let l : a < suc c = omega arith in
        let m : d < suc b = omega arith in
        omega (arith, sq_lt l, sq_lt m)

pub squares_add : (w v x y : ℤ) → BySquares w v → BySquares x y → BySquares (w +ℤ x) (v +ℤ y)
squares_add (pos a) (pos b) (pos c) (pos d) s t = tt
squares_add (pos a) (pos b) (pos c) (negsuc d) s t = pp_pn a b c d t
squares_add (pos a) (pos b) (negsuc c) (pos d) s t = pp_np a b c d t
squares_add (pos a) (pos b) (negsuc c) (negsuc d) s t = absurd t
squares_add (pos a) (negsuc b) (pos c) (pos d) s t = rw (add_comm a c) (pp_pn c d a b s)
squares_add (pos a) (negsuc b) (pos c) (negsuc d) s t = pn_pn a b c d s t
squares_add (pos a) (negsuc b) (negsuc c) (pos d) s t = pn_np a b c d s t
squares_add (pos a) (negsuc b) (negsuc c) (negsuc d) s t = absurd t
squares_add (negsuc a) (pos b) (pos c) (pos d) s t = rw (add_comm b d) (pp_np c d a b s)
squares_add (negsuc a) (pos b) (pos c) (negsuc d) s t = pn_np c d a b t s
squares_add (negsuc a) (pos b) (negsuc c) (pos d) s t = np_np a b c d s t
squares_add (negsuc a) (pos b) (negsuc c) (negsuc d) s t = absurd t
squares_add (negsuc a) (negsuc b) x y s t = absurd s

-- ---- half of a number that is not negative

pub squares_half : (w v : ℤ) → BySquares (w +ℤ w) (v +ℤ v) → BySquares w v
squares_half (pos a) (pos b) s = tt
squares_half (pos a) (negsuc b) s = omega arith
squares_half (negsuc a) (pos b) s = omega arith
squares_half (negsuc a) (negsuc b) s = s

-- ---- a test that antt computes

abbrev pub sign_test : ℤ → ℤ → Bool
sign_test (pos a) (pos b) = true
sign_test (pos a) (negsuc b) = leb (5 * (suc b * suc b)) (a * a)
sign_test (negsuc a) (pos b) = leb (suc a * suc a) (5 * (b * b))
sign_test (negsuc a) (negsuc b) = false

pub test_yes : (w v : ℤ) → T (sign_test w v) → Sign w v
test_yes (pos a) (pos b) t = of_squares (pos a) (pos b) tt
test_yes (pos a) (negsuc b) t = of_squares (pos a) (negsuc b) (leb→le _ _ t)
test_yes (negsuc a) (pos b) t = of_squares (negsuc a) (pos b) (leb→le _ _ t)
test_yes (negsuc a) (negsuc b) t = absurd t

pub yes_test : (w v : ℤ) → Sign w v → T (sign_test w v)
yes_test w v s = go w v (to_squares w v s)
  where
    go : (w v : ℤ) → BySquares w v → T (sign_test w v)
    go (pos a) (pos b) s = tt
    go (pos a) (negsuc b) s = le→leb _ _ s
    go (negsuc a) (pos b) s = le→leb _ _ s
    go (negsuc a) (negsuc b) s = s

-- ---- the decision of the code, by its cases

pub pos_pos : (w v : ℤ) → pos 0 ≤ℤ w → pos 0 ≤ℤ v → Decides true (Sign w v)
pos_pos w v h k = is_true (both h k)

pub neg_neg : (w v : ℤ) → w <ℤ pos 0 → v <ℤ pos 0 → Decides false (Sign w v)
neg_neg (pos a) v h k = let z : ⊥ = omega zarith in absurd z
neg_neg (negsuc a) (pos b) h k = let z : ⊥ = omega zarith in absurd z
neg_neg (negsuc a) (negsuc b) h k = is_false (λ s. to_squares (negsuc a) (negsuc b) s)

pub pos_neg : (w v : ℤ) (r : Bool) → pos 0 ≤ℤ w → v <ℤ pos 0 → Decides r (5 * (nat_abs v * nat_abs v) ≤ nat_abs w * nat_abs w) → Decides r (Sign w v)
pos_neg (negsuc a) v r h k d = let z : ⊥ = omega zarith in absurd z
pos_neg (pos a) (pos b) r h k d = let z : ⊥ = omega zarith in absurd z
pos_neg (pos a) (negsuc b) r h k d = record { holds = λ e. of_squares (pos a) (negsuc b) (d.holds e); fails = λ e s. d.fails e (to_squares (pos a) (negsuc b) s) }

pub neg_pos : (w v : ℤ) (r : Bool) → w <ℤ pos 0 → pos 0 ≤ℤ v → Decides r (5 * (nat_abs v * nat_abs v) ≤ nat_abs w * nat_abs w) → Decides (not r) (Sign w v)
neg_pos (pos a) v r h k d = let z : ⊥ = omega zarith in absurd z
neg_pos (negsuc a) (negsuc b) r h k d = let z : ⊥ = omega zarith in absurd z
neg_pos (negsuc a) (pos b) true h k d =
    let l : 5 * (b * b) ≤ suc a * suc a = d.holds refl in
    is_false (λ s. let m : suc a * suc a ≤ 5 * (b * b) = to_squares (negsuc a) (pos b) s in omega (arith, irrational (suc a) b (omega arith)))
neg_pos (negsuc a) (pos b) false h k d =
    is_true (of_squares (negsuc a) (pos b) (omega (arith, le_or_gt)))
  where
    le_or_gt : ¬ (5 * (b * b) ≤ suc a * suc a)
    le_or_gt l = d.fails refl l
