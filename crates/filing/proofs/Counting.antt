-- At most 6, 3 or 1 triangles of a degree below a triangle hold a direction, where 0, 1 or 2 of its determinants are 0.
-- The signs of the
-- children's determinants are bound to the parent's by three sums; over all signs that agree with these, one test shows
-- that the
-- children together have no more room than the parent. Assumes nothing.
use mathlib.Core.Path.{◌≡◌, refl, sym, ◌∙◌, ap}
use mathlib.Core.Bool.{Bool, true, false, cond, ◌&&◌}
use mathlib.Core.Logic.{⊎_elim}
use mathlib.Core.List.{List, [], ◌∷◌, ◌++◌}
use Prim.Native.Nat.{ℕ, zero, suc, ◌+◌, ◌-◌, ◌*◌, ◌≤◌, ◌<◌}
use native.Mathlib.Omega.{arith}
use lib.Dec.{T}
use lib.ListN.{length}
use Rattle.golden.proofs.GoldenOrder.{nonneg_by, is_nonneg, total as either, add_nonneg, antisym}
use Rattle.golden.proofs.GoldenProduct.{whole_nonneg}
use Rattle.golden.proofs.GoldenRing.{φ_path, φ_ring, zero_addφ, +φ-comm}
use Rattle.golden.proofs.Polynomials.{E, var, lit, ◌⊕◌, ◌⊝◌, ⊖}
use Rattle.golden.proofs.RingSolver.{solve}
use Rattle.golden.proofs.Signs.{yes_test}
use Rattle.golden.specs.Numbers.{◌+φ◌, negφ}
use Rattle.golden.specs.Order.{NonNeg, w_of}
use Rattle.golden.specs.declared.Golden.{Golden}
use Rattle.net.proofs.Table.{Test, Holds, sound, below, so, same, most, no, ◌and◌, ◌then◌}
use Rattle.filing.specs.Holding.{◌-φ◌}
use Rattle.filing.specs.Means.Descent.{twice, total, child_dets, non_neg, holds, holders}
use Rattle.filing.specs.declared.Determinants.{Determinants}
use Rattle.filing.proofs.NoVertex.{0φ}

-- ---- the sign of a number

-- 0 below zero, 1 at zero, 2 above zero
unfoldable pub sgn : Golden → ℕ
sgn x = cond (non_neg x) (cond (non_neg (negφ x)) 1 2) 0

pub data View (x : Golden) : ℕ → Type 0 where
  under : (NonNeg x → ⊥) → NonNeg (negφ x) → View x 0
  at : x ≡ 0φ → View x 1
  above : NonNeg x → (NonNeg (negφ x) → ⊥) → View x 2

test_is : (x : Golden) → T (non_neg x) → NonNeg x
unfolding non_neg
test_is x t = is_nonneg x t

test_false : (x : Golden) → non_neg x ≡ false → NonNeg x → ⊥
unfolding non_neg
test_false x e h = rw e at (yes_test (w_of x) x.v h)

pub view : (x : Golden) → View x (sgn x)
unfolding sgn
view x = go (non_neg x) (non_neg (negφ x)) refl refl
  where
    go : (b c : Bool) → non_neg x ≡ b → non_neg (negφ x) ≡ c → View x (cond b (cond c 1 2) 0)
    go true true e f = let z = antisym x (test_is x (rw e tt)) (test_is (negφ x) (rw f tt)) in View.at
        (φ_path z.0 z.1)
    go true false e f = above (test_is x (rw e tt)) (test_false (negφ x) f)
    go false c e f = under (test_false x e) (⊎_elim (λ h. absurd (test_false x e h)) (λ h. h) (either x))

neg_zero : negφ 0φ ≡ 0φ
neg_zero = solve φ_ring [] (⊖ (lit 0)) (lit 0) refl

zero_is : {x : Golden} → x ≡ 0φ → NonNeg x
zero_is e = nonneg_by (sym e) (whole_nonneg 0)

zero_neg : {x : Golden} → x ≡ 0φ → NonNeg (negφ x)
zero_neg e = nonneg_by (sym (ap negφ e ∙ neg_zero)) (whole_nonneg 0)

unique : {x : Golden} {m n : ℕ} → View x m → View x n → m ≡ n
unique (under a b) (under c d) = refl
unique (under a b) (View.at e) = absurd (a (zero_is e))
unique (under a b) (above c d) = absurd (a c)
unique (View.at e) (under a b) = absurd (a (zero_is e))
unique (View.at e) (View.at f) = refl
unique (View.at e) (above a b) = absurd (b (zero_neg e))
unique (above a b) (under c d) = absurd (c a)
unique (above a b) (View.at e) = absurd (b (zero_neg e))
unique (above a b) (above c d) = refl

pub sgn_of : {x : Golden} {n : ℕ} → View x n → sgn x ≡ n
sgn_of {x} w = unique (view x) w

pub at_zero : (x : Golden) → sgn x ≡ 1 → x ≡ 0φ
at_zero x e = go (view x) e
  where
    go : {n : ℕ} → View x n → n ≡ 1 → x ≡ 0φ
    go (under a b) e = absurd (omega arith)
    go (View.at z) e = z
    go (above a b) e = absurd (omega arith)

pub at_least_zero : (x : Golden) → 1 ≤ sgn x → NonNeg x
at_least_zero x l = go (view x) l
  where
    go : {n : ℕ} → View x n → 1 ≤ n → NonNeg x
    go (under a b) l = absurd (omega arith)
    go (View.at z) l = zero_is z
    go (above a b) l = a

pub sgn_held : (x : Golden) → NonNeg x → 1 ≤ sgn x
sgn_held x h = go (view x)
  where
    go : {n : ℕ} → View x n → 1 ≤ n
    go (under a b) = absurd (a h)
    go (View.at z) = omega arith
    go (above a b) = omega arith

pub sgn_small : (x : Golden) → sgn x < 3
sgn_small x = go (view x)
  where
    go : {n : ℕ} → View x n → n < 3
    go (under a b) = omega arith
    go (View.at e) = omega arith
    go (above a b) = omega arith

pub twice_neg : (x : Golden) → negφ (negφ x) ≡ x
twice_neg x = solve φ_ring (x ∷ []) (⊖ (⊖ (var 0))) (var 0) refl

sgn_neg : (x : Golden) → sgn (negφ x) ≡ 2 - sgn x
sgn_neg x = go (view x)
  where
    go : {n : ℕ} → View x n → sgn (negφ x) ≡ 2 - n
    go (under a b) = sgn_of (above b (λ h. a (nonneg_by (twice_neg x) h)))
    go (View.at e) = sgn_of (View.at (ap negφ e ∙ neg_zero))
    go (above a b) = sgn_of (under b (nonneg_by (sym (twice_neg x)) a))

-- the sign of a sum, as far as the signs of its parts tell
abbrev pub sums : ℕ → ℕ → ℕ → Test
sums zero zero r = same r 0
sums zero (suc zero) r = same r 0
sums zero (suc (suc q)) r = so true
sums (suc zero) zero r = same r 0
sums (suc zero) (suc zero) r = same r 1
sums (suc zero) (suc (suc q)) r = same r 2
sums (suc (suc p)) zero r = so true
sums (suc (suc p)) (suc zero) r = same r 2
sums (suc (suc p)) (suc (suc q)) r = same r 2

module _ (x y : Golden) where
  back : NonNeg (x +φ y) → NonNeg (negφ y) → NonNeg x
  back p q = nonneg_by (solve φ_ring (x ∷ y ∷ []) ((var 0 ⊕ var 1) ⊕ ⊖ (var 1)) (var 0) refl)
      (add_nonneg (x +φ y) (negφ y) p q)

  forth : NonNeg (negφ (x +φ y)) → NonNeg y → NonNeg (negφ x)
  forth p q = nonneg_by (solve φ_ring (x ∷ y ∷ []) (⊖ (var 0 ⊕ var 1) ⊕ var 1) (⊖ (var 0)) refl)
      (add_nonneg (negφ (x +φ y)) y p q)

  neg_sum : NonNeg (negφ x) → NonNeg (negφ y) → NonNeg (negφ (x +φ y))
  neg_sum p q = nonneg_by (solve φ_ring (x ∷ y ∷ []) (⊖ (var 0) ⊕ ⊖ (var 1)) (⊖ (var 0 ⊕ var 1)) refl)
      (add_nonneg (negφ x) (negφ y) p q)

  sgn_sum : Holds (sums (sgn x) (sgn y) (sgn (x +φ y)))
  sgn_sum = go (view x) (view y)
    where
      left : x ≡ 0φ → sgn (x +φ y) ≡ sgn y
      left e = ap (λ (x : Golden). sgn (x +φ y)) e ∙ ap sgn (zero_addφ y)

      right : y ≡ 0φ → sgn (x +φ y) ≡ sgn x
      right e = ap (λ (y : Golden). sgn (x +φ y)) e ∙ ap sgn (+φ-comm x 0φ ∙ zero_addφ x)

      go : {m n : ℕ} → View x m → View y n → Holds (sums m n (sgn (x +φ y)))
      go (under a b) (under c d) = sgn_of {x = x +φ y} (under (λ h. a (back h d)) (neg_sum b d))
      go (under a b) (View.at e) = right e ∙ sgn_of (under a b)
      go (under a b) (above c d) = refl
      go (View.at e) (under a b) = left e ∙ sgn_of (under a b)
      go (View.at e) (View.at f) = left e ∙ sgn_of (View.at f)
      go (View.at e) (above a b) = left e ∙ sgn_of (above a b)
      go (above a b) (under c d) = refl
      go (above a b) (View.at e) = right e ∙ sgn_of (above a b)
      go (above a b) (above c d) = sgn_of {x = x +φ y} (above (add_nonneg x y a c) (λ h. b (forth h c)))

pub sgn_twice : (x : Golden) → sgn (twice x) ≡ sgn x
sgn_twice x = go (sgn x) (sgn (twice x)) (sgn_small x) (sgn_sum x x)
  where
    go : (p r : ℕ) → p < 3 → Holds (sums p p r) → r ≡ p
    go zero r l t = t
    go (suc zero) r l t = t
    go (suc (suc p)) r l t = omega (arith, t)

-- ---- room, by the signs of the three determinants

-- 6, 3 or 1 where 0, 1 or 2 of them are 0, and 0 where one is negative
abbrev of_plus : ℕ → ℕ
of_plus zero = 0
of_plus (suc zero) = 1
of_plus (suc (suc zero)) = 3
of_plus (suc (suc (suc n))) = 6

abbrev pub room : ℕ → ℕ → ℕ → ℕ
room zero b c = 0
room (suc a) zero c = 0
room (suc a) (suc b) zero = 0
room (suc a) (suc b) (suc c) = of_plus (a + b + c)

unfoldable pub weight : Determinants → ℕ
weight D = room (sgn D.d1) (sgn D.d2) (sgn D.d3)

-- not all three are 0
abbrev pub live : ℕ → ℕ → ℕ → Test
live a b c = no (same a 1 and (same b 1 and same c 1))

-- ---- the table over all signs: a, b, c of the parent, x, y, z of the middle child

abbrev pub agree : (a b c x y z : ℕ) → Test
agree a b c x y z = sums x y c and (sums y z a and sums z x b)

abbrev children : (a b c x y z : ℕ) → ℕ
children a b c x y z = room x y z + room (2 - x) b c + room a (2 - y) c + room a b (2 - z)

abbrev goes_on : (a b c x y z : ℕ) → Test
goes_on a b c x y z = live x y z and (live (2 - x) b c and (live a (2 - y) c and live a b (2 - z)))

abbrev fits : (a b c x y z : ℕ) → Test
fits a b c x y z = agree a b c x y z then
    (live a b c then (most (children a b c x y z) (room a b c) and goes_on a b c x y z))

fits_at : (a : ℕ) → a < 3 → (b : ℕ) → b < 3 → (c : ℕ) → c < 3 → (x : ℕ) → x < 3 → (y : ℕ) → y < 3 → (z : ℕ) → z < 3
    → Holds (fits a b c x y z)
fits_at = sound (below 3 λ a. below 3 λ b. below 3 λ c. below 3 λ x. below 3 λ y. below 3 λ z. fits a b c x y z) refl

-- ---- one division

module _ (D : Determinants) where
  abbrev pub rest : Golden → Golden
  rest x = total D -φ twice x

  abbrev env : List Golden
  env = D.d1 ∷ D.d2 ∷ D.d3 ∷ []

  abbrev S : E
  S = var 0 ⊕ var 1 ⊕ var 2

  pub sum_3 : Holds (sums (sgn (rest D.d1)) (sgn (rest D.d2)) (sgn D.d3))
  sum_3 = rw (ap sgn (solve φ_ring env ((S ⊝ (var 0 ⊕ var 0)) ⊕ (S ⊝ (var 1 ⊕ var 1))) (var 2 ⊕ var 2) refl)
      ∙ sgn_twice D.d3) at (sgn_sum (rest D.d1) (rest D.d2))

  pub sum_1 : Holds (sums (sgn (rest D.d2)) (sgn (rest D.d3)) (sgn D.d1))
  sum_1 = rw (ap sgn (solve φ_ring env ((S ⊝ (var 1 ⊕ var 1)) ⊕ (S ⊝ (var 2 ⊕ var 2))) (var 0 ⊕ var 0) refl)
      ∙ sgn_twice D.d1) at (sgn_sum (rest D.d2) (rest D.d3))

  pub sum_2 : Holds (sums (sgn (rest D.d3)) (sgn (rest D.d1)) (sgn D.d2))
  sum_2 = rw (ap sgn (solve φ_ring env ((S ⊝ (var 2 ⊕ var 2)) ⊕ (S ⊝ (var 0 ⊕ var 0))) (var 1 ⊕ var 1) refl)
      ∙ sgn_twice D.d2) at (sgn_sum (rest D.d3) (rest D.d1))

  -- 2d - S is the negated S - 2d
  pub rest_turned : (d : Golden) → sgn (twice d -φ total D) ≡ 2 - sgn (rest d)
  rest_turned d = ap sgn (solve φ_ring (total D ∷ d ∷ []) (var 1 ⊕ var 1 ⊝ var 0) (⊖ (var 0 ⊝ (var 1 ⊕ var 1))) refl)
      ∙ sgn_neg (rest d)

  pub divided : Holds (live (sgn D.d1) (sgn D.d2) (sgn D.d3))
      → Holds (most (children (sgn D.d1) (sgn D.d2) (sgn D.d3) (sgn (rest D.d1)) (sgn (rest D.d2))
      (sgn (rest D.d3))) (room (sgn D.d1) (sgn D.d2) (sgn D.d3))
      and goes_on (sgn D.d1) (sgn D.d2) (sgn D.d3) (sgn (rest D.d1)) (sgn (rest D.d2))
      (sgn (rest D.d3)))
  divided l =
      fits_at (sgn D.d1) (sgn_small _) (sgn D.d2) (sgn_small _) (sgn D.d3) (sgn_small _)
      (sgn (rest D.d1)) (sgn_small _) (sgn (rest D.d2)) (sgn_small _) (sgn (rest D.d3)) (sgn_small _)
      (sum_3, (sum_1, sum_2)) l

-- ---- any degree

tested : (x : Golden) → non_neg x ≡ true → 1 ≤ sgn x
unfolding sgn
tested x e = rw e (go (non_neg (negφ x)))
  where
    go : (b : Bool) → 1 ≤ cond b 1 2
    go true = omega arith
    go false = omega arith

-- some room, where all are at least 0 and not all 0
pub roomy : (a : ℕ) → a < 3 → (b : ℕ) → b < 3 → (c : ℕ) → c < 3 → Holds
    (most 1 a then (most 1 b then (most 1 c then (live a b c then most 1 (room a b c)))))
roomy = sound (below 3 λ a. below 3 λ b. below 3 λ c. most 1 a then
    (most 1 b then (most 1 c then (live a b c then most 1 (room a b c))))) refl

pub room_held : (D : Determinants) → holds D ≡ true → Holds (live (sgn D.d1) (sgn D.d2) (sgn D.d3))
    → 1 ≤ room (sgn D.d1) (sgn D.d2) (sgn D.d3)
unfolding holds
room_held D e l = go (non_neg D.d1) (non_neg D.d2) (non_neg D.d3) refl refl refl e
  where
    go : (p q r : Bool) → non_neg D.d1 ≡ p → non_neg D.d2 ≡ q → non_neg D.d3 ≡ r → (p && (q && r)) ≡ true
        → 1 ≤ room (sgn D.d1) (sgn D.d2) (sgn D.d3)
    go true true true f g h e = roomy _ (sgn_small D.d1) _ (sgn_small D.d2) _ (sgn_small D.d3)
        (tested D.d1 f) (tested D.d2 g) (tested D.d3 h) l
    go true true false f g h e = let z : ◌≡◌ {A = ℕ} 0 1 = cc in absurd (omega arith)
    go true false r f g h e = let z : ◌≡◌ {A = ℕ} 0 1 = cc in absurd (omega arith)
    go false q r f g h e = let z : ◌≡◌ {A = ℕ} 0 1 = cc in absurd (omega arith)

abbrev Few : (n : ℕ) → Type 0
Few n = (D : Determinants) (v a b c : ℕ) → sgn D.d1 ≡ a → sgn D.d2 ≡ b → sgn D.d3 ≡ c → Holds (live a b c)
    → length (holders n D v) ≤ room a b c

few_now : Few 0
unfolding holders
few_now D v a b c e f g l = go (holds D) refl
  where
    l' : Holds (live (sgn D.d1) (sgn D.d2) (sgn D.d3))
    l' = rw (e, f, g) l

    go : (p : Bool) → holds D ≡ p → length (cond p (v ∷ []) []) ≤ room a b c
    go true h = rw (← e, ← f, ← g) (room_held D h l')
    go false h = omega arith

lengths : (xs ys : List ℕ) → length (xs ++ ys) ≡ length xs + length ys
lengths [] ys = omega arith
lengths (x ∷ xs) ys = omega (arith, lengths xs ys)

four_lengths : (a b c d : List ℕ) → length (a ++ b ++ c ++ d) ≡ length a + (length b + (length c + length d))
four_lengths a b c d = omega (arith, lengths (a ++ b ++ c) d, lengths (a ++ b) c, lengths a b)

-- the holders below, child by child
pub holders_split : (n : ℕ) (D : Determinants) (v : ℕ)
    → length (holders (suc n) D v)
    ≡ length (holders n (child_dets 0 D) (4 * v)) +
    (length (holders n (child_dets 1 D) (4 * v + 1)) +
    (length (holders n (child_dets 2 D) (4 * v + 2)) + length (holders n (child_dets 3 D) (4 * v + 3))))
unfolding holders
holders_split n D v = four_lengths (holders n (child_dets 0 D) (4 * v)) (holders n (child_dets 1 D) (4 * v + 1))
    (holders n (child_dets 2 D) (4 * v + 2)) (holders n (child_dets 3 D) (4 * v + 3))

few_below : (n : ℕ) → Few n → (D : Determinants) (v : ℕ) → Holds (live (sgn D.d1) (sgn D.d2) (sgn D.d3))
    → length (holders (suc n) D v) ≤ room (sgn D.d1) (sgn D.d2) (sgn D.d3)
few_below n few D v l =
    let r = divided D l in
    let w = r.1 in
    let c0 = few (child_dets 0 D) (4 * v) _ _ _ refl refl refl w.0 in
    let c1 = few (child_dets 1 D) (4 * v + 1) _ _ _ (rest_turned D D.d1) (sgn_twice D.d2) (sgn_twice D.d3)
    w.1.0 in
    let c2 = few (child_dets 2 D) (4 * v + 2) _ _ _ (sgn_twice D.d1) (rest_turned D D.d2) (sgn_twice D.d3)
    w.1.1.0 in
    let c3 = few (child_dets 3 D) (4 * v + 3) _ _ _ (sgn_twice D.d1) (sgn_twice D.d2) (rest_turned D D.d3)
    w.1.1.1 in
    omega (arith, holders_split n D v, r.0, c0, c1, c2, c3)

few : (n : ℕ) → Few n
few zero = few_now
few (suc n) = λ D v a b c e f g l. rw (← e, ← f, ← g) (few_below n (few n) D v (rw (e, f, g) l))

-- at every degree at most 6, 3 or 1 triangles below hold
pub count_weight : (n : ℕ) (D : Determinants) (v : ℕ) → Holds (live (sgn D.d1) (sgn D.d2) (sgn D.d3))
    → length (holders n D v) ≤ weight D
unfolding weight
count_weight n D v l = few n D v _ _ _ refl refl refl l
