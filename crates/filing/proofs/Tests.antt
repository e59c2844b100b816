-- The computed tests mean what they say, and the first number that passes is found. Assumes nothing.
use mathlib.Core.Path.{◌≡◌, refl, sym, ◌∙◌, ap, subst}
use mathlib.Core.Logic.{◌⊎◌, inl, inr}
use mathlib.Core.Bool.{Bool, true, false, cond, ◌&&◌}
use Prim.Native.Nat.{ℕ, zero, suc, ◌+◌, ◌≤◌, ◌<◌}
use native.Mathlib.Omega.{arith}
use lib.Dec.{T}
use lib.IntN.{ℤ, pos, negsuc}
use Rattle.golden.specs.Decisions.{Decides}
use Rattle.golden.specs.Order.{w_of, NonNeg}
use Rattle.golden.specs.declared.Golden.{Golden}
use Rattle.golden.proofs.Signs.{sign_test as signTested, test_yes, yes_test}
use Rattle.filing.specs.Holding.{AllNonNeg}
use Rattle.filing.specs.Means.Descent.{sign_test, non_neg, holds, first, child_dets, least_child}
use Rattle.filing.specs.declared.Determinants.{Determinants}
use Rattle.filing.proofs.Children.{child_holds}

-- ---- the sign

same_test : (w v : ℤ) → sign_test w v ≡ signTested w v
same_test (pos w) (pos v) = refl
same_test (pos w) (negsuc v) = refl
same_test (negsuc w) (pos v) = refl
same_test (negsuc w) (negsuc v) = refl

is_true : (b : Bool) → T b → b ≡ true
is_true true t = refl
is_true false t = absurd t

of_true : (b : Bool) → b ≡ true → T b
of_true b e = subst T (sym e) tt

pub test_nonneg : (x : Golden) → non_neg x ≡ true → NonNeg x
unfolding non_neg
test_nonneg x e = test_yes (w_of x) x.v (of_true _ (sym (same_test (w_of x) x.v) ∙ e))

pub nonneg_test : (x : Golden) → NonNeg x → non_neg x ≡ true
unfolding non_neg
nonneg_test x h = same_test (w_of x) x.v ∙ is_true _ (yes_test (w_of x) x.v h)

false_or : (b : Bool) → (b ≡ true → ⊥) → b ≡ false
false_or true f = absurd (f refl)
false_or false f = refl

-- what the code's answer is, from what it says
pub decided : (r : Bool) (x : Golden) → Decides r (NonNeg x) → r ≡ non_neg x
decided true x d = sym (nonneg_test x (d.holds refl))
decided false x d = sym (false_or (non_neg x) (λ e. d.fails refl (test_nonneg x e)))

-- ---- the three determinants

and_left : (a b : Bool) → a && b ≡ true → a ≡ true
and_left true b e = refl
and_left false b e = e

and_right : (a b : Bool) → a && b ≡ true → b ≡ true
and_right true b e = e
and_right false true e = refl
and_right false false e = e

and_both : (a b : Bool) → a ≡ true → b ≡ true → a && b ≡ true
and_both true b e f = f
and_both false b e f = e

module _ (D : Determinants) where
  pub test_holds : holds D ≡ true → AllNonNeg D
  unfolding holds
  test_holds e =
      let r = and_right (non_neg D.d1) _ e in
      record {
        n1 = test_nonneg D.d1 (and_left (non_neg D.d1) _ e);
        n2 = test_nonneg D.d2 (and_left (non_neg D.d2) _ r);
        n3 = test_nonneg D.d3 (and_right (non_neg D.d2) _ r);
      }

  pub holds_test : AllNonNeg D → holds D ≡ true
  unfolding holds
  holds_test h =
      and_both (non_neg D.d1) (non_neg D.d2 && non_neg D.d3) (nonneg_test D.d1 h.n1)
      (and_both (non_neg D.d2) (non_neg D.d3) (nonneg_test D.d2 h.n2) (nonneg_test D.d3 h.n3))

  pub holds_decides : Decides (holds D) (AllNonNeg D)
  holds_decides = record { holds = test_holds; fails = λ e h. differ (sym (holds_test h) ∙ e) }
    where
      differ : true ≡ false → ⊥
      differ e = of_true false (sym e)

  pub all_or_not : AllNonNeg D ⊎ (AllNonNeg D → ⊥)
  all_or_not = go (holds D) holds_decides
    where
      go : (b : Bool) → Decides b (AllNonNeg D) → AllNonNeg D ⊎ (AllNonNeg D → ⊥)
      go true d = inl (d.holds refl)
      go false d = inr (d.fails refl)

-- ---- the first that passes

pub record First (p : ℕ → Bool) (k m r : ℕ) : Type 0 where
  pub passes : p r ≡ true
  pub low : k ≤ r
  pub high : r ≤ m
  pub least : (j : ℕ) → k ≤ j → p j ≡ true → r ≤ j

pub first_is : (n k : ℕ) (p : ℕ → Bool) (j : ℕ) → k ≤ j → j ≤ k + n → p j ≡ true → First p k (k + n) (first n k p)
unfolding first
first_is zero k p j l u t =
    let e : j ≡ k = omega arith in
    record { passes = rw e at t; low = omega arith; high = omega arith; least = λ i h s. h }
first_is (suc n) k p j l u t = go (p k) refl (λ l. first_is n (suc k) p j l (omega arith) t)
  where
    go :
        (b : Bool)
        → p k ≡ b
        → (suc k ≤ j → First p (suc k) (suc k + n) (first n (suc k) p))
        → First p k (k + suc n) (cond b k (first n (suc k) p))
    go true e f = record { passes = e; low = omega arith; high = omega arith; least = λ i h s. h }
    go false e f =
        let differs : (i : ℕ) → p i ≡ true → k ≡ i → ⊥ = λ i s q. of_true false (sym e ∙ ap p q ∙ s) in
        let r = f (omega (arith, differs j t)) in
        record {
          passes = r.passes;
          low = omega (arith, r.low);
          high = omega (arith, r.high);
          least = λ i h s. r.least i (omega (arith, differs i s)) s;
        }

pub first_high : (n k : ℕ) (p : ℕ → Bool) → first n k p ≤ k + n
unfolding first
first_high zero k p = omega arith
first_high (suc n) k p = go (p k) (first_high n (suc k) p)
  where
    go : (b : Bool) → first n (suc k) p ≤ suc k + n → cond b k (first n (suc k) p) ≤ k + suc n
    go true h = omega arith
    go false h = omega arith

-- the least child that holds, where one does
pub least_child_lem : (D : Determinants) → AllNonNeg D → First (λ k. holds (child_dets k D)) 0 3 (least_child D)
unfolding least_child
least_child_lem D h =
    let c = child_holds D h in
    first_is 3 0 (λ k. holds (child_dets k D)) c.0 (omega arith) (omega (arith, c.1)) (holds_test (child_dets c.0 D) c.2)

pub digit_small : (D : Determinants) → least_child D < 4
unfolding least_child
digit_small D = omega (arith, first_high 3 0 (λ k. holds (child_dets k D)))
