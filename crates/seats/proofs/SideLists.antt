-- The words of all sides, where one side holds the direction or two do. Assumes nothing.
use mathlib.Core.Path.{◌≡◌, refl, ◌∙◌, ap}
use mathlib.Core.Logic.{◌⊎◌, ⊎_elim}
use mathlib.Core.List.{List, [], ◌++◌, append-nil}
use Prim.Native.Nat.{ℕ, zero, suc, ◌+◌, ◌-◌, ◌≤◌, ◌<◌}
use native.Mathlib.Omega.{arith}
use Rattle.golden.proofs.IntegerOrder.{le_or_lt}
use Rattle.words.specs.Words.{word_of}
use Rattle.net.specs.Sides.{IsSide}
use Rattle.net.specs.Division.{each}
use Rattle.filing.specs.Means.Lists.{joined, side_words, all_words}
use Rattle.filing.specs.Means.Sides.{side_dets}
use Rattle.filing.specs.declared.Direction.{Direction}
use Rattle.filing.proofs.HolderLists.{no_holders}
use Rattle.filing.proofs.TwoSides.{SideHolds}
use Rattle.shares.proofs.LeastPath.{not_held}

-- ---- lists one after the other, nearly all empty

none_joined : (m k : ℕ) (f : ℕ → List ℕ) → ((j : ℕ) → k ≤ j → j < k + m → f j ≡ [])
    → joined m k f ≡ []
unfolding joined
none_joined zero k f n = refl
none_joined (suc m) k f n = rw (n k (omega arith) (omega arith)) (none_joined m (suc k) f (λ j a b. n j (omega arith)
    (omega arith)))

-- all are empty before s
joined_from :
    (m k : ℕ) (f : ℕ → List ℕ) (s : ℕ) → k ≤ s → s < k + m
    → ((j : ℕ) → k ≤ j → j < s → f j ≡ [])
    → joined m k f ≡ f s ++ joined (k + m - suc s) (suc s) f
unfolding joined
joined_from zero k f s a b n = absurd (omega arith)
joined_from (suc m) k f s a b n = ⊎_elim
    (λ l.
    let e : k ≡ s = omega arith in
    let q : m ≡ k + suc m - suc s = omega arith in
    (λ i. f (e i) ++ joined m (suc (e i)) f) ∙ ap (λ (l : ℕ). f s ++ joined l (suc s) f) q)
    (λ l.
    let q : suc k + m - suc s ≡ k + suc m - suc s = omega arith in
    ap (λ (x : List ℕ). x ++ joined m (suc k) f) (n k (omega arith) l)
    ∙ joined_from m (suc k) f s (omega arith) (omega arith) (λ j x y. n j (omega arith) y)
    ∙ ap (λ (l : ℕ). f s ++ joined l (suc s) f) q)
    (le_or_lt s k)

-- ---- the sides

module _ (d : Direction) (n s : ℕ) (hs : IsSide s) where
  empty_side : (t : ℕ) → (SideHolds d t → ⊥) → side_words d n t ≡ []
  unfolding side_words
  empty_side t f = ap (each (word_of t n)) (no_holders n (side_dets d t) 0 (not_held (side_dets d t) f))

  rest_empty : (t : ℕ) → 4 ≤ t → t < 24 → ((u : ℕ) → IsSide u → t < u → SideHolds d u → ⊥)
      → joined (4 + 20 - suc t) (suc t) (side_words d n) ≡ []
  rest_empty t l h f = none_joined (4 + 20 - suc t) (suc t) (side_words d n) (λ u a b. empty_side u (f u (
    omega arith,
    omega arith,
  ) (omega arith)))

  pub one_side : ((u : ℕ) → IsSide u → SideHolds d u → s ≡ u) → all_words d n 4 ≡ side_words d n s
  unfolding all_words
  one_side only =
      joined_from 20 4 (side_words d n) s hs.0 (omega (arith, hs.1)) (λ u a b. empty_side u (λ h. let e = only u
      (a, omega (arith, hs.1)) h in omega arith))
      ∙ ap (λ (x : List ℕ). side_words d n s ++ x) (rest_empty s hs.0 hs.1
      (λ u hu l h. let e = only u hu h in
      omega arith))
      ∙ append-nil (side_words d n s)

  pub both_sides :
      (t : ℕ) → IsSide t → s < t → ((u : ℕ) → IsSide u → SideHolds d u → (s ≡ u) ⊎ (t ≡ u))
      → all_words d n 4 ≡ side_words d n s ++ side_words d n t
  unfolding all_words
  both_sides t ht l only =
      let no : (u : ℕ) → IsSide u → (s ≡ u → ⊥) → (t ≡ u → ⊥) → SideHolds d u
      → ⊥ = λ u hu f g h. ⊎_elim f g (only u hu h) in
      let q : suc s + (4 + 20 - suc s) - suc t ≡ 4 + 20 - suc t = omega (arith, ht.1) in
      joined_from 20 4 (side_words d n) s hs.0 (omega (arith, hs.1))
      (λ u a b. empty_side u (no u (a, omega (arith, hs.1)) (λ e. omega arith) (λ e. omega arith)))
      ∙ ap (λ (x : List ℕ). side_words d n s ++ x)
      (joined_from (4 + 20 - suc s) (suc s) (side_words d n) t (omega arith) (omega (arith, ht.1))
      (λ u a b. empty_side u (no u (omega (arith, hs.0), omega (arith, ht.1)) (λ e. omega arith) (λ e. omega arith)))
      ∙ ap (λ (l : ℕ). side_words d n t ++ joined l (suc t) (side_words d n)) q
      ∙ ap (λ (x : List ℕ). side_words d n t ++ x) (rest_empty t ht.0 ht.1
      (λ u hu m. no u hu (λ e. omega arith)
      (λ e. omega arith)))
      ∙ append-nil (side_words d n t))
