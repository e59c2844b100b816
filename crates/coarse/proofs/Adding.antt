-- Counting and summing are alike: of two lists, one after the other, both numbers add up. What follows from that alone
-- is said once for both. Assumes nothing.
use mathlib.Core.Path.{◌≡◌, ◌∙◌, refl, sym, ap}
use mathlib.Core.List.{List, [], ◌∷◌, ◌++◌, append_assoc}
use Prim.Native.Nat.{ℕ, zero, suc, ◌+◌, ◌*◌, ◌≤◌, ◌<◌}
use native.Mathlib.Omega.{arith}
use native.Mathlib.Numerals.{add-one, add-two, add-three}
use lib.IntN.{ℤ, pos, negsuc}
use lib.ListN.{length, get_or, take, length-append}
use lib.Seq.{take-suc}
use Rattle.frame.specs.Lists.{below}
use Rattle.net.specs.Division.{sum}
use Rattle.tables.specs.Tables.{none}
use Rattle.coarse.specs.Sums.{present}
use Rattle.coarse.specs.Means.Fours.{present_from}

pub record Additive (g : List ℕ → ℕ) : Type 0 where
  pub nothing : g [] ≡ 0
  pub append : (xs ys : List ℕ) → g (xs ++ ys) ≡ g xs + g ys

pub counting : Additive length
counting = record { nothing = refl; append = λ xs ys. length-append xs ys }

sum_append : (xs ys : List ℕ) → sum (xs ++ ys) ≡ sum xs + sum ys
unfolding sum
sum_append [] ys = omega arith
sum_append (x ∷ xs) ys = omega (arith, sum_append xs ys)

pub summing : Additive sum
unfolding sum
summing = record { nothing = refl; append = sum_append }

pub present_append : (xs ys : List ℤ) → present (xs ++ ys) ≡ present xs ++ present ys
present_append [] ys = refl
present_append (pos r ∷ xs) ys = ap (λ (l : List ℕ). r ∷ l) (present_append xs ys)
present_append (negsuc r ∷ xs) ys = present_append xs ys

-- ---- four numbers

module _ {g : List ℕ → ℕ} (add : Additive g) where
  one_more : (x : ℤ) (xs : List ℤ) → g (present (x ∷ xs)) ≡ g (present (x ∷ [])) + g (present xs)
  one_more x xs = ap g (present_append (x ∷ []) xs) ∙ add.append (present (x ∷ [])) (present xs)

  pub of_four : (a b c d : ℤ)
      → g (present (a ∷ [])) + g (present (b ∷ [])) + g (present (c ∷ [])) + g (present (d ∷ []))
      ≡ g (present (a ∷ b ∷ c ∷ d ∷ []))
  of_four a b c d =
      omega (arith, one_more a (b ∷ c ∷ d ∷ []), one_more b (c ∷ d ∷ []), one_more c (d ∷ []))

-- ---- a list, four places at a time

four_more : (list : List ℤ) (j : ℕ) → j + 3 < length list
    → take (suc (suc (suc (suc j)))) list
    ≡ take j list
    ++ (get_or list j none ∷ get_or list (j + 1) none ∷ get_or list (j + 2) none ∷ get_or list (j + 3) none ∷ [])
four_more list j l =
    simp (add-one, add-two, add-three)
    (take-suc list (suc (suc (suc j))) none (omega arith)
    ∙ ap (λ (x : List ℤ). x ++ (get_or list (suc (suc (suc j))) none ∷ []))
    (take-suc list (suc (suc j)) none (omega arith)
    ∙ ap (λ (x : List ℤ). x ++ (get_or list (suc (suc j)) none ∷ []))
    (take-suc list (suc j) none (omega arith)
    ∙ ap (λ (x : List ℤ). x ++ (get_or list (suc j) none ∷ [])) (take-suc list j none (omega arith))))
    ∙ simp append_assoc)

module _ {g : List ℕ → ℕ} (add : Additive g) (list : List ℤ) where
  -- of every four places together, it is that of all of them
  pub of_fours : (m : ℕ) → 4 * m ≤ length list
      → sum (below m (λ i. g (present_from (4 * i) list))) ≡ g (present (take (4 * m) list))
  unfolding below sum
  of_fours zero l = sym add.nothing
  of_fours (suc m) l =
      let q : 4 * suc m ≡ suc (suc (suc (suc (4 * m)))) = omega arith in
      let e : g (present (take (4 * suc m) list)) ≡ g (present (take (4 * m) list)) + g (present_from (4 * m) list) =
      ap (λ (k : ℕ). g (present (take k list))) q
      ∙ ap (λ (x : List ℤ). g (present x)) (four_more list (4 * m) (omega arith))
      ∙ ap g (present_append (take (4 * m) list) _) ∙ add.append _ _ in
      sum_append (below m (λ i. g (present_from (4 * i) list))) (g (present_from (4 * m) list) ∷ [])
      ∙ omega (arith, e, of_fours m (omega arith))
