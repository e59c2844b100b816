-- The determinants of a triangle's children from its own, and the descent by the least child that holds. Assumes
-- nothing.
use Rattle.std.specs.Prelude.{ℕ, zero, suc, ◌+◌, ◌*◌, Bool, true, false, cond, ◌&&◌, List, [], ◌∷◌, ◌++◌, leb, ℤ, pos, negsuc}
use Rattle.golden.specs.Numbers.{◌+φ◌}
use Rattle.golden.specs.Order.{w_of}
use Rattle.golden.specs.declared.Golden.{Golden}
use Rattle.filing.specs.Holding.{◌-φ◌, three}
use Rattle.filing.specs.declared.Determinants.{Determinants}

abbrev pub twice : Golden → Golden
twice x = x +φ x

-- the sum of the three, which is the same at every degree
abbrev pub total : Determinants → Golden
total D = D.d1 +φ D.d2 +φ D.d3

abbrev pub child_dets : (digit : ℕ) → Determinants → Determinants
child_dets zero D = three (total D -φ twice D.d1) (total D -φ twice D.d2) (total D -φ twice D.d3)
child_dets (suc zero) D = three (twice D.d1 -φ total D) (twice D.d2) (twice D.d3)
child_dets (suc (suc zero)) D = three (twice D.d1) (twice D.d2 -φ total D) (twice D.d3)
child_dets (suc (suc (suc k))) D = three (twice D.d1) (twice D.d2) (twice D.d3 -φ total D)

-- ---- the tests

-- document 01's rule for the sign, computed
abbrev pub sign_test : (w v : ℤ) → Bool
sign_test (pos w) (pos v) = true
sign_test (pos w) (negsuc v) = leb (5 * (suc v * suc v)) (w * w)
sign_test (negsuc w) (pos v) = leb (suc w * suc w) (5 * (v * v))
sign_test (negsuc w) (negsuc v) = false

unfoldable pub non_neg : Golden → Bool
non_neg x = sign_test (w_of x) x.v

unfoldable pub holds : Determinants → Bool
holds D = non_neg D.d1 && (non_neg D.d2 && non_neg D.d3)

-- the first number from k on that passes, of m + 1; the last is taken untested
unfoldable pub first : (m k : ℕ) → (ℕ → Bool) → ℕ
first zero k p = k
first (suc m) k p = cond (p k) k (first m (suc k) p)

-- ---- the descent

unfoldable pub least_child : Determinants → ℕ
least_child D = first 3 0 (λ k. holds (child_dets k D))

-- n digits further down from the path v, by the least child each time
unfoldable pub descent : (n : ℕ) → Determinants → (v : ℕ) → ℕ
descent zero D v = v
descent (suc n) D v = descent n (child_dets (least_child D) D) (4 * v + least_child D)

-- the paths, n digits further down from the path v, of all triangles that hold, rising
unfoldable pub holders : (n : ℕ) → Determinants → (v : ℕ) → List ℕ
holders zero D v = cond (holds D) (v ∷ []) []
holders (suc n) D v =
    holders n (child_dets 0 D) (4 * v) ++ holders n (child_dets 1 D) (4 * v + 1) ++ holders n (child_dets 2 D) (4 * v + 2)
    ++ holders n (child_dets 3 D) (4 * v + 3)
