-- Digits as one number, and that a step leaves digits. Assumes nothing.
use mathlib.Core.Path.{◌≡◌, refl, sym, ap, subst}
use mathlib.Core.List.{List, [], ◌∷◌}
use Prim.Native.Nat.{ℕ, zero, suc, ◌+◌, ◌-◌, ◌*◌, ◌/◌, ◌%◌, ◌^◌, ◌≤◌, ◌<◌}
use native.Mathlib.Omega.{arith}
use lib.ListN.{length}
use lib.Pow.{pow-add}
use mathlib.Core.Bool.{Bool, true, false}
use lib.Dec.{eqb}
use borrow.Author.Tests.{eqb-true, eqb-false}
use Rattle.words.proofs.Digits.{AreDigits, more, none, path_injective, path_lt}
use Rattle.words.specs.Words.{path}
use Rattle.net.specs.Means.Paths.{digits_of}
use Rattle.net.specs.Means.States.{Move, cross, inside, map, outside, pick}

-- ds are digits
abbrev pub Digits : List ℕ → Type 0
Digits ds = AreDigits (length ds) ds

pub are_length : {n : ℕ} {ds : List ℕ} → AreDigits n ds → length ds ≡ n
are_length none = refl
are_length (more h a) = ap suc (are_length a)

pub are_digits_lem : {n : ℕ} {ds : List ℕ} → AreDigits n ds → Digits ds
are_digits_lem {n} {ds} a = subst (λ (k : ℕ). AreDigits k ds) (sym (are_length a)) a

pub digits_of_lem : (n v : ℕ) → AreDigits n (digits_of n v)
unfolding digits_of
digits_of_lem zero v = none
digits_of_lem (suc n) v = more {d = v % 4} (omega arith) (digits_of_lem n (v / 4))

pub of_digits : (n v : ℕ) → Digits (digits_of n v)
of_digits n v = are_digits_lem (digits_of_lem n v)

pub of_length : (n v : ℕ) → length (digits_of n v) ≡ n
of_length n v = are_length (digits_of_lem n v)

-- 2 ^ (2 * n), a digit at a time
pub four : (n : ℕ) → 2 ^ (2 * suc n) ≡ 4 * 2 ^ (2 * n)
four n = let e : 2 * suc n ≡ 2 * n + 2 = omega arith in rw e (omega (arith, pow-add 2 (2 * n) 2))

-- there and back
pub path_of : (n v : ℕ) → v < 2 ^ (2 * n) → path (digits_of n v) ≡ v
unfolding digits_of path
path_of zero v h = omega arith
path_of (suc n) v h =
    let q : v / 4 < 2 ^ (2 * n) = omega (arith, four n) in
    omega (arith, path_of n (v / 4) q)

pub of_path : {n : ℕ} {ds : List ℕ} → AreDigits n ds → digits_of n (path ds) ≡ ds
of_path {n} a = path_injective (digits_of_lem n _) a (path_of n _ (path_lt a))

-- ---- what a step leaves: digits, as many as before

abbrev pub Kept : Move (List ℕ) → ℕ → Type 0
Kept (inside ds) n = AreDigits n ds
Kept outside n = Unit {0}

-- what holds of the one or the other by a test
pub picked : (P : Move (List ℕ) → Type 0) (a b : ℕ) {x y : Move (List ℕ)} → (a ≡ b → P x)
    → ((a ≡ b → ⊥) → P y)
    → P (pick (eqb a b) x y)
picked P a b {x} {y} f g = go (eqb a b) refl
  where
    go : (t : Bool) → eqb a b ≡ t → P (pick t x y)
    go true e = f (eqb-true a b e)
    go false e = g (eqb-false a b e)

map_kept : (d n : ℕ) (m : Move (List ℕ)) → d ≤ 3 → Kept m n → Kept (map (λ es. d ∷ es) m) (suc n)
map_kept d n (inside es) h k = more h k
map_kept d n outside h k = tt

pub cross_kept : {n : ℕ} (k : ℕ) (ds : List ℕ) → 1 ≤ k → k ≤ 3 → AreDigits n ds → Kept (cross k ds) n
unfolding cross
cross_kept k [] l u none = tt
cross_kept k (d ∷ ds) l u (more {n = n} h a) =
    picked (λ c. Kept c (suc n)) d 0 (λ e. more (omega arith) a) (λ n0.
    picked (λ c. Kept c (suc n)) d k (λ e. more (omega arith) a) (λ nk.
    map_kept (6 - k - d) _ (cross k ds) (omega arith) (cross_kept k ds l u a)))
