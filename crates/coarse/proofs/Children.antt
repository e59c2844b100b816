-- The four children of a triangle one degree up are four places of the list in a row; its own place, and how many there
-- are. Assumes nothing.
use mathlib.Core.Path.{◌≡◌, ◌∙◌, refl, sym, ap}
use mathlib.Core.List.{List, [], ◌∷◌}
use Prim.Native.Nat.{ℕ, zero, suc, ◌+◌, ◌-◌, ◌*◌, ◌^◌, ◌≤◌, ◌<◌}
use native.Mathlib.Nat.{pow-suc}
use native.Mathlib.Omega.{arith}
use lib.IntN.{ℤ}
use lib.ListN.{length, get_or, set}
use Rattle.frame.specs.Lists.{below}
use Rattle.frame.proofs.Below.{below_same}
use Rattle.words.specs.Refusals.{IsCode}
use Rattle.words.specs.Family.{parent_of, child_of}
use Rattle.words.specs.Counting.{code_at, place_of}
use Rattle.words.specs.declared.TriangleCode.{TriangleCode}
use Rattle.words.proofs.CodeCount.{place_below, place_fits, code_at_lem, place_at}
use Rattle.words.proofs.ChildPlaces.{child_place, up}
use Rattle.tables.specs.Tables.{places, none, number_at}
use Rattle.coarse.specs.Sums.{present, present_in, parents, every_parent, kept}
use Rattle.coarse.specs.Means.Fours.{present_from}

pub from_children : {n : ℕ} {q : TriangleCode} (list : List ℤ) → IsCode n q → n < 24
    → present_from (4 * place_of q) list ≡ present_in q list
from_children {n} {q} list c l =
    let p = 4 * place_of q in
    let z : p ≡ p + 0 = omega arith in
    λ i. present (at 0 (omega arith) z i ∷ at 1 (omega arith) refl i ∷ at 2 (omega arith) refl i
    ∷ at 3 (omega arith) refl i ∷ [])
  where
    at : (k : ℕ) → k ≤ 3 → {x : ℕ} → x ≡ 4 * place_of q + k
        → get_or list x none ≡ number_at (child_of q k) list
    at k h e = ap (λ (i : ℕ). get_or list i none) (e ∙ sym (child_place c l k h))

-- where the four children have the same numbers
pub same_in : (q : TriangleCode) (list list' : List ℤ)
    → ((k : ℕ) → k ≤ 3 → number_at (child_of q k) list ≡ number_at (child_of q k) list')
    → present_in q list ≡ present_in q list'
same_in q list list' at =
    λ i. present (at 0 (omega arith) i ∷ at 1 (omega arith) i ∷ at 2 (omega arith) i
    ∷ at 3 (omega arith) i ∷ [])

-- ---- one degree up

pub parents_above : (n : ℕ) → (n ≡ 0 → ⊥) → places (n - 1) ≡ parents n
parents_above zero z = absurd (z refl)
parents_above (suc n) z = let e : suc n - 1 ≡ n = omega arith in ap places e

-- the four places of every parent are in the list
pub four_each : (n : ℕ) {m l : ℕ} → m ≡ parents n → l ≡ places n → 4 * m ≤ l
four_each zero e f = omega (arith, e, f)
four_each (suc n) e f = omega (arith, e, f, pow-suc 4 n)

-- What a call knows of the parent of its triangle, whose place is i.
pub record Above (n : ℕ) (t : TriangleCode) (list : List ℤ) (i : ℕ) : Type 0 where
  pub fits : i < 2 ^ 53
  pub here : i < parents n
  pub four : 4 * i + 3 < length list
  pub present_is : present_from (4 * i) list ≡ present_in (parent_of t) list

pub above : (n : ℕ) {t : TriangleCode} (list : List ℤ) {i : ℕ} → i ≡ place_of (parent_of t)
    → (n ≡ 0 → ⊥) → n ≤ 6 → IsCode n t → length list ≡ places n → Above n t list i
above zero list q z l c e = absurd (z refl)
above (suc n) {t} list q z l c e =
    let u = up c (omega arith) in
    let b = place_below u.code in
    record {
      fits = omega (arith, q, place_fits u.code);
      here = omega (arith, q, b);
      four = omega (arith, q, b, e, pow-suc 4 n);
      present_is = ap (λ (j : ℕ). present_from (4 * j) list) q ∙ from_children list u.code (omega arith);
    }

pub kept_set : (n : ℕ) → (n ≡ 0 → ⊥) → (t : TriangleCode) (f : TriangleCode → ℕ) (list : List ℕ)
    → {i v : ℕ} → i ≡ place_of (parent_of t) → v ≡ f (parent_of t) → set list i v ≡ kept n t f list
kept_set zero z t f list e q = absurd (z refl)
kept_set (suc n) z t f list e q = λ j. set list (e j) (q j)

pub kept_none : (n : ℕ) → n ≡ 0 → (t : TriangleCode) (f : TriangleCode → ℕ) (list : List ℕ)
    → list ≡ kept n t f list
kept_none zero z t f list = refl
kept_none (suc n) z t f list = absurd (omega arith)

-- what is said of every four places is said of every parent
pub every_parent_lem : (g : List ℕ → ℕ) (list : List ℤ) (n : ℕ) {m : ℕ} → n ≤ 6 → m ≡ parents n
    → below m (λ i. g (present_from (4 * i) list)) ≡ every_parent n (λ p. g (present_in p list))
unfolding below every_parent
every_parent_lem g list zero h e = ap (λ (m : ℕ). below m (λ i. g (present_from (4 * i) list))) e
every_parent_lem g list (suc n) h e =
    ap (λ (m : ℕ). below m (λ i. g (present_from (4 * i) list))) e
    ∙ below_same (places n) (λ i. g (present_in (code_at n i) list)) (λ i. g (present_from (4 * i) list))
    (λ i k. ap (λ (x : ℕ). g (present_from (4 * x) list)) (sym (place_at n i (omega arith)))
    ∙ ap g (from_children list (code_at_lem n i (omega arith) k) (omega arith)))
