-- When each call refuses nothing, and the answers of the calls from their parts. Assumes nothing.
use mathlib.Core.Path.{◌≡◌, ap}
use mathlib.Core.Logic.{◌↔◌}
use mathlib.Core.Bool.{true, not}
use mathlib.Core.List.{List, ◌++◌}
use Prim.Native.Nat.{ℕ, ◌≤◌, ◌^◌}
use native.Mathlib.Nat.{pos_of_ne-zero}
use native.Mathlib.Omega.{arith}
use lib.ListN.{length, take}
use borrow.Author.Tests.{ltb-false, eqb-false, eqb-true, le-ltb, ne_eqb, eq-eqb, not-false}
use Rattle.frame.specs.Refusals.{list_rows, order}
use Rattle.frame.proofs.Refusing.{NoneSo, either_false, none_after, none_so}
use Rattle.frame.proofs.Lengths.{ThenNine, then_nine}
use Rattle.words.proofs.Codes.{is_code}
use Rattle.words.specs.Refusals.{IsCode, check_code, code_rows, degree_rows}
use Rattle.words.specs.Words.{degree_of}
use Rattle.words.specs.declared.CornerName.{CornerName}
use Rattle.words.specs.declared.TriangleCode.{TriangleCode}
use Rattle.net.specs.Division.{sum}
use Rattle.net.specs.Refusals.{canonical_rows, check_name, on_one_side, one_to_three_rows, weight_rows}
use Rattle.corners.specs.Refusals.{refuse_back, refuse_name_weights, refuse_numbered, refuse_ring, refuse_weights}
use Rattle.net.specs.Sides.{OneToThree}

one_to_three : (k : ℕ) → NoneSo (one_to_three_rows k) ↔ OneToThree k
one_to_three k = (
  λ n. let e = (either_false _ _).0 n.0 in (pos_of_ne-zero (eqb-false k 0 e.0), ltb-false 3 k e.1),
  λ l. ((either_false _ _).1 (ne_eqb k 0 (λ e. omega (arith, l.0)), le-ltb 3 k l.1), tt),
)

pub numbered_passes : (t : TriangleCode) (k : ℕ)
    → (refuse_numbered t k ≡ 0) ↔ ((check_code t ≡ 0) × OneToThree k)
unfolding refuse_numbered check_code
numbered_passes t k = (
  λ e. let n = (none_after order order (code_rows t) _ tt tt).0 e in (n.0, (one_to_three k).0 n.1),
  λ p. (none_after order order (code_rows t) _ tt tt).1 (p.0, (one_to_three k).1 p.1),
)

pub numbered : (t : TriangleCode) (k : ℕ) → refuse_numbered t k ≡ 0 → IsCode (degree_of t.0) t × OneToThree k
numbered t k z = let p = (numbered_passes t k).0 z in (is_code t p.0, p.1)

-- ---- a list that is too short

pub weights_then : (t : TriangleCode) (i : ℕ) (out : List ℕ)
    → ThenNine (refuse_numbered t i) (refuse_weights t i out) 12 (length out)
unfolding refuse_weights refuse_numbered
weights_then t i out = then_nine order order (code_rows t ++ one_to_three_rows i) 12 out tt tt

pub name_weights_then : (r : CornerName) (out : List ℕ)
    → ThenNine (check_name r) (refuse_name_weights r out) 12 (length out)
unfolding refuse_name_weights check_name
name_weights_then r out = then_nine order order (canonical_rows r) 12 out tt tt

pub ring_then : (r : CornerName) (out : List ℕ) → ThenNine (check_name r) (refuse_ring r out) 6 (length out)
unfolding refuse_ring check_name
ring_then r out = then_nine order order (canonical_rows r) 6 out tt tt

-- ---- the way back

pub back_passes : (n : ℕ) (weights : List ℕ)
    → (refuse_back n weights ≡ 0)
    ↔ ((n ≤ 24) × (12 ≤ length weights) × (sum (take 12 weights) ≡ 2 ^ n)
    × (on_one_side (take 12 weights) ≡ true))
unfolding refuse_back
back_passes n weights = (
  λ e.
      let x = (none_so order (degree_rows n ++ list_rows 12 weights ++ weight_rows n weights) tt).0 e in
      let y = (either_false _ _).0 x.1.1.0 in (
        ltb-false 24 n x.0,
        ltb-false (length weights) 12 x.1.0,
        eqb-true _ _ (not-false _ y.0),
        not-false _ y.1,
      ),
  λ p.
      (none_so order (degree_rows n ++ list_rows 12 weights ++ weight_rows n weights) tt).1 (
        le-ltb 24 n p.0,
        (le-ltb (length weights) 12 p.1, ((either_false _ _).1 (ap not (eq-eqb _ _ p.2), ap not p.3), tt)),
      ),
)
