-- Twelve weights are a corner's exactly when they add to 2^N and the vertices with weight are all corners of one side: what refusal 11 says.
-- Assumes nothing.
use mathlib.Core.Path.{◌≡◌, ◌∙◌, sym, ap, subst}
use mathlib.Core.Bool.{true}
use mathlib.Core.Logic.{◌↔◌}
use Prim.Native.Nat.{ℕ, ◌^◌, ◌≤◌}
use native.Mathlib.Omega.{arith}
use lib.ListN.{length}
use Rattle.words.proofs.Codes.{code_side}
use Rattle.words.specs.Refusals.{IsCode}
use Rattle.words.specs.Words.{side_of}
use Rattle.words.specs.declared.TriangleCode.{TriangleCode}
use Rattle.net.specs.Corners.{HasCorner}
use Rattle.net.specs.Division.{Weights, sum}
use Rattle.net.specs.Means.Spreads.{point_in, spread}
use Rattle.net.specs.Means.States.{point_of, state_of}
use Rattle.net.specs.Refusals.{on_one_side}
use Rattle.net.proofs.CodePlaces.{code_for, corner_at, digits_in, for_code, for_corner}
use Rattle.net.proofs.Demand3.{add_up_lem}
use Rattle.net.proofs.Loads.{corner_is, sum_spread}
use Rattle.net.proofs.Reach.{reached}
use Rattle.net.proofs.StateCode.{on_one, on_side_lem, one_on, spread_of}

-- "11: no corner of the degree has the twelve weights"
pub weights_mean : (n : ℕ) (p : Weights) → n ≤ 24 → length p ≡ 12
    → ((sum p ≡ 2 ^ n) × (on_one_side p ≡ true)) ↔ ((t : TriangleCode) × IsCode n t × HasCorner t p)
weights_mean n p h twelve = (
  λ x.
      let o = one_on p x.1 in
      let s = o.0 in
      let q = point_in s p in
      let e : spread s q ≡ p = spread_of s p o.1 twelve o.2 in
      let r = reached s n q (sym (sum_spread s q o.1) ∙ ap sum e ∙ x.0) in
      let ds = r.0 in
      let k : length ds ≤ 24 = omega (arith, r.2) in
      let i = r.3 in
      (code_for s ds, subst (λ (m : ℕ). IsCode m (code_for s ds)) r.2 (for_code s ds o.1 r.1 k), (i.0, i.1, for_corner s ds o.1 r.1 k i.0 ∙ i.2 ∙ e)),
  λ x.
      let t = x.0 in
      let c = x.1 in
      let i = x.2 in
      let s = side_of t.0 in
      let q = point_of i.0 (state_of (digits_in t)) in
      let a : p ≡ spread s q = sym i.2 ∙ corner_at t i.0 ∙ corner_is (side_of t.0) (digits_in t) i.0 in
      (ap sum (sym i.2) ∙ add_up_lem n t i.0 c, subst (λ (w : Weights). on_one_side w ≡ true) (sym a) (on_one (spread s q) s (code_side c) (on_side_lem s q (code_side c)))),
)
