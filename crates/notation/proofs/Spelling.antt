-- What `vertex_of` answers. Assumes nothing.
use mathlib.Core.Path.{◌≡◌, ◌∙◌, refl, sym, ap, subst}
use mathlib.Core.Logic.{⊎_elim}
use mathlib.Core.Bool.{true, true≢false}
use mathlib.Core.List.{List, [], ◌∷◌, reverse, reverse_aux}
use Prim.Native.Nat.{ℕ, zero, suc, ◌+◌, ◌/◌, ◌%◌, ◌^◌}
use native.Mathlib.Omega.{arith}
use lib.ListN.{get_or, length}
use lib.Pow.{pow_pos}
use Rattle.std.specs.Prelude.{None, Some}
use Rattle.words.specs.Words.{path}
use Rattle.net.specs.Sides.{IsSide, corner_vertex}
use Rattle.net.specs.Division.{Weights, sum}
use Rattle.net.specs.Means.Paths.{digits_of, path_up}
use Rattle.net.specs.Means.Spreads.{point_in, spread, weight_at}
use Rattle.net.specs.Means.States.{state_of}
use Rattle.net.specs.declared.Point.{Point}
use Rattle.net.proofs.Loads.{at_vertex, weight_own}
use Rattle.net.proofs.Paths.{digits_of_lem, of_length, of_path}
use Rattle.net.proofs.StateCode.{state_back}
use Rattle.notation.specs.Vertices.{are_zeros}
use Rattle.notation.specs.Means.Directions.{BaseFor, base_state, directions}
use Rattle.notation.specs.Means.Reading.{IsVertexOf}
use Rattle.notation.specs.declared.Vertex.{Vertex}
use Rattle.notation.proofs.BaseSides.{BaseIn, Polar, polar_weight, side_some}
use Rattle.notation.proofs.Directions.{directions_digits}
use Rattle.notation.proofs.Reading.{reverse_long}
use Rattle.notation.proofs.Vertices.{Spelt, base_total, name_lies, polar_spelt, spelt_base, spelt_same}

abbrev vertex : (a p path : ℕ) → Vertex
vertex a p v = record { a = a; p = p; path = v }

-- ---- a side was found

pub base_in : {w : Weights} {s : ℕ} → BaseFor w (Some s) → BaseIn w s
base_in b = record { a_side = b.0; lies = b.1; based = b.2 }

module _ (n s : ℕ) (w : Weights) (twelve : length w ≡ 12) (e : sum w ≡ 2 ^ n) (x : BaseIn w s) where
  pub by_base : {v t : ℕ} → v ≡ path_up n (base_state s (point_in s w)) → t ≡ path (directions 0 (digits_of n v))
      → IsVertexOf n w (vertex (s / 4) (s / 2 % 2) t)
  by_base {v} {t} f g q y =
      let es = digits_of n v in
      let a = base_state s (point_in s w) in
      let d = digits_of_lem n v in
      let k : reverse (directions 0 es) ≡ reverse (digits_of n t) =
      ap reverse (sym (ap (digits_of n) g ∙ of_path (directions_digits 0 es d))) in
      let h = ap (λ (v : ℕ). state_of (digits_of n v)) f
      ∙ state_back n a (base_total n s w twelve e x) in
      spelt_same
      (subst (λ (ss : List ℕ). Spelt n (s / 4 ∷ s / 2 % 2 ∷ ss) w) k (spelt_base n s w es twelve x d h)) y

-- ---- none was: a pole

pub zero_digits : (n : ℕ) (es : List ℕ) → are_zeros es ≡ true → are_zeros (reverse_aux (digits_of n 0) es) ≡ true
unfolding digits_of
zero_digits zero es h = h
zero_digits (suc n) es h = zero_digits n (0 ∷ es) h

-- which of the two: the one at which the weight is
module _ (n : ℕ) {w : Weights} (s : ℕ) (p : Point) (h : IsSide s) (k : p.w1 + p.w2 + p.w3 ≡ 2 ^ n)
    (e : spread s p ≡ w) (x : Polar s p) where
  at_0 : get_or w 0 0 ≡ weight_at s p 0
  at_0 = ap (λ (w : Weights). get_or w 0 0) (sym e) ∙ at_vertex s p 0 (omega arith)

  pub pole_0 : (get_or w 0 0 ≡ 0 → ⊥) → corner_vertex s 1 ≡ 0
  pole_0 f = sym (polar_weight s p h x 0 (omega (arith, f, at_0)))

  pub pole_1 : get_or w 0 0 ≡ 0 → corner_vertex s 1 ≡ 1
  pole_1 f =
      let no : corner_vertex s 1 ≡ 0 → ⊥ = λ g.
      omega (
        arith,
        f,
        at_0,
        ap (weight_at s p) (sym g) ∙ weight_own s p h 1 (omega arith),
        k,
        x.second,
        x.third,
        pow_pos n,
      ) in
      omega (arith, no, x.first)

pub by_pole : (n : ℕ) {w : Weights} (p : ℕ) → BaseFor w None
    → ((s : ℕ) (q : Point) → IsSide s → q.w1 + q.w2 + q.w3 ≡ 2 ^ n → spread s q ≡ w → Polar s q
    → corner_vertex s 1 ≡ p)
    → IsVertexOf n w (vertex 0 p 0)
by_pole n {w} p b which q y =
    let l = name_lies y in
    let ss = reverse (digits_of n 0) in
    ⊎_elim
    (λ x.
    let z = polar_spelt n l.s l.p l.a_side l.total ss (reverse_long (digits_of n 0) ∙ of_length n 0)
    (zero_digits n [] refl) x in
    let v = which l.s l.p l.a_side l.total l.is x in
    spelt_same
    (subst (Spelt n (0 ∷ p ∷ ss)) l.is (subst (λ (v : ℕ). Spelt n (0 ∷ v ∷ ss) (spread l.s l.p)) v z)) y)
    (λ x.
    let t = subst (λ (w : Weights). BaseIn w x.0) l.is x.1 in
    absurd (true≢false (sym t.based ∙ b x.0 t.a_side t.lies)))
    (side_some l.s l.p l.a_side (omega (arith, l.total, pow_pos n)))
