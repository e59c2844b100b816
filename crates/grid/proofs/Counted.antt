-- "There are 20·4^N triangles, 30·4^N edges and 10·4^N + 2 corners", at every degree 0 to 24, and as many canonical
-- corner names as corners. That different codes, corners and edges are different is Differing.antt. Assumes nothing.
use mathlib.Core.Path.{◌≡◌, ◌∙◌, refl, sym, ap, subst}
use mathlib.Core.List.{List, []}
use Prim.Native.Nat.{ℕ, zero, suc, ◌+◌, ◌*◌, ◌^◌, ◌≤◌, ◌<◌}
use native.Mathlib.Nat.{pow-suc}
use native.Mathlib.Omega.{arith}
use lib.ListN.{get_or}
use Rattle.words.proofs.CodeCount.{at_place, code_at_lem, place_at, place_below}
use Rattle.words.proofs.Codes.{code_side}
use Rattle.words.proofs.Digits.{none}
use Rattle.words.specs.Counting.{code_at, place_of}
use Rattle.words.specs.Refusals.{IsCode}
use Rattle.words.specs.Words.{corner_number, digits, first_digits, side_of}
use Rattle.words.specs.declared.CornerName.{CornerName}
use Rattle.words.specs.declared.TriangleCode.{TriangleCode}
use Rattle.net.specs.Corners.{name_of, code_inside, corner, named}
use Rattle.net.specs.Division.{Weights, corner_of, kept, triangle_at, unit_at}
use Rattle.net.specs.Names.{IsName}
use Rattle.net.specs.Sides.{IsSide, OneToThree, corner_vertex}
use Rattle.net.proofs.CodePlaces.{code_for, corner_at, digits_in, for_code, for_corner}
use Rattle.net.proofs.Demand3.{one_name_each, there_and_back}
use Rattle.net.proofs.Names.{one_name}
use Rattle.net.proofs.SharedVertices.{vertex_small}
use Rattle.net.proofs.Table.{◌then◌, below, same, some, sound, three}
use Rattle.grid.specs.Counts.{Count, Counts, IsCorner, IsEdge}
use Rattle.grid.proofs.CornerSteps.{IsKept, IsMiddle, kept_corner, kept_once, kept_or_middle, middle_corner}
use Rattle.grid.proofs.CornerSteps.{middle_once, middle_of, not_both}
use Rattle.grid.proofs.CountLaws.{as_many, mapped, matched, together}
use Rattle.grid.proofs.EdgeHalves.{half_edges}

-- "20·4^N triangles"
pub triangles : (n : ℕ) → n ≤ 24 → Count (20 * 4 ^ n) (IsCode n)
triangles n h = record {
  at = code_at n;
  each = λ i k. code_at_lem n i h k;
  every = λ t c. (place_of t, place_below c, at_place c);
  once = λ i j k l e. sym (place_at n i h) ∙ ap place_of e ∙ place_at n j h;
}

-- "30·4^N edges"
pub edges : (n : ℕ) → n ≤ 24 → Count (30 * 4 ^ n) (IsEdge n)
edges n h = let e = half_edges (triangles n h) in as_many (omega (arith, e.1)) e.2

-- ---- corners of degree 0: the twelve vertices

-- the corners of a side are its vertices
first_corner : (s i : ℕ) → OneToThree i → corner_of s [] i ≡ unit_at (corner_vertex s i)
unfolding corner_of triangle_at
first_corner s = three (λ i. corner_of s [] i ≡ unit_at (corner_vertex s i)) refl refl refl

-- each vertex is a corner of some side
vertex_there : (v : ℕ) → v < 12 → (s : ℕ) × (s < 20) × ((i : ℕ) × (i < 3) × (corner_vertex (4 + s) (1 + i) ≡ v))
unfolding corner_vertex
vertex_there = sound (below 12 λ v. some 20 λ s. some 3 λ i. same (corner_vertex (4 + s) (1 + i)) v) refl

-- different vertices have different weights
pub units_differ : (u : ℕ) → u < 12 → (v : ℕ) → v < 12 → get_or (unit_at u) u 0 ≡ get_or (unit_at v) u 0 → u ≡ v
unfolding unit_at
units_differ = sound (below 12 λ u. below 12 λ v. same (get_or (unit_at u) u 0) (get_or (unit_at v) u 0) then same u v) refl

-- a code of degree 0 has no digits
no_digits : {t : TriangleCode} → IsCode 0 t → digits_in t ≡ []
unfolding first_digits
no_digits {t} c = ap (digits t.0) c.degree_is

-- its corners are the vertices of its side
pub side_corner : {t : TriangleCode} → IsCode 0 t → (i : ℕ) → OneToThree i
    → corner t i ≡ unit_at (corner_vertex (side_of t.0) i)
side_corner {t} c i l =
    corner_at t i ∙ ap (λ (ds : List ℕ). corner_of (side_of t.0) ds i) (no_digits c)
    ∙ first_corner (side_of t.0) i l

-- twelve of them, each a corner of some side, and no other
vertices : Count 12 (IsCorner 0)
vertices = record {
  at = unit_at;
  each = λ v h.
      let p = vertex_there v h in
      let s = 4 + p.0 in
      let i = 1 + p.2.0 in
      let hs : IsSide s = omega (arith, p.1) in
      let l : OneToThree i = omega (arith, p.2.1) in (
        code_for s [],
        for_code s [] hs none (omega arith),
        (
          i,
          l,
          for_corner s [] hs none (omega arith) i
              ∙ first_corner s i l ∙ ap unit_at p.2.2,
        ),
      );
  every = λ p (t, c, (i, l, e)).
      let s = side_of t.0 in
      (corner_vertex s i, vertex_small s (code_side c) i l, sym (side_corner c i l) ∙ e);
  once = λ u v h k e. units_differ u h v k (ap (λ (w : Weights). get_or w u 0) e);
}

-- "10·4^N + 2 corners": those kept, and the middles of the edges
pub corners : (n : ℕ) → n ≤ 24 → Count (10 * 4 ^ n + 2) (IsCorner n)
corners zero h = vertices
corners (suc n) h =
    as_many (omega (arith, pow-suc 4 n)) (together {P = IsKept n} {Q = IsMiddle n} {S = IsCorner (suc n)}
    (λ p (q, c, e). subst (IsCorner (suc n)) e (kept_corner h q c)) (λ p (f, x, e). subst (IsCorner (suc n)) e
    (middle_corner h f x))
    (kept_or_middle h) not_both
    (mapped kept (λ q c. (q, c, refl)) (λ p k. k) kept_once (corners n (omega arith)))
    (mapped middle_of (λ f x. (f, x, refl)) (λ p k. k) middle_once (edges n (omega arith))))

-- as many canonical names: each corner has one, and each names one corner
pub names : (n : ℕ) → n ≤ 24 → Count (10 * 4 ^ n + 2) (λ (r : CornerName). IsName n (named r) r)
names n h =
    matched (IsName n) (name_of 0)
    (λ p (t, c, (i, l, e)).
    let x = one_name_each n t i c l in
    let y = subst (λ (p : Weights). IsName n p x.0) e x.1 in
    (x.0, (there_and_back n p x.0 y).1, y))
    (λ r x. (named r, (code_inside r, x.code, (corner_number r.0, x.number, refl)), x))
    (λ p p' r x y. sym x.there ∙ y.there) (λ p r r' x y. one_name x y) (corners n h)

pub counted : (n : ℕ) → n ≤ 24 → Counts n
counted n h = record { triangles = triangles n h; edges = edges n h; corners = corners n h; names = names n h }
