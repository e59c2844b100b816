-- Demand 3 of the user, clause by clause, over the literal division (specs/Division.antt) and what 'Steps and rings'
-- and 'The 64-bit words' call across, name and ring. "At every degree 0 to 24": a code of any degree is meant, and
-- there is none above 24. Assumes nothing.
use mathlib.Core.Path.{◌≡◌, ◌∙◌, refl, sym}
use mathlib.Core.Logic.{◌↔◌}
use mathlib.Core.List.{List}
use Prim.Native.Nat.{ℕ, ◌^◌}
use Rattle.words.proofs.Codes.{code_degree, code_side}
use Rattle.words.specs.Refusals.{IsCode}
use Rattle.words.specs.Words.{corner_number, degree_of, side_of}
use Rattle.words.specs.declared.CornerName.{CornerName}
use Rattle.words.specs.declared.TriangleCode.{TriangleCode}
use Rattle.net.specs.Corners.{name_of, HasCorner, code_inside, corner, named}
use Rattle.net.specs.Division.{Weights, sum}
use Rattle.net.specs.Means.Walks.{least_name, ring_words}
use Rattle.net.specs.Names.{IsName}
use Rattle.net.specs.Sides.{OneToThree}
use Rattle.net.specs.Steps.{Across, IsRing, non_zeros, ring_size, IsWhole}
use Rattle.net.proofs.CodePlaces.{digits_in, in_length}
use Rattle.net.proofs.Crossing.{across_back, across_differ, across_is, across_just, across_only, code_across}
use Rattle.net.proofs.Crossing.{edge_across}
use Rattle.net.proofs.LeastName.{least_is_name, place_in_lem, place_in}
use Rattle.net.proofs.Loads.{weights_add}
use Rattle.net.proofs.Names.{equal_names, one_name}
use Rattle.net.proofs.RingCodes.{ring_is, ring_one, ring_whole}

-- "across each edge lies exactly one other triangle"
pub one_across : (n : ℕ) (t : TriangleCode) (k : ℕ) → IsCode n t → OneToThree k
    → (t' : TriangleCode) × (k' : ℕ) × Across n t k t' k' × ((u : TriangleCode) (m : ℕ) → Across n t k u m
    → (u ≡ t') × (m ≡ k'))
one_across n t k c l = (code_across k t, edge_across k t, across_is c k l, across_only c k l)

-- "a triangle's three neighbours are distinct"
pub three_distinct : (n : ℕ) (t : TriangleCode) (k m : ℕ) → IsCode n t → OneToThree k → OneToThree m → (k ≡ m → ⊥)
    → (t' t'' : TriangleCode) (k' m' : ℕ) → Across n t k t' k' → Across n t m t'' m' → t' ≡ t'' → ⊥
three_distinct n t k m c l h f t' t'' k' m' = across_differ c l h f

-- "and each shares with it just that edge's two corners": corner i of the triangle is a corner of the neighbour exactly
-- where i is not k
pub just_two_lem : (n : ℕ) (t : TriangleCode) (k : ℕ) → IsCode n t → OneToThree k
    → (t' : TriangleCode) (k' : ℕ) → Across n t k t' k' → (i : ℕ) → OneToThree i → HasCorner t' (corner t i)
    ↔ (i ≡ k → ⊥)
just_two_lem n t k c l t' k' a i h = across_just c k l a i h

-- "stepping back through the edge reported returns the first triangle and edge"
pub back_again : (n : ℕ) (t : TriangleCode) (k : ℕ) → IsCode n t → OneToThree k
    → (t' : TriangleCode) (k' : ℕ) → Across n t k t' k' → (u : TriangleCode) (m : ℕ) → Across n t' k' u m
    → (u ≡ t) × (m ≡ k)
back_again n t k c l t' k' a u m b =
    let x = across_only a.code k' a.edge u m b in
    let y = across_only a.code k' a.edge t k (across_back c l a) in
    (x.0 ∙ sym y.0, x.1 ∙ sym y.1)

-- "two corners of one degree have equal names exactly when their twelve weights are equal": every corner has a name,
-- and one only
pub one_name_each : (n : ℕ) (t : TriangleCode) (i : ℕ) → IsCode n t → OneToThree i
    → (r : CornerName) × IsName n (corner t i) r × ((q : CornerName) → IsName n (corner t i) q → q ≡ r)
one_name_each n t i c l =
    let x = least_is_name n (corner t i) (place_in t i) (place_in_lem c l) (code_degree c) in
    (name_of (least_name 5 (place_in t i)), x, λ q y. one_name y x)

pub names_equal : (n : ℕ) (p p' : Weights) (r r' : CornerName) → IsName n p r → IsName n p' r' → (r ≡ r') ↔ (p ≡ p')
names_equal n p p' r r' = equal_names

-- The weights of a corner's name are the corner's, and the name of those weights is the name: there and back.
pub there_and_back : (n : ℕ) (p : Weights) (r : CornerName) → IsName n p r → (named r ≡ p) × IsName n (named r) r
there_and_back n p r x = (
  x.there,
  record {
    code = x.code;
    number = x.number;
    there = refl;
    least =
        λ t c h. x.least t c (h.0, h.1, h.2 ∙ x.there);
  },
)

-- "So they add to 2^N."
pub add_up_lem : (n : ℕ) (t : TriangleCode) (i : ℕ) → IsCode n t → sum (corner t i) ≡ 2 ^ n
unfolding corner
add_up_lem n t i c = weights_add (side_of t.0) (digits_in t) i (code_side c) ∙ (λ j. 2 ^ in_length c j)

-- The ring of a name: there is one, and there is no other; its triangles are all that have the corner, all different,
-- each next one lies across the edge that the order asks for, and from the last the same step leads to the first
-- (IsWhole).
pub one_ring_lem : (r : CornerName) → IsCode (degree_of r.0) (code_inside r) → OneToThree (corner_number r.0)
    → (ts : List ℕ) × IsRing r ts × IsWhole r ts × ((us : List ℕ) → IsRing r us → us ≡ ts)
one_ring_lem r c l =
    let x = ring_is r c l in (
      ring_words (ring_size (non_zeros (named r))) (place_in (code_inside r) (corner_number r.0)),
      x,
      ring_whole r c l x,
      λ us y. ring_one y x,
    )
