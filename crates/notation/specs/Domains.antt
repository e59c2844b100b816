-- Source document 000, sections 3 and 4: the codes of domains, which are our triangles, and their vertices. A code is
-- the list of its digits, the first first. Assumes nothing.
use Rattle.std.specs.Prelude.{ℕ, zero, suc, Bool, true, false, ◌&&◌, List, [], ◌∷◌, leb}
use Rattle.net.specs.Sides.{after, vertex}
use Rattle.net.specs.Division.{Weights, Triangle, triangle, unit_at, kept, middle}

-- ---- which codes there are

-- "a is a digit from among {1, 2, 3, 4, 5}, while p and q are digits from among {0, 1}"
abbrev pub is_a : ℕ → Bool
is_a a = leb 1 a && leb a 5

abbrev pub is_bit : ℕ → Bool
is_bit p = leb p 1

-- "a (possibly empty) sequence of digits from among {0, 1, 2, 3}"
abbrev pub are_digits : List ℕ → Bool
are_digits [] = true
are_digits (r ∷ rs) = leb r 3 && are_digits rs

-- "Σ is a sequence of digits composed of two sequences Σ0 and Σe: Σ0 is the sequence apq as defined above, while Σe is
-- a (possibly empty) sequence of digits from among {0, 1, 2, 3}"
abbrev pub is_domain : List ℕ → Bool
is_domain [] = false
is_domain (a ∷ []) = false
is_domain (a ∷ p ∷ []) = false
is_domain (a ∷ p ∷ q ∷ rs) = is_a a && (is_bit p && (is_bit q && are_digits rs))

-- ---- their vertices V1, V2, V3, as twelve weights

-- V(ab), "the vertices of the icosahedron"
abbrev pub at : (a b : ℕ) → Weights
at a b = unit_at (vertex a b)

-- (16) V1(a00) = V(00), V2(a00) = V(a0), V3(a00) = V(a+0)
-- (17) V1(a01) = V(a1), V2(a01) = V(a+0), V3(a01) = V(a0)
-- (18) V1(a10) = V(01), V2(a10) = V(a+1), V3(a10) = V(a1)
-- (19) V1(a11) = V(a+0), V2(a11) = V(a1), V3(a11) = V(a+1)
abbrev pub first_domain : (a p q : ℕ) → Triangle
first_domain a zero zero = triangle (at 0 0) (at a 0) (at (after a) 0)
first_domain a zero (suc q) = triangle (at a 1) (at (after a) 0) (at a 0)
first_domain a (suc p) zero = triangle (at 0 1) (at (after a) 1) (at a 1)
first_domain a (suc p) (suc q) = triangle (at (after a) 0) (at a 1) (at (after a) 1)

-- (23) Ci(Σ) = C(Vj(Σ), Vk(Σ)), "for any ordered triple (i,j,k)": (1,2,3), (2,3,1), (3,1,2). C is "the centre", which
-- document 01 counts as the middle.
abbrev pub c1 : Triangle → Weights
c1 d = middle d.a2 d.a3

abbrev pub c2 : Triangle → Weights
c2 d = middle d.a3 d.a1

abbrev pub c3 : Triangle → Weights
c3 d = middle d.a1 d.a2

-- (24) V1(Σ0) = C1(Σ), V2(Σ0) = C2(Σ), V3(Σ0) = C3(Σ)
-- (25) V1(Σ1) = V1(Σ), V2(Σ1) = C3(Σ), V3(Σ1) = C2(Σ)
-- (26) V1(Σ2) = C3(Σ), V2(Σ2) = V2(Σ), V3(Σ2) = C1(Σ)
-- (27) V1(Σ3) = C2(Σ), V2(Σ3) = C1(Σ), V3(Σ3) = V3(Σ)
-- (A vertex that stays has its weights doubled: it is counted at one degree more.)
abbrev pub parted : (r : ℕ) → Triangle → Triangle
parted zero d = triangle (c1 d) (c2 d) (c3 d)
parted (suc zero) d = triangle (kept d.a1) (c3 d) (c2 d)
parted (suc (suc zero)) d = triangle (c3 d) (kept d.a2) (c1 d)
parted (suc (suc (suc r))) d = triangle (c2 d) (c1 d) (kept d.a3)

-- "The new domains constructed by the division of the domain S(Σ) will be denoted by S(Σr)"
unfoldable pub parted_by : (rs : List ℕ) → Triangle → Triangle
parted_by [] d = d
parted_by (r ∷ rs) d = parted_by rs (parted r d)

-- S(Σ); for a list that is no code nothing is meant
abbrev pub domain : List ℕ → Triangle
domain [] = triangle [] [] []
domain (a ∷ []) = triangle [] [] []
domain (a ∷ p ∷ []) = triangle [] [] []
domain (a ∷ p ∷ q ∷ rs) = parted_by rs (first_domain a p q)
