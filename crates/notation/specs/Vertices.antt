-- Source document 000, section 5: the codes of vertices, which are our corners, "built on a base vertex and a
-- direction". Assumes nothing.
use Rattle.std.specs.Prelude.{ℕ, zero, suc, Bool, true, false, ◌&&◌, List, [], ◌∷◌, eqb}
use Rattle.net.specs.Division.{Weights, Triangle, kept}
use Rattle.notation.specs.Domains.{is_a, is_bit, are_digits, at, first_domain, parted}

-- ---- which codes there are

-- "a (possibly empty) sequence of digits 0"
abbrev pub are_zeros : List ℕ → Bool
are_zeros [] = true
are_zeros (s ∷ ss) = eqb s 0 && are_zeros ss

-- "if the vertex is not a polar one, T0 is the sequence ap as defined above, while Te is a (possibly empty) sequence of
-- digits from among {0, 1, 2, 3}; if the vertex is a polar one, T0 is the sequence 0p, while Te is a (possibly empty)
-- sequence of digits 0"
abbrev pub is_vertex : List ℕ → Bool
is_vertex [] = false
is_vertex (a ∷ []) = false
is_vertex (zero ∷ p ∷ ss) = is_bit p && are_zeros ss
is_vertex (suc a ∷ p ∷ ss) = is_a (suc a) && (is_bit p && are_digits ss)

-- ---- the two domains of which V(T) is the base vertex

-- "we can denote them as S(Σ(0)), S(Σ(1))", (34) Σ(0) = σ(0, T), Σ(1) = σ(1, T)
pub record Pair : Type 0 where
  pub zeroth : Triangle
  pub first : Triangle

abbrev pub pair : Triangle → Triangle → Pair
pair x y = record { zeroth = x; first = y }

-- (38) σ(0, a0) = a00, σ(1, a0) = a01        (39) σ(0, a1) = a11, σ(1, a1) = a10
abbrev pub base_pair : (a p : ℕ) → Pair
base_pair a zero = pair (first_domain a 0 0) (first_domain a 0 1)
base_pair a (suc p) = pair (first_domain a 1 1) (first_domain a 1 0)

-- (40) σ(0, T0) = σ(0, T)2, σ(1, T0) = σ(1, T)3        (41) σ(0, T1) = σ(0, T)3, σ(1, T1) = σ(1, T)2
-- (42) σ(0, T2) = σ(1, T)0, σ(1, T2) = σ(1, T)1        (43) σ(0, T3) = σ(0, T)1, σ(1, T3) = σ(0, T)0
abbrev pub next_pair : (s : ℕ) → Pair → Pair
next_pair zero x = pair (parted 2 x.zeroth) (parted 3 x.first)
next_pair (suc zero) x = pair (parted 3 x.zeroth) (parted 2 x.first)
next_pair (suc (suc zero)) x = pair (parted 0 x.first) (parted 1 x.first)
next_pair (suc (suc (suc s))) x = pair (parted 1 x.zeroth) (parted 0 x.zeroth)

unfoldable pub pair_by : (ss : List ℕ) → Pair → Pair
pair_by [] x = x
pair_by (s ∷ ss) x = pair_by ss (next_pair s x)

-- ---- V(T), as twelve weights

-- "if V(T) is the polar vertex of the domain S(Σ), then V(T0) is the polar vertex of the domain S(Σ1)": the same point,
-- at one degree more
unfoldable pub kept_by : (ss : List ℕ) → Weights → Weights
kept_by [] w = w
kept_by (s ∷ ss) w = kept_by ss (kept w)

-- (35) V2(Σ(0)) = .. = V(T); for a list that is no code nothing is meant
abbrev pub point : List ℕ → Weights
point [] = []
point (a ∷ []) = []
point (zero ∷ p ∷ ss) = kept_by ss (at 0 p)
point (suc a ∷ p ∷ ss) = (pair_by ss (base_pair (suc a) p)).zeroth.a2
