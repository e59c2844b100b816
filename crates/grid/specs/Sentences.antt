-- What document 01 says besides the demands, and no definition says of itself: a record for each of its sections, with
-- its sentences in its order, each field under the sentence that it keeps. The theorem of all of them is `sentences` in
-- proofs/Sentences.antt. Assumes nothing.
use Rattle.std.specs.Prelude.{◌≡◌, ◌⊎◌, ◌↔◌, true, List, ℕ, suc, ◌-◌, ◌*◌, ◌^◌, ◌≤◌, ◌<◌, ℤ, pos, nat_abs, length, get_or, take}
use Rattle.std.specs.Float.{binary64}
use Rattle.std.specs.Float.Ieee.{div, of_int}
use Rattle.frame.specs.Promises.{One}
use Rattle.golden.specs.Numbers.{golden, whole, ◌+φ◌, ◌*φ◌}
use Rattle.golden.specs.Order.{Positive}
use Rattle.golden.specs.declared.Golden.{Golden}
use Rattle.words.specs.Words.{degree_of, digit_of, digits, beyond, side_of, path, word_of}
use Rattle.words.specs.Refusals.{IsCode, check_name_fields}
use Rattle.words.specs.Family.{code_of}
use Rattle.words.specs.Counting.{code_at, place_of}
use Rattle.words.specs.declared.TriangleCode.{TriangleCode}
use Rattle.words.specs.declared.CornerName.{CornerName}
use Rattle.net.specs.Sides.{OneToThree, IsSide, corner_vertex, next, prev}
use Rattle.net.specs.Division.{Weights, kept, middle, sum}
use Rattle.net.specs.Corners.{corner, HasCorner, named}
use Rattle.net.specs.Names.{IsName}
use Rattle.net.specs.Refusals.{check_name, on_one_side}
use Rattle.net.specs.Steps.{Across, IsRing, IsWhole, SameTwo}
use Rattle.filing.specs.Coordinates.{direction, ◌+ᵛ◌, times, exact}
use Rattle.filing.specs.Holding.{along, determinant, Holds}
use Rattle.filing.specs.Multiples.{IsSum}
use Rattle.filing.specs.Fractions.{IsFraction}
use Rattle.filing.specs.declared.Direction.{Direction}
use Rattle.filing.specs.declared.Ticks.{Ticks}
use Rattle.corners.specs.Refusals.{refuse_back}
use Rattle.corners.specs.Answers.{CountAnswer}
use Rattle.points.specs.Answers.{TickAnswer, NameTickAnswer, DrawAnswer, NameDrawAnswer}
use Rattle.points.specs.Bits.{HasBits, bits_of}
use Rattle.points.specs.Answers.{TicksAnswer}
use Rattle.points.specs.Answers.{PointAnswer}
use Rattle.directions.specs.Answers.{ListAnswer}
use Rattle.grid.specs.Counts.{Counts, Edge, IsEdge, SameEnds, IsCorner, edge}

-- ---- What the grid is

pub record WhatTheGridIs : Type 0 where
  -- "Lists of triangles hold plain unsigned 64-bit words."
  pub plain_words : (n : ℕ) (t : TriangleCode) → IsCode n t → t.0 < 2 ^ 64

-- ---- Vertices and sides

-- edge k of the side s and edge m of the side s' have the same two vertices
abbrev pub SameVertices : (s k s' m : ℕ) → Type 0
SameVertices s k s' m =
    SameTwo (corner_vertex s (next k)) (corner_vertex s (prev k)) (corner_vertex s' (next m)) (corner_vertex s' (prev m))

pub record VerticesAndSides : Type 0 where
  -- "φ is the positive root of φ² = φ + 1."
  pub phi : let φ = golden (pos 0) (pos 1) in (φ *φ φ ≡ φ +φ whole (pos 1)) × Positive φ
  -- "Its corners 1, 2, 3, anticlockwise seen from outside": so it is with every triangle of every degree; the
  -- determinant of the three exact coordinates, in this order, is above 0
  pub anticlockwise : (n : ℕ) (t : TriangleCode) → IsCode n t
      → Positive (determinant (exact (corner t 1)) (exact (corner t 2)) (exact (corner t 3)))
  -- "Edge k lies opposite corner k.": between the two others, which differ
  pub ends_differ : (n : ℕ) (t : TriangleCode) (k : ℕ) → IsCode n t → OneToThree k
      → corner t (next k) ≡ corner t (prev k) → ⊥
  -- "Adjacency between sides is whatever follows from shared vertices": one side lies across an edge of another exactly
  -- where they share its two vertices
  pub adjacency : (t u : TriangleCode) (k m : ℕ) → IsCode 0 t → IsCode 0 u → OneToThree k → OneToThree m
      → Across 0 t k u m ↔ ((u ≡ t → ⊥) × SameVertices (side_of t.0) k (side_of u.0) m)

-- ---- Division and weights

pub record DivisionAndWeights : Type 0 where
  -- "A corner of degree N has twelve whole weights, one for each vertex"
  pub twelve : (n : ℕ) (t : TriangleCode) (i : ℕ) → IsCode n t → length (corner t i) ≡ 12
  -- "a kept corner's weights are doubled and a middle's weights are the sum of its two ends'.": and so are the exact
  -- coordinates
  pub kept_in_space : (p : Weights) → exact (kept p) ≡ times (whole (pos 2)) (exact p)
  pub middle_in_space : (n : ℕ) (t : TriangleCode) (i j : ℕ) → IsCode n t
      → exact (middle (corner t i) (corner t j)) ≡ exact (corner t i) +ᵛ exact (corner t j)
  -- "So they add to 2^N."
  pub add_up : (n : ℕ) (t : TriangleCode) (i : ℕ) → IsCode n t → sum (corner t i) ≡ 2 ^ n
  -- "There are 20·4^N triangles, 30·4^N edges and 10·4^N + 2 corners."
  pub counts : (n : ℕ) → n ≤ 24 → Counts n
  -- different codes are different triangles: where t' has all three corners of t, it is t
  pub codes_differ : (n : ℕ) (t t' : TriangleCode) → IsCode n t → IsCode n t'
      → ((i : ℕ) → OneToThree i → HasCorner t' (corner t i)) → t ≡ t'
  -- different edges have different ends; each edge of each triangle has the ends of one that is counted
  pub edges_differ : (n : ℕ) (e f : Edge) → IsEdge n e → IsEdge n f → SameEnds e f → e ≡ f
  pub edge_counted : (n : ℕ) (t : TriangleCode) (k : ℕ) → IsCode n t → OneToThree k
      → (e : Edge) × IsEdge n e × SameEnds (edge t k) e
  -- `code_at` tells the codes of a degree in rising order, and `place_of` the place of each
  pub codes_at : (n i : ℕ) → n ≤ 24 → i < 20 * 4 ^ n → IsCode n (code_at n i) × (place_of (code_at n i) ≡ i)
  pub codes_rise : (n i j : ℕ) → n ≤ 24 → i < j → j < 20 * 4 ^ n → (code_at n i).0 < (code_at n j).0
  pub places : (n : ℕ) (t : TriangleCode) → IsCode n t
      → (place_of t < 20 * 4 ^ n) × (code_at n (place_of t) ≡ t)

-- ---- The 64-bit words

-- n digits from 0 to 3
pub record ManyDigits (n : ℕ) (ds : List ℕ) : Type 0 where
  pub many : length ds ≡ n
  pub each : (m : ℕ) → m < n → get_or ds m 0 ≤ 3

pub record The64BitWords : Type 0 where
  -- "Fields, most significant first": a code is the word of its side, degree and digits, and each such word is a code
  -- and has them
  pub word_of_fields : (n : ℕ) (t : TriangleCode) → IsCode n t
      → t.0 ≡ word_of (side_of t.0) n (path (digits t.0 n))
  pub fields_of_word : (s n : ℕ) (ds : List ℕ) → IsSide s → n ≤ 24 → ManyDigits n ds
      → let w = word_of s n (path ds) in IsCode n (code_of w) × (side_of w ≡ s) × (digits w n ≡ ds)

-- ---- Refusal numbers

pub record RefusalNumbers : Type 0 where
  -- "3: a digit beyond the degree is not 0": `beyond` is 0 exactly where each of them is
  pub digits_beyond : (w n : ℕ) → n ≤ 24
      → (beyond w n ≡ 0) ↔ ((i : ℕ) → n < i → i ≤ 24 → digit_of w i ≡ 0)
  -- "10: a word passes 1 to 4 as a corner name and is not the canonical one"; where it is, the word passes
  pub not_canonical : (q : CornerName)
      → (check_name q ≡ 10) ↔ ((check_name_fields q ≡ 0) × (IsName (degree_of q.0) (named q) q → ⊥))
  pub canonical : (q : CornerName)
      → (check_name q ≡ 0) ↔ ((check_name_fields q ≡ 0) × IsName (degree_of q.0) (named q) q)
  -- "11: no corner of the degree has the twelve weights", where neither 1 nor 9 is given
  pub no_corner : (n : ℕ) (weights : List ℕ)
      → (refuse_back n weights ≡ 11)
      ↔ ((n ≤ 24) × (12 ≤ length weights) × (IsCorner n (take 12 weights) → ⊥))
  -- "exactly when the weights do not add to 2^N or the vertices with non-zero weights are not all corners of one side."
  pub which_weights : (n : ℕ) (p : Weights) → n ≤ 24 → length p ≡ 12
      → IsCorner n p ↔ ((sum p ≡ 2 ^ n) × (on_one_side p ≡ true))

-- ---- Steps and rings

-- Seen from outside, t lies anticlockwise round its corner p, from a to b: these are its corners i, next i and prev i,
-- and the determinant of the exact coordinates of p, a, b, in this order, is above 0.
pub record Spans (p : Weights) (t : TriangleCode) (a b : Weights) : Type 0 where
  pub i : ℕ
  pub number : OneToThree i
  pub has : corner t i ≡ p
  pub begins : corner t (next i) ≡ a
  pub ends : corner t (prev i) ≡ b
  pub anticlockwise : Positive (determinant (exact p) (exact a) (exact b))

-- One step round p: t lies from a to b, and t' from b on to c.
pub record Onward (p : Weights) (t t' : TriangleCode) : Type 0 where
  pub a : Weights
  pub b : Weights
  pub c : Weights
  pub here : Spans p t a b
  pub there : Spans p t' b c

-- the triangle at place m of a list
abbrev pub code_in : List ℕ → ℕ → TriangleCode
code_in ts m = code_of (get_or ts m 0)

-- The ring ts of the corner that q names turns anticlockwise in space: from each triangle to the next, and from the
-- last to the first.
pub record TurnsInSpace (q : CornerName) (ts : List ℕ) : Type 0 where
  pub onward : (m : ℕ) → suc m < length ts → Onward (named q) (code_in ts m) (code_in ts (suc m))
  pub around : Onward (named q) (code_in ts (length ts - 1)) (code_in ts 0)

pub record StepsAndRings : Type 0 where
  -- "The ring answers a count and its triangles, 5 .., else 6, .. beginning with the triangle inside the corner's own
  -- name": there is one and no other, and it is whole
  pub one_ring : (q : CornerName) → check_name q ≡ 0 → One (IsRing q)
  pub whole_ring : (q : CornerName) (ts : List ℕ) → check_name q ≡ 0 → IsRing q ts → IsWhole q ts
  -- "anticlockwise seen from outside"
  pub ring_in_space : (q : CornerName) (ts : List ℕ) → check_name q ≡ 0 → IsRing q ts → TurnsInSpace q ts

-- ---- Filing a direction

pub record FilingADirection : Type 0 where
  -- "A closed triangle holds it when it is a sum of the three corner directions with multipliers that are zero or
  -- more."
  pub multipliers : (n : ℕ) (t : TriangleCode) (d : Direction) → IsCode n t → Holds t d ↔ IsSum t d
  -- "codes of one degree being compared as 64-bit words": by their sides, and then by their digits, the first first
  pub compared : (n : ℕ) (t u : TriangleCode) → IsCode n t → IsCode n u
      → (t.0 < u.0)
      ↔ ((side_of t.0 < side_of u.0)
      ⊎ ((side_of t.0 ≡ side_of u.0) × (path (digits t.0 n) < path (digits u.0 n))))
  -- "No whole-number direction other than zero passes through a vertex of the icosahedron": one that is k/m times a
  -- vertex's is zero
  pub no_vertex : (d : Direction) (v : ℕ) → v < 12 → (m k : Golden) → (m ≡ whole (pos 0) → ⊥)
      → times m (along d) ≡ times k (direction v)
      → (d.x ≡ pos 0) × (d.y ≡ pos 0) × (d.z ≡ pos 0)
  -- "so there are 1, 2 or 6 holders and never 5; at degree 0 there are 1 or 2."
  pub how_many : (n : ℕ) (d : Direction) (out new : List ℕ) (r : CountAnswer) → ListAnswer n d out r new
      → r.refusal ≡ 0 → (r.count ≡ 1) ⊎ ((r.count ≡ 2) ⊎ (r.count ≡ 6))
  pub how_many_sides : (d : Direction) (out new : List ℕ) (r : CountAnswer) → ListAnswer 0 d out r new
      → r.refusal ≡ 0 → (r.count ≡ 1) ⊎ (r.count ≡ 2)

-- ---- Coordinates for drawing

-- |t| is below b on each axis
abbrev pub AllBelow : ℕ → Ticks → Type 0
AllBelow b t = (nat_abs t.x < b) × (nat_abs t.y < b) × (nat_abs t.z < b)

pub record CoordinatesForDrawing : Type 0 where
  -- "The drawn coordinate is the f64 equal to t divided by 65,536·2^N.": its bits, answered or refused
  pub drawn_bits : (t : TriangleCode) (i : ℕ) (r : PointAnswer) (s : TicksAnswer)
      → DrawAnswer t i r → TickAnswer t i s → HasBits (degree_of t.0) s.at r.at
  pub name_drawn_bits : (q : CornerName) (r : PointAnswer) (s : TicksAnswer)
      → NameDrawAnswer q r → NameTickAnswer q s → HasBits (degree_of q.0) s.at r.at
  -- "Since |t| stays below 2^53 ..", answered or refused
  pub t_below : (t : TriangleCode) (i : ℕ) (r : TicksAnswer) → TickAnswer t i r → AllBelow (2 ^ 53) r.at
  pub name_t_below : (q : CornerName) (r : TicksAnswer) → NameTickAnswer q r → AllBelow (2 ^ 53) r.at
  -- ".. and the divisor is a power of two, both steps are exact.": t becomes an f64, and is divided by the divisor's
  pub steps_exact : (t : ℤ) (n : ℕ) → nat_abs t < 2 ^ 53 → n ≤ 24
      → IsFraction (of_int binary64 t) t 1
      × IsFraction (div binary64 (of_int binary64 t) (of_int binary64 (pos (65536 * 2 ^ n)))) t (65536 * 2 ^ n)
  -- "A zero, also in a refusal, is the positive zero.": whose bits are all 0
  pub plus_zero : (n : ℕ) → bits_of n (pos 0) ≡ 0

-- ---- all of them

pub record Sentences : Type 0 where
  pub grid : WhatTheGridIs
  pub sides : VerticesAndSides
  pub weights : DivisionAndWeights
  pub words : The64BitWords
  pub refusals : RefusalNumbers
  pub rings : StepsAndRings
  pub filing : FilingADirection
  pub drawing : CoordinatesForDrawing
