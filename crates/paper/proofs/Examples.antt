-- The examples of specs/Examples.antt, by computing: what is read, from the path of its digits; and what is written,
-- from what is read. Assumes nothing.
use mathlib.Core.Path.{◌≡◌, refl}
use mathlib.Core.List.{List, [], ◌∷◌, reverse}
use Prim.Native.Nat.{ℕ, suc, ◌+◌, ◌-◌, ◌*◌, ◌/◌, ◌^◌, ◌≤◌}
use native.Mathlib.Omega.{arith}
use lib.Dec.{eqb-suc-zero, lit≤}
use lib.ListN.{get_or, length, replicate}
use lib.Pow.{pow_pos}
use Rattle.frame.specs.Answers.{over}
use Rattle.frame.specs.Promises.{◌gives◌, ◌leaves◌}
use Rattle.frame.specs.Refusals.{first_of}
use Rattle.frame.proofs.Answering.{keeps_gives, no_other, refusing}
use Rattle.words.specs.Words.{first_digits, path, word_in, word_of}
use Rattle.words.specs.Counting.{code_at, place_of}
use Rattle.words.specs.Family.{code_answer, no_code}
use Rattle.words.specs.Writing.{decimals, written}
use Rattle.words.specs.declared.CornerName.{CornerName}
use Rattle.words.specs.declared.TriangleCode.{TriangleCode}
use Rattle.net.specs.Sides.{corner_vertex}
use Rattle.net.specs.Division.{corner_of, triangle_at, unit_at}
use Rattle.net.specs.Corners.{corner, name_of}
use Rattle.net.specs.Refusals.{lesser_has}
use Rattle.net.specs.Means.Paths.{digits_of}
use Rattle.net.specs.Means.Seams.{seam_kept, seam_side}
use Rattle.net.specs.Means.States.{cross}
use Rattle.net.specs.Means.Walks.{around, least_name, name_at, place_at, step_of, word_at}
use Rattle.corners.specs.Answers.{count_answer, name_answer, no_count, no_name}
use Rattle.corners.specs.Answers.{CountAnswer}
use Rattle.corners.proofs.Calls.{made_named}
use Rattle.notation.specs.Means.Directions.{base_side, parts, side_turn, turned_parts}
use Rattle.notation.specs.Means.Reading.{taken}
use Rattle.notation.specs.declared.Turned.{Turned}
use Rattle.notation.proofs.Vertices.{pole_side}
use Rattle.paper.specs.Answers.{FromDomainAnswer, FromVertexAnswer, ToDomainAnswer, ToVertexAnswer}
use Rattle.paper.specs.Examples.{Bounds, Examples, Mistakes}
use Rattle.paper.specs.Refusals.{refuse_from_domain, refuse_from_vertex, refuse_to_domain, refuse_to_vertex}
use Rattle.paper.proofs.FromPaper.{from_answers}
use Rattle.paper.proofs.Promises.{domain_found, domain_told, one_answer, vertex_found, vertex_told}
use Rattle.paper.proofs.VertexNames.{a_pole, a_ring, low, small}

-- ---- what is read

domain_gives : {xs : List ℕ} {t : TriangleCode} → FromDomainAnswer xs (code_answer 0 t)
    → FromDomainAnswer xs gives code_answer 0 t
domain_gives {xs} = keeps_gives (one_answer.from_domain xs)

-- a vertex that is not polar, by the path v of its directions
module _ (a p n v : ℕ) where
  abbrev base : Turned
  base = turned_parts 0 (digits_of n v)

  ring_gives : {r : CornerName} → (1 ≤ a) × (a ≤ 5) × (p ≤ 1) × (n ≤ 24)
      → r ≡ name_of (least_name 5 (place_at (word_of (base_side a p base.orientation) n base.path + 2)))
      → FromVertexAnswer (a ∷ p ∷ reverse (digits_of n v)) gives name_answer 0 r
  ring_gives h e =
      keeps_gives (one_answer.from_vertex _) (a_ring a p n v refl h.0 h.1 h.2 h.3 (record {
        number = refl;
        is = made_named (base_side a p base.orientation) n base.path 2 (omega (arith, h, low a p n v refl)) h.3
            (small a p n v refl) (omega arith) refl e;
      }))

-- and a polar one
pole_gives : (p n : ℕ) {r : CornerName} → (p ≤ 1) × (n ≤ 24)
    → r ≡ name_of (least_name 5 (place_at (word_of (pole_side p) n ((2 ^ (2 * n) - 1) / 3) + 1)))
    → FromVertexAnswer (0 ∷ p ∷ reverse (digits_of n 0)) gives name_answer 0 r
pole_gives p n h e =
    keeps_gives (one_answer.from_vertex _) (a_pole p n 0 h.0 h.1 refl refl (record {
      number = refl;
      is = made_named (pole_side p) n ((2 ^ (2 * n) - 1) / 3) 1 (omega (arith, h)) h.1
          (omega (arith, pow_pos (2 * n))) (omega arith) refl e;
    }))

-- ---- what is written: the list that is read as the word

domain_back : {xs : List ℕ} {t : TriangleCode} → FromDomainAnswer xs gives code_answer 0 t
    → (out : List ℕ) → 27 ≤ length out → ToDomainAnswer t out leaves (count_answer 0 (length xs), over xs out)
domain_back g out l = domain_told out (domain_found g.meets refl) l

vertex_back : {xs : List ℕ} {q : CornerName} → FromVertexAnswer xs gives name_answer 0 q
    → (out : List ℕ) → 26 ≤ length out → ToVertexAnswer q out leaves (count_answer 0 (length xs), over xs out)
vertex_back g out l = vertex_told out (vertex_found g.meets refl) l

-- ---- refusals

domain_refused : (xs : List ℕ) (k : ℕ) → suc k ≡ refuse_from_domain xs → FromDomainAnswer xs gives no_code (suc k)
domain_refused xs k e = keeps_gives (one_answer.from_domain xs) (refusing e (λ z. omega arith))

vertex_refused : (xs : List ℕ) (k : ℕ) → suc k ≡ refuse_from_vertex xs → FromVertexAnswer xs gives no_name (suc k)
vertex_refused xs k e = keeps_gives (one_answer.from_vertex xs) (refusing e (λ z. omega arith))

to_domain_refused : (t : TriangleCode) (out : List ℕ) (k : ℕ) → suc k ≡ refuse_to_domain t out
    → ToDomainAnswer t out leaves (no_count (suc k), out)
to_domain_refused t out k e = keeps_gives (one_answer.to_domain t out) (refusing e (λ z. omega arith))

to_vertex_refused : (q : CornerName) (out : List ℕ) (k : ℕ) → suc k ≡ refuse_to_vertex q out
    → ToVertexAnswer q out leaves (no_count (suc k), out)
to_vertex_refused q out k e = keeps_gives (one_answer.to_vertex q out) (refusing e (λ z. omega arith))

-- ---- the examples that others follow from

side : FromDomainAnswer (5 ∷ 1 ∷ 1 ∷ []) gives code_answer 0 (written 511)
unfolding taken decimals written path
side = domain_gives (from_answers _ (lit≤ tt) (lit≤ tt) refl refl refl)

domain : FromDomainAnswer (5 ∷ 1 ∷ 1 ∷ 3 ∷ 2 ∷ 1 ∷ 0 ∷ []) gives code_answer 0 (written 5113210)
unfolding taken decimals written path
domain = domain_gives (from_answers _ (lit≤ tt) (lit≤ tt) refl refl refl)

ring : FromVertexAnswer (1 ∷ 0 ∷ []) gives name_answer 0 (name_of 0x2000000000000002)
unfolding digits_of parts side_turn path word_in first_digits step_of cross seam_side seam_kept around word_at name_at least_name
ring = ring_gives 1 0 0 0 (omega arith) refl

pole : FromVertexAnswer (0 ∷ 0 ∷ []) gives name_answer 0 (name_of 0x2000000000000001)
unfolding digits_of path word_in first_digits step_of cross seam_side seam_kept around word_at name_at least_name
pole = pole_gives 0 0 (omega arith) refl

pole_01 : FromVertexAnswer (0 ∷ 1 ∷ 0 ∷ 0 ∷ []) gives name_answer 0 (name_of 0x3094000000000001)
unfolding digits_of path word_in first_digits step_of cross seam_side seam_kept around word_at name_at least_name
pole_01 = pole_gives 1 2 (omega arith) refl

vertex : FromVertexAnswer (2 ∷ 1 ∷ 3 ∷ 2 ∷ 0 ∷ []) gives name_answer 0 (name_of 0x58C2000000000002)
unfolding digits_of parts side_turn path word_in first_digits step_of cross around word_at name_at least_name
vertex = ring_gives 2 1 3 56 (omega arith) refl

-- a domain of orientation 1
turned : FromDomainAnswer (1 ∷ 0 ∷ 1 ∷ 3 ∷ 2 ∷ []) gives code_answer 0 (written 10132)
unfolding taken decimals written path
turned = domain_gives (from_answers _ (lit≤ tt) (lit≤ tt) refl refl refl)

-- degree 24
deepest : FromDomainAnswer (5 ∷ 1 ∷ 1 ∷ replicate 24 3) gives code_answer 0 (written 511333333333333333333333333)
unfolding taken decimals written path word_in
deepest = domain_gives (from_answers _ (lit≤ tt) (lit≤ tt) refl refl refl)

vertex_deepest : FromVertexAnswer (4 ∷ 0 ∷ replicate 24 3) gives name_answer 0 (name_of 0x6615555555555502)
unfolding digits_of parts side_turn path word_in first_digits step_of cross seam_side seam_kept around word_at name_at least_name
vertex_deepest = ring_gives 4 0 24 0xFFFFFFFFFFFF (omega arith) refl

pub examples : Examples
unfolding first_of refuse_from_domain refuse_from_vertex refuse_to_domain refuse_to_vertex lesser_has place_of code_at corner
    corner_of triangle_at unit_at corner_vertex decimals written digits_of parts side_turn path word_in first_digits step_of
    cross seam_side seam_kept around word_at name_at least_name
examples = record {
  side = side;
  domain = domain;
  to_domain = domain_back domain (replicate 28 9) (lit≤ tt);
  ring = ring;
  pole = pole;
  pole_01 = pole_01;
  to_pole = vertex_back pole_01 (replicate 26 9) (lit≤ tt);
  v101 = ring_gives 1 0 1 1 (omega arith) refl;
  v102 = ring_gives 1 0 1 2 (omega arith) refl;
  v103 = ring_gives 1 0 1 3 (omega arith) refl;
  v111 = ring_gives 1 1 1 1 (omega arith) refl;
  v112 = ring_gives 1 1 1 2 (omega arith) refl;
  v113 = ring_gives 1 1 1 3 (omega arith) refl;
  vertex = vertex;
  to_vertex = vertex_back vertex (replicate 27 9) (lit≤ tt);
  too_deep = domain_refused _ 0 refl;
  vertex_too_deep = vertex_refused _ 0 refl;
  none = domain_refused _ 32 refl;
  too_few = domain_refused _ 32 refl;
  a_0 = domain_refused _ 32 refl;
  a_6 = domain_refused _ 32 refl;
  p_2 = domain_refused _ 32 refl;
  q_2 = domain_refused _ 32 refl;
  digit_4 = domain_refused _ 32 refl;
  vertex_too_few = vertex_refused _ 32 refl;
  vertex_a_6 = vertex_refused _ 32 refl;
  vertex_p_2 = vertex_refused _ 32 refl;
  vertex_digit_4 = vertex_refused _ 32 refl;
  polar_1 = vertex_refused _ 32 refl;
  degree_25 = to_domain_refused _ [] 0 refl;
  name_for_code = to_domain_refused _ [] 3 refl;
  short = to_domain_refused _ (replicate 26 9) 8 refl;
  not_canonical = to_vertex_refused _ [] 9 refl;
  vertex_short = to_vertex_refused _ (replicate 25 9) 8 refl;
}

pub bounds : Bounds
unfolding first_of refuse_from_domain refuse_from_vertex taken decimals written digits_of parts side_turn path word_in
    first_digits step_of cross seam_side seam_kept around word_at name_at least_name
bounds = record {
  deepest = deepest;
  one_deeper = domain_refused _ 0 refl;
  vertex_deepest = vertex_deepest;
  vertex_one_deeper = vertex_refused _ 0 refl;
  long_enough = domain_back side (replicate 27 9) (lit≤ tt);
  all_places = domain_back deepest (replicate 27 9) (lit≤ tt);
  vertex_all_places = vertex_back vertex_deepest (replicate 26 9) (lit≤ tt);
  vertex_long_enough = vertex_back ring (replicate 26 9) (lit≤ tt);
}

-- the count that is count_of, and place i of the list as it is left
abbrev count_of : CountAnswer × List ℕ → ℕ
count_of x = x.0.count

abbrev left_at : ℕ → CountAnswer × List ℕ → ℕ
left_at i x = get_or x.1 i 0

pub mistakes : Mistakes
unfolding decimals written path word_in
mistakes = record {
  reversed = no_other (λ r. r.code.0) domain refl;
  to_reversed = no_other (left_at 3) (domain_back domain (replicate 27 9) (lit≤ tt)) refl;
  e_index = no_other (λ r. r.code.0) turned refl;
  other_domain = no_other (λ r. r.name.0) ring refl;
  direction_2 = no_other (λ r. r.name.0) examples.v102 refl;
  direction_3 = no_other (λ r. r.name.0) examples.v103 refl;
  pole_as_1 = no_other (left_at 0) (vertex_back pole (replicate 26 9) (lit≤ tt)) refl;
  zeros_dropped = no_other count_of (vertex_back vertex (replicate 26 9) (lit≤ tt)) refl;
  not_written = no_other (left_at 4) (vertex_back vertex (replicate 26 9) (lit≤ tt)) refl;
  not_counted = no_other count_of (vertex_back vertex (replicate 26 9) (lit≤ tt)) refl;
  cleared = no_other (left_at 3) bounds.long_enough refl;
  before_1 = no_other (λ r. r.refusal) examples.too_deep refl;
  refuses = λ k. no_other (λ r. r.refusal) side (eqb-suc-zero k);
  answers = no_other (λ r. r.refusal) examples.polar_1 refl;
  not_least = no_other (λ r. r.name.0) examples.v111 refl;
}
