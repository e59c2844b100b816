-- The mistakes of document 01 (specs/Mistakes.antt) are refused: by the examples, beside which there is no other
-- answer, and by what the promises say. Assumes nothing.
use mathlib.Core.Path.{◌≡◌, ◌∙◌, refl, sym, ap, subst}
use mathlib.Core.List.{List, [], ◌∷◌}
use mathlib.Core.Logic.{◌⊎◌, inl, inr, ⊎_elim}
use Prim.Native.Nat.{ℕ, zero, suc, ◌+◌, ◌*◌, ◌≤◌, ◌<◌}
use native.Mathlib.Omega.{arith}
use lib.Pow.{pow_pos}
use lib.Dec.{lit≤}
use lib.IntN.{pos, nat_abs}
use lib.ListN.{get_or}
use borrow.Author.Tests.{le-ltb}
use Rattle.frame.specs.Refusals.{first_of}
use Rattle.frame.specs.Promises.{◌gives◌}
use Rattle.frame.proofs.Answering.{no_other}
use Rattle.golden.specs.Numbers.{golden, whole, ◌+φ◌, negφ, ◌*φ◌}
use Rattle.golden.proofs.GoldenOrder.{is_nonneg, not_nonneg}
use Rattle.golden.proofs.IntegerOrder.{pp}
use Rattle.words.specs.Words.{large, first_digits, path, word_of, word_in, side_of, degree_of}
use Rattle.words.specs.Refusals.{check_code, IsCode}
use Rattle.words.specs.Family.{code_of, code_answer}
use Rattle.words.specs.declared.TriangleCode.{TriangleCode}
use Rattle.words.specs.declared.CornerName.{CornerName}
use Rattle.words.specs.Family.{CodeAnswer}
use Rattle.words.proofs.Codes.{path_code}
use Rattle.words.proofs.WordLayout.{side_is}
use Rattle.words.proofs.Digits.{large_roomy}
use Rattle.net.specs.Sides.{corner_vertex}
use Rattle.net.specs.Division.{unit_at, triangle_at, corner_of, sum}
use Rattle.net.specs.Corners.{corner}
use Rattle.net.specs.Means.Seams.{seam_side, seam_kept}
use Rattle.net.specs.Means.States.{cross}
use Rattle.net.specs.Means.Walks.{step_of}
use Rattle.net.proofs.Crossing.{corner_one}
use Rattle.filing.specs.Coordinates.{exact}
use Rattle.filing.specs.Filing.{AreHolders}
use Rattle.filing.specs.Holding.{determinant, replaced, determinants, Holds, dets}
use Rattle.filing.specs.Means.Descent.{non_neg, holds, first, least_child, descent, holders}
use Rattle.filing.specs.Means.Sides.{side_dets, least_from}
use Rattle.filing.specs.Means.Lists.{joined, side_words, all_words}
use Rattle.filing.specs.declared.Direction.{Direction}
use Rattle.filing.proofs.AllHolders.{all_holders}
use Rattle.filing.proofs.Tests.{test_holds}
use Rattle.filing.proofs.LeastCode.{filed_once}
use Rattle.filing.proofs.LeastSide.{found_code, descent_low}
use Rattle.corners.specs.Refusals.{refuse_numbered, refuse_weights, refuse_back}
use Rattle.corners.specs.Answers.{NamingAnswer, name_answer}
use Rattle.corners.specs.Answers.{CountAnswer}
use Rattle.corners.specs.Answers.{NameAnswer}
use Rattle.corners.proofs.Refused.{numbered_passes, weights_then}
use Rattle.directions.specs.Refusals.{refuse_file}
use Rattle.directions.specs.Answers.{FileAnswer}
use Rattle.directions.proofs.Refused.{refuse_by}
use Rattle.words.specs.Writing.{decimals, written, zero_digits}
use Rattle.grid.specs.Writing.{minus, towards, up}
use Rattle.grid.specs.Mistakes.{Mistakes, close, holder, across_edge, StrictlyInside}
use Rattle.grid.proofs.Showing.{files, crosses}
use Rattle.grid.proofs.Examples.{examples, points, rings}

-- ---- close to an edge

close_filed : FileAnswer 24 close gives code_answer 0 holder
unfolding first_of refuse_file decimals written path word_in triangle_at unit_at corner_vertex least_from first holds non_neg
    side_dets determinants replaced determinant exact ◌+φ◌ negφ ◌*φ◌ descent least_child
close_filed = files 24 close holder refl refl

close_outside : Holds across_edge close → ⊥
unfolding decimals written path word_in first_digits corner corner_of triangle_at unit_at corner_vertex determinants replaced
    determinant exact ◌+φ◌ negφ ◌*φ◌
close_outside h = not_nonneg (dets across_edge close).d1 tt h.n1

-- ---- strictly inside

-- the triangles of degree 2 that hold (0, 0, 1)
abbrev six : List ℕ
six = (written 10003).0 ∷ (written 10012).0 ∷ (written 10021).0
    ∷ (written 50002).0 ∷ (written 50013).0 ∷ (written 50031).0 ∷ []

all_six : all_words up 2 4 ≡ six
unfolding decimals written path word_in triangle_at unit_at corner_vertex holds non_neg side_dets determinants replaced
    determinant exact ◌+φ◌ negφ ◌*φ◌ all_words side_words joined holders
all_six = refl

-- one of the first two determinants is 0
abbrev OnEdge : ℕ → Type 0
OnEdge w = ((dets (code_of w) up).d1 ≡ whole (pos 0)) ⊎ ((dets (code_of w) up).d2 ≡ whole (pos 0))

each_on_edge : (m : ℕ) → m < 6 → OnEdge (get_or six m 0)
unfolding decimals written path word_in first_digits corner corner_of triangle_at unit_at corner_vertex determinants replaced
    determinant exact ◌+φ◌ negφ ◌*φ◌
each_on_edge zero l = inl refl
each_on_edge (suc zero) l = inl refl
each_on_edge (suc (suc zero)) l = inr refl
each_on_edge (suc (suc (suc zero))) l = inl refl
each_on_edge (suc (suc (suc (suc zero)))) l = inl refl
each_on_edge (suc (suc (suc (suc (suc zero))))) l = inr refl
each_on_edge (suc (suc (suc (suc (suc (suc m)))))) l = absurd (omega arith)

in_none : (t : TriangleCode) → IsCode 2 t → StrictlyInside t up → ⊥
in_none t c h =
    let x = (subst (AreHolders 2 up) all_six (all_holders 2 up (lit≤ tt))).complete t c
    (record { n1 = h.0.0; n2 = h.1.0; n3 = h.2.0 }) in
    ⊎_elim h.0.1 h.1.1 (subst OnEdge x.2 (each_on_edge x.0 x.1))

-- ---- one fixed code, one fixed name

-- what is filed lies in the least side that holds
filed_side : (n : ℕ) (d : Direction) (t : TriangleCode) → n ≤ 24 → refuse_file n d ≡ 0
    → FileAnswer n d (code_answer 0 t) → side_of t.0 ≡ least_from d 4
filed_side n d t l z a =
    let v = descent n (side_dets d (least_from d 4)) 0 in
    let e : t ≡ code_of (word_of (least_from d 4) n v) = filed_once (a.answered z).is (found_code n d l) in
    let k : 0 + n ≡ n = omega arith in
    ap (λ (t : TriangleCode). side_of t.0) e
    ∙ side_is large large_roomy (least_from d 4) n v l
    (rw k at (descent_low n (side_dets d (least_from d 4)) 0 0 (omega arith)))

-- (1, 1, 1) and (-1, -1, -1) lie in different sides
abbrev there : Direction
there = towards (pos 1) (pos 1) (pos 1)

abbrev opposite : Direction
opposite = towards (minus 1) (minus 1) (minus 1)

two_sides : (least_from there 4 ≡ 8) × (least_from opposite 4 ≡ 18)
unfolding triangle_at unit_at corner_vertex least_from first holds non_neg side_dets determinants replaced determinant exact
    ◌+φ◌ negφ ◌*φ◌
two_sides = (refl, refl)

fixed_code : (n : ℕ) (t : TriangleCode) → n ≤ 24
    → ((d : Direction) → refuse_file n d ≡ 0 → FileAnswer n d (code_answer 0 t)) → ⊥
fixed_code n t l f =
    let z : refuse_file n there ≡ 0 = sym (refuse_by n there (le-ltb 24 n l) refl refl) in
    let z' : refuse_file n opposite ≡ 0 = sym (refuse_by n opposite (le-ltb 24 n l) refl refl) in
    omega (
      arith,
      filed_side n there t l z (f there z),
      filed_side n opposite t l z' (f opposite z'),
      two_sides.0,
      two_sides.1,
    )

-- corners 1 and 2 of a triangle have different names
fixed_name : (n : ℕ) (q : CornerName) → n ≤ 24
    → ((t : TriangleCode) (i : ℕ) → refuse_numbered t i ≡ 0 → degree_of t.0 ≡ n
    → NamingAnswer t i (name_answer 0 q)) → ⊥
fixed_name n q l f =
    let t = code_of (zero_digits n) in
    let c : IsCode n t = path_code 4 n (lit≤ tt) (lit≤ tt) l 0 (pow_pos (2 * n)) in
    let z : refuse_numbered t 1 ≡ 0 = (numbered_passes t 1).1 (c.passes, (lit≤ tt, lit≤ tt)) in
    let z' : refuse_numbered t 2 ≡ 0 = (numbered_passes t 2).1 (c.passes, (lit≤ tt, lit≤ tt)) in
    let x = ((f t 1 z c.degree_is).answered z).is in
    let y = ((f t 2 z' c.degree_is).answered z').is in
    let e : ◌≡◌ {A = ℕ} 1 2 =
    corner_one c (lit≤ tt, lit≤ tt) (lit≤ tt, lit≤ tt) (sym x.there ∙ y.there) in
    omega arith

-- ---- all of them

pub mistakes : Mistakes
unfolding first_of refuse_numbered refuse_back check_code decimals written path word_in first_digits corner corner_of
    triangle_at
    unit_at corner_vertex sum step_of cross seam_side seam_kept least_from first holds non_neg side_dets determinants replaced
    determinant exact ◌+φ◌ negφ ◌*φ◌ descent least_child refuse_file
mistakes = record {
  edge_kept = λ i j. no_other (λ r. r.edge) examples.e8 refl;
  corners_kept = no_other (λ r. r.second) examples.e8 refl;
  corners_exchanged = no_other (λ r. r.first) examples.e8 refl;
  corners_sorted = no_other (λ r. r.first) examples.e9 refl;
  own_name = no_other (λ r. r.name.0) examples.e11_corner refl;
  zero_bit = no_other (λ r. r.name.0) examples.e11_corner refl;
  close_above = is_nonneg (golden (pos 14472334024676221) (minus 8944394323791464)) tt;
  close_below = not_nonneg (golden (pos 23416728348467685) (minus 14472334024676221)) tt;
  close_filed = close_filed;
  close_across = crosses holder 1 across_edge 1 refl refl refl;
  close_outside = close_outside;
  close_wrong = λ a. close_outside (a.answered refl).is.holds;
  on_edge = (refl, refl);
  in_none = in_none;
  truncated = no_other (λ r. nat_abs r.at.x) points.v41_deeper refl;
  floored = no_other (λ r. nat_abs r.at.x) examples.e12_corner refl;
  floored_name = no_other (λ r. nat_abs r.at.x) examples.e12 refl;
  floored_above = no_other (λ r. nat_abs r.at.x) points.v20_deeper refl;
  raised = no_other (λ r. nat_abs r.at.x) points.v20_ticks refl;
  unsigned = no_other (λ r. pp r.at.x) examples.e12_corner refl;
  refusing = λ k a. let e : suc k ≡ 0 = ap (λ (r : CodeAnswer). r.refusal) (examples.e3.only _ a) in omega arith;
  fixed_code = fixed_code;
  fixed_name = fixed_name;
  itself = λ t k e i j z a. (a.answered z).across.other refl;
  nothing = λ t k e i j z a. let f : ◌≡◌ {A = ℕ} 2 0 = (a.answered z).across.code.passes in omega arith;
  then_zeros = no_other (λ r. r.code.0) examples.e3 refl;
  also_holds = test_holds (dets (written 500) up) refl;
  not_least = no_other (λ r. r.code.0) (files 0 up (written 100) refl refl) refl;
  holder_count = λ k out new l n a. n
      (ap (λ (r : CountAnswer). r.count) (λ i. ((examples.whole out l).only (_, new) a i).0));
  ring_count = λ k out new l n a.
      n (ap (λ (r : CountAnswer). r.count) (λ i. ((rings.five out l).only (_, new) a i).0));
  written_on = λ r out new l n a.
      n (λ i. (a.refused (λ z.
      let e : 9 ≡ refuse_weights (written 100) 1 out = (weights_then (written 100) 1 out).nine refl l in
      omega (arith, e, z)) i).1);
  wrapped_sum = λ q a.
      let e : ◌≡◌ {A = ℕ} 0 11 =
      ap (λ (r : NameAnswer). r.refusal) (a.refused (λ z. let e : ◌≡◌ {A = ℕ} 11 0 = z in omega arith)) in
      omega arith;
}
