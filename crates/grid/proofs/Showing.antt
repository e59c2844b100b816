-- How an example is shown: the answer from what antt computes, and that no other meets the promise. Assumes nothing.
use mathlib.Core.Path.{◌≡◌, refl, sym, ap, subst}
use mathlib.Core.List.{List}
use Prim.Native.Nat.{ℕ, suc, ◌*◌, ◌^◌, ◌≤◌}
use native.Mathlib.Omega.{arith}
use lib.Dec.{T}
use lib.IntN.{ℤ, nat_abs}
use lib.Ieee.{Float, binary64, fits}
use lib.Ieee.Exact.{HasValue}
use lib.ListN.{length, take}
use Rattle.frame.specs.Answers.{Known, over}
use Rattle.frame.specs.Promises.{◌gives◌, ◌leaves◌}
use Rattle.frame.proofs.Answering.{answering, gives_one, known_one, refusing}
use Rattle.golden.specs.Drawing.{IsT, quantity}
use Rattle.golden.specs.declared.Golden.{Golden}
use Rattle.golden.proofs.Nearest.{Tested, t_test}
use Rattle.words.specs.Words.{degree_of, word_of, corner_number}
use Rattle.words.specs.Refusals.{IsCode, check_name_fields}
use Rattle.words.specs.Family.{code_of, code_answer, no_code}
use Rattle.words.specs.declared.TriangleCode.{TriangleCode}
use Rattle.words.specs.declared.CornerName.{CornerName}
use Rattle.words.proofs.Codes.{code_degree, name_code, name_passes}
use Rattle.net.specs.Sides.{OneToThree}
use Rattle.net.specs.Division.{Weights}
use Rattle.net.specs.Corners.{corner, named, name_of, code_inside}
use Rattle.net.specs.Names.{IsName}
use Rattle.net.specs.Steps.{Across, IsRing, non_zeros, ring_size}
use Rattle.net.specs.Refusals.{check_name}
use Rattle.net.specs.Means.Walks.{least_name, ring_words}
use Rattle.net.proofs.Canonical.{name_means}
use Rattle.net.proofs.Crossing.{across_is, code_across, edge_across}
use Rattle.net.proofs.LeastName.{least_is_name, place_in_lem, place_in}
use Rattle.net.proofs.RingCodes.{ring_is}
use Rattle.corners.specs.Refusals.{refuse_numbered, refuse_weights, refuse_back, refuse_ring}
use Rattle.corners.specs.Answers.{CrossAnswer, WeightsAnswer, NameWeightsAnswer, NamingAnswer, BackAnswer, RingAnswer}
use Rattle.corners.specs.Answers.{step_answer, name_answer, count_answer, no_step}
use Rattle.corners.proofs.Refused.{numbered, weights_then, name_weights_then, ring_then}
use Rattle.corners.proofs.TurnedCorners.{first_there, second_there, turned_is}
use Rattle.corners.proofs.OneAnswer.{cross_one, naming_one, back_one, weights_one, name_weights_one, ring_answer_one}
use Rattle.filing.specs.Coordinates.{exact}
use Rattle.filing.specs.Drawing.{AreTicks, IsDrawn, IsPoint}
use Rattle.filing.specs.Fractions.{is_neg}
use Rattle.filing.specs.Filing.{IsFiled, AreHolders}
use Rattle.filing.specs.Means.Descent.{descent}
use Rattle.filing.specs.Means.Sides.{side_dets, least_from}
use Rattle.filing.specs.Means.Lists.{all_words}
use Rattle.filing.specs.declared.Coordinates.{Coordinates}
use Rattle.filing.specs.declared.Direction.{Direction}
use Rattle.filing.specs.declared.Point.{Point}
use Rattle.filing.specs.declared.Ticks.{Ticks}
use Rattle.filing.proofs.AllHolders.{all_holders}
use Rattle.filing.proofs.LeastSide.{found_code}
use Rattle.points.specs.Answers.{PlaceAnswer, NamePlaceAnswer, TickAnswer, NameTickAnswer, DrawAnswer, NameDrawAnswer}
use Rattle.points.specs.Answers.{no_coordinates, no_point}
use Rattle.points.specs.Answers.{TicksAnswer}
use Rattle.points.specs.Answers.{PointAnswer}
use Rattle.points.proofs.DrawnBits as drawn
use Rattle.points.proofs.PlaceCalls.{name_degree, name_small, numbered_degree, numbered_small}
use Rattle.points.proofs.OnePlace.{place_one, name_place_one, tick_answer_one, name_tick_one, draw_one, name_draw_one}
use Rattle.directions.specs.Refusals.{refuse_file, refuse_list}
use Rattle.directions.specs.Answers.{FileAnswer, ListAnswer}
use Rattle.directions.proofs.Refused.{allowed, list_then}
use Rattle.directions.proofs.OneFiling.{file_one, list_one}

-- ---- parent and child: f is the refusal, u the code that they promise

pub gives_code : (f : ℕ) (u t : TriangleCode) → f ≡ 0 → u ≡ t
    → Known f (code_answer 0 u) no_code gives code_answer 0 t
gives_code f u t z e = gives_one (known_one f (code_answer 0 u) no_code) (answering z (ap (code_answer 0) (sym e)))

pub refuses_code : (f : ℕ) (u : TriangleCode) (k : ℕ) → suc k ≡ f
    → Known f (code_answer 0 u) no_code gives no_code (suc k)
refuses_code f u k e = gives_one (known_one f (code_answer 0 u) no_code) (refusing e (λ z. omega arith))

-- ---- filing and listing

-- by the side and the digits that the descent finds
pub files : (n : ℕ) (d : Direction) (t : TriangleCode) → refuse_file n d ≡ 0
    → code_of (word_of (least_from d 4) n (descent n (side_dets d (least_from d 4)) 0)) ≡ t
    → FileAnswer n d gives code_answer 0 t
files n d t z e =
    let is : FileAnswer n d (code_answer 0 t) =
    answering z (record { number = refl; is = subst (IsFiled n d) e (found_code n d (allowed n d z).low) }) in
    gives_one (file_one n d) is

-- by the walk through the sides
pub lists : (n : ℕ) (d : Direction) (ws : List ℕ) → refuse_file n d ≡ 0 → all_words d n 4 ≡ ws
    → (out : List ℕ) → 6 ≤ length out → ListAnswer n d out leaves (count_answer 0 (length ws), over ws out)
lists n d ws z e out h =
    let is : ListAnswer n d out (count_answer 0 (length ws)) (over ws out) =
    answering ((list_then n d out).passes.1 (z, h)) (record {
      list = ws;
      good = subst (AreHolders n d) e (all_holders n d (allowed n d z).low);
      count = refl;
      put = refl;
    }) in
    gives_one (list_one n d out) is

pub lists_refused : (n : ℕ) (d : Direction) (out : List ℕ) (k : ℕ) → suc k ≡ refuse_list n d out
    → ListAnswer n d out leaves (count_answer (suc k) 0, out)
lists_refused n d out k e =
    let is : ListAnswer n d out (count_answer (suc k) 0) out = refusing e (λ z. omega arith) in
    gives_one (list_one n d out) is

-- ---- crossing, naming, the way back

-- by the step over the edge
pub crosses : (t : TriangleCode) (k : ℕ) (u : TriangleCode) (e : ℕ) → refuse_numbered t k ≡ 0
    → code_across k t ≡ u → edge_across k t ≡ e
    → CrossAnswer t k gives step_answer 0 u e (first_there k e) (second_there k e)
crosses t k u e z f g =
    let c = numbered t k z in
    let x : Across (degree_of t.0) t k u e = rw (sym f) (rw (sym g) (across_is c.0 k c.1)) in
    let is : CrossAnswer t k (step_answer 0 u e (first_there k e) (second_there k e)) =
    answering z (record { number = refl; across = x; turned = turned_is c.0 c.1 x }) in
    gives_one (cross_one t k) is

pub crosses_refused : (t : TriangleCode) (k f : ℕ) → suc f ≡ refuse_numbered t k
    → CrossAnswer t k gives no_step (suc f)
crosses_refused t k f e =
    let is : CrossAnswer t k (no_step (suc f)) = refusing e (λ z. omega arith) in
    gives_one (cross_one t k) is

-- by the walk round the corner
least_name_lem : {n : ℕ} {t : TriangleCode} (i w : ℕ) → IsCode n t → OneToThree i
    → least_name 5 (place_in t i) ≡ w → IsName n (corner t i) (name_of w)
least_name_lem {n} {t} i w c l e = subst (λ (w : ℕ). IsName n (corner t i) (name_of w)) e
    (least_is_name n (corner t i) (place_in t i) (place_in_lem c l) (code_degree c))

pub names : (t : TriangleCode) (i : ℕ) (w : ℕ) → refuse_numbered t i ≡ 0 → least_name 5 (place_in t i) ≡ w
    → NamingAnswer t i gives name_answer 0 (name_of w)
names t i w z e =
    let c = numbered t i z in
    let is : NamingAnswer t i (name_answer 0 (name_of w)) =
    answering z (record { number = refl; is = least_name_lem i w c.0 c.1 e }) in
    gives_one (naming_one t i) is

-- the same corner from its weights
pub backs : (n : ℕ) (weights : List ℕ) (w : ℕ) (t : TriangleCode) (i : ℕ) → refuse_back n weights ≡ 0
    → refuse_numbered t i ≡ 0 → degree_of t.0 ≡ n → corner t i ≡ take 12 weights
    → least_name 5 (place_in t i) ≡ w → BackAnswer n weights gives name_answer 0 (name_of w)
backs n weights w t i z z' d p e =
    let c = numbered t i z' in
    let x : IsName n (take 12 weights) (name_of w) =
    subst (λ (p : Weights). IsName n p (name_of w)) p
    (least_name_lem i w (subst (λ (n : ℕ). IsCode n t) d c.0) c.1 e) in
    let is : BackAnswer n weights (name_answer 0 (name_of w)) = answering z (record { number = refl; is = x }) in
    gives_one (back_one n weights) is

-- a word passes as a name where it is the least round its corner
pub passes_by : (q : CornerName) → check_name_fields q ≡ 0
    → least_name 5 (place_in (code_inside q) (corner_number q.0)) ≡ q.0 → check_name q ≡ 0
passes_by q z e =
    let p = (name_passes q).0 z in
    (name_means q).1 (z, least_name_lem (corner_number q.0) q.0 (name_code q z) (p.2, p.3) e)

-- ---- weights

pub weighs : (t : TriangleCode) (i : ℕ) (p : Weights) → refuse_numbered t i ≡ 0 → corner t i ≡ p
    → (out : List ℕ) → 12 ≤ length out → WeightsAnswer t i out leaves (0, over p out)
weighs t i p z e out h =
    let is : WeightsAnswer t i out 0 (over p out) =
    answering ((weights_then t i out).passes.1 (z, h)) (refl, ap (λ (p : Weights). over p out) (sym e)) in
    gives_one (weights_one t i out) is

pub weighs_name : (q : CornerName) (p : Weights) → check_name q ≡ 0 → named q ≡ p
    → (out : List ℕ) → 12 ≤ length out → NameWeightsAnswer q out leaves (0, over p out)
weighs_name q p z e out h =
    let is : NameWeightsAnswer q out 0 (over p out) =
    answering ((name_weights_then q out).passes.1 (z, h)) (refl, ap (λ (p : Weights). over p out) (sym e)) in
    gives_one (name_weights_one q out) is

pub weighs_refused : (t : TriangleCode) (i : ℕ) (out : List ℕ) (k : ℕ) → suc k ≡ refuse_weights t i out
    → WeightsAnswer t i out leaves (suc k, out)
weighs_refused t i out k e =
    let is : WeightsAnswer t i out (suc k) out = refusing e (λ z. omega arith) in
    gives_one (weights_one t i out) is

-- ---- rings

pub rings_by : (q : CornerName) (ws : List ℕ) → check_name q ≡ 0
    → ring_words (ring_size (non_zeros (named q))) (place_in (code_inside q) (corner_number q.0)) ≡ ws
    → (out : List ℕ) → 6 ≤ length out → RingAnswer q out leaves (count_answer 0 (length ws), over ws out)
rings_by q ws z e out h =
    let n = ((name_means q).0 z).1 in
    let is : RingAnswer q out (count_answer 0 (length ws)) (over ws out) =
    answering ((ring_then q out).passes.1 (z, h))
    (record { list = ws; good = subst (IsRing q) e (ring_is q n.code n.number); count = refl; put = refl }) in
    gives_one (ring_answer_one q out) is

pub rings_refused : (q : CornerName) (out : List ℕ) (k : ℕ) → suc k ≡ refuse_ring q out
    → RingAnswer q out leaves (count_answer (suc k) 0, out)
rings_refused q out k e =
    let is : RingAnswer q out (count_answer (suc k) 0) out = refusing e (λ z. omega arith) in
    gives_one (ring_answer_one q out) is

-- ---- places: of a corner of a code, and of a name

-- a float that is t / (65,536·2^n), by computation: its value, and that it is one of binary64
abbrev Shown : (n : ℕ) → ℤ → Float → Type 0
Shown n t r = HasValue r (is_neg t) (nat_abs t) (65536 * 2 ^ n) × T (fits binary64 r)

shown : (n : ℕ) (g : Golden) (t : ℤ) (r : Float) → IsT g t → Shown n t r → IsDrawn n g r
shown n g t r h p = (t, h, record { value = p.0; held = p.1 })

-- the point drawn from t on each axis
pub point_by : (n : ℕ) (c : Coordinates) (q : Ticks) (r : Point) → AreTicks c q
    → Shown n q.x r.x → Shown n q.y r.y → Shown n q.z r.z → IsPoint n c r
point_by n c q r a x y z = record {
  x = shown n c.x q.x r.x a.x x;
  y = shown n c.y q.y r.y a.y y;
  z = shown n c.z q.z r.z a.z z;
}

-- t on each axis, as a test that antt computes
pub ticks_test : (c : Coordinates) (r : Ticks) → Tested (quantity c.x) r.x → Tested (quantity c.y) r.y
    → Tested (quantity c.z) r.z → AreTicks c r
ticks_test c r x y z = record {
  x = t_test c.x r.x x;
  y = t_test c.y r.y y;
  z = t_test c.z r.z z;
}

module _ (t : TriangleCode) (i : ℕ) (z : refuse_numbered t i ≡ 0) where
  pub placed : (c : Coordinates) → exact (corner t i) ≡ c → PlaceAnswer t i gives record { refusal = 0; at = c }
  placed c e =
      let is : PlaceAnswer t i (record { refusal = 0; at = c }) = answering z (record { number = refl; is = sym e }) in
      gives_one (place_one t i) is

  pub ticked : (r : TicksAnswer) → r.refusal ≡ 0 → AreTicks (exact (corner t i)) r.at
      → TickAnswer t i gives r
  ticked r f e =
      let is : TickAnswer t i r = answering z (record { number = f; are = e }) in
      gives_one (tick_answer_one t i) is

  pub pointed : (r : PointAnswer) → r.refusal ≡ 0 → IsPoint (degree_of t.0) (exact (corner t i)) r.at
      → DrawAnswer t i gives r
  pointed r f e =
      let is : DrawAnswer t i r =
      answering z (drawn.pointed r (numbered_degree t i z) (numbered_small t i z) f e) in
      gives_one (draw_one t i) is

module _ (q : CornerName) (z : check_name q ≡ 0) where
  pub placed_name : (c : Coordinates) → exact (named q) ≡ c
      → NamePlaceAnswer q gives record { refusal = 0; at = c }
  placed_name c e =
      let is : NamePlaceAnswer q (record { refusal = 0; at = c }) =
      answering z (record { number = refl; is = sym e }) in
      gives_one (name_place_one q) is

  pub ticked_name : (r : TicksAnswer) → r.refusal ≡ 0 → AreTicks (exact (named q)) r.at
      → NameTickAnswer q gives r
  ticked_name r f e =
      let is : NameTickAnswer q r = answering z (record { number = f; are = e }) in
      gives_one (name_tick_one q) is

  pub pointed_name : (r : PointAnswer) → r.refusal ≡ 0 → IsPoint (degree_of q.0) (exact (named q)) r.at
      → NameDrawAnswer q gives r
  pointed_name r f e =
      let is : NameDrawAnswer q r = answering z (drawn.pointed r (name_degree q z) (name_small q z) f e) in
      gives_one (name_draw_one q) is

-- refused
pub not_placed : (t : TriangleCode) (i k : ℕ) → suc k ≡ refuse_numbered t i
    → PlaceAnswer t i gives no_coordinates (suc k)
not_placed t i k e =
    let is : PlaceAnswer t i (no_coordinates (suc k)) = refusing e (λ z. omega arith) in
    gives_one (place_one t i) is

pub not_pointed : (q : CornerName) (k : ℕ) → suc k ≡ check_name q → NameDrawAnswer q gives no_point (suc k)
not_pointed q k e =
    let is : NameDrawAnswer q (no_point (suc k)) = refusing e (λ z. omega arith) in
    gives_one (name_draw_one q) is
