-- The three demands of the user, clause by clause: what is promised of the calls together. A promise of a call
-- (`CrossAnswer t k r` and so on) says which answers r it may give, and is just what the function ensures
-- (CallContracts.antt); the theorems of these types are in proofs/Demands.antt. Assumes nothing.
use Rattle.std.specs.Prelude.{◌≡◌, ◌⊎◌, ◌↔◌, List, ℕ, ◌≤◌, take}
use Rattle.frame.specs.Promises.{One, Keeps, KeepsLent, ◌gives◌}
use Rattle.words.specs.Words.{degree_of, digit_of, side_of}
use Rattle.words.specs.Refusals.{IsCode, check_code}
use Rattle.words.specs.Family.{code_answer, refuse_parent, refuse_child, ParentAnswer, ChildAnswer, no_code}
use Rattle.words.specs.declared.TriangleCode.{TriangleCode}
use Rattle.words.specs.declared.CornerName.{CornerName}
use Rattle.words.specs.Family.{CodeAnswer}
use Rattle.net.specs.Sides.{OneToThree, next, prev, corner_vertex}
use Rattle.net.specs.Division.{Weights, unit_at, triangle, divide}
use Rattle.net.specs.Corners.{corner, triangle_of, HasCorner, named}
use Rattle.net.specs.Steps.{Across}
use Rattle.net.specs.Refusals.{check_name}
use Rattle.filing.specs.Coordinates.{exact}
use Rattle.filing.specs.Holding.{Holds}
use Rattle.filing.specs.declared.Direction.{Direction}
use Rattle.corners.specs.Refusals.{refuse_numbered, refuse_weights, refuse_name_weights, refuse_back, refuse_ring}
use Rattle.corners.specs.Answers.{name_answer, no_step, no_name, no_count, CrossAnswer, WeightsAnswer}
use Rattle.corners.specs.Answers.{NameWeightsAnswer, NamingAnswer, BackAnswer, RingAnswer}
use Rattle.corners.specs.Answers.{StepAnswer}
use Rattle.corners.specs.Answers.{NameAnswer}
use Rattle.points.specs.Answers.{no_coordinates, no_ticks, no_point, PlaceAnswer, NamePlaceAnswer, TickAnswer}
use Rattle.points.specs.Answers.{NameTickAnswer, DrawAnswer, NameDrawAnswer}
use Rattle.points.specs.Answers.{CoordinatesAnswer}
use Rattle.directions.specs.Refusals.{refuse_file, refuse_list}
use Rattle.directions.specs.Answers.{FileAnswer, ListAnswer}

-- ---- 1

-- "Any number and any lent list may be handed in. Each call answers, or refuses by document 01's number exactly when 01
-- says so; a refusal returns its number and zeros and changes no lent memory. No older answer is ever repeated."
pub record Demand1 : Type 0 where
  pub check : (t : TriangleCode) → Keeps (check_code t) (λ r. r ≡ check_code t) (λ r. r) (λ f. f)
  pub check_names : (q : CornerName) → Keeps (check_name q) (λ r. r ≡ check_name q) (λ r. r) (λ f. f)
  pub parent : (t : TriangleCode) → Keeps (refuse_parent t) (ParentAnswer t) (λ r. r.refusal) no_code
  pub child : (t : TriangleCode) (d : ℕ) → Keeps (refuse_child t d) (ChildAnswer t d) (λ r. r.refusal) no_code
  pub cross : (t : TriangleCode) (k : ℕ) → Keeps (refuse_numbered t k) (CrossAnswer t k) (λ r. r.refusal) no_step
  pub weights : (t : TriangleCode) (i : ℕ) (out : List ℕ)
      → KeepsLent (refuse_weights t i out) (WeightsAnswer t i out) (λ r. r) (λ f. f) out
  pub name_weights : (q : CornerName) (out : List ℕ)
      → KeepsLent (refuse_name_weights q out) (NameWeightsAnswer q out) (λ r. r) (λ f. f) out
  pub coordinates : (t : TriangleCode) (i : ℕ)
      → Keeps (refuse_numbered t i) (PlaceAnswer t i) (λ r. r.refusal) no_coordinates
  pub name_coordinates : (q : CornerName) → Keeps (check_name q) (NamePlaceAnswer q) (λ r. r.refusal) no_coordinates
  pub ticks : (t : TriangleCode) (i : ℕ) → Keeps (refuse_numbered t i) (TickAnswer t i) (λ r. r.refusal) no_ticks
  pub name_ticks : (q : CornerName) → Keeps (check_name q) (NameTickAnswer q) (λ r. r.refusal) no_ticks
  pub drawn : (t : TriangleCode) (i : ℕ) → Keeps (refuse_numbered t i) (DrawAnswer t i) (λ r. r.refusal) no_point
  pub name_drawn : (q : CornerName) → Keeps (check_name q) (NameDrawAnswer q) (λ r. r.refusal) no_point
  pub naming : (t : TriangleCode) (i : ℕ) → Keeps (refuse_numbered t i) (NamingAnswer t i) (λ r. r.refusal) no_name
  pub back : (n : ℕ) (weights : List ℕ)
      → Keeps (refuse_back n weights) (BackAnswer n weights) (λ r. r.refusal) no_name
  pub ring : (q : CornerName) (out : List ℕ)
      → KeepsLent (refuse_ring q out) (RingAnswer q out) (λ r. r.refusal) no_count out
  pub file : (n : ℕ) (d : Direction) → Keeps (refuse_file n d) (FileAnswer n d) (λ r. r.refusal) no_code
  pub list : (n : ℕ) (d : Direction) (out : List ℕ)
      → KeepsLent (refuse_list n d out) (ListAnswer n d out) (λ r. r.refusal) no_count out

-- ---- 2

-- "Codes, corners, weights and exact coordinates agree with the division rule of document 01, from code to corner .."
pub record Demand2Codes : Type 0 where
  -- a code of degree 0 is a side; a child's corners are its parent's, divided by its digit
  pub side : (t : TriangleCode) → IsCode 0 t
      → triangle_of t ≡ triangle (unit_at (corner_vertex (side_of t.0) 1)) (unit_at (corner_vertex (side_of t.0) 2))
      (unit_at (corner_vertex (side_of t.0) 3))
  pub child : (t : TriangleCode) (d : ℕ) (r : CodeAnswer) → ChildAnswer t d r → r.refusal ≡ 0
      → triangle_of r.code ≡ divide d (triangle_of t)
  -- parent undoes child, and a code is its parent's child by its last digit
  pub child_parent : (t : TriangleCode) (d : ℕ) (r : CodeAnswer) → ChildAnswer t d r → r.refusal ≡ 0
      → ParentAnswer r.code gives code_answer 0 t
  pub parent_child : (t : TriangleCode) (r : CodeAnswer) → ParentAnswer t r → r.refusal ≡ 0
      → ChildAnswer r.code (digit_of t.0 (degree_of t.0)) gives code_answer 0 t
  -- the first twelve places are the corner's weights, whatever lay there: by the code and corner number, and by the
  -- corner's name
  pub weights : (t : TriangleCode) (i : ℕ) (out new : List ℕ) → WeightsAnswer t i out 0 new
      → take 12 new ≡ corner t i
  pub name_weights : (t : TriangleCode) (i : ℕ) (s : NameAnswer) (out new : List ℕ)
      → NamingAnswer t i s → s.refusal ≡ 0 → NameWeightsAnswer s.name out 0 new
      → take 12 new ≡ corner t i
  -- and so are the exact coordinates
  pub coordinates : (t : TriangleCode) (i : ℕ) (r : CoordinatesAnswer) → PlaceAnswer t i r → r.refusal ≡ 0
      → r.at ≡ exact (corner t i)
  pub name_coordinates : (t : TriangleCode) (i : ℕ) (s : NameAnswer) (r : CoordinatesAnswer)
      → NamingAnswer t i s → s.refusal ≡ 0 → NamePlaceAnswer s.name r
      → r ≡ record { refusal = 0; at = exact (corner t i) }
  -- "Two corners of one degree are the same point exactly when all twelve weights agree."
  pub same_point : (n : ℕ) (t u : TriangleCode) (i j : ℕ) → IsCode n t → IsCode n u
      → OneToThree i → OneToThree j
      → (exact (corner t i) ≡ exact (corner u j)) ↔ (corner t i ≡ corner u j)

-- ".. and from weights back to the name."
pub record Demand2Back : Type 0 where
  -- the weights of a corner, handed back, give the name that naming gives
  pub back : (t : TriangleCode) (i : ℕ) (out new : List ℕ) (r s : NameAnswer)
      → WeightsAnswer t i out 0 new → BackAnswer (degree_of t.0) new r → NamingAnswer t i s → r ≡ s
  -- the name's own weights are those handed in
  pub round : (n : ℕ) (weights : List ℕ) (r : NameAnswer) → BackAnswer n weights r → r.refusal ≡ 0
      → named r.name ≡ take 12 weights
  -- and a name, taken to its weights and back, is itself
  pub again : (q : CornerName) (out new : List ℕ) (r : NameAnswer) → NameWeightsAnswer q out 0 new
      → BackAnswer (degree_of q.0) new r → r ≡ name_answer 0 q

-- "A direction is filed in the least code of its degree whose closed triangle holds it, edges and corners included."
pub record Demand2Files : Type 0 where
  pub holds : (n : ℕ) (d : Direction) (r : CodeAnswer) → FileAnswer n d r → r.refusal ≡ 0
      → IsCode n r.code × Holds r.code d
  pub least : (n : ℕ) (d : Direction) (r : CodeAnswer) → FileAnswer n d r → r.refusal ≡ 0
      → (t : TriangleCode) → IsCode n t → Holds t d → r.code.0 ≤ t.0

-- ---- 3: "At every degree 0 to 24:" a code of any degree is meant, and there is none above 24

pub record Demand3 : Type 0 where
  -- "across each edge lies exactly one other triangle" (Across: another triangle of the degree, with the two corners of
  -- that edge), and crossing answers it
  pub one_other : (n : ℕ) (t : TriangleCode) (k : ℕ) → IsCode n t → OneToThree k
      → One {A = TriangleCode} (λ u. (m : ℕ) × Across n t k u m)
  pub crossed : (n : ℕ) (t : TriangleCode) (k : ℕ) (r : StepAnswer) → IsCode n t → OneToThree k
      → CrossAnswer t k r
      → (r.refusal ≡ 0) × Across n t k r.code r.edge
  -- "a triangle's three neighbours are distinct"
  pub distinct : (t : TriangleCode) (j k : ℕ) (r s : StepAnswer) → CrossAnswer t j r → CrossAnswer t k s
      → r.refusal ≡ 0 → s.refusal ≡ 0
      → (j ≡ k → ⊥) → r.code ≡ s.code → ⊥
  -- "and each shares with it just that edge's two corners"
  pub just_two : (t : TriangleCode) (k : ℕ) (r : StepAnswer) (p : Weights) → CrossAnswer t k r → r.refusal ≡ 0
      → (HasCorner t p × HasCorner r.code p) ↔ ((corner t (next k) ≡ p) ⊎ (corner t (prev k) ≡ p))
  -- "stepping back through the edge reported returns the first triangle and edge" (how its corners turn: Turns.antt)
  pub back : (t : TriangleCode) (k : ℕ) (r s : StepAnswer) → CrossAnswer t k r → r.refusal ≡ 0
      → CrossAnswer r.code r.edge s → (s.refusal ≡ 0) × (s.code ≡ t) × (s.edge ≡ k)
  -- "two corners of one degree have equal names exactly when their twelve weights are equal"
  pub names : (t u : TriangleCode) (i j : ℕ) (r s : NameAnswer) → NamingAnswer t i r → NamingAnswer u j s
      → r.refusal ≡ 0 → s.refusal ≡ 0
      → degree_of t.0 ≡ degree_of u.0 → (r.name ≡ s.name) ↔ (corner t i ≡ corner u j)
