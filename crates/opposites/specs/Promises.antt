-- Document 02, 2026-12: what is promised of the opposite of a triangle and of a corner, sentence by sentence. Assumes
-- nothing.
use Rattle.std.specs.Prelude.{◌≡◌, ◌↔◌, ℕ, ◌≤◌}
use Rattle.frame.specs.Promises.{Keeps}
use Rattle.words.specs.Words.{degree_of, digit_of}
use Rattle.words.specs.Refusals.{IsCode, check_code}
use Rattle.words.specs.Family.{code_answer, no_code}
use Rattle.words.specs.declared.TriangleCode.{TriangleCode}
use Rattle.words.specs.declared.CornerName.{CornerName}
use Rattle.words.specs.Family.{CodeAnswer}
use Rattle.net.specs.Sides.{OneToThree, nth}
use Rattle.net.specs.Corners.{corner, named}
use Rattle.net.specs.Names.{IsName}
use Rattle.net.specs.Refusals.{check_name}
use Rattle.net.specs.Steps.{Across}
use Rattle.filing.specs.Coordinates.{exact, negated}
use Rattle.filing.specs.Filing.{IsFiled}
use Rattle.filing.specs.Holding.{Holds}
use Rattle.filing.specs.declared.Direction.{Direction}
use Rattle.corners.specs.Answers.{CrossAnswer, name_answer, no_name}
use Rattle.corners.specs.Answers.{StepAnswer}
use Rattle.corners.specs.Answers.{NameAnswer}
use Rattle.directions.specs.Refusals.{refuse_file}
use Rattle.opposites.specs.Opposites.{exchanged, negated_direction, IsOpposite}
use Rattle.opposites.specs.Answers.{OppositeAnswer, OppositeNameAnswer}

-- Demand 1, of these calls: exactly one answer for every input, a refusal by its number, with zeros.
pub record OneAnswer : Type 0 where
  pub opposite : (t : TriangleCode) → Keeps (check_code t) (OppositeAnswer t) (λ r. r.refusal) no_code
  pub opposite_name : (q : CornerName) → Keeps (check_name q) (OppositeNameAnswer q) (λ r. r.refusal) no_name

-- "Opposite twice is the identity"
pub record Twice : Type 0 where
  pub triangle : (t : TriangleCode) (r s : CodeAnswer) → OppositeAnswer t r → r.refusal ≡ 0
      → OppositeAnswer r.code s → s ≡ code_answer 0 t
  pub name : (q : CornerName) (r s : NameAnswer) → OppositeNameAnswer q r → r.refusal ≡ 0
      → OppositeNameAnswer r.name s → s ≡ name_answer 0 q

-- "it carries neighbours to neighbours, keeps corner and edge 1, and exchanges 2 and 3, in digits too"
pub record Carries : Type 0 where
  -- what lies across edge k, where that edge has the number m, goes to what lies across the exchanged edge
  pub neighbours : (n : ℕ) (t u t' u' : TriangleCode) (k m : ℕ) → IsCode n t → OneToThree k → Across n t k u m
      → IsOpposite n t t' → IsOpposite n u u' → Across n t' (exchanged k) u' (exchanged m)
  -- and so the calls: across and then opposite is opposite and then across. Of edges 2 and 3 the lower corner goes to
  -- the lower one, of edge 1 to the higher one
  pub crossing : (t : TriangleCode) (k : ℕ) (r s : StepAnswer) (o p : CodeAnswer)
      → CrossAnswer t k r → r.refusal ≡ 0 → OppositeAnswer r.code p
      → OppositeAnswer t o → CrossAnswer o.code (exchanged k) s
      → (s.refusal ≡ 0) × (s.code ≡ p.code) × (s.edge ≡ exchanged r.edge)
      × (s.first ≡ exchanged (nth k r.second r.first r.first))
      × (s.second ≡ exchanged (nth k r.first r.second r.second))
  -- a corner that two triangles share goes to one that their opposites share, each number exchanged
  pub corners : (n : ℕ) (t u t' u' : TriangleCode) (i j : ℕ) → IsCode n t → IsCode n u → OneToThree i → OneToThree j
      → IsOpposite n t t' → IsOpposite n u u'
      → (corner t i ≡ corner u j) ↔ (corner t' (exchanged i) ≡ corner u' (exchanged j))
  -- no triangle of the degree has the opposite points in another order
  pub order : (n : ℕ) (t u : TriangleCode) → IsCode n t → IsCode n u
      → ((j : ℕ) → OneToThree j → (i : ℕ) × OneToThree i × (exact (corner u j) ≡ negated (exact (corner t i))))
      → IsOpposite n t u
  pub digits : (t : TriangleCode) (r : CodeAnswer) → OppositeAnswer t r → r.refusal ≡ 0
      → (i : ℕ) → 1 ≤ i → i ≤ degree_of t.0 → digit_of r.code.0 i ≡ exchanged (digit_of t.0 i)

-- t is a triangle of the degree that holds the direction, and t' its opposite.
pub record OppositeHolder (n : ℕ) (d : Direction) (t t' : TriangleCode) : Type 0 where
  pub code : IsCode n t
  pub holds : Holds t d
  pub opposite : IsOpposite n t t'

pub record Holders : Type 0 where
  -- "The set of holders of the negated direction is the set of opposites of the holders."
  pub holders : (n : ℕ) (d : Direction) (t' : TriangleCode) → IsCode n t'
      → Holds t' (negated_direction d) ↔ ((t : TriangleCode) × OppositeHolder n d t t')
  -- "The filed code need not be the opposite, ties going to the least code": it is the least of these opposites,
  pub filed : (n : ℕ) (d : Direction) (r' : TriangleCode) → IsFiled n (negated_direction d) r'
      ↔ (((t : TriangleCode) × OppositeHolder n d t r')
      × ((t t' : TriangleCode) → OppositeHolder n d t t' → r'.0 ≤ t'.0))
  -- and so the opposite where just one triangle holds the direction
  pub alone : (n : ℕ) (d : Direction) (r r' : TriangleCode) → IsFiled n d r → IsFiled n (negated_direction d) r'
      → ((t : TriangleCode) → IsCode n t → Holds t d → t ≡ r) → IsOpposite n r r'
  -- the negated direction is refused by the same number
  pub refused : (n : ℕ) (d : Direction) → refuse_file n (negated_direction d) ≡ refuse_file n d

-- "For every corner, the opposite name is canonical and has the coordinates negated."
pub record Names : Type 0 where
  pub canonical : (q : CornerName) (r : NameAnswer) → OppositeNameAnswer q r → r.refusal ≡ 0
      → (check_name r.name ≡ 0) × (degree_of r.name.0 ≡ degree_of q.0)
  pub negates : (q : CornerName) (r : NameAnswer) → OppositeNameAnswer q r → r.refusal ≡ 0
      → exact (named r.name) ≡ negated (exact (named q))
  -- of each corner of each triangle: its name has an opposite, which names the exchanged corner of the opposite
  -- triangle
  pub corners : (n : ℕ) (t t' : TriangleCode) (i : ℕ) → IsCode n t → OneToThree i → IsOpposite n t t'
      → (q : CornerName) × (r : NameAnswer) × IsName n (corner t i) q × OppositeNameAnswer q r
      × (r.refusal ≡ 0) × IsName n (corner t' (exchanged i)) r.name
