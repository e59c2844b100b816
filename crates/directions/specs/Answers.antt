-- The complete answers of filing and listing, for every input: what the contracts cite. `out` is a lent list as it
-- comes, `new` as it is left. Assumes nothing.
use Rattle.std.specs.Prelude.{◌≡◌, ℕ, List}
use Rattle.frame.specs.Answers.{Answer, Lent, Listed}
use Rattle.words.specs.Family.{no_code}
use Rattle.words.specs.Family.{CodeAnswer}
use Rattle.filing.specs.Filing.{IsFiled, AreHolders}
use Rattle.filing.specs.declared.Direction.{Direction}
use Rattle.corners.specs.Answers.{count_answer, no_count}
use Rattle.corners.specs.Answers.{CountAnswer}
use Rattle.directions.specs.Refusals.{refuse_file, refuse_list}

-- ---- filing

pub record Filed (n : ℕ) (d : Direction) (r : CodeAnswer) : Type 0 where
  pub number : r.refusal ≡ 0
  pub is : IsFiled n d r.code

abbrev pub FileAnswer : ℕ → Direction → CodeAnswer → Type 0
FileAnswer n d r = Answer (refuse_file n d) (Filed n d) no_code r

-- "places after the count are unchanged"
abbrev pub ListAnswer : ℕ → Direction → List ℕ → CountAnswer → List ℕ → Type 0
ListAnswer n d out r new = Lent (refuse_list n d out) (Listed (AreHolders n d) (count_answer 0) out) no_count out r new
