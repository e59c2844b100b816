-- Document 02, 2026-08: the complete answer of take, set, clear and give with the coarse sums, and of working these out
-- afresh, for every input: what the contracts cite. c is the lent lists as they come, `new` as they are left. Assumes
-- nothing.
use Rattle.std.specs.Prelude.{ℕ, List, ℤ}
use Rattle.frame.specs.Answers.{Known}
use Rattle.words.specs.declared.TriangleCode.{TriangleCode}
use Rattle.tables.specs.Answers.{table_answer, refused}
use Rattle.tables.specs.declared.Deed.{Deed}
use Rattle.tables.specs.declared.Deed.TheVariants.{Taking, Setting, Clearing, Giving}
use Rattle.tables.specs.Answers.{TableAnswer}
use Rattle.coarse.specs.Sums.{Coarse, true_coarse, Chart, chart_after}
use Rattle.coarse.specs.Refusals.{refuse_kept, refuse_work_out}

-- ---- the calls that write: the answer together with all four lists

abbrev pub kept_out : Deed → (desk degree : ℕ) → TriangleCode → Chart → TableAnswer × Chart
kept_out e d n t c = (table_answer 0 0, chart_after e d n t c)

abbrev pub refused_kept : Chart → (refusal : ℕ) → TableAnswer × Chart
refused_kept c f = (refused c.shared.readings f, c)

abbrev pub KeptAnswer : Deed → (desk degree : ℕ) → TriangleCode → Chart → TableAnswer → Chart → Type 0
KeptAnswer e d n t c r new = Known (refuse_kept e d n t c) (kept_out e d n t c) (refused_kept c) (r, new)

abbrev pub TakeAnswer : (desk degree : ℕ) → TriangleCode → Chart → TableAnswer → Chart → Type 0
TakeAnswer = KeptAnswer Taking

abbrev pub SetAnswer : (desk degree : ℕ) → TriangleCode → (reading : ℤ) → Chart → TableAnswer → Chart
    → Type 0
SetAnswer d n t x = KeptAnswer (Setting x) d n t

abbrev pub ClearAnswer : (desk degree : ℕ) → TriangleCode → Chart → TableAnswer → Chart → Type 0
ClearAnswer = KeptAnswer Clearing

abbrev pub GiveAnswer : (desk degree : ℕ) → TriangleCode → Chart → TableAnswer → Chart → Type 0
GiveAnswer = KeptAnswer Giving

-- ---- "A table opened from elsewhere has its sums worked out afresh first."

-- the readings are read, and the two lists of sums written
abbrev pub worked_out : (degree : ℕ) → List ℤ → TableAnswer × Coarse
worked_out n list = (table_answer 0 0, true_coarse n list)

abbrev pub refused_work_out : List ℤ → Coarse → (refusal : ℕ) → TableAnswer × Coarse
refused_work_out list c f = (refused list f, c)

abbrev pub WorkOutAnswer : (degree : ℕ) → List ℤ → Coarse → TableAnswer → Coarse → Type 0
WorkOutAnswer n list c r new = Known (refuse_work_out n list c) (worked_out n list) (refused_work_out list c) (r, new)
