-- Document 02, 2026-08: calls one after the other on the four lists, and the "readings present according to the history
-- of calls". Assumes nothing.
use Rattle.std.specs.Prelude.{◌&&◌, cond, List, [], ◌∷◌, ℕ, eqb, None}
use Rattle.frame.specs.Answers.{settled}
use Rattle.frame.specs.Lists.{below}
use Rattle.words.specs.Counting.{code_at}
use Rattle.words.specs.declared.TriangleCode.{TriangleCode}
use Rattle.tables.specs.Tables.{places, number, Sounding}
use Rattle.tables.specs.Owners.{sounding_after}
use Rattle.tables.specs.Histories.{Call, asks, does, Answered, got, done, doing, on_table}
use Rattle.coarse.specs.Sums.{present, Chart}
use Rattle.coarse.specs.Refusals.{refuse_kept}
use Rattle.coarse.specs.Answers.{kept_out, refused_kept}

-- ---- on the lists: what a call's promise allows; get is as it was, with no sums

abbrev pub on_chart : Call → Chart → Answered × Chart
on_chart (asks d n t) c = ((on_table (asks d n t) c.shared).0, c)
on_chart (does e d n t) c = doing (settled (refuse_kept e d n t c) (kept_out e d n t c) (refused_kept c))

-- ---- "according to the history of calls": by the calls and their answers alone, with no list

abbrev pub Told : Type 0
Told = TriangleCode → Sounding

-- a fresh table has no readings
abbrev pub no_readings : Told
no_readings t = None

-- an answered call leaves its triangle what it is to leave; one that is refused tells nothing
abbrev pub told : Call → Answered → Told → Told
told (does e d n t) (done r) s u = cond (eqb r.refusal 0 && eqb u.0 t.0) (sounding_after e (s u)) (s u)
told (does e d n t) (got r) s u = s u
told (asks d n t) r s u = s u

unfoldable pub told_by : List Call → List Answered → Told → Told
told_by [] rs s = s
told_by (c ∷ cs) [] s = s
told_by (c ∷ cs) (r ∷ rs) s = told_by cs rs (told c r s)

-- the readings that are present then, of all triangles of the degree
unfoldable pub present_by : (degree : ℕ) → Told → List ℕ
present_by n s = present (below (places n) (λ i. number (s (code_at n i))))
