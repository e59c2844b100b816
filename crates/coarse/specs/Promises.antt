-- Document 02, 2026-08: what is promised of the calls. Assumes nothing.
use Rattle.std.specs.Prelude.{◌≡◌, List, [], ◌∷◌, ◌++◌, ℕ, suc, ◌≤◌, ℤ, length}
use Rattle.frame.specs.Promises.{KeepsLent}
use Rattle.words.specs.Refusals.{IsCode}
use Rattle.words.specs.Family.{parent_of}
use Rattle.words.specs.declared.TriangleCode.{TriangleCode}
use Rattle.net.specs.Division.{sum}
use Rattle.tables.specs.Owners.{Shared, IsShared}
use Rattle.tables.specs.Refusals.{refuse_deed}
use Rattle.tables.specs.Answers.{refused, DeedAnswer}
use Rattle.tables.specs.Histories.{Call, does, done, answers, after, on_table, without, seen}
use Rattle.tables.specs.declared.Deed.{Deed}
use Rattle.tables.specs.declared.Deed.TheVariants.{Taking, Setting, Clearing, Giving}
use Rattle.tables.specs.Answers.{TableAnswer}
use Rattle.coarse.specs.Sums.{present, count_in, sum_in, parents, Coarse, stored_for, true_coarse}
use Rattle.coarse.specs.Sums.{Chart, chart, fresh_chart}
use Rattle.coarse.specs.Refusals.{refuse_kept, refuse_work_out}
use Rattle.coarse.specs.Answers.{KeptAnswer, TakeAnswer, SetAnswer, ClearAnswer, GiveAnswer, WorkOutAnswer}
use Rattle.coarse.specs.Histories.{on_chart, no_readings, told_by, present_by}

-- Demand 1, of these calls: exactly one answer for every input, a refusal by its number, with zeros (23 with its
-- place); it changes none of the four lists, or of the two.
pub record OneAnswer : Type 0 where
  pub take : (d n : ℕ) (t : TriangleCode) (c : Chart)
      → KeepsLent (refuse_kept Taking d n t c) (TakeAnswer d n t c) (λ r. r.refusal)
      (refused c.shared.readings) c
  pub set : (d n : ℕ) (t : TriangleCode) (x : ℤ) (c : Chart)
      → KeepsLent (refuse_kept (Setting x) d n t c) (SetAnswer d n t x c) (λ r. r.refusal)
      (refused c.shared.readings) c
  pub clear : (d n : ℕ) (t : TriangleCode) (c : Chart)
      → KeepsLent (refuse_kept Clearing d n t c) (ClearAnswer d n t c) (λ r. r.refusal)
      (refused c.shared.readings) c
  pub give : (d n : ℕ) (t : TriangleCode) (c : Chart)
      → KeepsLent (refuse_kept Giving d n t c) (GiveAnswer d n t c) (λ r. r.refusal)
      (refused c.shared.readings) c
  pub work_out : (n : ℕ) (list : List ℤ) (c : Coarse)
      → KeepsLent (refuse_work_out n list c) (WorkOutAnswer n list c) (λ r. r.refusal) (refused list) c

-- Every stored count and sum is that of its triangle's readings.
abbrev pub AreTrue : (degree : ℕ) → Chart → Type 0
AreTrue n c = c.coarse ≡ true_coarse n c.shared.readings

pub record SumsKept : Type 0 where
  -- what a call answers and leaves by its contract is its turn in a sequence of calls
  pub deed : (e : Deed) (d n : ℕ) (t : TriangleCode) (c : Chart) (r : TableAnswer) (new : Chart)
      → KeptAnswer e d n t c r new → on_chart (does e d n t) c ≡ (done r, new)
  -- "keep them true through set, clear, take and give back": any calls, get among them, of whatever degree
  pub keeps : (n : ℕ) (c : Chart) → IsShared n c.shared → AreTrue n c → (cs : List Call)
      → IsShared n (after on_chart cs c).shared × AreTrue n (after on_chart cs c)
  -- "for each triangle one degree up, the count and sum of its present readings"
  pub each : (n : ℕ) (c : Chart) → AreTrue (suc n) c → (p : TriangleCode) → IsCode n p
      → (stored_for p c.coarse.counts ≡ count_in p c.shared.readings)
      × (stored_for p c.coarse.sums ≡ sum_in p c.shared.readings)
  -- "a fresh table (no readings, no owners, sums 0)"
  pub begun : (n : ℕ) → n ≤ 6 → IsShared n (fresh_chart n).shared × AreTrue n (fresh_chart n)
  -- "A table opened from elsewhere has its sums worked out afresh first.": then they are true
  pub opened : (n : ℕ) (s : Shared) (c new : Coarse) (r : TableAnswer) → WorkOutAnswer n s.readings c r new
      → r.refusal ≡ 0 → AreTrue n (chart s new)
  -- where they are true, no call is refused by 28 or 29
  pub unrefused : (e : Deed) (d m n : ℕ) (t : TriangleCode) (c : Chart) → IsShared n c.shared → AreTrue n c
      → (refuse_kept e d m t c ≡ 28 → ⊥) × (refuse_kept e d m t c ≡ 29 → ⊥)

-- The refusal of a call that writes, by that of 2026-07, the two lengths and the parent concerned alone.
pub record Concerned (e : Deed) (d n : ℕ) (t : TriangleCode) (c : Chart) : Type 0 where
  -- "refusal 28, checked after 27"
  pub before : (refuse_deed e d n t c.shared ≡ 0 → ⊥)
      → refuse_kept e d n t c ≡ refuse_deed e d n t c.shared
  -- "Lists of wrong length are refusal 28": either of them
  pub counts : refuse_deed e d n t c.shared ≡ 0 → (length c.coarse.counts ≡ parents n → ⊥)
      → refuse_kept e d n t c ≡ 28
  pub sums : refuse_deed e d n t c.shared ≡ 0 → (length c.coarse.sums ≡ parents n → ⊥)
      → refuse_kept e d n t c ≡ 28
  -- "Where the stored count or sum of the parent concerned differs from its children's readings, .. refusal 29"
  pub count : refuse_deed e d n t c.shared ≡ 0 → length c.coarse.counts ≡ parents n
      → length c.coarse.sums ≡ parents n → 1 ≤ n
      → (stored_for (parent_of t) c.coarse.counts ≡ count_in (parent_of t) c.shared.readings → ⊥)
      → refuse_kept e d n t c ≡ 29
  pub total : refuse_deed e d n t c.shared ≡ 0 → length c.coarse.counts ≡ parents n
      → length c.coarse.sums ≡ parents n → 1 ≤ n
      → (stored_for (parent_of t) c.coarse.sums ≡ sum_in (parent_of t) c.shared.readings → ⊥)
      → refuse_kept e d n t c ≡ 29
  -- and else it is answered, whatever is stored for other parents
  pub answered : refuse_deed e d n t c.shared ≡ 0 → length c.coarse.counts ≡ parents n
      → length c.coarse.sums ≡ parents n
      → (1 ≤ n → stored_for (parent_of t) c.coarse.counts ≡ count_in (parent_of t) c.shared.readings)
      → (1 ≤ n → stored_for (parent_of t) c.coarse.sums ≡ sum_in (parent_of t) c.shared.readings)
      → refuse_kept e d n t c ≡ 0

-- Every answer but 28 and 29, the readings and the owners are those of 2026-07: so its promises hold as they stand.
pub record AsBefore : Type 0 where
  -- of one call, on any lists
  pub refusal : (e : Deed) (d n : ℕ) (t : TriangleCode) (c : Chart) → Concerned e d n t c
  pub call : (e : Deed) (d n : ℕ) (t : TriangleCode) (c : Chart) (r : TableAnswer) (new : Chart)
      → KeptAnswer e d n t c r new → (r.refusal ≡ 28 → ⊥) → (r.refusal ≡ 29 → ⊥)
      → DeedAnswer e d n t c.shared r new.shared
  -- of calls one after the other, where the sums are true to begin with
  pub answered : (n : ℕ) (c : Chart) → IsShared n c.shared → AreTrue n c → (cs : List Call)
      → answers on_chart cs c ≡ answers on_table cs c.shared
  pub left : (n : ℕ) (c : Chart) → IsShared n c.shared → AreTrue n c → (cs : List Call)
      → (after on_chart cs c).shared ≡ after on_table cs c.shared
  pub sees : (n : ℕ) (c : Chart) → IsShared n c.shared → AreTrue n c → (d : ℕ) (t : TriangleCode)
      → (cs : List Call) → seen on_chart d t cs c ≡ seen on_table d t cs c.shared

-- "At degrees 1 to 6 the total over all parents equals the count and sum of readings present according to the history
-- of calls from a fresh table"
pub record Totals : Type 0 where
  pub count : (n : ℕ) → 1 ≤ n → n ≤ 6 → (cs : List Call)
      → (let c = fresh_chart n in
      sum (after on_chart cs c).coarse.counts ≡ length (present_by n (told_by cs (answers on_chart cs c) no_readings)))
  pub total : (n : ℕ) → 1 ≤ n → n ≤ 6 → (cs : List Call)
      → (let c = fresh_chart n in
      sum (after on_chart cs c).coarse.sums ≡ sum (present_by n (told_by cs (answers on_chart cs c) no_readings)))
  -- and of any table whose sums are true, those of the readings in its list
  pub counted : (n : ℕ) (c : Chart) → 1 ≤ n → IsShared n c.shared → AreTrue n c
      → sum c.coarse.counts ≡ length (present c.shared.readings)
  pub summed : (n : ℕ) (c : Chart) → 1 ≤ n → IsShared n c.shared → AreTrue n c
      → sum c.coarse.sums ≡ sum (present c.shared.readings)

-- 2026-07's "What desk 1 sees of its own triangles doesn't depend on desk 2's calls between its taking one and giving
-- it back", on any four lists: also where other parents' sums are wrong.
pub record Apart : Type 0 where
  pub after_taking : (d b n : ℕ) (t : TriangleCode) (c : Chart) (before xs ys : List Call)
      → (d ≡ b → ⊥) → refuse_kept Taking d n t (after on_chart before c) ≡ 0 → without b xs ≡ without b ys
      → (let taken = after on_chart (before ++ (does Taking d n t ∷ [])) c in
      seen on_chart d t xs taken ≡ seen on_chart d t ys taken)
