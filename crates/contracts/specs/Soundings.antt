-- Document 02, 2026-03, 2026-07 and 2026-08: what the functions of a table themselves say, as grid/specs/CallContracts.antt
-- has it of document 01's. Assumes nothing.
use Rattle.std.specs.Prelude.{List, ℕ, ℤ, Result}
use contract.Lifetimes.{Lfts}
use Rattle.std.specs.Borrow.{Bor, MutBor}
use Rattle.frame.specs.Promises.{Says}
use Rattle.words.specs.declared.TriangleCode.{TriangleCode}
use Rattle.grid.specs.CallContracts.{Room}
use Rattle.tables.specs.Owners.{shared}
use Rattle.tables.specs.Tables.{Sounding}
use Rattle.tables.specs.Answers.{table_told, sounding_told, GetAnswer}
use Rattle.tables.specs.declared.TableRefusal.{TableRefusal}
use Rattle.coarse.specs.Sums.{Coarse, coarse, Chart, chart}
use Rattle.coarse.specs.Answers.{TakeAnswer, SetAnswer, ClearAnswer, GiveAnswer, WorkOutAnswer}
use Rattle.soundings.proofs.get.Reads as get_call
use Rattle.soundings.proofs.take.Reads as take_call
use Rattle.soundings.proofs.set.Reads as set_call
use Rattle.soundings.proofs.clear.Reads as clear_call
use Rattle.soundings.proofs.give.Reads as give_call
use Rattle.soundings.proofs.work_out.Reads as work_out_call

-- A lent list of signed numbers, as a call is handed it and leaves it; `now` is what it holds. It is lent to be read, or
-- to be written.
abbrev pub Readings : Type 0
Readings = Bor (List ℤ)

abbrev pub Table : Type 0
Table = MutBor (List ℤ)

-- The last arguments of a call: counts and sums, and what they hold.
abbrev pub TwoLists : Type 0
TwoLists = Room × (Room × Unit)

abbrev pub stored : TwoLists → Coarse
stored l = coarse l.0.now l.1.0.now

-- All four lists: readings, owners, and these two.
abbrev pub FourLists : Type 0
FourLists = Table × (Room × TwoLists)

abbrev pub all : FourLists → Chart
all l = chart (shared l.0.now l.1.0.now) (stored l.1.1)

-- What a call answers that writes.
abbrev pub Done : Type 0
Done = Result (Unit {0}) TableRefusal

-- For any arguments, any result, and lists left with any contents.
pub record Contracts : Type 0 where
  pub get : (κs : Lfts 1) (n : ℕ) (t : TriangleCode) (list new : Readings) (r : Result Sounding TableRefusal)
      → Says (get_call.Asked κs (n, (t, (list, tt)))) (get_call.Learnt κs (n, (t, (list, tt))) r (n, (t, (new, tt))))
      (GetAnswer n t list.now (sounding_told r))
  pub take : (κs : Lfts 4) (d n : ℕ) (t : TriangleCode) (lists new : FourLists) (r : Done)
      → Says (take_call.Asked κs (d, (n, (t, lists)))) (take_call.Learnt κs (d, (n, (t, lists))) r (d, (n, (t, new))))
      (TakeAnswer d n t (all lists) (table_told r) (all new))
  pub set : (κs : Lfts 4) (d n : ℕ) (t : TriangleCode) (x : ℤ) (lists new : FourLists) (r : Done)
      → Says (set_call.Asked κs (d, (n, (t, (x, lists)))))
      (set_call.Learnt κs (d, (n, (t, (x, lists)))) r (d, (n, (t, (x, new)))))
      (SetAnswer d n t x (all lists) (table_told r) (all new))
  pub clear : (κs : Lfts 4) (d n : ℕ) (t : TriangleCode) (lists new : FourLists) (r : Done)
      → Says (clear_call.Asked κs (d, (n, (t, lists)))) (clear_call.Learnt κs (d, (n, (t, lists))) r (d, (n, (t, new))))
      (ClearAnswer d n t (all lists) (table_told r) (all new))
  pub give : (κs : Lfts 4) (d n : ℕ) (t : TriangleCode) (lists new : FourLists) (r : Done)
      → Says (give_call.Asked κs (d, (n, (t, lists)))) (give_call.Learnt κs (d, (n, (t, lists))) r (d, (n, (t, new))))
      (GiveAnswer d n t (all lists) (table_told r) (all new))
  pub work_out : (κs : Lfts 3) (n : ℕ) (list list' : Readings) (sums new : TwoLists) (r : Done)
      → Says (work_out_call.Asked κs (n, (list, sums))) (work_out_call.Learnt κs (n, (list, sums)) r (n, (list', new)))
      (WorkOutAnswer n list.now (stored sums) (table_told r) (stored new))
