-- Document 02, 2026-14: what the two functions for marks themselves say, as grid/specs/CallContracts.antt has it of document
-- 01's. Assumes nothing.
use Rattle.std.specs.Prelude.{ℕ, Result}
use contract.Lifetimes.{Lfts}
use Rattle.frame.specs.declared.Refusal.{Refusal}
use Rattle.frame.specs.Promises.{Says}
use Rattle.words.specs.declared.TriangleCode.{TriangleCode}
use Rattle.tables.specs.declared.TableRefusal.{TableRefusal}
use Rattle.marks.specs.Answers.{mark_told, edge_mark_told, TableMarkAnswer, EdgeMarkAnswer}
use Rattle.marks.specs.declared.Mark.{Mark}
use Rattle.contracts.specs.Soundings.{Readings}
use Rattle.marks.proofs.table_mark.Reads as table_mark_call
use Rattle.marks.proofs.edge_mark.Reads as edge_mark_call

-- The calls in the order of `OneAnswer`, for any arguments and any result.
pub record Contracts : Type 0 where
  pub table : (κs : Lfts 1) (n : ℕ) (t : TriangleCode) (list new : Readings) (r : Result Mark TableRefusal)
      → Says (table_mark_call.Asked κs (n, (t, (list, tt))))
      (table_mark_call.Learnt κs (n, (t, (list, tt))) r (n, (t, (new, tt)))) (TableMarkAnswer n t list.now (mark_told r))
  pub edge : (κs : Lfts 0) (t : TriangleCode) (k : ℕ) (r : Result Mark Refusal)
      → Says (edge_mark_call.Asked κs (t, (k, tt))) (edge_mark_call.Learnt κs (t, (k, tt)) r (t, (k, tt)))
      (EdgeMarkAnswer t k (edge_mark_told r))
