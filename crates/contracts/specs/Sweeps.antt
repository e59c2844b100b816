-- Document 02, 2026-04: what the function of a sweep itself says, as grid/specs/CallContracts.antt has it of document 01's.
-- Assumes nothing.
use Rattle.std.specs.Prelude.{List, ℕ, ℤ, Option, Result}
use contract.Lifetimes.{Lfts}
use Rattle.std.specs.Borrow.{Bor}
use Rattle.frame.specs.declared.Refusal.{Refusal}
use Rattle.frame.specs.Promises.{Says}
use Rattle.grid.specs.CallContracts.{Room}
use Rattle.sweeps.specs.Answers.{sweep_told, SweepResult}
use Rattle.sweeps.specs.declared.Unfiled.{Unfiled}
use Rattle.sweeper.proofs.sweep.Reads as sweep_call

-- For any arguments, any result, and a list of codes left with any contents.
pub record Contracts : Type 0 where
  pub sweep : (κs : Lfts 2) (n : ℕ) (dirs dirs' : Bor (List ℤ)) (codes new : Room)
      (r : Result (Option Unfiled) Refusal)
      → Says (sweep_call.Asked κs (n, (dirs, (codes, tt))))
      (sweep_call.Learnt κs (n, (dirs, (codes, tt))) r (n, (dirs', (new, tt))))
      (SweepResult n dirs.now codes.now (sweep_told r) new.now)
