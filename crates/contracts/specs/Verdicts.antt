-- Document 02, 2026-09: what the functions by which the program has its line themselves say. They ask for room in the
-- lent bytes, and for nothing else. Assumes nothing.
use Rattle.std.specs.Prelude.{◌↔◌, ℕ, ◌≤◌, length}
use contract.Lifetimes.{Lfts}
use Rattle.grid.specs.CallContracts.{Slice, Room}
use Rattle.verdicts.specs.Program.{line}
use Rattle.verdicts.specs.Files.{TakesIn, WritesOf}
use Rattle.verdicts.proofs.take_in.Reads as take_call
use Rattle.verdicts.proofs.put_line.Reads as put_call

-- For any arguments, any result, and lent bytes left with any contents.
pub record Contracts : Type 0 where
  pub take_in : (κs : Lfts 2) (next next' : Slice) (head head' : Room) (size r : ℕ)
      → (take_call.Asked κs (next, (head, (size, tt))) ↔ (32768 ≤ length head.now))
      × (take_call.Learnt κs (next, (head, (size, tt))) r (next', (head', (size, tt)))
      ↔ TakesIn next.now head.now size head'.now r)
  pub put_line : (κs : Lfts 2) (head head' : Slice) (out out' : Room) (size r : ℕ)
      → (put_call.Asked κs (head, (size, (out, tt))) ↔ ((32768 ≤ length head.now) × (55 ≤ length out.now)))
      × (put_call.Learnt κs (head, (size, (out, tt))) r (head', (size, (out', tt)))
      ↔ WritesOf line 55 head.now size r out.now out'.now)
