-- The refusals in turn (CellBytes), then the verdict and its bytes. Assumes nothing.
use mathlib.Core.Path.{◌≡◌, ◌∙◌, sym, ap}
use mathlib.Core.List.{List, [], ◌∷◌}
use Prim.Native.Nat.{ℕ, ◌%◌, ◌≤◌}
use lib.ListN.{length}
use native.Mathlib.Omega.{arith}
use Rattle.frame.specs.Answers.{over}
use Rattle.frame.proofs.Answering.{refusing, answering}
use Rattle.octets.specs.Bytes.{bytes, words_in}
use Rattle.cells.specs.Checking.{Verdict, checked}
use Rattle.host_cells.specs.Answers.{CheckBytes}
use Rattle.host_cells.proofs.CellBytes.{check_odd, check_short, check_nothing}
use Rattle.host_cells.proofs.check.Goals as goal

pub returns-then-list-ne0 : goal.returns-then-list-ne0
returns-then-list-ne0 c = refusing (check_odd _ _ c.if-list-ne0.true) (λ z. omega (arith, z))

pub returns-then-out-lt16 : goal.returns-then-out-lt16
returns-then-out-lt16 c = refusing (check_short _ _ c.if-list-ne0.false (omega arith)) (λ z. omega (arith, z))

-- the verdict, in sixteen bytes
sent : (list out new : List ℕ) (v : Verdict) → length list % 8 ≡ 0 → 16 ≤ length out → v ≡ checked (words_in list)
    → new ≡ over (bytes 8 (v.reason ∷ v.place ∷ [])) out → CheckBytes list out 0 new
sent list out new v whole room e put =
    answering (sym (check_nothing _ _ whole room)) (λ i. (
      0,
      (put ∙ ap (λ (x : Verdict). over (bytes 8 (x.reason ∷ x.place ∷ [])) out) e) i,
    ))

pub returns-in-Ok : goal.returns-in-Ok
returns-in-Ok c =
    sent c.args.list.now c.args.out.now _ _ c.if-list-ne0.false c.if-out-lt16.false c.in-Ok.ensures c.put_two.ensures

pub returns-in-Err : goal.returns-in-Err
returns-in-Err c =
    sent c.args.list.now c.args.out.now _ _ c.if-list-ne0.false c.if-out-lt16.false c.in-Err.ensures
    (rw c.from.ensures at c.put_two-in-Err.ensures)
