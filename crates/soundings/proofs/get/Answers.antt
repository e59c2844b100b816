-- Checked, then read (Answering). Assumes nothing.
use mathlib.Core.Path.{◌≡◌, ◌∙◌, ap}
use mathlib.Core.Bool.{false}
use native.Mathlib.Omega.{arith}
use lib.ListN.{get_or}
use lib.IntN.{pos}
use mir.Syntax.{w32}
use mir.ValLaws.{to_z-of_z}
use Rattle.words.specs.Counting.{place_of}
use Rattle.tables.specs.Tables.{none, said}
use Rattle.tables.specs.Answers.{sounding_answer}
use Rattle.frame.proofs.Answering.{answering}
use Rattle.frame.proofs.Scanning.{in_range}
use Rattle.words.proofs.CodeCount.{place_fits}
use Rattle.tables.proofs.Refused.{Passed, call_passed}
use Rattle.tables.proofs.Told.{told_none}
use Rattle.soundings.proofs.get.Goals as goal
use Rattle.soundings.proofs.get.Goals.{In_ok-refuse_call}

known : (c : In_ok-refuse_call) → (let a = c.args in Passed a.degree a.t a.list.now)
known c =
    let a = c.args in
    (call_passed a.degree a.t a.list.now false (told_none a.list.now c.in_ok-refuse_call.ensures)).0

pub place_of-i-requires : goal.place_of-i-requires
place_of-i-requires c = (known (goal.at.place_of-i-requires c).In_ok-refuse_call).code.passes

pub offset_bounds-list-i : goal.offset_bounds-list-i
offset_bounds-list-i c =
    omega (arith, place_fits (known (goal.at.offset_bounds-list-i c).In_ok-refuse_call).code, c.place_of-i.ensures)

pub bounds-list-i : goal.bounds-list-i
bounds-list-i c = omega (arith, (known (goal.at.bounds-list-i c).In_ok-refuse_call).in_list, c.place_of-i.ensures)

pub returns : goal.returns
returns c =
    let list = c.args.list.now in
    let x = get_or list c.place_of-i.result (pos 0) in
    let q : c.said_of.result ≡ said x =
    rw (to_z-of_z w32 x (record { sfits = c.said_of-arg-1.given })) at c.said_of.ensures in
    let h = (known (goal.at.returns c).In_ok-refuse_call).in_list in
    answering (told_none list c.in_ok-refuse_call.ensures)
    (ap (sounding_answer 0 0) (q ∙ ap (λ i. said (get_or list i (pos 0))) c.place_of-i.ensures
    ∙ ap said (in_range list (place_of c.args.t) (pos 0) none h)))
