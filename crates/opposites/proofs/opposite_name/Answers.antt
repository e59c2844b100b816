-- What checking the name refuses; else the least name of the exchanged corner of the opposite triangle (Calls). Assumes
-- nothing.
use mathlib.Core.Path.{◌≡◌, sym, ◌∙◌, ap}
use Prim.Native.Nat.{ℕ}
use native.Mathlib.Omega.{arith}
use Rattle.frame.proofs.Told.{handed_on}
use Rattle.words.specs.Refusals.{check_code}
use Rattle.words.specs.Words.{corner_number}
use Rattle.words.specs.declared.CornerName.{CornerName}
use Rattle.words.specs.declared.TriangleCode.{TriangleCode}
use Rattle.net.specs.Corners.{code_inside}
use Rattle.net.specs.Refusals.{check_name}
use Rattle.net.specs.Sides.{OneToThree}
use Rattle.net.proofs.Canonical.{name_means}
use Rattle.net.proofs.WordSteps.{numbered_fields, numbered_fits}
use Rattle.filing.specs.Means.Opposites.{opposite_of}
use Rattle.filing.proofs.OppositeCorners.{opposite_code}
use Rattle.opposites.specs.Opposites.{exchanged}
use Rattle.opposites.proofs.Calls.{name_answers}
use Rattle.opposites.proofs.Opposing.{exchanged_three}
use Rattle.opposites.proofs.opposite_name.Goals as goal

pub returns-in_err-check_name : goal.returns-in_err-check_name
returns-in_err-check_name c = handed_on _ _ _ c.from_residual.ensures c.in_err-check_name.ensures

pub code_inside-requires : goal.code_inside-requires
code_inside-requires c = ((name_means _).0 (sym c.in_ok-check_name.ensures)).0

pub opposite-there-requires : goal.opposite-there-requires
opposite-there-requires c =
    let x = ((name_means _).0 (sym c.in_ok-check_name.ensures)).1 in
    (rw c.code_inside.ensures x.code.passes, x.number)

-- the opposite triangle, and the exchanged number
module _ (q : CornerName) (z : 0 ≡ check_name q) {t there : TriangleCode} {k : ℕ} (inside : t ≡ code_inside q)
    (code : there ≡ opposite_of t) (number : k ≡ exchanged (corner_number q.0)) where
  code_is : there ≡ opposite_of (code_inside q)
  code_is = code ∙ ap opposite_of inside

  passes : (check_code there ≡ 0) × OneToThree k
  passes =
      let x = ((name_means _).0 (sym z)).1 in
      (rw code_is (opposite_code x.code).passes, rw number (exchanged_three _ x.number))

pub overflow_add-name : goal.overflow_add-name
overflow_add-name c =
    let e = c.opposite-there.ensures in
    let p = passes _ c.in_ok-check_name.ensures c.code_inside.ensures e.0 e.1 in
    omega (arith, numbered_fits _ p.0 _ p.1)

pub least_name-least-requires : goal.least_name-least-requires
least_name-least-requires c =
    let e = c.opposite-there.ensures in
    let p = passes _ c.in_ok-check_name.ensures c.code_inside.ensures e.0 e.1 in
    numbered_fields _ p.0 _ p.1

pub returns : goal.returns
returns c =
    let e = c.opposite-there.ensures in
    name_answers _ (sym c.in_ok-check_name.ensures)
    (code_is _ c.in_ok-check_name.ensures c.code_inside.ensures e.0 e.1) e.1 c.least_name-least.ensures
