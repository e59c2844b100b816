-- The refusals in turn; the weights of the corner named over the list (Calls). Assumes nothing.
use mathlib.Core.Path.{refl, sym, ◌∙◌, ap}
use native.Mathlib.Omega.{arith}
use Rattle.frame.specs.Answers.{over}
use Rattle.frame.proofs.Answering.{refusing, answering}
use Rattle.frame.proofs.Told.{number_some, handed_lent}
use Rattle.words.specs.Words.{corner_number}
use Rattle.words.specs.declared.TriangleCode.{TriangleCode}
use Rattle.words.proofs.Codes.{name_code, name_passes}
use Rattle.net.specs.Corners.{corner}
use Rattle.net.proofs.Canonical.{name_means}
use Rattle.corners.proofs.Refused.{name_weights_then}
use Rattle.twelves.proofs.weights_of_name.Goals as goal

pub returns-in_err-check_name : goal.returns-in_err-check_name
returns-in_err-check_name c =
    handed_lent _ _ _ c.from_residual.ensures ((name_weights_then _ _).first c.in_err-check_name.ensures (number_some _))

pub returns-then-out-lt-WEIGHTS : goal.returns-then-out-lt-WEIGHTS
returns-then-out-lt-WEIGHTS c =
    refusing ((name_weights_then _ _).nine (sym c.in_ok-check_name.ensures) (omega arith)) (λ e. omega arith)

pub code_inside-requires : goal.code_inside-requires
code_inside-requires c = ((name_means _).0 (sym c.in_ok-check_name.ensures)).0

pub write_corner-requires : goal.write_corner-requires
write_corner-requires c =
    let fields = ((name_means _).0 (sym c.in_ok-check_name.ensures)).0 in
    let p = (name_passes _).0 fields in
    (rw c.code_inside.ensures (name_code _ fields).passes, (p.2, p.3), omega arith)

pub returns : goal.returns
returns c =
    let a = c.args in
    answering ((name_weights_then _ _).passes.1 (sym c.in_ok-check_name.ensures, omega arith)) (
      refl,
      c.write_corner.ensures ∙ ap (λ (t : TriangleCode).
          over (corner t (corner_number a.r.0)) a.out.now) c.code_inside.ensures,
    )
