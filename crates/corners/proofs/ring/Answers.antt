-- The refusals in turn; how many places the corner's weights give, and the walk from the name (RingCalls). Assumes
-- nothing.
use mathlib.Core.Path.{sym, ◌∙◌, ap}
use native.Mathlib.Omega.{arith}
use Rattle.frame.proofs.Answering.{refusing}
use Rattle.frame.proofs.Told.{number_some, handed_lent}
use Rattle.words.specs.Words.{corner_number}
use Rattle.words.specs.declared.TriangleCode.{TriangleCode}
use Rattle.net.specs.Means.States.{point_of, state_of}
use Rattle.net.proofs.Canonical.{name_means}
use Rattle.net.proofs.CodePlaces.{digits_in}
use Rattle.corners.proofs.Refused.{ring_then}
use Rattle.net.proofs.RingLists.{count_least, count_most}
use Rattle.corners.proofs.RingCalls.{code_passes, name_number, ring_answers}
use Rattle.corners.proofs.ring.Goals as goal

pub returns-in_err-check_name : goal.returns-in_err-check_name
returns-in_err-check_name c =
    handed_lent _ _ _ c.from_residual.ensures ((ring_then _ _).first c.in_err-check_name.ensures (number_some _))

pub returns-then-out-lt-TRIANGLES : goal.returns-then-out-lt-TRIANGLES
returns-then-out-lt-TRIANGLES c =
    refusing ((ring_then _ _).nine (sym c.in_ok-check_name.ensures) c.if-out-lt-TRIANGLES.true) (λ e. omega arith)

pub code_inside-requires : goal.code_inside-requires
code_inside-requires c = ((name_means _).0 (sym c.in_ok-check_name.ensures)).0

pub point_of-requires : goal.point_of-requires
point_of-requires c = let z = sym c.in_ok-check_name.ensures in
    (rw c.code_inside.ensures (code_passes _ z), name_number _ z)

pub write_ring-requires : goal.write_ring-requires
write_ring-requires c =
    let p = c.point_of.result in
    let n = c.ring_count-m.ensures in (
      ((name_means _).0 (sym c.in_ok-check_name.ensures)).0,
      count_least p n,
      omega (arith, count_most p n, c.if-out-lt-TRIANGLES.false),
    )

pub returns : goal.returns
returns c =
    let r = c.args.r in
    ring_answers r (sym c.in_ok-check_name.ensures) _ _ _ _ c.if-out-lt-TRIANGLES.false
    (c.point_of.ensures ∙ ap (λ (t : TriangleCode). point_of (corner_number r.0) (state_of (digits_in t)))
    c.code_inside.ensures)
    c.ring_count-m.ensures c.write_ring.ensures
