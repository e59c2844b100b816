-- The refusals in turn; the code of the corner's twelve weights, and its digits laid behind a and p (ToPaper). Assumes
-- nothing.
use mathlib.Core.Path.{◌≡◌, sym}
use mathlib.Core.List.{[], ◌∷◌}
use Prim.Native.Nat.{ℕ, ◌≤◌}
use native.Mathlib.Omega.{arith}
use lib.ListN.{length-set, length-take, length-drop}
use Rattle.frame.proofs.Answering.{refusing}
use Rattle.frame.proofs.Told.{number_some, handed_lent}
use Rattle.words.specs.Words.{degree_of}
use Rattle.words.specs.declared.CornerName.{CornerName}
use Rattle.net.specs.Refusals.{check_name}
use Rattle.net.proofs.Canonical.{name_means}
use Rattle.paper.proofs.ToPaper.{laid_long, name_degree, vertex_answers, vertex_same, vertex_then, weights_sum}
use Rattle.paper.proofs.to_vertex.Goals as goal

pub returns-in_err-check_name : goal.returns-in_err-check_name
returns-in_err-check_name c =
    handed_lent _ _ _ c.from_residual.ensures ((vertex_then _ _).first c.in_err-check_name.ensures (number_some _))

pub returns-then-out-lt-VERTEX_PLACES : goal.returns-then-out-lt-VERTEX_PLACES
returns-then-out-lt-VERTEX_PLACES c = refusing ((vertex_then _ _).nine (sym c.in_ok-check_name.ensures) (omega arith)) (λ e. omega arith)

degree_low : (q : CornerName) {n : ℕ} → n ≡ degree_of q.0 → 0 ≡ check_name q → n ≤ 24
degree_low q e z = omega (arith, e, name_degree q (sym z))

pub code_inside-requires : goal.code_inside-requires
code_inside-requires c = ((name_means _).0 (sym c.in_ok-check_name.ensures)).0

pub write_corner-requires : goal.write_corner-requires
write_corner-requires c =
    let x = ((name_means _).0 (sym c.in_ok-check_name.ensures)).1 in
    (rw c.code_inside.ensures x.code.passes, x.number, omega arith)

pub vertex_of-code-requires : goal.vertex_of-code-requires
vertex_of-code-requires c =
    let z = sym c.in_ok-check_name.ensures in (
      omega (arith, c.write_corner.auto.out),
      degree_low c.args.q c.degree_of-n.ensures c.in_ok-check_name.ensures,
      weights_sum _ z _ c.code_inside.ensures c.write_corner.ensures c.degree_of-n.ensures,
    )

pub bounds-out-1 : goal.bounds-out-1
bounds-out-1 c = simp length-set (omega arith)

pub slice_bounds-put_digits-count : goal.slice_bounds-put_digits-count
slice_bounds-put_digits-count c = simp length-set (omega arith)

pub slice_bounds-put_digits-start : goal.slice_bounds-put_digits-start
slice_bounds-put_digits-start c = simp length-set (omega arith)

pub put_digits-requires : goal.put_digits-requires
put_digits-requires c =
    simp (length-take, length-drop, length-set) (omega (arith, degree_low c.args.q c.degree_of-n.ensures c.in_ok-check_name.ensures))

pub shape_of-out : goal.shape_of-out
shape_of-out c =
    let x = c.vertex_of-code.result in
    laid_long (x.a ∷ x.p ∷ []) c.args.out.now
    c.put_digits.new.out c.put_digits.auto.out

pub returns : goal.returns
returns c =
    let z = sym c.in_ok-check_name.ensures in
    let a = c.args in
    vertex_answers a.q a.out.now c.vertex_of-code.result c.degree_of-n.result _ z (omega arith)
    (vertex_same _ z _ c.code_inside.ensures c.write_corner.ensures c.vertex_of-code.result
    c.degree_of-n.ensures c.vertex_of-code.ensures)
    c.put_digits.ensures
