-- The refusals in turn; a, p and q in the first three places, and the digits laid behind them (ToPaper). Assumes
-- nothing.
use mathlib.Core.Path.{◌≡◌, sym}
use mathlib.Core.List.{[], ◌∷◌}
use Prim.Native.Nat.{ℕ, ◌/◌, ◌%◌, ◌≤◌}
use native.Mathlib.Omega.{arith}
use lib.ListN.{length-set, length-take, length-drop}
use Rattle.frame.proofs.Answering.{refusing}
use Rattle.frame.proofs.Told.{number_some, handed_lent}
use Rattle.words.specs.Refusals.{check_code}
use Rattle.words.specs.Words.{degree_of}
use Rattle.words.specs.declared.TriangleCode.{TriangleCode}
use Rattle.words.proofs.Codes.{code_degree, is_code}
use Rattle.paper.proofs.ToPaper.{domain_then, laid_long, to_answers}
use Rattle.paper.proofs.to_domain.Goals as goal

pub returns-in_err-check : goal.returns-in_err-check
returns-in_err-check c =
    handed_lent _ _ _ c.from_residual.ensures ((domain_then _ _).first c.in_err-check.ensures (number_some _))

pub returns-then-out-lt-DOMAIN_PLACES : goal.returns-then-out-lt-DOMAIN_PLACES
returns-then-out-lt-DOMAIN_PLACES c = refusing ((domain_then _ _).nine (sym c.in_ok-check.ensures) (omega arith)) (λ e. omega arith)

pub bounds-out-1 : goal.bounds-out-1
bounds-out-1 c = simp length-set (omega arith)

pub bounds-out-2 : goal.bounds-out-2
bounds-out-2 c = simp length-set (omega arith)

degree_low : (t : TriangleCode) {n : ℕ} → n ≡ degree_of t.0 → 0 ≡ check_code t → n ≤ 24
degree_low t e z = omega (arith, e, code_degree (is_code t (sym z)))

pub path_of-requires : goal.path_of-requires
path_of-requires c = degree_low c.args.t c.degree_of-n.ensures c.in_ok-check.ensures

pub slice_bounds-put_digits-count : goal.slice_bounds-put_digits-count
slice_bounds-put_digits-count c = simp length-set (omega arith)

pub slice_bounds-put_digits-start : goal.slice_bounds-put_digits-start
slice_bounds-put_digits-start c = simp length-set (omega arith)

pub put_digits-requires : goal.put_digits-requires
put_digits-requires c = simp (length-take, length-drop, length-set) (omega (arith, degree_low c.args.t c.degree_of-n.ensures c.in_ok-check.ensures))

pub shape_of-out : goal.shape_of-out
shape_of-out c =
    let s = c.side_of-s.result in
    laid_long (s / 4 ∷ s / 2 % 2 ∷ s % 2 ∷ []) c.args.out.now
    c.put_digits.new.out c.put_digits.auto.out

pub returns : goal.returns
returns c =
    let a = c.args in
    to_answers a.t a.out.now _ _ _ _ (sym c.in_ok-check.ensures) (omega arith)
    c.side_of-s.ensures c.degree_of-n.ensures c.path_of.ensures c.put_digits.ensures
