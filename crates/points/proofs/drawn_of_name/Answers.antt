-- The drawn point, from the degree in the word and the exact coordinates (PlaceCalls). Assumes nothing.
use mathlib.Core.Path.{sym, subst}
use Prim.Native.Nat.{ℕ, ◌≤◌}
use Rattle.frame.proofs.Told.{handed_on}
use Rattle.points.proofs.PlaceCalls.{name_small, name_degree, refusal_is, none, place_small, point_answers}
use Rattle.points.proofs.drawn_of_name.Goals as goal

pub returns-in_err-coordinates_of_name : goal.returns-in_err-coordinates_of_name
returns-in_err-coordinates_of_name c = handed_on _ _ _ c.from_residual.ensures (refusal_is c.in_err-coordinates_of_name.ensures)

pub point_at-requires : goal.point_at-requires
point_at-requires c =
    let a = c.in_ok-coordinates_of_name.ensures in
    (subst (λ (n : ℕ). n ≤ 24) (sym c.degree_of.ensures) (name_degree _ (none a)), place_small a (name_small _))

pub returns : goal.returns
returns c =
    let a = c.in_ok-coordinates_of_name.ensures in
    point_answers a c.degree_of.ensures (name_degree _ (none a)) (place_small a (name_small _)) c.point_at.ensures
