-- `knots::write_corner` meets its contract: a corner's twelve weights are those of its point (`Loads`). Assumes
-- nothing.
use mathlib.Core.Path.{◌≡◌, sym, ◌∙◌}
use native.Mathlib.Omega.{arith}
use Rattle.frame.specs.Answers.{over}
use Rattle.words.proofs.Codes.{code_side, is_code}
use Rattle.net.specs.Means.Spreads.{spread}
use Rattle.net.specs.Corners.{corner}
use Rattle.net.specs.Sides.{IsSide}
use Rattle.net.proofs.CodePlaces.{corner_at, digits_in}
use Rattle.net.proofs.Loads.{corner_is}
use Rattle.knots.proofs.write_corner.Goals as goal

pub write_weights-requires : goal.write_weights-requires
write_weights-requires c =
    let h : IsSide c.side_of.result = rw c.side_of.ensures (code_side (is_code c.args.t c.requires.0)) in
    (h, omega arith)

pub returns : goal.returns
returns c =
    let a = c.args in
    let e : spread c.side_of.result c.point_of.result ≡ corner a.t a.i =
    (λ i. spread (c.side_of.ensures i) (c.point_of.ensures i))
    ∙ sym (corner_at a.t a.i ∙ corner_is _ (digits_in a.t) a.i) in
    c.write_weights.ensures ∙ λ i. over (e i) a.out.now
