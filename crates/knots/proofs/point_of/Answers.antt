-- `knots::point_of` meets its contract: the path of a code's digits leads to their state (`StateCode`). Assumes
-- nothing.
use mathlib.Core.Path.{sym, ◌∙◌, ap, subst}
use Prim.Native.Nat.{◌^◌, ◌≤◌}
use Rattle.words.proofs.Codes.{code_degree, is_code}
use Rattle.net.specs.Means.States.{Low, point_of}
use Rattle.net.proofs.StateCode.{code_path, code_state, low_24}
use Rattle.knots.proofs.point_of.Goals as goal
use Rattle.knots.proofs.point_of.Lts as lts
use Rattle.knots.proofs.point_of.Reads as reads
use Rattle.knots.proofs.point_of.Tie as tie

abbrev After-degree_of-n : Type 0
After-degree_of-n = lts.After-degree_of tie.the-claims reads.Pre reads.Post

degree : (c : After-degree_of-n) → c.degree_of-n.result ≤ 24
degree c = rw c.degree_of-n.ensures (code_degree (is_code c.args.t c.requires.0))

pub path_of-requires : goal.path_of-requires
path_of-requires c = degree c

pub state_of-requires : goal.state_of-requires
state_of-requires c =
    (degree c.before, code_path c.args.t c.degree_of-n.ensures c.path_of.ensures)

pub corner-requires : goal.corner-requires
corner-requires c =
    (c.requires.1, subst (Low (2 ^ 24)) (sym c.state_of.ensures) (low_24 _ _ (degree c.before.before)))

pub returns : goal.returns
returns c =
    let a = c.args in
    let e = code_state a.t c.degree_of-n.ensures c.path_of.ensures in
    c.corner.ensures ∙ ap (point_of a.i) (c.state_of.ensures ∙ e)
