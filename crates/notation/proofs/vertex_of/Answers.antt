-- By the side of the domain of which the corner is the base vertex; or a pole, which its weight tells. Assumes nothing.
use mathlib.Core.Path.{◌≡◌, ◌∙◌, sym, ap}
use Prim.Native.Nat.{◌^◌}
use native.Mathlib.Omega.{arith}
use lib.ListN.{get_or, length, take}
use lib.Pow.{pow_mono}
use lib.Seq.{get_or-take, length-take-le}
use Rattle.net.specs.Means.Paths.{path_up}
use Rattle.net.specs.Means.Spreads.{point_in}
use Rattle.net.proofs.StateCode.{low_by}
use Rattle.net.proofs.Totals.{total}
use Rattle.notation.specs.Means.Directions.{base_state, is_base}
use Rattle.notation.proofs.BaseSides.{BaseIn}
use Rattle.notation.proofs.Spelling.{base_in, by_base, by_pole, pole_0, pole_1}
use Rattle.notation.proofs.Vertices.{base_total}
use Rattle.notation.proofs.vertex_of.Goals as goal
use Rattle.notation.proofs.vertex_of.Goals.{After-base_side, After-base_state-state, In-Some}

pub base_side-requires : goal.base_side-requires
base_side-requires c =
    let p = pow_mono {i = c.args.n} {j = 24} c.requires.1 in
    (c.requires.0, omega (arith, p, c.power.ensures), c.requires.2 ∙ sym c.power.ensures)

-- the first weight, of all and of the twelve
first-weight : (c : After-base_side) → let w = c.args.weights.now in
    get_or (take 12 w) 0 0 ≡ get_or w 0 0
first-weight c = get_or-take 12 c.args.weights.now 0 0 (omega arith)

pub returns-then-weights-eq0 : goal.returns-then-weights-eq0
returns-then-weights-eq0 c =
    let a = c.args in
    let x = (goal.at.returns-then-weights-eq0 c).After-base_side in
    by_pole a.n 1 (rw c.in_default.is at c.base_side.ensures) (λ s p h k e y. pole_1 a.n s p h k e y (first-weight x ∙ c.if-weights-eq0.true))

pub returns-else-weights-eq0 : goal.returns-else-weights-eq0
returns-else-weights-eq0 c =
    let a = c.args in
    let x = (goal.at.returns-else-weights-eq0 c).After-base_side in
    by_pole a.n 0 (rw c.in_default.is at c.base_side.ensures) (λ s p h k e y. pole_0 a.n s p h k e y (λ z. c.if-weights-eq0.false (sym (first-weight x) ∙ z)))

-- a side was found
found : (c : In-Some) → BaseIn (take 12 c.args.weights.now) c.in-Some.s
found c = base_in c.in-Some.ensures

pub base_state-state-requires : goal.base_state-state-requires
base_state-state-requires c =
    let x = found (goal.at.base_state-state-requires c).In-Some in
    (x.a_side.1, ap (is_base c.in-Some.s) c.point_on.ensures ∙ x.based)

-- the domain, and its total
state : (c : After-base_state-state) → let w = c.args.weights.now in
    let s = c.in-Some.s in
    c.base_state-state.result ≡ base_state s (point_in s (take 12 w))
state c = c.base_state-state.ensures ∙ ap (base_state c.in-Some.s) c.point_on.ensures

twelve : (c : In-Some) → length (take 12 c.args.weights.now) ≡ 12
twelve c = length-take-le 12 c.args.weights.now c.requires.0

whole : (c : In-Some) → let a = c.args in let s = c.in-Some.s in
    total (base_state s (point_in s (take 12 a.weights.now))) ≡ 2 ^ a.n
whole c = base_total c.args.n _ _ (twelve c) c.requires.2 (found c)

pub path-requires : goal.path-requires
path-requires c =
    let p = pow_mono {i = c.args.n} {j = 24} c.requires.1 in
    let x = goal.at.path-requires c in
    (c.requires.1, low_by (2 ^ 24) c.base_state-state.result (omega (arith, p, ap total (state x.After-base_state-state) ∙ whole x.In-Some)))

pub returns : goal.returns
returns c =
    let x = goal.at.returns c in
    by_base c.args.n _ (take 12 c.args.weights.now) (twelve x.In-Some) c.requires.2 (found x.In-Some)
    (c.path.ensures ∙ ap (path_up c.args.n) (state x.After-base_state-state)) c.directions_of.ensures
