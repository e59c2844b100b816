-- A pole or not, and the corner of its domain (VertexNames). Assumes nothing.
use mathlib.Core.Path.{◌≡◌, refl, sym, subst}
use mathlib.Core.List.{List, ◌∷◌}
use Prim.Native.Nat.{ℕ, ◌*◌, ◌^◌, ◌≤◌, ◌<◌}
use native.Mathlib.Omega.{arith}
use Rattle.corners.specs.Answers.{NameAnswer}
use Rattle.paper.specs.Answers.{FromVertexAnswer}
use Rattle.paper.proofs.VertexNames.{a_pole, a_ring, low, not_pole, small}
use Rattle.paper.proofs.vertex_name.Goals as goal
use Rattle.paper.proofs.vertex_name.Lts as lts
use Rattle.paper.proofs.vertex_name.Reads as reads
use Rattle.paper.proofs.vertex_name.Tie as tie

abbrev After-parts_of-base : Type 0
After-parts_of-base = lts.After-parts_of tie.the-claims reads.Pre reads.Post

-- a is 0: what is said of a list that begins with 0
polar : {a p : ℕ} {ss : List ℕ} {r : NameAnswer} → a ≡ 0 → FromVertexAnswer (0 ∷ p ∷ ss) r
    → FromVertexAnswer (a ∷ p ∷ ss) r
polar {p = p} {ss = ss} {r = r} e = subst (λ (a : ℕ). FromVertexAnswer (a ∷ p ∷ ss) r) (sym e)

pub returns-then-v-ne0 : goal.returns-then-v-ne0
returns-then-v-ne0 c =
    polar c.if-a-eq0.true
    (not_pole c.args.p c.args.n c.args.v c.requires.1 c.requires.2 c.requires.3 c.if-v-ne0.true
    refl)

pub returns-then-a-eq0 : goal.returns-then-a-eq0
returns-then-a-eq0 c =
    polar c.if-a-eq0.true
    (a_pole c.args.p c.args.n c.args.v c.requires.1 c.requires.2 c.if-v-ne0.false c.power.ensures
    (record { number = refl; is = c.name_at.ensures }))

-- what is known of the domain
base-low : (c : After-parts_of-base) → c.parts_of-base.result.orientation ≤ 1
base-low c =
    let a = c.args in
    low a.a a.p a.n a.v c.parts_of-base.ensures

base-small : (c : After-parts_of-base) → c.parts_of-base.result.path < 2 ^ (2 * c.args.n)
base-small c =
    let a = c.args in
    small a.a a.p a.n a.v c.parts_of-base.ensures

pub overflow_add-s-2 : goal.overflow_add-s-2
overflow_add-s-2 c = omega (arith, base-low c.before)

pub name_at-requires-2 : goal.name_at-requires-2
name_at-requires-2 c =
    ((omega (arith, c.if-a-eq0.false), omega (arith, base-low c.before, c.requires)), c.requires.2, base-small c.before, omega arith)

pub returns : goal.returns
returns c =
    a_ring c.args.a c.args.p c.args.n c.args.v c.parts_of-base.ensures
    (omega (arith, c.if-a-eq0.false)) c.requires.0 c.requires.1 c.requires.2 (record { number = refl; is = c.name_at-2.ensures })
