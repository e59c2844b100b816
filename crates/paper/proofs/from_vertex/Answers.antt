-- The refusals in turn, and the name of the code that was read (VertexNames). Assumes nothing.
use mathlib.Core.Path.{◌≡◌, ◌∙◌, refl, sym}
use mathlib.Core.Bool.{true, true≢false}
use mathlib.Core.List.{List}
use Prim.Native.Nat.{ℕ, ◌≤◌}
use native.Mathlib.Omega.{arith}
use lib.ListN.{get_or, length}
use Rattle.corners.specs.Answers.{no_name}
use Rattle.notation.specs.Domains.{are_digits}
use Rattle.paper.specs.Answers.{FromVertexAnswer}
use Rattle.paper.proofs.FromPaper.{digits_wrong, path_small, read_room, refused_deep, refused_wrong}
use Rattle.paper.proofs.FromPaper.{rest, rest_long}
use Rattle.paper.proofs.VertexNames.{few_places, from_read, not_begun, vertex_refusal}
use Rattle.paper.proofs.from_vertex.Goals as goal

pub returns-then-m-gt-VERTEX_PLACES : goal.returns-then-m-gt-VERTEX_PLACES
returns-then-m-gt-VERTEX_PLACES c = refused_deep (vertex_refusal _) c.if-m-gt-VERTEX_PLACES.true refl

pub returns-then-m-lt2 : goal.returns-then-m-lt2
returns-then-m-lt2 c =
    let xs = c.args.code.now in
    refused_wrong (vertex_refusal xs) c.if-m-gt-VERTEX_PLACES.false (few_places xs c.if-m-lt2.true) refl

-- a list of 2 to 26 places is refused with 33 where it does not begin as a vertex's code, or has a wrong digit
wrong : (xs : List ℕ) → 2 ≤ length xs → length xs ≤ 26
    → ((get_or xs 0 0 ≤ 5) × (get_or xs 1 0 ≤ 1) × (are_digits (rest 2 xs) ≡ true) → ⊥)
    → FromVertexAnswer xs (no_name 33)
wrong xs two short f = refused_wrong (vertex_refusal xs) short (not_begun xs two f) refl

pub returns-then-a-gt5 : goal.returns-then-a-gt5
returns-then-a-gt5 c =
    let a = c.if-a-gt5.true in
    wrong c.args.code.now c.if-m-lt2.false c.if-m-gt-VERTEX_PLACES.false (λ x. omega (arith, a, x.0))

pub returns-then-p-gt1 : goal.returns-then-p-gt1
returns-then-p-gt1 c =
    let p = c.if-p-gt1.true in
    wrong c.args.code.now c.if-m-lt2.false c.if-m-gt-VERTEX_PLACES.false (λ x. omega (arith, p, x.1))

pub read_digits-requires : goal.read_digits-requires
read_digits-requires c = read_room 2 c.args.code.now c.if-m-gt-VERTEX_PLACES.false

pub vertex_name-requires : goal.vertex_name-requires
vertex_name-requires c =
    let xs = c.args.code.now in (
      c.if-a-gt5.false,
      c.if-p-gt1.false,
      omega (arith, c.if-m-gt-VERTEX_PLACES.false),
      path_small (rest 2 xs) (sym c.in-Some.is ∙ c.read_digits.ensures) (rest_long 2 xs),
    )

pub returns : goal.returns
returns c =
    from_read c.args.code.now c.if-m-lt2.false (sym c.in-Some.is ∙ c.read_digits.ensures) c.vertex_name.ensures

pub returns-in_default : goal.returns-in_default
returns-in_default c =
    let xs = c.args.code.now in
    let w = digits_wrong (rest 2 xs) (sym c.in_default.is ∙ c.read_digits.ensures) in
    wrong xs c.if-m-lt2.false c.if-m-gt-VERTEX_PLACES.false (λ x. true≢false (sym x.2 ∙ w))
