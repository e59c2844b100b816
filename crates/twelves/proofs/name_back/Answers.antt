-- The refusals in turn; a side that has all the weight, a triangle there with the corner, and the least name round it
-- (Calls, StateCode). Assumes nothing.
use mathlib.Core.Path.{◌≡◌, sym, ◌∙◌, ap}
use mathlib.Core.Bool.{true}
use mathlib.Core.List.{List}
use Prim.Native.Nat.{ℕ, ◌+◌, ◌≤◌, ◌<◌, ◌^◌}
use native.Mathlib.Nat.{lt_of_le_of_lt}
use native.Mathlib.Omega.{arith}
use lib.Dec.{eqb}
use lib.ListN.{length, take}
use lib.Pow.{pow_mono}
use borrow.Author.Tests.{eqb-true}
use Rattle.frame.proofs.Answering.{refusing}
use Rattle.net.specs.Sides.{IsSide}
use Rattle.net.specs.Division.{sum}
use Rattle.net.specs.Corners.{name_of}
use Rattle.net.specs.Refusals.{on_side}
use Rattle.net.specs.Means.Walks.{least_name, place_at}
use Rattle.net.proofs.WordSteps.{made_fields, made_fits}
use Rattle.corners.proofs.Calls.{back_one_refused, back_nine, back_sum, back_side, back_answers}
use Rattle.corners.proofs.Calls.{back_total}
use Rattle.twelves.proofs.name_back.Goals as goal
use Rattle.twelves.proofs.name_back.Goals.{After-adds_to, Else-not-adds_to, Else-weights-lt-WEIGHTS, In-Some}

pub returns-then-degree-gt24 : goal.returns-then-degree-gt24
returns-then-degree-gt24 c = refusing (back_one_refused _ _ (omega arith)) (λ e. omega arith)

pub returns-then-weights-lt-WEIGHTS : goal.returns-then-weights-lt-WEIGHTS
returns-then-weights-lt-WEIGHTS c = refusing (back_nine _ _ (omega arith) (omega arith)) (λ e. omega arith)

-- the degree and the list are in order
module _ (c : Else-weights-lt-WEIGHTS) where
  abbrev n : ℕ
  n = c.args.degree

  abbrev ws : List ℕ
  ws = c.args.weights.now

  low : n ≤ 24
  low = omega arith

  long : 12 ≤ length ws
  long = omega arith

  small : 2 ^ n < 2 ^ 25
  small = lt_of_le_of_lt (pow_mono {i = n} {j = 24} low) (omega arith)

pub adds_to-requires : goal.adds_to-requires
adds_to-requires c =
    let x = (goal.at.adds_to-requires c).Else-weights-lt-WEIGHTS in
    (long x, rw c.power-total.ensures (omega (arith, small x)))

-- whether the weights add up
adds : (c : After-adds_to) → c.adds_to.result ≡ eqb (sum (take 12 c.args.weights.now)) (2 ^ c.args.degree)
adds c = c.adds_to.ensures ∙ ap (eqb (sum (take 12 c.args.weights.now))) c.power-total.ensures

pub returns-then-not-adds_to : goal.returns-then-not-adds_to
returns-then-not-adds_to c =
    let x = goal.at.returns-then-not-adds_to c in
    let y = x.Else-weights-lt-WEIGHTS in
    refusing (back_sum (n y) (ws y) (low y) (long y) (sym (adds x.After-adds_to) ∙ c.if-not-adds_to.true)) (λ e. omega arith)

added : (c : Else-not-adds_to) → eqb (sum (take 12 c.args.weights.now)) (2 ^ c.args.degree) ≡ true
added c = sym (c.adds_to.ensures ∙ ap (eqb (sum (take 12 c.args.weights.now))) c.power-total.ensures) ∙ c.if-not-adds_to.false

pub side_of-requires : goal.side_of-requires
side_of-requires c =
    let x = goal.at.side_of-requires c in
    let y = x.Else-weights-lt-WEIGHTS in (
      long y,
      rw c.power-total.ensures (omega (arith, small y)),
      eqb-true _ _ (added x.Else-not-adds_to) ∙ sym c.power-total.ensures,
    )

pub returns-in_default : goal.returns-in_default
returns-in_default c =
    let y = (goal.at.returns-in_default c).Else-weights-lt-WEIGHTS in
    refusing (back_side (n y) (ws y) (low y) (long y) (rw c.in_default.is at c.side_of.ensures)) (λ e. omega arith)

-- the side
found : (c : In-Some) → IsSide c.in-Some.s × (on_side c.in-Some.s 0 (take 12 c.args.weights.now) ≡ true)
found c = c.in-Some.ensures

pub point_on-requires : goal.point_on-requires
point_on-requires c =
    let x = goal.at.point_on-requires c in (long x.Else-weights-lt-WEIGHTS, (found x.In-Some).0)

pub corner_at-c-requires : goal.corner_at-c-requires
corner_at-c-requires c =
    let x = goal.at.corner_at-c-requires c in
    let y = x.Else-weights-lt-WEIGHTS in
    let f = found x.In-Some in
    (low y, back_total (n y) (ws y) _ _ (long y) (added x.Else-not-adds_to) f.0 f.1 c.point_on.ensures)

pub word_of-requires : goal.word_of-requires
word_of-requires c =
    let x = goal.at.word_of-requires c in
    (omega (arith, (found x.In-Some).0.1), low x.Else-weights-lt-WEIGHTS, c.corner_at-c.ensures.0)

pub overflow_add-here : goal.overflow_add-here
overflow_add-here c =
    let e = c.corner_at-c.ensures in
    let x = goal.at.overflow_add-here c in
    let y = x.Else-weights-lt-WEIGHTS in
    rw c.word_of.ensures (omega (arith, made_fits _ (n y) _ _ (found x.In-Some).0 (low y) e.0 e.1))

pub least_name-requires : goal.least_name-requires
least_name-requires c =
    let e = c.corner_at-c.ensures in
    let x = goal.at.least_name-requires c in
    let y = x.Else-weights-lt-WEIGHTS in
    rw c.word_of.ensures (made_fields _ (n y) _ _ (found x.In-Some).0 (low y) e.0 e.1)

pub returns : goal.returns
returns c =
    let x = goal.at.returns c in
    let y = x.Else-weights-lt-WEIGHTS in
    let f = found x.In-Some in
    back_answers (n y) (ws y) _ c.corner_at-c.result _ (low y) (long y) (added x.Else-not-adds_to) f.0 f.1
    c.point_on.ensures c.corner_at-c.ensures
    (c.least_name.ensures ∙ ap (λ (x : ℕ). name_of (least_name 5 (place_at (x + c.corner_at-c.result.number))))
    c.word_of.ensures)
