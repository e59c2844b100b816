-- `knots::rings::around` meets its contract, inside the side and over the seam (WordSteps). Assumes nothing.
use mathlib.Core.Path.{◌≡◌, ◌∙◌, ap}
use native.Mathlib.Omega.{arith}
use Prim.Native.Nat.{ℕ, ◌+◌, ◌-◌, ◌*◌, ◌^◌}
use Rattle.words.specs.Words.{degree_of}
use Rattle.net.specs.Sides.{OneToThree}
use Rattle.net.specs.Means.Flags.{span_of}
use Rattle.net.proofs.WordSteps.{unit_small, times_fit, around_edge, around_inside, around_over}
use Rattle.knots.proofs.rings.around.Goals as goal
use Rattle.knots.proofs.rings.around.Lts as lts
use Rattle.knots.proofs.rings.around.Reads as reads
use Rattle.knots.proofs.rings.around.Tie as tie

abbrev After-next_of-k : Type 0
After-next_of-k = lts.After-next_of tie.the-claims reads.Pre reads.Post

abbrev After-span_of-x : Type 0
After-span_of-x = lts.After-span_of tie.the-claims reads.Pre reads.Post

edge : (c : After-next_of-k) → OneToThree c.next_of-k.result
edge c = around_edge c.args.r c.requires.0 c.next_of-k.ensures

pub span_of-x-requires : goal.span_of-x-requires
span_of-x-requires c = (edge c, rw c.requires.1 (unit_small (degree_of c.args.r)))

pub overflow_mul-result : goal.overflow_mul-result
overflow_mul-result c = omega (
  arith,
  times_fit {x = c.span_of-x.result + 1} (edge c.before.before)
      (omega (arith, c.if-x-lt-ABOVE.true)),
)

-- the span_of, where the unit digit stands
spans : (c : After-span_of-x)
    → c.span_of-x.result ≡ span_of c.args.r
    (2 ^ (54 - 2 * degree_of c.args.r))
    c.next_of-k.result
spans c = c.span_of-x.ensures ∙ ap (λ (l : ℕ). span_of c.args.r l c.next_of-k.result)
    c.requires.1

pub returns-then-x-lt-ABOVE : goal.returns-then-x-lt-ABOVE
returns-then-x-lt-ABOVE c =
    around_inside c.args.r c.requires.0 c.next_of-k.ensures (spans c.before) c.if-x-lt-ABOVE.true

pub over_seam-requires : goal.over_seam-requires
over_seam-requires c = (c.requires.0, edge c.before.before)

pub returns : goal.returns
returns c =
    c.over_seam.ensures
    ∙ around_over c.args.r c.requires.0 c.next_of-k.ensures (spans c.before.before)
    (λ h. omega (arith, h, c.if-x-lt-ABOVE.false))
