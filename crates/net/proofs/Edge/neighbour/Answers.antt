-- `net::Edge::neighbour` meets its contract, inside the side and over the seam (WordSteps). Assumes nothing.
use mathlib.Core.Path.{◌≡◌, ◌∙◌, ap}
use native.Mathlib.Omega.{arith}
use Prim.Native.Nat.{ℕ, ◌-◌, ◌*◌, ◌^◌}
use Rattle.words.proofs.Codes.{code_degree, is_code}
use Rattle.words.specs.Words.{degree_of}
use Rattle.net.specs.Means.Flags.{span_of}
use Rattle.net.proofs.WordSteps.{across_inside, across_seam, unit_small, numbered_fields, numbered_fits}
use Rattle.net.proofs.WordSteps.{times_fit}
use Rattle.net.proofs.Edge.neighbour.Goals as goal
use Rattle.net.proofs.Edge.neighbour.Lts as lts
use Rattle.net.proofs.Edge.neighbour.Reads as reads
use Rattle.net.proofs.Edge.neighbour.Tie as tie

abbrev After-span_of-x : Type 0
After-span_of-x = lts.After-span_of tie.the-claims reads.Pre reads.Post

pub unit_of-requires : goal.unit_of-requires
unit_of-requires c = code_degree (is_code c.args.self.code c.requires.0)

pub span_of-x-requires : goal.span_of-x-requires
span_of-x-requires c = (
  c.requires.1,
  rw c.unit_of.ensures
      (unit_small (degree_of c.args.self.code.0)),
)

pub overflow_mul-result : goal.overflow_mul-result
overflow_mul-result c = omega (
  arith,
  times_fit {x = c.span_of-x.result} c.requires.1
      (omega (arith, c.if-x-lt-ABOVE.true)),
)

-- the span_of, where the last digit stands
spans : (c : After-span_of-x) →
    c.span_of-x.result ≡ span_of c.args.self.code.0 (2 ^ (54 - 2 * degree_of c.args.self.code.0))
    c.args.self.number
spans c = c.span_of-x.ensures
    ∙ ap (λ (l : ℕ). span_of c.args.self.code.0 l c.args.self.number) c.unit_of.ensures

pub returns-then-x-lt-ABOVE : goal.returns-then-x-lt-ABOVE
returns-then-x-lt-ABOVE c =
    across_inside c.args.self.code c.requires.0 c.args.self.number c.requires.1 (spans c.before)
    c.if-x-lt-ABOVE.true

pub overflow_add-w : goal.overflow_add-w
overflow_add-w c =
    omega (arith, numbered_fits c.args.self.code c.requires.0 c.args.self.number c.requires.1)

pub over_seam-r-requires : goal.over_seam-r-requires
over_seam-r-requires c =
    (numbered_fields c.args.self.code c.requires.0 c.args.self.number c.requires.1, c.requires.1)

pub returns : goal.returns
returns c =
    across_seam c.args.self.code c.requires.0 c.args.self.number c.requires.1 (spans c.before.before)
    (λ h. omega (arith, h, c.if-x-lt-ABOVE.false)) c.over_seam-r.ensures
