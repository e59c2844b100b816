-- `holders::exact::determinants_beyond` meets its contract, role by role. Assumes nothing.
use mathlib.Core.Path.{◌≡◌, ◌∙◌}
use native.Mathlib.Omega.{arith}
use Rattle.golden.specs.Numbers.{negφ}
use Rattle.filing.specs.Holding.{three}
use Rattle.seats.specs.Means.Octants.{lean, outer}
use Rattle.seats.proofs.ExactRoles.{outer_is, opposite_is, double_is, both_small, less_is}
use Rattle.holders.proofs.exact.determinants_beyond.Goals as goal
use Rattle.holders.proofs.exact.determinants_beyond.Lts as lts
use Rattle.holders.proofs.exact.determinants_beyond.Reads as reads
use Rattle.holders.proofs.exact.determinants_beyond.Tie as tie

abbrev After-sub : Type 0
After-sub = lts.After-sub tie.the-claims reads.Pre reads.Post

abbrev After-sub-2 : Type 0
After-sub-2 = lts.After-sub2 tie.the-claims reads.Pre reads.Post

pub sub-requires : goal.sub-requires
sub-requires c =
    let p = c.requires in
    both_small c.of_parts.ensures c.of_parts-2.ensures (omega (arith, p)) (omega (arith, p))

pub sub-requires-2 : goal.sub-requires-2
sub-requires-2 c =
    let p = c.requires in
    both_small c.of_parts-3.ensures c.of_parts-4.ensures (omega (arith, p)) (omega (arith, p))

first : (c : After-sub) → let a = c.args in
    c.sub.result ≡ outer a.a a.b a.c
first c =
    let a = c.args in
    less_is c.of_parts.ensures c.of_parts-2.ensures c.sub.ensures
    (outer_is a.a a.b a.c)

second :
    (c : After-sub-2)
    → let a = c.args in
    c.sub-2.result ≡ negφ (lean a.a a.b a.c)
second c =
    let a = c.args in
    less_is c.of_parts-3.ensures c.of_parts-4.ensures c.sub-2.ensures
    (opposite_is a.a a.b a.c)

pub returns : goal.returns
returns c =
    let third = c.of_parts-5.ensures ∙ double_is c.args.b in
    λ i. three (first c.before.before.before.before i) (second c.before i) (third i)
