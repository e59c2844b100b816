-- After so many codes the lists are as JudgedTo says (InOrder). Assumes nothing.
use Rattle.std.proofs.Common.{◌≤◌, take}
use Rattle.judging.specs.Means.Turns.{JudgedTo}
use Rattle.judging.proofs.judge_each.Given as goal

abbrev pub invariant-loop-place : goal.invariant-loop-place
invariant-loop-place l =
    (l.count ≤ l.place-index)
    × JudgedTo l.keys l.places l.initial.why l.place-index l.last l.end l.why (take l.count l.kept)
