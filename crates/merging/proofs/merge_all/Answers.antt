-- What is done and what is left make the whole, in the list and in both change lists (Written, Passes). Assumes nothing.
use mathlib.Core.List.{map-append}
use Rattle.std.proofs.Common.{◌≡◌, ◌∙◌, refl, sym, ap, map, ℕ, ◌+◌, ◌-◌, length, take, length-append, arith}
use Rattle.std.proofs.lemmas.List.{length-map}
use Rattle.merging.specs.Means.Joining.{word_at, joined_at, joins_at, joins_below, fives}
use Rattle.merging.proofs.Written.{writing_none, writing_on, writing_all}
use Rattle.merging.proofs.Rows.{small_joined}
use Rattle.merging.proofs.Passes.{joined_next, joins_next, below_none}
use Rattle.merging.proofs.merge_all.Goals as goal

pub loop-d-init : goal.loop-d-init
loop-d-init c = (omega arith, c.requires.1, refl, writing_none _ _ _, writing_none _ _ _)

pub merge_at-z-requires : goal.merge_at-z-requires
merge_at-z-requires c =
    let l = c.loop-d in
    let v = l.invariant in
    let t = c.loop-d-test.true in
    let xs = take l.n l.ranks in
    let all = joins_below 24 (take c.args.count c.args.ranks.now) in
    let e = l.d - 1 in
    let parts : length (joins_below l.d xs) ≡ length (joins_at e xs) + length (joins_below e (joined_at e xs)) =
    ap length (joins_next l.d t xs (joined_at e xs) refl) ∙ length-append (joins_at e xs) _ in
    let left : l.c + length (joins_below l.d xs) ≡ c.args.changes + length all =
    omega (arith, v.3.count, length-map (joins_below l.d xs) word_at, length-map all word_at) in (
      omega arith,
      omega (arith, v.0, c.requires.0),
      v.1,
      omega (arith, parts, left, v.3.long, c.requires.2),
      omega (arith, parts, left, v.4.long, c.requires.3),
    )

pub loop-d-preserved : goal.loop-d-preserved
loop-d-preserved c =
    let l = c.loop-d in
    let t = c.loop-d-test.true in
    let v = l.invariant in
    let p = c.merge_at-z.ensures in
    let xs = take l.n l.ranks in
    let ys = take c.merge_at-z.result.count c.merge_at-z.new.ranks in
    let e = l.d - 1 in
    let q : ys ≡ joined_at e xs = p.1 in
    let parts = joins_next l.d t xs ys q in (
      omega (arith, p.0, v.0),
      rw q (small_joined e xs v.1),
      sym (joined_next l.d t xs ys q) ∙ v.2,
      writing_on v.3 (map word_at (joins_at e xs)) (map word_at (joins_below e ys))
          (ap (map word_at) parts ∙ map-append word_at (joins_at e xs) (joins_below e ys))
          c.merge_at-z.auto.changed p.2,
      writing_on v.4 (fives (joins_at e xs)) (fives (joins_below e ys))
          (ap fives parts ∙ map-append {B = ℕ} (λ u. 5) (joins_at e xs) (joins_below e ys))
          c.merge_at-z.auto.reasons p.3,
    )

pub returns : goal.returns
returns c =
    let l = c.loop-d in
    let v = l.invariant in
    let z = below_none l.d (take l.n l.ranks) (omega arith) in (
      v.0,
      sym z.0 ∙ v.2,
      writing_all v.3 (ap (map word_at) z.1),
      writing_all v.4 (ap fives z.1),
    )
