-- What is written and what is left make the whole, in the list itself and in both change lists (Written, Passes).
-- Assumes nothing.
use Rattle.std.proofs.Common.{◌≡◌, ◌∙◌, sym, ap, map, ℕ, take, arith}
use Rattle.std.proofs.lemmas.List.{length-map}
use Rattle.merging.specs.Means.Joining.{word_at, joins_at, fives}
use Rattle.merging.proofs.Written.{writing_none, writing_as, writing_room, writing_more, writing_all}
use Rattle.merging.proofs.Written.{shrinking_none, shrinking_more, shrinking_all}
use Rattle.merging.proofs.Passes.{small_next, small_first, skip, a_four, nothing_left}
use Rattle.merging.proofs.merge_at.Goals as goal
use Rattle.merging.proofs.merge_at.Goals.{then-four, else-four}

pub loop-i-init : goal.loop-i-init
loop-i-init c = (shrinking_none _ _ _, writing_none _ _ _, writing_none _ _ _)

pub four-requires : goal.four-requires
four-requires c =
    let v = c.loop-i.invariant in
    let t = c.loop-i-test.true in
    (c.requires.0, small_first c.args.d v.0 c.requires.1 t c.requires.2)

pub overflow_sub-rank : goal.overflow_sub-rank
overflow_sub-rank c =
    (a_four c.args.d c.loop-i.invariant.0 c.requires.1 c.loop-i-test.true (sym c.four.ensures ∙ c.if-four.true)).some

pub word_at-requires : goal.word_at-requires
word_at-requires c =
    omega (arith, small_next c.args.d c.loop-i.invariant.0 c.requires.1 c.loop-i-test.true c.requires.2)

-- there is room for a merge in both lists
pub bounds-changed-c : goal.bounds-changed-c
bounds-changed-c c =
    let v = c.loop-i.invariant in
    let f = a_four c.args.d v.0 c.requires.1 c.loop-i-test.true (sym c.four.ensures ∙ c.if-four.true) in
    let js = joins_at c.args.d (take c.args.count c.args.ranks.now) in
    writing_room v.1 (omega (arith, c.requires.3, length-map js word_at)) (ap (map word_at) f.merges)

pub bounds-reasons-c : goal.bounds-reasons-c
bounds-reasons-c c =
    let v = c.loop-i.invariant in
    let f = a_four c.args.d v.0 c.requires.1 c.loop-i-test.true (sym c.four.ensures ∙ c.if-four.true) in
    let js = joins_at c.args.d (take c.args.count c.args.ranks.now) in
    writing_room v.2 (omega (arith, c.requires.4, length-map {B = ℕ} js (λ u. 5))) (ap fives f.merges)

pub loop-i-preserved : goal.loop-i-preserved
loop-i-preserved c =
    let l = c.loop-i in
    let v = l.invariant in
    let t = c.loop-i-test.true in
    let d = c.args.d in
    let js = joins_at d (take c.args.count c.args.ranks.now) in
    elim c.if-four.branch [
      | then-four w ↦ let f = a_four d v.0 c.requires.1 t (sym c.four.ensures ∙ w.if-four.true) in
          rw (w.rank-is, w.changed-is, w.word_at.ensures, w.reasons-is, w.i-is, w.c-is) (
            shrinking_more v.0 4 c.requires.1 (omega arith) f.inside f.list,
            writing_more v.1 (omega (arith, c.requires.3, length-map js word_at)) (ap (map word_at) f.merges),
            writing_more v.2 (omega (arith, c.requires.4, length-map {B = ℕ} js (λ u. 5))) (ap fives f.merges),
          )
      | else-four w ↦ let f = skip d v.0 c.requires.1 t (sym c.four.ensures ∙ w.if-four.false) in
          rw (w.rank-is, w.changed-is, w.reasons-is, w.i-is, w.c-is) (
            shrinking_more v.0 1 c.requires.1 (omega arith) (omega (arith, t)) f.0,
            writing_as v.1 _ (ap (map word_at) f.1),
            writing_as v.2 _ (ap fives f.1),
          )
    ]

pub returns : goal.returns
returns c =
    let l = c.loop-i in
    let v = l.invariant in
    let e : l.i ≡ c.args.count = omega (arith, v.0.inside) in
    let z = nothing_left c.args.d c.args.ranks.now c.args.count l.i c.requires.1 e in (
      omega (arith, v.0.inside, v.0.behind),
      shrinking_all v.0 z.0,
      writing_all v.1 (ap (map word_at) z.1),
      writing_all v.2 (ap fives z.1),
    )
