-- After so many codes the lists are as JudgedTo says (InOrder). Assumes nothing.
use Rattle.std.proofs.Common.{◌≡◌, ◌<◌, ℕ, subst, length, take, add-one, arith}
use lib.Seq.{take-suc-set}
use Rattle.judging.specs.Means.Turns.{at, JudgedTo}
use Rattle.judging.proofs.InOrder.{next_dropped, next_kept, judged_all, kept_all}
use Rattle.judging.proofs.judge_each.Goals as goal
use Rattle.judging.proofs.judge_each.Goals.{then-f-eq0, else-f-eq0}

pub loop-place-preserved : goal.loop-place-preserved
loop-place-preserved c =
    let l = c.loop-place in
    let i = l.place-index in
    let t = c.loop-place-test.true in
    let ks = c.args.keys.now in
    let ps = c.args.places.now in
    let own = at ks (at ps i) in
    let in-keys = (c.requires.0.there i t).0 in
    let in-why : at ps i < length l.why = omega (arith, in-keys, c.requires.3) in
    elim c.if-f-eq0.branch [
      | then-f-eq0 w ↦ let room : l.count < length l.kept = omega arith in
          rw (w.count-is, w.end-is, w.end_of-end.ensures, w.kept-is, add-one i, add-one l.count, take-suc-set l.kept l.count own room) (
            omega arith,
            next_kept ks ps c.requires.0 c.args.why.now l.why (take l.count l.kept) i l.last l.end t
                l.invariant.1 in-why c.why_next-f.result c.why_next-f.ensures w.if-f-eq0.true,
          )
      | else-f-eq0 w ↦ rw (w.count-is, w.end-is, w.kept-is, add-one i) (
        omega arith,
        next_dropped ks ps c.requires.0 c.args.why.now l.why (take l.count l.kept) i l.last l.end t
            l.invariant.1 in-why c.why_next-f.result c.why_next-f.ensures c.requires.1 w.if-f-eq0.false,
      )
    ]

pub returns : goal.returns
returns c =
    let l = c.loop-place in
    let ks = c.args.keys.now in
    let ps = c.args.places.now in
    let e : l.place-index ≡ length ps = omega arith in
    let g : JudgedTo ks ps c.args.why.now (length ps) l.last l.end l.why (take l.count l.kept) =
    subst (λ (n : ℕ). JudgedTo ks ps c.args.why.now n l.last l.end l.why (take l.count l.kept)) e l.invariant.1 in
    (omega arith, judged_all ks ps c.requires.0 _ _ _ _ _ g, kept_all ks ps c.requires.0 _ _ _ _ _ g)
