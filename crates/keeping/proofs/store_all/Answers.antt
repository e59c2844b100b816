-- The loop writes place by place (frame's Below). Assumes nothing.
use mathlib.Core.Path.{refl, ◌∙◌, ap}
use mathlib.Core.List.{List}
use Prim.Native.Nat.{ℕ}
use native.Mathlib.Omega.{arith}
use native.Mathlib.Numerals.{add-one}
use lib.ListN.{length, set, length-set}
use Rattle.frame.specs.Lists.{below}
use Rattle.frame.proofs.Below.{below_next, below_all}
use Rattle.keeping.proofs.store_all.Goals as goal
use Rattle.keeping.proofs.store_all.Invariants.{counted, summed}

pub loop-p-init : goal.loop-p-init
unfolding below
loop-p-init c = (refl, refl, refl, refl)

pub loop-p-preserved : goal.loop-p-preserved
loop-p-preserved c =
    let l = c.loop-p in
    let a = c.args in
    let list = a.list.now in
    let e = c.store.ensures in (
      simp add-one (e.0 ∙ ap (λ (x : List ℕ). set x l.p (counted list l.p)) l.invariant.0
          ∙ below_next (counted list) a.counts.now l.p (omega arith) refl),
      ap length e.0 ∙ length-set l.counts l.p (counted list l.p) ∙ l.invariant.1,
      simp add-one (e.1 ∙ ap (λ (x : List ℕ). set x l.p (summed list l.p)) l.invariant.2
          ∙ below_next (summed list) a.sums.now l.p (omega arith) refl),
      ap length e.1 ∙ length-set l.sums l.p (summed list l.p) ∙ l.invariant.3,
    )

pub returns : goal.returns
returns c =
    let l = c.loop-p in
    let a = c.args in (
      l.invariant.0 ∙ below_all (counted a.list.now) a.counts.now l.p (omega arith) (omega arith),
      l.invariant.2 ∙ below_all (summed a.list.now) a.sums.now l.p (omega arith) (omega arith),
    )
