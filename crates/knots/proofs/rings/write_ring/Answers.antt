-- `knots::rings::write_ring` meets its contract. The invariant: the first i places have the words of the walk's first i
-- places, the others are as they came, and q is the name at the last of them. Assumes nothing.
use mathlib.Core.Path.{◌≡◌, refl, ◌∙◌}
use Prim.Native.Nat.{ℕ, suc, ◌+◌, ◌-◌, ◌%◌, ◌≤◌}
use lib.ListN.{length, length-set}
use native.Mathlib.Omega.{arith}
use Rattle.words.specs.Refusals.{check_name_fields}
use Rattle.net.specs.Corners.{name_of}
use Rattle.net.specs.Means.Walks.{name_at, place_at, ring_at}
use Rattle.net.proofs.RingLists.{ring_first, ring_last, ring_next}
use Rattle.net.proofs.WordSteps.{at_walk, fields_there, unit_there, low_degree, next_walk, place_name}
use Rattle.net.proofs.WordSteps.{word_place, word_walk}
use Rattle.knots.proofs.rings.write_ring.Goals as goal

pub unit_of-unit-requires : goal.unit_of-unit-requires
unit_of-unit-requires c = low_degree c.args.r.0 c.requires.0

-- the walk begins at the name
start : {r : ℕ} → check_name_fields (name_of r) ≡ 0 → r ≡ name_at (ring_at (place_at r) 0)
unfolding ring_at
start {r} e = place_name r e

pub loop-i-init : goal.loop-i-init
loop-i-init c =
    let r = c.args.r.0 in
    let l : c.args.m ≤ length c.args.out.now = c.requires.2 in (
      ring_first c.args.m (place_at r) c.args.out.now c.requires.1 l
          (word_place r c.requires.0),
      refl,
      start c.requires.0,
    )

pub around-q-requires : goal.around-q-requires
around-q-requires c =
    let l = c.loop-i in
    let r = c.args.r.0 in
    let e = c.requires.0 in
    let a = at_walk r e (l.i - 1) in
    let f = l.invariant.2 in
    (fields_there a (low_degree r e) f, unit_there a (low_degree r e) f c.unit_of-unit.ensures)

pub bounds-out-i : goal.bounds-out-i
bounds-out-i c =
    let l = c.loop-i in
    omega (arith, l.invariant.1, length-set c.args.out.now 0 (c.args.r.0 - c.args.r.0 % 4))

pub loop-i-preserved : goal.loop-i-preserved
loop-i-preserved c =
    let l = c.loop-i in
    let r = c.args.r.0 in
    let e = c.requires.0 in
    let D = c.args.out.now in
    let k : suc (l.i - 1) ≡ l.i = omega arith in
    let n : l.i ≡ l.i + 1 - 1 = omega arith in
    let f : c.around-q.result ≡ name_at (ring_at (place_at r) l.i) =
    rw k at (next_walk r e (l.i - 1) l.invariant.2 c.around-q.ensures) in (
      ring_next c.args.m (place_at r) _ (omega (arith, length-set D 0 (r - r % 4))) l.i (omega arith) l.invariant.0
          (word_walk r e l.i f),
      length-set l.out l.i _ ∙ l.invariant.1,
      rw n at f,
    )

pub shape_of-out : goal.shape_of-out
shape_of-out c =
    c.loop-i.invariant.1 ∙ length-set c.args.out.now 0 (c.args.r.0 - c.args.r.0 % 4)

pub returns : goal.returns
returns c =
    let l = c.loop-i in
    let m = c.args.m in
    let e : l.i ≡ m = omega (arith, c.requires.1) in
    l.invariant.0 ∙ rw e (ring_last m (place_at c.args.r.0) c.args.out.now _ c.requires.1
    c.requires.2)
