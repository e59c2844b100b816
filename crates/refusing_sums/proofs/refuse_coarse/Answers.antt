-- The lengths, and then what is stored for the parent (Refused, Children). Assumes nothing.
use mathlib.Core.Path.{◌≡◌, ◌∙◌, sym, ap}
use native.Mathlib.Omega.{arith}
use Prim.Native.Nat.{ℕ}
use lib.ListN.{length, get_or}
use Rattle.frame.proofs.Told.{number_some, told_handed}
use Rattle.words.specs.Family.{parent_of}
use Rattle.net.specs.Division.{sum}
use Rattle.coarse.specs.Sums.{count_in, sum_in, coarse}
use Rattle.coarse.proofs.Children.{Above, above}
use Rattle.coarse.proofs.Refused.{right_long, lengths_first, other_count, other_sum, none_kept}
use Rattle.refusing_sums.proofs.refuse_coarse.Goals as goal
use Rattle.refusing_sums.proofs.refuse_coarse.Goals.{After-parent_place-p, After-tally_from-right}

pub returns-in_err-refuse_lengths : goal.returns-in_err-refuse_lengths
returns-in_err-refuse_lengths c =
    let a = c.args in
    told_handed _ _ c.from_residual.ensures
    (lengths_first a.degree a.t a.list.now (coarse a.counts.now a.sums.now)
    c.in_err-refuse_lengths.ensures (number_some _))

pub returns-then-degree-eq0 : goal.returns-then-degree-eq0
returns-then-degree-eq0 c =
    let a = c.args in
    let sums = coarse a.counts.now a.sums.now in
    let l = right_long a.degree sums (sym c.in_ok-refuse_lengths.ensures) in
    none_kept a.degree a.t a.list.now sums (record {
      counts_long = l.0;
      sums_long = l.1;
      count = λ some. absurd (some c.if-degree-eq0.true);
      total = λ some. absurd (some c.if-degree-eq0.true);
    })

-- the parent's place
up : (c : After-parent_place-p) → (let a = c.args in
    Above a.degree a.t a.list.now c.parent_place-p.result)
up c =
    above c.args.degree c.args.list.now c.parent_place-p.ensures c.if-degree-eq0.false c.requires.0
    c.requires.1 c.requires.2

pub overflow_mul-p : goal.overflow_mul-p
overflow_mul-p c = omega (arith, (up (goal.at.overflow_mul-p c).After-parent_place-p).fits)

pub tally_from-right-requires : goal.tally_from-right-requires
tally_from-right-requires c = (up (goal.at.tally_from-right-requires c).After-parent_place-p).four

pub offset_bounds-counts-p : goal.offset_bounds-counts-p
offset_bounds-counts-p c = omega (arith, (up (goal.at.offset_bounds-counts-p c).After-parent_place-p).fits)

pub bounds-counts-p : goal.bounds-counts-p
bounds-counts-p c =
    omega (arith, (up (goal.at.bounds-counts-p c).After-parent_place-p).here, (right_long c.args.degree (coarse c.args.counts.now c.args.sums.now) (sym c.in_ok-refuse_lengths.ensures)).0)

-- what the four places give is what the parent's children have
tallied : (c : After-tally_from-right) → (let a = c.args in
    (c.tally_from-right.result.count ≡ count_in (parent_of a.t) a.list.now)
    × (c.tally_from-right.result.sum ≡ sum_in (parent_of a.t) a.list.now))
tallied c =
    let e = c.tally_from-right.ensures in
    let q = (above c.args.degree c.args.list.now c.parent_place-p.ensures c.if-degree-eq0.false c.requires.0
    c.requires.1 c.requires.2).present_is in
    (e.0 ∙ ap length q, e.1 ∙ ap sum q)

pub returns-then-counts-p : goal.returns-then-counts-p
returns-then-counts-p c =
    let a = c.args in
    let stored = ap (λ (i : ℕ). get_or a.counts.now i 0) c.parent_place-p.ensures in
    other_count a.degree a.t a.list.now (coarse a.counts.now a.sums.now) (sym c.in_ok-refuse_lengths.ensures)
    c.if-degree-eq0.false (λ q. c.if-counts-p.true (stored ∙ q ∙ sym (tallied (goal.at.returns-then-counts-p c).After-tally_from-right).0))

pub offset_bounds-sums-p : goal.offset_bounds-sums-p
offset_bounds-sums-p c = omega (arith, (up (goal.at.offset_bounds-sums-p c).After-parent_place-p).fits)

pub bounds-sums-p : goal.bounds-sums-p
bounds-sums-p c =
    omega (arith, (up (goal.at.bounds-sums-p c).After-parent_place-p).here, (right_long c.args.degree (coarse c.args.counts.now c.args.sums.now) (sym c.in_ok-refuse_lengths.ensures)).1)

pub returns-then-sums-p : goal.returns-then-sums-p
returns-then-sums-p c =
    let a = c.args in
    let stored = ap (λ (i : ℕ). get_or a.sums.now i 0) c.parent_place-p.ensures in
    other_sum a.degree a.t a.list.now (coarse a.counts.now a.sums.now) (sym c.in_ok-refuse_lengths.ensures)
    c.if-degree-eq0.false (λ q. c.if-sums-p.true (stored ∙ q ∙ sym (tallied (goal.at.returns-then-sums-p c).After-tally_from-right).1))

pub returns : goal.returns
returns c =
    let a = c.args in
    let counted = ap (λ (i : ℕ). get_or a.counts.now i 0) c.parent_place-p.ensures in
    let summed = ap (λ (i : ℕ). get_or a.sums.now i 0) c.parent_place-p.ensures in
    let l = right_long a.degree (coarse a.counts.now a.sums.now) (sym c.in_ok-refuse_lengths.ensures) in
    none_kept a.degree a.t a.list.now (coarse a.counts.now a.sums.now) (record {
      counts_long = l.0;
      sums_long = l.1;
      count = λ _. sym counted ∙ c.if-counts-p.false ∙ (tallied (goal.at.returns c).After-tally_from-right).0;
      total = λ _. sym summed ∙ c.if-sums-p.false ∙ (tallied (goal.at.returns c).After-tally_from-right).1;
    })
