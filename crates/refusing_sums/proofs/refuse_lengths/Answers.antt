-- Length by length (Refused). Assumes nothing.
use mathlib.Core.Path.{◌∙◌, sym}
use Rattle.coarse.specs.Sums.{coarse}
use Rattle.coarse.proofs.Refused.{wrong_counts, wrong_sums, right_lengths}
use Rattle.refusing_sums.proofs.refuse_lengths.Goals as goal

pub returns-then-counts-n : goal.returns-then-counts-n
returns-then-counts-n c =
    let a = c.args in
    wrong_counts a.degree (coarse a.counts.now a.sums.now)
    (λ q. c.if-counts-n.true (q ∙ sym c.parents_of-n.ensures))

pub returns-then-sums-n : goal.returns-then-sums-n
returns-then-sums-n c =
    let a = c.args in
    wrong_sums a.degree (coarse a.counts.now a.sums.now)
    (λ q. c.if-sums-n.true (q ∙ sym c.parents_of-n.ensures))

pub returns : goal.returns
returns c =
    let a = c.args in
    right_lengths a.degree (coarse a.counts.now a.sums.now) (c.if-counts-n.false ∙ c.parents_of-n.ensures)
    (c.if-sums-n.false ∙ c.parents_of-n.ensures)
