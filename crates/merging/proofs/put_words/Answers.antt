-- The codes of the places passed are written (Written). Assumes nothing.
use Rattle.std.proofs.Common.{◌∙◌, sym, ap, ◌∷◌, map, ◌+◌, drop, arith}
use Rattle.std.proofs.lemmas.List.{length-map}
use lib.ListN.{drop_of_length-le}
use Rattle.merging.specs.Means.Joining.{word_at}
use Rattle.merging.proofs.Written.{writing_none, writing_more, writing_all, wrote_over, next_of}
use Rattle.merging.proofs.put_words.Goals as goal

pub loop-k-init : goal.loop-k-init
loop-k-init c = writing_none _ 0 _

pub loop-k-preserved : goal.loop-k-preserved
loop-k-preserved c =
    let l = c.loop-k in
    let xs = c.args.ranks.now in
    writing_more l.invariant (omega (arith, length-map xs word_at, c.requires.0))
    (ap (map word_at) (next_of xs 0 l.k (omega arith))
    ∙ (λ j. sym c.word_at.ensures j ∷ map word_at (drop (l.k + 1) xs)))

pub returns : goal.returns
returns c =
    wrote_over (writing_all c.loop-k.invariant (ap (map word_at) (drop_of_length-le c.args.ranks.now (omega arith))))
