-- The path of the floors that were found, and its word (FoundWords). Assumes nothing.
use native.Mathlib.Omega.{arith}
use Rattle.shares.proofs.Standing.{strict_whole}
use Rattle.seats.proofs.FoundWords.{path_low, found_word}
use Rattle.holders.proofs.quick_word.Goals as goal

pub path-path-requires : goal.path-path-requires
path-path-requires c = (c.requires.0, strict_whole 16777216 _ _ c.in_ok-h.ensures.stands)

pub word_of-requires : goal.word_of-requires
word_of-requires c =
    let h = c.in_ok-h.ensures in
    let l = c.requires.0 in
    (omega (arith, h.side_is.1), l, path_low _ l _ _ _ h.stands c.path-path.result c.path-path.ensures)

pub returns : goal.returns
returns c =
    found_word c.args.d c.requires.2 c.in_ok-h.h c.in_ok-h.ensures c.args.degree c.path-path.result c.word_of.result c.requires.0 c.path-path.ensures
    c.word_of.ensures
