-- The words read, the call on words, and what it leaves written as bytes (MendedBytes). Assumes nothing.
use Rattle.std.proofs.Common.{◌∙◌, ap, List, [], ◌∷◌, ℕ, arith}
use Rattle.frame.specs.Answers.{over}
use Rattle.octets.specs.Bytes.{bytes}
use Rattle.mending.specs.Answers.{lists}
use Rattle.host_cells.proofs.CellBytes.{words_long}
use Rattle.host_cells.proofs.MendedBytes.{answered, left}
use Rattle.host_cells.proofs.mend_bytes.Goals as goal

pub unwrap-a-requires : goal.unwrap-a-requires
unwrap-a-requires c = answered c.args.list.now _ _ _ c.read_words.ensures c.requires.0 c.mend.ensures

pub write_words-requires : goal.write_words-requires
write_words-requires c =
    let list = c.args.list.now in
    let d = left list _ _ _ c.read_words.ensures c.requires.0 (rw c.unwrap-a.ensures at c.mend.ensures) in
    (omega (arith, d.few.0, words_long list, c.requires.0, c.mend.auto.out), omega (arith, d.few.0, words_long list, c.requires.2))

pub write_words-requires-2 : goal.write_words-requires-2
write_words-requires-2 c =
    let list = c.args.list.now in
    let d = left list _ _ _ c.read_words.ensures c.requires.0 (rw c.unwrap-a.ensures at c.mend.ensures) in
    (omega (arith, d.few.1, words_long list, c.requires.0, c.mend.auto.words), omega (arith, d.few.1, words_long list, c.requires.3))

pub write_words-requires-3 : goal.write_words-requires-3
write_words-requires-3 c =
    let list = c.args.list.now in
    let d = left list _ _ _ c.read_words.ensures c.requires.0 (rw c.unwrap-a.ensures at c.mend.ensures) in
    (omega (arith, d.few.1, words_long list, c.requires.0, c.mend.auto.reasons), omega (arith, d.few.1, words_long list, c.requires.4))

pub returns : goal.returns
returns c =
    let list = c.args.list.now in
    let a = c.args in
    let d = left list _ _ _ c.read_words.ensures c.requires.0 (rw c.unwrap-a.ensures at c.mend.ensures) in
    λ i. (
      lists ((c.write_words.ensures ∙ ap (λ (l : List ℕ). over (bytes 8 l) a.mended.now) d.codes) i)
          ((c.write_words-2.ensures ∙ ap (λ (l : List ℕ). over (bytes 8 l) a.words.now) d.words) i)
          ((c.write_words-3.ensures ∙ ap (λ (l : List ℕ). over (bytes 8 l) a.reasons.now) d.reasons) i),
      (c.put_two.ensures ∙ (λ j. over (bytes 8 (d.count j ∷ d.many j ∷ [])) a.out.now)) i,
    )
