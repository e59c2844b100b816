-- After i words the lists are as NumberedTo says (WordKeys). Assumes nothing.
use Rattle.std.proofs.Common.{◌≡◌, ◌<◌, ◌∙◌, sym, map, length, get_or, add-one, arith}
use Rattle.std.proofs.lemmas.List.{length-map, get_or-map}
use Rattle.judging.specs.Means.Keys.{key}
use Rattle.judging.proofs.WordKeys.{numbered_other, numbered_code, numbered_all}
use Rattle.judging.proofs.number_words.Goals as goal
use Rattle.judging.proofs.number_words.Goals.{then-k-eq0, else-k-eq0}

pub loop-i-preserved : goal.loop-i-preserved
loop-i-preserved c =
    let l = c.loop-i in
    let ws = c.args.words.now in
    let t = c.loop-i-test.true in
    let k = c.key_of-k.result in
    let in-words : l.i < length (map key ws) = omega (arith, t, length-map ws key) in
    let in-keys : l.i < length l.keys = omega arith in
    let found : k ≡ get_or (map key ws) l.i 0 = c.key_of-k.ensures ∙ sym (get_or-map key ws l.i 0 0 t) in
    elim c.if-k-eq0.branch [
      | then-k-eq0 w ↦ rw (w.codes-is, w.places-is, w.why-is, add-one l.i)
          (numbered_other (map key ws) l.i l.keys l.places l.why l.codes k in-words in-keys found l.invariant
          (omega arith) w.if-k-eq0.true)
      | else-k-eq0 w ↦ rw (w.codes-is, w.places-is, w.why-is, add-one l.i, add-one l.codes)
          (numbered_code (map key ws) l.i l.keys l.places l.why l.codes k in-words in-keys found l.invariant
          (omega arith) w.if-k-eq0.false)
    ]

pub returns : goal.returns
returns c =
    let l = c.loop-i in
    numbered_all c.args.words.now l.keys l.places l.why l.i l.codes (omega arith) l.invariant
