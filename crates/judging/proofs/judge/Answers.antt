-- What is told by keys is what mending says of the words (Reasons). Assumes nothing.
use Rattle.std.proofs.Common.{◌≡◌, ◌∙◌, sym, ap, subst, ℕ, List, length, take, arith}
use lib.Seq.{length-take-le}
use Rattle.judging.specs.Means.Keys.{code_places}
use Rattle.judging.specs.Means.Turns.{Nested, SmallKeys, Judged, Kept}
use Rattle.judging.proofs.Turned.{nested, small_keys}
use Rattle.judging.proofs.Reasons.{reasons_are, kept_are}
use Rattle.judging.proofs.judge.Goals as goal

pub judge_codes-requires : goal.judge_codes-requires
judge_codes-requires c =
    let ws = c.args.words.now in
    let n = c.number_words-codes in
    let e = sym n.ensures.keys_are in
    let keys_room : length n.new.keys ≡ 4096 = n.auto.keys in
    let places_room : length n.new.places ≡ 4096 = n.auto.places in
    let why_long : length n.new.why ≡ length c.args.why.now = n.auto.why in
    let keys_long = length-take-le (length ws) n.new.keys (omega (arith, c.requires.0)) in
    let places_long = length-take-le n.result n.new.places (omega (arith, c.requires.0, n.ensures.few)) in (
      n.ensures.places_are ∙ ap (code_places 0) e,
      subst Nested e (nested ws),
      subst SmallKeys e (small_keys ws),
      omega (arith, c.requires.0, n.ensures.few),
      omega (arith, c.requires.1),
      omega (arith, n.ensures.few, c.requires.2),
    )

pub returns : goal.returns
returns c =
    let ws = c.args.words.now in
    let n = c.number_words-codes in
    let x = c.judge_codes.ensures in
    let e = n.ensures.keys_are in
    let why = c.judge_codes.new.why in
    let kept = take c.judge_codes.result c.judge_codes.new.kept in
    let places_room : length n.new.places ≡ 4096 = n.auto.places in
    let places_long = length-take-le n.result n.new.places (omega (arith, c.requires.0, n.ensures.few)) in
    let l : length n.new.why ≡ length c.args.why.now = n.auto.why in
    let m : length why ≡ length n.new.why = c.judge_codes.auto.why in (
      omega (arith, x.0, n.ensures.few),
      reasons_are ws n.new.keys n.new.places n.new.why why n.result n.ensures
          (subst (λ (ks : List ℕ). Judged ks n.new.why why) e x.1) (omega (arith, c.requires.1)),
      kept_are ws kept (subst (λ (ks : List ℕ). Kept ks kept) e x.2),
    )
