-- The dropped words, then the merges, and what is left (Joined). Assumes nothing.
use Rattle.std.proofs.Common.{◌≡◌, ◌∙◌, sym, ap, subst, List, map, ℕ, ◌+◌, ◌≤◌, length, take, arith}
use Rattle.std.proofs.lemmas.List.{length-map}
use lib.Seq.{length-take-le}
use Rattle.frame.specs.Answers.{over}
use Rattle.cells.specs.Means.Ranks.{rank}
use Rattle.mending.specs.Mending.{mended, changes}
use Rattle.mending.proofs.Again.{fits}
use Rattle.merging.specs.Means.Joining.{Small, word_at, joins_below, fives, dropped_words, dropped_reasons}
use Rattle.mender.proofs.Joined.{small_kept, left_ranks, all_words, all_reasons, all_count, two_writes}
use Rattle.mender.proofs.Joined.{mended_words, mended_small}
use Rattle.mender.proofs.finish.Goals as goal

pub merge_all-z-requires : goal.merge_all-z-requires
merge_all-z-requires c =
    let ws = c.args.words.now in
    let why = c.args.why.now in
    let kept = take c.args.count c.args.kept.now in
    let d = c.put_dropped-dropped in
    let changed : length d.new.changed ≡ length c.args.changed.now = d.auto.changed in
    let reasons : length d.new.reasons ≡ length c.args.reasons.now = d.auto.reasons in
    -- the change lists have room for the merges too
    let room : d.result + length (joins_below 24 kept) ≤ length ws =
    omega (arith, d.ensures.0.count, all_count ws why kept c.requires.5 c.requires.6, (fits ws).1) in (
      c.requires.4,
      small_kept ws why kept c.requires.5 c.requires.6,
      omega (arith, room, changed, c.requires.2),
      omega (arith, room, reasons, c.requires.3),
    )

pub put_words-requires : goal.put_words-requires
put_words-requires c =
    let ws = c.args.words.now in
    let m = c.merge_all-z in
    let left : take m.result.count m.new.ranks ≡ map rank (mended ws) =
    m.ensures.1 ∙ left_ranks ws c.args.why.now (take c.args.count c.args.kept.now) c.requires.5 c.requires.6 in (
      omega (arith, ap length left, length-map (mended ws) rank, (fits ws).0, c.requires.1),
      subst Small (sym left) (mended_small ws),
    )

pub returns : goal.returns
returns c =
    let ws = c.args.words.now in
    let why = c.args.why.now in
    let kept = take c.args.count c.args.kept.now in
    let d = c.put_dropped-dropped in
    let m = c.merge_all-z in
    let left : take m.result.count m.new.ranks ≡ map rank (mended ws) =
    m.ensures.1 ∙ left_ranks ws why kept c.requires.5 c.requires.6 in
    let long : length m.new.ranks ≡ length c.args.kept.now = m.auto.ranks in
    let cw = two_writes c.args.changed.now d.new.changed m.new.changed
    (dropped_words ws why) (map word_at (joins_below 24 kept)) d.result m.result.changes
    d.auto.changed m.auto.changed d.ensures.0 m.ensures.2 in
    let cr = two_writes c.args.reasons.now d.new.reasons m.new.reasons
    (dropped_reasons ws why) (fives (joins_below 24 kept)) d.result m.result.changes
    d.auto.reasons m.auto.reasons d.ensures.1 m.ensures.3 in
    let ew = all_words ws why kept c.requires.5 c.requires.6 in
    let er = all_reasons ws why kept c.requires.5 c.requires.6 in (
      sym (length-take-le m.result.count m.new.ranks (omega (arith, long, c.requires.4, m.ensures.0)))
          ∙ ap length left ∙ length-map (mended ws) rank,
      cw.1 ∙ ap length ew ∙ length-map (changes ws) (λ x. x.word),
      c.put_words.ensures ∙ ap (λ (l : List ℕ). over (map word_at l) c.args.out.now) left
          ∙ ap (λ (l : List ℕ). over l c.args.out.now) (mended_words ws),
      cw.0 ∙ ap (λ (l : List ℕ). over l c.args.changed.now) ew,
      cr.0 ∙ ap (λ (l : List ℕ). over l c.args.reasons.now) er,
    )
