-- The answers of `file` and `list` from their parts. Assumes nothing.
use mathlib.Core.Path.{◌≡◌, refl, sym, ap, ◌∙◌}
use mathlib.Core.List.{List}
use mathlib.Core.Logic.{⊎_elim}
use Prim.Native.Nat.{ℕ, zero, suc, ◌+◌, ◌^◌, ◌≤◌, ◌<◌}
use native.Mathlib.Omega.{arith}
use lib.ListN.{length, length-append}
use Rattle.frame.proofs.Answering.{answers_or_not, answering}
use Rattle.words.specs.Words.{word_of}
use Rattle.words.specs.Family.{CodeAnswer, code_of}
use Rattle.words.proofs.Codes.{code_fields, code_below}
use Rattle.corners.specs.Answers.{count_answer}
use Rattle.directions.specs.Answers.{FileAnswer, ListAnswer}
use Rattle.net.proofs.Flips.{each_length}
use Rattle.filing.specs.Filing.{IsFiled}
use Rattle.directions.specs.Refusals.{refuse_file}
use Rattle.filing.specs.Means.Descent.{holders}
use Rattle.filing.specs.Means.Sides.{side_dets}
use Rattle.filing.specs.Means.Lists.{joined, Puts, side_words, all_words}
use Rattle.filing.specs.declared.Direction.{Direction}
use Rattle.directions.proofs.Refused.{allowed, list_then, refuse_small}
use Rattle.filing.proofs.AtMostSix.{sum_sides, at_most_six}
use Rattle.filing.proofs.NoVertex.{zero_direction}
use Rattle.filing.proofs.AllHolders.{all_holders}

-- ---- file

pub filed_answer : (n : ℕ) (d : Direction) (w : ℕ) → refuse_file n d ≡ 0 → IsFiled n d (code_of w)
    → FileAnswer n d (record { refusal = 0; code = code_of w })
filed_answer n d w z h = answering z (record { number = refl; is = h })

-- the code of an answer is 0 just where it refuses
pub filed_code : (n : ℕ) (d : Direction) (s : CodeAnswer) → FileAnswer n d s → s.refusal ≡ 0 → 0 < s.code.0
filed_code n d s p e = ⊎_elim (λ z. omega (arith, (code_fields (p.answered z).is.code).a_low))
    (λ k. absurd (k (sym (ap (λ (a : CodeAnswer). a.refusal) (p.refused k)) ∙ e)))
    (answers_or_not (refuse_file n d))

pub refused_code : (n : ℕ) (d : Direction) (s : CodeAnswer) → FileAnswer n d s → (s.refusal ≡ 0 → ⊥)
    → s.code.0 ≡ 0
refused_code n d s p k = ⊎_elim (λ z. absurd (k (p.answered z).number))
    (λ some. ap (λ (a : CodeAnswer). a.code.0) (p.refused some)) (answers_or_not (refuse_file n d))

-- a code is a word, and a refusal a small number
pub answer_small : (n : ℕ) (d : Direction) (s : CodeAnswer) → FileAnswer n d s
    → (s.code.0 < 2 ^ 64) × (s.refusal < 12)
answer_small n d s p = ⊎_elim
    (λ z. let a = p.answered z in (code_below a.is.code, omega (arith, a.number)))
    (λ k. rw (p.refused k) (omega arith, refuse_small n d)) (answers_or_not (refuse_file n d))

-- ---- list

-- the lists of the sides, one after the other, are as long as they are together
side_lengths : (m j : ℕ) (f : ℕ → List ℕ) → length (joined m (4 + j) f) + sum_sides j (λ s. length (f s))
    ≡ sum_sides
    (j + m) (λ s. length (f s))
unfolding joined sum_sides
side_lengths zero j f = let e : j + 0 ≡ j = omega arith in rw e (omega arith)
side_lengths (suc m) j f =
    let e : 4 + suc j ≡ suc (4 + j) = omega arith in
    let q : j + suc m ≡ suc j + m = omega arith in
    rw q (omega (arith, length-append (f (4 + j)) (joined m (suc (4 + j)) f), rw e at (side_lengths m (suc j) f)))

sum_same : (m : ℕ) (f g : ℕ → ℕ) → ((s : ℕ) → f s ≡ g s) → sum_sides m f ≡ sum_sides m g
unfolding sum_sides
sum_same zero f g h = refl
sum_same (suc m) f g h = omega (arith, sum_same m f g h, h (4 + m))

pub words_count : (n : ℕ) (d : Direction) → length (all_words d n 4)
    ≡ sum_sides 20 (λ s. length (holders n (side_dets d
    s) 0))
unfolding all_words side_words sum_sides
words_count n d =
    let l = side_lengths 20 0 (side_words d n) in
    let q = sum_same 20 (λ s. length (side_words d n s)) (λ s. length (holders n (side_dets d s) 0)) (λ s. each_length
    (word_of s n) (holders n (side_dets d s) 0)) in
    omega (arith, l, q)

pub not_zero : (n : ℕ) (d : Direction) → refuse_file n d ≡ 0 → d ≡ zero_direction → ⊥
not_zero n d z e = (allowed n d z).some (rw e refl)

pub six : (n : ℕ) (d : Direction) → refuse_file n d ≡ 0 → length (all_words d n 4) ≤ 6
six n d z = omega (arith, at_most_six n d (not_zero n d z), words_count n d)

pub listed_answer : (n : ℕ) (d : Direction) (out : List ℕ) (r : ℕ) (new : List ℕ) → refuse_file n d ≡ 0
    → 6 ≤ length out
    → Puts 0 (all_words d n 4) out r new → ListAnswer n d out (count_answer 0 r) new
listed_answer n d out r new z l p =
    let c : r ≡ length (all_words d n 4) = omega (arith, p.count) in
    answering ((list_then n d out).passes.1 (z, l)) (record {
      list = all_words d n 4;
      good = all_holders n d (allowed n d z).low;
      count = ap (count_answer 0) c;
      put = p.list;
    })
