-- For every degree, direction and lent list there is an answer that meets the promise of `file` and of `list`, and any
-- two that do are equal. Assumes nothing.
use mathlib.Core.Path.{◌≡◌, refl, sym, ap, ◌∙◌}
use mathlib.Core.List.{List}
use mathlib.Core.Logic.{◌⊎◌}
use Prim.Native.Nat.{ℕ}
use lib.ListN.{length}
use Rattle.frame.specs.Answers.{Listed, over}
use Rattle.frame.specs.Promises.{together}
use Rattle.frame.proofs.Answering.{answer_one, answer_some, listed_one}
use Rattle.words.specs.Words.{word_of}
use Rattle.words.specs.Family.{code_of, code_answer, no_code}
use Rattle.words.specs.Family.{CodeAnswer}
use Rattle.corners.specs.Answers.{count_answer, no_count}
use Rattle.directions.specs.Answers.{Filed, FileAnswer, ListAnswer}
use Rattle.corners.specs.Answers.{CountAnswer}
use Rattle.filing.specs.Filing.{AreHolders}
use Rattle.directions.specs.Refusals.{refuse_file}
use Rattle.filing.specs.Means.Descent.{descent}
use Rattle.filing.specs.Means.Lists.{all_words}
use Rattle.filing.specs.Means.Sides.{least_from, side_dets}
use Rattle.filing.specs.declared.Direction.{Direction}
use Rattle.filing.proofs.AllHolders.{all_holders, one_list}
use Rattle.filing.proofs.LeastCode.{filed_once}
use Rattle.filing.proofs.LeastSide.{found_code}
use Rattle.filing.proofs.OneTwoSix.{one_two_six, one_or_two}
use Rattle.directions.proofs.Refused.{allowed, list_then}
use Rattle.directions.proofs.FilingCalls.{words_count, not_zero}

pub file_one : (n : ℕ) (d : Direction) (r r' : CodeAnswer) → FileAnswer n d r → FileAnswer n d r'
    → r ≡ r'
file_one n d r r' = answer_one (λ z x y.
    λ i. record { refusal = (x.number ∙ sym y.number) i; code = filed_once x.is y.is i })

pub file_some : (n : ℕ) (d : Direction) → (r : CodeAnswer) × FileAnswer n d r
file_some n d =
    answer_some _ (Filed n d) no_code
    (λ z. let s = least_from d 4 in (
      code_answer 0 (code_of (word_of s n (descent n (side_dets d s) 0))),
      record { number = refl; is = found_code n d (allowed n d z).low },
    ))

pub list_one : (n : ℕ) (d : Direction) (out : List ℕ) (x y : CountAnswer × List ℕ)
    → together (ListAnswer n d out) x → together (ListAnswer n d out) y → x ≡ y
list_one n d out x y = answer_one (λ z. listed_one (λ xs ys. one_list))

pub list_some : (n : ℕ) (d : Direction) (out : List ℕ)
    → (x : CountAnswer × List ℕ) × together (ListAnswer n d out) x
list_some n d out =
    answer_some _ (together (Listed (AreHolders n d) (count_answer 0) out)) (λ f. (no_count f, out))
    (λ z.
    let l = all_words d n 4 in
    let h = all_holders n d (allowed n d ((list_then n d out).passes.0 z).0).low in
    ((count_answer 0 (length l), over l out), record { list = l; good = h; count = refl; put = refl }))

-- "so there are 1, 2 or 6 holders and never 5; at degree 0 there are 1 or 2."
pub how_many_lem : (n : ℕ) (d : Direction) (ts : List ℕ) → refuse_file n d ≡ 0 → AreHolders n d ts
    → (length ts ≡ 1) ⊎ ((length ts ≡ 2) ⊎ (length ts ≡ 6))
how_many_lem n d ts z h =
    let e = ap length (one_list h (all_holders n d (allowed n d z).low)) ∙ words_count n d in
    rw e (one_two_six n d (not_zero n d z))

pub how_many_sides_lem : (d : Direction) (ts : List ℕ) → refuse_file 0 d ≡ 0 → AreHolders 0 d ts
    → (length ts ≡ 1) ⊎ (length ts ≡ 2)
how_many_sides_lem d ts z h =
    let e = ap length (one_list h (all_holders 0 d (allowed 0 d z).low)) ∙ words_count 0 d in
    rw e (one_or_two d (not_zero 0 d z))
