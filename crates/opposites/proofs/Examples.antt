-- The examples of specs/Examples.antt, by computing. Assumes nothing.
use mathlib.Core.Path.{◌≡◌, ◌∙◌, refl, sym, ap, subst}
use Prim.Native.Nat.{ℕ, ◌+◌}
use native.Mathlib.Omega.{arith}
use lib.Dec.{eqb-suc-zero}
use Rattle.frame.specs.Refusals.{first_of}
use Rattle.frame.specs.Promises.{◌gives◌}
use Rattle.frame.proofs.Answering.{keeps_gives, no_other, refusing}
use Rattle.words.specs.Forms.{first_digits, path, word_in}
use Rattle.words.specs.Words.{corner_number}
use Rattle.words.specs.Refusals.{check_code, check_name_fields}
use Rattle.words.specs.Family.{code_answer, no_code}
use Rattle.words.specs.Writing.{decimals, written}
use Rattle.words.specs.Family.{CodeAnswer}
use Rattle.words.specs.declared.CornerName.{CornerName}
use Rattle.words.specs.declared.TriangleCode.{TriangleCode}
use Rattle.net.specs.Corners.{code_inside, name_of}
use Rattle.net.specs.Refusals.{check_name}
use Rattle.net.specs.Means.Seams.{seam_kept, seam_side}
use Rattle.net.specs.Means.States.{cross}
use Rattle.net.specs.Means.Walks.{around, least_name, name_at, place_at, step_of, word_at}
use Rattle.net.proofs.LeastName.{place_in}
use Rattle.filing.specs.Means.Opposites.{opposite_of, opposite_side}
use Rattle.corners.specs.Answers.{name_answer, no_name}
use Rattle.directions.specs.Answers.{FileAnswer}
use Rattle.grid.specs.Writing.{corner_in, up}
use Rattle.grid.proofs.Bounds as grid_bounds
use Rattle.grid.proofs.Examples as grid
use Rattle.grid.proofs.Showing.{passes_by}
use Rattle.opposites.specs.Opposites.{exchanged, negated_direction}
use Rattle.opposites.specs.Answers.{OppositeAnswer, OppositeNameAnswer}
use Rattle.opposites.specs.Examples.{Examples, Mistakes}
use Rattle.opposites.proofs.Calls.{name_answers, opposite_answers}
use Rattle.opposites.proofs.Promises.{one_answer}

opposes : (t : TriangleCode) {u : TriangleCode} → check_code t ≡ 0 → u ≡ opposite_of t
    → OppositeAnswer t gives code_answer 0 u
opposes t z e = keeps_gives (one_answer.opposite t) (opposite_answers t z e)

refuses : (t : TriangleCode) (k : ℕ) → k ≡ check_code t → (k ≡ 0 → ⊥) → OppositeAnswer t gives no_code k
refuses t k e n = keeps_gives (one_answer.opposite t) (refusing e n)

opposes_name : (q r : CornerName) → check_name_fields q ≡ 0
    → least_name 5 (place_in (code_inside q) (corner_number q.0)) ≡ q.0
    → r ≡ name_of (least_name 5 (place_at ((opposite_of (code_inside q)).0 + exchanged (corner_number q.0))))
    → OppositeNameAnswer q gives name_answer 0 r
opposes_name q r z l e = keeps_gives (one_answer.opposite_name q) (name_answers q (passes_by q z l) refl refl e)

refuses_name : (q : CornerName) (k : ℕ) → k ≡ check_name q → (k ≡ 0 → ⊥) → OppositeNameAnswer q gives no_name k
refuses_name q k e n = keeps_gives (one_answer.opposite_name q) (refusing e n)

-- E3's triangle, its opposite, and E7's
elsewhere : OppositeAnswer (written 10003) gives code_answer 0 (written 31002)
unfolding check_code first_of decimals written first_digits path word_in opposite_side
elsewhere = opposes (written 10003) refl refl

filed_elsewhere : (r s o : CodeAnswer) → FileAnswer 2 up r → FileAnswer 2 (negated_direction up) s
    → OppositeAnswer r.code o → s.code ≡ o.code → ⊥
unfolding decimals written first_digits path word_in
filed_elsewhere r s o f g a e =
    let here : r ≡ code_answer 0 (written 10003) = (grid.examples).e3.only r f in
    let there : s ≡ code_answer 0 (written 21003) = (grid.examples).e7.only s g in
    let b : OppositeAnswer (written 10003) o = subst (λ (r : CodeAnswer). OppositeAnswer r.code o) here a in
    let c : o ≡ code_answer 0 (written 31002) = elsewhere.only o b in
    let h : (written 21003).0 ≡ (written 31002).0 =
    ap (λ (s : CodeAnswer). s.code.0) (sym there) ∙ ap (λ (t : TriangleCode). t.0) e
    ∙ ap (λ (s : CodeAnswer). s.code.0) c in
    omega (arith, h)

pub examples : Examples
unfolding check_code first_of decimals written first_digits path word_in opposite_side check_name_fields check_name step_of cross
    seam_side seam_kept around word_at name_at least_name
examples = record {
  side = opposes (written 100) refl refl;
  side_back = opposes (written 310) refl refl;
  side_01 = opposes (written 401) refl refl;
  digits = opposes (written 2001230) refl refl;
  deepest = opposes (written 511333333333333333333333333) refl refl;
  pole = opposes_name (corner_in 100 1) (corner_in 110 1) refl refl refl;
  v20 = opposes_name (name_of 0x2000000000000003) (name_of 0x7000000000000002) refl refl refl;
  middle = opposes_name (corner_in 1000 3) (corner_in 2100 3) refl refl refl;
  e3 = elsewhere;
  filed_elsewhere = filed_elsewhere;
  degree_25 = refuses _ 1 refl (λ e. omega (arith, e));
  word_0 = refuses _ 2 refl (λ e. omega (arith, e));
  beyond = refuses _ 3 refl (λ e. omega (arith, e));
  name_for_code = refuses _ 4 refl (λ e. omega (arith, e));
  code_for_name = refuses_name _ 4 refl (λ e. omega (arith, e));
  not_canonical = refuses_name (corner_in 200 2) 10 (sym (grid_bounds.bounds).not_canonical) (λ e. omega (arith, e));
}

pub mistakes : Mistakes
unfolding decimals written first_digits path word_in
mistakes = record {
  itself = no_other (λ r. r.code.0) examples.side refl;
  three_on = no_other (λ r. r.code.0) examples.side refl;
  other_row = no_other (λ r. r.code.0) examples.side refl;
  digits_kept = no_other (λ r. r.code.0) examples.digits refl;
  one_and_three = no_other (λ r. r.code.0) examples.digits refl;
  dropped = no_other (λ r. r.code.0) examples.digits refl;
  refuses = λ k. no_other (λ r. r.refusal) examples.side (eqb-suc-zero k);
  answers = no_other (λ r. r.refusal) examples.not_canonical refl;
  number_kept = no_other (λ r. r.name.0) examples.v20 refl;
  not_least = no_other (λ r. r.name.0) examples.middle refl;
}
