-- What the functions answer, from their parts. Assumes nothing.
use mathlib.Core.Path.{◌≡◌, ◌∙◌, refl, ap, subst}
use Prim.Native.Nat.{ℕ, ◌+◌, ◌-◌, ◌%◌}
use Rattle.frame.proofs.Answering.{answering}
use Rattle.words.specs.Words.{corner_number, side_of}
use Rattle.words.specs.Refusals.{check_code}
use Rattle.words.specs.Family.{code_of, code_answer}
use Rattle.words.specs.declared.CornerName.{CornerName}
use Rattle.words.specs.declared.TriangleCode.{TriangleCode}
use Rattle.words.proofs.Codes.{is_code}
use Rattle.net.specs.Corners.{code_inside, corner, name_of}
use Rattle.net.specs.Names.{IsName}
use Rattle.net.specs.Refusals.{check_name}
use Rattle.net.specs.Sides.{OneToThree}
use Rattle.net.specs.Means.Walks.{Place, least_name, name_at, place_at, renumbered, word_at}
use Rattle.net.proofs.Canonical.{name_means}
use Rattle.net.proofs.Names.{made_inside, made_number}
use Rattle.net.proofs.WordSteps.{numbered_fields, numbered_place, side_here}
use Rattle.filing.specs.Means.Opposites.{opposite_of, opposite_side}
use Rattle.filing.proofs.OppositeCorners.{opposite_code}
use Rattle.corners.specs.Answers.{name_answer}
use Rattle.corners.proofs.Calls.{naming_answers}
use Rattle.corners.proofs.Refused.{numbered_passes}
use Rattle.opposites.specs.Opposites.{exchanged}
use Rattle.opposites.specs.Answers.{OppositeAnswer, OppositeNameAnswer}
use Rattle.opposites.proofs.Opposing.{exchanged_is, exchanged_three, opposite_is}
use Rattle.opposites.proofs.OpposingNames.{opposing_by}

-- a code with a number, renumbered on the opposite side: the opposite code, with the exchanged number
module _ (t : TriangleCode) (k : ℕ) (z : check_code t ≡ 0) (l : OneToThree k) {s r : ℕ}
    (e : s ≡ opposite_side (side_of (t.0 + k))) (f : r ≡ name_at (renumbered 1 s (place_at (t.0 + k)))) where
  word_is : r ≡ (opposite_of t).0 + exchanged k
  unfolding name_at word_at
  word_is =
      let g : s ≡ opposite_side (place_at (t.0 + k)).side =
      e ∙ ap opposite_side (side_here (t.0 + k) (numbered_fields t z k l)) in
      f ∙ ap (λ (s : ℕ). name_at (renumbered 1 s (place_at (t.0 + k)))) g
      ∙ ap (λ (q : Place). name_at (renumbered 1 (opposite_side q.side) q)) (numbered_place t z k l)
      ∙ ap (λ (i : ℕ). (opposite_of t).0 + i) (exchanged_is k)

  pub number_there : r % 4 ≡ exchanged k
  number_there =
      ap (λ (r : ℕ). r % 4) word_is
      ∙ made_number (opposite_code (is_code t z)) (exchanged k) (exchanged_three k l)

  pub code_there : code_of (r - r % 4) ≡ opposite_of t
  code_there =
      ap (λ (r : ℕ). code_of (r - r % 4)) word_is
      ∙ made_inside (opposite_code (is_code t z)) (exchanged k) (exchanged_three k l)

pub opposite_answers : (t : TriangleCode) {u : TriangleCode} → check_code t ≡ 0 → u ≡ opposite_of t
    → OppositeAnswer t (code_answer 0 u)
opposite_answers t z e =
    answering z (record { number = refl; is = rw e (opposite_is (is_code t z)) })

pub name_answers : (q : CornerName) {u : TriangleCode} {j : ℕ} {r : CornerName} → check_name q ≡ 0
    → u ≡ opposite_of (code_inside q) → j ≡ exchanged (corner_number q.0)
    → r ≡ name_of (least_name 5 (place_at (u.0 + j)))
    → OppositeNameAnswer q (name_answer 0 r)
name_answers q {u} {j} {r} z e f g =
    let x = ((name_means q).0 z).1 in
    let o = opposite_is x.code in
    let l = exchanged_three (corner_number q.0) x.number in
    let h : r ≡ name_of (least_name 5 (place_at ((opposite_of (code_inside q)).0 + exchanged (corner_number q.0)))) =
    g ∙ (λ i. name_of (least_name 5 (place_at ((e i).0 + f i)))) in
    let none = (numbered_passes _ _).1 (o.code.passes, l) in
    let p = corner (opposite_of (code_inside q)) (exchanged (corner_number q.0)) in
    let y = ((naming_answers _ _ none h).answered none).is in
    answering z (record {
      number = refl;
      is = opposing_by x o (subst (λ (n : ℕ). IsName n p r) o.code.degree_is y);
    })
