-- The promises of the opposite hold: a theorem for each record of specs/Promises.antt. Assumes nothing.
use mathlib.Core.Path.{◌≡◌, ◌∙◌, refl, sym, ap, subst}
use mathlib.Core.Logic.{⊎_elim}
use mathlib.Core.List.{List, [], ◌∷◌}
use Prim.Native.Nat.{ℕ, zero, suc, ◌≤◌}
use native.Mathlib.Omega.{arith}
use Rattle.frame.proofs.Answering.{answer_one, answer_some, good, keeps, passed}
use Rattle.words.specs.Words.{degree_of, digit_of, digits, first_digits}
use Rattle.words.specs.Refusals.{IsCode, check_code}
use Rattle.words.specs.Family.{code_answer, no_code}
use Rattle.words.specs.declared.TriangleCode.{TriangleCode}
use Rattle.words.specs.declared.CornerName.{CornerName}
use Rattle.words.specs.Family.{CodeAnswer}
use Rattle.words.proofs.Codes.{is_code}
use Rattle.net.specs.Corners.{named}
use Rattle.net.specs.Division.{each}
use Rattle.net.specs.Names.{IsName}
use Rattle.net.specs.Refusals.{check_name}
use Rattle.net.specs.Sides.{nth}
use Rattle.net.specs.Steps.{Across}
use Rattle.net.specs.Means.Seams.{flip}
use Rattle.net.proofs.Canonical.{name_means, name_passes_all}
use Rattle.net.proofs.Crossing.{across_only}
use Rattle.net.proofs.Demand3.{one_name_each}
use Rattle.net.proofs.Table.{either_way, same}
use Rattle.filing.specs.Coordinates.{exact, negated}
use Rattle.filing.specs.Means.Opposites.{opposite_of}
use Rattle.filing.proofs.OppositeCorners.{opposite_code, opposite_digits}
use Rattle.corners.specs.Answers.{CrossAnswer, name_answer, no_name}
use Rattle.corners.specs.Turns.{Turned}
use Rattle.corners.specs.Answers.{StepAnswer}
use Rattle.corners.specs.Answers.{NameAnswer}
use Rattle.corners.proofs.Refused.{numbered, numbered_passes}
use Rattle.corners.proofs.TurnedCorners.{turned_one}
use Rattle.opposites.specs.Opposites.{exchanged, IsOpposite, IsOppositeName}
use Rattle.opposites.specs.Answers.{Opposing, OpposingName, OppositeAnswer, OppositeNameAnswer}
use Rattle.opposites.specs.Promises.{OneAnswer, Twice, Carries, Holders, Names}
use Rattle.opposites.proofs.Opposing.{across_opposite, exchanged_is, exchanged_three, opposite_back, opposite_is}
use Rattle.opposites.proofs.Opposing.{opposite_any, opposite_only, shared, shared_back, turned_opposite}
use Rattle.opposites.proofs.OpposingHolders.{all_opposites, filed_alone, filed_least, refused_alike}
use Rattle.opposites.proofs.OpposingNames.{name_only, name_some, name_there, name_twice}

-- ---- one answer

pub one_answer : OneAnswer
one_answer = record {
  opposite = λ t.
      keeps (λ (r : CodeAnswer). r.refusal) refl (λ r x. x.number)
      (answer_some (check_code t) (Opposing t) no_code (λ z.
      (code_answer 0 (opposite_of t), record { number = refl; is = opposite_is (is_code t z) })))
      (λ r r'. answer_one (λ z x y. opposing_one x y));
  opposite_name = λ q.
      keeps (λ (r : NameAnswer). r.refusal) refl (λ r x. x.number)
      (answer_some (check_name q) (OpposingName q) no_name (λ z.
      let x = name_some z in (name_answer 0 x.0, record { number = refl; is = x.1 })))
      (λ r r'. answer_one (λ z x y. opposing_name_one x y));
}
  where
    opposing_one : {t : TriangleCode} {r r' : CodeAnswer} → Opposing t r → Opposing t r' → r ≡ r'
    opposing_one x y =
        λ i. record { refusal = (x.number ∙ sym y.number) i; code = opposite_only x.is y.is i }

    opposing_name_one : {q : CornerName} {r r' : NameAnswer} → OpposingName q r → OpposingName q r' → r ≡ r'
    opposing_name_one x y =
        λ i. record { refusal = (x.number ∙ sym y.number) i; name = name_only x.is y.is i }

-- ---- what is answered, where the number is 0

module _ {t : TriangleCode} {r : CodeAnswer} (a : OppositeAnswer t r) (e : r.refusal ≡ 0) where
  asked : IsCode (degree_of t.0) t
  asked = is_code t (passed (λ (r : CodeAnswer). r.refusal) refl (λ r x. x.number) a e)

  pub opposing : IsOpposite (degree_of t.0) t r.code
  opposing = (good (λ (r : CodeAnswer). r.refusal) refl (λ r x. x.number) a e).is

module _ {q : CornerName} {r : NameAnswer} (a : OppositeNameAnswer q r) (e : r.refusal ≡ 0) where
  asked_name : IsName (degree_of q.0) (named q) q
  asked_name = ((name_means q).0 (passed (λ (r : NameAnswer). r.refusal) refl (λ r x. x.number) a e)).1

  pub opposing_name : IsOppositeName (degree_of q.0) q r.name
  opposing_name = (good (λ (r : NameAnswer). r.refusal) refl (λ r x. x.number) a e).is

-- ---- "Opposite twice is the identity"

pub twice : Twice
twice = record {
  triangle = λ t r s a e b.
      let o = opposing a e in
      let y = b.answered o.code.passes in
      let p : IsOpposite (degree_of t.0) r.code s.code =
      subst (λ (n : ℕ). IsOpposite n r.code s.code) o.code.degree_is y.is in
      λ i. code_answer (y.number i) (opposite_only p (opposite_back (asked a e) o) i);
  name = λ q r s a e b.
      let o = opposing_name a e in
      let p = name_passes_all o.canonical in
      let y = b.answered p.0 in
      let there = subst (λ (n : ℕ). IsOppositeName n r.name s.name) p.1 y.is in
      λ i. name_answer (y.number i) (name_twice (asked_name a e) o there i);
}

-- ---- neighbours and digits

crossing : (t : TriangleCode) (k : ℕ) (r s : StepAnswer) (o p : CodeAnswer)
    → CrossAnswer t k r → r.refusal ≡ 0 → OppositeAnswer r.code p
    → OppositeAnswer t o → CrossAnswer o.code (exchanged k) s
    → (s.refusal ≡ 0) × (s.code ≡ p.code) × (s.edge ≡ exchanged r.edge)
    × (s.first ≡ exchanged (nth k r.second r.first r.first))
    × (s.second ≡ exchanged (nth k r.first r.second r.second))
crossing t k r s o p a e b d g =
    let z = passed (λ (r : StepAnswer). r.refusal) refl (λ r x. x.number) a e in
    let c = numbered t k z in
    let n = degree_of t.0 in
    let x : Across n t k r.code r.edge = (a.answered z).across in
    let there : IsOpposite n t o.code = (d.answered c.0.passes).is in
    let beyond : IsOpposite n r.code p.code =
    subst (λ (m : ℕ). IsOpposite m r.code p.code) x.code.degree_is (b.answered x.code.passes).is in
    let l = exchanged_three k c.1 in
    let w = g.answered ((numbered_passes o.code (exchanged k)).1 (there.code.passes, l)) in
    let found : Across n o.code (exchanged k) s.code s.edge =
    subst (λ (m : ℕ). Across m o.code (exchanged k) s.code s.edge) there.code.degree_is w.across in
    let i = across_only there.code (exchanged k) l _ _ found in
    let j = across_only there.code (exchanged k) l _ _ (across_opposite c.0 there beyond c.1 x) in
    let e : s.code ≡ p.code = i.0 ∙ sym j.0 in
    let turned = turned_opposite c.0 there beyond c.1 (a.answered z).turned in
    let found-turned : Turned o.code (exchanged k) p.code s.first s.second =
    subst (λ (u : TriangleCode). Turned o.code (exchanged k) u s.first s.second) e w.turned in
    let m = turned_one beyond.code found-turned turned in
    (w.number, e, i.1 ∙ sym j.1, m.0, m.1)

-- a digit of a list in which each is exchanged
digit_each : (w v n : ℕ) → digits w n ≡ each (flip 1) (digits v n)
    → (i : ℕ) → 1 ≤ i → i ≤ n → digit_of w i ≡ flip 1 (digit_of v i)
unfolding first_digits
digit_each w v zero e i l h = absurd (omega arith)
digit_each w v (suc n) e i l h = ⊎_elim
    (λ f. subst (λ (j : ℕ). digit_of w j ≡ flip 1 (digit_of v j)) (sym f) (ap head e))
    (λ f. digit_each w v n (ap tail e) i l (omega arith))
    (either_way (same i (suc n)))
  where
    head : List ℕ → ℕ
    head [] = 0
    head (x ∷ xs) = x

    tail : List ℕ → List ℕ
    tail [] = []
    tail (x ∷ xs) = xs

exchanged_digit : (t : TriangleCode) (r : CodeAnswer) → OppositeAnswer t r → r.refusal ≡ 0
    → (i : ℕ) → 1 ≤ i → i ≤ degree_of t.0 → digit_of r.code.0 i ≡ exchanged (digit_of t.0 i)
exchanged_digit t r a e i l h =
    let c = asked a e in
    let n = degree_of t.0 in
    let u = opposite_of t in
    let d : digits u.0 n ≡ each (flip 1) (digits t.0 n) =
    ap (digits u.0) (sym (opposite_code c).degree_is) ∙ opposite_digits c in
    ap (λ (u : TriangleCode). digit_of u.0 i) (opposite_only (opposing a e) (opposite_is c))
    ∙ digit_each u.0 t.0 n d i l h ∙ exchanged_is (digit_of t.0 i)

pub carries : Carries
carries = record {
  neighbours = λ n t u t' u' k m c l a o p. across_opposite c o p l a;
  crossing = crossing;
  corners = λ n t u t' u' i j c d l m o p. (shared o p i j l m, shared_back c d o p i j l m);
  order = λ n t u. opposite_any;
  digits = exchanged_digit;
}

-- ---- holders

pub holders : Holders
holders = record {
  holders = all_opposites;
  filed = filed_least;
  alone = filed_alone;
  refused = refused_alike;
}

-- ---- names

pub names : Names
names = record {
  canonical = λ q r a e. name_passes_all (opposing_name a e).canonical;
  negates = λ q r a e. (opposing_name a e).negates;
  corners = λ n t t' i c l o.
      let name = one_name_each n t i c l in
      let q = name.0 in
      let x = name.1 in
      let answer = (one_answer.opposite_name q).one in
      let a = answer.1.meets in
      let p = name_passes_all x in
      let y = a.answered p.0 in
      let b = subst (λ (m : ℕ). IsOppositeName m q answer.0.name) p.1 y.is in (
        q,
        answer.0,
        x,
        a,
        y.number,
        name_there b.canonical o.code (exchanged i) (exchanged_three i l)
            (b.negates ∙ ap (λ (w : List ℕ). negated (exact w)) x.there ∙ sym (o.negates i l)),
      );
}
