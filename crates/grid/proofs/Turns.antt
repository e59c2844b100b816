-- The corners of an edge turn as specs/Turns.antt says. Assumes nothing.
use mathlib.Core.Path.{◌≡◌, ◌∙◌, refl, sym, ap, subst}
use mathlib.Core.Logic.{◌⊎◌, inl, inr, ⊎_elim, ◌↔◌}
use Prim.Native.Nat.{ℕ, ◌<◌}
use native.Mathlib.Omega.{arith}
use Rattle.words.specs.Words.{degree_of}
use Rattle.words.specs.Refusals.{IsCode}
use Rattle.words.specs.declared.TriangleCode.{TriangleCode}
use Rattle.net.specs.Sides.{OneToThree}
use Rattle.net.specs.Corners.{corner}
use Rattle.net.specs.Steps.{Across}
use Rattle.net.proofs.Crossing.{across_just, corner_one}
use Rattle.net.proofs.Table.{◌and◌, ◌or◌, ◌then◌, less, no, same, sound, three, threes}
use Rattle.corners.specs.Turns.{Becomes, Turned, higher, lower}
use Rattle.corners.specs.Answers.{CrossAnswer}
use Rattle.corners.specs.Answers.{StepAnswer}
use Rattle.corners.proofs.TurnedCorners.{first_there, second_there, turned_is, turned_one}
use Rattle.grid.specs.Turns.{Pairs, Turns}
use Rattle.grid.proofs.Demands.{crossed_is, crossed_turned, demand_3}

-- ---- of the numbers 1 to 3

two_ends : (k : ℕ) → OneToThree k
    → (lower k < higher k)
    × ((i : ℕ) → OneToThree i → (i ≡ k → ⊥) ↔ ((i ≡ lower k) ⊎ (i ≡ higher k)))
two_ends =
    sound
    (threes λ k. less (lower k) (higher k) and (threes λ i.
    (no (same i k) then (same i (lower k) or same i (higher k)))
    and ((same i (lower k) or same i (higher k)) then no (same i k)))) refl

pub ends_three : (k : ℕ) → OneToThree k → OneToThree (lower k) × OneToThree (higher k)
ends_three =
    three (λ k. OneToThree (lower k) × OneToThree (higher k)) (omega arith) (omega arith) (omega arith)

third_there : (k : ℕ) → OneToThree k → (e : ℕ) → OneToThree e → (m : ℕ) → OneToThree m
    → ((m ≡ first_there k e → ⊥) × (m ≡ second_there k e → ⊥)) ↔ (m ≡ e)
third_there =
    sound
    (threes λ k. threes λ e. threes λ m.
    ((no (same m (first_there k e)) and no (same m (second_there k e))) then same m e)
    and (same m e then (no (same m (first_there k e)) and no (same m (second_there k e))))) refl

-- ---- what an answer pairs

module _ (t : TriangleCode) (k : ℕ) (r : StepAnswer) (a : CrossAnswer t k r) (z : r.refusal ≡ 0) where
  is : IsCode (degree_of t.0) t × OneToThree k × Across (degree_of t.0) t k r.code r.edge
  is = crossed_is t k r a z

  turned : Turned t k r.code r.first r.second
  turned = crossed_turned t k r a z

  -- a pair is one point
  shared : {e f i j : ℕ} → OneToThree e → Becomes t e r.code f → i ≡ e → j ≡ f
      → OneToThree i × OneToThree j × (corner t i ≡ corner r.code j)
  shared {e} {f} {i} {j} l b p q = (
    subst OneToThree (sym p) l,
    subst OneToThree (sym q) b.0,
    ap (corner t) p ∙ b.1 ∙ ap (corner r.code) (sym q),
  )

  -- and one point is a pair
  paired : {e f i j : ℕ} → Becomes t e r.code f → OneToThree j → corner t i ≡ corner r.code j
      → i ≡ e → j ≡ f
  paired b l q p = corner_one is.2.code l b.0 (sym q ∙ ap (corner t) p ∙ b.1)

  pairs : (i j : ℕ) → Pairs k r i j ↔ (OneToThree i × OneToThree j × (corner t i ≡ corner r.code j))
  pairs i j =
      let ends = ends_three k is.1 in (
        ⊎_elim (λ p. shared ends.0 turned.lower_is p.0 p.1)
            (λ p. shared ends.1 turned.higher_is p.0 p.1),
        λ x. ⊎_elim (λ p. inl (p, paired turned.lower_is x.1 x.2 p))
            (λ p. inr (p, paired turned.higher_is x.1 x.2 p))
            (((two_ends k is.1).1 i x.0).0
            ((across_just is.0 k is.1 is.2 i x.0).0 (j, x.1, sym x.2))),
      )

  third : (m : ℕ) → OneToThree m → ((m ≡ r.first → ⊥) × (m ≡ r.second → ⊥)) ↔ (m ≡ r.edge)
  third m l =
      let e = turned_one is.2.code (turned_is is.0 is.1 is.2) turned in
      rw (sym e.0) (rw (sym e.1) (third_there k is.1 r.edge is.2.edge m l))

pub turns : Turns
turns = record {
  rising = two_ends;
  pairs = pairs;
  refused = λ t k r a n. a.refused n;
  back = λ t k r s a z b i j.
      let e = demand_3.back t k r s a z b in
      let here = pairs t k r a z i j in
      let there = pairs r.code r.edge s b e.0 j i in
      let same : corner s.code i ≡ corner t i = ap (λ (u : TriangleCode). corner u i) e.1 in (
        λ p. let x = here.0 p in there.1 (x.1, x.0, sym x.2 ∙ sym same),
        λ p. let x = there.0 p in here.1 (x.1, x.0, sym same ∙ sym x.2),
      );
  third = third;
}
