-- How the corners of an edge turn where it is crossed: one answer, from the edge's numbers here and there. Assumes
-- nothing.
use mathlib.Core.Path.{◌≡◌, ◌∙◌, sym}
use Prim.Native.Nat.{ℕ}
use Rattle.words.specs.Refusals.{IsCode}
use Rattle.words.specs.declared.TriangleCode.{TriangleCode}
use Rattle.net.specs.Corners.{corner}
use Rattle.net.specs.Sides.{OneToThree, next, nth, prev}
use Rattle.net.specs.Steps.{Across}
use Rattle.net.proofs.Crossing.{across_reversed, corner_one}
use Rattle.net.proofs.Stepping.{next_three, prev_three}
use Rattle.net.proofs.Table.{three}
use Rattle.corners.specs.Turns.{Turned}

-- the lower corner follows edges 1 and 3 and goes before edge 2; the higher one the other way round
abbrev pub first_there : (k k' : ℕ) → ℕ
first_there k k' = nth k (prev k') (next k') (prev k')

abbrev pub second_there : (k k' : ℕ) → ℕ
second_there k k' = nth k (next k') (prev k') (next k')

pub turned_is : {n : ℕ} {t t' : TriangleCode} {k k' : ℕ} → IsCode n t → OneToThree k
    → Across n t k t' k' → Turned t k t' (first_there k k') (second_there k k')
turned_is {t = t} {t'} {k} {k'} c l a =
    let r = across_reversed c k l a in
    three
    (λ m. corner t (next m) ≡ corner t' (prev k') → corner t (prev m) ≡ corner t' (next k')
    → Turned t m t' (first_there m k') (second_there m k'))
    (λ p q. record { lower_is = (before, p); higher_is = (after, q) })
    (λ p q. record { lower_is = (after, q); higher_is = (before, p) })
    (λ p q. record { lower_is = (before, p); higher_is = (after, q) }) k l r.0 r.1
  where
    before : OneToThree (prev k')
    before = prev_three k' a.edge

    after : OneToThree (next k')
    after = next_three k' a.edge

-- there are no other numbers
pub turned_one : {n : ℕ} {t t' : TriangleCode} {k i j i' j' : ℕ} → IsCode n t' → Turned t k t' i j
    → Turned t k t' i' j' → (i ≡ i') × (j ≡ j')
turned_one c x y = (
  corner_one c x.lower_is.0 y.lower_is.0 (sym x.lower_is.1 ∙ y.lower_is.1),
  corner_one c x.higher_is.0 y.higher_is.0 (sym x.higher_is.1 ∙ y.higher_is.1),
)
