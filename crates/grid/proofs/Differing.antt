-- Different edges have different ends, and every edge of every triangle is one of those that are counted. Assumes
-- nothing.
use mathlib.Core.Path.{◌≡◌, ◌∙◌, refl, sym, ap, subst}
use mathlib.Core.Logic.{inl, inr, ⊎_elim}
use Prim.Native.Nat.{ℕ, ◌<◌}
use native.Mathlib.Omega.{arith}
use Rattle.words.specs.Family.{code_of}
use Rattle.words.specs.Refusals.{IsCode}
use Rattle.words.specs.declared.TriangleCode.{TriangleCode}
use Rattle.net.specs.Corners.{corner}
use Rattle.net.specs.Division.{Weights}
use Rattle.net.specs.Sides.{OneToThree}
use Rattle.net.specs.Steps.{Across, SameTwo}
use Rattle.net.proofs.Crossing.{across_back, across_differ, across_is, across_only, code_across, corner_one, edge_across}
use Rattle.net.proofs.Demand3.{back_again}
use Rattle.net.proofs.Table.{either_way, less, same}
use Rattle.grid.specs.Counts.{Edge, IsEdge, SameEnds, edge}

-- ---- triangles

-- the three corners of a triangle are different
pub corners_differ : (n : ℕ) (t : TriangleCode) → IsCode n t → (i j : ℕ) → OneToThree i → OneToThree j
    → corner t i ≡ corner t j → i ≡ j
corners_differ n t c i j l m e = corner_one c l m e

-- codes are the same where their words are
pub same_word : {t u : TriangleCode} → t.0 ≡ u.0 → t ≡ u
same_word e = λ i. code_of (e i)

-- and edges, where the code and the number are
pub same_edge : {t u : TriangleCode} {k m : ℕ} → t ≡ u → k ≡ m → edge t k ≡ edge u m
same_edge e f = λ i. edge (e i) (f i)

-- ---- the same two ends

-- the other way round, and one after the other
two_back : {p q p' q' : Weights} → SameTwo p q p' q' → SameTwo p' q' p q
two_back = ⊎_elim (λ x. inl (sym x.0, sym x.1)) (λ x. inr (sym x.1, sym x.0))

two_then : {p q p' q' p'' q'' : Weights} → SameTwo p q p' q' → SameTwo p' q' p'' q'' → SameTwo p q p'' q''
two_then (inl x) (inl y) = inl (x.0 ∙ y.0, x.1 ∙ y.1)
two_then (inl x) (inr y) = inr (x.0 ∙ y.0, x.1 ∙ y.1)
two_then (inr x) (inl y) = inr (x.0 ∙ y.1, x.1 ∙ y.0)
two_then (inr x) (inr y) = inl (x.0 ∙ y.1, x.1 ∙ y.0)

-- ---- edges

-- two edges of one triangle with the same ends have the same number
own_number : {n : ℕ} {t : TriangleCode} {k m : ℕ} → IsCode n t → OneToThree k → OneToThree m
    → SameEnds (edge t k) (edge t m) → k ≡ m
own_number {n} {t} {k} {m} c l h e =
    ⊎_elim (λ z. z) (λ f. absurd (across_differ c l h f a b refl)) (either_way (same k m))
  where
    a : Across n t k (code_across k t) (edge_across k t)
    a = across_is c k l

    b : Across n t m (code_across k t) (edge_across k t)
    b = record { code = a.code; other = a.other; edge = a.edge; ends = two_then (two_back e) a.ends }

-- two edges with the same two ends are one
pub edges_differ_lem : (n : ℕ) (e f : Edge) → IsEdge n e → IsEdge n f → SameEnds e f → e ≡ f
edges_differ_lem n e f x y z = ⊎_elim one two (either_way (same e.code.0 f.code.0))
  where
    one : e.code.0 ≡ f.code.0 → e ≡ f
    one w =
        let q : e.code ≡ f.code = same_word w in
        same_edge q
        (own_number y.a_code x.a_number y.a_number
        (subst (λ (t : TriangleCode). SameEnds (edge t e.number) f) q z))

    two : (e.code.0 ≡ f.code.0 → ⊥) → e ≡ f
    two w =
        let a : Across n e.code e.number f.code f.number =
        record {
          code = y.a_code;
          other = λ q. w (ap (λ (t : TriangleCode). t.0) (sym q));
          edge = y.a_number;
          ends = z;
        } in
        let b = y.lesser e.code e.number (across_back x.a_code x.a_number a) in
        absurd (omega (arith, x.lesser f.code f.number a, b))

module _ (n : ℕ) (t : TriangleCode) (k : ℕ) (c : IsCode n t) (l : OneToThree k) where
  a : Across n t k (code_across k t) (edge_across k t)
  a = across_is c k l

  -- told from the lesser triangle
  pub edge_here : t.0 < (code_across k t).0 → IsEdge n (edge t k)
  edge_here h = record {
    a_code = c;
    a_number = l;
    lesser = λ u m b. let q = ap (λ (t : TriangleCode). t.0) (across_only c k l u m b).0 in omega (arith, h, q);
  }

  -- or from the other triangle, where that is the lesser
  edge_across_lem : (code_across k t).0 < t.0 → IsEdge n (edge (code_across k t) (edge_across k t))
  edge_across_lem h = record {
    a_code = a.code;
    a_number = a.edge;
    lesser = λ u m b.
        let q = ap (λ (t : TriangleCode). t.0) (back_again n t k c l (code_across k t) (edge_across k t) a u m b).0 in
        omega (arith, h, q);
  }

  -- the words of the two triangles differ
  pub words_differ : (code_across k t).0 ≡ t.0 → ⊥
  words_differ e = a.other (same_word e)

  -- every edge of every triangle has the ends of one that is counted
  pub edge_there : (e : Edge) × IsEdge n e × SameEnds (edge t k) e
  edge_there =
      ⊎_elim (λ h. (edge t k, edge_here h, inl (refl, refl)))
      (λ f. (edge (code_across k t) (edge_across k t), edge_across_lem (omega (arith, f, words_differ)), a.ends))
      (either_way (less t.0 (code_across k t).0))
