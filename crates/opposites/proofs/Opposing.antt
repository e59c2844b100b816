-- The opposite of a triangle: there is one and no other; the triangle is the opposite of its opposite; what two
-- triangles share their opposites share, and so neighbours go to neighbours. Nearly all of it follows from the
-- coordinates of the corners. Assumes nothing.
use mathlib.Core.Path.{◌≡◌, ◌∙◌, refl, sym, ap, subst}
use mathlib.Core.Logic.{inl, inr, ⊎_elim}
use Prim.Native.Nat.{ℕ, zero, suc}
use native.Mathlib.Omega.{arith}
use Rattle.words.specs.Refusals.{IsCode}
use Rattle.words.specs.declared.TriangleCode.{TriangleCode}
use Rattle.net.specs.Sides.{OneToThree, next, nth, prev}
use Rattle.net.specs.Division.{Weights}
use Rattle.net.specs.Corners.{corner}
use Rattle.net.specs.Steps.{Across}
use Rattle.net.specs.Means.Seams.{flip}
use Rattle.net.proofs.Crossing.{codes_differ_lem}
use Rattle.net.proofs.Table.{three}
use Rattle.net.proofs.Flips.{flip_three}
use Rattle.net.proofs.Stepping.{next_three, prev_three}
use Rattle.filing.specs.Coordinates.{exact, negated}
use Rattle.filing.specs.Means.Opposites.{opposite_of}
use Rattle.filing.specs.declared.Coordinates.{Coordinates}
use Rattle.filing.proofs.Counting.{twice_neg}
use Rattle.filing.proofs.OnePoint.{same_place}
use Rattle.filing.proofs.OppositeCorners.{opposite_code, opposite_exact}
use Rattle.filing.proofs.Parts.{coordinates_path}
use Rattle.corners.specs.Turns.{Becomes, Turned}
use Rattle.opposites.specs.Opposites.{exchanged, IsOpposite}

-- ---- exchanged numbers

pub exchanged_is : (d : ℕ) → flip 1 d ≡ exchanged d
exchanged_is zero = refl
exchanged_is (suc d) = refl

pub exchanged_three : (i : ℕ) → OneToThree i → OneToThree (exchanged i)
exchanged_three i l = subst OneToThree (exchanged_is i) (flip_three 1 (omega arith) i l)

pub exchanged_twice : (i : ℕ) → OneToThree i → exchanged (exchanged i) ≡ i
exchanged_twice = three (λ i. exchanged (exchanged i) ≡ i) refl refl refl

next_exchanged : (k : ℕ) → OneToThree k → exchanged (prev k) ≡ next (exchanged k)
next_exchanged = three (λ k. exchanged (prev k) ≡ next (exchanged k)) refl refl refl

prev_exchanged : (k : ℕ) → OneToThree k → exchanged (next k) ≡ prev (exchanged k)
prev_exchanged = three (λ k. exchanged (next k) ≡ prev (exchanged k)) refl refl refl

-- ---- negated coordinates

pub negated_twice : (c : Coordinates) → negated (negated c) ≡ c
negated_twice c = coordinates_path (twice_neg c.x) (twice_neg c.y) (twice_neg c.z)

-- ---- there is one

pub opposite_is : {n : ℕ} {t : TriangleCode} → IsCode n t → IsOpposite n t (opposite_of t)
opposite_is {t = t} c = record {
  code = opposite_code c;
  negates = λ i l.
      subst (λ (j : ℕ). exact (corner (opposite_of t) j) ≡ negated (exact (corner t i))) (exchanged_is i)
      (opposite_exact c i l);
}

-- ---- what two triangles share, their opposites share

module _ {n : ℕ} {t u t' u' : TriangleCode} (o : IsOpposite n t t') (p : IsOpposite n u u') where
  pub shared : (i j : ℕ) → OneToThree i → OneToThree j → corner t i ≡ corner u j
      → corner t' (exchanged i) ≡ corner u' (exchanged j)
  shared i j l m e =
      (same_place o.code p.code (exchanged i) (exchanged j) (exchanged_three i l) (exchanged_three j m)).0
      (o.negates i l ∙ ap (λ (w : Weights). negated (exact w)) e ∙ sym (p.negates j m))

-- ---- there is no other

-- and none whose corners are, in any order, the opposite points
pub opposite_any : {n : ℕ} {t u : TriangleCode} → IsCode n t → IsCode n u
    → ((j : ℕ) → OneToThree j → (i : ℕ) × OneToThree i × (exact (corner u j) ≡ negated (exact (corner t i))))
    → IsOpposite n t u
opposite_any {n} {t} {u} c d h =
    let o = opposite_is c in
    subst (λ (v : TriangleCode). IsOpposite n t v)
    (sym (codes_differ_lem n u (opposite_of t) d o.code (λ j l.
    let x = h j l in
    let k = exchanged_three x.0 x.1 in (
      exchanged x.0,
      k,
      (same_place o.code d (exchanged x.0) j k l).0 (o.negates x.0 x.1 ∙ sym x.2),
    )))) o

pub opposite_only : {n : ℕ} {t u u' : TriangleCode} → IsOpposite n t u → IsOpposite n t u' → u ≡ u'
opposite_only {n} {t} {u} {u'} o p =
    codes_differ_lem n u u' o.code p.code (λ j l. (j, l, sym (same j l)))
  where
    same : (j : ℕ) → OneToThree j → corner u j ≡ corner u' j
    same j l =
        subst (λ (i : ℕ). corner u i ≡ corner u' i) (exchanged_twice j l)
        (shared o p (exchanged j) (exchanged j) (exchanged_three j l) (exchanged_three j l) refl)

-- ---- "Opposite twice is the identity": the triangle is the opposite of its opposite

pub opposite_back : {n : ℕ} {t u : TriangleCode} → IsCode n t → IsOpposite n t u → IsOpposite n u t
opposite_back {t = t} {u = u} c o = record {
  code = c;
  negates = λ i l.
      let k = exchanged i in
      let e : exact (corner u i) ≡ negated (exact (corner t k)) =
      subst (λ (j : ℕ). exact (corner u j) ≡ negated (exact (corner t k))) (exchanged_twice i l)
      (o.negates k (exchanged_three i l)) in
      sym (ap negated e ∙ negated_twice (exact (corner t k)));
}

-- and so triangles share what their opposites share
pub shared_back : {n : ℕ} {t u t' u' : TriangleCode} → IsCode n t → IsCode n u → IsOpposite n t t' → IsOpposite n u u'
    → (i j : ℕ) → OneToThree i → OneToThree j → corner t' (exchanged i) ≡ corner u' (exchanged j)
    → corner t i ≡ corner u j
shared_back {t = t} {u = u} c d o p i j l m e =
    ap (corner t) (sym (exchanged_twice i l))
    ∙ shared (opposite_back c o) (opposite_back d p) (exchanged i) (exchanged j) (exchanged_three i l)
    (exchanged_three j m) e
    ∙ ap (corner u) (exchanged_twice j m)

-- ---- "it carries neighbours to neighbours"

module _ {n : ℕ} {t u t' u' : TriangleCode} (c : IsCode n t) (o : IsOpposite n t t') (p : IsOpposite n u u') where
  -- an end of an edge that both have
  end : {i j i' j' : ℕ} → OneToThree i → OneToThree j → exchanged i ≡ i' → exchanged j ≡ j'
      → corner t i ≡ corner u j → corner t' i' ≡ corner u' j'
  end {i} {j} l m f g e = ap (corner t') (sym f) ∙ shared o p i j l m e ∙ ap (corner u') g

  pub across_opposite : {k m : ℕ} → OneToThree k → Across n t k u m → Across n t' (exchanged k) u' (exchanged m)
  across_opposite {k} {m} l a =
      let h = a.edge in
      let kn = next_three k l in
      let kp = prev_three k l in
      let mn = next_three m h in
      let mp = prev_three m h in
      let to-next = next_exchanged in
      let to-prev = prev_exchanged in
      record {
        code = p.code;
        other = λ e.
            let b = subst (λ (v : TriangleCode). IsOpposite n v u) e (opposite_back a.code p) in
            a.other (opposite_only b (opposite_back c o));
        edge = exchanged_three m h;
        ends = ⊎_elim
            (λ x. inl (end kp mp (to-next k l) (to-next m h) x.1, end kn mn (to-prev k l) (to-prev m h) x.0))
            (λ x. inr (end kp mn (to-next k l) (to-prev m h) x.1, end kn mp (to-prev k l) (to-next m h) x.0))
            a.ends;
      }

  -- the corners of the edge: the lower one here is the lower one there, but of edge 1
  pub turned_opposite : {k i j : ℕ} → OneToThree k → Turned t k u i j
      → Turned t' (exchanged k) u' (exchanged (nth k j i i)) (exchanged (nth k i j j))
  turned_opposite {k} {i} {j} l x =
      three
      (λ k. Turned t k u i j → Turned t' (exchanged k) u' (exchanged (nth k j i i)) (exchanged (nth k i j j)))
      (λ x. record { lower_is = becomes 3 (omega arith) x.higher_is; higher_is = becomes 2 (omega arith) x.lower_is })
      (λ x. record { lower_is = becomes 1 (omega arith) x.lower_is; higher_is = becomes 3 (omega arith) x.higher_is })
      (λ x. record { lower_is = becomes 1 (omega arith) x.lower_is; higher_is = becomes 2 (omega arith) x.higher_is })
      k l x
    where
      becomes : (m : ℕ) {h : ℕ} → OneToThree m → Becomes t m u h → Becomes t' (exchanged m) u' (exchanged h)
      becomes m {h} a b = (exchanged_three h b.0, shared o p m h a b.0 b.1)
