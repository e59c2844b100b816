-- The walk round a corner is its ring: there is no other, its triangles are all that have the corner and all different,
-- and it closes. Assumes nothing.
use mathlib.Core.Path.{◌≡◌, ◌∙◌, refl, sym, ap, subst}
use mathlib.Core.List.{List}
use mathlib.Core.Logic.{⊎_elim}
use Prim.Native.Nat.{ℕ, zero, suc, ◌-◌, ◌≤◌, ◌<◌}
use native.Mathlib.Omega.{arith}
use lib.ListN.{length, get_or}
use lib.Seq.{ext_get_or}
use Rattle.words.proofs.Codes.{code_degree}
use Rattle.words.specs.Family.{code_of}
use Rattle.words.specs.Refusals.{IsCode}
use Rattle.words.specs.Words.{corner_number, degree_of, side_of}
use Rattle.words.specs.declared.CornerName.{CornerName}
use Rattle.words.specs.declared.TriangleCode.{TriangleCode}
use Rattle.net.specs.Corners.{HasCorner, code_inside, corner, named}
use Rattle.net.specs.Division.{Weights, corner_of}
use Rattle.net.specs.Means.Walks.{Place, around, ring_at, ring_words, step_of, word_at}
use Rattle.net.specs.Sides.{OneToThree, next, prev}
use Rattle.net.specs.Steps.{IsRing, IsWhole, non_zeros, ring_size, Turn}
use Rattle.net.proofs.CodePlaces.{code_for_lem, code_for, digits_in}
use Rattle.net.proofs.Crossing.{code_across, corner_one, ends_only}
use Rattle.net.proofs.LeastName.{around_first, place_code, place_corner, place_digits, place_in_lem, place_side}
use Rattle.net.proofs.LeastName.{place_in, walk_all}
use Rattle.net.proofs.Rings.{At, around_at, next_next, prev_next, ring_at_lem, ring_closes, ring_differs}
use Rattle.net.proofs.Stepping.{next_three, prev_three, step_beside}
use Rattle.net.proofs.Table.{three}

next_prev : (i : ℕ) → OneToThree i → prev i ≡ next i → ⊥
next_prev = three (λ i. prev i ≡ next i → ⊥) (λ e. omega arith) (λ e. omega arith) (λ e. omega arith)

-- ---- a turn leads to one triangle

module _ {n : ℕ} {p : Weights} {t : TriangleCode} (c : IsCode n t) where
  turn_across : {t' : TriangleCode} → IsCode n t' → (x : Turn p t t') → t' ≡ code_across (next x.i) t
  turn_across {t'} c' x =
      let k = next x.i in
      let a : HasCorner t' (corner t (next k)) = (
        next x.j,
        next_three x.j x.j_ok,
        sym x.leg
            ∙ ap (corner t) (sym (next_next x.i x.i_ok)),
      ) in
      let b : HasCorner t' (corner t (prev k)) = (
        x.j,
        x.j_ok,
        x.has' ∙ sym x.has
            ∙ ap (corner t) (sym (prev_next x.i x.i_ok)),
      ) in
      ⊎_elim (λ e. absurd (stays e)) (λ e. e) (ends_only c k (next_three x.i x.i_ok) t' c' a b)
    where
      stays : t' ≡ t → ⊥
      stays e =
          let f : x.i ≡ x.j = corner_one c x.i_ok x.j_ok
          (x.has ∙ sym x.has' ∙ ap (λ (u : TriangleCode). corner u x.j) e) in
          let g : corner t (prev x.i) ≡ corner t (next x.i) = x.leg
          ∙ (λ j. corner (e j) (next (sym f j))) in
          next_prev x.i x.i_ok (corner_one c (prev_three x.i x.i_ok) (next_three x.i x.i_ok) g)

  turn_one : {t' t'' : TriangleCode} → IsCode n t' → IsCode n t'' → Turn p t t' → Turn p t t''
      → t' ≡ t''
  turn_one c' c'' x y =
      let e : x.i ≡ y.i = corner_one c x.i_ok y.i_ok (x.has ∙ sym y.has) in
      turn_across c' x ∙ ap (λ (i : ℕ). code_across (next i) t) e ∙ sym (turn_across c'' y)

-- two rings of one name are the same
module _ {r : CornerName} {ts us : List ℕ} (x : IsRing r ts) (y : IsRing r us) where
  same_at : (m : ℕ) → m < length ts → get_or ts m 0 ≡ get_or us m 0
  same_at zero h = x.begins ∙ sym y.begins
  same_at (suc m) h =
      let k : length us ≡ length ts = y.count ∙ sym x.count in
      let e : code_of (get_or ts m 0) ≡ code_of (get_or us m 0) = ap code_of (same_at m (omega arith)) in
      let t : Turn (named r) (code_of (get_or ts m 0)) (code_of (get_or us (suc m) 0)) =
      subst (λ (u : TriangleCode). Turn (named r) u (code_of (get_or us (suc m) 0))) (sym e) (y.turns m (omega arith)) in
      ap (λ (u : TriangleCode). u.0) (turn_one (x.codes m (omega arith)) (x.codes (suc m) h)
      (y.codes (suc m) (omega arith)) (x.turns m h) t)

  pub ring_one : ts ≡ us
  ring_one = ext_get_or 0 ts us (x.count ∙ sym y.count) same_at

-- ---- the walk

pub ring_length : (m : ℕ) (q : Place) → length (ring_words m q) ≡ m
unfolding ring_words
ring_length zero q = refl
ring_length (suc m) q = ap suc (ring_length m (around q))

pub ring_word : (m : ℕ) (q : Place) (j : ℕ) → j < m → get_or (ring_words m q) j 0 ≡ word_at (ring_at q j)
unfolding ring_words ring_at
ring_word zero q j h = absurd (omega arith)
ring_word (suc m) q zero h = refl
ring_word (suc m) q (suc j) h = ring_word m (around q) j (omega arith) ∙ ap word_at (around_first q j)

module _ {n : ℕ} {P : List ℕ} (low : n ≤ 24) where
  -- one step of the walk is a turn
  walk_turn : (q : Place) → At n P q → Turn P (code_for q.side q.digits)
      (code_for (around q).side (around q).digits)
  unfolding around
  walk_turn q a =
      let k = next q.number in
      let l = next_three q.number a.a_number in
      let b = step_beside k q.side q.digits l a.a_side a.the_digits in
      let e = (step_of k q.side q.digits).edge in
      let a' : At n P (around q) = around_at n P q a in
      record {
        i = q.number;
        j = next e;
        i_ok = a.a_number;
        j_ok = a'.a_number;
        has = place_corner a low q.number ∙ a.corner;
        has' = place_corner a' low (next e) ∙ a'.corner;
        leg =
            place_corner a low (prev q.number)
            ∙ ap (corner_of q.side q.digits) (sym (next_next q.number a.a_number))
            ∙ sym b.after
            ∙ ap (corner_of (around q).side (around q).digits) (sym (next_next e b.an_edge))
            ∙ sym (place_corner a' low (next (next e)));
      }

size_pos : (k : ℕ) → 0 < ring_size k
size_pos zero = omega arith
size_pos (suc zero) = omega arith
size_pos (suc (suc k)) = omega arith

module _ (r : CornerName) (c : IsCode (degree_of r.0) (code_inside r)) (l : OneToThree (corner_number r.0)) where
  abbrev n : ℕ
  n = degree_of r.0

  abbrev q : Place
  q = place_in (code_inside r) (corner_number r.0)

  abbrev size : ℕ
  size = ring_size (non_zeros (named r))

  at : (j : ℕ) → At n (named r) (ring_at q j)
  at j = ring_at_lem n (named r) q (place_in_lem c l) j

  abbrev code : ℕ → TriangleCode
  code j = code_for (ring_at q j).side (ring_at q j).digits

  low : n ≤ 24
  low = code_degree c

  word_is : (j : ℕ) → j < size → code_of (get_or (ring_words size q) j 0) ≡ code j
  unfolding word_at
  word_is j h = ap code_of (ring_word size q j h)

  walk_step : (j : ℕ) → Turn (named r) (code j) (code (suc j))
  unfolding ring_at
  walk_step j = walk_turn low (ring_at q j) (at j)

  -- the walk is a ring
  pub ring_is : IsRing r (ring_words size q)
  unfolding ring_at word_at
  ring_is =
      let len = ring_length size q in
      record {
        count = len;
        codes = λ m h. subst (λ (t : TriangleCode). IsCode n t) (sym (word_is m (omega arith)))
            (place_code (at m) low);
        begins = ring_word size q 0 (size_pos (non_zeros (named r)))
            ∙ ap (λ (t : TriangleCode). t.0) (sym (code_for_lem c));
        turns = λ m h. subst (λ (t : TriangleCode). Turn (named r) t (code_of (get_or (ring_words size q) (suc m) 0)))
            (sym (word_is m (omega arith)))
            (subst (λ (t : TriangleCode). Turn (named r) (code m) t) (sym (word_is (suc m) (omega arith)))
            (walk_step m));
      }

  -- it closes, its triangles are different, and they are all that have the corner
  closes : Turn (named r) (code (size - 1)) (code 0)
  unfolding ring_at
  closes =
      let e : suc (size - 1) ≡ size = omega (arith, size_pos (non_zeros (named r))) in
      let f : code (suc (size - 1)) ≡ code 0 = ap code e
      ∙ ap (λ (p : Place). code_for p.side p.digits) (ring_closes n (named r) q (place_in_lem c l)) in
      subst (λ (t : TriangleCode). Turn (named r) (code (size - 1)) t) f (walk_step (size - 1))

  differs : (i j : ℕ) → i < j → j < size → code i ≡ code j → ⊥
  differs i j h k e =
      ring_differs n (named r) q (place_in_lem c l) i j (omega arith) k h
      (sym (place_side (at i) low) ∙ ap (λ (t : TriangleCode). side_of t.0) e ∙ place_side (at j) low)
      (sym (place_digits (at i) low) ∙ ap digits_in e ∙ place_digits (at j) low)

module _ (r : CornerName) (c : IsCode (degree_of r.0) (code_inside r)) (l : OneToThree (corner_number r.0)) where
  walk_whole : IsWhole r (ring_words (size r c l) (q r c l))
  walk_whole =
      let len = ring_length (size r c l) (q r c l) in
      let pos = size_pos (non_zeros (named r)) in
      let is = word_is r c l in
      record {
        differ = λ i j h k e. differs r c l i j h (omega arith)
            (sym (is i (omega arith)) ∙ ap code_of e ∙ is j (omega arith));
        has = λ i h. subst (λ (t : TriangleCode). HasCorner t (named r)) (sym (is i (omega arith))) (
          (ring_at (q r c l) i).number,
          (at r c l i).a_number,
          place_corner (at r c l i) (code_degree c) (ring_at (q r c l) i).number ∙ (at r c l i).corner,
        );
        all = λ t ct ht. let x = walk_all (place_in_lem c l) t ct ht in
            (x.0, rw len x.1, ap (λ (u : TriangleCode). u.0) (is x.0 x.1 ∙ x.2));
        closes = subst (λ (k : ℕ). Turn (named r) (code_of (get_or (ring_words (size r c l) (q r c l)) (k - 1) 0))
            (code_of (get_or (ring_words (size r c l) (q r c l)) 0 0))) (sym len)
            (subst (λ (t : TriangleCode). Turn (named r) t (code_of (get_or (ring_words (size r c l) (q r c l)) 0 0)))
            (sym (is (size r c l - 1) (omega arith)))
            (subst (λ (t : TriangleCode). Turn (named r) (code r c l (size r c l - 1)) t) (sym (is 0 pos))
            (closes r c l)));
      }

  pub ring_whole : {ts : List ℕ} → IsRing r ts → IsWhole r ts
  ring_whole x = subst (IsWhole r) (ring_one (ring_is r c l) x) walk_whole
