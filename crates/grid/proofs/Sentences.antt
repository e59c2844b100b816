-- The sentences of document 01 hold as specs/Sentences.antt says them. Assumes nothing.
use mathlib.Core.Path.{◌≡◌, ◌∙◌, refl, sym, ap, subst}
use mathlib.Core.Logic.{◌↔◌, inl, inr, ⊎_elim}
use mathlib.Core.Bool.{Bool, true, false, not, cond}
use mathlib.Core.List.{List, [], ◌∷◌}
use Prim.Native.Nat.{ℕ, zero, suc, ◌-◌, ◌^◌, ◌≤◌, ◌<◌}
use native.Mathlib.Nat.{le_of_lt}
use native.Mathlib.Omega.{arith}
use lib.Dec.{eqb}
use lib.IntN.{nat_abs}
use lib.Ieee.{binary64}
use lib.Ieee.Fits.{of_int-fits}
use lib.ListN.{length, get_or, take}
use lib.Seq.{length-take-le}
use borrow.Author.Tests.{eqb-true, eqb-false, not-true}
use Rattle.frame.specs.Refusals.{Row, order}
use Rattle.frame.specs.Answers.{Answer}
use Rattle.frame.proofs.Refusing.{◌or◌, absent, in_turn_lem, in_turn, numbers}
use Rattle.frame.proofs.Answering.{answers_or_not, passed}
use Rattle.golden.specs.declared.Golden.{Golden}
use Rattle.golden.specs.Order.{Positive}
use Rattle.golden.proofs.Examples as golden
use Rattle.golden.proofs.GoldenRing.{φ_ring, reφ}
use Rattle.golden.proofs.IntegerOrder.{le_or_lt}
use Rattle.golden.proofs.Nearest.{t_small}
use Rattle.golden.proofs.RingSolver.{reify, done}
use Rattle.words.specs.Words.{large, degree_of, side_of}
use Rattle.words.specs.Refusals.{IsCode, check_name_fields, name_rows}
use Rattle.words.specs.declared.CornerName.{CornerName}
use Rattle.words.specs.declared.TriangleCode.{TriangleCode}
use Rattle.words.proofs.CodeCount.{at_place, code_at_lem, codes_rise_lem, place_at, place_below}
use Rattle.words.proofs.Codes.{code_below, code_side, code_word, made}
use Rattle.words.proofs.Digits.{more, none}
use Rattle.words.proofs.Digits as digits
use Rattle.words.proofs.WordLayout.{beyond_means}
use Rattle.words.proofs.WordOrder.{order_by_path}
use Rattle.net.specs.Sides.{OneToThree, corner_vertex, next, prev}
use Rattle.net.specs.Division.{Weights, sum, unit_at}
use Rattle.net.specs.Corners.{corner, named}
use Rattle.net.specs.Names.{IsName}
use Rattle.net.specs.Refusals.{check_name, on_one_side}
use Rattle.net.specs.Steps.{IsRing, IsWhole, SameTwo, Turn}
use Rattle.net.proofs.Crossing.{codes_differ_lem}
use Rattle.net.proofs.Canonical.{and_true, name_means}
use Rattle.net.proofs.Demand3.{add_up_lem, one_ring_lem}
use Rattle.net.proofs.RingCodes.{ring_whole}
use Rattle.net.proofs.SharedVertices.{vertex_small}
use Rattle.net.proofs.Stepping.{next_three, prev_three}
use Rattle.net.proofs.Table.{three}
use Rattle.net.proofs.WayBack.{weights_mean}
use Rattle.filing.specs.Coordinates.{exact}
use Rattle.filing.specs.Holding.{determinant}
use Rattle.filing.specs.Means.Places.{Small}
use Rattle.filing.specs.declared.Coordinates.{Coordinates}
use Rattle.filing.specs.declared.Direction.{Direction}
use Rattle.filing.proofs.Anticlockwise.{anticlockwise}
use Rattle.filing.proofs.ExactFractions.{divided, of_int_lem}
use Rattle.filing.proofs.MiddleSums.{exact_kept, exact_middle}
use Rattle.filing.proofs.Multipliers.{holds_means}
use Rattle.filing.proofs.ThroughVertices.{no_vertex_lem}
use Rattle.filing.proofs.Weighted.{corner_twelve}
use Rattle.corners.specs.Refusals.{refuse_back}
use Rattle.corners.specs.Answers.{CountAnswer}
use Rattle.corners.proofs.Calls.{back_nine, back_one_refused, back_side, back_sum, name_first, name_passing, name_ten}
use Rattle.corners.proofs.Refused.{back_passes}
use Rattle.points.specs.Answers.{Ticked, no_ticks}
use Rattle.points.specs.Bits.{bits_of}
use Rattle.points.specs.Answers.{TicksAnswer}
use Rattle.points.proofs.DrawnBits.{drawn_bits_lem, name_drawn_bits_lem}
use Rattle.points.proofs.PlaceCalls.{name_small, numbered_small}
use Rattle.directions.specs.Answers.{ListAnswer}
use Rattle.directions.specs.Refusals.{refuse_file}
use Rattle.directions.proofs.OneFiling.{how_many_lem, how_many_sides_lem}
use Rattle.directions.proofs.Refused.{list_then}
use Rattle.filing.specs.Filing.{AreHolders}
use Rattle.grid.specs.Counts.{IsCorner}
use Rattle.grid.specs.Sentences.{AllBelow, ManyDigits, Onward, SameVertices, Sentences, Spans, TurnsInSpace}
use Rattle.grid.proofs.Counted.{counted, side_corner, units_differ}
use Rattle.grid.proofs.Differing.{corners_differ, edge_there, edges_differ_lem}
use Rattle.grid.proofs.Middles.{ends_apart}
use Rattle.grid.proofs.Nearest.{name_corner}

-- ---- sides and digits

-- corners of sides are the same point where they are the same vertex
module _ {t u : TriangleCode} (c : IsCode 0 t) (d : IsCode 0 u) where
  same_vertex : (i j : ℕ) → OneToThree i → OneToThree j
      → (corner t i ≡ corner u j) ↔ (corner_vertex (side_of t.0) i ≡ corner_vertex (side_of u.0) j)
  same_vertex i j l h =
      let v = corner_vertex (side_of t.0) i in
      let a = side_corner c i l in
      let b = side_corner d j h in (
        λ e. units_differ v (vertex_small _ (code_side c) i l) _ (vertex_small _ (code_side d) j h)
            (ap (λ (p : Weights). get_or p v 0) (sym a ∙ e ∙ b)),
        λ e. a ∙ ap unit_at e ∙ sym b,
      )

  same_vertices : (k m : ℕ) → OneToThree k → OneToThree m
      → SameTwo (corner t (next k)) (corner t (prev k)) (corner u (next m)) (corner u (prev m))
      ↔ SameVertices (side_of t.0) k (side_of u.0) m
  same_vertices k m l h =
      let nn = same_vertex (next k) (next m) (next_three k l) (next_three m h) in
      let pp = same_vertex (prev k) (prev m) (prev_three k l) (prev_three m h) in
      let np = same_vertex (next k) (prev m) (next_three k l) (prev_three m h) in
      let pn = same_vertex (prev k) (next m) (prev_three k l) (next_three m h) in (
        ⊎_elim (λ e. inl (nn.0 e.0, pp.0 e.1)) (λ e. inr (np.0 e.0, pn.0 e.1)),
        ⊎_elim (λ e. inl (nn.1 e.0, pp.1 e.1)) (λ e. inr (np.1 e.0, pn.1 e.1)),
      )

-- digits, one by one
digits_are : (n : ℕ) (ds : List ℕ) → ManyDigits n ds → digits.AreDigits n ds
digits_are zero [] a = none
digits_are zero (d ∷ ds) a = absurd (omega (arith, a.many))
digits_are (suc n) [] a = absurd (omega (arith, a.many))
digits_are (suc n) (d ∷ ds) a =
    more (a.each 0 (omega arith))
    (digits_are n ds (record { many = omega (arith, a.many); each = λ m h. a.each (suc m) (omega arith) }))

-- ---- rows 10 and 11

-- a refusal is the number of a row
of_row : (k : ℕ) (rs : List Row) → absent (suc k) (numbers rs) ≡ true → in_turn rs ≡ suc k → ⊥
of_row k [] a e = omega arith
of_row k (r ∷ rs) a e =
    let p = (and_true (not (eqb (suc k) r.number)) (absent (suc k) (numbers rs))).0 a in
    go r.so r.number p.0 (of_row k rs p.1) e
  where
    go : (b : Bool) (m : ℕ) → not (eqb (suc k) m) ≡ true → (in_turn rs ≡ suc k → ⊥)
        → cond b m 0 or in_turn rs ≡ suc k → ⊥
    go false m d ih e = ih e
    go true zero d ih e = ih e
    go true (suc m) d ih e = eqb-false (suc k) (suc m) (not-true _ d) (sym e)

fields_not_ten : (q : CornerName) → check_name_fields q ≡ 10 → ⊥
unfolding check_name_fields
fields_not_ten q e = of_row 9 (name_rows q) refl (sym (in_turn_lem order (name_rows q) tt) ∙ e)

row_10 : (q : CornerName)
    → (check_name q ≡ 10) ↔ ((check_name_fields q ≡ 0) × (IsName (degree_of q.0) (named q) q → ⊥))
row_10 q = (
  λ e. ⊎_elim (λ z. (z, λ x. let o = (name_means q).1 (z, x) in omega arith))
      (λ f. absurd (fields_not_ten q (name_first q refl f ∙ e))) (answers_or_not (check_name_fields q)),
  λ (z, f). sym (name_ten q z (λ e. f ((name_means q).0 (sym (name_passing q z e))).1)),
)

module _ (n : ℕ) (ws : List ℕ) where
  -- row 1 before it, and row 9
  low : refuse_back n ws ≡ 11 → n ≤ 24
  low e = ⊎_elim (λ h. h) (λ h. absurd (omega (arith, e, back_one_refused n ws h))) (le_or_lt n 24)

  long : refuse_back n ws ≡ 11 → 12 ≤ length ws
  long e = ⊎_elim (λ h. h) (λ h. absurd (omega (arith, e, back_nine n ws (low e) h))) (le_or_lt 12 (length ws))

  row_11 : (refuse_back n ws ≡ 11) ↔ ((n ≤ 24) × (12 ≤ length ws) × (IsCorner n (take 12 ws) → ⊥))
  row_11 = (
    λ e. (
      low e,
      long e,
      λ x.
          let m = (weights_mean n (take 12 ws) (low e) (length-take-le 12 ws (long e))).1 x in
          omega (arith, e, (back_passes n ws).1 (low e, long e, m.0, m.1)),
    ),
    λ (h, l, f). go h l f (eqb (sum (take 12 ws)) (2 ^ n)) (on_one_side (take 12 ws)) refl refl,
  )
    where
      go : n ≤ 24 → 12 ≤ length ws → (IsCorner n (take 12 ws) → ⊥) → (a b : Bool)
          → eqb (sum (take 12 ws)) (2 ^ n) ≡ a → on_one_side (take 12 ws) ≡ b → refuse_back n ws ≡ 11
      go h l f false b p q = sym (back_sum n ws h l p)
      go h l f true false p q = sym (back_side n ws h l q)
      go h l f true true p q =
          absurd (f ((weights_mean n (take 12 ws) h (length-take-le 12 ws l)).0 (eqb-true _ _ p, q)))

-- ---- the ring in space

-- a determinant stays the same when its places are turned
turned : (a b c : Coordinates) → determinant b c a ≡ determinant a b c
unfolding determinant
turned a b c =
    reify φ_ring (a.x ∷ a.y ∷ a.z ∷ b.x ∷ b.y ∷ b.z ∷ c.x ∷ c.y ∷ c.z ∷ [])
    (λ σ k. simp (k 0, k 1, k 2, k 3, k 4, k 5, k 6, k 7, k 8, reφ) (done φ_ring σ _ _ refl))

module _ {n : ℕ} {t : TriangleCode} (c : IsCode n t) where
  -- so a triangle is anticlockwise from each of its corners
  abbrev from : ℕ → Golden
  from i = determinant (exact (corner t i)) (exact (corner t (next i))) (exact (corner t (prev i)))

  from_each : (i : ℕ) → OneToThree i → Positive (from i)
  from_each =
      let h = anticlockwise c in
      three (λ i. Positive (from i)) h
      (subst Positive (sym (turned (exact (corner t 1)) (exact (corner t 2)) (exact (corner t 3)))) h)
      (subst Positive (turned (exact (corner t 3)) (exact (corner t 1)) (exact (corner t 2))) h)

  spans : {p : Weights} (i : ℕ) → OneToThree i → corner t i ≡ p
      → Spans p t (corner t (next i)) (corner t (prev i))
  spans i l e = record {
    i = i;
    number = l;
    has = e;
    begins = refl;
    ends = refl;
    anticlockwise = subst
        (λ (p : Weights). Positive (determinant (exact p) (exact (corner t (next i))) (exact (corner t (prev i)))))
        e (from_each i l);
  }

onward : {n : ℕ} {p : Weights} {t t' : TriangleCode} → IsCode n t → IsCode n t' → Turn p t t'
    → Onward p t t'
onward {p = p} {t = t} {t' = t'} c c' x = record {
  a = corner t (next x.i);
  b = corner t (prev x.i);
  c = corner t' (prev x.j);
  here = spans c x.i x.i_ok x.has;
  there = subst (λ (b : Weights). Spans p t' b (corner t' (prev x.j))) (sym x.leg)
      (spans c' x.j x.j_ok x.has');
}

whole : (q : CornerName) (ts : List ℕ) → check_name q ≡ 0 → IsRing q ts → IsWhole q ts
whole q ts z x = let y = name_corner q z in ring_whole q y.0 y.1 x

in_space : (q : CornerName) (ts : List ℕ) → check_name q ≡ 0 → IsRing q ts → TurnsInSpace q ts
in_space q ts z x =
    let y = name_corner q z in
    let w = whole q ts z x in
    let some : 0 < length ts = omega (arith, (w.all _ y.0 (_, y.1, refl)).1) in
    record {
      onward = λ m h. onward (x.codes m (omega arith)) (x.codes (suc m) h) (x.turns m h);
      around = onward (x.codes (length ts - 1) (omega arith)) (x.codes 0 some) w.closes;
    }

-- ---- how many hold

-- a listing that was answered
module _ (n : ℕ) (d : Direction) (out new : List ℕ) (r : CountAnswer) (a : ListAnswer n d out r new)
    (z : r.refusal ≡ 0) where
  listed : (ts : List ℕ) × (refuse_file n d ≡ 0) × AreHolders n d ts × (r.count ≡ length ts)
  listed =
      let f = passed (λ x. x.0.refusal) refl (λ x g. ap (λ (r : CountAnswer). r.refusal) g.count) a z in
      let g = a.answered f in
      (g.list, ((list_then n d out).passes.0 f).0, g.good, ap (λ (r : CountAnswer). r.count) g.count)

-- ---- t

-- of a corner whose coordinates are small, and zeros in a refusal
below : {f : ℕ} {c : Coordinates} {r : TicksAnswer} → (f ≡ 0 → Small c) → Answer f (Ticked c) no_ticks r
    → AllBelow (2 ^ 53) r.at
below {f} s a = ⊎_elim
    (λ z.
    let w = s z in
    let t = (a.answered z).are in (
      omega (arith, t_small w.x t.x),
      omega (arith, t_small w.y t.y),
      omega (arith, t_small w.z t.z),
    ))
    (λ n. rw (a.refused n) (omega arith, omega arith, omega arith)) (answers_or_not f)

pub sentences : Sentences
unfolding bits_of
sentences = record {
  grid = record { plain_words = λ n t c. code_below c };
  sides = record {
    phi = (
      (golden.phi).0,
      ((golden.phi).1, λ e. let z : ◌≡◌ {A = ℕ} 1 0 = ap (λ (x : Golden). nat_abs x.v) e in omega arith),
    );
    anticlockwise = λ n t c. anticlockwise c;
    ends_differ = λ n t k c l e.
        ends_apart k l (corners_differ n t c (next k) (prev k) (next_three k l) (prev_three k l) e);
    adjacency = λ t u k m c d l h.
        let same = same_vertices c d k m l h in (
          λ a. (a.other, same.0 a.ends),
          λ (f, e). record { code = d; other = f; edge = h; ends = same.1 e },
        );
  };
  weights = record {
    twelve = λ n t i c. (corner_twelve c i).places;
    kept_in_space = exact_kept;
    middle_in_space = exact_middle;
    add_up = add_up_lem;
    counts = counted;
    codes_differ = codes_differ_lem;
    edges_differ = edges_differ_lem;
    edge_counted = edge_there;
    codes_at = λ n i h l. (code_at_lem n i h l, place_at n i h);
    codes_rise = codes_rise_lem;
    places = λ n t c. (place_below c, at_place c);
  };
  words = record {
    word_of_fields = λ n t c. code_word c;
    fields_of_word = λ s n ds hs h a.
        let m = made s n hs.0 hs.1 h (digits_are n ds a) in (m.code, m.side, m.digits_are);
  };
  refusals = record {
    digits_beyond = beyond_means large;
    not_canonical = row_10;
    canonical = name_means;
    no_corner = row_11;
    which_weights = λ n p h l. let m = weights_mean n p h l in (m.1, m.0);
  };
  rings = record {
    one_ring = λ q z.
        let y = name_corner q z in
        let x = one_ring_lem q y.0 y.1 in
        (x.0, record { meets = x.1; only = x.3 });
    whole_ring = whole;
    ring_in_space = in_space;
  };
  filing = record {
    multipliers = holds_means;
    compared = λ n t u. order_by_path;
    no_vertex = λ d v h m k f e.
        let z = no_vertex_lem d v h m k f e in
        (ap (λ (g : Direction). g.x) z, ap (λ (g : Direction). g.y) z, ap (λ (g : Direction). g.z) z);
    how_many = λ n d out new r a z.
        let l = listed n d out new r a z in rw l.3 (how_many_lem n d l.0 l.1 l.2);
    how_many_sides = λ d out new r a z.
        let l = listed 0 d out new r a z in rw l.3 (how_many_sides_lem d l.0 l.1 l.2);
  };
  drawing = record {
    drawn_bits = drawn_bits_lem;
    name_drawn_bits = name_drawn_bits_lem;
    t_below = λ t i r. below (numbered_small t i);
    name_t_below = λ q r. below (name_small q);
    steps_exact = λ t n h l.
        (record { value = of_int_lem t (le_of_lt h); held = of_int-fits binary64 t }, divided t n h l);
    plus_zero = λ n. refl;
  };
}
