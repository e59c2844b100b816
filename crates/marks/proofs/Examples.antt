-- The examples, bounds and mistakes of specs/Examples.antt, computed. Assumes nothing.
use mathlib.Core.Path.{◌≡◌, refl, ap}
use mathlib.Core.Bool.{false}
use mathlib.Core.List.{List}
use Prim.Native.Nat.{ℕ, suc, ◌+◌, ◌*◌}
use native.Mathlib.Omega.{arith}
use lib.Dec.{eqb}
use lib.ListN.{replicate}
use lib.IntN.{ℤ, pos}
use lib.Ieee.{binary64, fits, of_bits, to_bits}
use Rattle.frame.specs.Refusals.{first_of}
use Rattle.frame.specs.Lists.{some, first_place}
use Rattle.frame.specs.Promises.{◌gives◌}
use Rattle.frame.proofs.Answering.{answering, gives_one, no_other, refusing}
use Rattle.golden.specs.Numbers.{◌+φ◌, negφ, ◌*φ◌}
use Rattle.words.specs.Words.{first_digits, path, word_in}
use Rattle.words.specs.Counting.{place_of}
use Rattle.words.specs.Family.{code_of}
use Rattle.words.specs.Writing.{decimals, written, zero_digits}
use Rattle.words.specs.declared.TriangleCode.{TriangleCode}
use Rattle.net.specs.Sides.{corner_vertex}
use Rattle.net.specs.Division.{unit_at, triangle_at, corner_of}
use Rattle.net.specs.Corners.{corner}
use Rattle.corners.specs.Refusals.{refuse_numbered}
use Rattle.corners.specs.Turns.{lower, higher}
use Rattle.filing.specs.Coordinates.{exact}
use Rattle.filing.specs.declared.Point.{Point}
use Rattle.grid.specs.Writing.{minus}
use Rattle.grid.proofs.Showing.{point_by, ticks_test}
use Rattle.tables.specs.Tables.{fresh, none, said, number_at}
use Rattle.tables.specs.Refusals.{refuse_call, refuse_get}
use Rattle.tables.specs.Examples.{bad, three_seven}
use Rattle.std.specs.Prelude.{None, Some}
use Rattle.marks.specs.declared.Mark.{Mark}
use Rattle.marks.specs.declared.Mark.TheVariants.{Nothing, Dot, Segment}
use Rattle.marks.specs.Answers.{MarkAnswer}
use Rattle.marks.specs.Marks.{number_of, DrawnAt}
use Rattle.marks.specs.Answers.{mark_answer, no_edge_mark, no_mark, TableMarkAnswer, EdgeMarkAnswer}
use Rattle.marks.specs.Examples.{at, v00, v40, v41, v50, first, second, Examples, Bounds, Mistakes}
use Rattle.marks.proofs.Marking.{a_dot, a_segment, edge_mark_one, mark_of_said, nothing_shown, table_one, with_mark}

-- ---- how an example is shown

module _ (n : ℕ) (t : TriangleCode) (list : List ℤ) where
  none_by : refuse_get n t list ≡ 0 → said (number_at t list) ≡ None
      → TableMarkAnswer n t list gives mark_answer 0 0 Nothing
  none_by z e =
      let is : TableMarkAnswer n t list (mark_answer 0 0 Nothing) =
      answering z (with_mark (mark_of_said t Nothing e nothing_shown)) in
      gives_one (table_one n t list) is

  dot_by : (r : ℤ) (p : Point) → refuse_get n t list ≡ 0 → said (number_at t list) ≡ Some r → DrawnAt t 1 p
      → TableMarkAnswer n t list gives mark_answer 0 0 (Dot p)
  dot_by r p z e d =
      let is : TableMarkAnswer n t list (mark_answer 0 0 (Dot p)) =
      answering z (with_mark (mark_of_said t (Dot p) e (a_dot t d))) in
      gives_one (table_one n t list) is

  table_refuses : (k : ℕ) → suc k ≡ refuse_get n t list → TableMarkAnswer n t list gives no_mark list (suc k)
  table_refuses k e =
      let is : TableMarkAnswer n t list (no_mark list (suc k)) = refusing e (λ z. omega arith) in
      gives_one (table_one n t list) is

module _ (t : TriangleCode) (k : ℕ) where
  edge_by : (p q : Point) → refuse_numbered t k ≡ 0 → DrawnAt t (lower k) p → DrawnAt t (higher k) q
      → EdgeMarkAnswer t k gives mark_answer 0 0 (Segment p q)
  edge_by p q z d e =
      let is : EdgeMarkAnswer t k (mark_answer 0 0 (Segment p q)) = answering z (with_mark (a_segment t k d e)) in
      gives_one (edge_mark_one t k) is

  edge_refuses : (f : ℕ) → suc f ≡ refuse_numbered t k → EdgeMarkAnswer t k gives no_edge_mark (suc f)
  edge_refuses f e =
      let is : EdgeMarkAnswer t k (no_edge_mark (suc f)) = refusing e (λ z. omega arith) in
      gives_one (edge_mark_one t k) is

-- ---- where corners are drawn

drawn_00 : DrawnAt (written 100) 1 v00
unfolding decimals written path word_in first_digits corner corner_of triangle_at unit_at corner_vertex exact ◌+φ◌ negφ ◌*φ◌
    of_bits fits
drawn_00 = point_by _ _ (record { x = pos 0; y = pos 65536; z = pos 106039 }) _ (ticks_test _ _ (tt, tt) (tt, tt) (tt, tt))
    ((refl, refl), tt) ((refl, refl), tt) ((refl, refl), tt)

drawn_41 : DrawnAt (written 401) 1 v41
unfolding decimals written path word_in first_digits corner corner_of triangle_at unit_at corner_vertex exact ◌+φ◌ negφ ◌*φ◌
    of_bits fits
drawn_41 = point_by _ _ (record { x = minus 106039; y = pos 0; z = minus 65536 }) _ (ticks_test _ _ (tt, tt) (tt, tt) (tt, tt))
    ((refl, refl), tt) ((refl, refl), tt) ((refl, refl), tt)

drawn_50 : DrawnAt (written 401) 2 v50
unfolding decimals written path word_in first_digits corner corner_of triangle_at unit_at corner_vertex exact ◌+φ◌ negφ ◌*φ◌
    of_bits fits
drawn_50 = point_by _ _ (record { x = minus 106039; y = pos 0; z = pos 65536 }) _ (ticks_test _ _ (tt, tt) (tt, tt) (tt, tt))
    ((refl, refl), tt) ((refl, refl), tt) ((refl, refl), tt)

drawn_40 : DrawnAt (written 401) 3 v40
unfolding decimals written path word_in first_digits corner corner_of triangle_at unit_at corner_vertex exact ◌+φ◌ negφ ◌*φ◌
    of_bits fits
drawn_40 = point_by _ _ (record { x = minus 65536; y = pos 106039; z = pos 0 }) _ (ticks_test _ _ (tt, tt) (tt, tt) (tt, tt))
    ((refl, refl), tt) ((refl, refl), tt) ((refl, refl), tt)

drawn_deeper : DrawnAt (written 1001) 1 (at 0 0x3ff0000000000000 0x3ff9e37800000000)
unfolding decimals written path word_in first_digits corner corner_of triangle_at unit_at corner_vertex exact ◌+φ◌ negφ ◌*φ◌
    of_bits fits
drawn_deeper = point_by _ _ (record { x = pos 0; y = pos 131072; z = pos 212079 }) _ (ticks_test _ _ (tt, tt) (tt, tt) (tt, tt))
    ((refl, refl), tt) ((refl, refl), tt) ((refl, refl), tt)

drawn_middle : DrawnAt (written 1001) 3 (at 0x3fe9e37000000000 0x3fe0000000000000 0x3ff4f1b800000000)
unfolding decimals written path word_in first_digits corner corner_of triangle_at unit_at corner_vertex exact ◌+φ◌ negφ ◌*φ◌
    of_bits fits
drawn_middle = point_by _ _ (record { x = pos 106039; y = pos 65536; z = pos 171575 }) _ (ticks_test _ _ (tt, tt) (tt, tt) (tt, tt))
    ((refl, refl), tt) ((refl, refl), tt) ((refl, refl), tt)

-- ---- the three records

pub examples : Examples
unfolding place_of some first_place first_of refuse_call refuse_numbered decimals written path word_in first_digits
examples = record {
  no_reading = none_by 0 (written 100) (fresh 0) refl refl;
  beside = none_by 0 (written 101) (first 1250) refl refl;
  dot = dot_by 0 (written 100) (first 1250) (pos 1250) v00 refl refl drawn_00;
  dot_0 = dot_by 0 (written 100) (first 0) (pos 0) v00 refl refl drawn_00;
  deeper = dot_by 1 (written 1001) (second 100000) (pos 100000) _ refl refl drawn_deeper;
  edge_1 = edge_by (written 401) 1 v50 v40 refl drawn_50 drawn_40;
  edge_2 = edge_by (written 401) 2 v41 v40 refl drawn_41 drawn_40;
  edge_3 = edge_by (written 401) 3 v41 v50 refl drawn_41 drawn_50;
  edge_deeper = edge_by (written 1001) 2 _ _ refl drawn_deeper drawn_middle;
}

pub bounds : Bounds
unfolding place_of some first_place first_of refuse_call refuse_numbered decimals written path word_in first_digits
bounds = record {
  edge_0 = edge_refuses (written 401) 0 4 refl;
  edge_4 = edge_refuses (written 401) 4 4 refl;
  edge_word_0 = edge_refuses (code_of 0) 4 1 refl;
  edge_degree_25 = edge_refuses (code_of (zero_digits 25)) 0 0 refl;
  edge_of_name = edge_refuses (code_of 0x2000000000000003) 1 3 refl;
  table_25 = table_refuses 25 (written 100) (fresh 0) 0 refl;
  table_7 = table_refuses 7 (written 100) (fresh 0) 19 refl;
  table_word_0 = table_refuses 0 (code_of 0) (fresh 0) 1 refl;
  table_deeper = table_refuses 0 (written 1001) (first 0) 19 refl;
  table_short = table_refuses 0 (written 100) (replicate 19 none) 21 refl;
  table_bad = table_refuses 0 (written 100) (three_seven bad (pos 2)) 22 refl;
  table_bad_later = table_refuses 0 (written 100) (three_seven (pos 2) bad) 22 refl;
}

-- A number that differs where two marks with as many points do: the bits of each coordinate have a weight of their own.
abbrev weighed : Point → ℕ
weighed p = to_bits binary64 p.x + 3 * to_bits binary64 p.y + 5 * to_bits binary64 p.z

abbrev all_bits : Mark → ℕ
all_bits Nothing = 0
all_bits (Dot p) = weighed p
all_bits (Segment p q) = weighed p + 7 * weighed q

-- what another answer differs in: in how many points it has, in their bits, in its place or its refusal
other_number : {P : MarkAnswer → Type 0} {r s : MarkAnswer} → P gives r
    → eqb (number_of s.mark) (number_of r.mark) ≡ false → P s → ⊥
other_number = no_other (λ r. number_of r.mark)

other_points : {P : MarkAnswer → Type 0} {r s : MarkAnswer} → P gives r
    → eqb (all_bits s.mark) (all_bits r.mark) ≡ false → P s → ⊥
other_points = no_other (λ r. all_bits r.mark)

other_place : {P : MarkAnswer → Type 0} {r s : MarkAnswer} → P gives r → eqb s.place r.place ≡ false → P s → ⊥
other_place = no_other (λ r. r.place)

other_refusal : {P : MarkAnswer → Type 0} {r s : MarkAnswer} → P gives r → eqb s.refusal r.refusal ≡ false
    → P s → ⊥
other_refusal = no_other (λ r. r.refusal)

pub mistakes : Mistakes
unfolding of_bits to_bits
mistakes = record {
  corner_2 = other_points examples.dot refl;
  floor = other_points examples.edge_3 refl;
  dot_for_none = other_number examples.no_reading refl;
  none_for_0 = other_number examples.dot_0 refl;
  another's = other_number examples.beside refl;
  falling = other_points examples.edge_2 refl;
  one_corner = other_points examples.edge_2 refl;
  other_edge = other_points examples.edge_2 refl;
  dot_for_edge = other_number examples.edge_2 refl;
  scale = other_points examples.deeper refl;
  minus_zero = other_points examples.edge_3 refl;
  place_dropped = other_place bounds.table_bad refl;
  place_of_22 = other_place bounds.table_short refl;
  marked_refusal = other_number bounds.edge_4 refl;
  refuses = λ k a. let e = ap (λ (r : MarkAnswer). r.refusal) (examples.edge_2.only _ a) in omega (arith, e);
  answers = other_refusal bounds.table_deeper refl;
}
