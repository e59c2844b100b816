-- Document 01's examples (specs/Examples.antt), each computed, and by the laws that there is no other answer. Assumes
-- nothing.
use mathlib.Core.Path.{◌≡◌, refl}
use lib.Dec.{lit≤}
use lib.IntN.{pos}
use lib.Ieee.{fits, of_bits}
use lib.ListN.{replicate}
use Rattle.frame.specs.Refusals.{first_of}
use Rattle.golden.specs.Numbers.{◌+φ◌, negφ, ◌*φ◌}
use Rattle.words.specs.Words.{first_digits, path, word_in}
use Rattle.words.specs.Counting.{code_at, place_of}
use Rattle.words.specs.Refusals.{check_name_fields}
use Rattle.words.specs.Family.{refuse_parent, refuse_child, parent_of, child_of}
use Rattle.net.specs.Sides.{corner_vertex, vertex}
use Rattle.net.specs.Division.{unit_at, triangle_at, corner_of, sum}
use Rattle.net.specs.Corners.{corner, named, name_of}
use Rattle.net.specs.Refusals.{check_name, lesser_has}
use Rattle.net.specs.Means.Seams.{seam_side, seam_kept}
use Rattle.net.specs.Means.States.{cross}
use Rattle.net.specs.Means.Walks.{step_of, around, word_at, name_at, least_name, ring_words}
use Rattle.filing.specs.Coordinates.{exact}
use Rattle.filing.specs.Drawing.{AreTicks, IsPoint}
use Rattle.filing.specs.Holding.{determinant, replaced, determinants}
use Rattle.filing.specs.Means.Descent.{non_neg, holds, first, least_child, descent, holders}
use Rattle.filing.specs.Means.Sides.{side_dets, least_from}
use Rattle.filing.specs.Means.Lists.{joined, side_words, all_words}
use Rattle.corners.specs.Refusals.{refuse_numbered, refuse_weights, refuse_back, refuse_ring}
use Rattle.directions.specs.Refusals.{refuse_file, refuse_list}
use Rattle.words.specs.Writing.{decimals, written}
use Rattle.grid.specs.Writing.{corner_in, minus, up, ticks, point}
use Rattle.grid.specs.Examples.{Examples, Crossings, Family, Weighed, Rings, Places, Points}
use Rattle.grid.proofs.Showing.{gives_code, refuses_code, files, lists, lists_refused, crosses, crosses_refused}
use Rattle.grid.proofs.Showing.{names, backs}
use Rattle.grid.proofs.Showing.{weighs, weighs_name}
use Rattle.grid.proofs.Showing.{weighs_refused, rings_by, rings_refused, passes_by, placed, ticked, pointed}
use Rattle.grid.proofs.Showing.{placed_name, ticked_name, pointed_name, not_placed, not_pointed}
use Rattle.grid.proofs.Showing.{point_by, ticks_test}

-- ---- the name of V(41), its t, and what is drawn

passes : check_name (name_of 0x7000000000000002) ≡ 0
unfolding check_name_fields first_of path word_in first_digits step_of cross seam_side seam_kept around word_at name_at least_name
passes = passes_by (name_of 0x7000000000000002) refl refl

ticks_41 : AreTicks (exact (unit_at (vertex 4 1))) (ticks (minus 106039) (pos 0) (minus 65536)).at
unfolding exact unit_at ◌+φ◌ negφ ◌*φ◌
ticks_41 = ticks_test _ _ (tt, tt) (tt, tt) (tt, tt)

point_41 : IsPoint 0 (exact (unit_at (vertex 4 1))) (point 0 0xbff9e37000000000 0 0xbff0000000000000).at
unfolding of_bits fits
point_41 = point_by _ _ _ _ ticks_41 ((refl, refl), tt) ((refl, refl), tt) ((refl, refl), tt)

-- V(20), which lies opposite, and both at degree 1
ticks_20 : AreTicks (exact (unit_at (vertex 2 0))) (ticks (pos 106039) (pos 0) (pos 65536)).at
unfolding exact unit_at ◌+φ◌ negφ ◌*φ◌
ticks_20 = ticks_test _ _ (tt, tt) (tt, tt) (tt, tt)

point_20 : IsPoint 0 (exact (unit_at (vertex 2 0))) (point 0 0x3ff9e37000000000 0 0x3ff0000000000000).at
unfolding of_bits fits
point_20 = point_by _ _ _ _ ticks_20 ((refl, refl), tt) ((refl, refl), tt) ((refl, refl), tt)

passes_20 : check_name (name_of 0x2000000000000003) ≡ 0
unfolding check_name_fields first_of path word_in first_digits step_of cross seam_side seam_kept around word_at name_at least_name
passes_20 = passes_by (name_of 0x2000000000000003) refl refl

deeper_20 : AreTicks (exact (corner (written 2002) 2)) (ticks (pos 212079) (pos 0) (pos 131072)).at
unfolding decimals written path word_in first_digits corner corner_of triangle_at unit_at corner_vertex exact ◌+φ◌ negφ ◌*φ◌
deeper_20 = ticks_test _ _ (tt, tt) (tt, tt) (tt, tt)

deeper_41 : AreTicks (exact (corner (written 4011) 1)) (ticks (minus 212079) (pos 0) (minus 131072)).at
unfolding decimals written path word_in first_digits corner corner_of triangle_at unit_at corner_vertex exact ◌+φ◌ negφ ◌*φ◌
deeper_41 = ticks_test _ _ (tt, tt) (tt, tt) (tt, tt)

-- ---- E1 to E12

pub examples : Examples
unfolding first_of refuse_file refuse_numbered refuse_back decimals written path word_in first_digits corner corner_of
    triangle_at
    unit_at corner_vertex sum step_of cross seam_side seam_kept around word_at name_at least_name least_from first holds non_neg
    side_dets determinants replaced determinant exact ◌+φ◌ negφ ◌*φ◌ descent least_child all_words side_words joined
    holders
examples = record {
  e1 = refl;
  e2 = refl;
  e3 = files 2 _ _ refl refl;
  e3_word = refl;
  e4 = files 3 _ _ refl refl;
  e5 = files 3 _ _ refl refl;
  e6 = files 2 _ _ refl refl;
  e7 = files 2 _ _ refl refl;
  e8 = crosses (written 1001) 2 _ _ refl refl refl;
  e9 = crosses (written 1002) 1 _ _ refl refl refl;
  e10 = crosses (written 1011) 2 _ _ refl refl refl;
  e11 = backs 0 (unit_at (vertex 2 0)) _ (written 200) 2 refl refl refl refl refl;
  e11_corner = names (written 200) 2 _ refl refl;
  e12_name = backs 0 (unit_at (vertex 4 1)) _ (written 401) 1 refl refl refl refl refl;
  e12 = ticked_name (name_of 0x7000000000000002) passes _ refl ticks_41;
  e12_corner = ticked (written 401) 1 refl _ refl ticks_41;
  whole = lists 0 up _ refl refl;
}

-- ---- how the corners turn, parent and child, weights, rings

pub crossings : Crossings
unfolding first_of refuse_numbered decimals written path word_in first_digits step_of cross seam_side seam_kept
crossings = record {
  inside = crosses (written 1000) 1 _ _ refl refl refl;
  seam = crosses (written 100) 3 _ _ refl refl refl;
  seam_back = crosses (written 500) 2 _ _ refl refl refl;
  no_edge = crosses_refused (written 1001) 4 4 refl;
}

pub family : Family
unfolding first_of refuse_parent refuse_child parent_of child_of decimals written path word_in first_digits
family = record {
  child = gives_code _ _ _ refl refl;
  parent = gives_code _ _ _ refl refl;
  no_parent = refuses_code _ _ 5 refl;
  no_child = refuses_code _ _ 4 refl;
}

passes_weighed : check_name (corner_in 10000 1) ≡ 0
unfolding check_name_fields first_of decimals written path word_in first_digits step_of cross seam_side seam_kept around word_at
    name_at least_name
passes_weighed = passes_by (corner_in 10000 1) refl refl

pub weighed : Weighed
unfolding first_of refuse_numbered decimals written path word_in first_digits corner corner_of triangle_at unit_at corner_vertex
weighed = record {
  w1 = weighs (written 10012) 1 _ refl refl;
  w2 = weighs (written 10012) 2 _ refl refl;
  w3 = weighs (written 10012) 3 _ refl refl;
  named = weighs_name (corner_in 10000 1) _ passes_weighed refl;
}

passes_five : check_name (corner_in 100 1) ≡ 0
unfolding check_name_fields first_of decimals written path word_in first_digits step_of cross seam_side seam_kept around word_at
    name_at least_name
passes_five = passes_by (corner_in 100 1) refl refl

passes_six : check_name (corner_in 1000 3) ≡ 0
unfolding check_name_fields first_of decimals written path word_in first_digits step_of cross seam_side seam_kept around word_at
    name_at least_name
passes_six = passes_by (corner_in 1000 3) refl refl

pub rings : Rings
unfolding decimals written path word_in first_digits corner corner_of triangle_at unit_at corner_vertex step_of cross seam_side
    seam_kept around word_at ring_words
rings =
    record { five = rings_by (corner_in 100 1) _ passes_five refl; six = rings_by (corner_in 1000 3) _ passes_six refl }

-- ---- lent lists

pub places : Places
unfolding first_of refuse_weights refuse_numbered refuse_ring refuse_list check_name lesser_has place_of code_at decimals
    written path word_in first_digits corner corner_of triangle_at unit_at corner_vertex
places = record {
  ring = rings.five (replicate 7 7) (lit≤ tt);
  holders = examples.whole (replicate 7 7) (lit≤ tt);
  weights = weighs (written 100) 3 _ refl refl (replicate 13 7) (lit≤ tt);
  short_ring = rings_refused (corner_in 100 1) (replicate 5 7) 8 refl;
  short_holders = lists_refused 0 up (replicate 5 7) 8 refl;
  short_weights = weighs_refused (written 100) 3 (replicate 11 7) 8 refl;
}

-- ---- coordinates

ticks_six : AreTicks (exact (named (corner_in 1000 3))) (ticks (pos 0) (pos 0) (pos 212079)).at
unfolding decimals written path word_in first_digits corner corner_of triangle_at unit_at corner_vertex exact ◌+φ◌ negφ ◌*φ◌
ticks_six = ticks_test _ _ (tt, tt) (tt, tt) (tt, tt)

point_six : IsPoint 1 (exact (named (corner_in 1000 3))) (point 0 0 0 0x3ff9e37800000000).at
unfolding of_bits fits
point_six = point_by _ _ _ _ ticks_six ((refl, refl), tt) ((refl, refl), tt) ((refl, refl), tt)

pub points : Points
unfolding first_of refuse_numbered check_name decimals written path word_in first_digits corner corner_of triangle_at unit_at
    corner_vertex exact ◌+φ◌ ◌*φ◌
points = record {
  v41 = placed (written 401) 1 refl _ refl;
  v41_name = placed_name (name_of 0x7000000000000002) passes _ refl;
  middle = placed (written 1001) 3 refl _ refl;
  no_corner = not_placed (written 1001) 4 4 refl;
  v20_ticks = ticked (written 200) 2 refl _ refl ticks_20;
  v20_ticks_name = ticked_name (name_of 0x2000000000000003) passes_20 _ refl ticks_20;
  v20_deeper = ticked (written 2002) 2 refl _ refl deeper_20;
  v41_deeper = ticked (written 4011) 1 refl _ refl deeper_41;
  drawn = pointed (written 401) 1 refl _ refl point_41;
  drawn_name = pointed_name (name_of 0x7000000000000002) passes _ refl point_41;
  v20_drawn = pointed (written 200) 2 refl _ refl point_20;
  drawn_middle = pointed_name (corner_in 1000 3) passes_six _ refl point_six;
  not_drawn = not_pointed (name_of 0) 1 refl;
}
