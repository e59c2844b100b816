-- Refusals at their bounds and in their order (specs/Examples.antt: Bounds), computed. Assumes nothing.
use mathlib.Core.Path.{refl}
use Rattle.frame.specs.Refusals.{first_of}
use Rattle.words.specs.Words.{first_digits, path, word_in}
use Rattle.words.specs.Counting.{code_at, place_of}
use Rattle.words.specs.Refusals.{check_code}
use Rattle.words.specs.Family.{refuse_parent, refuse_child}
use Rattle.net.specs.Sides.{corner_vertex}
use Rattle.net.specs.Division.{unit_at, triangle_at, corner_of, sum}
use Rattle.net.specs.Corners.{corner}
use Rattle.net.specs.Refusals.{check_name, lesser_has}
use Rattle.corners.specs.Refusals.{refuse_numbered, refuse_weights, refuse_name_weights, refuse_back, refuse_ring}
use Rattle.directions.specs.Refusals.{refuse_file, refuse_list}
use Rattle.words.specs.Writing.{decimals, written}
use Rattle.grid.specs.Examples.{Bounds}

pub bounds : Bounds
unfolding first_of check_code refuse_parent refuse_child check_name lesser_has place_of code_at refuse_numbered refuse_weights
    refuse_name_weights refuse_back refuse_ring refuse_file refuse_list decimals written path word_in first_digits corner
    corner_of triangle_at unit_at corner_vertex sum
bounds = record {
  word_0 = refl;
  word_0_name = refl;
  degree_24 = refl;
  degree_25 = refl;
  degree_25_name = refl;
  all_ones = refl;
  file_24 = refl;
  file_25 = refl;
  list_24 = refl;
  list_25 = refl;
  back_24 = refl;
  back_25 = refl;
  a_5 = refl;
  a_6 = refl;
  a_7 = refl;
  digit_beyond = refl;
  last_digit_beyond = refl;
  last_digit = refl;
  zero_bits = refl;
  zero_bits_name = refl;
  code_with_corner = refl;
  name_without_corner = refl;
  canonical = refl;
  not_canonical = refl;
  corner_0 = refl;
  corner_1 = refl;
  corner_3 = refl;
  corner_4 = refl;
  digit_3 = refl;
  digit_4 = refl;
  parent_of_0 = refl;
  parent_of_1 = refl;
  child_of_23 = refl;
  child_of_24 = refl;
  nowhere = refl;
  only_x = refl;
  only_y = refl;
  only_z = refl;
  far = refl;
  far_minus = refl;
  far_x = refl;
  far_y = refl;
  far_z = refl;
  far_x_minus = refl;
  far_y_minus = refl;
  far_z_minus = refl;
  ring_5 = refl;
  ring_6 = refl;
  list_5 = refl;
  list_6 = refl;
  weights_11 = refl;
  weights_12 = refl;
  name_weights_11 = refl;
  name_weights_12 = refl;
  back_11 = refl;
  back_12 = refl;
  three_weights = refl;
  not_one_side = refl;
  another_sum = refl;
  wrapped = refl;
  thirteenth = refl;
  one_before_two = refl;
  two_before_three = refl;
  three_before_four = refl;
  four_before_five = refl;
  four_not_ten = refl;
  four_before_six = refl;
  ten_before_nine = refl;
  ten_before_nine_ring = refl;
  five_before_six = refl;
  five_before_nine = refl;
  one_before_eight = refl;
  one_before_seven = refl;
  eight_before_nine = refl;
  seven_before_nine = refl;
  one_before_nine = refl;
  nine_before_eleven = refl;
}
