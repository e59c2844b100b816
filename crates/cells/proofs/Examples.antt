-- The examples by computation. Assumes nothing.
use mathlib.Core.Path.{◌≡◌, refl, ap}
use mathlib.Core.Bool.{false}
use Prim.Native.Nat.{ℕ}
use lib.Dec.{eqb, lit<}
use borrow.Author.Tests.{eqb-false}
use Rattle.frame.specs.Refusals.{first_of}
use Rattle.frame.specs.Lists.{some, first_place, below}
use Rattle.words.specs.Words.{first_digits, path, word_in}
use Rattle.words.specs.Refusals.{check_code}
use Rattle.words.specs.Writing.{decimals, written}
use Rattle.cells.specs.Order.{spelled, sooner, begins, less_than, inside_of}
use Rattle.cells.specs.Checking.{reason_at, checked}
use Rattle.cells.specs.Examples.{Examples, Orders, Mistakes}
use Rattle.cells.specs.Checking.{Verdict}

pub examples : Examples
unfolding first_of some first_place below first_digits path word_in check_code decimals written spelled sooner begins
    less_than
    inside_of reason_at checked
examples = record {
  tree = refl;
  children = refl;
  alone = refl;
  invalid_first = refl;
  invalid = refl;
  falling = refl;
  ancestor_after = refl;
  repeated = refl;
  inside = refl;
  deep_inside = refl;
  least = refl;
  repeat_later = refl;
  first = refl;
}

pub orders : Orders
unfolding first_digits path word_in decimals written spelled sooner begins less_than inside_of
orders = record {
  by_side = refl;
  by_digits = refl;
  by_words = lit< tt;
  ancestor_first = refl;
  inside_ancestor = refl;
  not_itself = refl;
  not_parent = refl;
  other_side = refl;
}

-- told by one of the two numbers
differ : {r s : Verdict} (number : Verdict → ℕ) → eqb (number r) (number s) ≡ false → r ≡ s → ⊥
differ number d e = eqb-false _ _ d (ap number e)

reason : Verdict → ℕ
reason r = r.reason

place : Verdict → ℕ
place r = r.place

pub mistakes : Mistakes
unfolding first_of some first_place below first_digits path word_in check_code decimals written spelled sooner begins
    less_than
    inside_of reason_at checked reason place
mistakes = record {
  as_numbers = differ reason refl;
  as_numbers_accepted = differ reason refl;
  inside_first = differ reason refl;
  last_place = differ reason refl;
  from_one = differ place refl;
  repeat_accepted = differ reason refl;
  inside_accepted = differ reason refl;
  all_accepted = differ reason refl;
  inside_itself = differ reason refl;
}
