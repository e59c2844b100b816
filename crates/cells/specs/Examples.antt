-- Document 02, 2026-09: what a stranger would try, and wrong answers. Codes are written apq then digits. Assumes
-- nothing.
use Rattle.std.specs.Prelude.{◌≡◌, true, false, [], ◌∷◌, ◌++◌, ◌<◌}
use Rattle.words.specs.Writing.{written, words_for}
use Rattle.cells.specs.Order.{less_than, inside_of}
use Rattle.cells.specs.Checking.{verdict, accepted, checked}

pub record Examples : Type 0 where
  -- "an ancestor before its descendants"; 10003 comes before 1001, though its word is the greater number
  pub tree : checked (words_for (10003 ∷ 1001 ∷ 10020 ∷ 101 ∷ 511 ∷ [])) ≡ accepted
  pub children : checked (words_for (1000 ∷ 1001 ∷ 1002 ∷ 1003 ∷ [])) ≡ accepted
  pub alone : checked (words_for (100 ∷ [])) ≡ accepted
  -- at the first place only 1 can be given
  pub invalid_first : checked (0 ∷ []) ≡ verdict 1 0
  pub invalid : checked (words_for (100 ∷ []) ++ (0 ∷ [])) ≡ verdict 1 1
  pub falling : checked (words_for (1001 ∷ 10003 ∷ [])) ≡ verdict 2 1
  -- an ancestor after its descendant is less
  pub ancestor_after : checked (words_for (1001 ∷ 100 ∷ [])) ≡ verdict 2 1
  pub repeated : checked (words_for (100 ∷ 101 ∷ 101 ∷ [])) ≡ verdict 3 2
  pub inside : checked (words_for (100 ∷ 1001 ∷ [])) ≡ verdict 4 1
  pub deep_inside : checked (words_for (100 ∷ 100310231 ∷ [])) ≡ verdict 4 1
  -- "the least deciding": 10012 is less than the word before, and inside an earlier one; a repeat is less than it too
  pub least : checked (words_for (1001 ∷ 1003 ∷ 10012 ∷ [])) ≡ verdict 2 2
  pub repeat_later : checked (words_for (1001 ∷ 1003 ∷ 1001 ∷ [])) ≡ verdict 2 2
  -- "The first offending place": the second word is equal to the first, the third is invalid
  pub first : checked (words_for (100 ∷ 100 ∷ []) ++ (0 ∷ [])) ≡ verdict 3 1

-- The order at codes, and where 64-bit words have another.
pub record Orders : Type 0 where
  pub by_side : less_than (written 10033).0 (written 101).0 ≡ true
  pub by_digits : less_than (written 10003).0 (written 1001).0 ≡ true
  pub by_words : (written 1001).0 < (written 10003).0
  pub ancestor_first : less_than (written 100).0 (written 1000).0 ≡ true
  pub inside_ancestor : inside_of (written 10012).0 (written 1001).0 ≡ true
  pub not_itself : inside_of (written 1001).0 (written 1001).0 ≡ false
  pub not_parent : inside_of (written 100).0 (written 1001).0 ≡ false
  pub other_side : inside_of (written 1011).0 (written 100).0 ≡ false

-- Wrong programs, each by an answer of its own.
pub record Mistakes : Type 0 where
  -- compares the 64-bit words
  pub as_numbers : checked (words_for (10003 ∷ 1001 ∷ [])) ≡ verdict 2 1 → ⊥
  pub as_numbers_accepted : checked (words_for (1001 ∷ 10003 ∷ [])) ≡ accepted → ⊥
  -- looks for insides before it looks at the order
  pub inside_first : checked (words_for (1001 ∷ 1003 ∷ 10012 ∷ [])) ≡ verdict 4 2 → ⊥
  -- answers the last offending place
  pub last_place : checked (words_for (100 ∷ 100 ∷ []) ++ (0 ∷ [])) ≡ verdict 1 2 → ⊥
  -- counts places from 1
  pub from_one : checked (0 ∷ []) ≡ verdict 1 1 → ⊥
  -- accepts a repeat; accepts what lies inside the word before; accepts all
  pub repeat_accepted : checked (words_for (100 ∷ 100 ∷ [])) ≡ accepted → ⊥
  pub inside_accepted : checked (words_for (100 ∷ 1001 ∷ [])) ≡ accepted → ⊥
  pub all_accepted : checked (0 ∷ []) ≡ accepted → ⊥
  -- takes a triangle to be inside itself
  pub inside_itself : checked (words_for (100 ∷ 100 ∷ [])) ≡ verdict 4 1 → ⊥
