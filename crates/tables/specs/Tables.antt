-- Document 02, 2026-03: the list of a table. Assumes nothing.
use Rattle.std.specs.Prelude.{◌≡◌, ℕ, ◌*◌, ◌^◌, ◌≤◌, Bool, false, not, cond, List, leb, eqb, ℤ, pos, negsuc, length, get_or, replicate, Option, None, Some}
use Rattle.frame.specs.Refusals.{◌either◌}
use Rattle.frame.specs.Lists.{some, first_place}
use Rattle.words.specs.Counting.{place_of}
use Rattle.words.specs.declared.TriangleCode.{TriangleCode}

-- ---- the numbers

-- "A reading is 0 to 100,000 millimetres"
abbrev pub is_reading : ℤ → Bool
is_reading (pos r) = leb r 100000
is_reading (negsuc r) = false

-- "and -1 means no reading."
abbrev pub none : ℤ
none = negsuc 0

abbrev pub is_none : ℤ → Bool
is_none (pos r) = false
is_none (negsuc r) = eqb r 0

-- "a number that is neither a reading nor -1"
abbrev pub is_bad : ℤ → Bool
is_bad x = not (is_reading x either is_none x)

-- ---- the list

-- "It holds one reading for each triangle of one degree": "20·4^degree"
abbrev pub places : (degree : ℕ) → ℕ
places n = 20 * 4 ^ n

-- "the list holds a number that is neither a reading nor -1"
abbrev pub any_bad : List ℤ → Bool
any_bad list = some is_bad list

-- "the least bad place, counted from 0"
abbrev pub least_bad : List ℤ → ℕ
least_bad list = first_place is_bad list

-- A list that no call refuses for its length or its numbers.
pub record IsTable (n : ℕ) (list : List ℤ) : Type 0 where
  pub degree : n ≤ 6
  pub long : length list ≡ places n
  pub good : any_bad list ≡ false

-- a table with no readings
abbrev pub fresh : (degree : ℕ) → List ℤ
fresh n = replicate (places n) none

-- ---- "reading or nothing": what a number of the list says, and the paper's number for each case

abbrev pub Sounding : Type 0
Sounding = Option ℤ

abbrev pub said : ℤ → Sounding
said x = cond (is_none x) None (Some x)

abbrev pub number : Sounding → ℤ
number None = none
number (Some r) = r

-- ---- a triangle's place: "ordered by code"

abbrev pub number_at : TriangleCode → List ℤ → ℤ
number_at t list = get_or list (place_of t) none
