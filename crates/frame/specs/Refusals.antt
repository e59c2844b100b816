-- Document 01, 'Refusal numbers': the order, and a call's refusal by its rows. Assumes nothing.
use Rattle.std.specs.Prelude.{ℕ, Bool, true, false, cond, List, [], ◌∷◌, ltb, eqb, length, Result, Ok, Err}
use Rattle.frame.specs.declared.Refusal.{Refusal}
use Rattle.frame.specs.declared.Refusal.TheVariants.{Degree, Side, BeyondDegree, LowBits, Argument, NoSuchKin}
use Rattle.frame.specs.declared.Refusal.TheVariants.{ZeroDirection, FarDirection, ShortList, NotCanonical, NoCorner}
use Rattle.frame.specs.declared.Refusal.TheVariants.{WrongDegree, ReadingRange, TableLength, NoDesk, Owners, OtherDesk}
use Rattle.frame.specs.declared.Refusal.TheVariants.{NotOwned, SumsLength, SumsDiffer, SmallDegree, LastBit, LongList}
use Rattle.frame.specs.declared.Refusal.TheVariants.{PaperCode}

infixr 40 ◌either◌
abbrev pub ◌either◌ : Bool → Bool → Bool
true either b = true
false either b = b

-- A row of the table at given arguments: its number, and whether what it says is so.
pub record Row : Type 0 where
  pub number : ℕ
  pub so : Bool

infix 80 ◌when◌
abbrev pub ◌when◌ : ℕ → Bool → Row
k when b = record { number = k; so = b }

-- whether a row of this number says what is so
abbrev pub given : ℕ → List Row → Bool
given k [] = false
given k (r ∷ rs) = cond (eqb k r.number) (r.so either given k rs) (given k rs)

-- A call's refusal, by the rows that its arguments can break: the first of the numbers of an order that is given;
-- "Zero means answered."
unfoldable pub first_of : (order : List ℕ) → List Row → ℕ
first_of [] rs = 0
first_of (k ∷ ks) rs = cond (given k rs) k (first_of ks rs)

-- "Where several hold, the order is 1, 2, 3, 4, 10, 5, 6, 8, 7, 9, 11."
abbrev pub order : List ℕ
order = 1 ∷ 2 ∷ 3 ∷ 4 ∷ 10 ∷ 5 ∷ 6 ∷ 8 ∷ 7 ∷ 9 ∷ 11 ∷ []

-- the refusal of a call of document 01
abbrev pub refusal : List Row → ℕ
refusal rs = first_of order rs

-- "9: a lent list is too short": of any kind of places
abbrev pub list_rows : {A : Type 0} → (places : ℕ) → List A → List Row
list_rows n list = 9 when ltb (length list) n ∷ []

-- "If the answer is an enum, a definition provides this paper's number and values for each of its cases": the number of a
-- refusal
abbrev pub number : Refusal → ℕ
number Degree = 1
number Side = 2
number BeyondDegree = 3
number LowBits = 4
number Argument = 5
number NoSuchKin = 6
number ZeroDirection = 7
number FarDirection = 8
number ShortList = 9
number NotCanonical = 10
number NoCorner = 11
number WrongDegree = 20
number ReadingRange = 21
number TableLength = 22
number NoDesk = 24
number Owners = 25
number OtherDesk = 26
number NotOwned = 27
number SumsLength = 28
number SumsDiffer = 29
number SmallDegree = 30
number LastBit = 31
number LongList = 32
number PaperCode = 33

-- the number and values that the documents have for a call's result: `answer` makes them of a value, `zeros` of a number
abbrev pub told : {A R : Type 0} → (answer : A → R) → (zeros : ℕ → R) → Result A Refusal → R
told answer zeros (Ok a) = answer a
told answer zeros (Err f) = zeros (number f)

-- the number alone: "Zero means answered."
abbrev pub told_number : {A : Type 0} → Result A Refusal → ℕ
told_number r = told (λ a. 0) (λ k. k) r
