-- Document 02, 2026-09: when a list of cells is accepted, and else its first offending place with the reason: what the
-- contract cites. Assumes nothing.
use Rattle.std.specs.Prelude.{◌≡◌, Bool, true, false, not, cond, List, [], ◌∷◌, ◌++◌, ℕ, zero, suc, ◌<◌, eqb, length, get_or, take, Result, Ok, Err}
use Rattle.frame.specs.Refusals.{Row, ◌when◌, first_of}
use Rattle.frame.specs.Lists.{some, first_place, below}
use Rattle.cells.specs.Order.{valid, less_than, inside_of}
use Rattle.cells.specs.declared.Offence.{Offence}
use Rattle.cells.specs.declared.Reason.{Reason}
use Rattle.cells.specs.declared.Reason.TheVariants.{Invalid, Less, Equal, Inside}

-- "2 less than the word before, 3 equal to it": the word at the first place has none before it
abbrev pub before_rows : (ws : List ℕ) (place : ℕ) → List Row
before_rows ws zero = []
before_rows ws (suc i) =
    let w = get_or ws (suc i) 0 in
    2 when less_than w (get_or ws i 0) ∷ 3 when eqb w (get_or ws i 0) ∷ []

-- "1 invalid, 2 less than the word before, 3 equal to it, 4 inside an earlier one, the least deciding": of the word at
-- a place; 0 where it offends in nothing
unfoldable pub reason_at : (ws : List ℕ) (place : ℕ) → ℕ
reason_at ws i =
    let w = get_or ws i 0 in
    first_of (1 ∷ 2 ∷ 3 ∷ 4 ∷ [])
    (1 when not (valid w) ∷ before_rows ws i ++ (4 when some (inside_of w) (take i ws) ∷ []))

-- of all places
abbrev pub reasons : List ℕ → List ℕ
reasons ws = below (length ws) (reason_at ws)

abbrev pub offends : (reason : ℕ) → Bool
offends r = not (eqb r 0)

-- reason 0 and place 0 where the list is accepted
pub record Verdict : Type 0 where
  pub reason : ℕ
  pub place : ℕ

abbrev pub verdict : (reason place : ℕ) → Verdict
verdict r i = record { reason = r; place = i }

abbrev pub accepted : Verdict
accepted = verdict 0 0

-- "If the answer is an enum, a definition provides this paper's number and values for each of its cases"
abbrev pub reason_number : Reason → ℕ
reason_number Invalid = 1
reason_number Less = 2
reason_number Equal = 3
reason_number Inside = 4

abbrev pub reason_told : {A : Type 0} → Result A Reason → ℕ
reason_told (Ok a) = 0
reason_told (Err r) = reason_number r

abbrev pub verdict_told : Result (Unit {0}) Offence → Verdict
verdict_told (Ok a) = accepted
verdict_told (Err o) = verdict (reason_number o.reason) o.place

-- "The first offending place, from 0, and its reason are answered": the complete answer for every list
unfoldable pub checked : List ℕ → Verdict
checked ws =
    let rs = reasons ws in
    let i = first_place offends rs in
    cond (some offends rs) (verdict (get_or rs i 0) i) accepted

-- "accept a list exactly when every word is a valid triangle code, the words rise without repeats, and none lies
-- inside another"
pub record Accepted (ws : List ℕ) : Type 0 where
  pub codes : (i : ℕ) → i < length ws → valid (get_or ws i 0) ≡ true
  pub rise : (i : ℕ) → suc i < length ws → less_than (get_or ws i 0) (get_or ws (suc i) 0) ≡ true
  pub apart : (i j : ℕ) → i < length ws → j < length ws → inside_of (get_or ws i 0) (get_or ws j 0) ≡ false
