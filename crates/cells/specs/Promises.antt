-- Document 02, 2026-09: what is promised of checking a list, beside the contract `r ≡ checked ws`. Assumes nothing.
use Rattle.std.specs.Prelude.{◌≡◌, true, false, ◌↔◌, ◌⊎◌, List, [], ◌∷◌, ◌++◌, ℕ, ◌<◌, length, get_or}
use Rattle.frame.specs.Promises.{One}
use Rattle.words.specs.Words.{degree_of}
use Rattle.words.specs.Family.{code_of, refuse_parent, parent_of}
use Rattle.cells.specs.Order.{valid, less_than, inside_of}
use Rattle.cells.specs.Checking.{reason_at, accepted, checked, Accepted}
use Rattle.cells.specs.Checking.{Verdict}

-- "Show that any two results meeting a statement are equal": on any list, of any length
pub record OneAnswer : Type 0 where
  pub check : (ws : List ℕ) → One {A = Verdict} (λ r. r ≡ checked ws)

-- "The first offending place, from 0, and its reason are answered"
pub record FirstOffence (ws : List ℕ) (r : Verdict) : Type 0 where
  pub there : r.place < length ws
  pub reason : r.reason ≡ reason_at ws r.place
  pub some : r.reason ≡ 0 → ⊥
  pub first : (i : ℕ) → i < r.place → reason_at ws i ≡ 0

pub record Checks : Type 0 where
  -- "accept a list exactly when every word is a valid triangle code, the words rise without repeats, and none lies
  -- inside another"
  pub exactly : (ws : List ℕ) → (checked ws ≡ accepted) ↔ Accepted ws
  -- any other is answered by its first offence, which no other answer is
  pub offence : (ws : List ℕ) → (Accepted ws → ⊥) → FirstOffence ws (checked ws)
  pub only : (ws : List ℕ) (r : Verdict) → FirstOffence ws r → r ≡ checked ws
  -- "The empty list is accepted."
  pub empty : checked [] ≡ accepted

-- "Codes of different degree compare": it is an order, so that of two valid codes that are not equal just one is less;
-- and between codes of one degree it is document 01's.
pub record Ordered : Type 0 where
  pub total : (w u : ℕ) → valid w ≡ true → valid u ≡ true → less_than w u ≡ false → less_than u w ≡ false → w ≡ u
  pub onward : (v w u : ℕ) → less_than v w ≡ true → less_than w u ≡ true → less_than v u ≡ true
  pub not_itself : (w : ℕ) → less_than w w ≡ false
  -- "an ancestor before its descendants"
  pub ancestor : (w u : ℕ) → inside_of w u ≡ true → less_than u w ≡ true
  -- "codes of one degree being compared as 64-bit words"
  pub one_degree : (w u : ℕ) → valid w ≡ true → valid u ≡ true → degree_of w ≡ degree_of u
      → (less_than w u ≡ true) ↔ (w < u)

-- What "lies inside" is, by document 01's parents: of a valid code those that contain it are its parent, and those that
-- contain its parent.
pub record Inside : Type 0 where
  pub side : (w u : ℕ) → degree_of w ≡ 0 → inside_of w u ≡ false
  pub parent : (w u : ℕ) → refuse_parent (code_of w) ≡ 0 → valid u ≡ true
      → let p = (parent_of (code_of w)).0 in (inside_of w u ≡ true) ↔ ((u ≡ p) ⊎ (inside_of p u ≡ true))

-- A reader who goes through a list once, with one word in mind, misses nothing: after words that are accepted, a word
-- above the last of them is inside one of them only where it is inside the last.
abbrev pub LastDecides : Type 0
LastDecides = (ws : List ℕ) (u w : ℕ) → Accepted (ws ++ (u ∷ [])) → less_than u w ≡ true → (i : ℕ) → i < length ws
    → inside_of w (get_or ws i 0) ≡ true → inside_of w u ≡ true
