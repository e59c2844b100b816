-- Document 02, 2026-04: what is promised of a sweep. Assumes nothing.
use Rattle.std.specs.Prelude.{◌≡◌, List, [], ◌∷◌, ◌++◌, ℕ, zero, suc, ◌+◌, ◌*◌, ◌/◌, ◌≤◌, ◌<◌, ℤ, pos, length, get_or, take, drop}
use Rattle.frame.specs.Promises.{KeepsLent}
use Rattle.words.specs.Family.{CodeAnswer}
use Rattle.filing.specs.declared.Direction.{Direction}
use Rattle.directions.specs.Answers.{FileAnswer}
use Rattle.grid.specs.Writing.{towards}
use Rattle.sweeps.specs.Sweeps.{SweepAnswer, sweep_answer, no_sweep}
use Rattle.sweeps.specs.Refusals.{refuse_sweep}
use Rattle.sweeps.specs.Answers.{SweepResult}

-- Demand 1, of this call: exactly one answer for every input, a refusal by its number, with zeros, "writing nothing".
pub record OneAnswer : Type 0 where
  pub sweep : (n : ℕ) (dirs : List ℤ) (out : List ℕ)
      → KeepsLent (refuse_sweep n dirs out) (SweepResult n dirs out) (λ r. r.refusal) no_sweep out

-- direction i of a sweep, "three signed numbers each"
abbrev pub direction_at : List ℤ → ℕ → Direction
direction_at dirs i =
    towards (get_or dirs (3 * i) (pos 0)) (get_or dirs (3 * i + 1) (pos 0)) (get_or dirs (3 * i + 2) (pos 0))

-- What is found, sentence by sentence, where a sweep answers r and leaves the list of codes as `new`.
pub record Found (n : ℕ) (dirs : List ℤ) (out : List ℕ) (r : SweepAnswer) (new : List ℕ) : Type 0 where
  -- "Each result equals the single call's."  "A refused direction writes 0 in its own place and the sweep goes on": s
  -- is the single call's answer, whose code is 0 where it is refused
  pub single : (i : ℕ) (s : CodeAnswer) → i < length dirs / 3 → FileAnswer n (direction_at dirs i) s
      → get_or new i 0 ≡ s.code.0
  -- "Code places after the last direction stay unchanged."
  pub later : drop (length dirs / 3) new ≡ drop (length dirs / 3) out
  -- "the first one's place (from 0) and refusal": it is refused so, and none before it is
  pub first : (s : CodeAnswer) → (r.refused ≡ 0 → ⊥) → FileAnswer n (direction_at dirs r.place) s
      → (s.refusal ≡ r.first) × (s.refusal ≡ 0 → ⊥)
  pub inside : (r.refused ≡ 0 → ⊥) → r.place < length dirs / 3
  pub none_before : (i : ℕ) (s : CodeAnswer) → i < r.place → FileAnswer n (direction_at dirs i) s
      → s.refusal ≡ 0
  -- "all zeros if there is none": and where the number is 0, there is none
  pub none_refused : r.refused ≡ 0 → r ≡ no_sweep 0
  pub all_filed : (i : ℕ) (s : CodeAnswer) → r.refused ≡ 0 → i < length dirs / 3
      → FileAnswer n (direction_at dirs i) s → s.refusal ≡ 0

-- The sentences one by one.
pub record Places : Type 0 where
  pub found : (n : ℕ) (dirs : List ℤ) (out : List ℕ) (r : SweepAnswer) (new : List ℕ)
      → SweepResult n dirs out r new
      → r.refusal ≡ 0 → Found n dirs out r new
  pub long : (n : ℕ) (dirs : List ℤ) (out : List ℕ) (r : SweepAnswer) (new : List ℕ)
      → SweepResult n dirs out r new
      → length new ≡ length out
  -- "An empty sweep is answered with no refused directions."
  pub empty : (n : ℕ) (out : List ℕ) → n ≤ 24 → SweepResult n [] out (no_sweep 0) out

-- what the answers of two parts make together, the first of h directions: the place counts directions of the whole
-- sweep
abbrev pub joined_by : (first second h : ℕ) → SweepAnswer → SweepAnswer → SweepAnswer
joined_by zero zero h a b = no_sweep 0
joined_by zero (suc m) h a b = sweep_answer 0 (suc m) (h + b.place) b.first
joined_by (suc m) k h a b = sweep_answer 0 (suc m + k) a.place a.first

abbrev pub joined : (h : ℕ) → SweepAnswer → SweepAnswer → SweepAnswer
joined h a b = joined_by a.refused b.refused h a b

-- "hand later parts of the sweep on as parts that start in the middle of the lent list": the first h directions into
-- the list, and the rest into the part of the list that starts at place h, come to the whole sweep
pub record Parts : Type 0 where
  pub parts : (n h : ℕ) (dirs : List ℤ) (out mid late : List ℕ) (a b : SweepAnswer) → h ≤ length dirs / 3
      → refuse_sweep n dirs out ≡ 0 → SweepResult n (take (3 * h) dirs) out a mid
      → SweepResult n (drop (3 * h) dirs) (drop h mid) b late
      → SweepResult n dirs out (joined h a b) (take h mid ++ late)
  -- "the number of refused directions": of two parts it is the sum; of a direction alone, with the single call's answer
  -- s, it is 0 or 1
  pub alone : (n : ℕ) (x y z : ℤ) (out : List ℕ) (r : SweepAnswer) (new : List ℕ) (s : CodeAnswer)
      → SweepResult n (x ∷ y ∷ z ∷ []) out r new → r.refusal ≡ 0 → FileAnswer n (towards x y z) s
      → (s.refusal ≡ 0 → r ≡ no_sweep 0)
      × ((s.refusal ≡ 0 → ⊥) → r ≡ sweep_answer 0 1 0 s.refusal)
