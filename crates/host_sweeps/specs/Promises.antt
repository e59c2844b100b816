-- Document 02, 2026-04: what is promised of a sweep over bytes. Assumes nothing.
use Rattle.std.specs.Prelude.{◌≡◌, List, [], ◌∷◌, ℕ, ◌*◌, ◌/◌, ◌%◌, ◌^◌, ◌≤◌, ◌<◌, length, get_or, drop}
use Rattle.frame.specs.Promises.{KeepsLent}
use Rattle.octets.specs.Bytes.{number_at}
use Rattle.sweeps.specs.Answers.{SweepResult}
use Rattle.sweeps.specs.Sweeps.{SweepAnswer}
use Rattle.host_sweeps.specs.Refusals.{refuse_sweep}
use Rattle.host_sweeps.specs.Answers.{directions_in, SweepBytes}

-- Demand 1, of the exported call: exactly one answer for every input.
pub record OneAnswer : Type 0 where
  pub sweep : (n : ℕ) (dirs codes out : List ℕ)
      → KeepsLent (refuse_sweep n dirs codes out) (SweepBytes n dirs codes out) (λ r. r) (λ f. f) (codes, out)

-- What a host has of a sweep over bytes, where the call on the numbers that they are answers a, and leaves `left` of a
-- list that is long enough. Each list of codes has m places, one for each direction.
pub record HostedSweep (a : SweepAnswer) (left : List ℕ) (m : ℕ) (codes out : List ℕ) (r : ℕ)
    (new : List ℕ × List ℕ)
    : Type 0 where
  pub refused : (a.refusal ≡ 0 → ⊥) → r ≡ a.refusal
  pub short : a.refusal ≡ 0 → length codes < 8 * m → r ≡ 9
  pub short_out : a.refusal ≡ 0 → length out < 24 → r ≡ 9
  pub answered : a.refusal ≡ 0 → 8 * m ≤ length codes → 24 ≤ length out → r ≡ 0
  -- what the host reads is what that call answers and leaves
  pub code : r ≡ 0 → (i : ℕ) → i < m → number_at 8 new.0 i ≡ get_or left i 0
  pub told : r ≡ 0 → (i : ℕ) → i < 3
      → number_at 8 new.1 i ≡ get_or (a.refused ∷ a.place ∷ a.first ∷ []) i 0
  -- every later byte is as it was, and a refusal leaves all as they were
  pub later_codes : drop (8 * m) new.0 ≡ drop (8 * m) codes
  pub later : drop 24 new.1 ≡ drop 24 out
  pub kept : (r ≡ 0 → ⊥) → new ≡ (codes, out)
  pub long : (length new.0 ≡ length codes) × (length new.1 ≡ length out)

pub record AsTheSweep : Type 0 where
  pub sweep : (n : ℕ) (dirs codes out places left : List ℕ) (a : SweepAnswer) (r : ℕ) (new : List ℕ × List ℕ)
      → length dirs < 2 ^ 64 → length dirs % 12 ≡ 0 → length dirs / 12 ≤ length places
      → SweepResult n (directions_in dirs) places a left → SweepBytes n dirs codes out r new
      → HostedSweep a left (length dirs / 12) codes out r new
  -- bytes that are no whole number of directions
  pub odd : (n : ℕ) (dirs codes out : List ℕ) (r : ℕ) (new : List ℕ × List ℕ) → n ≤ 24
      → (length dirs % 12 ≡ 0 → ⊥)
      → SweepBytes n dirs codes out r new → r ≡ 9
