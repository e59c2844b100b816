-- Document 02, 2026-04: a sweep over bytes that a stranger would try, each refusal at its bound, and wrong answers.
-- Assumes nothing.
use Rattle.std.specs.Prelude.{◌≡◌, List, [], ◌∷◌, ◌++◌, ℕ, replicate}
use Rattle.frame.specs.Promises.{◌leaves◌}
use Rattle.octets.specs.Bytes.{signed_numbers}
use Rattle.grid.specs.Writing.{minus}
use Rattle.host_sweeps.specs.Refusals.{refuse_sweep}
use Rattle.host_sweeps.specs.Answers.{SweepBytes}

-- (0,0,-1) and (0,0,0), twelve bytes each
abbrev pub two_directions : List ℕ
two_directions = replicate 8 0 ++ replicate 4 255 ++ replicate 12 0

pub record Examples : Type 0 where
  -- "signed", most significant first: -2 in four bytes
  pub minus_two : signed_numbers 4 1 (0xFF ∷ 0xFF ∷ 0xFF ∷ 0xFE ∷ []) ≡ minus 2 ∷ []
  -- E7 and (0,0,0) in a sweep: the code and 0, one refused, at place 1 by 7; a byte more of each list stays
  pub swept : SweepBytes 2 two_directions (replicate 17 9) (replicate 25 9)
      leaves (
        0,
        (
          0x50 ∷ 0x8C ∷ replicate 14 0 ++ (9 ∷ []),
          replicate 7 0 ++ (1 ∷ replicate 7 0) ++ (1 ∷ replicate 7 0) ++ (7 ∷ 9 ∷ []),
        ),
      )
  pub swept_short : SweepBytes 2 two_directions (replicate 15 9) (replicate 24 9)
      leaves (9, (replicate 15 9, replicate 24 9))

pub record Bounds : Type 0 where
  -- "refusal 1 .., then 9": twelve bytes a direction, eight a code, 24 for the answer
  pub sweep_0 : refuse_sweep 24 [] [] (replicate 24 9) ≡ 0
  pub sweep_11 : refuse_sweep 24 (replicate 11 0) (replicate 8 9) (replicate 24 9) ≡ 9
  pub sweep_12 : refuse_sweep 24 (replicate 12 0) (replicate 8 9) (replicate 24 9) ≡ 0
  pub sweep_13 : refuse_sweep 24 (replicate 13 0) (replicate 16 9) (replicate 24 9) ≡ 9
  pub sweep_codes_7 : refuse_sweep 24 (replicate 12 0) (replicate 7 9) (replicate 24 9) ≡ 9
  pub sweep_out_23 : refuse_sweep 24 (replicate 12 0) (replicate 8 9) (replicate 23 9) ≡ 9
  pub sweep_25 : refuse_sweep 25 (replicate 11 0) [] [] ≡ 1

-- Wrong answers that the promises refuse.
pub record Mistakes : Type 0 where
  -- the old code left at a refused place, the later byte cleared, the place counted in bytes, the sweep refused for one
  -- direction
  pub old_code : SweepBytes 2 two_directions (replicate 17 9) (replicate 24 9) 0 (
    0x50 ∷ 0x8C ∷ replicate 6 0 ++ replicate 9 9,
    replicate 7 0 ++ (1 ∷ replicate 7 0) ++ (1 ∷ replicate 7 0) ++ (7 ∷ []),
  ) → ⊥
  pub sweep_cleared : SweepBytes 2 two_directions (replicate 17 9) (replicate 24 9) 0 (
    0x50 ∷ 0x8C ∷ replicate 15 0,
    replicate 7 0 ++ (1 ∷ replicate 7 0) ++ (1 ∷ replicate 7 0) ++ (7 ∷ []),
  ) → ⊥
  pub in_bytes : SweepBytes 2 two_directions (replicate 16 9) (replicate 24 9) 0 (
    0x50 ∷ 0x8C ∷ replicate 14 0,
    replicate 7 0 ++ (1 ∷ replicate 7 0) ++ (12 ∷ replicate 7 0) ++ (7 ∷ []),
  ) → ⊥
  pub sweep_refused : SweepBytes 2 two_directions (replicate 16 9) (replicate 24 9) 7
      (replicate 16 9, replicate 24 9) → ⊥
