-- Document 01, 'Filing a direction': when u + vφ is at least 0. Assumes nothing.
use Rattle.std.specs.Prelude.{◌≡◌, ℤ, pos, ◌+ℤ◌, ◌*ℤ◌, ◌≤ℤ◌, ◌<ℤ◌}
use Rattle.golden.specs.Numbers.{whole}
use Rattle.golden.specs.declared.Golden.{Golden}

-- "both at least 0, or w ≥ 0 > v and w² ≥ 5v², or v ≥ 0 > w and 5v² ≥ w²"
pub data Sign (w v : ℤ) : Type 0 where
  both : pos 0 ≤ℤ w → pos 0 ≤ℤ v → Sign w v
  left : pos 0 ≤ℤ w → v <ℤ pos 0 → (pos 5 *ℤ (v *ℤ v)) ≤ℤ (w *ℤ w) → Sign w v
  right : pos 0 ≤ℤ v → w <ℤ pos 0 → (w *ℤ w) ≤ℤ (pos 5 *ℤ (v *ℤ v)) → Sign w v

-- "with w = 2u + v"
abbrev pub w_of : Golden → ℤ
w_of x = pos 2 *ℤ x.u +ℤ x.v

-- "u + vφ is at least 0 exactly when"
abbrev pub NonNeg : Golden → Type 0
NonNeg x = Sign (w_of x) x.v

-- above 0
abbrev pub Positive : Golden → Type 0
Positive x = NonNeg x × (x ≡ whole (pos 0) → ⊥)
