-- The packed tables of the code are those of the sides: by octant and kind the side, and the roles at its corners.
-- Assumes nothing.
use mathlib.Core.Path.{◌≡◌, refl}
use Prim.Native.Nat.{ℕ, zero, suc, ◌+◌, ◌*◌, ◌/◌, ◌%◌, ◌^◌, ◌<◌}
use Rattle.net.proofs.Table.{sound, below, same}
use Rattle.seats.specs.Means.Octants.{side_at, first_at, second_at, row_of}

pub packed_side : (o : ℕ) → o < 8 → (k : ℕ) → k < 4 → row_of k / 2 ^ (5 * o) % 32 ≡ side_at (4 * o + k)
unfolding side_at
packed_side = sound (below 8 λ o. below 4 λ k. same (row_of k / 2 ^ (5 * o) % 32) (side_at (4 * o + k))) refl

pub packed_first : (k : ℕ) → k < 32 → 8753229350460422521 / 2 ^ (2 * k) % 4 ≡ first_at k
unfolding first_at
packed_first = sound (below 32 λ k. same (8753229350460422521 / 2 ^ (2 * k) % 4) (first_at k)) refl

pub packed_second : (k : ℕ) → k < 32 → 16690016339199190942 / 2 ^ (2 * k) % 4 ≡ second_at k
unfolding second_at
packed_second = sound (below 32 λ k. same (16690016339199190942 / 2 ^ (2 * k) % 4) (second_at k)) refl

-- what holds from 3 up holds for a kind that is none of the first three
pub from_three :
    (P : ℕ → Type 0)
    → ((k : ℕ) → P (suc (suc (suc k))))
    → (k : ℕ)
    → (k ≡ 0 → ⊥)
    → (k ≡ 1 → ⊥)
    → (k ≡ 2 → ⊥)
    → P k
from_three P h zero n0 n1 n2 = absurd (n0 refl)
from_three P h (suc zero) n0 n1 n2 = absurd (n1 refl)
from_three P h (suc (suc zero)) n0 n1 n2 = absurd (n2 refl)
from_three P h (suc (suc (suc k))) n0 n1 n2 = h k

pub row_last : (k : ℕ) → (k ≡ 0 → ⊥) → (k ≡ 1 → ⊥) → (k ≡ 2 → ⊥) → 492254663300 ≡ row_of k
row_last = from_three (λ k. 492254663300 ≡ row_of k) (λ k. refl)
