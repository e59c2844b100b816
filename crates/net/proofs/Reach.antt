-- Every state of a degree has digits, and so every point of a side whose weights add to 2^N is a corner. Assumes nothing.
use mathlib.Core.Path.{◌≡◌, ◌∙◌, refl, sym, ap}
use mathlib.Core.List.{List, [], ◌∷◌}
use mathlib.Core.Logic.{⊎_elim}
use Prim.Native.Nat.{ℕ, zero, suc, ◌+◌, ◌-◌, ◌*◌, ◌/◌, ◌%◌, ◌^◌, ◌≤◌}
use native.Mathlib.Nat.{pow-suc}
use native.Mathlib.Omega.{arith}
use lib.ListN.{length}
use lib.Pow.{pow_pos}
use Rattle.words.proofs.Digits.{more, none}
use Rattle.net.specs.Means.Spreads.{spread}
use Rattle.net.specs.Means.States.{point_of, state_of, step}
use Rattle.net.specs.Sides.{OneToThree}
use Rattle.net.specs.declared.Point.{Point}
use Rattle.net.specs.declared.State.{State}
use Rattle.net.specs.declared.State.TheVariants.{Down, Up}
use Rattle.net.proofs.Loads.{HasAt, corner_is}
use Rattle.net.proofs.Paths.{Digits}
use Rattle.net.proofs.Spread.{same_point}
use Rattle.net.proofs.StateCorners.{down_same, up_same}
use Rattle.net.proofs.Table.{either_way, less, same}
use Rattle.net.proofs.Totals.{total, twice}

abbrev Parent : State → Type 0
Parent a = (d : ℕ) × (b : State) × (d ≤ 3) × (step d b ≡ a)

parent : (a : State) (m : ℕ) → total a ≡ 2 * m → Parent a
parent (Up x y z) m e =
    ⊎_elim
    (λ p. ⊎_elim
    (λ q. (3, Up (x / 2) (y / 2) (z / 2), omega arith, up_same (omega arith) (omega arith) (omega arith)))
    (λ q. (2, Up (x / 2) (y / 2) (z / 2), omega arith, up_same (omega arith) (omega arith) (omega arith))) (either_way (same (y % 2) 0)))
    (λ p. ⊎_elim
    (λ q. (1, Up (x / 2) (y / 2) (z / 2), omega arith, up_same (omega arith) (omega arith) (omega arith)))
    (λ q. (0, Down (x / 2) (y / 2) (z / 2), omega arith, up_same (omega arith) (omega arith) (omega arith))) (either_way (same (y % 2) 0)))
    (either_way (same (x % 2) 0))
parent (Down x y z) m e =
    ⊎_elim
    (λ p. ⊎_elim
    (λ q. (0, Up (x / 2) (y / 2) (z / 2), omega arith, down_same (omega arith) (omega arith) (omega arith)))
    (λ q. (1, Down (x / 2) (y / 2) (z / 2), omega arith, down_same (omega arith) (omega arith) (omega arith))) (either_way (same (y % 2) 0)))
    (λ p. ⊎_elim
    (λ q. (2, Down (x / 2) (y / 2) (z / 2), omega arith, down_same (omega arith) (omega arith) (omega arith)))
    (λ q. (3, Down (x / 2) (y / 2) (z / 2), omega arith, down_same (omega arith) (omega arith) (omega arith))) (either_way (same (y % 2) 0)))
    (either_way (same (x % 2) 0))

start : (a : State) → total a ≡ 1 → Up 0 0 0 ≡ a
start (Up x y z) e = up_same (omega arith) (omega arith) (omega arith)
start (Down x y z) e = absurd (omega arith)

pub reach : (n : ℕ) (a : State) → total a ≡ 2 ^ n → (ds : List ℕ) × Digits ds × (length ds ≡ n) × (state_of ds ≡ a)
unfolding state_of
reach zero a e = ([], none, refl, start a e)
reach (suc n) a e =
    let p = parent a (2 ^ n) (e ∙ omega (arith, pow-suc 2 n)) in
    let t : 2 * total p.1 ≡ 2 * 2 ^ n = sym (twice p.0 p.1) ∙ ap total p.3 ∙ e ∙ omega (arith, pow-suc 2 n) in
    let r = reach n p.1 (omega arith) in
    (p.0 ∷ r.0, more p.2 r.1, ap suc r.2, ap (step p.0) r.3 ∙ p.3)

-- a point is corner i of the up state whose floor is one less there
abbrev Corner : Point → ℕ → Type 0
Corner p n = (a : State) × (i : ℕ) × OneToThree i × (total a ≡ 2 ^ n) × (point_of i a ≡ p)

corner_of : (p : Point) (n : ℕ) → p.w1 + p.w2 + p.w3 ≡ 2 ^ n → Corner p n
corner_of p n e =
    ⊎_elim
    (λ h. (Up (p.w1 - 1) p.w2 p.w3, 1, omega arith, omega arith, same_point _ _ (omega arith) (omega arith) (omega arith)))
    (λ f. ⊎_elim
    (λ h. (Up p.w1 (p.w2 - 1) p.w3, 2, omega arith, omega arith, same_point _ _ (omega arith) (omega arith) (omega arith)))
    (λ g. (Up p.w1 p.w2 (p.w3 - 1), 3, omega arith, omega (arith, pow_pos n, f, g), same_point _ _ (omega arith) (omega arith) (omega (arith, pow_pos n, f, g))))
    (either_way (less 0 p.w2))) (either_way (less 0 p.w1))

pub reached : (s n : ℕ) (p : Point) → p.w1 + p.w2 + p.w3 ≡ 2 ^ n → (ds : List ℕ) × Digits ds × (length ds ≡ n) × HasAt s ds (spread s p)
reached s n p e =
    let c = corner_of p n e in
    let r = reach n c.0 c.3 in
    (r.0, r.1, r.2, (c.1, c.2, corner_is s r.0 c.1 ∙ ap (λ (a : State). spread s (point_of c.1 a)) r.3 ∙ ap (spread s) c.4))
