-- The least side that holds a direction, and the least code below it. Assumes nothing.
use mathlib.Core.Path.{◌≡◌}
use Prim.Native.Nat.{ℕ, zero, suc, ◌+◌, ◌*◌, ◌^◌, ◌≤◌, ◌<◌}
use native.Mathlib.Omega.{arith}
use native.Mathlib.Nat.{pow-suc}
use Rattle.words.specs.Words.{word_of}
use Rattle.words.specs.Family.{code_of}
use Rattle.net.specs.Sides.{IsSide}
use Rattle.filing.specs.Filing.{IsFiled}
use Rattle.filing.specs.Means.Descent.{child_dets, holds, least_child, descent}
use Rattle.filing.specs.Means.Sides.{side_dets, least_from}
use Rattle.filing.specs.declared.Direction.{Direction}
use Rattle.filing.specs.declared.Determinants.{Determinants}
use Rattle.filing.proofs.Tests.{First, first_is, test_holds, holds_test, digit_small}
use Rattle.filing.proofs.LeastCode.{descent_filed}
use Rattle.filing.proofs.Cover.{cover}

-- ---- the side that is found

found : (d : Direction) → First (λ s. holds (side_dets d s)) 4 23 (least_from d 4)
unfolding least_from
found d =
    let c = cover d in
    first_is 19 4 (λ s. holds (side_dets d s)) c.0 (omega (arith, c.1.0)) (omega (arith, c.1.1))
    (holds_test (side_dets d c.0) c.2)

pub found_side : (d : Direction) → IsSide (least_from d 4)
found_side d = (omega (arith, (found d).low), omega (arith, (found d).high))

pub found_code : (n : ℕ) (d : Direction) → n ≤ 24 → IsFiled n d
    (code_of (word_of (least_from d 4) n (descent n (side_dets d (least_from d 4)) 0)))
unfolding side_dets
found_code n d h =
    descent_filed n d (least_from d 4) (found_side d) h (test_holds (side_dets d (least_from d 4)) (found d).passes)
    (λ t i a. (found d).least t i.0 (holds_test (side_dets d t) a))

-- ---- sizes

pub descent_low : (n : ℕ) (D : Determinants) (v c : ℕ) → v < 2 ^ (2 * c) → descent n D v < 2 ^ (2 * (c + n))
unfolding descent
descent_low zero D v c h = let e : c + 0 ≡ c = omega arith in rw e h
descent_low (suc n) D v c h =
    let e : c + suc n ≡ suc c + n = omega arith in
    let f : 2 * suc c ≡ suc (suc (2 * c)) = omega arith in
    rw e (descent_low n (child_dets (least_child D) D) (4 * v + least_child D) (suc c)
    (rw f (omega (arith, h, digit_small D, pow-suc 2 (suc (2 * c)), pow-suc 2 (2 * c)))))
