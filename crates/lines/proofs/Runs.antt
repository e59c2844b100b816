-- A run of separators, or of bytes that are none: byte by byte. Assumes nothing.
use mathlib.Core.Path.{◌≡◌}
use mathlib.Core.Bool.{Bool, true, false, beq}
use mathlib.Core.List.{List}
use Prim.Native.Nat.{ℕ, ◌+◌, ◌≤◌, ◌<◌}
use native.Mathlib.Numerals.{add-one}
use lib.ListN.{length, get_or, drop, drop_of_length-le}
use lib.Seq.{drop-cons}
use Rattle.lines.specs.Splitting.{separator, run}

-- at the end
pub run_end : (b : Bool) (s : List ℕ) (i : ℕ) → length s ≤ i → run b (drop i s) ≡ 0
unfolding run
run_end b s i h = rw (drop_of_length-le s h)

module _ (b : Bool) (s : List ℕ) (i : ℕ) (h : i < length s) where
  -- at a byte of the other kind
  pub run_other : beq (separator (get_or s i 0)) b ≡ false → run b (drop i s) ≡ 0
  unfolding run
  run_other e = rw (drop-cons s i 0 h) (rw e)

  -- past a byte of the kind
  pub run_byte : beq (separator (get_or s i 0)) b ≡ true → run b (drop i s) ≡ run b (drop (i + 1) s) + 1
  unfolding run
  run_byte e = rw (drop-cons s i 0 h) (rw (e, add-one i, add-one))
