-- The refusals of the whole sweep by their tests, and when there is none. Assumes nothing.
use mathlib.Core.Path.{◌≡◌, ap}
use mathlib.Core.Bool.{not}
use mathlib.Core.List.{List, ◌++◌}
use Prim.Native.Nat.{ℕ, ◌/◌, ◌%◌, ◌≤◌, ◌<◌}
use lib.Dec.{eqb}
use lib.IntN.{ℤ}
use lib.ListN.{length}
use borrow.Author.Tests.{ltb-false, lt-ltb, le-ltb, eqb-true, eq-eqb, ne_eqb, not-false}
use Rattle.frame.specs.Refusals.{Row, order}
use Rattle.frame.proofs.Refusing.{refuse_first, here, next, nothing, none_so, either_left, either_right, either_false}
use Rattle.words.specs.Refusals.{degree_rows}
use Rattle.sweeps.specs.Refusals.{length_rows, refuse_sweep}

module _ (n : ℕ) (dirs : List ℤ) (out : List ℕ) where
  abbrev rows : List Row
  rows = degree_rows n ++ length_rows (length dirs) (length out)

  pub refuse_degree : 24 < n → 1 ≡ refuse_sweep n dirs out
  unfolding refuse_sweep
  refuse_degree l = refuse_first order rows tt (here (lt-ltb _ _ l))

  module _ (low : n ≤ 24) where
    pub refuse_threes : (length dirs % 3 ≡ 0 → ⊥) → 9 ≡ refuse_sweep n dirs out
    unfolding refuse_sweep
    refuse_threes e = refuse_first order rows tt
        (next (le-ltb _ _ low) (here (either_left _ _ (ap not (ne_eqb _ _ e)))))

    pub refuse_short : length out < length dirs / 3 → 9 ≡ refuse_sweep n dirs out
    unfolding refuse_sweep
    refuse_short l = refuse_first order rows tt
        (next (le-ltb _ _ low) (here (either_right (not (eqb (length dirs % 3) 0)) _ (lt-ltb _ _ l))))

    pub refuse_none : length dirs % 3 ≡ 0 → length dirs / 3 ≤ length out → 0 ≡ refuse_sweep n dirs out
    unfolding refuse_sweep
    refuse_none e l = refuse_first order rows tt
        (next (le-ltb _ _ low) (next ((either_false _ _).1 (ap not (eq-eqb _ _ e), le-ltb _ _ l)) nothing))

  -- ---- when nothing is refused

  pub record Fine : Type 0 where
    pub low : n ≤ 24
    pub threes : length dirs % 3 ≡ 0
    pub room : length dirs / 3 ≤ length out

  pub fine : refuse_sweep n dirs out ≡ 0 → Fine
  unfolding refuse_sweep
  fine z =
      let s = (none_so order rows tt).0 z in
      let b = (either_false (not (eqb (length dirs % 3) 0)) _).0 s.1.0 in
      record { low = ltb-false _ _ s.0; threes = eqb-true _ _ (not-false _ b.0); room = ltb-false _ _ b.1 }
