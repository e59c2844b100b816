-- The refusals of mending, in turn. Assumes nothing.
use mathlib.Core.Path.{◌≡◌}
use mathlib.Core.List.{List, [], ◌∷◌}
use Prim.Native.Nat.{ℕ, ◌≤◌, ◌<◌}
use borrow.Author.Tests.{lt-ltb, le-ltb}
use lib.Dec.{ltb}
use lib.ListN.{length}
use Rattle.frame.specs.Refusals.{◌when◌, order}
use Rattle.frame.proofs.Refusing.{First, nothing, here, next, refuse_first}
use Rattle.mending.specs.Answers.{Lists, refuse_mend}

module _ (ws : List ℕ) (l : Lists) where
  abbrev n : ℕ
  n = length ws

  in_turn_lem : {k : ℕ}
      → First (32 when ltb 4096 n ∷ 9 when ltb (length l.out) n ∷ 9 when ltb (length l.words) n
      ∷ 9 when ltb (length l.reasons) n ∷ []) k
      → k ≡ refuse_mend ws l
  unfolding refuse_mend
  in_turn_lem f = refuse_first (32 ∷ order) _ tt f

  pub refuse_long : 4096 < n → 32 ≡ refuse_mend ws l
  refuse_long h = in_turn_lem (here (lt-ltb 4096 n h))

  module _ (a : n ≤ 4096) where
    pub refuse_out : length l.out < n → 9 ≡ refuse_mend ws l
    refuse_out h = in_turn_lem (next (le-ltb 4096 n a) (here (lt-ltb _ n h)))

    module _ (b : n ≤ length l.out) where
      pub refuse_words : length l.words < n → 9 ≡ refuse_mend ws l
      refuse_words h = in_turn_lem (next (le-ltb 4096 n a) (next (le-ltb _ n b) (here (lt-ltb _ n h))))

      module _ (c : n ≤ length l.words) where
        pub refuse_reasons : length l.reasons < n → 9 ≡ refuse_mend ws l
        refuse_reasons h =
            in_turn_lem (next (le-ltb 4096 n a) (next (le-ltb _ n b) (next (le-ltb _ n c) (here (lt-ltb _ n h)))))

        pub refuse_none : n ≤ length l.reasons → 0 ≡ refuse_mend ws l
        refuse_none d =
            in_turn_lem (next (le-ltb 4096 n a) (next (le-ltb _ n b) (next (le-ltb _ n c) (next (le-ltb _ n d) nothing))))
