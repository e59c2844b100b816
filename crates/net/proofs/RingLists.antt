-- The ring in a lent list: its words, place by place, and how many places there are. Assumes nothing.
use mathlib.Core.Path.{◌≡◌, ◌∙◌, refl, sym, ap}
use mathlib.Core.List.{List, [], ◌∷◌, ◌++◌}
use Prim.Native.Nat.{ℕ, zero, suc, ◌+◌, ◌≤◌, ◌<◌}
use native.Mathlib.Omega.{arith}
use lib.ListN.{length, take, drop, set}
use lib.Seq.{take_all}
use Rattle.frame.specs.Answers.{over}
use Rattle.net.specs.Division.{corner_of}
use Rattle.net.specs.Means.Spreads.{sign}
use Rattle.net.specs.Means.States.{point_of, state_of}
use Rattle.net.specs.Means.Walks.{Place, ring_at, ring_words, word_at}
use Rattle.net.specs.Sides.{IsSide}
use Rattle.net.specs.Steps.{non_zeros, ring_size}
use Rattle.net.specs.declared.Point.{Point}
use Rattle.net.proofs.LeastName.{size_low}
use Rattle.net.proofs.Loads.{corner_is}
use Rattle.net.proofs.RingCodes.{ring_length, ring_word}
use Rattle.net.proofs.Rings.{non_zero_lem, non_zeros_lem, non_zero}
use Rattle.net.proofs.Writing.{over_more}

-- ---- the words, place by place

-- the first
pub ring_first : (m : ℕ) (q : Place) (out : List ℕ) → 1 ≤ m → m ≤ length out → {w : ℕ}
    → w ≡ word_at q
    → set out 0 w ≡ take 1 (ring_words m q) ++ drop 1 (set out 0 w)
unfolding ring_words
ring_first zero q out h l e = absurd (omega arith)
ring_first (suc m) q [] h l e = absurd (omega arith)
ring_first (suc m) q (y ∷ ys) h l e = ap (λ (x : ℕ). x ∷ ys) e

-- one more
pub ring_next : (m : ℕ) (q : Place) (out : List ℕ) → m ≤ length out → (i : ℕ) → i < m
    → {now : List ℕ} {w : ℕ}
    → now ≡ take i (ring_words m q) ++ drop i out → w ≡ word_at (ring_at q i)
    → set now i w ≡ take (i + 1) (ring_words m q) ++ drop (i + 1) out
ring_next m q out l i h e f =
    let n = ring_length m q in
    (λ j. set (e j) i ((f ∙ sym (ring_word m q i h)) j))
    ∙ over_more (ring_words m q) out i (omega arith) (omega arith)

-- all
pub ring_last : (m : ℕ) (q : Place) (out : List ℕ) (w : ℕ) → 1 ≤ m → m ≤ length out
    → take m (ring_words m q) ++ drop m (set out 0 w) ≡ over (ring_words m q) out
ring_last m q out w h l =
    let n = ring_length m q in
    (λ j. take_all m (ring_words m q) (omega arith) j ++ kept m out h l j)
    ∙ ap (λ (k : ℕ). ring_words m q ++ drop k out) (sym n)
  where
    -- places after the first are not changed by it
    kept : (m : ℕ) (out : List ℕ) → 1 ≤ m → m ≤ length out → drop m (set out 0 w) ≡ drop m out
    kept zero out h l = absurd (omega arith)
    kept (suc m) [] h l = absurd (omega arith)
    kept (suc m) (y ∷ ys) h l = refl

-- ---- how many

abbrev pub count_of : Point → ℕ
count_of p = ring_size (sign p.w1 + sign p.w2 + sign p.w3)

pub count_most : (p : Point) {m : ℕ} → m ≡ count_of p → m ≤ 6
count_most p e = rw e (size_low (sign p.w1 + sign p.w2 + sign p.w3))

pub count_least : (p : Point) {m : ℕ} → m ≡ count_of p → 1 ≤ m
count_least p e = rw e (go (sign p.w1 + sign p.w2 + sign p.w3))
  where
    go : (n : ℕ) → 1 ≤ ring_size n
    go zero = omega arith
    go (suc zero) = omega arith
    go (suc (suc n)) = omega arith

pub count_is : (s : ℕ) (ds : List ℕ) (i : ℕ) → IsSide s → ring_size (non_zeros (corner_of s ds i))
    ≡ count_of (point_of i (state_of ds))
count_is s ds i h = ap ring_size (sym (non_zeros_lem (corner_of s ds i)) ∙ ap non_zero (corner_is s ds i)
    ∙ non_zero_lem s (point_of i (state_of ds)) h)
