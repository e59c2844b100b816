-- The digits of a number, one after the other, and how large it can be. Assumes nothing.
use mathlib.Core.Path.{◌≡◌, refl, sym, ap, subst, ◌∙◌}
use mathlib.Core.Bool.{Bool, true, false}
use mathlib.Core.List.{List, [], ◌∷◌}
use Prim.Native.Nat.{ℕ, ◌+◌, ◌-◌, ◌*◌, ◌^◌, ◌≤◌, ◌<◌}
use native.Mathlib.Nat.{mul-one, one-mul, suc-mul, mul_assoc, mul-le-mul_right, pow-succ', pow-zero}
use native.Mathlib.Numerals.{add-one}
use native.Mathlib.Omega.{arith}
use lib.ListN.{length, drop, get_or, drop_of_length-le, length-drop}
use lib.Dec.{T, ltb, ltb→lt}
use lib.Seq.{drop-cons}
use borrow.Author.Tests.{lt-ltb, le-ltb}
use Rattle.words.proofs.CodeCount.{four_pow}
use Rattle.std.specs.Prelude.{Option, Some, None}
use Rattle.lines.specs.Reading.{digit, grown, next, reads, only, Below, side_read, joined, code}

-- after a byte that is no digit nothing is read
pub reads_wrong : (b : ℕ) (cs : List ℕ) → reads b None cs ≡ None
unfolding reads next
reads_wrong b [] = refl
reads_wrong b (c ∷ cs) = reads_wrong b cs

-- at the end
pub reads_end : (b : ℕ) (r : Option ℕ) (s : List ℕ) (i : ℕ) → length s ≤ i → reads b r (drop i s) ≡ r
unfolding reads
reads_end b r s i h = rw (drop_of_length-le s h)

-- one digit
pub reads_step : (b n d : ℕ) (r : Option ℕ) (s : List ℕ) (i : ℕ) → i < length s → d ≡ digit (get_or s i 0) → r ≡ grown b n d → reads b r (drop (i + 1) s) ≡ reads b (Some n) (drop i s)
unfolding reads next
reads_step b n d r s i h e f = rw (drop-cons s i 0 h) (rw (add-one i, f, e))

-- ---- how large it can be

-- by the test that a bound is kept
pub only_below : (m : ℕ) (t : Bool) (r : Option ℕ) → (T t → Below m r) → Below m (only t r)
only_below m true r h = h tt
only_below m false r h = tt

next_below : (b m : ℕ) (r : Option ℕ) (c : ℕ) → Below m r → Below (m * b) (next b r c)
unfolding next grown
next_below b m None c h = tt
next_below b m (Some n) c h =
    only_below (m * b) (ltb (digit c) b) _ (λ s. only_below (m * b) (ltb (n * b + digit c) (2 ^ 64)) _ (λ _. omega (arith, ltb→lt (digit c) b s, mul-le-mul_right b h, suc-mul n b)))

-- k digits more in base b
pub reads_below : (b m : ℕ) (r : Option ℕ) (cs : List ℕ) → Below m r → Below (m * b ^ length cs) (reads b r cs)
unfolding reads
reads_below b m r [] h = subst (λ (k : ℕ). Below k r) (sym (mul-one m) ∙ ap (λ (k : ℕ). m * k) (sym (pow-zero b))) h
reads_below b m r (c ∷ cs) h =
    subst (λ (k : ℕ). Below k (reads b (next b r c) cs)) (mul_assoc m b (b ^ length cs) ∙ ap (λ (k : ℕ). m * k) (sym (pow-succ' b (length cs))))
    (reads_below b (m * b) (next b r c) cs (next_below b m r c h))

-- a path of n digits
pub path_below : (s : List ℕ) (n : ℕ) (r : Option ℕ) → n ≡ length s - 3 → r ≡ reads 4 (Some 0) (drop 3 s) → Below (2 ^ (2 * n)) r
path_below s n r e f =
    let l : 0 < 1 = omega arith in
    let k : length (drop 3 s) ≡ n = length-drop 3 s ∙ sym e in
    let h : Below (1 * 4 ^ length (drop 3 s)) (reads 4 (Some 0) (drop 3 s)) = reads_below 4 1 (Some 0) (drop 3 s) l in
    let g : 1 * 4 ^ length (drop 3 s) ≡ 2 ^ (2 * n) = one-mul _ ∙ ap (λ (j : ℕ). 4 ^ j) k ∙ four_pow n in
    rw f (subst (λ (j : ℕ). Below j (reads 4 (Some 0) (drop 3 s))) g h)

pub side_below : (a p q : ℕ) (r : Option ℕ) → r ≡ side_read a p q → Below 32 r
unfolding side_read
side_below a p q r e = rw e
    (only_below 32 (ltb a 8) _ (λ h. only_below 32 (ltb p 2) _ (λ k. only_below 32 (ltb q 2) _ (λ l. omega (arith, ltb→lt a 8 h, ltb→lt p 2 k, ltb→lt q 2 l)))))

pub code_short : (s : List ℕ) → length s ≤ 2 → None ≡ code s
unfolding code
code_short s h = simp (le-ltb 2 (length s) h)

pub code_long : (s : List ℕ) → 2 < length s → 28 ≤ length s → None ≡ code s
unfolding code
code_long s h l = simp (lt-ltb 2 (length s) h, le-ltb (length s) 28 l)

pub code_read : (s : List ℕ) (side path : Option ℕ) (a p q : ℕ) → 2 < length s → length s < 28 → a ≡ digit (get_or s 0 0) → p ≡ digit (get_or s 1 0) → q ≡ digit (get_or s 2 0)
    → side ≡ side_read a p q → path ≡ reads 4 (Some 0) (drop 3 s) → joined side (length s - 3) path ≡ code s
unfolding code
code_read s side path a p q h l e f g i j = rw (j, i, e, f, g) (simp (lt-ltb 2 (length s) h, lt-ltb (length s) 28 l))
