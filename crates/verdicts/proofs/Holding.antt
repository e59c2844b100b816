-- What is kept of a file of any length: with its next bytes, and that its line needs no more. Assumes nothing.
use mathlib.Core.Path.{◌≡◌, ◌∙◌, refl, sym, ap}
use mathlib.Core.Bool.{true}
use mathlib.Core.Logic.{◌⊎◌, inl, inr, ⊎_elim}
use mathlib.Core.List.{List, [], ◌∷◌, ◌++◌}
use Prim.Native.Nat.{ℕ, ◌+◌, ◌/◌, ◌%◌, ◌≤◌, ◌<◌}
use native.Mathlib.Decide.{dec_le}
use native.Mathlib.Omega.{arith}
use lib.Dec.{eqb}
use lib.ListN.{length, take, drop, length-append, take-append-drop}
use borrow.Author.Tests.{lt-ltb, le-ltb, eq-eqb, ne_eqb}
use Rattle.frame.proofs.Answering.{answers_or_not}
use Rattle.octets.specs.Bytes.{numbers}
use Rattle.octets.proofs.Laying.{read_append}
use Rattle.cells.specs.Checking.{checked}
use Rattle.verdicts.specs.Program.{bad_length_text, too_long_text, verdict_text, text, line}
use Rattle.verdicts.specs.Files.{folded, Holds, TakesIn}
use Rattle.verdicts.specs.Promises.{Reading}

-- ---- the length

folded_small : (n : ℕ) → n ≤ 32768 → folded n ≡ n
unfolding folded
folded_small n l = rw (le-ltb 32768 n l)

folded_large : (n : ℕ) → 32768 < n → folded n ≡ 32776 + n % 8
unfolding folded
folded_large n l = rw (lt-ltb 32768 n l)

small_or_large : (n : ℕ) → (n ≤ 32768) ⊎ (32768 < n)
small_or_large n = go (dec_le n 32768)
  where
    go : Dec (n ≤ 32768) → (n ≤ 32768) ⊎ (32768 < n)
    go (yes l) = inl l
    go (no l) = inr (omega arith)

module _ (n : ℕ) {size : ℕ} (s : size ≡ folded n) where
  -- the remainder by 8 is kept
  pub kept_remainder : size % 8 ≡ n % 8
  kept_remainder =
      ⊎_elim (λ l. ap (λ (k : ℕ). k % 8) (s ∙ folded_small n l))
      (λ l. ap (λ (k : ℕ). k % 8) (s ∙ folded_large n l) ∙ omega arith) (small_or_large n)

  -- and so is a length that the buffer has room for
  pub kept_small : size ≤ 32768 → size ≡ n
  kept_small l =
      ⊎_elim (λ h. s ∙ folded_small n h) (λ h. absurd (omega (arith, l, s, folded_large n h))) (small_or_large n)

  -- and that it has none
  pub kept_large : 32768 < size → 32768 < n
  kept_large l =
      ⊎_elim (λ h. absurd (omega (arith, l, h, s, folded_small n h))) (λ h. h) (small_or_large n)

-- ---- the file

begins : (head : List ℕ) → Holds [] head 0
unfolding folded
begins head = record { sized = refl; front = λ l. refl }

-- the next bytes make the file too long for the buffer
pub past : (next head : List ℕ) (size r : ℕ) → r ≡ 32776 + (size + length next) % 8
    → ((n : ℕ) → size ≡ folded n → 32768 < n + length next) → TakesIn next head size head r
past next head size r e long file h =
    let n = length file in
    let l : 32768 < length (file ++ next) = omega (arith, length-append file next, long n h.sized) in
    let m : (size + length next) % 8 ≡ length (file ++ next) % 8 =
    omega (arith, kept_remainder (length file) h.sized, length-append file next) in
    record {
      sized = e ∙ ap (λ (k : ℕ). 32776 + k) m ∙ sym (folded_large (length (file ++ next)) l);
      front = λ s. absurd (omega (arith, s, l));
    }

-- there is room for them
pub kept : (next old new : List ℕ) (size : ℕ) → size + length next ≤ 32768
    → take (size + length next) new ≡ take size old ++ next → TakesIn next old size new (size + length next)
kept next old new size l w file h =
    let n : size ≡ length file = kept_small (length file) h.sized (omega (arith, l)) in
    let all : length (file ++ next) ≡ size + length next = omega (arith, n, length-append file next) in
    let f : take size old ≡ file = ap (λ (k : ℕ). take k old) n ∙ h.front (omega (arith, l, n)) in
    record {
      sized = sym all ∙ sym (folded_small (length (file ++ next)) (omega (arith, all, l)));
      front = λ s. ap (λ (k : ℕ). take k new) all ∙ w ∙ ap (λ (x : List ℕ). x ++ next) f;
    }

-- ---- its text

module _ {file head : List ℕ} {size : ℕ} (h : Holds file head size) where
  pub text_bad : (size % 8 ≡ 0 → ⊥) → bad_length_text ≡ text file
  unfolding text
  text_bad n = rw (ne_eqb (length file % 8) 0 (λ e. n (kept_remainder (length file) h.sized ∙ e)))

  whole : size % 8 ≡ 0 → eqb (length file % 8) 0 ≡ true
  whole e = eq-eqb (length file % 8) 0 (sym (kept_remainder (length file) h.sized) ∙ e)

  pub text_long : size % 8 ≡ 0 → 4096 < size / 8 → too_long_text ≡ text file
  unfolding text
  text_long e l =
      let m : 32768 < length file = kept_large (length file) h.sized (omega (arith, e, l)) in
      let k : length file % 8 ≡ 0 = sym (kept_remainder (length file) h.sized) ∙ e in
      rw (whole e, lt-ltb 4096 (length file / 8) (omega (arith, m, k)))

  pub text_checked : size % 8 ≡ 0 → size / 8 ≤ 4096 → verdict_text (checked (numbers 8 (size / 8) head)) ≡ text file
  unfolding text
  text_checked e l =
      let n : size ≡ length file = kept_small (length file) h.sized (omega (arith, e, l)) in
      let f : take size head ≡ file = ap (λ (k : ℕ). take k head) n ∙ h.front (omega (arith, n, e, l)) in
      let split : head ≡ file ++ drop size head =
      sym (take-append-drop size head) ∙ ap (λ (x : List ℕ). x ++ drop size head) f in
      let same : numbers 8 (size / 8) head ≡ numbers 8 (length file / 8) file =
      ap (numbers 8 (size / 8)) split
      ∙ read_append (λ w. w) 8 (size / 8) file (drop size head) (omega (arith, n))
      ∙ ap (λ (k : ℕ). numbers 8 (k / 8) file) n in
      rw (whole e, le-ltb 4096 (length file / 8) (omega (arith, sym n, l)))
      (ap (λ (ws : List ℕ). verdict_text (checked ws)) same)

decides : (file file' head : List ℕ) (size : ℕ) → Holds file head size → Holds file' head size
    → line file ≡ line file'
decides file file' head size h h' =
    ap (λ (t : List ℕ). t ++ (10 ∷ [])) (go (answers_or_not (size % 8)) (dec_le (size / 8) 4096))
  where
    go : (size % 8 ≡ 0) ⊎ (size % 8 ≡ 0 → ⊥) → Dec (size / 8 ≤ 4096) → text file ≡ text file'
    go (inr n) l = sym (text_bad h n) ∙ text_bad h' n
    go (inl e) (no n) =
        let l : 4096 < size / 8 = omega (arith, n) in sym (text_long h e l) ∙ text_long h' e l
    go (inl e) (yes l) = sym (text_checked h e l) ∙ text_checked h' e l

pub reading : Reading
reading = record { begins = begins; decides = decides }
