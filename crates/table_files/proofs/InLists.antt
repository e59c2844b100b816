-- The numbers of a list, read from bytes and written as bytes, eight for each, one after the other. Assumes nothing.
use mathlib.Core.Path.{◌≡◌, ◌∙◌, refl, sym, ap}
use mathlib.Core.List.{List, [], ◌∷◌, ◌++◌, append-nil}
use Prim.Native.Nat.{ℕ, suc, ◌+◌, ◌-◌, ◌*◌, ◌<◌}
use native.Mathlib.Omega.{arith}
use lib.ListN.{length, take, drop, set, drop_of_length-le}
use borrow.Rule.Slice.PartMut.{put_mid}
use Rattle.frame.specs.Answers.{over}
use Rattle.frame.proofs.Lengths.{two_parts, over_next}
use Rattle.octets.specs.Bytes.{bytes_of, bytes, number_at, read_each}
use Rattle.octets.proofs.Laying.{bytes_long, bytes_append, read_long, read_next, laid_next}

-- ---- read, as f reads each

module _ {A : Type 0} (f : ℕ → A) (bs : List ℕ) (old : List A) where
  pub none_read : old ≡ over (read_each f 8 0 bs) old
  unfolding read_each
  none_read = refl

  pub one_more : (i : ℕ) {now : List A} {x : A} → i < length old → now ≡ over (read_each f 8 i bs) old
      → x ≡ f (number_at 8 bs i) → set now i x ≡ over (read_each f 8 (i + 1) bs) old
  one_more i {now} {x} l e g =
      let s : suc i ≡ i + 1 = omega arith in
      ap (λ (y : List A). set y i x) e
      ∙ over_next (read_each f 8 i bs) old x i (read_long f 8 i bs) l
      ∙ ap (λ (y : A). over (read_each f 8 i bs ++ (y ∷ [])) old) g
      ∙ ap (λ (y : List A). over y old) (sym (read_next f 8 i bs))
      ∙ ap (λ (k : ℕ). over (read_each f 8 k bs) old) s

  -- as many as the list has places
  pub all_read : (i : ℕ) {now : List A} → i ≡ length old → now ≡ over (read_each f 8 i bs) old
      → now ≡ read_each f 8 (length old) bs
  all_read i e g =
      let xs = read_each f 8 (length old) bs in
      let long = read_long f 8 (length old) bs in
      g ∙ ap (λ (k : ℕ). over (read_each f 8 k bs) old) e
      ∙ ap (λ (y : List A). xs ++ y) (drop_of_length-le old {i = length xs} (omega (arith, long)))
      ∙ append-nil xs

-- ---- written: a number, a list after it, and another after that

module _ (n : ℕ) (rs os out : List ℕ) {mid : List ℕ} (e : mid ≡ over (bytes_of 8 n) out) {late : List ℕ}
    (f : late ≡ over (bytes 8 rs) (take (length mid - 8) (drop 8 mid))) where
  two_written : put_mid 8 (length mid - 8) mid late ≡ over (bytes 8 (n ∷ rs)) out
  two_written = laid_next 8 n rs out mid late e f

  pub all_written : (k : ℕ) {last : List ℕ} → k ≡ 8 * (1 + length rs)
      → let two = put_mid 8 (length mid - 8) mid late in
      last ≡ over (bytes 8 os) (take (length two - k) (drop k two))
      → put_mid k (length two - k) two last ≡ over (bytes 8 (n ∷ (rs ++ os))) out
  all_written k {last} j g =
      two_parts out _ last (bytes 8 (n ∷ rs)) (bytes 8 os) k (bytes_long 8 (n ∷ rs) ∙ omega (arith, j)) two_written g
      ∙ ap (λ (bs : List ℕ). over bs out) (sym (bytes_append 8 (n ∷ rs) os))
