-- Lists of words read from bytes and written as bytes, eight for each, one word after the other. Assumes nothing.
use mathlib.Core.Path.{◌≡◌, ◌∙◌, refl, sym, ap}
use mathlib.Core.List.{List, [], ◌∷◌, ◌++◌, append-nil}
use Prim.Native.Nat.{ℕ, suc, ◌+◌, ◌-◌, ◌*◌, ◌≤◌, ◌<◌}
use native.Mathlib.Omega.{arith}
use lib.ListN.{length, get_or, take, drop, set, length-drop}
use lib.Seq.{take_all, take_at, take-suc, length-take-le}
use borrow.Rule.Slice.PartMut.{put_mid}
use Rattle.frame.specs.Answers.{over}
use Rattle.frame.proofs.Lengths.{two_parts, over_next}
use Rattle.octets.specs.Bytes.{bytes_of, bytes, number_at, read_each, numbers}
use Rattle.octets.proofs.Laying.{bytes_long, bytes_append, as_long, read_long, read_next}

-- the part from a place on
pub rest : (bs : List ℕ) (k : ℕ) → k ≤ length bs → take (length bs - k) (drop k bs) ≡ drop k bs
rest bs k l = take_all (length bs - k) (drop k bs) (omega (arith, length-drop k bs))

-- ---- read

module _ (bytes old : List ℕ) where
  pub none_read : old ≡ over (numbers 8 0 bytes) old
  unfolding read_each
  none_read = refl

  pub one_more : (i : ℕ) {now : List ℕ} {w : ℕ} → i < length old → now ≡ over (numbers 8 i bytes) old
      → w ≡ number_at 8 bytes i → set now i w ≡ over (numbers 8 (i + 1) bytes) old
  one_more i {now} {w} l e f =
      let s : suc i ≡ i + 1 = omega arith in
      ap (λ (x : List ℕ). set x i w) e
      ∙ over_next (numbers 8 i bytes) old w i (read_long (λ w. w) 8 i bytes) l
      ∙ ap (λ (x : ℕ). over (numbers 8 i bytes ++ (x ∷ [])) old) f
      ∙ ap (λ (x : List ℕ). over x old) (sym (read_next (λ w. w) 8 i bytes))
      ∙ ap (λ (k : ℕ). over (numbers 8 k bytes) old) s

  pub all_read : (n i : ℕ) {now : List ℕ} → i ≡ n → now ≡ over (numbers 8 i bytes) old
      → take n now ≡ numbers 8 n bytes
  all_read n i e f =
      ap (take n) (f ∙ ap (λ (k : ℕ). over (numbers 8 k bytes) old) e)
      ∙ take_at (numbers 8 n bytes) _ n (read_long (λ w. w) 8 n bytes)

-- ---- written

pub bytes_more : (ws : List ℕ) (w : ℕ) → bytes 8 ws ++ bytes_of 8 w ≡ bytes 8 (ws ++ (w ∷ []))
unfolding bytes
bytes_more ws w =
    ap (λ (l : List ℕ). bytes 8 ws ++ l) (sym (append-nil (bytes_of 8 w))) ∙ sym (bytes_append 8 ws (w ∷ []))

module _ (ws old : List ℕ) where
  pub none_written : old ≡ over (bytes 8 (take 0 ws)) old
  unfolding bytes
  none_written = refl

  module _ (i : ℕ) {mid : List ℕ} (l : i ≤ length ws) (e : mid ≡ over (bytes 8 (take i ws)) old) where
    size : length (bytes 8 (take i ws)) ≡ 8 * i
    size = bytes_long 8 (take i ws) ∙ ap (λ (k : ℕ). 8 * k) (length-take-le i ws l)

    pub written_long : 8 * i ≤ length old → length mid ≡ length old
    written_long h = ap length e ∙ as_long 8 (take i ws) old (omega (arith, h, length-take-le i ws l))

    pub one_written : {late : List ℕ} → i < length ws
        → late ≡ over (bytes_of 8 (get_or ws i 0)) (take (length mid - 8 * i) (drop (8 * i) mid))
        → put_mid (8 * i) (length mid - 8 * i) mid late ≡ over (bytes 8 (take (i + 1) ws)) old
    one_written {late} m f =
        let s : suc i ≡ i + 1 = omega arith in
        two_parts old mid late (bytes 8 (take i ws)) (bytes_of 8 (get_or ws i 0)) (8 * i) size e f
        ∙ ap (λ (bs : List ℕ). over bs old) (bytes_more (take i ws) (get_or ws i 0))
        ∙ ap (λ (l : List ℕ). over (bytes 8 l) old) (sym (take-suc ws i 0 m))
        ∙ ap (λ (k : ℕ). over (bytes 8 (take k ws)) old) s
