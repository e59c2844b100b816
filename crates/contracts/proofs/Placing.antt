-- Text after text: what two writers leave, one after the other, is what one writer of both texts leaves. Assumes nothing.
use mathlib.Core.Path.{◌≡◌, refl, sym, ap, ◌∙◌}
use mathlib.Core.List.{List, [], ◌∷◌, ◌++◌, append_assoc, append-nil}
use Prim.Native.Nat.{ℕ, ◌+◌, ◌≤◌, ◌<◌}
use native.Mathlib.Nat.{add-zero, add_assoc}
use native.Mathlib.Numerals.{add-one}
use native.Mathlib.Omega.{arith}
use lib.ListN.{length, take, drop, set, get_or, length-append, take-append-drop}
use lib.Seq.{take_at, drop_at, drop-drop, set_split, append_snoc, take-suc, length-take-le}
use Rattle.lines.specs.Writing.{Wrote}

-- no text
pub wrote_none : (most at : ℕ) (old : List ℕ) → Wrote most [] at at old old
wrote_none most at old = record { place = omega arith; within = omega arith; contents = rw (add-zero at, append-nil (take at old), take-append-drop at old) }

-- one byte
pub wrote_one : (c at : ℕ) (old : List ℕ) → at < length old → Wrote 1 (c ∷ []) at (at + 1) old (set old at c)
wrote_one c at old h = record { place = refl; within = omega arith; contents = rw (add-one at) (set_split old at c h ∙ sym (append_snoc (take at old) c _)) }

module _ {most₁ most₂ at mid end : ℕ} {t₁ t₂ old new₁ new₂ : List ℕ} (h : at ≤ length old)
    (a : Wrote most₁ t₁ at mid old new₁) (b : Wrote most₂ t₂ mid end new₁ new₂) where
  front_length : length (take at old ++ t₁) ≡ mid
  front_length = simp (length-append, length-take-le at old h) (omega (arith, a.place))

  front : take mid new₁ ≡ take at old ++ t₁
  front = ap (take mid) a.contents ∙ take_at _ _ mid front_length

  lengths : at + length t₁ + length t₂ ≡ at + length (t₁ ++ t₂)
  lengths = omega (arith, length-append t₁ t₂)

  back : drop (mid + length t₂) new₁ ≡ drop (at + length (t₁ ++ t₂)) old
  back = sym (drop-drop (length t₂) mid new₁) ∙ ap (λ (l : List ℕ). drop (length t₂) (drop mid l)) a.contents
      ∙ ap (drop (length t₂)) (drop_at (take at old ++ t₁) _ mid front_length)
      ∙ drop-drop (length t₂) (at + length t₁) old
      ∙ ap (λ (n : ℕ). drop n old) lengths

  -- two texts
  pub wrote_both : Wrote (most₁ + most₂) (t₁ ++ t₂) at end old new₂
  wrote_both = record {
    place = omega (arith, a.place, b.place, length-append t₁ t₂);
    within = omega (arith, a.within, b.within);
    contents = b.contents ∙ ap (λ (l : List ℕ). l ++ t₂ ++ drop (mid + length t₂) new₁) front ∙ ap (λ (l : List ℕ). take at old ++ t₁ ++ t₂ ++ l) back ∙ ap (λ (l : List ℕ). l ++ drop (at + length (t₁ ++ t₂)) old) (append_assoc (take at old) t₁ t₂);
  }

-- with another bound
pub wrote_within : {most : ℕ} (more : ℕ) {at r : ℕ} {text old new : List ℕ} → Wrote most text at r old new → r ≤ at + more → Wrote more text at r old new
wrote_within more w h = record { place = w.place; within = h; contents = w.contents }

-- the text by another name
pub wrote_text : {most at r : ℕ} {text other old new : List ℕ} → text ≡ other → Wrote most text at r old new → Wrote most other at r old new
wrote_text e w = rw e at w

-- a text, byte by byte: none of it
pub wrote_begun : (most at : ℕ) (old : List ℕ) → Wrote most [] at (at + 0) old old
wrote_begun most at old = rw (add-zero at) (wrote_none most at old)

-- and one byte more
pub wrote_next : (text : List ℕ) (i at : ℕ) (old new : List ℕ) → at + length text ≤ length old → i < length text → length new ≡ length old
    → Wrote (length text) (take i text) at (at + i) old new
    → Wrote (length text) (take (i + 1) text) at (at + (i + 1)) old (set new (at + i) (get_or text i 0))
wrote_next text i at old new h l e w =
    let b : Wrote (length text + 1) (take i text ++ (get_or text i 0 ∷ [])) at (at + i + 1) old (set new (at + i) (get_or text i 0)) = wrote_both (omega arith) w (wrote_one (get_or text i 0) (at + i) new (omega arith)) in
    let t : take i text ++ (get_or text i 0 ∷ []) ≡ take (i + 1) text = rw (add-one i) (sym (take-suc text i 0 l)) in
    rw (← add_assoc at i 1) (wrote_text t (wrote_within (length text) b (omega arith)))

-- what one writer left, as the text that is asked for
pub wrote_as : {m₁ most at r : ℕ} {t₁ text old new : List ℕ} → t₁ ≡ text → m₁ ≤ most → Wrote m₁ t₁ at r old new → Wrote most text at r old new
wrote_as {m₁} {most} e l w = wrote_within most (wrote_text e w) (omega (arith, w.within))

-- what two writers left, as the text that is asked for
pub wrote_after : {m₁ m₂ most at mid end : ℕ} {t₁ t₂ text old new₁ new₂ : List ℕ} → t₁ ++ t₂ ≡ text → m₁ + m₂ ≤ most → at ≤ length old
    → Wrote m₁ t₁ at mid old new₁ → Wrote m₂ t₂ mid end new₁ new₂ → Wrote most text at end old new₂
wrote_after e l h a b = wrote_as e l (wrote_both h a b)
