-- The codes of one degree are ordered as numbers by their sides and then by their digits, the first first. Assumes nothing.
use mathlib.Core.Path.{◌≡◌, subst}
use mathlib.Core.Logic.{◌↔◌, ◌⊎◌, inl, inr, ⊎_elim}
use mathlib.Core.List.{List, ◌∷◌}
use Prim.Native.Nat.{ℕ, ◌<◌}
use native.Mathlib.Omega.{arith}
use Rattle.words.specs.Words.{large, digits, side_of, path}
use Rattle.words.specs.Refusals.{IsCode}
use Rattle.words.specs.declared.TriangleCode.{TriangleCode}
use Rattle.words.proofs.WordLayout.{lex}
use Rattle.words.proofs.Digits.{AreDigits, none, more, digits_are, path_injective, large_roomy}
use Rattle.words.proofs.FormCodes.{codes_order}
use Rattle.words.proofs.Codes.{code_passes}

-- Of two lists of digits, the last first, the one comes before the other: the first digit in which they differ decides.
pub data Before : List ℕ → List ℕ → Type 0 where
  at_last : {d d' : ℕ} {ds : List ℕ} → d < d' → Before (d ∷ ds) (d' ∷ ds)
  earlier : {d d' : ℕ} {ds ds' : List ℕ} → Before ds ds' → Before (d ∷ ds) (d' ∷ ds')

to_path : {n : ℕ} {ds es : List ℕ} → Before ds es → AreDigits n ds → AreDigits n es → path ds < path es
unfolding path
to_path (at_last l) a b = omega arith
to_path (earlier l) (more h a) (more k b) = omega (arith, to_path l a b)

from_path : {n : ℕ} {ds es : List ℕ} → AreDigits n ds → AreDigits n es → path ds < path es → Before ds es
unfolding path
from_path none none l = absurd (omega arith)
from_path (more {d = d} {ds = ds} h a) (more {d = e} {ds = es} k b) l =
    ⊎_elim (λ g. earlier (from_path a b g)) (λ p. subst (λ (fs : List ℕ). Before (d ∷ ds) (e ∷ fs)) (path_injective a b p.0) (at_last p.1))
    ((lex 4 (path ds) d (path es) e (omega arith) (omega arith)).0 (omega arith))

pub before_path : {n : ℕ} {ds es : List ℕ} → AreDigits n ds → AreDigits n es → Before ds es ↔ (path ds < path es)
before_path a b = (λ l. to_path l a b, from_path a b)

module _ {n : ℕ} {t t' : TriangleCode} (c : IsCode n t) (c' : IsCode n t') where
  pub order_by_path :
      (t.0 < t'.0) ↔ ((side_of t.0 < side_of t'.0)
      ⊎ ((side_of t.0 ≡ side_of t'.0) × (path (digits t.0 n) < path (digits t'.0 n))))
  order_by_path =
      codes_order large large_roomy ((code_passes t).0 c.passes) ((code_passes t').0 c'.passes) n c.degree_is
      c'.degree_is

  pub order_by_digits :
      (t.0 < t'.0) ↔ ((side_of t.0 < side_of t'.0) ⊎ ((side_of t.0 ≡ side_of t'.0) × Before (digits t.0 n) (digits t'.0 n)))
  order_by_digits =
      let b = before_path (digits_are t.0 n) (digits_are t'.0 n) in
      (λ h. ⊎_elim inl (λ p. inr (p.0, b.1 p.1)) (order_by_path.0 h), λ h. order_by_path.1 (⊎_elim inl (λ p. inr (p.0, b.0 p.1)) h))
