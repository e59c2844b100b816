-- Text after text. Assumes nothing.
use mathlib.Core.Path.{◌≡◌, ap, sym, ◌∙◌}
use mathlib.Core.List.{List, [], ◌++◌, append_assoc, append-nil}
use Prim.Native.Nat.{ℕ}

-- none
pub appended_none : (old : List ℕ) {text : List ℕ} → [] ≡ text → old ≡ old ++ text
appended_none old e = sym (append-nil old) ∙ ap (λ (t : List ℕ). old ++ t) e

-- one, by another name
pub appended_as : (old : List ℕ) {new t text : List ℕ} → t ≡ text → new ≡ old ++ t → new ≡ old ++ text
appended_as old e f = f ∙ ap (λ (t : List ℕ). old ++ t) e

-- two, one after the other
pub appended_after : (old : List ℕ) {mid new text : List ℕ} (t u : List ℕ) → t ++ u ≡ text → mid ≡ old ++ t → new ≡ mid ++ u → new ≡ old ++ text
appended_after old t u e f g =
    g ∙ ap (λ (l : List ℕ). l ++ u) f ∙ append_assoc old t u ∙ ap (λ (l : List ℕ). old ++ l) e
