-- A triangle code is a side and digits, and the other way round. Assumes nothing.
use mathlib.Core.Path.{◌≡◌, ◌∙◌, refl, sym, ap}
use mathlib.Core.List.{List}
use Prim.Native.Nat.{ℕ, ◌≤◌}
use lib.ListN.{length}
use Rattle.words.proofs.Codes.{Has, code_word, made}
use Rattle.words.proofs.Digits.{digits_are}
use Rattle.words.specs.Family.{code_of}
use Rattle.words.specs.Refusals.{IsCode}
use Rattle.words.specs.Words.{degree_of, digits, path, side_of, word_of}
use Rattle.words.specs.declared.TriangleCode.{TriangleCode}
use Rattle.net.specs.Corners.{HasCorner, corner}
use Rattle.net.specs.Division.{Weights, corner_of}
use Rattle.net.specs.Sides.{IsSide}
use Rattle.net.proofs.Loads.{HasAt}
use Rattle.net.proofs.Paths.{Digits, are_digits_lem, are_length}

-- the digits of a code
abbrev pub digits_in : TriangleCode → List ℕ
digits_in t = digits t.0 (degree_of t.0)

-- the code of a side and digits
abbrev pub code_for : (s : ℕ) (ds : List ℕ) → TriangleCode
code_for s ds = code_of (word_of s (length ds) (path ds))

pub corner_at : (t : TriangleCode) (i : ℕ) → corner t i ≡ corner_of (side_of t.0) (digits_in t) i
unfolding corner
corner_at t i = refl

pub has_at : (t : TriangleCode) (p : Weights) → HasCorner t p → HasAt (side_of t.0) (digits_in t) p
has_at t p h = (h.0, h.1, sym (corner_at t h.0) ∙ h.2)

pub at_has : (t : TriangleCode) (p : Weights) → HasAt (side_of t.0) (digits_in t) p → HasCorner t p
at_has t p h = (h.0, h.1, corner_at t h.0 ∙ h.2)

module _ {n : ℕ} {t : TriangleCode} (c : IsCode n t) where
  pub in_digits : Digits (digits_in t)
  in_digits = are_digits_lem (digits_are t.0 (degree_of t.0))

  pub in_length : length (digits_in t) ≡ n
  in_length = are_length (digits_are t.0 (degree_of t.0)) ∙ c.degree_is

  pub code_for_lem : t ≡ code_for (side_of t.0) (digits_in t)
  code_for_lem =
      let d : degree_of t.0 ≡ n = c.degree_is in
      let l : length (digits_in t) ≡ n = in_length in
      let e : t.0 ≡ word_of (side_of t.0) (length (digits_in t)) (path (digits_in t)) = code_word c ∙ (λ i. word_of (side_of t.0) (sym l i) (path (digits t.0 (sym d i)))) in
      λ i. code_of (e i)

  -- the same from the side and digits that it has
  pub code_is : {s : ℕ} {ds : List ℕ} → side_of t.0 ≡ s → digits_in t ≡ ds → t ≡ code_for s ds
  code_is e f = code_for_lem ∙ (λ i. code_for (e i) (f i))

module _ (s : ℕ) (ds : List ℕ) (hs : IsSide s) (hd : Digits ds) (short : length ds ≤ 24) where
  for : Has s (length ds) ds (code_for s ds)
  for = made s (length ds) hs.0 hs.1 short hd

  pub for_code : IsCode (length ds) (code_for s ds)
  for_code = for.code

  pub for_side : side_of (code_for s ds).0 ≡ s
  for_side = for.side

  pub for_digits : digits_in (code_for s ds) ≡ ds
  for_digits = ap (digits (code_for s ds).0) for.code.degree_is ∙ for.digits_are

  pub for_corner : (i : ℕ) → corner (code_for s ds) i ≡ corner_of s ds i
  for_corner i = corner_at (code_for s ds) i ∙ (λ j. corner_of (for_side j) (for_digits j) i)
