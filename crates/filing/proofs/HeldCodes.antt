-- Whether a triangle code holds a direction, by its side and path. Assumes nothing.
use mathlib.Core.Path.{◌≡◌, sym, ◌∙◌, ap, subst}
use mathlib.Core.Logic.{◌↔◌}
use mathlib.Core.List.{List, []}
use Prim.Native.Nat.{ℕ, ◌*◌, ◌^◌, ◌≤◌, ◌<◌}
use Rattle.words.specs.Words.{degree_of, digits, path, side_of, word_of}
use Rattle.words.specs.Family.{code_of}
use Rattle.words.specs.Refusals.{IsCode}
use Rattle.words.specs.declared.TriangleCode.{TriangleCode}
use Rattle.words.proofs.Digits.{digits_are, path_lt}
use Rattle.words.proofs.Codes.{Has, code_side, code_word, made}
use Rattle.net.specs.Sides.{IsSide}
use Rattle.net.specs.Division.{Triangle, triangle, corner_of, triangle_at}
use Rattle.net.specs.Corners.{corner}
use Rattle.net.specs.Means.Paths.{digits_of}
use Rattle.net.proofs.Paths.{digits_of_lem, path_of}
use Rattle.filing.specs.Holding.{along, determinants, AllNonNeg, Holds}
use Rattle.filing.specs.declared.Direction.{Direction}
use Rattle.filing.proofs.Recurrence.{below, dets_below}

-- the three corners of a code, as `Holds` has them
abbrev pub corners_of : TriangleCode → Triangle
corners_of t = triangle (corner t 1) (corner t 2) (corner t 3)

-- by the side and digits in the word
pub code_triangle : {n : ℕ} (t : TriangleCode) → degree_of t.0 ≡ n → corners_of t ≡ triangle_at (side_of t.0) (digits t.0 n)
unfolding corner corner_of
code_triangle t e = ap (λ (n : ℕ). triangle_at (side_of t.0) (digits t.0 n)) e

-- of a code that is made from them
pub made_triangle : {s n : ℕ} {ds : List ℕ} {t : TriangleCode} → Has s n ds t → corners_of t ≡ triangle_at s ds
made_triangle {t = t} h = code_triangle t h.code.degree_is ∙ (λ i. triangle_at (h.side i) (h.digits_are i))

-- the code of the side s and the path v
module _ (s n v : ℕ) (hs : IsSide s) (hn : n ≤ 24) (hv : v < 2 ^ (2 * n)) where
  word_has : Has s n (digits_of n v) (code_of (word_of s n v))
  word_has =
      subst (λ (w : ℕ). Has s n (digits_of n v) (code_of (word_of s n w))) (path_of n v hv) (made s n hs.0 hs.1 hn (digits_of_lem n v))

  pub word_code : IsCode n (code_of (word_of s n v))
  word_code = word_has.code

  -- its determinants, from the side's by the digits of v
  pub word_dets : (d : Direction) → determinants (along d) (corners_of (code_of (word_of s n v))) ≡ below (determinants (along d) (triangle_at s [])) (digits_of n v)
  word_dets d = ap (determinants (along d)) (made_triangle word_has) ∙ dets_below (along d) s (digits_of n v)

  pub word_holds : (d : Direction) → Holds (code_of (word_of s n v)) d ↔ AllNonNeg (below (determinants (along d) (triangle_at s [])) (digits_of n v))
  word_holds d = (λ h. subst AllNonNeg (word_dets d) h, λ h. subst AllNonNeg (sym (word_dets d)) h)

-- every code is the word of a side and a path
pub code_is_word : {n : ℕ} {t : TriangleCode} → IsCode n t → (s : ℕ) × (v : ℕ) × IsSide s × (v < 2 ^ (2 * n)) × (t ≡ code_of (word_of s n v))
code_is_word {n} {t} c =
    let e : t.0 ≡ word_of (side_of t.0) n (path (digits t.0 n)) = code_word c in
    (side_of t.0, path (digits t.0 n), code_side c, path_lt (digits_are t.0 n), λ i. code_of (e i))
