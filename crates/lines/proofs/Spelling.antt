-- The digits of a number as text: the last after the others, or the first before them. Assumes nothing.
use mathlib.Core.Path.{◌≡◌, refl}
use mathlib.Core.List.{[], ◌∷◌, ◌++◌}
use Prim.Native.Nat.{ℕ, zero, suc, ◌-◌, ◌*◌, ◌/◌, ◌%◌, ◌^◌, ◌≤◌, ◌<◌}
use native.Mathlib.Omega.{arith}
use lib.IntN.{ℤ, nat_abs}
use lib.Pow.{pow_pos, pow_mono}
use mir.Syntax.{w64}
use mir.Val.{SFits}
use mir.Facts.{to_z-of_z}
use borrow.Author.Tests.{lt-ltb, le-ltb, eq-eqb, ne_eqb}
use Rattle.golden.proofs.Machine.{again}
use Rattle.words.specs.Words.{degree_of, path}
use Rattle.words.specs.Words.{digits as pathDigits}
use Rattle.lines.specs.Writing.{glyph, digits, last_decimals, decimal, sign, signed_decimal, side, code, decimals, fraction, exact}

less : (k : ℕ) → suc k - 1 ≡ k
less k = omega arith

-- ---- digits in a base

pub digits_none : (b k n : ℕ) → k ≡ 0 → [] ≡ digits b k n
unfolding digits
digits_none b k n e = rw e

pub digits_last : (b k n g : ℕ) → (k ≡ 0 → ⊥) → g ≡ glyph (n % b) → digits b (k - 1) (n / b) ++ (g ∷ []) ≡ digits b k n
unfolding digits
digits_last b zero n g h e = absurd (h refl)
digits_last b (suc k) n g h e = rw (less k, e)

-- ---- decimal digits with no zeros in front

pub decimals_none : (k n : ℕ) → k ≡ 0 → [] ≡ last_decimals k n
unfolding last_decimals
decimals_none k n e = rw e

pub decimals_one : (k n g : ℕ) → (k ≡ 0 → ⊥) → n < 10 → g ≡ glyph n → g ∷ [] ≡ last_decimals k n
unfolding last_decimals
decimals_one zero n g h l e = absurd (h refl)
decimals_one (suc k) n g h l e = rw e (simp (lt-ltb n 10 l))

pub decimals_last : (k n g : ℕ) → (k ≡ 0 → ⊥) → 10 ≤ n → g ≡ glyph (n % 10) → last_decimals (k - 1) (n / 10) ++ (g ∷ []) ≡ last_decimals k n
unfolding last_decimals
decimals_last zero n g h l e = absurd (h refl)
decimals_last (suc k) n g h l e = rw e (simp (less k, le-ltb n 10 l))

-- ---- decimals of a fraction

pub places_none : (k m f : ℕ) → k ≡ 0 → [] ≡ decimals k m f
unfolding decimals
places_none k m f e = rw e

pub places_end : (k m f : ℕ) → f ≡ 0 → [] ≡ decimals k m f
unfolding decimals
places_end zero m f e = refl
places_end (suc k) m f e = simp (eq-eqb f 0 e)

pub places_next : (k m f g : ℕ) → (k ≡ 0 → ⊥) → (f ≡ 0 → ⊥) → g ≡ glyph (f * 10 / m) → (g ∷ []) ++ decimals (k - 1) m (f * 10 % m) ≡ decimals k m f
unfolding decimals
places_next zero m f g h l e = absurd (h refl)
places_next (suc k) m f g h l e = rw e (simp (less k, ne_eqb f 0 l))

pub fraction_none : (k m f : ℕ) → f ≡ 0 → [] ≡ fraction k m f
unfolding fraction
fraction_none k m f e = simp (eq-eqb f 0 e)

pub fraction_some : (k m f : ℕ) → (f ≡ 0 → ⊥) → (46 ∷ []) ++ decimals k m f ≡ fraction k m f
unfolding fraction
fraction_some k m f l = simp (ne_eqb f 0 l)

-- ---- the forms, by their parts

pub signed_is : (x : ℤ) (n : ℕ) → SFits w64 x → n ≡ nat_abs (again x) → sign (again x) ++ decimal n ≡ signed_decimal x
unfolding signed_decimal
signed_is x n h e = rw (e, to_z-of_z h)

pub code_is : (w n v : ℕ) → n ≡ degree_of w → v ≡ path (pathDigits w n) → side w ++ digits 4 n v ≡ code w
unfolding code
code_is w n v e f = rw (f, e)

pub exact_is : (t : ℤ) (k m n : ℕ) → SFits w64 t → m ≡ 2 ^ k → n ≡ nat_abs (again t) → sign (again t) ++ decimal (n / m) ++ fraction k m (n % m) ≡ exact t k
unfolding exact
exact_is t k m n h e f = rw (e, f, to_z-of_z h)

-- 2^k, for k up to 60
pub power_bounds : (k m : ℕ) → k ≤ 60 → m ≡ 2 ^ k → (0 < m) × (m ≤ 2 ^ 60)
power_bounds k m h e = rw e (pow_pos k, pow_mono h)
