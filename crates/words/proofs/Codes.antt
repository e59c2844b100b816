-- Which words are triangle codes and which have the fields of a corner name; a code is its side and its digits. Assumes
-- nothing.
use mathlib.Core.Path.{◌≡◌, ◌∙◌, refl, sym, ap}
use mathlib.Core.Logic.{◌↔◌}
use mathlib.Core.Bool.{false, not}
use mathlib.Core.List.{List}
use Prim.Native.Nat.{ℕ, ◌-◌, ◌*◌, ◌/◌, ◌%◌, ◌^◌, ◌≤◌, ◌<◌}
use native.Mathlib.Nat.{pos_of_ne-zero}
use native.Mathlib.Omega.{arith}
use lib.Dec.{eqb}
use lib.ListN.{take}
use lib.Pow.{shr-shr}
use borrow.Author.Tests.{ltb-false, eqb-true, eqb-false, not-false, le-ltb, eq-eqb, ne_eqb}
use Rattle.frame.specs.Refusals.{◌either◌, refusal, order}
use Rattle.frame.proofs.Refusing.{none_so, none_after, either_false}
use Rattle.words.specs.Words.{large, degree_of, digits, beyond, zero_bits, corner_number, side_of, path}
use Rattle.words.specs.Words.{word_of, inside}
use Rattle.words.specs.Refusals.{word_rows, check_code, check_name_fields, IsCode}
use Rattle.words.specs.Family.{code_of}
use Rattle.words.specs.declared.TriangleCode.{TriangleCode}
use Rattle.words.specs.declared.CornerName.{CornerName}
use Rattle.words.proofs.WordLayout.{side_top, side_is, degree_is_lem}
use Rattle.words.proofs.Digits.{AreDigits, path_lt, large_roomy, digits_made}
use Rattle.words.proofs.FormCodes.{Fields, CodeIn, rows_pass, side_low, side_high, fields_below, word_made}
use Rattle.words.proofs.FormCodes.{made_code}

-- refusals 1 to 3, which both kinds of word share, are not given
pub word_passes : (w : ℕ) → (refusal (word_rows w) ≡ 0) ↔ Fields large w
word_passes w = (
  λ e. let n = (none_so order (word_rows w) tt).0 e in (rows_pass large w (ltb-false 24 _ n.0)).0 n.1,
  λ g. (none_so order (word_rows w) tt).1 (le-ltb 24 _ g.degree, (rows_pass large w g.degree).1 g),
)

-- where refusals 1 and 2 are not given, the degree is at most 24
pub side_degree : (w : ℕ) → refusal (take 2 (word_rows w)) ≡ 0 → degree_of w ≤ 24
side_degree w e = ltb-false 24 _ ((none_so order (take 2 (word_rows w)) tt).0 e).0

-- the zero bits and the corner number are 0
pub low_zero : (w : ℕ) → ((not (eqb (zero_bits w) 0) either not (eqb (corner_number w) 0)) ≡ false) ↔
    (w % 64 ≡ 0)
low_zero w = (
  λ e.
      let b = (either_false _ _).0 e in
      let z : zero_bits w ≡ 0 = eqb-true _ _ (not-false _ b.0) in
      let k : corner_number w ≡ 0 = eqb-true _ _ (not-false _ b.1) in
      omega arith,
  λ e. (either_false _ _).1 (
    ap not (eq-eqb (zero_bits w) 0 (omega arith)),
    ap not (eq-eqb (corner_number w) 0 (omega arith)),
  ),
)

pub code_passes : (t : TriangleCode) → (check_code t ≡ 0) ↔ CodeIn large t.0
unfolding check_code
code_passes t =
    let w = t.0 in (
      λ e. let n = (none_after order order (word_rows w) _ tt tt).0 e in
          ((word_passes w).0 n.0, (low_zero w).0 n.1.0),
      λ p. (none_after order order (word_rows w) _ tt tt).1 ((word_passes w).1 p.0, ((low_zero w).1 p.1, tt)),
    )

-- so its degree is one
pub passes_degree : (t : TriangleCode) → check_code t ≡ 0 → degree_of t.0 ≤ 24
passes_degree t e = ((code_passes t).0 e).0.degree

pub name_passes :
    (r : CornerName)
    → (check_name_fields r ≡ 0) ↔ (Fields large r.0 × (zero_bits r.0 ≡ 0) × (1 ≤ corner_number r.0)
    × (corner_number r.0 ≤ 3))
unfolding check_name_fields
name_passes r =
    let w = r.0 in (
      λ e.
          let n = (none_after order order (word_rows w) _ tt tt).0 e in
          let b = (either_false _ _).0 n.1.0 in (
            (word_passes w).0 n.0,
            eqb-true _ _ (not-false _ b.0),
            pos_of_ne-zero (eqb-false _ _ b.1),
            omega arith,
          ),
      λ p.
          (none_after order order (word_rows w) _ tt tt).1 (
            (word_passes w).1 p.0,
            (
              (either_false _ _).1 (
                ap not (eq-eqb (zero_bits w) 0 p.1),
                ne_eqb (corner_number w) 0 (λ e. omega (arith, p.2)),
              ),
              tt,
            ),
          ),
    )

bits_clear : (u : ℕ) → u % 64 ≡ 0 → zero_bits u ≡ 0
bits_clear u e = omega arith

inside_bits : (w : ℕ) → zero_bits (inside w) ≡ zero_bits w
inside_bits w = let e : inside w / 2 ^ 2 ≡ w / 2 ^ 2 = omega arith in ap (λ (x : ℕ). x % 2 ^ 4) e

-- the code inside a word has its side
pub inside_side : (w : ℕ) → side_of (inside w) ≡ side_of w
inside_side w =
    let e : inside w / 4 ≡ w / 4 = omega arith in
    side_top large (inside w) ∙ sym (shr-shr (inside w) 2 57) ∙ ap (λ (m : ℕ). m / 2 ^ 57) e ∙ shr-shr w 2 57
    ∙ sym (side_top large w)

inside_degree : (w : ℕ) → zero_bits w ≡ 0 → degree_of (inside w) ≡ degree_of w
inside_degree w z = omega arith

-- the code inside a name is one of the name's degree
pub name_code : (r : CornerName) → check_name_fields r ≡ 0 → IsCode (degree_of r.0) (code_of (inside r.0))
name_code r e =
    let p = (name_passes r).0 e in
    let w = r.0 in
    let u = inside w in
    let z : zero_bits w ≡ 0 = p.1 in
    let f = p.0 in
    let d : degree_of u ≡ degree_of w = inside_degree w z in
    let x : u / 64 ≡ w / 64 = omega arith in
    let g : Fields large u =
    record {
      degree = omega (arith, f.degree);
      a_low = omega (arith, f.a_low);
      a_high = omega (arith, f.a_high);
      clear = ap (λ (n : ℕ). beyond u n) d ∙ ap (λ (y : ℕ). y % 2 ^ (48 - 2 * degree_of w)) x ∙ f.clear;
    } in
    record { passes = (code_passes (code_of u)).1 (g, omega arith); degree_is = d }

-- and a word with a code inside it and a corner number has a name's fields, and the code's degree
pub code_name : (r : CornerName) → check_code (code_of (inside r.0)) ≡ 0 → 1 ≤ corner_number r.0
    → corner_number r.0 ≤ 3
    → (check_name_fields r ≡ 0) × (degree_of r.0 ≡ degree_of (inside r.0))
code_name r e low high =
    let w = r.0 in
    let u = inside w in
    let p = (code_passes (code_of u)).0 e in
    let low_bits : u % 64 ≡ 0 = p.1 in
    let z : zero_bits w ≡ 0 = sym (inside_bits w) ∙ bits_clear u low_bits in
    let f = p.0 in
    let d : degree_of w ≡ degree_of u = sym (inside_degree w z) in
    let x : w / 64 ≡ u / 64 = omega (arith, z) in
    let g : Fields large w =
    record {
      degree = omega (arith, f.degree);
      a_low = omega (arith, f.a_low);
      a_high = omega (arith, f.a_high);
      clear = ap (λ (n : ℕ). beyond w n) d ∙ ap (λ (y : ℕ). y % 2 ^ (48 - 2 * degree_of u)) x ∙ f.clear;
    } in
    ((name_passes r).1 (g, z, low, high), d)

-- ---- what a code is known for

pub is_code : (t : TriangleCode) → check_code t ≡ 0 → IsCode (degree_of t.0) t
is_code t e = record { passes = e; degree_is = refl }

module _ {n : ℕ} {t : TriangleCode} (code : IsCode n t) where
  pub code_fields : Fields large t.0
  code_fields = ((code_passes t).0 code.passes).0

  pub code_degree : n ≤ 24
  code_degree = omega (arith, code_fields.degree, code.degree_is)

  pub code_side : (4 ≤ side_of t.0) × (side_of t.0 < 24)
  code_side = (side_low large code_fields, side_high large code_fields)

  pub code_below : t.0 < 2 ^ 64
  code_below = fields_below large code_fields

  -- a code is the word of its side, degree and digits
  pub code_word : t.0 ≡ word_of (side_of t.0) n (path (digits t.0 n))
  code_word = word_made large ((code_passes t).0 code.passes) n code.degree_is

-- two codes of one degree with the same side and digits are the same
pub same_code : {n : ℕ} {t t' : TriangleCode} → IsCode n t → IsCode n t'
    → side_of t.0 ≡ side_of t'.0 → digits t.0 n ≡ digits t'.0 n → t ≡ t'
same_code {n} {t} {t'} c c' s d =
    let e : t.0 ≡ t'.0 = code_word c ∙ (λ i. word_of (s i) n (path (d i))) ∙ sym (code_word c') in
    λ i. record { 0 = e i }

-- ---- made codes

-- t is the triangle code of the side s and these n digits.
pub record Has (s n : ℕ) (ds : List ℕ) (t : TriangleCode) : Type 0 where
  pub code : IsCode n t
  pub side : side_of t.0 ≡ s
  pub digits_are : digits t.0 n ≡ ds

module _ (s n : ℕ) (s≥ : 4 ≤ s) (s< : s < 24) (n≤ : n ≤ 24) where
  pub path_code : (v : ℕ) → v < 2 ^ (2 * n) → IsCode n (code_of (word_of s n v))
  path_code v h = record {
    passes = (code_passes (code_of (word_of s n v))).1 (made_code large large_roomy s n v s≥ s< n≤ h);
    degree_is = degree_is_lem large large_roomy s n v n≤ h;
  }

  pub made : {ds : List ℕ} → AreDigits n ds → Has s n ds (code_of (word_of s n (path ds)))
  made {ds} a = record {
    code = path_code (path ds) (path_lt a);
    side = side_is large large_roomy s n (path ds) n≤ (path_lt a);
    digits_are = digits_made large large_roomy s n≤ a;
  }
