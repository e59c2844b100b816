-- The codes of one degree are as many as the numbers below 20·4^N, in the same order: `code_at` and `place_of` undo one
-- another. Assumes nothing.
use mathlib.Core.Path.{◌≡◌, ◌∙◌, refl, sym, ap}
use mathlib.Core.Logic.{◌↔◌, ⊎_elim, inl, inr}
use Prim.Native.Nat.{ℕ, zero, suc, ◌+◌, ◌-◌, ◌*◌, ◌/◌, ◌%◌, ◌^◌, ◌≤◌, ◌<◌}
use native.Mathlib.Nat.{mod-lt, div-add-mod', div-lt_iff_lt-mul}
use native.Mathlib.Omega.{arith}
use lib.Arith.{digits_div, digits_mod, digits_lt}
use lib.Pow.{pow-add, pow_pos, pow_mono}
use Rattle.words.specs.Words.{large, digits, side_of, path, word_of}
use Rattle.words.specs.Refusals.{IsCode}
use Rattle.words.specs.Family.{code_of}
use Rattle.words.specs.Counting.{code_at, place_of}
use Rattle.words.specs.declared.TriangleCode.{TriangleCode}
use Rattle.words.proofs.WordLayout.{lex, side_is, degree_is_lem}
use Rattle.words.proofs.Digits.{digits_are, path_lt, large_roomy, path_made}
use Rattle.words.proofs.Codes.{code_degree, code_side, code_word, path_code}
use Rattle.words.proofs.WordOrder.{order_by_path}

pub four_pow : (n : ℕ) → 4 ^ n ≡ 2 ^ (2 * n)
four_pow zero = refl
four_pow (suc n) =
    let e : 2 * suc n ≡ 2 * n + 2 = omega arith in
    let s : suc n ≡ n + 1 = omega arith in
    ap (λ (m : ℕ). 4 ^ m) s ∙ pow-add 4 n 1 ∙ ap (λ (x : ℕ). x * 4) (four_pow n) ∙ sym (pow-add 2 (2 * n) 2)
    ∙ ap (λ (m : ℕ). 2 ^ m) (sym e)

pub four_pos : (n : ℕ) → 0 < 4 ^ n
four_pos n = rw (four_pow n) (pow_pos (2 * n))

module _ (n i : ℕ) (n≤ : n ≤ 24) where
  small : i % 4 ^ n < 2 ^ (2 * n)
  small = omega (arith, mod-lt i (four_pos n), four_pow n)

  -- each number below 20·4^n has a code
  pub code_at_lem : i < 20 * 4 ^ n → IsCode n (code_at n i)
  unfolding code_at
  code_at_lem h =
      let s : i / 4 ^ n < 20 = (div-lt_iff_lt-mul (four_pos n)).1 h in
      path_code (4 + i / 4 ^ n) n (omega arith) (omega arith) n≤ (i % 4 ^ n) small

  at_side : side_of (code_at n i).0 ≡ 4 + i / 4 ^ n
  unfolding code_at
  at_side = side_is large large_roomy (4 + i / 4 ^ n) n (i % 4 ^ n) n≤ small

  at_path : path (digits (code_at n i).0 n) ≡ i % 4 ^ n
  unfolding code_at
  at_path = path_made large large_roomy (4 + i / 4 ^ n) n (i % 4 ^ n) n≤ small

  -- whose place it is
  pub place_at : place_of (code_at n i) ≡ i
  unfolding place_of code_at
  place_at =
      let w = (code_at n i).0 in
      let d = degree_is_lem large large_roomy (4 + i / 4 ^ n) n (i % 4 ^ n) n≤ small in
      let s : side_of w - 4 ≡ i / 4 ^ n = omega (arith, at_side) in
      (λ j. (side_of w - 4) * 4 ^ d j + path (digits w (d j))) ∙ (λ j. s j * 4 ^ n + at_path j)
      ∙ div-add-mod' i (4 ^ n)

-- each code has a place
module _ {n : ℕ} {t : TriangleCode} (c : IsCode n t) where
  pub place_is : place_of t ≡ (side_of t.0 - 4) * 4 ^ n + path (digits t.0 n)
  unfolding place_of
  place_is = ap (λ (m : ℕ). (side_of t.0 - 4) * 4 ^ m + path (digits t.0 m)) c.degree_is

  path_below : path (digits t.0 n) < 4 ^ n
  path_below = rw (four_pow n) (path_lt (digits_are t.0 n))

  pub place_below : place_of t < 20 * 4 ^ n
  place_below = rw place_is (digits_lt (omega (arith, code_side c)) path_below)

  -- at which it stands
  pub at_place : code_at n (place_of t) ≡ t
  unfolding code_at
  at_place =
      let y = 4 ^ n in
      let s = side_of t.0 in
      let v = path (digits t.0 n) in
      let q : place_of t / y ≡ s - 4 = ap (λ (x : ℕ). x / y) place_is ∙ digits_div (s - 4) path_below in
      let r : place_of t % y ≡ v = ap (λ (x : ℕ). x % y) place_is ∙ digits_mod (s - 4) path_below in
      let g : 4 + (s - 4) ≡ s = omega (arith, (code_side c).0) in
      let e : word_of (4 + place_of t / y) n (place_of t % y) ≡ t.0 =
      (λ i. word_of (4 + q i) n (r i)) ∙ (λ i. word_of (g i) n v) ∙ sym (code_word c) in
      λ i. code_of (e i)

-- as it is computed
module _ {n : ℕ} {t : TriangleCode} (c : IsCode n t) where
  pub place_word : place_of t ≡ (side_of t.0 - 4) * 2 ^ (2 * n) + path (digits t.0 n)
  place_word = place_is c ∙ ap (λ (k : ℕ). (side_of t.0 - 4) * k + path (digits t.0 n)) (four_pow n)

  pub place_fits : place_of t < 2 ^ 53
  place_fits =
      omega (arith, place_below c, four_pow n, pow_mono {i = 2 * n} {j = 48} (omega (arith, code_degree c)))

-- two codes of one degree have one place only where they are one
pub one_place : {n : ℕ} {t u : TriangleCode} → IsCode n t → IsCode n u → place_of u ≡ place_of t → u.0 ≡ t.0
one_place {n} c d e = ap (λ (x : TriangleCode). x.0) (sym (at_place d) ∙ ap (code_at n) e ∙ at_place c)

-- in the same order
pub places_rise : {n : ℕ} {t u : TriangleCode} → IsCode n t → IsCode n u
    → (t.0 < u.0) ↔ (place_of t < place_of u)
places_rise {n} {t} {u} c d =
    let w = t.0 in
    let x = u.0 in
    let o = order_by_path c d in
    let l = lex (4 ^ n) (side_of w - 4) (path (digits w n)) (side_of x - 4) (path (digits x n)) (path_below c)
    (path_below d) in (
      λ h. rw (place_is c, place_is d) (l.1 (⊎_elim (λ s. inl (omega (arith, s, (code_side c).0)))
          (λ p. inr (ap (λ (m : ℕ). m - 4) p.0, p.1)) (o.0 h))),
      λ h. o.1 (⊎_elim (λ s. inl (omega (arith, s)))
          (λ p. inr (omega (arith, p.0, (code_side c).0, (code_side d).0), p.1))
          (l.0 (rw (place_is c, place_is d) at h))),
    )

pub codes_rise_lem : (n i j : ℕ) → n ≤ 24 → i < j → j < 20 * 4 ^ n → (code_at n i).0 < (code_at n j).0
codes_rise_lem n i j h l k =
    (places_rise (code_at_lem n i h (omega arith)) (code_at_lem n j h k)).1 (rw (place_at n i h, place_at n j h) l)
