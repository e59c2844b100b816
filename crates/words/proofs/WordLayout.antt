-- A word of any form (specs/Forms.antt): it gives back the fields it is made of, and what passes for a code is made of
-- its fields. Both forms of the words cite these laws. Assumes nothing.
use mathlib.Core.Path.{◌≡◌, ◌∙◌, sym, ap}
use mathlib.Core.Logic.{◌↔◌, ◌⊎◌, inl, inr, ⊎_elim}
use Prim.Native.Nat.{ℕ, zero, suc, ◌+◌, ◌-◌, ◌*◌, ◌/◌, ◌%◌, ◌^◌, ◌≤◌, ◌<◌}
use native.Mathlib.Nat.{add_assoc, div-add-mod', div-div-eq-div-mul, mul-lt-mul_of_pos_right, lt_of_mul-lt-mul_right}
use native.Mathlib.Nat.{mul-div_cancel, mul-mod_left, mul_assoc, mul-le-mul_right, le-mul_of_pos_right, eq-or-lt_of_le}
use native.Mathlib.Nat.{mod-one}
use native.Mathlib.Decide.{dec_le}
use native.Mathlib.Omega.{arith}
use lib.Arith.{mod-mul, digits_lt, digits_div, digits_mod}
use lib.Dec.{lit<}
use lib.Pow.{pow-add, pow_pos, shr-shr, mod-pow-add}
use Rattle.words.specs.Forms.{Form, below_degree, below_side, degree_in, digit_in, beyond_in, low_in, side_in, word_in}

le_or_lt : (a b : ℕ) → (a ≤ b) ⊎ (b < a)
le_or_lt a b = go (dec_le a b)
  where
    go : Dec (a ≤ b) → (a ≤ b) ⊎ (b < a)
    go (yes h) = inl h
    go (no h) = inr (omega arith)

-- numbers of two places, the second below c, are ordered by the first place and then by the second
module _ (c q r q' r' : ℕ) (r< : r < c) (r'< : r' < c) where
  lex_le : q ≤ q' → q * c + r < q' * c + r' → (q < q') ⊎ ((q ≡ q') × (r < r'))
  lex_le h l = ⊎_elim (λ e. inr (e, omega (arith, ap (λ (k : ℕ). k * c) e))) (λ g. inl g) (eq-or-lt_of_le h)

  pub lex : (q * c + r < q' * c + r') ↔ ((q < q') ⊎ ((q ≡ q') × (r < r')))
  lex = (
    λ l. ⊎_elim (λ h. lex_le h l) (λ g. absurd (omega (arith, mul-le-mul_right c g))) (le_or_lt q q'),
    ⊎_elim (λ g. omega (arith, mul-le-mul_right c g)) (λ p. omega (arith, p.1, ap (λ (k : ℕ). k * c) p.0)),
  )

-- the lowest 2k bits are 0 exactly where each two of them are
pub pairs_zero : (x k : ℕ) → (x % 2 ^ (2 * k) ≡ 0) ↔ ((j : ℕ) → j < k → x / 2 ^ (2 * j) % 4 ≡ 0)
pairs_zero x zero = (λ e j h. absurd (omega arith), λ f. mod-one x)
pairs_zero x (suc k) = go (pairs_zero x k)
  where
    top : ℕ
    top = x / 2 ^ (2 * k) % 4

    splits : x % 2 ^ (2 * suc k) ≡ top * 2 ^ (2 * k) + x % 2 ^ (2 * k)
    splits = let e : 2 * suc k ≡ 2 + 2 * k = omega arith in ap (λ (j : ℕ). x % 2 ^ j) e ∙ mod-pow-add x 2 (2 * k)

    go : (x % 2 ^ (2 * k) ≡ 0) ↔ ((j : ℕ) → j < k → x / 2 ^ (2 * j) % 4 ≡ 0)
        → (x % 2 ^ (2 * suc k) ≡ 0) ↔ ((j : ℕ) → j < suc k → x / 2 ^ (2 * j) % 4 ≡ 0)
    go ih = (
      λ e.
          let t : top ≡ 0 = omega (arith, splits, le-mul_of_pos_right top (pow_pos (2 * k))) in
          λ j h. ⊎_elim (λ g. ap (λ (i : ℕ). x / 2 ^ (2 * i) % 4) g ∙ t)
          (λ g. ih.0 (omega (arith, splits)) j g) (eq-or-lt_of_le (omega arith)),
      λ f.
          let t : top ≡ 0 = f k (omega arith) in
          let r : x % 2 ^ (2 * k) ≡ 0 = ih.1 (λ j h. f j (omega arith)) in
          omega (arith, splits, ap (λ (i : ℕ). i * 2 ^ (2 * k)) t),
    )

-- the weight of the last of n digits
abbrev pub unit : Form → ℕ → ℕ
unit f n = 2 ^ (below_degree f - 2 * n)

-- the degree's bits are enough for every degree
abbrev pub Roomy : Form → Type 0
Roomy f = f.digit_count < 2 ^ f.degree_bits

module _ (f : Form) where
  -- a, p and q as one number are all that stands above the degree
  pub side_top : (w : ℕ) → side_in f w ≡ w / 2 ^ below_side f
  side_top w = omega (arith, shr-shr w (below_side f) 1, shr-shr w (below_side f) 2)

  -- the unit as the digits beyond and the low bits
  unit_low : (n : ℕ) → n ≤ f.digit_count → unit f n ≡ 2 ^ (2 * f.digit_count - 2 * n) * 2 ^ f.low_bits
  unit_low n h =
      let e : below_degree f - 2 * n ≡ 2 * f.digit_count - 2 * n + f.low_bits = omega arith in
      ap (λ (k : ℕ). 2 ^ k) e ∙ pow-add 2 (2 * f.digit_count - 2 * n) f.low_bits

  -- n digits times their unit fill all below the degree
  pub unit_high : (n : ℕ) → n ≤ f.digit_count → 2 ^ (2 * n) * unit f n ≡ 2 ^ below_degree f
  unit_high n h =
      let e : 2 * n + (below_degree f - 2 * n) ≡ below_degree f = omega arith in
      sym (pow-add 2 (2 * n) (below_degree f - 2 * n)) ∙ ap (λ (k : ℕ). 2 ^ k) e

  -- all below n digits is 0: the digits beyond, and the low bits
  pub below_zero : (w n : ℕ) → n ≤ f.digit_count → (w % unit f n ≡ 0) ↔ ((beyond_in f w n ≡ 0) × (low_in f w ≡ 0))
  below_zero w n h =
      let b = beyond_in f w n in
      let l = f.low_bits in
      let e : below_degree f - 2 * n ≡ 2 * f.digit_count - 2 * n + l = omega arith in
      let parts : w % unit f n ≡ b * 2 ^ l + low_in f w =
      ap (λ (k : ℕ). w % 2 ^ k) e ∙ mod-pow-add w (2 * f.digit_count - 2 * n) l in (
        λ z. (omega (arith, parts, le-mul_of_pos_right b (pow_pos l)), omega (arith, parts)),
        λ z. omega (arith, parts, ap (λ (x : ℕ). x * 2 ^ l) z.0, z.1),
      )

  top : 2 ^ below_side f ≡ 2 ^ below_degree f * 2 ^ f.degree_bits
  top = pow-add 2 (below_degree f) f.degree_bits

  -- what stands below the degree
  pub below_degree_lem : (n v : ℕ) → n ≤ f.digit_count → v < 2 ^ (2 * n) → v * unit f n < 2 ^ below_degree f
  below_degree_lem n v n≤ v< =
      rw (unit_high n n≤) at (mul-lt-mul_of_pos_right v< (pow_pos (below_degree f - 2 * n)))

  module _ (room : Roomy f) (s n v : ℕ) (n≤ : n ≤ f.digit_count) (v< : v < 2 ^ (2 * n)) where
    n< : n < 2 ^ f.degree_bits
    n< = omega (arith, room)

    tail< : v * unit f n < 2 ^ below_degree f
    tail< = below_degree_lem n v n≤ v<

    -- what stands below the side
    pub below_side_lem : n * 2 ^ below_degree f + v * unit f n < 2 ^ below_side f
    below_side_lem = omega (arith, digits_lt n< tail<, top)

    pub side_is : side_in f (word_in f s n v) ≡ s
    unfolding word_in
    side_is =
        side_top _ ∙ ap (λ (k : ℕ). k / 2 ^ below_side f) (add_assoc _ _ _) ∙ digits_div s below_side_lem

    by_degree : word_in f s n v ≡ (s * 2 ^ f.degree_bits + n) * 2 ^ below_degree f + v * unit f n
    unfolding word_in
    by_degree = omega (arith, ap (λ (k : ℕ). s * k) top)

    pub degree_is_lem : degree_in f (word_in f s n v) ≡ n
    degree_is_lem = rw (by_degree, digits_div (s * 2 ^ f.degree_bits + n) tail<) (digits_mod s n<)

    -- all below the degree is the digits
    pub tail_is : word_in f s n v % 2 ^ below_degree f ≡ v * unit f n
    tail_is = rw by_degree (digits_mod (s * 2 ^ f.degree_bits + n) tail<)

    -- all digits and more above them
    upper : ℕ
    upper = (s * 2 ^ f.degree_bits + n) * 2 ^ (2 * n) + v

    by_unit : word_in f s n v ≡ upper * unit f n
    unfolding upper
    by_unit = omega (arith, by_degree, ap (λ (k : ℕ). (s * 2 ^ f.degree_bits + n) * k) (unit_high n n≤))

    pub path_is : word_in f s n v / unit f n % 2 ^ (2 * n) ≡ v
    unfolding upper
    path_is = rw (by_unit, mul-div_cancel upper (pow_pos (below_degree f - 2 * n)))
        (digits_mod (s * 2 ^ f.degree_bits + n) v<)

    by_low : word_in f s n v ≡ upper * 2 ^ (2 * f.digit_count - 2 * n) * 2 ^ f.low_bits
    by_low = by_unit ∙ ap (λ (k : ℕ). upper * k) (unit_low n n≤) ∙ sym (mul_assoc _ _ _)

    pub beyond_is : beyond_in f (word_in f s n v) n ≡ 0
    beyond_is = rw (by_low, mul-div_cancel (upper * 2 ^ (2 * f.digit_count - 2 * n)) (pow_pos f.low_bits))
        (mul-mod_left upper (2 ^ (2 * f.digit_count - 2 * n)))

    pub low_is : low_in f (word_in f s n v) ≡ 0
    low_is = rw by_low (mul-mod_left (upper * 2 ^ (2 * f.digit_count - 2 * n)) (2 ^ f.low_bits))

  -- and back: a word is that of its fields
  pub word_is : (w n : ℕ) → degree_in f w ≡ n → n ≤ f.digit_count → beyond_in f w n ≡ 0 → low_in f w ≡ 0
      → w ≡ word_in f (side_in f w) n (w / unit f n % 2 ^ (2 * n))
  unfolding word_in
  word_is w n deg n≤ beyond low =
      let U = unit f n in
      let P = 2 ^ (2 * n) in
      let B = 2 ^ below_degree f in
      let D = 2 ^ f.degree_bits in
      let H = 2 ^ below_side f in
      let z : w % U ≡ 0 = (below_zero w n n≤).1 (beyond, low) in
      let a : w / U * U + w % U ≡ w = div-add-mod' w U in
      let b : w / U / P * P + w / U % P ≡ w / U = div-add-mod' (w / U) P in
      let c : w / U / P ≡ w / B = div-div-eq-div-mul w U P
      ∙ ap (λ (k : ℕ). w / k) (omega (arith, unit_high n n≤)) in
      let e : w / B / D * D + w / B % D ≡ w / B = div-add-mod' (w / B) D in
      let g : w / B / D ≡ w / H = div-div-eq-div-mul w B D ∙ ap (λ (k : ℕ). w / k) (sym top) in
      rw (side_top w) (omega (
        arith,
        z,
        ap (λ (k : ℕ). k * U) b,
        ap (λ (k : ℕ). w / U / P * k) (unit_high n n≤),
        ap (λ (k : ℕ). k * B) c,
        ap (λ (k : ℕ). k * B) e,
        ap (λ (k : ℕ). k * B) deg,
        ap (λ (k : ℕ). w / B / D * k) top,
        ap (λ (k : ℕ). k * H) g,
      ))

  -- one digit more
  pub path_next : (w n : ℕ) → n < f.digit_count
      → w / unit f (suc n) % 2 ^ (2 * suc n) ≡ 4 * (w / unit f n % 2 ^ (2 * n)) + digit_in f w (suc n)
  path_next w n h =
      let x = w / unit f (suc n) in
      let e : below_degree f - 2 * n ≡ below_degree f - 2 * suc n + 2 = omega arith in
      let u : unit f n ≡ unit f (suc n) * 4 = ap (λ (k : ℕ). 2 ^ k) e
      ∙ pow-add 2 (below_degree f - 2 * suc n) 2 in
      let g : 2 * suc n ≡ 2 * n + 2 = omega arith in
      let p : x % 2 ^ (2 * suc n) ≡ x / 4 % 2 ^ (2 * n) * 4 + x % 4 =
      ap (λ (k : ℕ). x % k) (ap (λ (k : ℕ). 2 ^ k) g ∙ pow-add 2 (2 * n) 2)
      ∙ mod-mul x (pow_pos (2 * n)) (lit< tt) in
      let q : x / 4 ≡ w / unit f n = div-div-eq-div-mul w (unit f (suc n)) 4
      ∙ ap (λ (k : ℕ). w / k) (sym u) in
      omega (arith, p, ap (λ (k : ℕ). k % 2 ^ (2 * n)) q)

  -- no digit beyond n exactly where each of them is 0
  module _ (w n : ℕ) (n≤ : n ≤ f.digit_count) where
    twice : 2 * f.digit_count - 2 * n ≡ 2 * (f.digit_count - n)
    twice = omega arith

    digit_at : (i : ℕ) → i ≤ f.digit_count
        → w / 2 ^ f.low_bits / 2 ^ (2 * (f.digit_count - i)) % 4 ≡ digit_in f w i
    digit_at i h =
        let e : f.low_bits + 2 * (f.digit_count - i) ≡ below_degree f - 2 * i = omega arith in
        ap (λ (k : ℕ). k % 4) (shr-shr w f.low_bits (2 * (f.digit_count - i)) ∙ ap (λ (k : ℕ). w / 2 ^ k) e)

    pub beyond_means : (beyond_in f w n ≡ 0) ↔ ((i : ℕ) → n < i → i ≤ f.digit_count → digit_in f w i ≡ 0)
    beyond_means =
        let m = f.digit_count in
        let x = w / 2 ^ f.low_bits in (
          λ e i h k. sym (digit_at i k) ∙ (pairs_zero x (m - n)).0 (rw twice at e) (m - i) (omega arith),
          λ g.
              rw twice ((pairs_zero x (m - n)).1
              (λ j h. let e : m - (m - j) ≡ j = omega arith in ap (λ (k : ℕ). x / 2 ^ (2 * k) % 4) (sym e)
              ∙ digit_at (m - j) (omega arith) ∙ g (m - j) (omega arith) (omega arith))),
        )

  -- words of one degree are ordered by side and then by path
  pub word_order :
      Roomy f → (s s' n v v' : ℕ) → n ≤ f.digit_count → v < 2 ^ (2 * n) → v' < 2 ^ (2 * n)
      → (word_in f s n v < word_in f s' n v') ↔ ((s < s') ⊎ ((s ≡ s') × (v < v')))
  unfolding word_in
  word_order room s s' n v v' n≤ v< v'< =
      let U = unit f n in
      let H = 2 ^ below_side f in
      let N = n * 2 ^ below_degree f in
      let l = below_side_lem room s n v n≤ v< in
      let l' = below_side_lem room s' n v' n≤ v'< in
      let both = lex H s (N + v * U) s' (N + v' * U) l l' in (
        λ h. ⊎_elim inl (λ p. inr (p.0, lt_of_mul-lt-mul_right U (omega (arith, p.1)))) (both.0 (omega arith)),
        λ h.
            let g : s * H + (N + v * U) < s' * H + (N + v' * U) =
            both.1 (⊎_elim inl (λ p. inr (
              p.0,
              omega (
                arith,
                mul-lt-mul_of_pos_right p.1 (pow_pos (below_degree f - 2 * n)),
              ),
            )) h) in
            omega arith,
      )
