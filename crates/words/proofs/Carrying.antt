-- A code carried from one form to another, where that has the degree: it keeps its side, its degree, its digits and its
-- place in the order, and carried back it is itself. Assumes nothing.
use mathlib.Core.Path.{◌≡◌, ◌∙◌, refl, sym, ap}
use mathlib.Core.Logic.{◌↔◌, inl, inr, ⊎_elim}
use Prim.Native.Nat.{ℕ, ◌+◌, ◌-◌, ◌*◌, ◌/◌, ◌%◌, ◌^◌, ◌≤◌, ◌<◌}
use native.Mathlib.Nat.{mul_assoc, mul-div_cancel}
use native.Mathlib.Omega.{arith}
use lib.Pow.{pow-add, pow_pos}
use Rattle.words.specs.Forms.{Form, below_degree, below_side, degree_in, first_digits, side_in, path, word_in, carried}
use Rattle.words.proofs.WordLayout.{unit, Roomy, side_is, degree_is_lem, tail_is}
use Rattle.words.proofs.Digits.{digits_in, path_lt, path_made}
use Rattle.words.proofs.FormCodes.{CodeIn, side_low, side_high, word_made, made_code, codes_order}

carried_is : (f g : Form) (w : ℕ)
    → carried f g w ≡ word_in g (side_in f w) (degree_in f w) (path (first_digits f w (degree_in f w)))
unfolding carried
carried_is f g w = refl

module _ (f g : Form) (room : Roomy g) {w : ℕ} (c : CodeIn f w) (h : degree_in f w ≤ g.digit_count) where
  abbrev n : ℕ
  n = degree_in f w

  abbrev v : ℕ
  v = path (first_digits f w (degree_in f w))

  v< : path (first_digits f w (degree_in f w)) < 2 ^ (2 * degree_in f w)
  v< = path_lt (digits_in f w n)

  pub carried_code : CodeIn g (carried f g w)
  unfolding carried
  carried_code = made_code g room (side_in f w) n v (side_low f c.0) (side_high f c.0) h v<

  pub carried_side : side_in g (carried f g w) ≡ side_in f w
  unfolding carried
  carried_side = side_is g room (side_in f w) n v h v<

  pub carried_degree : degree_in g (carried f g w) ≡ degree_in f w
  unfolding carried
  carried_degree = degree_is_lem g room (side_in f w) n v h v<

  pub carried_path : path (first_digits g (carried f g w) (degree_in f w)) ≡ path (first_digits f w (degree_in f w))
  unfolding carried
  carried_path = path_made g room (side_in f w) n v h v<

  -- there and back
  pub carried_back : carried g f (carried f g w) ≡ w
  carried_back =
      let u = carried f g w in
      let p : path (first_digits g u (degree_in g u)) ≡ v =
      ap (λ (k : ℕ). path (first_digits g u k)) carried_degree ∙ carried_path in
      carried_is g f u ∙ (λ i. word_in f (carried_side i) (carried_degree i) (p i)) ∙ sym (word_made f c n refl)

-- ---- as it is computed: the tail, which is all below the degree, moves by the bits that the one form has more there

module _ (f g : Form) (k n : ℕ) (h : n ≤ f.digit_count) (more : below_degree g ≡ below_degree f + k) where
  unit_moved : (v : ℕ) → v * unit g n ≡ v * unit f n * 2 ^ k
  unit_moved v =
      let e : below_degree g - 2 * n ≡ below_degree f - 2 * n + k = omega (arith, more) in
      ap (λ (m : ℕ). v * m) (ap (λ (m : ℕ). 2 ^ m) e ∙ pow-add 2 (below_degree f - 2 * n) k) ∙ sym (mul_assoc v _ _)

module _ (f : Form) (room : Roomy f) {w : ℕ} (c : CodeIn f w) where
  tail : w % 2 ^ below_degree f ≡ path (first_digits f w (degree_in f w)) * unit f (degree_in f w)
  tail =
      let n = degree_in f w in
      ap (λ (x : ℕ). x % 2 ^ below_degree f) (word_made f c n refl)
      ∙ tail_is f room (side_in f w) n _ c.0.degree (path_lt (digits_in f w n))

  pub carried_up : (g : Form) (k : ℕ) → below_degree g ≡ below_degree f + k
      → carried f g w ≡ side_in f w * 2 ^ below_side g + degree_in f w * 2 ^ below_degree g + w % 2 ^ below_degree f * 2 ^ k
  unfolding word_in
  carried_up g k more =
      let n = degree_in f w in
      let v = path (first_digits f w n) in
      let e : v * unit g n ≡ w % 2 ^ below_degree f * 2 ^ k =
      unit_moved f g k n c.0.degree more v ∙ ap (λ (x : ℕ). x * 2 ^ k) (sym tail) in
      carried_is f g w ∙ ap (λ (x : ℕ). side_in f w * 2 ^ below_side g + n * 2 ^ below_degree g + x) e

  pub carried_down : (g : Form) (k : ℕ) → degree_in f w ≤ g.digit_count → below_degree f ≡ below_degree g + k
      → carried f g w ≡ side_in f w * 2 ^ below_side g + degree_in f w * 2 ^ below_degree g + w % 2 ^ below_degree f / 2 ^ k
  unfolding word_in
  carried_down g k h more =
      let n = degree_in f w in
      let v = path (first_digits f w n) in
      let e : w % 2 ^ below_degree f / 2 ^ k ≡ v * unit g n =
      ap (λ (x : ℕ). x / 2 ^ k) (tail ∙ unit_moved g f k n h more v) ∙ mul-div_cancel (v * unit g n) (pow_pos k) in
      carried_is f g w ∙ ap (λ (x : ℕ). side_in f w * 2 ^ below_side g + n * 2 ^ below_degree g + x) (sym e)

-- codes of one degree are in the same order in both forms
pub carried_order : (f g : Form) → Roomy f → Roomy g → {w w' : ℕ} → CodeIn f w → CodeIn f w' → (n : ℕ)
    → degree_in f w ≡ n → degree_in f w' ≡ n → n ≤ g.digit_count → (w < w') ↔ (carried f g w < carried f g w')
carried_order f g room-f room-g {w} {w'} c c' n d d' h =
    let l : degree_in f w ≤ g.digit_count = omega arith in
    let l' : degree_in f w' ≤ g.digit_count = omega arith in
    let u = carried f g w in
    let u' = carried f g w' in
    let s = carried_side f g room-g c l in
    let s' = carried_side f g room-g c' l' in
    let p : path (first_digits g u n) ≡ path (first_digits f w n) = rw d at (carried_path f g room-g c l) in
    let p' : path (first_digits g u' n) ≡ path (first_digits f w' n) = rw d' at (carried_path f g room-g c' l') in
    let a = codes_order f room-f c c' n d d' in
    let b = codes_order g room-g (carried_code f g room-g c l) (carried_code f g room-g c' l') n
    (carried_degree f g room-g c l ∙ d) (carried_degree f g room-g c' l' ∙ d') in (
      λ lt. b.1 (⊎_elim (λ x. inl (omega (arith, x, s, s'))) (λ x. inr (s ∙ x.0 ∙ sym s', omega (arith, x.1, p, p')))
          (a.0 lt)),
      λ lt. a.1 (⊎_elim (λ x. inl (omega (arith, x, s, s'))) (λ x. inr (sym s ∙ x.0 ∙ s', omega (arith, x.1, p, p')))
          (b.0 lt)),
    )
