-- What the code of base vertices rests on. Assumes nothing.
use mathlib.Core.Path.{◌≡◌, ◌∙◌, refl, sym, ap}
use mathlib.Core.Bool.{Bool, true, false, ◌&&◌}
use mathlib.Core.List.{List}
use Prim.Native.Nat.{ℕ, ◌+◌, ◌-◌, ◌*◌, ◌/◌, ◌%◌, ◌^◌, ◌≤◌, ◌<◌}
use native.Mathlib.Nat.{lt_of_lt_of_le}
use native.Mathlib.Omega.{arith}
use lib.Bits.{bit_xor}
use lib.Dec.{eqb, leb}
use lib.Pow.{pow_mono}
use borrow.Author.Tests.{eq-eqb, le-leb, leb-true, ne_eqb}
use Rattle.words.specs.Words.{path}
use Rattle.words.proofs.Digits.{AreDigits, path_lt}
use Rattle.net.specs.declared.Point.{Point}
use Rattle.net.specs.declared.State.TheVariants.{Down, Up}
use Rattle.net.specs.Means.Paths.{digits_of}
use Rattle.net.proofs.Canonical.{and_true}
use Rattle.net.proofs.Paths.{digits_of_lem}
use Rattle.net.proofs.SeamCode.{not_zero}
use Rattle.net.proofs.Table.{below, same, sound}
use Rattle.notation.specs.Means.Directions.{base_state, directions, is_base, orientation, other, parts, side_turn}
use Rattle.notation.specs.Means.Directions.{turned, turned_parts}
use Rattle.notation.specs.declared.Turned.{Turned}
use Rattle.notation.proofs.Directions.{directions_digits, other_low, parts_digits, turned_low}
use Rattle.notation.proofs.Reading.{digits_more}

-- ---- one digit

pub other_xor : (o : ℕ) → o < 2 → (d : ℕ) → d < 4 → bit_xor d (2 + o) ≡ other o d
other_xor = sound (below 2 λ o. below 4 λ d. same (bit_xor d (2 + o)) (other o d)) refl

pub other_digit : (o d : ℕ) {r : ℕ} → r ≡ other o d → r ≤ 3
other_digit o d e = rw e (other_low o d)

pub turned_zero : (r o : ℕ) → r ≡ 0 → 1 - o ≡ turned r o
turned_zero r o e = rw e refl

pub turned_else : (r o : ℕ) → (r ≡ 0 → ⊥) → o ≡ turned r o
turned_else r o = not_zero (λ r. o ≡ turned r o) (λ r. refl) r

pub turned_bit : (r o : ℕ) {x : ℕ} → o ≤ 1 → x ≡ turned r o → x ≤ 1
turned_bit r o h e = rw e (turned_low r o h)

-- ---- digit for digit

-- the path of n digits, where n is 24 at most
small_path : {n : ℕ} {ds : List ℕ} → n ≤ 24 → AreDigits n ds → path ds < 2 ^ 48
small_path {n} h a = lt_of_lt_of_le (path_lt a) (pow_mono {i = 2 * n} {j = 48} (omega arith))

module _ (o n v : ℕ) where
  pub directions_room : {x : ℕ} → n ≤ 24 → x ≡ path (directions o (digits_of n v)) → x < 2 ^ 48
  directions_room h e = rw e (small_path h (directions_digits o (digits_of n v) (digits_of_lem n v)))

  pub directions_none : n ≡ 0 → 0 ≡ path (directions o (digits_of n v))
  unfolding digits_of directions path
  directions_none e = rw e refl

  pub directions_more : {p x d : ℕ} → (n ≡ 0 → ⊥) → p ≡ turned (v % 4) o
      → x ≡ path (directions p (digits_of (n - 1) (v / 4))) → d ≡ other o (v % 4)
      → 4 * x + d ≡ path (directions o (digits_of n v))
  unfolding directions path
  directions_more z e f g = rw (digits_more n v z, g, f, e) refl

  pub parts_room : {x : Turned} → n ≤ 24 → x ≡ turned_parts o (digits_of n v) → x.path < 2 ^ 48
  parts_room h e = rw e (small_path h (parts_digits o (digits_of n v) (digits_of_lem n v)))

  pub parts_none : n ≡ 0 → record { orientation = o; path = 0 } ≡ turned_parts o (digits_of n v)
  unfolding digits_of parts side_turn path
  parts_none e = rw e refl

  pub parts_more : {r p : ℕ} {x : Turned} → (n ≡ 0 → ⊥) → r ≡ other o (v % 4) → p ≡ turned r o
      → x ≡ turned_parts p (digits_of (n - 1) (v / 4))
      → record { orientation = x.orientation; path = 4 * x.path + r } ≡ turned_parts o (digits_of n v)
  unfolding parts side_turn path
  parts_more z e f g = rw (digits_more n v z, g, f, e) refl

-- ---- the domain of a base vertex, in a side of orientation 0 and in one of orientation 1

module _ (s : ℕ) (p : Point) {o : ℕ} (e : o ≡ orientation s) where
  module _ (f : o ≡ 0) where
    up : eqb (orientation s) 0 ≡ true
    up = eq-eqb (orientation s) 0 (sym e ∙ f)

    pub base_up : leb 1 p.w2 ≡ is_base s p
    base_up = rw up refl

    pub weight_up : is_base s p ≡ true → 1 ≤ p.w2
    weight_up h = leb-true 1 p.w2 (base_up ∙ h)

    pub state_up : Up p.w1 (p.w2 - 1) p.w3 ≡ base_state s p
    state_up = rw up refl

  module _ (f : o ≡ 0 → ⊥) where
    down : eqb (orientation s) 0 ≡ false
    down = ne_eqb (orientation s) 0 (λ g. f (e ∙ g))

    base_down : leb 1 p.w1 && leb 1 p.w3 ≡ is_base s p
    base_down = rw down refl

    pub base_some : (p.w1 ≡ 0 → ⊥) → leb 1 p.w3 ≡ is_base s p
    base_some g = sym (ap (λ (b : Bool). b && leb 1 p.w3) (le-leb 1 p.w1 (omega arith))) ∙ base_down

    pub weights_down : is_base s p ≡ true → (1 ≤ p.w1) × (1 ≤ p.w3)
    weights_down h =
        let x = (and_true (leb 1 p.w1) (leb 1 p.w3)).0 (base_down ∙ h) in
        (leb-true 1 p.w1 x.0, leb-true 1 p.w3 x.1)

    pub state_down : Down (p.w1 - 1) p.w2 (p.w3 - 1) ≡ base_state s p
    state_down = rw down refl

-- what was tested of a point
pub base_tested : (s : ℕ) {p q : Point} {a b : Bool} → p ≡ q → a ≡ is_base s p → a ≡ b → is_base s q ≡ b
base_tested s e f g = ap (is_base s) (sym e) ∙ sym f ∙ g
