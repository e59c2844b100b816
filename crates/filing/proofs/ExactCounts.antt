-- How many triangles of a degree below a triangle hold a direction: 1, 2 or 6 where no determinant is 0, 1 or 3 where one is, 1 where two are.
-- Assumes nothing.
use mathlib.Core.Path.{◌≡◌, refl, sym, ◌∙◌, ap}
use mathlib.Core.Bool.{Bool, true, false, cond, ◌&&◌}
use mathlib.Core.Logic.{◌⊎◌, inl, inr, ⊎_elim}
use mathlib.Core.List.{[], ◌∷◌}
use Prim.Native.Nat.{ℕ, zero, suc, ◌+◌, ◌-◌, ◌*◌, ◌≤◌, ◌<◌}
use native.Mathlib.Omega.{arith}
use Rattle.golden.proofs.GoldenRing.{φ_ring}
use Rattle.golden.proofs.Polynomials.{var, lit, ◌⊕◌, ◌⊝◌}
use Rattle.golden.proofs.RingSolver.{solve}
use Rattle.golden.specs.Numbers.{◌+φ◌}
use Rattle.golden.specs.declared.Golden.{Golden}
use Rattle.net.proofs.Table.{Test, Holds, sound, below, same, most, ◌and◌, ◌or◌, ◌then◌}
use Rattle.filing.specs.Holding.{◌-φ◌, three}
use Rattle.filing.specs.Means.Descent.{twice, total, child_dets, non_neg, holds}
use Rattle.filing.specs.declared.Determinants.{Determinants}
use Rattle.filing.proofs.NoVertex.{0φ}
use Rattle.filing.proofs.Counting.{sgn, sgn_small, sgn_twice, at_zero, room, live, agree, rest, sum_1, sum_2, sum_3, rest_turned, room_held, divided, holders_split}
use Rattle.filing.proofs.Permuting.{count, count_now, count_mirrored, count_first_last, count_first_two}

-- what the room w says of the number m of holders
abbrev pub said : (w m : ℕ) → Test
said w m = most m w and ((most 1 w then most 1 m) and ((same w 3 then (same m 1 or same m 3)) and (same w 6 then (same m 1 or (same m 2 or same m 6)))))

-- ---- how the room is shared among the children

-- one has it all
abbrev alone : (w p q r s : ℕ) → Test
alone w p q r s = same p w and (same q 0 and (same r 0 and same s 0))

-- three have room for one
abbrev ones : (p q r s : ℕ) → Test
ones p q r s = most p 1 and (most q 1 and (most r 1 and (most s 1 and same (p + q + r + s) 3)))

-- two that meet in an edge with the direction on it have room for three
abbrev twins : (e p q r s : ℕ) → Test
twins e p q r s = same e 1 and (same p 3 and (same q 3 and (same r 0 and same s 0)))

abbrev shape : (w p q r s x y z : ℕ) → Test
shape w p q r s x y z =
    alone w p q r s or (alone w q p r s or (alone w r p q s or (alone w s p q r
    or ((same w 3 and ones p q r s)
    or ((same w 6 and twins x p q r s) or ((same w 6 and twins y p r q s) or (same w 6 and twins z p s q r)))))))

shapes : (a : ℕ) → a < 3 → (b : ℕ) → b < 3 → (c : ℕ) → c < 3 → (x : ℕ) → x < 3 → (y : ℕ) → y < 3 → (z : ℕ) → z < 3
    → Holds (agree a b c x y z then (live a b c then shape (room a b c) (room x y z) (room (2 - x) b c) (room a (2 - y) c) (room a b (2 - z)) x y z))
shapes =
    sound (below 3 λ a. below 3 λ b. below 3 λ c. below 3 λ x. below 3 λ y. below 3 λ z.
    agree a b c x y z then (live a b c then shape (room a b c) (room x y z) (room (2 - x) b c) (room a (2 - y) c) (room a b (2 - z)) x y z)) refl

-- ---- the numbers

said_by : {w w' m m' : ℕ} → w ≡ w' → m ≡ m' → Holds (said w m) → Holds (said w' m')
said_by e f h = rw (sym e, sym f) h

module _ {p q r s m₀ m₁ m₂ m₃ : ℕ} (h₀ : Holds (said p m₀)) (h₁ : Holds (said q m₁)) (h₂ : Holds (said r m₂)) (h₃ : Holds (said s m₃)) where
  alone_said : (w m : ℕ) → Holds (alone w p q r s) → m ≡ m₀ + m₁ + m₂ + m₃ → Holds (said w m)
  alone_said w m a e = said_by a.0 (let f : m₀ ≡ m = omega (arith, h₁.0, h₂.0, h₃.0, a.1.0, a.1.1.0, a.1.1.1, e) in f) h₀

  ones_said : (w m : ℕ) → w ≡ 3 → Holds (ones p q r s) → m ≡ m₀ + m₁ + m₂ + m₃ → Holds (said w m)
  ones_said w m f a e =
      let g : 3 ≡ m = omega (arith, whole_one p m₀ a.0 h₀, whole_one q m₁ a.1.0 h₁, whole_one r m₂ a.1.1.0 h₂, whole_one s m₃ a.1.1.1.0 h₃, a.1.1.1.1, e) in
      said_by (sym f) g (sound (said 3 3) refl)
    where
      whole_one : (p m : ℕ) → p ≤ 1 → Holds (said p m) → m ≡ p
      whole_one zero m l h = omega (arith, h.0)
      whole_one (suc p) m l h = omega (arith, h.0, h.1.0 (omega arith))

  twins_said : (i w m : ℕ) → w ≡ 6 → Holds (twins i p q r s) → m₀ ≡ m₁ → m ≡ m₀ + m₁ + m₂ + m₃ → Holds (said w m)
  twins_said i w m f a g e = ⊎_elim
      (λ o. let k : 2 ≡ m = omega (arith, o, g, h₂.0, h₃.0, a.1.1.1.0, a.1.1.1.1, e) in said_by (sym f) k (sound (said 6 2) refl))
      (λ o. let k : 6 ≡ m = omega (arith, o, g, h₂.0, h₃.0, a.1.1.1.0, a.1.1.1.1, e) in said_by (sym f) k (sound (said 6 6) refl))
      (h₀.1.1.0 a.1.0)

-- ---- twins are mirror images

minus_zero : (y : Golden) {r : Golden} → r ≡ 0φ → y -φ r ≡ y
minus_zero y e = ap (λ (r : Golden). y -φ r) e ∙ solve φ_ring (y ∷ []) (var 0 ⊝ lit 0) (var 0) refl

module _ (D : Determinants) where
  twin : (x y z : Golden) → total D ≡ x +φ y +φ z → rest D x ≡ 0φ → rest D y ≡ twice z
  twin x y z t e =
      ap (λ (s : Golden). s -φ twice y) t
      ∙ solve φ_ring (x ∷ y ∷ z ∷ []) (var 0 ⊕ var 1 ⊕ var 2 ⊝ (var 1 ⊕ var 1)) (var 2 ⊕ var 2 ⊝ (var 0 ⊕ var 1 ⊕ var 2 ⊝ (var 0 ⊕ var 0))) refl
      ∙ ap (λ (s : Golden). twice z -φ (s -φ twice x)) (sym t) ∙ minus_zero (twice z) e

  -- both are 0
  itself : (x : Golden) → rest D x ≡ 0φ → rest D x ≡ twice x -φ total D
  itself x e = e ∙ sym (solve φ_ring (total D ∷ x ∷ []) (var 1 ⊕ var 1 ⊝ var 0) (lit 0 ⊝ (var 0 ⊝ (var 1 ⊕ var 1))) refl ∙ minus_zero 0φ e)

  twins_1 : (n v w : ℕ) → rest D D.d1 ≡ 0φ → count n (child_dets 0 D) v ≡ count n (child_dets 1 D) w
  twins_1 n v w e =
      ap (λ (E : Determinants). count n E v)
      (λ i. three (itself D.d1 e i) (twin D.d1 D.d2 D.d3 refl e i)
      (twin D.d1 D.d3 D.d2 (solve φ_ring (D.d1 ∷ D.d2 ∷ D.d3 ∷ []) (var 0 ⊕ var 1 ⊕ var 2) (var 0 ⊕ var 2 ⊕ var 1) refl) e i))
      ∙ count_mirrored n (child_dets 1 D) v w

  twins_2 : (n v w : ℕ) → rest D D.d2 ≡ 0φ → count n (child_dets 0 D) v ≡ count n (child_dets 2 D) w
  twins_2 n v w e =
      ap (λ (E : Determinants). count n E v)
      (λ i. three (twin D.d2 D.d1 D.d3 (solve φ_ring (D.d1 ∷ D.d2 ∷ D.d3 ∷ []) (var 0 ⊕ var 1 ⊕ var 2) (var 1 ⊕ var 0 ⊕ var 2) refl) e i) (itself D.d2 e i)
      (twin D.d2 D.d3 D.d1 (solve φ_ring (D.d1 ∷ D.d2 ∷ D.d3 ∷ []) (var 0 ⊕ var 1 ⊕ var 2) (var 1 ⊕ var 2 ⊕ var 0) refl) e i))
      ∙ count_first_last n (twice D.d1) (twice D.d2 -φ total D) (twice D.d3) v w

  twins_3 : (n v w : ℕ) → rest D D.d3 ≡ 0φ → count n (child_dets 0 D) v ≡ count n (child_dets 3 D) w
  twins_3 n v w e =
      ap (λ (E : Determinants). count n E v)
      (λ i. three (twin D.d3 D.d1 D.d2 (solve φ_ring (D.d1 ∷ D.d2 ∷ D.d3 ∷ []) (var 0 ⊕ var 1 ⊕ var 2) (var 2 ⊕ var 0 ⊕ var 1) refl) e i)
      (twin D.d3 D.d2 D.d1 (solve φ_ring (D.d1 ∷ D.d2 ∷ D.d3 ∷ []) (var 0 ⊕ var 1 ⊕ var 2) (var 2 ⊕ var 1 ⊕ var 0) refl) e i) (itself D.d3 e i))
      ∙ count_first_two n (twice D.d1) (twice D.d2) (twice D.d3 -φ total D) v w

-- ---- any degree

abbrev Exact : (n : ℕ) → Type 0
Exact n = (D : Determinants) (v a b c : ℕ) → sgn D.d1 ≡ a → sgn D.d2 ≡ b → sgn D.d3 ≡ c → Holds (live a b c) → Holds (said (room a b c) (count n D v))

abbrev pub alive : Determinants → Test
alive D = live (sgn D.d1) (sgn D.d2) (sgn D.d3)

abbrev pub room_of : Determinants → ℕ
room_of D = room (sgn D.d1) (sgn D.d2) (sgn D.d3)

-- at once there is one where it holds
rooms : (a : ℕ) → a < 3 → (b : ℕ) → b < 3 → (c : ℕ) → c < 3 → Holds (most 1 (room a b c) then said (room a b c) 1)
rooms = sound (below 3 λ a. below 3 λ b. below 3 λ c. most 1 (room a b c) then said (room a b c) 1) refl

-- no room where one is negative
no_rooms : (a : ℕ) → a < 3 → (b : ℕ) → b < 3 → (c : ℕ) → c < 3 → Holds ((same a 0 or (same b 0 or same c 0)) then same (room a b c) 0)
no_rooms = sound (below 3 λ a. below 3 λ b. below 3 λ c. (same a 0 or (same b 0 or same c 0)) then same (room a b c) 0) refl

negative : (x : Golden) → non_neg x ≡ false → sgn x ≡ 0
unfolding sgn
negative x e = rw e refl

no_room : (D : Determinants) → holds D ≡ false → room_of D ≡ 0
unfolding holds
no_room D e = no_rooms _ (sgn_small D.d1) _ (sgn_small D.d2) _ (sgn_small D.d3) (go (non_neg D.d1) (non_neg D.d2) (non_neg D.d3) refl refl refl e)
  where
    go : (p q r : Bool) → non_neg D.d1 ≡ p → non_neg D.d2 ≡ q → non_neg D.d3 ≡ r → (p && (q && r)) ≡ false → (sgn D.d1 ≡ 0) ⊎ ((sgn D.d2 ≡ 0) ⊎ (sgn D.d3 ≡ 0))
    go true true true f g h e = let z : ◌≡◌ {A = ℕ} 0 1 = cc in absurd (omega arith)
    go true true false f g h e = inr (inr (negative D.d3 h))
    go true false r f g h e = inr (inl (negative D.d2 g))
    go false q r f g h e = inl (negative D.d1 f)

exact_now : (D : Determinants) (v : ℕ) → Holds (alive D) → Holds (said (room_of D) (count 0 D v))
exact_now D v l = go (holds D) refl
  where
    go : (b : Bool) → holds D ≡ b → Holds (said (room_of D) (count 0 D v))
    go true e =
        said_by {w = room_of D} refl (sym (count_now D v ∙ ap (λ (b : Bool). cond b 1 0) e)) (rooms _ (sgn_small D.d1) _ (sgn_small D.d2) _ (sgn_small D.d3) (room_held D e l))
    go false e = said_by (sym (no_room D e)) (sym (count_now D v ∙ ap (λ (b : Bool). cond b 1 0) e)) (sound (said 0 0) refl)

module _ (n : ℕ) (exact : Exact n) (D : Determinants) (v : ℕ) (l : Holds (alive D)) where
  abbrev x : ℕ
  x = sgn (rest D D.d1)

  abbrev y : ℕ
  y = sgn (rest D D.d2)

  abbrev z : ℕ
  z = sgn (rest D D.d3)

  abbrev m₀ : ℕ
  m₀ = count n (child_dets 0 D) (4 * v)

  abbrev m₁ : ℕ
  m₁ = count n (child_dets 1 D) (4 * v + 1)

  abbrev m₂ : ℕ
  m₂ = count n (child_dets 2 D) (4 * v + 2)

  abbrev m₃ : ℕ
  m₃ = count n (child_dets 3 D) (4 * v + 3)

  said_0 : Holds (said (room x y z) m₀)
  said_0 = exact (child_dets 0 D) (4 * v) x y z refl refl refl (divided D l).1.0

  said_1 : Holds (said (room (2 - x) (sgn D.d2) (sgn D.d3)) m₁)
  said_1 = exact (child_dets 1 D) (4 * v + 1) (2 - x) (sgn D.d2) (sgn D.d3) (rest_turned D D.d1) (sgn_twice D.d2) (sgn_twice D.d3) (divided D l).1.1.0

  said_2 : Holds (said (room (sgn D.d1) (2 - y) (sgn D.d3)) m₂)
  said_2 = exact (child_dets 2 D) (4 * v + 2) (sgn D.d1) (2 - y) (sgn D.d3) (sgn_twice D.d1) (rest_turned D D.d2) (sgn_twice D.d3) (divided D l).1.1.1.0

  said_3 : Holds (said (room (sgn D.d1) (sgn D.d2) (2 - z)) m₃)
  said_3 = exact (child_dets 3 D) (4 * v + 3) (sgn D.d1) (sgn D.d2) (2 - z) (sgn_twice D.d1) (sgn_twice D.d2) (rest_turned D D.d3) (divided D l).1.1.1.1

  exact_below : Holds (said (room_of D) (count (suc n) D v))
  exact_below =
      let e = holders_split n D v in
      let w = room_of D in
      let m = count (suc n) D v in
      ⊎_elim (λ a. alone_said said_0 said_1 said_2 said_3 w m a (omega (arith, e)))
      (⊎_elim (λ a. alone_said said_1 said_0 said_2 said_3 w m a (omega (arith, e)))
      (⊎_elim (λ a. alone_said said_2 said_0 said_1 said_3 w m a (omega (arith, e)))
      (⊎_elim (λ a. alone_said said_3 said_0 said_1 said_2 w m a (omega (arith, e)))
      (⊎_elim (λ a. ones_said said_0 said_1 said_2 said_3 w m a.0 a.1 (omega (arith, e)))
      (⊎_elim (λ a. twins_said said_0 said_1 said_2 said_3 x w m a.0 a.1 (twins_1 D n (4 * v) (4 * v + 1) (at_zero _ a.1.0)) (omega (arith, e)))
      (⊎_elim (λ a. twins_said said_0 said_2 said_1 said_3 y w m a.0 a.1 (twins_2 D n (4 * v) (4 * v + 2) (at_zero _ a.1.0)) (omega (arith, e)))
      (λ a. twins_said said_0 said_3 said_1 said_2 z w m a.0 a.1 (twins_3 D n (4 * v) (4 * v + 3) (at_zero _ a.1.0)) (omega (arith, e)))
      ))))))
      (shapes (sgn D.d1) (sgn_small _) (sgn D.d2) (sgn_small _) (sgn D.d3) (sgn_small _) x (sgn_small _) y (sgn_small _) z (sgn_small _) (sum_3 D, (sum_1 D, sum_2 D)) l)

abbrev Exactly : (n : ℕ) → Type 0
Exactly n = (D : Determinants) (v : ℕ) → Holds (alive D) → Holds (said (room_of D) (count n D v))

by_signs : (n : ℕ) → Exactly n → Exact n
by_signs n f D v a b c p q r l =
    let k : Holds (said (room_of D) (count n D v)) = f D v (rw (p, q, r) l) in
    rw (p, q, r) at k

pub exactly : (n : ℕ) → Exactly n
exactly zero = exact_now
exactly (suc n) = λ D v l. exact_below n (by_signs n (exactly n)) D v l
