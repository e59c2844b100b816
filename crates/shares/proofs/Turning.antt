-- The two words of a triangle's digits from its floors, all levels at once: a digit's bits are the floors' own bits,
-- turned over where the triangle above points down, and that is so where the floors above have an even sum. Assumes
-- nothing.
use mathlib.Core.Path.{◌≡◌, refl, sym, ◌∙◌, ap, subst}
use Prim.Native.Nat.{ℕ, zero, suc, ◌+◌, ◌-◌, ◌*◌, ◌/◌, ◌%◌, ◌^◌, ◌<◌}
use native.Mathlib.Nat.{pow-suc, mod-lt}
use native.Mathlib.Omega.{arith}
use lib.Bits.{bit_or, bit_xor, xor_block, or_block, xor_lt}
use lib.Pow.{high, low, split, shr_lt, pow_pos}
use Rattle.shares.specs.declared.Floors.{Floors}
use Rattle.shares.specs.Means.Bits.{low_word, high_word, Whole}
use Rattle.shares.proofs.Choosing.{choose_strict}
use Rattle.shares.proofs.Spreading.{bit_more, digit, child}

unfoldable pub mix : (x a c : ℕ) → ℕ
mix x a c = bit_or (bit_xor a x) (bit_xor c x)

unfoldable pub odd3 : (a b c : ℕ) → ℕ
odd3 a b c = bit_xor (bit_xor a b) c

-- which triangles on the way point down: the first if o is 1, the others by the bits of x
unfoldable flips : (r o x : ℕ) → ℕ
flips zero o x = 0
flips (suc r) o x = o * 2 ^ r + flips r (1 - x / 2 ^ r) (x % 2 ^ r)

flips_small : (r o x : ℕ) → o < 2 → flips r o x < 2 ^ r
unfolding flips
flips_small zero o x h = omega arith
flips_small (suc r) o x h = bit_more r o _ h (flips_small r (1 - x / 2 ^ r) (x % 2 ^ r) (omega arith))

-- ---- one level

module _ (n b1 b2 b3 g1 g2 g3 : ℕ) (l1 : g1 < 2 ^ n) (l2 : g2 < 2 ^ n) (l3 : g3 < 2 ^ n) where
  abbrev whole : ℕ
  whole = odd3 (b1 * 2 ^ n + g1) (b2 * 2 ^ n + g2) (b3 * 2 ^ n + g3)

  odd_block : whole ≡ odd3 b1 b2 b3 * 2 ^ n + odd3 g1 g2 g3
  unfolding odd3
  odd_block =
      ap (λ (z : ℕ). bit_xor z (b3 * 2 ^ n + g3)) (xor_block n b1 b2 g1 g2 l1 l2)
      ∙ xor_block n (bit_xor b1 b2) b3 (bit_xor g1 g2) g3 (xor_lt n g1 g2 l1 l2) l3

  odd_small : odd3 g1 g2 g3 < 2 ^ n
  unfolding odd3
  odd_small = xor_lt n (bit_xor g1 g2) g3 (xor_lt n g1 g2 l1 l2) l3

  flips_block : (o : ℕ) → flips (suc n) o whole ≡ o * 2 ^ n + flips n (1 - odd3 b1 b2 b3) (odd3 g1 g2 g3)
  unfolding flips
  flips_block o =
      ap (λ (x : ℕ). o * 2 ^ n + flips n (1 - x / 2 ^ n) (x % 2 ^ n)) odd_block
      ∙ λ i. o * 2 ^ n + flips n (1 - high (odd3 b1 b2 b3) n odd_small i) (low (odd3 b1 b2 b3) n odd_small i)

mix_block :
    (n o a c x g k : ℕ)
    → x < 2 ^ n
    → g < 2 ^ n
    → k < 2 ^ n
    → mix (o * 2 ^ n + x) (a * 2 ^ n + g) (c * 2 ^ n + k) ≡ mix o a c * 2 ^ n + mix x g k
unfolding mix
mix_block n o a c x g k lx lg lk =
    (λ i. bit_or (xor_block n a o g x lg lx i) (xor_block n c o k x lk lx i))
    ∙ or_block n (bit_xor a o) (bit_xor c o) (bit_xor g x) (bit_xor k x) (xor_lt n g x lg lx) (xor_lt n k x lk lx)

-- ---- all levels

-- the floor as it is, or turned over
abbrev turned : (p o f : ℕ) → ℕ
turned p zero f = f
turned p (suc o) f = p - suc f

abbrev downs : (r o : ℕ) → Floors → ℕ
downs r o F = flips r o (odd3 (turned (2 ^ r) o F.f1) (turned (2 ^ r) o F.f2) (turned (2 ^ r) o F.f3))

record Flat (r o : ℕ) (F : Floors) (low high : ℕ) : Type 0 where
  pub low_is : low ≡ mix (downs r o F) (turned (2 ^ r) o F.f1) (turned (2 ^ r) o F.f3)
  pub high_is : high ≡ mix (downs r o F) (turned (2 ^ r) o F.f2) (turned (2 ^ r) o F.f3)

-- the words of a triangle from those of its child: m are its floors, b their first bits, and g the rest, the child's
module _ (n o b1 b2 b3 g1 g2 g3 m1 m2 m3 : ℕ) (lo : o < 2) (l1 : g1 < 2 ^ n) (l2 : g2 < 2 ^ n) (l3 : g3 < 2 ^ n)
    (e1 : m1 ≡ b1 * 2 ^ n + g1) (e2 : m2 ≡ b2 * 2 ^ n + g2) (e3 : m3 ≡ b3 * 2 ^ n + g3) where
  abbrev x' : ℕ
  x' = flips n (1 - odd3 b1 b2 b3) (odd3 g1 g2 g3)

  turn_is : flips (suc n) o (odd3 m1 m2 m3) ≡ o * 2 ^ n + x'
  turn_is = (λ i. flips (suc n) o (odd3 (e1 i) (e2 i) (e3 i))) ∙ flips_block n b1 b2 b3 g1 g2 g3 l1 l2 l3 o

  level :
      (b g m : ℕ)
      → g < 2 ^ n
      → m ≡ b * 2 ^ n + g
      → mix (flips (suc n) o (odd3 m1 m2 m3)) m m3 ≡ mix o b b3 * 2 ^ n + mix x' g g3
  level b g m l e =
      (λ i. mix (turn_is i) (e i) (e3 i))
      ∙ mix_block n o b b3 x' g g3 (flips_small n _ _ (omega arith)) l l3

module _ (n o o' : ℕ) (F G : Floors) (b1 b2 b3 lw hw : ℕ) (lo : o < 2) (w : Whole (2 ^ n) G)
    (i : Flat n o' G lw hw) (eo : 1 - odd3 b1 b2 b3 ≡ o') where
  abbrev t : ℕ → ℕ
  t f = turned (2 ^ n) o' f

  abbrev m : ℕ → ℕ
  m f = turned (2 ^ suc n) o f

  small : (k f : ℕ) → f < 2 ^ n → turned (2 ^ n) k f < 2 ^ n
  small zero f l = l
  small (suc k) f l = omega arith

  s1 : t G.f1 < 2 ^ n
  s1 = small o' G.f1 (omega (arith, w.most))

  s2 : t G.f2 < 2 ^ n
  s2 = small o' G.f2 (omega (arith, w.most))

  s3 : t G.f3 < 2 ^ n
  s3 = small o' G.f3 (omega (arith, w.most))

  abbrev by_bits : ℕ → ℕ → ℕ
  by_bits p f = mix (flips n p (odd3 (t G.f1) (t G.f2) (t G.f3))) (t f) (t G.f3)

  join :
      m F.f1 ≡ b1 * 2 ^ n + t G.f1
      → m F.f2 ≡ b2 * 2 ^ n + t G.f2
      → m F.f3 ≡ b3 * 2 ^ n + t G.f3
      → Flat (suc n) o F (mix o b1 b3 * 2 ^ n + lw) (mix o b2 b3 * 2 ^ n + hw)
  join e1 e2 e3 =
      let lv = level n o b1 b2 b3 (t G.f1) (t G.f2) (t G.f3) _ _ _ lo s1 s2 s3 e1 e2 e3 in
      record {
        low_is = ap (λ (z : ℕ). mix o b1 b3 * 2 ^ n + z) (i.low_is ∙ λ j. by_bits (sym eo j) G.f1)
            ∙ sym (lv b1 (t G.f1) (m F.f1) s1 e1);
        high_is = ap (λ (z : ℕ). mix o b2 b3 * 2 ^ n + z) (i.high_is ∙ λ j. by_bits (sym eo j) G.f2)
            ∙ sym (lv b2 (t G.f2) (m F.f2) s2 e2);
      }

whole_child : (h : ℕ) (F : Floors) → Whole (h + h) F → Whole h (child h F)
whole_child h F w = choose_strict h F (λ d G. Whole h G)
    (λ a. record { least = omega (arith, w.least); most = omega (arith, w.most) })
    (λ a b. record { least = omega (arith, w.least); most = omega (arith, w.most) })
    (λ a b c. record { least = omega (arith, w.least); most = omega (arith, w.most) })
    (λ a b c. record { least = omega (arith, w.most); most = omega (arith, w.least) })

flat_end : (o : ℕ) (F : Floors) → Whole 1 F → o < 2 → Flat 0 o F 0 0
unfolding mix flips
flat_end o F w l =
    let e1 : F.f1 ≡ 0 = omega (arith, w.most) in
    let e2 : F.f2 ≡ 0 = omega (arith, w.most) in
    let e3 : F.f3 ≡ 0 = omega (arith, w.most) in
    go o l e1 e2 e3
  where
    go : (o : ℕ) → o < 2 → F.f1 ≡ 0 → F.f2 ≡ 0 → F.f3 ≡ 0 → Flat 0 o F 0 0
    go zero l e1 e2 e3 = record { low_is = rw (e1, e3) refl; high_is = rw (e2, e3) refl }
    go (suc zero) l e1 e2 e3 = record { low_is = rw (e1, e3) refl; high_is = rw (e2, e3) refl }
    go (suc (suc o)) l e1 e2 e3 = absurd (omega arith)

-- the child's words for either way it points give those of the triangle, which points as o says
abbrev Lifts : (n o : ℕ) (F : Floors) (d : ℕ) (G : Floors) → Type 0
Lifts n o F d G =
    Whole (2 ^ n) G
    → ((p : ℕ) → p < 2 → Flat n p G (low_word n G) (high_word n G))
    → Flat (suc n) o F ((d % 2) * 2 ^ n + low_word n G) ((d / 2) * 2 ^ n + high_word n G)

lifts :
    (n o : ℕ) (F : Floors)
    → o < 2
    → 2 ^ suc n ≡ 2 ^ n + 2 ^ n
    → Whole (2 ^ n + 2 ^ n) F
    → Lifts n o F (digit (2 ^ n) F) (child (2 ^ n) F)
unfolding mix odd3
lifts n zero F l p w = choose_strict (2 ^ n) F (Lifts n 0 F)
    (λ a w i. join n 0 0 F _ 1 0 0 _ _ l w (i 0 (omega arith)) refl (omega arith) (omega arith) (omega arith))
    (λ a b w i. join n 0 0 F _ 0 1 0 _ _ l w (i 0 (omega arith)) refl (omega arith) (omega arith) (omega arith))
    (λ a b c w i. join n 0 0 F _ 0 0 1 _ _ l w (i 0 (omega arith)) refl (omega arith) (omega arith) (omega arith))
    (λ a b c w i. join n 0 1 F _ 0 0 0 _ _ l w (i 1 (omega arith)) refl (omega arith) (omega arith) (omega arith))
lifts n (suc zero) F l p w =
    let most : F.f1 + F.f2 + F.f3 < 2 ^ n + 2 ^ n = w.most in
    choose_strict (2 ^ n) F (Lifts n 1 F)
    (λ a w i. join n 1 1 F _ 0 1 1 _ _ l w (i 1 (omega arith)) refl (omega arith) (omega arith) (omega arith))
    (λ a b w i. join n 1 1 F _ 1 0 1 _ _ l w (i 1 (omega arith)) refl (omega arith) (omega arith) (omega arith))
    (λ a b c w i. join n 1 1 F _ 1 1 0 _ _ l w (i 1 (omega arith)) refl (omega arith) (omega arith) (omega arith))
    (λ a b c w i. join n 1 0 F _ 1 1 1 _ _ l w (i 0 (omega arith)) refl (omega arith) (omega arith) (omega arith))
lifts n (suc (suc o)) F l p w = absurd (omega arith)

flat : (r o : ℕ) (F : Floors) → o < 2 → Whole (2 ^ r) F → Flat r o F (low_word r F) (high_word r F)
unfolding low_word high_word
flat zero o F l w = flat_end o F w l
flat (suc n) o F l w =
    let p : 2 ^ suc n ≡ 2 ^ n + 2 ^ n = omega (arith, pow-suc 2 n) in
    let wh : Whole (2 ^ n + 2 ^ n) F = rw p at w in
    let wc = whole_child (2 ^ n) F wh in
    lifts n o F l p wh wc (λ o lo. flat n o (child (2 ^ n) F) lo wc)

-- ---- in closed form

closed_step :
    (r b y : ℕ)
    → b < 2
    → y < 2 ^ suc r
    → (1 - b) * 2 ^ r + (2 ^ suc r - suc y) / 2 ≡ (2 ^ suc (suc r) - suc (b * 2 ^ suc r + y)) / 2
closed_step r zero y l h = omega (arith, pow-suc 2 r, pow-suc 2 (suc r))
closed_step r (suc zero) y l h = omega (arith, pow-suc 2 r, pow-suc 2 (suc r))
closed_step r (suc (suc b)) y l h = absurd (omega arith)

flips_more : (r o x : ℕ) → flips (suc r) o x ≡ o * 2 ^ r + flips r (1 - x / 2 ^ r) (x % 2 ^ r)
unfolding flips
flips_more r o x = refl

flips_closed : (r o x : ℕ) → x < 2 ^ suc r → flips (suc r) o x ≡ o * 2 ^ r + (2 ^ suc r - suc x) / 2
flips_closed zero o x h =
    rw (flips_more 0 o x) (omega (arith, flips_small 0 (1 - x / 1) (x % 1) (omega arith)))
flips_closed (suc r) o x h =
    let b = x / 2 ^ suc r in
    let y = x % 2 ^ suc r in
    let one : suc (suc r) ≡ 1 + suc r = omega arith in
    let lb : b < 2 = shr_lt 1 (suc r) (subst (λ (m : ℕ). x < 2 ^ m) one h) in
    let ly : y < 2 ^ suc r = mod-lt x (pow_pos (suc r)) in
    flips_more (suc r) o x
    ∙ ap (λ (z : ℕ). o * 2 ^ suc r + z) (flips_closed r (1 - b) y ly ∙ closed_step r b y lb ly)
    ∙ ap (λ (z : ℕ). o * 2 ^ suc r + (2 ^ suc (suc r) - suc z) / 2) (split x (suc r))

-- the two words of a triangle's digits, for 24 levels
module _ (F : Floors) (w : Whole (2 ^ 24) F) where
  abbrev pub X : ℕ
  X = odd3 F.f1 F.f2 F.f3

  pub X-small : X < 2 ^ 24
  unfolding odd3
  X-small =
      let s1 : F.f1 < 2 ^ 24 = omega (arith, w.most) in
      let s2 : F.f2 < 2 ^ 24 = omega (arith, w.most) in
      let s3 : F.f3 < 2 ^ 24 = omega (arith, w.most) in
      xor_lt 24 (bit_xor F.f1 F.f2) F.f3 (xor_lt 24 F.f1 F.f2 s1 s2) s3

  turn_24 : flips 24 0 X ≡ (16777215 - X) / 2
  turn_24 = flips_closed 23 0 X X-small ∙ omega arith

  pub low_24 : low_word 24 F ≡ mix ((16777215 - X) / 2) F.f1 F.f3
  low_24 = (flat 24 0 F (omega arith) w).low_is ∙ ap (λ (x : ℕ). mix x F.f1 F.f3) turn_24

  pub high_24 : high_word 24 F ≡ mix ((16777215 - X) / 2) F.f2 F.f3
  high_24 = (flat 24 0 F (omega arith) w).high_is ∙ ap (λ (x : ℕ). mix x F.f2 F.f3) turn_24
