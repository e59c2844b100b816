-- The order of ℤ, and the bridge to `omega`. An integer is its positive part less its negative part, `pp a - np a`, one of which is 0.
-- `dif p n` is p - n, shut: `simp (x, y, .., difs)` with `x : a ≡ dif p n` turns a statement over ℤ into one over ℕ, which `omega` proves.
-- Assumes nothing.
use mathlib.Core.Path.{◌≡◌, refl, ◌∙◌, ap}
use mathlib.Core.Logic.{◌⊎◌, inl, inr, ⊎_elim, ◌↔◌}
use mathlib.Core.List.{[], ◌∷◌}
use mathlib.Core.Bool.{Bool, true, false, not, cond}
use Prim.Native.Nat.{ℕ, zero, suc, ◌+◌, ◌*◌, ◌-◌, ◌≤◌, ◌<◌}
use native.Mathlib.Nat.{mul-le-mul_left}
use native.Mathlib.Decide.{dec_le}
use native.Mathlib.Omega.{arith}
use lib.Dec.{T, ltb, ltb→lt, nltb→le, leb→le, le→leb, lt→ltb}
use lib.IntN.{ℤ, pos, negsuc, neg_ℤ, sub_ℕ, ◌+ℤ◌, ◌-ℤ◌, ◌*ℤ◌, *ℤ-zero}
use lib.Signed.{◌≤ℤ◌, ◌<ℤ◌, le_z, lt_z}
use Rattle.golden.proofs.Polynomials.{var, lit, ◌⊕◌, ◌⊝◌, ◌⊗◌, ⊖}
use Rattle.golden.proofs.RingSolver.{solve}
use Rattle.golden.proofs.IntegerSolver.{ℤ-ring}

abbrev pub pp : ℤ → ℕ
pp (pos n) = n
pp (negsuc n) = 0

abbrev pub np : ℤ → ℕ
np (pos n) = 0
np (negsuc n) = suc n

-- ---- the order by the parts

le' : (a b : ℤ) → T (le_z a b) → pp a + np b ≤ pp b + np a
le' (pos a) (pos b) t = omega (arith, leb→le a b t)
le' (pos a) (negsuc b) t = absurd t
le' (negsuc a) (pos b) t = omega arith
le' (negsuc a) (negsuc b) t = omega (arith, leb→le b a t)

pub le→ : (a b : ℤ) → a ≤ℤ b → pp a + np b ≤ pp b + np a
le→ a b h = le' a b h.le

le'' : (a b : ℤ) → pp a + np b ≤ pp b + np a → T (le_z a b)
le'' (pos a) (pos b) h = le→leb a b (omega arith)
le'' (pos a) (negsuc b) h = let z : ⊥ = omega arith in absurd z
le'' (negsuc a) (pos b) h = tt
le'' (negsuc a) (negsuc b) h = le→leb b a (omega arith)

pub →le : (a b : ℤ) → pp a + np b ≤ pp b + np a → a ≤ℤ b
→le a b h = record { le = le'' a b h }

lt' : (a b : ℤ) → T (lt_z a b) → pp a + np b < pp b + np a
lt' (pos a) (pos b) t = omega (arith, ltb→lt a b t)
lt' (pos a) (negsuc b) t = absurd t
lt' (negsuc a) (pos b) t = omega arith
lt' (negsuc a) (negsuc b) t = omega (arith, ltb→lt b a t)

pub lt→ : (a b : ℤ) → a <ℤ b → pp a + np b < pp b + np a
lt→ a b h = lt' a b h.lt

lt'' : (a b : ℤ) → pp a + np b < pp b + np a → T (lt_z a b)
lt'' (pos a) (pos b) h = lt→ltb a b (omega arith)
lt'' (pos a) (negsuc b) h = let z : ⊥ = omega arith in absurd z
lt'' (negsuc a) (pos b) h = tt
lt'' (negsuc a) (negsuc b) h = lt→ltb b a (omega arith)

pub →lt : (a b : ℤ) → pp a + np b < pp b + np a → a <ℤ b
→lt a b h = record { lt = lt'' a b h }

pub eq→ : (a b : ℤ) → a ≡ b → pp a + np b ≡ pp b + np a
eq→ a b e = rw e

pub →eq : (a b : ℤ) → pp a + np b ≡ pp b + np a → a ≡ b
→eq (pos a) (pos b) h = let e : a ≡ b = omega arith in ap pos e
→eq (pos a) (negsuc b) h = let z : ⊥ = omega arith in absurd z
→eq (negsuc a) (pos b) h = let z : ⊥ = omega arith in absurd z
→eq (negsuc a) (negsuc b) h = let e : a ≡ b = omega arith in ap negsuc e

-- ---- the parts of a sum, a negation, a product

sub_parts : (a b : ℕ) → pp (sub_ℕ a b) + b ≡ np (sub_ℕ a b) + a
sub_parts a b = go (ltb a b) (ltb→lt a b) (nltb→le a b)
  where
    go : (c : Bool) → (T c → a < b) → (T (not c) → b ≤ a) → pp (cond c (negsuc (b - suc a)) (pos (a - b))) + b ≡ np (cond c (negsuc (b - suc a)) (pos (a - b))) + a
    go true f g = omega (arith, f tt)
    go false f g = omega (arith, g tt)

pub pn_add : (a b : ℤ) → pp (a +ℤ b) + (np a + np b) ≡ np (a +ℤ b) + (pp a + pp b)
pn_add (pos a) (pos b) = omega arith
pn_add (pos a) (negsuc b) = omega (arith, sub_parts a (suc b))
pn_add (negsuc a) (pos b) = omega (arith, sub_parts b (suc a))
pn_add (negsuc a) (negsuc b) = omega arith

pub pp_neg : (a : ℤ) → pp (neg_ℤ a) ≡ np a
pp_neg (pos zero) = refl
pp_neg (pos (suc n)) = refl
pp_neg (negsuc n) = refl

pub np_neg : (a : ℤ) → np (neg_ℤ a) ≡ pp a
np_neg (pos zero) = refl
np_neg (pos (suc n)) = refl
np_neg (negsuc n) = refl

-- ---- a difference of two naturals

unfoldable pub dif : ℕ → ℕ → ℤ
dif p n = pos p +ℤ neg_ℤ (pos n)

pub dif_add : (p n q m : ℕ) → dif p n +ℤ dif q m ≡ dif (p + q) (n + m)
unfolding dif
dif_add p n q m = solve ℤ-ring (pos p ∷ pos n ∷ pos q ∷ pos m ∷ []) ((var 0 ⊝ var 1) ⊕ (var 2 ⊝ var 3)) ((var 0 ⊕ var 2) ⊝ (var 1 ⊕ var 3)) refl

pub dif_mul : (p n q m : ℕ) → dif p n *ℤ dif q m ≡ dif (p * q + n * m) (p * m + n * q)
unfolding dif
dif_mul p n q m = solve ℤ-ring (pos p ∷ pos n ∷ pos q ∷ pos m ∷ []) ((var 0 ⊝ var 1) ⊗ (var 2 ⊝ var 3)) ((var 0 ⊗ var 2 ⊕ var 1 ⊗ var 3) ⊝ (var 0 ⊗ var 3 ⊕ var 1 ⊗ var 2)) refl

pub dif_neg : (p n : ℕ) → neg_ℤ (dif p n) ≡ dif n p
unfolding dif
dif_neg p n = solve ℤ-ring (pos p ∷ pos n ∷ []) (⊖ (var 0 ⊝ var 1)) (var 1 ⊝ var 0) refl

pub dif_pos : (k : ℕ) → pos k ≡ dif k 0
unfolding dif
dif_pos k = solve ℤ-ring (pos k ∷ []) (var 0) (var 0 ⊝ lit 0) refl

pub dif_neg_pos : (k : ℕ) → neg_ℤ (pos k) ≡ dif 0 k
dif_neg_pos k = ap neg_ℤ (dif_pos k) ∙ dif_neg k 0

pub dif_negsuc : (k : ℕ) → negsuc k ≡ dif 0 (suc k)
unfolding dif
dif_negsuc k = solve ℤ-ring (negsuc k ∷ []) (var 0) (lit 0 ⊕ var 0) refl

dif_parts : (p n : ℕ) → pp (dif p n) + n ≡ np (dif p n) + p
unfolding dif
dif_parts p n = omega (arith, pn_add (pos p) (neg_ℤ (pos n)), pp_neg (pos n), np_neg (pos n))

pub dif_le : (p n q m : ℕ) → (dif p n ≤ℤ dif q m) ↔ (p + m ≤ q + n)
dif_le p n q m = (
  (λ h. omega (arith, le→ (dif p n) (dif q m) h, dif_parts p n, dif_parts q m)),
  (λ h. →le (dif p n) (dif q m) (omega (arith, dif_parts p n, dif_parts q m))),
)

pub dif_lt : (p n q m : ℕ) → (dif p n <ℤ dif q m) ↔ (p + m < q + n)
dif_lt p n q m = (
  (λ h. omega (arith, lt→ (dif p n) (dif q m) h, dif_parts p n, dif_parts q m)),
  (λ h. →lt (dif p n) (dif q m) (omega (arith, dif_parts p n, dif_parts q m))),
)

pub dif_eq : (p n q m : ℕ) → (dif p n ≡ dif q m) ↔ (p + m ≡ q + n)
dif_eq p n q m = (
  (λ h. omega (arith, eq→ (dif p n) (dif q m) h, dif_parts p n, dif_parts q m)),
  (λ h. →eq (dif p n) (dif q m) (omega (arith, dif_parts p n, dif_parts q m))),
)

pub ruleset difs = (dif_add, dif_mul, dif_neg, dif_pos, dif_neg_pos, dif_negsuc, dif_le, dif_lt, dif_eq)

-- to prove anything, take `a` apart
pub split : (a : ℤ) {G : Type 0} → ((p n : ℕ) → a ≡ dif p n → G) → G
unfolding dif
split (pos k) g = g k 0 (dif_pos k)
split (negsuc k) g = g 0 (suc k) (dif_negsuc k)

-- for facts whose sides are variables and literals; a sum in a fact wants `pn_add a b` in the list
pub ruleset zarith = (arith, le→, →le, lt→, →lt, →eq)

-- ---- laws of the order

pub le_or_lt : (m n : ℕ) → (m ≤ n) ⊎ (n < m)
le_or_lt m n = go (dec_le m n)
  where
    go : Dec (m ≤ n) → (m ≤ n) ⊎ (n < m)
    go (yes h) = inl h
    go (no f) = inr (omega (arith, f))

pub le_or_ltℤ : (a b : ℤ) → (a ≤ℤ b) ⊎ (b <ℤ a)
le_or_ltℤ a b = ⊎_elim (λ h. inl (→le a b h)) (λ h. inr (→lt b a h)) (le_or_lt (pp a + np b) (pp b + np a))

pub le_antisym : {a b : ℤ} → a ≤ℤ b → b ≤ℤ a → a ≡ b
le_antisym {a} {b} h k = omega zarith

pub mul_mono : (c : ℤ) {a b : ℤ} → pos 0 ≤ℤ c → a ≤ℤ b → (c *ℤ a) ≤ℤ (c *ℤ b)
mul_mono (pos c) {a} {b} g h = split a λ p n x. split b λ q m y.
    let h' : p + m ≤ q + n = simp (x, y, difs) at h in
    simp (x, y, difs) (omega (arith, mul-le-mul_left c h'))
mul_mono (negsuc c) g h = absurd g.le

pub mul_nonneg : {a b : ℤ} → pos 0 ≤ℤ a → pos 0 ≤ℤ b → pos 0 ≤ℤ (a *ℤ b)
mul_nonneg {a} {b} h k = rw (*ℤ-zero a) at (mul_mono a h k)

-- a ≤ b is 0 ≤ b - a
pub sub_nonneg : {a b : ℤ} → a ≤ℤ b → pos 0 ≤ℤ (b -ℤ a)
sub_nonneg {a} {b} h = split a λ p n x. split b λ q m y. simp (x, y, difs) (omega (arith, simp (x, y, difs) at h))

pub le_by : (a b d : ℤ) → b -ℤ a ≡ d → pos 0 ≤ℤ d → a ≤ℤ b
le_by a b d e h =
    let k : pos 0 ≤ℤ (b -ℤ a) = rw e h in
    split a λ p n x. split b λ q m y. simp (x, y, difs) (omega (arith, simp (x, y, difs) at k))

-- a difference of naturals, by its sign
pub sub_ind : (P : ℤ → Type 0) (a b : ℕ) → ((k : ℕ) → a ≡ k + b → P (pos k)) → ((k : ℕ) → b ≡ suc k + a → P (negsuc k)) → P (sub_ℕ a b)
sub_ind P a b f g = go (ltb a b) (ltb→lt a b) (nltb→le a b)
  where
    go : (c : Bool) → (T c → a < b) → (T (not c) → b ≤ a) → P (cond c (negsuc (b - suc a)) (pos (a - b)))
    go true h l = g (b - suc a) (omega (arith, h tt))
    go false h l = f (a - b) (omega (arith, l tt))

-- to use s ≤ t, take the difference
pub pos_of : {s t : ℤ} {G : Type 0} → s ≤ℤ t → ((n : ℕ) → t ≡ s +ℤ pos n → G) → G
pos_of {s} {t} h g = split s λ p n x. split t λ q m y.
    let l : p + m ≤ q + n = simp (x, y, difs) at h in
    g ((q + n) - (p + m)) (simp (x, y, difs) (omega arith))
