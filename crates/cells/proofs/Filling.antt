-- Letters filled up with zeros to one length, as one number: the order of a dictionary is that of these numbers and
-- then of the lengths, and what begins with letters ends before their end. Assumes nothing.
use mathlib.Core.Path.{◌≡◌, ◌∙◌, refl, sym, ap}
use mathlib.Core.Bool.{true, true≢false}
use mathlib.Core.Logic.{◌⊎◌, inl, inr, ⊎_elim}
use mathlib.Core.List.{List, [], ◌∷◌, ◌++◌}
use Prim.Native.Nat.{ℕ, zero, suc, ◌+◌, ◌-◌, ◌*◌, ◌^◌, ◌≤◌, ◌<◌}
use native.Mathlib.Nat.{eq-or-lt_of_le, mul-le-mul_right, suc-mul}
use native.Mathlib.Omega.{arith}
use lib.ListN.{length}
use lib.Pow.{pow-add}
use Rattle.cells.specs.Order.{sooner, begins}
use Rattle.cells.proofs.Dictionary.{Decided, sooner_cons, begins_cons, begins_same}

-- every letter is a digit
abbrev pub Digs : List ℕ → Type 0
Digs [] = Unit {0}
Digs (x ∷ xs) = (x < 4) × Digs xs

-- letters after a, filled up to k of them
abbrev pub fill : (k a : ℕ) → List ℕ → ℕ
fill zero a [] = a
fill zero a (x ∷ xs) = a
fill (suc k) a [] = fill k (4 * a) []
fill (suc k) a (x ∷ xs) = fill k (4 * a + x) xs

-- ---- powers of 4

pub four_suc : (k : ℕ) → 4 ^ suc k ≡ 4 * 4 ^ k
four_suc k = let s : suc k ≡ 1 + k = omega arith in ap (λ (j : ℕ). 4 ^ j) s ∙ pow-add 4 1 k

times_suc : (a k : ℕ) → a * 4 ^ suc k ≡ (4 * a) * 4 ^ k
times_suc a k = ap (λ (j : ℕ). a * j) (four_suc k) ∙ omega arith

-- one digit more stays below the next of what it is added to
next_four : (a x k : ℕ) → x < 4 → suc (4 * a + x) * 4 ^ k ≤ suc a * 4 ^ suc k
next_four a x k l =
    let m : suc (4 * a + x) * 4 ^ k ≤ (4 * suc a) * 4 ^ k = mul-le-mul_right (4 ^ k) (omega (arith, l)) in
    omega (arith, m, times_suc (suc a) k)

-- ---- bounds

pub fill_low : (k a : ℕ) (xs : List ℕ) → a * 4 ^ k ≤ fill k a xs
fill_low zero a [] = omega arith
fill_low zero a (x ∷ xs) = omega arith
fill_low (suc k) a [] = omega (arith, times_suc a k, fill_low k (4 * a) [])
fill_low (suc k) a (x ∷ xs) =
    let m : (4 * a) * 4 ^ k ≤ (4 * a + x) * 4 ^ k = mul-le-mul_right (4 ^ k) (omega arith) in
    omega (arith, times_suc a k, fill_low k (4 * a + x) xs)

fill_nil : (k a : ℕ) → fill k a [] ≡ a * 4 ^ k
fill_nil zero a = omega arith
fill_nil (suc k) a = fill_nil k (4 * a) ∙ sym (times_suc a k)

-- the end of what begins with letters after a
pub fill_end : (k a : ℕ) (xs : List ℕ) → length xs ≤ k → Digs xs
    → fill k a xs + 4 ^ (k - length xs) ≤ suc a * 4 ^ k
fill_end k a [] l d = let z : k - 0 ≡ k = omega arith in rw z (omega (arith, fill_nil k a, suc-mul a (4 ^ k)))
fill_end zero a (x ∷ xs) l d = absurd (omega arith)
fill_end (suc k) a (x ∷ xs) l d =
    let e : suc k - suc (length xs) ≡ k - length xs = omega arith in
    let ih : fill k (4 * a + x) xs + 4 ^ (k - length xs) ≤ suc (4 * a + x) * 4 ^ k =
    fill_end k (4 * a + x) xs (omega arith) d.1 in
    rw e (omega (arith, ih, next_four a x k d.0))

fill_high : (k a : ℕ) (xs : List ℕ) → Digs xs → fill k a xs < suc a * 4 ^ k
fill_high zero a [] d = omega arith
fill_high zero a (x ∷ xs) d = omega arith
fill_high (suc k) a [] d = omega (arith, fill_high k (4 * a) [] tt, next_four a 0 k (omega arith))
fill_high (suc k) a (x ∷ xs) d = omega (arith, fill_high k (4 * a + x) xs d.1, next_four a x k d.0)

-- what stands in front decides
pub fill_less : (k a b : ℕ) (xs ys : List ℕ) → Digs xs → a < b → fill k a xs < fill k b ys
fill_less k a b xs ys d l =
    let m : suc a * 4 ^ k ≤ b * 4 ^ k = mul-le-mul_right (4 ^ k) l in
    omega (arith, fill_high k a xs d, fill_low k b ys)

-- ---- the order

-- before by the numbers, and then by the lengths
abbrev pub Before : (p n q m : ℕ) → Type 0
Before p n q m = (p < q) ⊎ ((p ≡ q) × (n < m))

pub fill_sooner : (k a : ℕ) (xs ys : List ℕ) → length xs ≤ k → length ys ≤ k → Digs xs → sooner xs ys ≡ true
    → Before (fill k a xs) (length xs) (fill k a ys) (length ys)
fill_sooner k a [] [] l m d h = absurd (unfold sooner in true≢false (sym h))
fill_sooner k a [] (y ∷ ys) l m d h =
    let e : fill k a [] ≡ a * 4 ^ k = fill_nil k a in
    ⊎_elim (λ z. inr (e ∙ z, omega arith)) (λ z. inl (rw e z)) (eq-or-lt_of_le (fill_low k a (y ∷ ys)))
fill_sooner k a (x ∷ xs) [] l m d h = absurd (unfold sooner in true≢false (sym h))
fill_sooner zero a (x ∷ xs) (y ∷ ys) l m d h = absurd (omega arith)
fill_sooner (suc k) a (x ∷ xs) (y ∷ ys) l m d h =
    go (sooner_cons x y xs ys h) (fill_sooner k (4 * a + x) xs ys (omega arith) (omega arith) d.1)
  where
    go : Decided x y xs ys
        → (sooner xs ys ≡ true → Before (fill k (4 * a + x) xs) (length xs) (fill k (4 * a + x) ys) (length ys))
        → Before (fill k (4 * a + x) xs) (suc (length xs)) (fill k (4 * a + y) ys) (suc (length ys))
    go (inl z) ih = inl (fill_less k (4 * a + x) (4 * a + y) xs ys d.1 (omega arith))
    go (inr z) ih =
        let e : fill k (4 * a + x) ys ≡ fill k (4 * a + y) ys = ap (λ (j : ℕ). fill k (4 * a + j) ys) z.0 in
        ⊎_elim (λ p. inl (rw e at p)) (λ p. inr (p.0 ∙ e, omega (arith, p.1))) (ih z.1)

-- ---- beginnings

-- what begins with letters stands before their end
pub begins_end : (k a : ℕ) (xs ys : List ℕ) → length xs ≤ k → Digs ys → begins xs ys ≡ true
    → fill k a ys < fill k a xs + 4 ^ (k - length xs)
begins_end k a [] ys l d h =
    let z : k - 0 ≡ k = omega arith in
    rw (fill_nil k a) (omega (arith, fill_high k a ys d, ap (λ (j : ℕ). 4 ^ j) z, suc-mul a (4 ^ k)))
begins_end zero a (x ∷ xs) ys l d h = absurd (omega arith)
begins_end (suc k) a (x ∷ xs) [] l d h = absurd (unfold begins in true≢false (sym h))
begins_end (suc k) a (x ∷ xs) (y ∷ ys) l d h =
    let p = begins_cons x y xs ys h in
    let z : suc k - suc (length xs) ≡ k - length xs = omega arith in
    rw (z, ← p.0) (begins_end k (4 * a + x) xs ys (omega arith) d.1 p.1)

-- what comes after letters and stands before their end begins with them
pub end_begins : (k a : ℕ) (xs ys : List ℕ) → length xs ≤ k → Digs xs → sooner xs ys ≡ true
    → fill k a ys < fill k a xs + 4 ^ (k - length xs) → begins xs ys ≡ true
end_begins k a [] [] l d h b = absurd (unfold sooner in true≢false (sym h))
end_begins k a [] (y ∷ ys) l d h b = unfold begins in refl
end_begins zero a (x ∷ xs) ys l d h b = absurd (omega arith)
end_begins (suc k) a (x ∷ xs) [] l d h b = absurd (unfold sooner in true≢false (sym h))
end_begins (suc k) a (x ∷ xs) (y ∷ ys) l d h b =
    go (sooner_cons x y xs ys h) (end_begins k (4 * a + x) xs ys (omega arith) d.1)
  where
    z : suc k - suc (length xs) ≡ k - length xs
    z = omega arith

    c : fill k (4 * a + y) ys < fill k (4 * a + x) xs + 4 ^ (k - length xs)
    c = rw z at b

    go : Decided x y xs ys
        → (sooner xs ys ≡ true → fill k (4 * a + x) ys < fill k (4 * a + x) xs + 4 ^ (k - length xs)
        → begins xs ys ≡ true)
        → begins (x ∷ xs) (y ∷ ys) ≡ true
    go (inl q) ih =
        let p = mul-le-mul_right (4 ^ k) (let j : suc (4 * a + x) ≤ 4 * a + y = omega arith in j) in
        absurd (omega (arith, c, p, fill_low k (4 * a + y) ys, fill_end k (4 * a + x) xs (omega arith) d.1))
    go (inr (e, s)) ih =
        let q : fill k (4 * a + x) ys ≡ fill k (4 * a + y) ys = ap (λ (j : ℕ). fill k (4 * a + j) ys) e in
        begins_same x y xs ys e ∙ ih s (omega (arith, q, c))

-- ---- one letter more

pub digs_append : (xs : List ℕ) (d : ℕ) → Digs xs → d < 4 → Digs (xs ++ (d ∷ []))
digs_append [] d a h = (h, tt)
digs_append (x ∷ xs) d a h = (a.0, digs_append xs d a.1 h)

pub fill_append : (k a : ℕ) (xs : List ℕ) (d : ℕ) → length xs < k
    → fill k a (xs ++ (d ∷ [])) ≡ fill k a xs + d * 4 ^ (k - suc (length xs))
fill_append zero a xs d l = absurd (omega arith)
fill_append (suc k) a [] d l =
    let e : suc k - 1 ≡ k = omega arith in
    let g : (4 * a + d) * 4 ^ k ≡ (4 * a) * 4 ^ k + d * 4 ^ k = omega arith in
    fill_nil k (4 * a + d) ∙ g ∙ (λ i. sym (fill_nil k (4 * a)) i + d * 4 ^ sym e i)
fill_append (suc k) a (x ∷ xs) d l =
    let e : suc k - suc (suc (length xs)) ≡ k - suc (length xs) = omega arith in
    fill_append k (4 * a + x) xs d (omega arith) ∙ (λ i. fill k (4 * a + x) xs + d * 4 ^ sym e i)
