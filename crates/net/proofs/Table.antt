-- Finite rules by computation: a test is a statement that antt decides, and `sound` turns the computed answer into the statement.
-- Assumes nothing.
use mathlib.Core.Path.{◌≡◌, refl, sym, ◌∙◌}
use mathlib.Core.Bool.{Bool, true, false}
use mathlib.Core.Logic.{◌⊎◌, inl, inr}
use Prim.Native.Nat.{ℕ, zero, suc, ◌+◌, ◌≤◌, ◌<◌}
use native.Mathlib.Omega.{arith}
use lib.Dec.{eqb, ltb}
use borrow.Author.Tests.{eqb-true, eqb-false, ltb-true, ltb-false}
use Rattle.net.specs.Sides.{IsSide, OneToThree}

infixr 30 ◌and◌
infixr 25 ◌or◌
infixr 20 ◌then◌
pub data Test : Type 0 where
  so : Bool → Test
  same : ℕ → ℕ → Test
  less : ℕ → ℕ → Test
  most : ℕ → ℕ → Test
  no : Test → Test
  ◌and◌ : Test → Test → Test
  ◌or◌ : Test → Test → Test
  ◌then◌ : Test → Test → Test
  sides : (ℕ → Test) → Test
  threes : (ℕ → Test) → Test
  below : ℕ → (ℕ → Test) → Test
  some : ℕ → (ℕ → Test) → Test

abbrev pub Holds : Test → Type 0
Holds (so b) = b ≡ true
Holds (same m n) = m ≡ n
Holds (less m n) = m < n
Holds (most m n) = m ≤ n
Holds (no t) = Holds t → ⊥
Holds (t and u) = Holds t × Holds u
Holds (t or u) = Holds t ⊎ Holds u
Holds (t then u) = Holds t → Holds u
Holds (sides f) = (s : ℕ) → IsSide s → Holds (f s)
Holds (threes f) = (i : ℕ) → OneToThree i → Holds (f i)
Holds (below n f) = (i : ℕ) → i < n → Holds (f i)
Holds (some n f) = (i : ℕ) × (i < n) × Holds (f i)

abbrev both : Bool → Bool → Bool
both true b = b
both false b = false

abbrev either : Bool → Bool → Bool
either true b = true
either false b = b

abbrev not : Bool → Bool
not true = false
not false = true

-- f at a, a + 1, .., n of them
abbrev all : ℕ → ℕ → (ℕ → Bool) → Bool
all a zero f = true
all a (suc n) f = both (f a) (all (suc a) n f)

-- f at one of them
abbrev any : ℕ → ℕ → (ℕ → Bool) → Bool
any a zero f = false
any a (suc n) f = either (f a) (any (suc a) n f)

abbrev pub passes : Test → Bool
passes (so b) = b
passes (same m n) = eqb m n
passes (less m n) = ltb m n
passes (most m n) = ltb m (suc n)
passes (no t) = not (passes t)
passes (t and u) = both (passes t) (passes u)
passes (t or u) = not (both (not (passes t)) (not (passes u)))
passes (t then u) = not (both (passes t) (not (passes u)))
passes (sides f) = all 4 20 (λ s. passes (f s))
passes (threes f) = all 1 3 (λ i. passes (f i))
passes (below n f) = all 0 n (λ i. passes (f i))
passes (some n f) = any 0 n (λ i. passes (f i))

-- over 1, 2, 3
pub three : (P : ℕ → Type 0) → P 1 → P 2 → P 3 → (i : ℕ) → OneToThree i → P i
three P a b c zero h = absurd (omega arith)
three P a b c (suc zero) h = a
three P a b c (suc (suc zero)) h = b
three P a b c (suc (suc (suc zero))) h = c
three P a b c (suc (suc (suc (suc i)))) h = absurd (omega arith)

-- what an answer says of a statement
abbrev Says : Bool → Type 0 → Type 0
Says true P = P
Says false P = P → ⊥

says : (b : Bool) (P : Type 0) → (b ≡ true → P) → (b ≡ false → P → ⊥) → Says b P
says true P f g = f refl
says false P f g = g refl

says_no : (b : Bool) (P : Type 0) → Says b P → Says (not b) (P → ⊥)
says_no true P s = λ f. f s
says_no false P s = s

says_and : (b c : Bool) (P Q : Type 0) → Says b P → Says c Q → Says (both b c) (P × Q)
says_and true true P Q s t = (s, t)
says_and true false P Q s t = λ p. t p.1
says_and false c P Q s t = λ p. s p.0

says_or : (b c : Bool) (P Q : Type 0) → Says b P → Says c Q → Says (not (both (not b) (not c))) (P ⊎ Q)
says_or true c P Q s t = inl s
says_or false true P Q s t = inr t
says_or false false P Q s t = λ p. elim p [ inl x ↦ s x | inr y ↦ t y ]

says_then : (b c : Bool) (P Q : Type 0) → Says b P → Says c Q → Says (not (both b (not c))) (P → Q)
says_then true true P Q s t = λ p. t
says_then true false P Q s t = λ f. t (f s)
says_then false c P Q s t = λ p. absurd (s p)

-- a number from a up is a, or from a + 1 up
from : (P : ℕ → Type 0) (a n : ℕ) → P a → ((i : ℕ) → suc a ≤ i → i < suc a + n → P i) → (i : ℕ) → a ≤ i → i < a + suc n → P i
from P a n p f i l h = go (eqb i a) refl
  where
    go : (b : Bool) → eqb i a ≡ b → P i
    go true e = rw (eqb-true i a e) p
    go false e = let g = eqb-false i a e in f i (omega arith) (omega arith)

says_all : (a n : ℕ) (f : ℕ → Bool) (P : ℕ → Type 0) → ((i : ℕ) → Says (f i) (P i)) → Says (all a n f) ((i : ℕ) → a ≤ i → i < a + n → P i)
says_all a zero f P s = λ i l h. absurd (omega arith)
says_all a (suc n) f P s = go (f a) (all (suc a) n f) (s a) (says_all (suc a) n f P s)
  where
    go : (b c : Bool) → Says b (P a) → Says c ((i : ℕ) → suc a ≤ i → i < suc a + n → P i) → Says (both b c) ((i : ℕ) → a ≤ i → i < a + suc n → P i)
    go true true p q = from P a n p q
    go true false p q = λ r. q (λ i l h. r i (omega arith) (omega arith))
    go false c p q = λ r. p (r a (omega arith) (omega arith))

says_sides : (b : Bool) (P : ℕ → Type 0) → Says b ((i : ℕ) → 4 ≤ i → i < 4 + 20 → P i) → Says b ((i : ℕ) → IsSide i → P i)
says_sides true P s = λ i h. s i h.0 h.1
says_sides false P s = λ f. s (λ i l h. f i (l, h))

says_threes : (b : Bool) (P : ℕ → Type 0) → Says b ((i : ℕ) → 1 ≤ i → i < 1 + 3 → P i) → Says b ((i : ℕ) → OneToThree i → P i)
says_threes true P s = λ i h. s i h.0 (omega arith)
says_threes false P s = λ f. s (λ i l h. f i (l, omega arith))

says_below : (b : Bool) (n : ℕ) (P : ℕ → Type 0) → Says b ((i : ℕ) → 0 ≤ i → i < 0 + n → P i) → Says b ((i : ℕ) → i < n → P i)
says_below true n P s = λ i h. s i (omega arith) (omega arith)
says_below false n P s = λ f. s (λ i l h. f i (omega arith))

says_any : (a n : ℕ) (f : ℕ → Bool) (P : ℕ → Type 0) → ((i : ℕ) → Says (f i) (P i)) → Says (any a n f) ((i : ℕ) × (a ≤ i) × (i < a + n) × P i)
says_any a zero f P s = λ r. let l = r.1 in let h = r.2 in omega arith
says_any a (suc n) f P s = go (f a) (any (suc a) n f) (s a) (says_any (suc a) n f P s)
  where
    go : (b c : Bool) → Says b (P a) → Says c ((i : ℕ) × (suc a ≤ i) × (i < suc a + n) × P i) → Says (either b c) ((i : ℕ) × (a ≤ i) × (i < a + suc n) × P i)
    go true c p q = (a, omega arith, omega arith, p)
    go false true p q = (q.0, omega arith, omega arith, q.3)
    go false false p q = λ r. from (λ i. P i → ⊥) a n p (λ i l h x. q (i, l, h, x)) r.0 r.1 r.2 r.3

says_some : (b : Bool) (n : ℕ) (P : ℕ → Type 0) → Says b ((i : ℕ) × (0 ≤ i) × (i < 0 + n) × P i) → Says b ((i : ℕ) × (i < n) × P i)
says_some true n P s = (s.0, omega arith, s.3)
says_some false n P s = λ r. s (r.0, omega arith, omega arith, r.2)

decided : (t : Test) → Says (passes t) (Holds t)
decided (so b) =
    says b (b ≡ true) (λ e. e) (λ e h. let q : false ≡ true = sym e ∙ h in let z : ◌≡◌ {A = ℕ} 0 1 = cc in omega arith)
decided (same m n) = says (eqb m n) (m ≡ n) (eqb-true m n) (eqb-false m n)
decided (less m n) = says (ltb m n) (m < n) (ltb-true m n) (λ e h. let g = ltb-false m n e in omega arith)
decided (most m n) = says (ltb m (suc n)) (m ≤ n) (λ e. let g = ltb-true m (suc n) e in omega arith) (λ e h. let g = ltb-false m (suc n) e in omega arith)
decided (no t) = says_no (passes t) (Holds t) (decided t)
decided (t and u) = says_and (passes t) (passes u) (Holds t) (Holds u) (decided t) (decided u)
decided (t or u) = says_or (passes t) (passes u) (Holds t) (Holds u) (decided t) (decided u)
decided (t then u) = says_then (passes t) (passes u) (Holds t) (Holds u) (decided t) (decided u)
decided (sides f) =
    says_sides (passes (sides f)) (λ s. Holds (f s)) (says_all 4 20 (λ s. passes (f s)) (λ s. Holds (f s)) (λ s. decided (f s)))
decided (threes f) =
    says_threes (passes (threes f)) (λ s. Holds (f s)) (says_all 1 3 (λ s. passes (f s)) (λ s. Holds (f s)) (λ s. decided (f s)))
decided (below n f) = says_below (passes (below n f)) n (λ i. Holds (f i)) (says_all 0 n (λ i. passes (f i)) (λ i. Holds (f i)) (λ i. decided (f i)))
decided (some n f) = says_some (passes (some n f)) n (λ i. Holds (f i)) (says_any 0 n (λ i. passes (f i)) (λ i. Holds (f i)) (λ i. decided (f i)))

pub sound : (t : Test) → passes t ≡ true → Holds t
sound t e = go (passes t) e (decided t)
  where
    go : (b : Bool) → b ≡ true → Says b (Holds t) → Holds t
    go true e s = s
    go false e s = let z : ◌≡◌ {A = ℕ} 0 1 = cc in absurd (omega arith)

-- each such statement holds or not
pub either_way : (t : Test) → Holds t ⊎ (Holds t → ⊥)
either_way t = go (passes t) (decided t)
  where
    go : (b : Bool) → Says b (Holds t) → Holds t ⊎ (Holds t → ⊥)
    go true s = inl s
    go false s = inr s
