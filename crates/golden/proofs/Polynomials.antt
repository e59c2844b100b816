-- Polynomials with whole coefficients, and the normal form of an expression: what the solver of ring identities computes.
-- A polynomial is a list of terms, each a coefficient and a monomial; a monomial is the sorted list of its variables.
-- That the lists are sorted is never proved: soundness does not need it. Assumes nothing.
use mathlib.Core.Path.{◌≡◌, refl}
use mathlib.Core.List.{List, [], ◌∷◌}
use mathlib.Core.Bool.{true, false}
use Prim.Native.Nat.{ℕ, zero, suc, compare, Ordering}
use lib.Dec.{T, leb, compare_is_eq, eqb→eq}
use lib.IntN.{ℤ, pos, negsuc, neg_ℤ, ◌+ℤ◌, ◌*ℤ◌}

infixl 60 ◌⊕◌ ◌⊝◌
infixl 70 ◌⊗◌
-- An expression: a variable by its place, a whole number from 0 up, one below 0 (`nlit n` is -1 - n), a sum, a product, a negation.
pub data E : Type 0 where
  var : ℕ → E
  lit : ℕ → E
  nlit : ℕ → E
  ◌⊕◌ : E → E → E
  ◌⊗◌ : E → E → E
  ⊖ : E → E

abbrev pub ◌⊝◌ : E → E → E
e ⊝ f = e ⊕ ⊖ f

pub data Poly : Type 0 where
  nil : Poly
  term : ℤ → List ℕ → Poly → Poly

abbrev pub ins_v : ℕ → List ℕ → List ℕ
ins_v i [] = i ∷ []
ins_v i (j ∷ m) = elim (leb i j) [ true ↦ i ∷ j ∷ m | false ↦ j ∷ ins_v i m ]

abbrev pub mul_m : List ℕ → List ℕ → List ℕ
mul_m [] n = n
mul_m (i ∷ m) n = ins_v i (mul_m m n)

abbrev pub cmp_m : List ℕ → List ℕ → Ordering
cmp_m [] [] = Ordering.eq
cmp_m [] (j ∷ n) = Ordering.lt
cmp_m (i ∷ m) [] = Ordering.gt
cmp_m (i ∷ m) (j ∷ n) = elim (compare i j) [ Ordering.lt ↦ Ordering.lt | Ordering.eq ↦ cmp_m m n | Ordering.gt ↦ Ordering.gt ]

abbrev pub tidy : ℤ → List ℕ → Poly → Poly
tidy (pos zero) m p = p
tidy (pos (suc k)) m p = term (pos (suc k)) m p
tidy (negsuc k) m p = term (negsuc k) m p

abbrev pub ins : ℤ → List ℕ → Poly → Poly
ins c m nil = term c m nil
ins c m (term d n p) = elim (cmp_m m n) [ Ordering.lt ↦ term c m (term d n p) | Ordering.eq ↦ tidy (c +ℤ d) n p | Ordering.gt ↦ term d n (ins c m p) ]

abbrev pub add_p : Poly → Poly → Poly
add_p nil q = q
add_p (term c m p) q = ins c m (add_p p q)

abbrev pub mul_t : ℤ → List ℕ → Poly → Poly
mul_t c m nil = nil
mul_t c m (term d n p) = let k = mul_m m n in let w = c *ℤ d in ins w k (mul_t c m p)

abbrev pub mul_p : Poly → Poly → Poly
mul_p nil q = nil
mul_p (term c m p) q = add_p (mul_t c m q) (mul_p p q)

abbrev pub neg_p : Poly → Poly
neg_p nil = nil
neg_p (term c m p) = term (neg_ℤ c) m (neg_p p)

abbrev pub norm : E → Poly
norm (var i) = term (pos 1) (i ∷ []) nil
norm (lit n) = tidy (pos n) [] nil
norm (nlit n) = term (negsuc n) [] nil
norm (e ⊕ f) = add_p (norm e) (norm f)
norm (e ⊗ f) = mul_p (norm e) (norm f)
norm (⊖ e) = neg_p (norm e)

-- two monomials that compare as equal are
pub cmp_m_sound : (m n : List ℕ) → T (compare_is_eq (cmp_m m n)) → m ≡ n
cmp_m_sound [] [] t = refl
cmp_m_sound [] (j ∷ n) t = absurd t
cmp_m_sound (i ∷ m) [] t = absurd t
cmp_m_sound (i ∷ m) (j ∷ n) t = go (compare i j) (eqb→eq i j) (cmp_m_sound m n) t
  where
    go : (o : Ordering) → (T (compare_is_eq o) → i ≡ j) → (T (compare_is_eq (cmp_m m n)) → m ≡ n) → T (compare_is_eq (elim o [ Ordering.lt ↦ Ordering.lt | Ordering.eq ↦ cmp_m m n | Ordering.gt ↦ Ordering.gt ])) → i ∷ m ≡ j ∷ n
    go Ordering.lt p q t = absurd t
    go Ordering.eq p q t = λ k. p tt k ∷ q t k
    go Ordering.gt p q t = absurd t
