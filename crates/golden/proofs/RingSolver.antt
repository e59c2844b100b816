-- A solver for polynomial identities in any commutative ring, by reflection. Assumes nothing.
-- `solve R ρ e f refl` proves that e and f have one value. `reify R ρ (λ σ x. simp (x 0, x 1, .., re) (done R σ _ _ refl))` reads e and f off the goal,
-- ρ being the list of its variables and `re` the rules of the ring's operations (IntegerSolver, GoldenRing).
use mathlib.Core.Path.{◌≡◌, refl, sym, ◌∙◌, ap}
use mathlib.Core.List.{List, [], ◌∷◌}
use mathlib.Core.Bool.{Bool, true, false}
use Prim.Native.Nat.{ℕ, zero, suc, Ordering}
use lib.Dec.{T, leb, compare_is_eq}
use lib.IntN.{ℤ, pos, negsuc, neg_ℤ, ◌+ℤ◌, ◌*ℤ◌}
use Rattle.golden.proofs.IntegerRing.{neg_is as neg-isℤ}
use Rattle.golden.proofs.Polynomials.{E, var, lit, nlit, ◌⊕◌, ◌⊗◌, ⊖, ◌⊝◌, Poly, nil, term, ins_v, mul_m, cmp_m, cmp_m_sound, tidy, ins, add_p, mul_t, mul_p, neg_p, norm}

-- A commutative ring, with the whole numbers in it.
pub record Ring (A : Type 0) : Type 0 where
  pub add : A → A → A
  pub mul : A → A → A
  pub neg : A → A
  pub of : ℤ → A
  pub add_assoc : (a b c : A) → add (add a b) c ≡ add a (add b c)
  pub add_comm : (a b : A) → add a b ≡ add b a
  pub mul_assoc : (a b c : A) → mul (mul a b) c ≡ mul a (mul b c)
  pub mul_comm : (a b : A) → mul a b ≡ mul b a
  pub add-mul : (a b c : A) → mul (add a b) c ≡ add (mul a c) (mul b c)
  pub zero-add : (a : A) → add (of (pos 0)) a ≡ a
  pub one-mul : (a : A) → mul (of (pos 1)) a ≡ a
  pub zero-mul : (a : A) → mul (of (pos 0)) a ≡ of (pos 0)
  pub neg_is : (a : A) → neg a ≡ mul (of (negsuc 0)) a
  pub of_add : (c d : ℤ) → of (c +ℤ d) ≡ add (of c) (of d)
  pub of_mul : (c d : ℤ) → of (c *ℤ d) ≡ mul (of c) (of d)

module _ {A : Type 0} (R : Ring A) where
  open R use {add, mul, neg, of, add_assoc, add_comm, mul_assoc, mul_comm, add-mul, zero-add, one-mul, zero-mul, neg_is, of_add, of_mul}

  abbrev pub at : List A → ℕ → A
  at [] n = of (pos 0)
  at (x ∷ ρ) zero = x
  at (x ∷ ρ) (suc n) = at ρ n

  abbrev pub eval : List A → E → A
  eval ρ (var i) = at ρ i
  eval ρ (lit n) = of (pos n)
  eval ρ (nlit n) = of (negsuc n)
  eval ρ (e ⊕ f) = add (eval ρ e) (eval ρ f)
  eval ρ (e ⊗ f) = mul (eval ρ e) (eval ρ f)
  eval ρ (⊖ e) = neg (eval ρ e)

  abbrev ev_m : List A → List ℕ → A
  ev_m ρ [] = of (pos 1)
  ev_m ρ (i ∷ m) = mul (at ρ i) (ev_m ρ m)

  abbrev ev_p : List A → Poly → A
  ev_p ρ nil = of (pos 0)
  ev_p ρ (term c m p) = add (mul (of c) (ev_m ρ m)) (ev_p ρ p)

  add_left_comm : (a b c : A) → add a (add b c) ≡ add b (add a c)
  add_left_comm a b c = sym (add_assoc a b c) ∙ ap (λ (x : A). add x c) (add_comm a b) ∙ add_assoc b a c

  mul_left_comm : (a b c : A) → mul a (mul b c) ≡ mul b (mul a c)
  mul_left_comm a b c = sym (mul_assoc a b c) ∙ ap (λ (x : A). mul x c) (mul_comm a b) ∙ mul_assoc b a c

  mul_add : (a b c : A) → mul a (add b c) ≡ add (mul a b) (mul a c)
  mul_add a b c = mul_comm a (add b c) ∙ add-mul b c a ∙ (λ i. add (mul_comm b a i) (mul_comm c a i))

  add-zero : (a : A) → add a (of (pos 0)) ≡ a
  add-zero a = add_comm a (of (pos 0)) ∙ zero-add a

  mul-one : (a : A) → mul a (of (pos 1)) ≡ a
  mul-one a = mul_comm a (of (pos 1)) ∙ one-mul a

  four : (c d x y : A) → mul (mul c d) (mul x y) ≡ mul (mul c x) (mul d y)
  four c d x y = mul_assoc c d (mul x y) ∙ ap (mul c) (mul_left_comm d x y) ∙ sym (mul_assoc c x (mul d y))

  ins_v_sound : (ρ : List A) (i : ℕ) (m : List ℕ) → ev_m ρ (ins_v i m) ≡ mul (at ρ i) (ev_m ρ m)
  ins_v_sound ρ i [] = refl
  ins_v_sound ρ i (j ∷ m) = go (leb i j) (ins_v_sound ρ i m)
    where
      go : (b : Bool) → ev_m ρ (ins_v i m) ≡ mul (at ρ i) (ev_m ρ m) → ev_m ρ (elim b [ true ↦ i ∷ j ∷ m | false ↦ j ∷ ins_v i m ]) ≡ mul (at ρ i) (mul (at ρ j) (ev_m ρ m))
      go true ih = refl
      go false ih = ap (mul (at ρ j)) ih ∙ mul_left_comm (at ρ j) (at ρ i) (ev_m ρ m)

  mul_m_sound : (ρ : List A) (m n : List ℕ) → ev_m ρ (mul_m m n) ≡ mul (ev_m ρ m) (ev_m ρ n)
  mul_m_sound ρ [] n = sym (one-mul (ev_m ρ n))
  mul_m_sound ρ (i ∷ m) n = ins_v_sound ρ i (mul_m m n) ∙ ap (mul (at ρ i)) (mul_m_sound ρ m n) ∙ sym (mul_assoc (at ρ i) (ev_m ρ m) (ev_m ρ n))

  tidy_sound : (ρ : List A) (c : ℤ) (m : List ℕ) (p : Poly) → ev_p ρ (tidy c m p) ≡ add (mul (of c) (ev_m ρ m)) (ev_p ρ p)
  tidy_sound ρ (pos zero) m p = sym (ap (λ (x : A). add x (ev_p ρ p)) (zero-mul (ev_m ρ m)) ∙ zero-add (ev_p ρ p))
  tidy_sound ρ (pos (suc k)) m p = refl
  tidy_sound ρ (negsuc k) m p = refl

  ins_sound : (ρ : List A) (c : ℤ) (m : List ℕ) (p : Poly) → ev_p ρ (ins c m p) ≡ add (mul (of c) (ev_m ρ m)) (ev_p ρ p)
  ins_sound ρ c m nil = refl
  ins_sound ρ c m (term d n p) = go (cmp_m m n) (cmp_m_sound m n) (ins_sound ρ c m p)
    where
      go : (o : Ordering) → (T (compare_is_eq o) → m ≡ n) → ev_p ρ (ins c m p) ≡ add (mul (of c) (ev_m ρ m)) (ev_p ρ p) → ev_p ρ (elim o [ Ordering.lt ↦ term c m (term d n p) | Ordering.eq ↦ tidy (c +ℤ d) n p | Ordering.gt ↦ term d n (ins c m p) ]) ≡ add (mul (of c) (ev_m ρ m)) (add (mul (of d) (ev_m ρ n)) (ev_p ρ p))
      go Ordering.lt q ih = refl
      go Ordering.eq q ih =
          tidy_sound ρ (c +ℤ d) n p
          ∙ ap (λ (x : A). add (mul x (ev_m ρ n)) (ev_p ρ p)) (of_add c d)
          ∙ ap (λ (x : A). add x (ev_p ρ p)) (add-mul (of c) (of d) (ev_m ρ n))
          ∙ add_assoc (mul (of c) (ev_m ρ n)) (mul (of d) (ev_m ρ n)) (ev_p ρ p)
          ∙ ap (λ (k : List ℕ). add (mul (of c) (ev_m ρ k)) (add (mul (of d) (ev_m ρ n)) (ev_p ρ p))) (sym (q tt))
      go Ordering.gt q ih = ap (add (mul (of d) (ev_m ρ n))) ih ∙ add_left_comm (mul (of d) (ev_m ρ n)) (mul (of c) (ev_m ρ m)) (ev_p ρ p)

  add_p_sound : (ρ : List A) (p q : Poly) → ev_p ρ (add_p p q) ≡ add (ev_p ρ p) (ev_p ρ q)
  add_p_sound ρ nil q = sym (zero-add (ev_p ρ q))
  add_p_sound ρ (term c m p) q =
      ins_sound ρ c m (add_p p q) ∙ ap (add (mul (of c) (ev_m ρ m))) (add_p_sound ρ p q) ∙ sym (add_assoc (mul (of c) (ev_m ρ m)) (ev_p ρ p) (ev_p ρ q))

  mul_zero : (a : A) → mul a (of (pos 0)) ≡ of (pos 0)
  mul_zero a = mul_comm a (of (pos 0)) ∙ zero-mul a

  mul_t_sound : (ρ : List A) (c : ℤ) (m : List ℕ) (q : Poly) → ev_p ρ (mul_t c m q) ≡ mul (mul (of c) (ev_m ρ m)) (ev_p ρ q)
  mul_t_sound ρ c m nil = sym (mul_zero (mul (of c) (ev_m ρ m)))
  mul_t_sound ρ c m (term d n p) =
      ins_sound ρ (c *ℤ d) (mul_m m n) (mul_t c m p)
      ∙ (λ i. add (mul (of_mul c d i) (mul_m_sound ρ m n i)) (mul_t_sound ρ c m p i))
      ∙ ap (λ (x : A). add x (mul (mul (of c) (ev_m ρ m)) (ev_p ρ p))) (four (of c) (of d) (ev_m ρ m) (ev_m ρ n))
      ∙ sym (mul_add (mul (of c) (ev_m ρ m)) (mul (of d) (ev_m ρ n)) (ev_p ρ p))

  mul_p_sound : (ρ : List A) (p q : Poly) → ev_p ρ (mul_p p q) ≡ mul (ev_p ρ p) (ev_p ρ q)
  mul_p_sound ρ nil q = sym (zero-mul (ev_p ρ q))
  mul_p_sound ρ (term c m p) q =
      add_p_sound ρ (mul_t c m q) (mul_p p q)
      ∙ (λ i. add (mul_t_sound ρ c m q i) (mul_p_sound ρ p q i))
      ∙ sym (add-mul (mul (of c) (ev_m ρ m)) (ev_p ρ p) (ev_p ρ q))

  of_neg : (c : ℤ) → of (neg_ℤ c) ≡ mul (of (negsuc 0)) (of c)
  of_neg c = ap of (neg-isℤ c) ∙ of_mul (negsuc 0) c

  neg_p_sound : (ρ : List A) (p : Poly) → ev_p ρ (neg_p p) ≡ mul (of (negsuc 0)) (ev_p ρ p)
  neg_p_sound ρ nil = sym (mul_zero (of (negsuc 0)))
  neg_p_sound ρ (term c m p) =
      (λ i. add (mul (of_neg c i) (ev_m ρ m)) (neg_p_sound ρ p i))
      ∙ ap (λ (x : A). add x (mul (of (negsuc 0)) (ev_p ρ p))) (mul_assoc (of (negsuc 0)) (of c) (ev_m ρ m))
      ∙ sym (mul_add (of (negsuc 0)) (mul (of c) (ev_m ρ m)) (ev_p ρ p))

  norm_sound : (ρ : List A) (e : E) → ev_p ρ (norm e) ≡ eval ρ e
  norm_sound ρ (var i) = add-zero _ ∙ one-mul _ ∙ mul-one (at ρ i)
  norm_sound ρ (lit n) = tidy_sound ρ (pos n) [] nil ∙ add-zero _ ∙ mul-one (of (pos n))
  norm_sound ρ (nlit n) = add-zero _ ∙ mul-one (of (negsuc n))
  norm_sound ρ (e ⊕ f) = add_p_sound ρ (norm e) (norm f) ∙ (λ i. add (norm_sound ρ e i) (norm_sound ρ f i))
  norm_sound ρ (e ⊗ f) = mul_p_sound ρ (norm e) (norm f) ∙ (λ i. mul (norm_sound ρ e i) (norm_sound ρ f i))
  norm_sound ρ (⊖ e) = neg_p_sound ρ (norm e) ∙ ap (mul (of (negsuc 0))) (norm_sound ρ e) ∙ sym (neg_is (eval ρ e))

  inv : (b : A) → add (neg b) b ≡ of (pos 0)
  inv b =
      (λ i. add (neg_is b i) (sym (one-mul b) i))
      ∙ sym (add-mul (of (negsuc 0)) (of (pos 1)) b)
      ∙ ap (λ (x : A). mul x b) (sym (of_add (negsuc 0) (pos 1)))
      ∙ zero-mul b

  cancel : (a b : A) → add a (neg b) ≡ of (pos 0) → a ≡ b
  cancel a b h =
      sym (add-zero a)
      ∙ ap (add a) (sym (inv b))
      ∙ sym (add_assoc a (neg b) b)
      ∙ ap (λ (x : A). add x b) h
      ∙ zero-add b

  -- the difference is compared with `nil`, and not one normal form with the other: antt computes a term fast, and compares two long ones slowly
  pub solve : (ρ : List A) (e f : E) → norm (e ⊝ f) ≡ nil → eval ρ e ≡ eval ρ f
  solve ρ e f h = cancel (eval ρ e) (eval ρ f) (sym (norm_sound ρ (e ⊝ f)) ∙ ap (ev_p ρ) h)

  unfoldable pub ev : List A → E → A
  ev ρ e = eval ρ e

  pub reify : (ρ : List A) {G : Type 0} → ((σ : List A) → ((i : ℕ) → at ρ i ≡ ev σ (var i)) → G) → G
  unfolding ev
  reify ρ k = k ρ (λ i. refl)

  pub done : (ρ : List A) (e f : E) → norm (e ⊝ f) ≡ nil → ev ρ e ≡ ev ρ f
  unfolding ev
  done ρ e f h = solve ρ e f h
