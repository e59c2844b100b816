-- The numbers u + vφ are a commutative ring: the solver at them. Assumes nothing.
use mathlib.Core.Path.{◌≡◌, refl, sym, ◌∙◌}
use mathlib.Core.List.{List, [], ◌∷◌}
use lib.IntN.{ℤ, pos, negsuc, ◌+ℤ◌, ◌*ℤ◌, +ℤ_comm, +ℤ_assoc, +ℤ_idl, zero-*ℤ, *ℤ-zero}
use Rattle.golden.specs.declared.Golden.{Golden}
use Rattle.golden.specs.Numbers.{golden, whole, ◌+φ◌, negφ, ◌*φ◌}
use Rattle.golden.proofs.IntegerRing.{one-mul, neg_is}
use Rattle.golden.proofs.Polynomials.{E, var, lit, ◌⊕◌, ◌⊗◌, ⊖}
use Rattle.golden.proofs.RingSolver.{Ring, solve, ev, reify, done}
use Rattle.golden.proofs.IntegerSolver.{ℤ-ring, re}

-- two are equal where their parts are
pub φ_path : {x y : Golden} → x.u ≡ y.u → x.v ≡ y.v → x ≡ y
φ_path p q = λ i. record { u = p i; v = q i }

abbrev env : Golden → Golden → Golden → List ℤ
env x y z = x.u ∷ x.v ∷ y.u ∷ y.v ∷ z.u ∷ z.v ∷ []

pub +φ-assoc : (x y z : Golden) → x +φ y +φ z ≡ x +φ (y +φ z)
unfolding ◌+φ◌
+φ-assoc x y z = φ_path (+ℤ_assoc x.u y.u z.u) (+ℤ_assoc x.v y.v z.v)

pub +φ-comm : (x y : Golden) → x +φ y ≡ y +φ x
unfolding ◌+φ◌
+φ-comm x y = φ_path (+ℤ_comm x.u y.u) (+ℤ_comm x.v y.v)

pub *φ-assoc : (x y z : Golden) → x *φ y *φ z ≡ x *φ (y *φ z)
unfolding ◌*φ◌
*φ-assoc x y z = φ_path
    (reify ℤ-ring (env x y z) (λ σ k. simp (k 0, k 1, k 2, k 3, k 4, k 5, re) (done ℤ-ring σ _ _ refl)))
    (reify ℤ-ring (env x y z) (λ σ k. simp (k 0, k 1, k 2, k 3, k 4, k 5, re) (done ℤ-ring σ _ _ refl)))

pub *φ-comm : (x y : Golden) → x *φ y ≡ y *φ x
unfolding ◌*φ◌
*φ-comm x y = φ_path
    (reify ℤ-ring (env x y x) (λ σ k. simp (k 0, k 1, k 2, k 3, re) (done ℤ-ring σ _ _ refl)))
    (reify ℤ-ring (env x y x) (λ σ k. simp (k 0, k 1, k 2, k 3, re) (done ℤ-ring σ _ _ refl)))

pub +φ-*φ : (x y z : Golden) → (x +φ y) *φ z ≡ x *φ z +φ y *φ z
unfolding ◌+φ◌ ◌*φ◌
+φ-*φ x y z = φ_path
    (reify ℤ-ring (env x y z) (λ σ k. simp (k 0, k 1, k 2, k 3, k 4, k 5, re) (done ℤ-ring σ _ _ refl)))
    (reify ℤ-ring (env x y z) (λ σ k. simp (k 0, k 1, k 2, k 3, k 4, k 5, re) (done ℤ-ring σ _ _ refl)))

-- c(u + vφ)
pub scale : (c : ℤ) (x : Golden) → whole c *φ x ≡ golden (c *ℤ x.u) (c *ℤ x.v)
unfolding ◌*φ◌
scale c x = φ_path
    (solve ℤ-ring (c ∷ x.u ∷ x.v ∷ []) (var 0 ⊗ var 1 ⊕ lit 0 ⊗ var 2) (var 0 ⊗ var 1) refl)
    (solve ℤ-ring (c ∷ x.u ∷ x.v ∷ []) (var 0 ⊗ var 2 ⊕ lit 0 ⊗ var 1 ⊕ lit 0 ⊗ var 2) (var 0 ⊗ var 2) refl)

pub zero_addφ : (x : Golden) → whole (pos 0) +φ x ≡ x
unfolding ◌+φ◌
zero_addφ x = φ_path (+ℤ_idl x.u) (+ℤ_idl x.v)

pub one_mulφ : (x : Golden) → whole (pos 1) *φ x ≡ x
one_mulφ x = scale (pos 1) x ∙ φ_path (one-mul x.u) (one-mul x.v)

pub zero_mulφ : (x : Golden) → whole (pos 0) *φ x ≡ whole (pos 0)
zero_mulφ x = scale (pos 0) x ∙ φ_path (zero-*ℤ x.u) (zero-*ℤ x.v)

pub neg_isφ : (x : Golden) → negφ x ≡ whole (negsuc 0) *φ x
unfolding negφ
neg_isφ x = φ_path (neg_is x.u) (neg_is x.v) ∙ sym (scale (negsuc 0) x)

pub of_addφ : (c d : ℤ) → whole (c +ℤ d) ≡ whole c +φ whole d
unfolding ◌+φ◌
of_addφ c d = refl

pub of_mulφ : (c d : ℤ) → whole (c *ℤ d) ≡ whole c *φ whole d
of_mulφ c d = sym (scale c (whole d) ∙ φ_path refl (*ℤ-zero c))

abbrev pub φ_ring : Ring Golden
φ_ring = record { add = ◌+φ◌; mul = ◌*φ◌; neg = negφ; of = whole; add_assoc = +φ-assoc; add_comm = +φ-comm; mul_assoc = *φ-assoc; mul_comm = *φ-comm; add-mul = +φ-*φ; zero-add = zero_addφ; one-mul = one_mulφ; zero-mul = zero_mulφ; neg_is = neg_isφ; of_add = of_addφ; of_mul = of_mulφ }

-- the rules for the solver at u + vφ itself, with `+φ`, `*φ` and `negφ` shut
pub re_addφ : (ρ : List Golden) (e f : E) → ev φ_ring ρ e +φ ev φ_ring ρ f ≡ ev φ_ring ρ (e ⊕ f)
unfolding ev
re_addφ ρ e f = refl

pub re_mulφ : (ρ : List Golden) (e f : E) → ev φ_ring ρ e *φ ev φ_ring ρ f ≡ ev φ_ring ρ (e ⊗ f)
unfolding ev
re_mulφ ρ e f = refl

pub re_negφ : (ρ : List Golden) (e : E) → negφ (ev φ_ring ρ e) ≡ ev φ_ring ρ (⊖ e)
unfolding ev
re_negφ ρ e = refl

pub ruleset reφ = (re_addφ, re_mulφ, re_negφ)
