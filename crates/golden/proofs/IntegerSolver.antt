-- The solver at ℤ. Assumes nothing.
use mathlib.Core.Path.{◌≡◌, refl}
use mathlib.Core.List.{List}
use Prim.Native.Nat.{ℕ}
use lib.IntN.{ℤ, pos, neg_ℤ, ◌+ℤ◌, ◌*ℤ◌, +ℤ_idl, +ℤ_assoc, +ℤ_comm, zero-*ℤ, *ℤ_comm}
use Rattle.golden.proofs.IntegerRing.{add-mul, mul_assoc, one-mul, neg_is}
use Rattle.golden.proofs.Polynomials.{E, lit, ◌⊕◌, ◌⊗◌, ⊖}
use Rattle.golden.proofs.RingSolver.{Ring, ev}

abbrev pub ℤ-ring : Ring ℤ
ℤ-ring = record { add = ◌+ℤ◌; mul = ◌*ℤ◌; neg = neg_ℤ; of = λ c. c; add_assoc = +ℤ_assoc; add_comm = +ℤ_comm; mul_assoc = mul_assoc; mul_comm = *ℤ_comm; add-mul = add-mul; zero-add = +ℤ_idl; one-mul = one-mul; zero-mul = zero-*ℤ; neg_is = neg_is; of_add = λ c d. refl; of_mul = λ c d. refl }

-- the rules that gather a side of the goal into one expression; `re_lit σ` for its numbers
pub re_add : (ρ : List ℤ) (e f : E) → ev ℤ-ring ρ e +ℤ ev ℤ-ring ρ f ≡ ev ℤ-ring ρ (e ⊕ f)
unfolding ev
re_add ρ e f = refl

pub re_mul : (ρ : List ℤ) (e f : E) → ev ℤ-ring ρ e *ℤ ev ℤ-ring ρ f ≡ ev ℤ-ring ρ (e ⊗ f)
unfolding ev
re_mul ρ e f = refl

pub re_neg : (ρ : List ℤ) (e : E) → neg_ℤ (ev ℤ-ring ρ e) ≡ ev ℤ-ring ρ (⊖ e)
unfolding ev
re_neg ρ e = refl

pub re_lit : (ρ : List ℤ) (n : ℕ) → pos n ≡ ev ℤ-ring ρ (lit n)
unfolding ev
re_lit ρ n = refl

pub ruleset re = (re_add, re_mul, re_neg)
