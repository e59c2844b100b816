-- Valid codes are told apart by how they are written; so the order of the tree is an order, and what lies inside comes
-- after. Assumes nothing.
use mathlib.Core.Path.{◌≡◌, ◌∙◌, refl, sym, ap}
use mathlib.Core.Bool.{true, false}
use mathlib.Core.Logic.{◌⊎◌, inl, inr, ⊎_elim, ◌↔◌}
use mathlib.Core.List.{List, [], ◌∷◌, ◌++◌, reverse, reverse-reverse, reverse-cons}
use Prim.Native.Nat.{ℕ, zero, suc, ◌-◌}
use native.Mathlib.Omega.{arith}
use lib.ListN.{length}
use borrow.Author.Tests.{eqb-true, eq-eqb}
use Rattle.words.specs.Words.{degree_of, digit_of, digits, first_digits, side_of}
use Rattle.words.specs.Refusals.{IsCode}
use Rattle.words.specs.Family.{code_of, refuse_parent, parent_of}
use Rattle.words.proofs.Codes.{is_code, same_code}
use Rattle.words.proofs.ParentChild.{parent_passes, parent_has}
use Rattle.cells.specs.Order.{valid, spelled, begins, less_than, inside_of}
use Rattle.cells.specs.Promises.{Inside}
use Rattle.cells.proofs.Dictionary.{known, clash, sooner_self, sooner_trans, sooner_total}
use Rattle.cells.proofs.Dictionary.{begins_sooner, begins_between, begins_trans, begins_one}
use Rattle.cells.proofs.Dictionary.{begins_append}

pub valid_code : (w : ℕ) → valid w ≡ true → IsCode (degree_of w) (code_of w)
valid_code w v = is_code (code_of w) (eqb-true _ _ v)

pub code_valid : {n : ℕ} (w : ℕ) → IsCode n (code_of w) → valid w ≡ true
code_valid w c = eq-eqb _ 0 c.passes

pub digits_length : (w n : ℕ) → length (digits w n) ≡ n
unfolding first_digits
digits_length w zero = refl
digits_length w (suc n) = ap suc (digits_length w n)

spelled_one : (w u : ℕ) → valid w ≡ true → valid u ≡ true → spelled w ≡ spelled u → w ≡ u
unfolding spelled
spelled_one w u v v' e =
    let s : side_of w ≡ side_of u = cc in
    let r : reverse (digits w (degree_of w)) ≡ reverse (digits u (degree_of u)) = cc in
    let d : digits w (degree_of w) ≡ digits u (degree_of u) =
    sym (reverse-reverse _) ∙ ap reverse r ∙ reverse-reverse _ in
    let n : degree_of w ≡ degree_of u =
    sym (digits_length w (degree_of w)) ∙ ap length d ∙ digits_length u (degree_of u) in
    let c : IsCode (degree_of u) (code_of w) = record { passes = eqb-true _ _ v; degree_is = n } in
    let g : digits w (degree_of u) ≡ digits u (degree_of u) = ap (λ (k : ℕ). digits w k) (sym n) ∙ d in
    ap (λ t. t.0) (same_code c (valid_code u v') s g)

-- ---- the order

pub less_self : (w : ℕ) → less_than w w ≡ false
unfolding less_than
less_self w = sooner_self (spelled w)

pub less_trans : (v w u : ℕ) → less_than v w ≡ true → less_than w u ≡ true → less_than v u ≡ true
unfolding less_than
less_trans v w u h k = sooner_trans (spelled v) (spelled w) (spelled u) h k

pub less_total : (w u : ℕ) → valid w ≡ true → valid u ≡ true → less_than w u ≡ false → less_than u w ≡ false → w ≡ u
unfolding less_than
less_total w u v v' h k = spelled_one w u v v' (sooner_total (spelled w) (spelled u) h k)

pub less_ne : (w u : ℕ) → less_than w u ≡ true → w ≡ u → ⊥
less_ne w u h e = clash (ap (λ (k : ℕ). less_than k u) (sym e) ∙ h) (less_self u)

-- not both ways
pub less_one_way : (w u : ℕ) → less_than u w ≡ true → less_than w u ≡ false
less_one_way w u h = ⊎_elim (λ b. absurd (clash (less_trans u w u h b) (less_self u))) (λ b. b) (known (less_than w u))

-- what is neither less nor equal is above
pub above : (w u : ℕ) → valid w ≡ true → valid u ≡ true → less_than w u ≡ false → (w ≡ u → ⊥) → less_than u w ≡ true
above w u v v' h ne = ⊎_elim (λ e. e) (λ e. absurd (ne (less_total w u v v' h e))) (known (less_than u w))

-- ---- inside

-- what lies inside comes after
pub inside_less : (w u : ℕ) → inside_of w u ≡ true → less_than u w ≡ true
unfolding inside_of less_than
inside_less w u h = begins_sooner (spelled u) (spelled w) h

-- so what does not come after lies inside nothing
pub not_inside : (w u : ℕ) → (less_than u w ≡ true → ⊥) → inside_of w u ≡ false
not_inside w u n = ⊎_elim (λ h. absurd (n (inside_less w u h))) (λ h. h) (known (inside_of w u))

-- what lies inside what lies inside a triangle lies inside it
pub inside_trans : (w u v : ℕ) → inside_of w u ≡ true → inside_of u v ≡ true → inside_of w v ≡ true
unfolding inside_of
inside_trans w u v h k = begins_trans (spelled v) (spelled u) (spelled w) k h

-- what comes between a triangle and one inside it lies inside it too
pub inside_between : (e p w : ℕ) → less_than e p ≡ true → less_than p w ≡ true → inside_of w e ≡ true
    → inside_of p e ≡ true
unfolding inside_of less_than
inside_between e p w h k b = begins_between (spelled e) (spelled p) (spelled w) h k b

-- ---- by parents

inside_side : (w u : ℕ) → degree_of w ≡ 0 → inside_of w u ≡ false
unfolding inside_of spelled first_digits
inside_side w u e =
    let s : side_of w ∷ reverse (digits w (degree_of w)) ≡ side_of w ∷ [] =
    ap (λ (n : ℕ). side_of w ∷ reverse (digits w n)) e in
    ap (begins (spelled u)) s ∙ begins_one (reverse (digits u (degree_of u))) (side_of u) (side_of w)

-- a code is written as its parent, and one digit more
spelled_parent : (w : ℕ) → refuse_parent (code_of w) ≡ 0
    → spelled w ≡ spelled (parent_of (code_of w)).0 ++ (digit_of w (degree_of w) ∷ [])
unfolding spelled first_digits
spelled_parent w e =
    let n = degree_of w in
    let p = (parent_of (code_of w)).0 in
    let h = parent_has (code_of w) e in
    let m : n ≡ suc (n - 1) = omega (arith, ((parent_passes (code_of w)).0 e).1) in
    let d : digits w n ≡ digit_of w n ∷ digits w (n - 1) =
    ap (digits w) m ∙ ap (λ (k : ℕ). digit_of w k ∷ digits w (n - 1)) (sym m) in
    let up : digits p (degree_of p) ≡ digits w (n - 1) =
    ap (digits p) h.code.degree_is ∙ h.digits_are in
    (λ i. side_of w ∷ reverse (d i)) ∙ ap (λ (l : List ℕ). side_of w ∷ l) (reverse-cons (digit_of w n) (digits w (n - 1)))
    ∙ (λ i. (sym h.side i ∷ reverse (sym up i)) ++ (digit_of w n ∷ []))

inside_parent : (w u : ℕ) → refuse_parent (code_of w) ≡ 0 → valid u ≡ true
    → let p = (parent_of (code_of w)).0 in (inside_of w u ≡ true) ↔ ((u ≡ p) ⊎ (inside_of p u ≡ true))
unfolding inside_of
inside_parent w u e v =
    let p = (parent_of (code_of w)).0 in
    let s = spelled_parent w e in
    let good : valid p ≡ true = eq-eqb _ 0 (parent_has (code_of w) e).code.passes in
    let b = begins_append (spelled u) (spelled p) (digit_of w (degree_of w)) in (
      λ h. ⊎_elim (λ q. inl (spelled_one u p v good q)) inr (b.0 (ap (begins (spelled u)) (sym s) ∙ h)),
      λ h. ap (begins (spelled u)) s ∙ b.1 (⊎_elim (λ q. inl (ap spelled q)) inr h),
    )

pub inside : Inside
inside = record { side = inside_side; parent = inside_parent }
