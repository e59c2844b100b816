-- Looking through a list, and making one: what the answers of calls on a table and of a sweep are made of. Assumes
-- nothing.
use Rattle.std.specs.Prelude.{ℕ, zero, suc, Bool, false, cond, List, [], ◌∷◌, ◌++◌}
use Rattle.frame.specs.Refusals.{◌either◌}

-- whether something in a list passes a test, and the first place of it: how many stand before
unfoldable pub some : {A : Type 0} → (A → Bool) → List A → Bool
some f [] = false
some f (x ∷ xs) = f x either some f xs

unfoldable pub first_place : {A : Type 0} → (A → Bool) → List A → ℕ
first_place f [] = 0
first_place f (x ∷ xs) = cond (f x) 0 (suc (first_place f xs))

-- those of a list that pass a test, in its order
unfoldable pub those : {A : Type 0} → (A → Bool) → List A → List A
those f [] = []
those f (x ∷ xs) = cond (f x) (x ∷ those f xs) (those f xs)

-- what f says of the numbers below m, in their order
unfoldable pub below : {A : Type 0} → (m : ℕ) → (ℕ → A) → List A
below zero f = []
below (suc m) f = below m f ++ (f m ∷ [])
