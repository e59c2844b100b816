-- Looking through a list for what passes a test: place by place, with a way out at the first or without one. Assumes
-- nothing.
use mathlib.Core.Path.{◌≡◌, refl, sym, ap, ◌∙◌}
use mathlib.Core.Bool.{Bool, true, false, true≢false}
use mathlib.Core.List.{List, [], ◌∷◌}
use Prim.Native.Nat.{ℕ, zero, suc, ◌≤◌, ◌<◌}
use native.Mathlib.Omega.{arith}
use lib.ListN.{length, get_or, drop, set, replicate, drop_of_length-le}
use lib.Seq.{drop-cons}
use Rattle.frame.specs.Refusals.{◌either◌}
use Rattle.frame.proofs.Refusing.{either_none, either_right, either_false}
use Rattle.frame.specs.Lists.{some, first_place, those}

module _ {A : Type 0} (f : A → Bool) where
  -- ---- at a place of the list

  module _ (list : List A) (i : ℕ) (d : A) (l : i < length list) where
    -- the search stops there, or passes it
    pub stops : f (get_or list i d) ≡ true → first_place f (drop i list) ≡ 0
    unfolding first_place
    stops b = rw (drop-cons list i d l, b)

    pub passes : f (get_or list i d) ≡ false → first_place f (drop i list) ≡ suc (first_place f (drop (suc i) list))
    unfolding first_place
    passes b = rw (drop-cons list i d l, b)

    -- a loop without a way out has found something before it, or not
    module _ (found : Bool) (inv : some f list ≡ found either some f (drop i list)) (new : Bool) where
      pub finds : f (get_or list i d) ≡ true → new ≡ true → some f list ≡ new either some f (drop (suc i) list)
      unfolding some
      finds b e = inv ∙ rw (drop-cons list i d l, b, e) (either_right found true refl)

      pub goes_on : f (get_or list i d) ≡ false → new ≡ found
          → some f list ≡ new either some f (drop (suc i) list)
      unfolding some
      goes_on b e = inv ∙ rw (drop-cons list i d l, b, e)

  -- past the last place
  pub ends : (list : List A) (i : ℕ) (found : Bool) → length list ≤ i
      → some f list ≡ found either some f (drop i list) → some f list ≡ found
  unfolding some
  ends list i found l e = e ∙ rw (drop_of_length-le list {i = i} l) (either_none found)

  pub none_left : (list : List A) (i : ℕ) → length list ≤ i → first_place f (drop i list) ≡ 0
  unfolding first_place
  none_left list i l = rw (drop_of_length-le list {i = i} l)

  -- ---- what is found

  pub first_there : (d : A) (list : List A) → some f list ≡ true
      → (first_place f list < length list) × (f (get_or list (first_place f list) d) ≡ true)
  unfolding some first_place
  first_there d [] e = absurd (true≢false (sym e))
  first_there d (x ∷ xs) e = go (f x) refl (first_there d xs)
    where
      go : (b : Bool) → f x ≡ b
          → (some f xs ≡ true → (first_place f xs < length xs) × (f (get_or xs (first_place f xs) d) ≡ true))
          → (first_place f (x ∷ xs) < length (x ∷ xs))
          × (f (get_or (x ∷ xs) (first_place f (x ∷ xs)) d) ≡ true)
      go true b ih = rw b (omega arith, b)
      go false b ih = let h = ih (rw b at e) in rw b (omega (arith, h.0), h.1)

  pub none_before : (d : A) (list : List A) (i : ℕ) → i < first_place f list → f (get_or list i d) ≡ false
  unfolding first_place
  none_before d [] i l = absurd (omega (arith, l))
  none_before d (x ∷ xs) i l = go (f x) refl i l (none_before d xs)
    where
      go : (b : Bool) → f x ≡ b → (i : ℕ) → i < first_place f (x ∷ xs)
          → ((j : ℕ) → j < first_place f xs → f (get_or xs j d) ≡ false) → f (get_or (x ∷ xs) i d) ≡ false
      go true b i l ih = let k : i < 0 = rw b at l in absurd (omega (arith, k))
      go false b zero l ih = b
      go false b (suc i) l ih = let k : suc i < suc (first_place f xs) = rw b at l in ih i (omega (arith, k))

  -- where nothing passes, and what stands past the end does not
  pub none_at : (d : A) → f d ≡ false → (list : List A) (i : ℕ) → some f list ≡ false
      → f (get_or list i d) ≡ false
  unfolding some
  none_at d q [] i e = q
  none_at d q (x ∷ xs) zero e = ((either_false (f x) (some f xs)).0 e).0
  none_at d q (x ∷ xs) (suc i) e = none_at d q xs i ((either_false (f x) (some f xs)).0 e).1

  -- nothing is found where no place passes, and then none does
  pub none_each : (d : A) (list : List A) → ((i : ℕ) → i < length list → f (get_or list i d) ≡ false)
      → some f list ≡ false
  unfolding some
  none_each d [] h = refl
  none_each d (x ∷ xs) h =
      (either_false (f x) (some f xs)).1 (h 0 (omega arith), none_each d xs (λ i l. h (suc i) (omega (arith, l))))

  pub none_there : (d : A) (list : List A) (i : ℕ) → i < length list → some f list ≡ false
      → f (get_or list i d) ≡ false
  unfolding some
  none_there d [] i l e = absurd (omega (arith, l))
  none_there d (x ∷ xs) zero l e = ((either_false (f x) (some f xs)).0 e).0
  none_there d (x ∷ xs) (suc i) l e =
      none_there d xs i (omega (arith, l)) ((either_false (f x) (some f xs)).0 e).1

  -- the first is the one that passes after others that do not
  pub first_is : (d : A) (list : List A) (i : ℕ) → i < length list
      → ((j : ℕ) → j < i → f (get_or list j d) ≡ false) → f (get_or list i d) ≡ true
      → (some f list ≡ true) × (first_place f list ≡ i)
  unfolding some first_place
  first_is d [] i l h e = absurd (omega (arith, l))
  first_is d (x ∷ xs) zero l h e = rw e (refl, refl)
  first_is d (x ∷ xs) (suc i) l h e =
      let p = first_is d xs i (omega (arith, l)) (λ j k. h (suc j) (omega (arith, k))) e in
      rw (h 0 (omega arith)) (p.0, ap suc p.1)

  -- ---- a place written, and a list of one number

  pub none_set : (list : List A) (i : ℕ) (x : A) → some f list ≡ false → f x ≡ false
      → some f (set list i x) ≡ false
  unfolding some
  none_set [] i x g b = g
  none_set (y ∷ ys) zero x g b = (either_false (f x) (some f ys)).1 (b, ((either_false (f y) (some f ys)).0 g).1)
  none_set (y ∷ ys) (suc i) x g b =
      let k = (either_false (f y) (some f ys)).0 g in
      (either_false (f y) (some f (set ys i x))).1 (k.0, none_set ys i x k.1 b)

  pub none_replicate : (m : ℕ) (x : A) → f x ≡ false → some f (replicate m x) ≡ false
  unfolding some
  none_replicate zero x b = refl
  none_replicate (suc m) x b = (either_false (f x) (some f (replicate m x))).1 (b, none_replicate m x b)

-- what stands at a place of the list, whatever stands past its end
pub in_range : {A : Type 0} (l : List A) (i : ℕ) (d e : A) → i < length l → get_or l i d ≡ get_or l i e
in_range [] i d e h = absurd (omega (arith, h))
in_range (x ∷ xs) zero d e h = refl
in_range (x ∷ xs) (suc i) d e h = in_range xs i d e (omega (arith, h))

-- where all that pass the one test pass the other, the other leaves none of them out
pub those_within : {A : Type 0} (f g : A → Bool) → ((x : A) → f x ≡ true → g x ≡ true) → (xs : List A)
    → those f (those g xs) ≡ those f xs
unfolding those
those_within f g w [] = refl
those_within f g w (x ∷ xs) = go (f x) (g x) refl refl (those_within f g w xs)
  where
    go : (a b : Bool) → f x ≡ a → g x ≡ b → those f (those g xs) ≡ those f xs
        → those f (those g (x ∷ xs)) ≡ those f (x ∷ xs)
    go true true a b ih = rw (b, a) (ap (λ ys. x ∷ ys) ih)
    go true false a b ih = absurd (true≢false (sym (w x a) ∙ b))
    go false true a b ih = rw (b, a) ih
    go false false a b ih = rw (b, a) ih
