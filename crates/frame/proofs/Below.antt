-- The list of what f says of the numbers below m: place by place, made by writing one place after the other, and when
-- one place of it is written. Assumes nothing.
use mathlib.Core.Path.{◌≡◌, ◌∙◌, refl, sym, ap}
use mathlib.Core.Bool.{Bool, true, false}
use mathlib.Core.List.{List, [], ◌∷◌, ◌++◌, append-nil}
use Prim.Native.Nat.{ℕ, zero, suc, ◌≤◌, ◌<◌}
use native.Mathlib.Omega.{arith}
use borrow.Author.Tests.{ltb-true, ltb-false, eqb-true, eqb-false}
use lib.Dec.{ltb, eqb}
use lib.ListN.{length, get_or, set, replicate, length-append, length-set, get_or-append, drop_of_length-le}
use lib.ListN.{length-replicate, get_or-replicate}
use lib.Seq.{get_or-set_same, get_or-set_other, ext_get_or, get_or_at}
use Rattle.frame.specs.Answers.{over}
use Rattle.frame.specs.Lists.{below}
use Rattle.frame.proofs.Lengths.{over_next}

pub length_below : {A : Type 0} (m : ℕ) (f : ℕ → A) → length (below m f) ≡ m
unfolding below
length_below zero f = refl
length_below (suc m) f = simp length-append (omega (arith, length_below m f))

pub at_below : {A : Type 0} (m : ℕ) (f : ℕ → A) (d : A) (i : ℕ) → i < m → get_or (below m f) i d ≡ f i
unfolding below
at_below zero f d i l = absurd (omega (arith, l))
at_below (suc m) f d i l = go (ltb i m) refl (at_below m f d i)
  where
    go : (b : Bool) → ltb i m ≡ b → (i < m → get_or (below m f) i d ≡ f i)
        → get_or (below m f ++ (f m ∷ [])) i d ≡ f i
    go true b ih =
        let h = ltb-true i m b in
        get_or-append (below m f) (f m ∷ []) d i (omega (arith, h, length_below m f)) ∙ ih h
    go false b ih =
        let e : i ≡ m = omega (arith, ltb-false i m b, l) in
        rw e (get_or_at (below m f) (f m) [] d m (length_below m f))

module _ {A : Type 0} (m : ℕ) (f : ℕ → A) where
  -- a list is that one where it is as long and has the same at each place
  pub is_below : (list : List A) (d : A) → length list ≡ m → ((i : ℕ) → i < m → get_or list i d ≡ f i)
      → list ≡ below m f
  is_below list d e h =
      ext_get_or d list (below m f) (e ∙ sym (length_below m f))
      (λ i j. let k : i < m = omega (arith, j, e) in h i k ∙ sym (at_below m f d i k))

  pub below_same : (g : ℕ → A) → ((i : ℕ) → i < m → g i ≡ f i) → below m g ≡ below m f
  unfolding below
  below_same g h = go m (λ i l. l)
    where
      go : (k : ℕ) → ((i : ℕ) → i < k → i < m) → below k g ≡ below k f
      go zero w = refl
      go (suc k) w = λ j. go k (λ i l. w i (omega arith)) j ++ (h k (w k (omega arith)) j ∷ [])

  -- the same number everywhere
  pub below_replicate : (x : A) → ((i : ℕ) → i < m → f i ≡ x) → replicate m x ≡ below m f
  below_replicate x h =
      is_below (replicate m x) x (length-replicate m x) (λ i l. get_or-replicate m i x x l ∙ sym (h i l))

  -- one place written anew: what g says elsewhere is what f says
  pub below_set : (g : ℕ → A) (k : ℕ) → k < m → ((i : ℕ) → i < m → (i ≡ k → ⊥) → g i ≡ f i)
      → set (below m g) k (f k) ≡ below m f
  below_set g k l h =
      is_below (set (below m g) k (f k)) (f k) (length-set (below m g) k (f k) ∙ length_below m g)
      (λ i j. at i j (eqb i k) refl)
    where
      at : (i : ℕ) → i < m → (b : Bool) → eqb i k ≡ b → get_or (set (below m g) k (f k)) i (f k) ≡ f i
      at i j true b =
          rw (eqb-true i k b) (get_or-set_same (below m g) k (f k) (f k) (omega (arith, l, length_below m g)))
      at i j false b =
          let w = eqb-false i k b in
          get_or-set_other (below m g) k i (f k) (f k) w ∙ at_below m g (f k) i j ∙ h i j w

-- written one place after the other, over a list as it came
module _ {A : Type 0} (f : ℕ → A) (old : List A) where
  pub below_next : (i : ℕ) {v : A} → i < length old → v ≡ f i
      → set (over (below i f) old) i v ≡ over (below (suc i) f) old
  unfolding below
  below_next i {v} l e =
      over_next (below i f) old v i (length_below i f) l ∙ ap (λ (x : A). over (below i f ++ (x ∷ [])) old) e

  pub below_all : (i : ℕ) → length old ≤ i → i ≤ length old → over (below i f) old ≡ below (length old) f
  below_all i l h =
      let e : i ≡ length old = omega (arith, l, h) in
      let k : length old ≤ length (below i f) = omega (arith, l, length_below i f) in
      ap (λ (r : List A). below i f ++ r) (drop_of_length-le old {i = length (below i f)} k) ∙ append-nil (below i f)
      ∙ ap (λ (j : ℕ). below j f) e
