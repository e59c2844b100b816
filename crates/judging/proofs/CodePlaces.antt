-- The places of the codes in a list: they rise, and are all. Assumes nothing.
use mathlib.Core.Path.{◌≡◌, ◌∙◌, sym, ap}
use mathlib.Core.Logic.{◌⊎◌, inl, inr, ⊎_elim}
use mathlib.Core.List.{List, [], ◌∷◌}
use Prim.Native.Nat.{ℕ, zero, suc, ◌+◌, ◌-◌, ◌≤◌, ◌<◌}
use native.Mathlib.Omega.{arith}
use borrow.Author.Tests.{eqb-true, eqb-false, eq-eqb, ne_eqb}
use lib.Dec.{eqb}
use lib.ListN.{length}
use Rattle.cells.proofs.Dictionary.{known}
use Rattle.judging.specs.Means.Keys.{code_places}
use Rattle.judging.specs.Means.Turns.{at}

-- what the first key decides
module _ (f k : ℕ) (ks : List ℕ) where
  skips : k ≡ 0 → code_places f (k ∷ ks) ≡ code_places (suc f) ks
  unfolding code_places
  skips e = rw (eq-eqb k 0 e)

  takes : (k ≡ 0 → ⊥) → code_places f (k ∷ ks) ≡ f ∷ code_places (suc f) ks
  unfolding code_places
  takes n = rw (ne_eqb k 0 n)

  first_key : (k ≡ 0) ⊎ (k ≡ 0 → ⊥)
  first_key = ⊎_elim (λ e. inl (eqb-true k 0 e)) (λ e. inr (eqb-false k 0 e)) (known (eqb k 0))

-- a place of the list is that of a key that is not 0
pub record There (f : ℕ) (ks : List ℕ) (p : ℕ) : Type 0 where
  pub low : f ≤ p
  pub high : p < f + length ks
  pub code : at ks (p - f) ≡ 0 → ⊥

there_next : (f k : ℕ) (ks : List ℕ) (p : ℕ) → There (suc f) ks p → There f (k ∷ ks) p
there_next f k ks p t =
    let e : p - f ≡ suc (p - suc f) = omega (arith, t.low) in
    record {
      low = omega (arith, t.low);
      high = omega (arith, t.high);
      code = λ z. t.code (ap (at (k ∷ ks)) (sym e) ∙ z);
    }

pub places_there : (f : ℕ) (ks : List ℕ) (i : ℕ) → i < length (code_places f ks) → There f ks (at (code_places f ks) i)
places_there f [] i l = absurd (unfold code_places in omega (arith, l))
places_there f (k ∷ ks) i l = go (places_there (suc f) ks) (first_key f k ks) i l
  where
    go : ((i : ℕ) → i < length (code_places (suc f) ks) → There (suc f) ks (at (code_places (suc f) ks) i))
        → (k ≡ 0) ⊎ (k ≡ 0 → ⊥) → (i : ℕ) → i < length (code_places f (k ∷ ks))
        → There f (k ∷ ks) (at (code_places f (k ∷ ks)) i)
    go ih (inl e) i l =
        let s = skips f k ks e in
        rw s (there_next f k ks _ (ih i (rw s at l)))
    go ih (inr n) zero l =
        let z : f - f ≡ 0 = omega arith in
        rw (takes f k ks n)
        record { low = omega arith; high = omega arith; code = λ e. n (ap (at (k ∷ ks)) (sym z) ∙ e) }
    go ih (inr n) (suc i) l =
        let s = takes f k ks n in
        let m : suc i < suc (length (code_places (suc f) ks)) = rw s at l in
        rw s (there_next f k ks _ (ih i (omega (arith, m))))

pub places_rise : (f : ℕ) (ks : List ℕ) (i j : ℕ) → i < j → j < length (code_places f ks)
    → at (code_places f ks) i < at (code_places f ks) j
places_rise f [] i j l m = absurd (unfold code_places in omega (arith, m))
places_rise f (k ∷ ks) i j l m = go (places_rise (suc f) ks) (first_key f k ks) i j l m
  where
    go : ((i j : ℕ) → i < j → j < length (code_places (suc f) ks)
        → at (code_places (suc f) ks) i < at (code_places (suc f) ks) j)
        → (k ≡ 0) ⊎ (k ≡ 0 → ⊥) → (i j : ℕ) → i < j → j < length (code_places f (k ∷ ks))
        → at (code_places f (k ∷ ks)) i < at (code_places f (k ∷ ks)) j
    go ih (inl e) i j l m = let s = skips f k ks e in rw s (ih i j l (rw s at m))
    go ih (inr n) i zero l m = absurd (omega (arith, l))
    go ih (inr n) zero (suc j) l m =
        let s = takes f k ks n in
        let h : suc j < suc (length (code_places (suc f) ks)) = rw s at m in
        let t = places_there (suc f) ks j (omega (arith, h)) in
        rw s (let q : f < at (code_places (suc f) ks) j = omega (arith, t.low) in q)
    go ih (inr n) (suc i) (suc j) l m =
        let s = takes f k ks n in
        let h : suc j < suc (length (code_places (suc f) ks)) = rw s at m in
        rw s (ih i j (omega (arith, l)) (omega (arith, h)))

pub places_all : (f : ℕ) (ks : List ℕ) (p : ℕ) → p < length ks → (at ks p ≡ 0 → ⊥)
    → (i : ℕ) × ((i < length (code_places f ks)) × (at (code_places f ks) i ≡ f + p))
places_all f [] p l n = absurd (omega (arith, l))
places_all f (k ∷ ks) p l n = go (places_all (suc f) ks) (first_key f k ks) p l n
  where
    Has : ℕ → Type 0
    Has p = (i : ℕ) × ((i < length (code_places f (k ∷ ks))) × (at (code_places f (k ∷ ks)) i ≡ f + p))

    go : ((p : ℕ) → p < length ks → (at ks p ≡ 0 → ⊥)
        → (i : ℕ) × ((i < length (code_places (suc f) ks)) × (at (code_places (suc f) ks) i ≡ suc f + p)))
        → (k ≡ 0) ⊎ (k ≡ 0 → ⊥) → (p : ℕ) → p < length (k ∷ ks) → (at (k ∷ ks) p ≡ 0 → ⊥) → Has p
    go ih (inl e) zero l n = absurd (n e)
    go ih (inl e) (suc p) l n =
        let s = skips f k ks e in
        let x = ih p (omega (arith, l)) n in
        (x.0, (rw s x.1.0, rw s (x.1.1 ∙ omega arith)))
    go ih (inr e) zero l n = let s = takes f k ks e in (0, (rw s (omega arith), rw s (omega arith)))
    go ih (inr e) (suc p) l n =
        let s = takes f k ks e in
        let x = ih p (omega (arith, l)) n in
        (suc x.0, (rw s (omega (arith, x.1.0)), rw s (x.1.1 ∙ omega arith)))
