-- The order of a dictionary on lists of numbers, and beginnings. Assumes nothing.
use mathlib.Core.Path.{◌≡◌, ◌∙◌, refl, sym, ap}
use mathlib.Core.Bool.{Bool, true, false, true≢false}
use mathlib.Core.Logic.{◌⊎◌, inl, inr, ⊎_elim, ◌↔◌}
use mathlib.Core.List.{List, [], ◌∷◌, ◌++◌}
use Prim.Native.Nat.{ℕ, ◌<◌}
use native.Mathlib.Omega.{arith}
use lib.Dec.{eqb}
use lib.ListN.{length}
use borrow.Author.Tests.{ltb-true, ltb-false, eqb-true, eqb-false, lt-ltb, eq-eqb, ne_eqb}
use Rattle.cells.specs.Order.{sooner, begins}

-- ---- yes or no

pub known : (b : Bool) → (b ≡ true) ⊎ (b ≡ false)
known true = inl refl
known false = inr refl

pub clash : {b : Bool} → b ≡ true → b ≡ false → ⊥
clash e f = true≢false (sym e ∙ f)

-- ---- what the first letters decide

-- x ∷ xs stands before y ∷ ys by its first letter, or by the others
abbrev pub Decided : (x y : ℕ) (xs ys : List ℕ) → Type 0
Decided x y xs ys = (x < y) ⊎ ((x ≡ y) × (sooner xs ys ≡ true))

module _ (x y : ℕ) (xs ys : List ℕ) where
  sooner_same : x ≡ y → sooner (x ∷ xs) (y ∷ ys) ≡ sooner xs ys
  unfolding sooner
  sooner_same e = rw (eq-eqb x y e)

  sooner_less : x < y → sooner (x ∷ xs) (y ∷ ys) ≡ true
  unfolding sooner
  sooner_less l = rw (ne_eqb x y (λ e. omega arith), lt-ltb x y l)

  pub sooner_cons : sooner (x ∷ xs) (y ∷ ys) ≡ true → Decided x y xs ys
  unfolding sooner
  sooner_cons h =
      ⊎_elim (λ e. inr (eqb-true x y e, rw e at h)) (λ e. inl (ltb-true x y (rw e at h))) (known (eqb x y))

  pub begins_cons : begins (x ∷ xs) (y ∷ ys) ≡ true → (x ≡ y) × (begins xs ys ≡ true)
  unfolding begins
  begins_cons h =
      ⊎_elim (λ e. (eqb-true x y e, rw e at h)) (λ e. absurd (true≢false (sym (rw e at h)))) (known (eqb x y))

  pub begins_same : x ≡ y → begins (x ∷ xs) (y ∷ ys) ≡ begins xs ys
  unfolding begins
  begins_same e = rw (eq-eqb x y e)

-- ---- a strict total order

pub sooner_self : (xs : List ℕ) → sooner xs xs ≡ false
unfolding sooner
sooner_self [] = refl
sooner_self (x ∷ xs) = rw (eq-eqb x x refl) (sooner_self xs)

pub sooner_trans : (xs ys zs : List ℕ) → sooner xs ys ≡ true → sooner ys zs ≡ true → sooner xs zs ≡ true
unfolding sooner
sooner_trans [] [] zs h k = absurd (true≢false (sym h))
sooner_trans [] (y ∷ ys) [] h k = absurd (true≢false (sym k))
sooner_trans [] (y ∷ ys) (z ∷ zs) h k = refl
sooner_trans (x ∷ xs) [] zs h k = absurd (true≢false (sym h))
sooner_trans (x ∷ xs) (y ∷ ys) [] h k = absurd (true≢false (sym k))
sooner_trans (x ∷ xs) (y ∷ ys) (z ∷ zs) h k =
    go (sooner_trans xs ys zs) (sooner_cons x y xs ys h) (sooner_cons y z ys zs k)
  where
    go : (sooner xs ys ≡ true → sooner ys zs ≡ true → sooner xs zs ≡ true) → Decided x y xs ys → Decided y z ys zs
        → sooner (x ∷ xs) (z ∷ zs) ≡ true
    go ih (inl a) (inl b) = sooner_less x z xs zs (omega arith)
    go ih (inl a) (inr b) = sooner_less x z xs zs (omega (arith, b.0))
    go ih (inr a) (inl b) = sooner_less x z xs zs (omega (arith, a.0))
    go ih (inr a) (inr b) = sooner_same x z xs zs (a.0 ∙ b.0) ∙ ih a.1 b.1

pub sooner_total : (xs ys : List ℕ) → sooner xs ys ≡ false → sooner ys xs ≡ false → xs ≡ ys
unfolding sooner
sooner_total [] [] h k = refl
sooner_total [] (y ∷ ys) h k = absurd (true≢false h)
sooner_total (x ∷ xs) [] h k = absurd (true≢false k)
sooner_total (x ∷ xs) (y ∷ ys) h k = go (sooner_total xs ys) (known (eqb x y))
  where
    go : (sooner xs ys ≡ false → sooner ys xs ≡ false → xs ≡ ys) → (eqb x y ≡ true) ⊎ (eqb x y ≡ false)
        → x ∷ xs ≡ y ∷ ys
    go ih (inl e) =
        let q = eqb-true x y e in
        let r = ih (sym (sooner_same x y xs ys q) ∙ h) (sym (sooner_same y x ys xs (sym q)) ∙ k) in
        λ i. q i ∷ r i
    go ih (inr e) =
        let ne = eqb-false x y e in
        let a = ltb-false x y (rw (ne_eqb x y ne) at h) in
        let b = ltb-false y x (rw (ne_eqb y x (λ q. ne (sym q))) at k) in
        absurd (ne (omega arith))

-- ---- beginnings

-- a beginning stands before
pub begins_sooner : (xs ys : List ℕ) → begins xs ys ≡ true → sooner xs ys ≡ true
unfolding begins sooner
begins_sooner [] [] h = absurd (true≢false (sym h))
begins_sooner [] (y ∷ ys) h = refl
begins_sooner (x ∷ xs) [] h = absurd (true≢false (sym h))
begins_sooner (x ∷ xs) (y ∷ ys) h =
    let p = begins_cons x y xs ys h in sooner_same x y xs ys p.0 ∙ begins_sooner xs ys p.1

-- what stands between a beginning and what begins with it begins with it too
pub begins_between : (xs ys zs : List ℕ) → sooner xs ys ≡ true → sooner ys zs ≡ true → begins xs zs ≡ true
    → begins xs ys ≡ true
unfolding begins
begins_between [] [] zs h k b = absurd (unfold sooner in true≢false (sym h))
begins_between [] (y ∷ ys) zs h k b = refl
begins_between (x ∷ xs) [] zs h k b = absurd (unfold sooner in true≢false (sym h))
begins_between (x ∷ xs) (y ∷ ys) [] h k b = absurd (unfold sooner in true≢false (sym k))
begins_between (x ∷ xs) (y ∷ ys) (z ∷ zs) h k b =
    go (begins_between xs ys zs) (sooner_cons x y xs ys h) (sooner_cons y z ys zs k) (begins_cons x z xs zs b)
  where
    go : (sooner xs ys ≡ true → sooner ys zs ≡ true → begins xs zs ≡ true → begins xs ys ≡ true)
        → Decided x y xs ys → Decided y z ys zs → (x ≡ z) × (begins xs zs ≡ true)
        → begins (x ∷ xs) (y ∷ ys) ≡ true
    go ih (inl a) (inl c) (e, d) = absurd (omega (arith, e))
    go ih (inl a) (inr c) (e, d) = absurd (omega (arith, c.0, e))
    go ih (inr a) (inl c) (e, d) = absurd (omega (arith, a.0, e))
    go ih (inr a) (inr c) (e, d) = begins_same x y xs ys a.0 ∙ ih a.1 c.1 d

-- what begins a beginning begins what it begins
pub begins_trans : (xs ys zs : List ℕ) → begins xs ys ≡ true → begins ys zs ≡ true → begins xs zs ≡ true
unfolding begins
begins_trans [] [] zs h k = absurd (true≢false (sym h))
begins_trans [] (y ∷ ys) [] h k = absurd (true≢false (sym k))
begins_trans [] (y ∷ ys) (z ∷ zs) h k = refl
begins_trans (x ∷ xs) [] zs h k = absurd (true≢false (sym h))
begins_trans (x ∷ xs) (y ∷ ys) [] h k = absurd (true≢false (sym k))
begins_trans (x ∷ xs) (y ∷ ys) (z ∷ zs) h k =
    let p = begins_cons x y xs ys h in
    let q = begins_cons y z ys zs k in
    begins_same x z xs zs (p.0 ∙ q.0) ∙ begins_trans xs ys zs p.1 q.1

-- nothing with a letter begins a word of one and goes on
pub begins_one : (xs : List ℕ) (x y : ℕ) → begins (x ∷ xs) (y ∷ []) ≡ false
unfolding begins
begins_one [] x y = ⊎_elim (λ e. rw e) (λ e. rw e) (known (eqb x y))
begins_one (z ∷ xs) x y = ⊎_elim (λ e. rw e) (λ e. rw e) (known (eqb x y))

-- what begins a word with one letter more is the word, or begins it
pub begins_append : (xs ys : List ℕ) (d : ℕ) → (begins xs (ys ++ (d ∷ [])) ≡ true)
    ↔ ((xs ≡ ys) ⊎ (begins xs ys ≡ true))
unfolding begins
begins_append [] [] d = (λ e. inl refl, λ e. refl)
begins_append [] (y ∷ ys) d = (λ e. inr refl, λ e. refl)
begins_append (x ∷ xs) [] d = (
  λ e. absurd (clash e (begins_one xs x d)),
  ⊎_elim (λ e. absurd (omega (arith, ap (λ (l : List ℕ). length l) e))) (λ e. absurd (true≢false (sym e))),
)
begins_append (x ∷ xs) (y ∷ ys) d = go (begins_append xs ys d)
  where
    go : (begins xs (ys ++ (d ∷ [])) ≡ true) ↔ ((xs ≡ ys) ⊎ (begins xs ys ≡ true))
        → (begins (x ∷ xs) ((y ∷ ys) ++ (d ∷ [])) ≡ true) ↔ ((x ∷ xs ≡ y ∷ ys) ⊎ (begins (x ∷ xs) (y ∷ ys) ≡ true))
    go ih = (
      λ e.
          let p = begins_cons x y xs (ys ++ (d ∷ [])) e in
          ⊎_elim (λ q. inl (λ i. p.0 i ∷ q i)) (λ q. inr (begins_same x y xs ys p.0 ∙ q)) (ih.0 p.1),
      ⊎_elim
          (λ e.
          let q : x ≡ y = cc in
          let r : xs ≡ ys = cc in
          begins_same x y xs (ys ++ (d ∷ [])) q ∙ ih.1 (inl r))
          (λ e.
          let p = begins_cons x y xs ys e in
          begins_same x y xs (ys ++ (d ∷ [])) p.0 ∙ ih.1 (inr p.1)),
    )
