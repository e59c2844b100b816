-- Counting, of any things: one to one, two kinds together, one kind parted by a test, and that there is only one number. Assumes nothing.
use mathlib.Core.Path.{◌≡◌, ◌∙◌, refl, sym, ap, subst}
use mathlib.Core.Bool.{Bool, true, false, true≢false}
use mathlib.Core.Logic.{◌⊎◌, inl, inr, ⊎_elim}
use Prim.Native.Nat.{ℕ, zero, suc, ◌+◌, ◌-◌, ◌≤◌, ◌<◌}
use native.Mathlib.Omega.{arith}
use lib.Dec.{ltb, eqb}
use borrow.Author.Tests.{eqb-true, eqb-false, lt-ltb, le-ltb}
use Rattle.net.proofs.Table.{either_way, less, same}
use Rattle.grid.specs.Counts.{Count}

-- the same number, written otherwise
pub as_many : {A : Type 0} {P : A → Type 0} {m n : ℕ} → m ≡ n → Count m P → Count n P
as_many {P = P} e c = subst (λ (k : ℕ). Count k P) e c

-- ONE TO ONE: R joins each x of P with one y of Q, and each y with one x; `d` is any thing at all
module _ {A B : Type 0} {P : A → Type 0} {Q : B → Type 0} {m : ℕ} (R : A → B → Type 0) (d : B)
    (there : (x : A) → P x → (y : B) × Q y × R x y) (back : (y : B) → Q y → (x : A) × P x × R x y)
    (left : (x x' : A) (y : B) → R x y → R x' y → x ≡ x') (right : (x : A) (y y' : B) → R x y → R x y' → y ≡ y') (c : Count m P) where
  joined_to : (i : ℕ) → (y : B) × (i < m → Q y × R (c.at i) y)
  joined_to i = go (either_way (less i m))
    where
      go : (i < m) ⊎ (i < m → ⊥) → (y : B) × (i < m → Q y × R (c.at i) y)
      go (inl h) = let y = there (c.at i) (c.each i h) in (y.0, λ h. (y.1, y.2))
      go (inr f) = (d, λ h. absurd (f h))

  pub matched : Count m Q
  matched = record {
    at = λ i. (joined_to i).0;
    each = λ i h. ((joined_to i).1 h).0;
    every = λ y q.
        let x = back y q in
        let p = c.every x.0 x.1 in
        let r = joined_to p.0 in
        (p.0, p.1, right x.0 r.0 y (subst (λ (z : A). R z r.0) p.2 (r.1 p.1).1) x.2);
    once = λ i j h k e.
        let r = ((joined_to j).1 k).1 in
        c.once i j h k (left (c.at i) (c.at j) (joined_to j).0 (subst (R (c.at i)) e ((joined_to i).1 h).1) r);
  }

-- by a function that takes different things to different ones
pub mapped : {A B : Type 0} {P : A → Type 0} {Q : B → Type 0} {m : ℕ} (f : A → B)
    → ((x : A) → P x → Q (f x)) → ((y : B) → Q y → (x : A) × P x × (f x ≡ y)) → ((x x' : A) → P x → P x' → f x ≡ f x' → x ≡ x') → Count m P → Count m Q
mapped {P = P} f there back one c =
    matched (λ x y. P x × (f x ≡ y)) (f (c.at 0)) (λ x p. (f x, there x p, (p, refl))) (λ y q. let x = back y q in (x.0, x.1, (x.1, x.2)))
    (λ x x' y r r'. one x x' r.0 r'.0 (r.1 ∙ sym r'.1)) (λ x y y' r r'. sym r.1 ∙ r'.1) c

-- the same things
pub same_things : {A : Type 0} {P Q : A → Type 0} {m : ℕ} → ((x : A) → P x → Q x) → ((x : A) → Q x → P x) → Count m P → Count m Q
same_things there back c = record { at = c.at; each = λ i h. there (c.at i) (c.each i h); every = λ x q. c.every x (back x q); once = c.once }

-- TWO KINDS TOGETHER, nothing being of both
module _ {A : Type 0} {P Q S : A → Type 0} {a b : ℕ} (first : (x : A) → P x → S x) (second : (x : A) → Q x → S x)
    (either : (x : A) → S x → P x ⊎ Q x) (apart : (x : A) → P x → Q x → ⊥) (c : Count a P) (d : Count b Q) where
  abbrev pick : Bool → ℕ → A
  pick true i = c.at i
  pick false i = d.at (i - a)

  abbrev placed : ℕ → A
  placed i = pick (ltb i a) i

  low : (i : ℕ) → i < a → placed i ≡ c.at i
  low i h = ap (λ (t : Bool). pick t i) (lt-ltb i a h)

  high : (i : ℕ) → a ≤ i → placed i ≡ d.at (i - a)
  high i h = ap (λ (t : Bool). pick t i) (le-ltb i a h)

  -- a number of the whole is one of the first kind or one of the second
  abbrev Side : ℕ → Type 0
  Side i = (i < a) ⊎ ((a ≤ i) × (i - a < b))

  side : (i : ℕ) → i < a + b → Side i
  side i h = ⊎_elim inl (λ f. inr (omega arith)) (either_way (less i a))

  of_first : (i : ℕ) → i < a → P (placed i)
  of_first i h = subst P (sym (low i h)) (c.each i h)

  of_second : (i : ℕ) → (a ≤ i) × (i - a < b) → Q (placed i)
  of_second i h = subst Q (sym (high i h.0)) (d.each (i - a) h.1)

  pub together : Count (a + b) S
  together = record {
    at = placed;
    each = λ i h. ⊎_elim (λ l. first (placed i) (of_first i l)) (λ l. second (placed i) (of_second i l)) (side i h);
    every = λ x s.
        ⊎_elim (λ p. let k = c.every x p in (k.0, omega (arith, k.1), low k.0 k.1 ∙ k.2))
        (λ q. let k = d.every x q in
        let e : a + k.0 - a ≡ k.0 = omega arith in
        (a + k.0, omega (arith, k.1), high (a + k.0) (omega arith) ∙ ap d.at e ∙ k.2))
        (either x s);
    once = λ i j h k e. go i j e (side i h) (side j k);
  }
    where
      go : (i j : ℕ) → placed i ≡ placed j → Side i → Side j → i ≡ j
      go i j e (inl h) (inl k) = c.once i j h k (sym (low i h) ∙ e ∙ low j k)
      go i j e (inl h) (inr k) = absurd (apart (placed j) (subst P e (of_first i h)) (of_second j k))
      go i j e (inr h) (inl k) = absurd (apart (placed i) (subst P (sym e) (of_first j k)) (of_second i h))
      go i j e (inr h) (inr k) =
          let z = d.once (i - a) (j - a) h.1 k.1 (sym (high i h.0) ∙ e ∙ high j k.0) in omega (arith, h.0, k.0, z)

-- ONE KIND PARTED by a test: first the numbers below m, then what they number

-- one thing, and nothing
one : {A : Type 0} {P : A → Type 0} (x : A) → P x → ((y : A) → P y → x ≡ y) → Count 1 P
one x p f = record { at = λ i. x; each = λ i h. p; every = λ y q. (0, omega arith, f y q); once = λ i j h k e. omega arith }

none : {A : Type 0} {P : A → Type 0} → A → ((y : A) → P y → ⊥) → Count 0 P
none x f = record { at = λ i. x; each = λ i h. absurd (omega arith); every = λ y q. absurd (f y q); once = λ i j h k e. absurd (omega arith) }

-- the numbers below m at which the test says t
abbrev Below : (ℕ → Bool) → Bool → ℕ → ℕ → Type 0
Below f t m i = (i < m) × (f i ≡ t)

abbrev Parts : (ℕ → Bool) → ℕ → Type 0
Parts f m = (a : ℕ) × (b : ℕ) × (a + b ≡ m) × Count a (Below f true m) × Count b (Below f false m)

-- the numbers below m, and m
grown : (f : ℕ → Bool) (t : Bool) (m a b : ℕ) → Count a (Below f t m) → Count b (λ i. (i ≡ m) × (f i ≡ t)) → Count (a + b) (Below f t (suc m))
grown f t m a b =
    together (λ i p. (omega (arith, p.0), p.1)) (λ i p. (omega (arith, p.0), p.1))
    (λ i p. ⊎_elim (λ e. inr (e, p.1)) (λ e. inl (omega (arith, e, p.0), p.1)) (either_way (same i m))) (λ i p q. omega (arith, p.0, q.0))

-- those that pass and those that do not are m together
parts : (f : ℕ → Bool) (m : ℕ) → Parts f m
parts f zero = (0, 0, omega arith, none 0 (λ i p. omega (arith, p.0)), none 0 (λ i p. omega (arith, p.0)))
parts f (suc m) = go (f m) refl (parts f m)
  where
    here : (t : Bool) → f m ≡ t → Count 1 (λ i. (i ≡ m) × (f i ≡ t))
    here t e = one m (refl, e) (λ i p. sym p.0)

    not_here : (t u : Bool) → f m ≡ t → (t ≡ u → ⊥) → Count 0 (λ i. (i ≡ m) × (f i ≡ u))
    not_here t u e n = none m (λ i p. n (sym e ∙ ap f (sym p.0) ∙ p.1))

    go : (t : Bool) → f m ≡ t → Parts f m → Parts f (suc m)
    go true e p = (p.0 + 1, p.1 + 0, omega (arith, p.2), grown f true m _ _ p.3 (here true e), grown f false m _ _ p.4 (not_here true false e true≢false))
    go false e p = (p.0 + 0, p.1 + 1, omega (arith, p.2), grown f true m _ _ p.3 (not_here false true e (λ q. true≢false (sym q))), grown f false m _ _ p.4 (here false e))

-- the same of m things
pub parted : {A : Type 0} {P : A → Type 0} {m : ℕ} (f : A → Bool) → Count m P
    → (a : ℕ) × (b : ℕ) × (a + b ≡ m) × Count a (λ x. P x × (f x ≡ true)) × Count b (λ x. P x × (f x ≡ false))
parted {A} {P} {m} f c = let p = parts (λ i. f (c.at i)) m in (p.0, p.1, p.2, over true p.3, over false p.4)
  where
    over : (t : Bool) {k : ℕ} → Count k (Below (λ i. f (c.at i)) t m) → Count k (λ x. P x × (f x ≡ t))
    over t =
        mapped c.at (λ i p. (c.each i p.0, p.1))
        (λ x p. let i = c.every x p.0 in (i.0, (i.1, ap f i.2 ∙ p.1), i.2)) (λ i j p q. c.once i j p.0 q.0)

-- ONE NUMBER: where different numbers below a go to different numbers below b, a is at most b

-- f takes them so
abbrev Apart : (a b : ℕ) → (ℕ → ℕ) → Type 0
Apart a b f = ((i : ℕ) → i < a → f i < b) × ((i j : ℕ) → i < a → j < a → f i ≡ f j → i ≡ j)

-- one less of both: what goes to the last of b, if anything does, goes instead where the last of a goes
abbrev moved : Bool → ℕ → ℕ → ℕ
moved true x y = y
moved false x y = x

fewer : (a b : ℕ) (f : ℕ → ℕ) → Apart (suc a) (suc b) f → Apart a b (λ i. moved (eqb (f i) b) (f i) (f a))
fewer a b f h = (λ i k. small i k (eqb (f i) b) refl, λ i j k l e. differ i j k l (eqb (f i) b) (eqb (f j) b) refl refl e)
  where
    small : (i : ℕ) → i < a → (t : Bool) → eqb (f i) b ≡ t → moved t (f i) (f a) < b
    small i k true e =
        ⊎_elim (λ z. absurd (omega (arith, h.1 i a (omega arith) (omega arith) (eqb-true (f i) b e ∙ sym z)))) (λ z. omega (arith, z, h.0 a (omega arith)))
        (either_way (same (f a) b))
    small i k false e = omega (arith, eqb-false (f i) b e, h.0 i (omega arith))

    differ : (i j : ℕ) → i < a → j < a → (t u : Bool) → eqb (f i) b ≡ t → eqb (f j) b ≡ u → moved t (f i) (f a) ≡ moved u (f j) (f a) → i ≡ j
    differ i j k l true true p q e = h.1 i j (omega arith) (omega arith) (eqb-true (f i) b p ∙ sym (eqb-true (f j) b q))
    differ i j k l true false p q e = absurd (omega (arith, h.1 a j (omega arith) (omega arith) e))
    differ i j k l false true p q e = absurd (omega (arith, h.1 i a (omega arith) (omega arith) e))
    differ i j k l false false p q e = h.1 i j (omega arith) (omega arith) e

at_most : (a b : ℕ) (f : ℕ → ℕ) → Apart a b f → a ≤ b
at_most zero b f h = omega arith
at_most (suc a) zero f h = absurd (omega (arith, h.0 0 (omega arith)))
at_most (suc a) (suc b) f h = omega (arith, at_most a b (λ i. moved (eqb (f i) b) (f i) (f a)) (fewer a b f h))

-- two counts of one kind
no_more : {A : Type 0} {P : A → Type 0} {a b : ℕ} → Count a P → Count b P → a ≤ b
no_more {P = P} {a} {b} c d = at_most a b (λ i. (n i).0) (λ i h. ((n i).1 h).0, λ i j h k e. c.once i j h k (sym ((n i).1 h).1 ∙ ap d.at e ∙ ((n j).1 k).1))
  where
    n : (i : ℕ) → (j : ℕ) × (i < a → (j < b) × (d.at j ≡ c.at i))
    n i = ⊎_elim (λ h. let p = d.every (c.at i) (c.each i h) in (p.0, λ h. (p.1, p.2))) (λ f. (0, λ h. absurd (f h))) (either_way (less i a))

pub one_number : {A : Type 0} {P : A → Type 0} {a b : ℕ} → Count a P → Count b P → a ≡ b
one_number c d = omega (arith, no_more c d, no_more d c)
