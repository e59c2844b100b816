-- Four in a row: the test by ranks, and what holds of every list that is joined by such a test. Assumes nothing.
use mathlib.Core.Path.{◌≡◌, ◌∙◌, refl, sym, ap}
use mathlib.Core.Bool.{Bool, true, false, ◌&&◌}
use mathlib.Core.List.{List, [], ◌∷◌, map}
use Prim.Native.Nat.{ℕ, zero, suc, ◌+◌, ◌-◌, ◌*◌, ◌%◌, ◌^◌, ◌≤◌, ◌<◌}
use native.Mathlib.Nat.{mod-eq_of_lt, mod-le}
use native.Mathlib.Numerals.{add-one}
use native.Mathlib.Omega.{arith}
use lib.Dec.{eqb}
use lib.ListN.{length, get_or}
use lib.Pow.{pow_pos, pow_mono, pow-add, mod-mod-pow}
use borrow.Author.Tests.{eqb-true, eq-eqb, ne_eqb}
use Rattle.mending.specs.Means.InRows.{joined, joins}
use Rattle.merging.specs.Means.Joining.{Small, in_ranks, before, joined_at, joins_at}

-- ---- the test

abbrev pub unit : ℕ → ℕ
unit d = 2 ^ (52 - 2 * d)

pub unit_some : (d : ℕ) → 0 < unit d
unit_some d = pow_pos (52 - 2 * d)

pub unit_most : (d : ℕ) → unit d ≤ 2 ^ 52
unit_most d = pow_mono {i = 52 - 2 * d} {j = 52} (omega arith)

-- the degree of the first is told by its last six bits
pub row_degree : (d a : ℕ) → d < 24 → a % (4 * unit d) ≡ suc d → a % 64 ≡ suc d
row_degree d a l e =
    let k : 52 - 2 * d + 2 ≡ 48 - 2 * d + 6 = omega arith in
    let p : 4 * unit d ≡ 2 ^ (48 - 2 * d + 6) =
    omega (arith, pow-add 2 (52 - 2 * d) 2) ∙ ap (λ (n : ℕ). 2 ^ n) k in
    sym (mod-mod-pow a (48 - 2 * d) 6) ∙ ap (λ (n : ℕ). a % n % 64) (sym p) ∙ ap (λ (n : ℕ). n % 64) e
    ∙ mod-eq_of_lt (omega arith)

module _ (d a b c e : ℕ) where
  pub not_degree : d < 24 → (a % 64 ≡ d + 1 → ⊥) → false ≡ in_ranks d a b c e
  unfolding in_ranks
  not_degree l h =
      rw (ne_eqb (a % (4 * unit d)) (suc d) (λ q. h (row_degree d a l q ∙ sym (add-one d)))) refl

  module _ (u : ℕ) (is : u ≡ unit d) where
    pub not_first : (a % (4 * u) ≡ d + 1 → ⊥) → false ≡ in_ranks d a b c e
    unfolding in_ranks
    not_first h =
        rw (ne_eqb (a % (4 * unit d)) (suc d)
        (λ q. h (ap (λ (n : ℕ). a % (4 * n)) is ∙ q ∙ sym (add-one d)))) refl

    first : a % (4 * u) ≡ d + 1 → eqb (a % (4 * unit d)) (suc d) ≡ true
    first f = eq-eqb (a % (4 * unit d)) (suc d) (ap (λ (n : ℕ). a % (4 * n)) (sym is) ∙ f ∙ add-one d)

    second : b ≡ a + u → eqb b (a + unit d) ≡ true
    second p = eq-eqb b (a + unit d) (p ∙ ap (λ (n : ℕ). a + n) is)

    third : c ≡ a + 2 * u → eqb c (a + 2 * unit d) ≡ true
    third q = eq-eqb c (a + 2 * unit d) (q ∙ ap (λ (n : ℕ). a + 2 * n) is)

    module _ (f : a % (4 * u) ≡ d + 1) where
      pub not_second : (b ≡ a + u → ⊥) → false ≡ in_ranks d a b c e
      unfolding in_ranks
      not_second h =
          rw (first f, ne_eqb b (a + unit d) (λ q. h (q ∙ ap (λ (n : ℕ). a + n) (sym is)))) refl

      pub not_third : b ≡ a + u → (c ≡ a + 2 * u → ⊥) → false ≡ in_ranks d a b c e
      unfolding in_ranks
      not_third p h =
          rw (first f, second p, ne_eqb c (a + 2 * unit d) (λ q. h (q ∙ ap (λ (n : ℕ). a + 2 * n) (sym is)))) refl

      pub as_fourth : b ≡ a + u → c ≡ a + 2 * u → eqb e (a + 3 * u) ≡ in_ranks d a b c e
      unfolding in_ranks
      as_fourth p q = ap (λ (n : ℕ). eqb e (a + 3 * n)) is ∙ sym (rw (first f, second p, third q) refl)

both_first : (a b : Bool) → a && b ≡ true → a ≡ true
both_first true b h = refl
both_first false b h = h

-- the first of four is not 0
pub row_some : (d a b c e : ℕ) → in_ranks d a b c e ≡ true → 1 ≤ a
unfolding in_ranks
row_some d a b c e h =
    omega (arith, eqb-true (a % (4 * unit d)) (suc d) (both_first _ _ h), mod-le a (4 * unit d))

-- ---- what holds of each of a list

abbrev pub Each : (ℕ → Type 0) → List ℕ → Type 0
Each P xs = (i : ℕ) → i < length xs → P (get_or xs i 0)

each_cons : (P : ℕ → Type 0) (x : ℕ) (xs : List ℕ) → P x → Each P xs → Each P (x ∷ xs)
each_cons P x xs p q zero l = p
each_cons P x xs p q (suc i) l = q i (omega arith)

-- ---- joining

module _ (row : ℕ → ℕ → ℕ → ℕ → Bool) (up : ℕ → ℕ) (a b c e : ℕ) (ws : List ℕ) where
  pub joined_true : row a b c e ≡ true → joined row up (a ∷ b ∷ c ∷ e ∷ ws) ≡ up a ∷ joined row up ws
  unfolding joined
  joined_true h = rw h refl

  pub joined_false : row a b c e ≡ false
      → joined row up (a ∷ b ∷ c ∷ e ∷ ws) ≡ a ∷ joined row up (b ∷ c ∷ e ∷ ws)
  unfolding joined
  joined_false h = rw h refl

  pub joins_true : row a b c e ≡ true → joins row up (a ∷ b ∷ c ∷ e ∷ ws) ≡ up a ∷ joins row up ws
  unfolding joins
  joins_true h = rw h refl

  pub joins_false : row a b c e ≡ false → joins row up (a ∷ b ∷ c ∷ e ∷ ws) ≡ joins row up (b ∷ c ∷ e ∷ ws)
  unfolding joins
  joins_false h = rw h refl

-- what `up` keeps is kept
module _ (P : ℕ → Type 0) (row : ℕ → ℕ → ℕ → ℕ → Bool) (up : ℕ → ℕ)
    (keeps : (a b c e : ℕ) → P a → row a b c e ≡ true → P (up a)) where
  abbrev Kept : List ℕ → Type 0
  Kept ws = Each P (joined row up ws) × Each P (joins row up ws)

  each_step : (a b c e : ℕ) (ws : List ℕ) → P a → Kept ws → Kept (b ∷ c ∷ e ∷ ws) → Kept (a ∷ b ∷ c ∷ e ∷ ws)
  each_step a b c e ws p q r = go (row a b c e) refl
    where
      go : (t : Bool) → row a b c e ≡ t → Kept (a ∷ b ∷ c ∷ e ∷ ws)
      go true h =
          rw (joined_true row up a b c e ws h, joins_true row up a b c e ws h) (
            each_cons P (up a) (joined row up ws) (keeps a b c e p h) q.0,
            each_cons P (up a) (joins row up ws) (keeps a b c e p h) q.1,
          )
      go false h =
          rw (joined_false row up a b c e ws h, joins_false row up a b c e ws h)
          (each_cons P a (joined row up (b ∷ c ∷ e ∷ ws)) p r.0, r.1)

  pub each_joined : (ws : List ℕ) → Each P ws → Kept ws
  unfolding joined joins
  each_joined [] p = (p, p)
  each_joined (a ∷ []) p = (p, λ i l. absurd (omega arith))
  each_joined (a ∷ b ∷ []) p = (p, λ i l. absurd (omega arith))
  each_joined (a ∷ b ∷ c ∷ []) p = (p, λ i l. absurd (omega arith))
  each_joined (a ∷ b ∷ c ∷ e ∷ ws) p =
      each_step a b c e ws (p 0 (omega arith)) (each_joined ws (λ i l. p (suc (suc (suc (suc i)))) (omega arith)))
      (each_joined (b ∷ c ∷ e ∷ ws) (λ i l. p (suc i) (omega arith)))

small_up : (d a b c e : ℕ) → a < 2 ^ 59 → in_ranks d a b c e ≡ true → before a < 2 ^ 59
small_up d a b c e l h = omega arith

pub small_joined : (d : ℕ) (rs : List ℕ) → Small rs → Small (joined_at d rs)
small_joined d rs s = (each_joined (λ r. r < 2 ^ 59) (in_ranks d) before (small_up d) rs s).0

pub small_joins : (d : ℕ) (rs : List ℕ) → Small rs → Small (joins_at d rs)
small_joins d rs s = (each_joined (λ r. r < 2 ^ 59) (in_ranks d) before (small_up d) rs s).1

-- a list by other numbers, for which the test and what four become are the same: P is what tells them of each
module _ (P : ℕ → Type 0) (row row' : ℕ → ℕ → ℕ → ℕ → Bool) (up up' f : ℕ → ℕ)
    (test : (a b c e : ℕ) → P a → P b → P c → P e → row' (f a) (f b) (f c) (f e) ≡ row a b c e)
    (ups : (a b c e : ℕ) → P a → P b → P c → P e → row a b c e ≡ true → up' (f a) ≡ f (up a)) where
  abbrev Mapped : List ℕ → Type 0
  Mapped ws =
      (joined row' up' (map f ws) ≡ map f (joined row up ws)) × (joins row' up' (map f ws) ≡ map f (joins row up ws))

  map_step : (a b c e : ℕ) (ws : List ℕ) → P a → P b → P c → P e → Mapped ws → Mapped (b ∷ c ∷ e ∷ ws)
      → Mapped (a ∷ b ∷ c ∷ e ∷ ws)
  map_step a b c e ws pa pb pc pe q r = go (row a b c e) refl
    where
      go : (t : Bool) → row a b c e ≡ t → Mapped (a ∷ b ∷ c ∷ e ∷ ws)
      go true h =
          let k : row' (f a) (f b) (f c) (f e) ≡ true = test a b c e pa pb pc pe ∙ h in
          let u = ups a b c e pa pb pc pe h in (
            joined_true row' up' (f a) (f b) (f c) (f e) (map f ws) k ∙ (λ i. u i ∷ q.0 i)
                ∙ ap (map f) (sym (joined_true row up a b c e ws h)),
            joins_true row' up' (f a) (f b) (f c) (f e) (map f ws) k ∙ (λ i. u i ∷ q.1 i)
                ∙ ap (map f) (sym (joins_true row up a b c e ws h)),
          )
      go false h =
          let k : row' (f a) (f b) (f c) (f e) ≡ false = test a b c e pa pb pc pe ∙ h in (
            joined_false row' up' (f a) (f b) (f c) (f e) (map f ws) k ∙ (λ i. f a ∷ r.0 i)
                ∙ ap (map f) (sym (joined_false row up a b c e ws h)),
            joins_false row' up' (f a) (f b) (f c) (f e) (map f ws) k ∙ r.1
                ∙ ap (map f) (sym (joins_false row up a b c e ws h)),
          )

  pub joined_map : (ws : List ℕ) → Each P ws → Mapped ws
  unfolding joined joins
  joined_map [] p = (refl, refl)
  joined_map (a ∷ []) p = (refl, refl)
  joined_map (a ∷ b ∷ []) p = (refl, refl)
  joined_map (a ∷ b ∷ c ∷ []) p = (refl, refl)
  joined_map (a ∷ b ∷ c ∷ e ∷ ws) p =
      map_step a b c e ws (p 0 (omega arith)) (p 1 (omega arith)) (p 2 (omega arith)) (p 3 (omega arith))
      (joined_map ws (λ i l. p (suc (suc (suc (suc i)))) (omega arith)))
      (joined_map (b ∷ c ∷ e ∷ ws) (λ i l. p (suc i) (omega arith)))
