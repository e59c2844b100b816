-- The merges of one degree step by step, and those of all degrees one after the other. Assumes nothing.
use mathlib.Core.Path.{◌≡◌, ◌∙◌, refl, sym, ap}
use mathlib.Core.Bool.{true, false, true≢false}
use mathlib.Core.List.{List, [], ◌∷◌, ◌++◌}
use Prim.Native.Nat.{ℕ, suc, ◌+◌, ◌-◌, ◌^◌, ◌≤◌, ◌<◌}
use native.Mathlib.Omega.{arith}
use lib.ListN.{length, get_or, take, drop}
use lib.Seq.{length-take-le, get_or-take, get_or-drop, drop-drop}
use Rattle.std.proofs.lemmas.List.{drop-take}
use Rattle.mending.specs.Means.InRows.{joined, joins}
use Rattle.merging.specs.Means.Joining.{Small, in_ranks, before, joined_at, joins_at}
use Rattle.merging.specs.Means.Joining.{joined_below, joins_below, starts_four}
use Rattle.merging.proofs.Written.{Shrinking, rest_length, no_place, at_rest, unread_head}
use Rattle.merging.proofs.Rows.{row_some, joined_true, joined_false, joins_true, joins_false}

-- ---- the first of a list

pub short : (d : ℕ) (xs : List ℕ) → length xs < 4 → false ≡ starts_four d xs
unfolding starts_four
short d [] l = refl
short d (a ∷ []) l = refl
short d (a ∷ b ∷ []) l = refl
short d (a ∷ b ∷ c ∷ []) l = refl
short d (a ∷ b ∷ c ∷ e ∷ ws) l = absurd (omega arith)

pub long : (d : ℕ) (xs : List ℕ) → 4 ≤ length xs
    → in_ranks d (get_or xs 0 0) (get_or xs 1 0) (get_or xs 2 0) (get_or xs 3 0) ≡ starts_four d xs
unfolding starts_four
long d [] l = absurd (omega arith)
long d (a ∷ []) l = absurd (omega arith)
long d (a ∷ b ∷ []) l = absurd (omega arith)
long d (a ∷ b ∷ c ∷ []) l = absurd (omega arith)
long d (a ∷ b ∷ c ∷ e ∷ ws) l = refl

skips : (d : ℕ) (xs : List ℕ) → 0 < length xs → starts_four d xs ≡ false
    → (joined_at d xs ≡ get_or xs 0 0 ∷ joined_at d (drop 1 xs)) × (joins_at d xs ≡ joins_at d (drop 1 xs))
unfolding starts_four joined joins
skips d [] l h = absurd (omega arith)
skips d (a ∷ []) l h = (refl, refl)
skips d (a ∷ b ∷ []) l h = (refl, refl)
skips d (a ∷ b ∷ c ∷ []) l h = (refl, refl)
skips d (a ∷ b ∷ c ∷ e ∷ ws) l h = (
  joined_false (in_ranks d) before a b c e ws h,
  joins_false (in_ranks d) before a b c e ws h,
)

record Begins (d : ℕ) (xs : List ℕ) : Type 0 where
  pub long : 4 ≤ length xs
  pub some : 1 ≤ get_or xs 0 0
  pub list : joined_at d xs ≡ before (get_or xs 0 0) ∷ joined_at d (drop 4 xs)
  pub merges : joins_at d xs ≡ before (get_or xs 0 0) ∷ joins_at d (drop 4 xs)

begins : (d : ℕ) (xs : List ℕ) → starts_four d xs ≡ true → Begins d xs
unfolding starts_four
begins d [] h = absurd (true≢false (sym h))
begins d (a ∷ []) h = absurd (true≢false (sym h))
begins d (a ∷ b ∷ []) h = absurd (true≢false (sym h))
begins d (a ∷ b ∷ c ∷ []) h = absurd (true≢false (sym h))
begins d (a ∷ b ∷ c ∷ e ∷ ws) h = record {
  long = omega arith;
  some = row_some d a b c e h;
  list = joined_true (in_ranks d) before a b c e ws h;
  merges = joins_true (in_ranks d) before a b c e ws h;
}

-- ---- from place i on

-- as a part of the list
part : (rs : List ℕ) (m i : ℕ) → i < m → take (m - i) (drop i rs) ≡ drop i (take m rs)
part rs m i l =
    let e : i + (m - i) ≡ m = omega arith in
    sym (drop-take i (m - i) rs) ∙ ap (λ (n : ℕ). drop i (take n rs)) e

module _ (d : ℕ) {old new : List ℕ} {m i j : ℕ} {left whole : List ℕ} (g : Shrinking old new m i j left whole)
    (h : m ≤ length old) where
  pub small_next : i < m → Small (take m old) → get_or new i 0 < 2 ^ 59
  small_next l s =
      let z : i < length (take m old) = omega (arith, length-take-le m old h) in
      let k : i + 0 ≡ i = omega arith in
      let e : get_or old i 0 ≡ get_or new i 0 =
      sym (at_rest old 0 m i 0 (omega arith) ∙ ap (λ (n : ℕ). get_or old n 0) k) ∙ unread_head g l in
      omega (arith, s i z, get_or-take m old i 0 l, e)

  pub small_first : i < m → Small (take m old) → get_or (take (m - i) (drop i new)) 0 0 < 2 ^ 59
  small_first l s =
      let z : i + 0 ≡ i = omega arith in
      omega (
        arith,
        get_or-take (m - i) (drop i new) 0 0 (omega arith),
        get_or-drop i new 0 0,
        ap (λ (n : ℕ). get_or new n 0) z,
        small_next l s,
      )

  -- none begins here
  pub skip : i < m → starts_four d (take (m - i) (drop i new)) ≡ false
      → (joined_at d (drop i (take m old)) ≡ get_or new i 0 ∷ joined_at d (drop (i + 1) (take m old)))
      × (joins_at d (drop i (take m old)) ≡ joins_at d (drop (i + 1) (take m old)))
  skip l q =
      let s = skips d (drop i (take m old)) (omega (arith, rest_length old m h i))
      (ap (starts_four d) (sym g.unread ∙ sym (part new m i l)) ∙ q) in (
        s.0 ∙ (λ k. unread_head g l k ∷ joined_at d (drop-drop 1 i (take m old) k)),
        s.1 ∙ ap (joins_at d) (drop-drop 1 i (take m old)),
      )

  -- four begin here
  pub record Four : Type 0 where
    pub inside : i + 4 ≤ m
    pub some : 1 ≤ get_or new i 0
    pub list : joined_at d (drop i (take m old)) ≡ (get_or new i 0 - 1) ∷ joined_at d (drop (i + 4) (take m old))
    pub merges : joins_at d (drop i (take m old)) ≡ (get_or new i 0 - 1) ∷ joins_at d (drop (i + 4) (take m old))

  pub a_four : i < m → starts_four d (take (m - i) (drop i new)) ≡ true → Four
  a_four l q =
      let s = begins d (drop i (take m old)) (ap (starts_four d) (sym g.unread ∙ sym (part new m i l)) ∙ q) in
      let e = unread_head g l in
      record {
        inside = omega (arith, s.long, rest_length old m h i);
        some = omega (arith, s.some, e);
        list = s.list ∙ (λ k. before (e k) ∷ joined_at d (drop-drop 4 i (take m old) k));
        merges = s.merges ∙ (λ k. before (e k) ∷ joins_at d (drop-drop 4 i (take m old) k));
      }

-- none is left
pub nothing_left : (d : ℕ) (rs : List ℕ) (m i : ℕ) → m ≤ length rs → i ≡ m
    → (joined_at d (drop i (take m rs)) ≡ []) × (joins_at d (drop i (take m rs)) ≡ [])
unfolding joined joins
nothing_left d rs m i h e =
    let n = no_place rs m h i e in
    (ap (joined_at d) n, ap (joins_at d) n)

-- ---- one degree after the other

module _ (d : ℕ) (l : 0 < d) (xs ys : List ℕ) (e : ys ≡ joined_at (d - 1) xs) where
  next_degree : d ≡ suc (d - 1)
  next_degree = omega arith

  pub joined_next : joined_below d xs ≡ joined_below (d - 1) ys
  unfolding joined_below
  joined_next = ap (λ (n : ℕ). joined_below n xs) next_degree ∙ ap (joined_below (d - 1)) (sym e)

  pub joins_next : joins_below d xs ≡ joins_at (d - 1) xs ++ joins_below (d - 1) ys
  unfolding joins_below
  joins_next =
      ap (λ (n : ℕ). joins_below n xs) next_degree
      ∙ ap (λ (zs : List ℕ). joins_at (d - 1) xs ++ joins_below (d - 1) zs) (sym e)

pub below_none : (d : ℕ) (xs : List ℕ) → d ≡ 0 → (joined_below d xs ≡ xs) × (joins_below d xs ≡ [])
unfolding joined_below joins_below
below_none d xs e = (ap (λ (n : ℕ). joined_below n xs) e, ap (λ (n : ℕ). joins_below n xs) e)
