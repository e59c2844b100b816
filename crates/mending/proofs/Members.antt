-- What is in a list after choosing, joining and ordering; lists that rise, and that two of them with the same members
-- are one. Assumes nothing.
use mathlib.Core.Path.{◌≡◌, ◌∙◌, refl, sym, ap}
use mathlib.Core.Bool.{Bool, true, false, true≢false, cond, ◌&&◌}
use mathlib.Core.Logic.{◌⊎◌, inl, inr, ⊎_elim}
use mathlib.Core.List.{List, [], ◌∷◌, ◌++◌, map}
use Prim.Native.Nat.{ℕ, zero, suc, ◌<◌}
use native.Mathlib.Omega.{arith}
use lib.Dec.{eqb}
use lib.ListN.{length, get_or}
use borrow.Author.Tests.{eqb-true, eq-eqb}
use Rattle.frame.specs.Lists.{some, first_place, those}
use Rattle.frame.proofs.Refusing.{either_left, either_right}
use Rattle.frame.proofs.Scanning.{first_there}
use Rattle.cells.specs.Order.{valid, less_than}
use Rattle.cells.proofs.Dictionary.{known, clash}
use Rattle.cells.proofs.Spelling.{less_self, less_trans, above}
use Rattle.mending.specs.Mending.{member, insert, ordered}

-- ---- yes or no

pub not_so : (b : Bool) → (b ≡ true → ⊥) → b ≡ false
not_so b n = ⊎_elim (λ e. absurd (n e)) (λ e. e) (known b)

pub true_and : (a b : Bool) → a ≡ true → b ≡ true → a && b ≡ true
true_and a b e f = rw (e, f)

pub both_true : (a b : Bool) → a && b ≡ true → (a ≡ true) × (b ≡ true)
both_true true b h = (refl, h)
both_true false b h = absurd (true≢false (sym h))

-- ---- places

abbrev pub Mem : ℕ → List ℕ → Type 0
Mem w [] = ⊥
Mem w (u ∷ us) = (w ≡ u) ⊎ Mem w us

pub mem_cast : (w u : ℕ) (ws : List ℕ) → w ≡ u → Mem w ws → Mem u ws
mem_cast w u ws e m = rw e at m

pub mem_at : (w : ℕ) (ws : List ℕ) → Mem w ws → (i : ℕ) × (i < length ws) × (get_or ws i 0 ≡ w)
mem_at w [] m = absurd m
mem_at w (u ∷ us) (inl e) = (0, omega arith, sym e)
mem_at w (u ∷ us) (inr m) = let p = mem_at w us m in (suc p.0, omega (arith, p.1), p.2)

pub at_mem : (ws : List ℕ) (i : ℕ) → i < length ws → Mem (get_or ws i 0) ws
at_mem [] i l = absurd (omega arith)
at_mem (u ∷ us) zero l = inl refl
at_mem (u ∷ us) (suc i) l = inr (at_mem us i (omega arith))

-- ---- what passes a test

pub some_mem : (f : ℕ → Bool) (ws : List ℕ) → some f ws ≡ true → (w : ℕ) × Mem w ws × (f w ≡ true)
some_mem f ws h =
    let i = first_place f ws in
    let p = first_there f 0 ws h in
    (get_or ws i 0, at_mem ws i p.0, p.1)

pub mem_some : (f : ℕ → Bool) (w : ℕ) (ws : List ℕ) → Mem w ws → f w ≡ true → some f ws ≡ true
unfolding some
mem_some f w [] m h = absurd m
mem_some f w (u ∷ us) (inl e) h = either_left (f u) (some f us) (rw e at h)
mem_some f w (u ∷ us) (inr m) h = either_right (f u) (some f us) (mem_some f w us m h)

pub member_mem : (w : ℕ) (ws : List ℕ) → member w ws ≡ true → Mem w ws
unfolding member
member_mem w ws h =
    let p = some_mem (eqb w) ws h in
    mem_cast p.0 w ws (sym (eqb-true w p.0 p.2)) p.1

pub mem_member : (w : ℕ) (ws : List ℕ) → Mem w ws → member w ws ≡ true
unfolding member
mem_member w ws m = mem_some (eqb w) w ws m (eq-eqb w w refl)

pub those_mem : (f : ℕ → Bool) (w : ℕ) (ws : List ℕ) → Mem w (those f ws) → Mem w ws × (f w ≡ true)
unfolding those
those_mem f w [] m = absurd m
those_mem f w (u ∷ us) m = go (known (f u)) (those_mem f w us)
  where
    first : f u ≡ true → (Mem w (those f us) → Mem w us × (f w ≡ true)) → (w ≡ u) ⊎ Mem w (those f us)
        → Mem w (u ∷ us) × (f w ≡ true)
    first e ih (inl q) = (inl q, ap f q ∙ e)
    first e ih (inr m) = let p = ih m in (inr p.0, p.1)

    go : (f u ≡ true) ⊎ (f u ≡ false) → (Mem w (those f us) → Mem w us × (f w ≡ true))
        → Mem w (u ∷ us) × (f w ≡ true)
    go (inl e) ih = first e ih (rw e at m)
    go (inr e) ih = let p = ih (rw e at m) in (inr p.0, p.1)

pub mem_those : (f : ℕ → Bool) (w : ℕ) (ws : List ℕ) → Mem w ws → f w ≡ true → Mem w (those f ws)
unfolding those
mem_those f w [] m h = absurd m
mem_those f w (u ∷ us) (inl e) h = rw (ap f (sym e) ∙ h) (inl e)
mem_those f w (u ∷ us) (inr m) h = go (known (f u)) (mem_those f w us m h)
  where
    go : (f u ≡ true) ⊎ (f u ≡ false) → Mem w (those f us)
        → Mem w (cond (f u) (u ∷ those f us) (those f us))
    go (inl e) p = rw e (inr p)
    go (inr e) p = rw e p

-- ---- joining, and what is made of each

pub append_mem : (w : ℕ) (xs ys : List ℕ) → Mem w (xs ++ ys) → Mem w xs ⊎ Mem w ys
append_mem w [] ys m = inr m
append_mem w (x ∷ xs) ys (inl e) = inl (inl e)
append_mem w (x ∷ xs) ys (inr m) = ⊎_elim (λ p. inl (inr p)) inr (append_mem w xs ys m)

pub mem_left : (w : ℕ) (xs ys : List ℕ) → Mem w xs → Mem w (xs ++ ys)
mem_left w [] ys m = absurd m
mem_left w (x ∷ xs) ys (inl e) = inl e
mem_left w (x ∷ xs) ys (inr m) = inr (mem_left w xs ys m)

pub mem_right : (w : ℕ) (xs ys : List ℕ) → Mem w ys → Mem w (xs ++ ys)
mem_right w [] ys m = m
mem_right w (x ∷ xs) ys m = inr (mem_right w xs ys m)

pub map_mem : (f : ℕ → ℕ) (w : ℕ) (ws : List ℕ) → Mem w (map f ws) → (u : ℕ) × Mem u ws × (w ≡ f u)
map_mem f w [] m = absurd m
map_mem f w (u ∷ us) (inl e) = (u, inl refl, e)
map_mem f w (u ∷ us) (inr m) = let p = map_mem f w us m in (p.0, inr p.1, p.2)

pub mem_map : (f : ℕ → ℕ) (u : ℕ) (ws : List ℕ) → Mem u ws → Mem (f u) (map f ws)
mem_map f u [] m = absurd m
mem_map f u (w ∷ ws) (inl e) = inl (ap f e)
mem_map f u (w ∷ ws) (inr m) = inr (mem_map f u ws m)

-- ---- ordering

pub insert_mem : (w u : ℕ) (us : List ℕ) → Mem w (insert u us) → (w ≡ u) ⊎ Mem w us
unfolding insert
insert_mem w u [] (inl e) = inl e
insert_mem w u [] (inr m) = absurd m
insert_mem w u (x ∷ xs) m = go (known (less_than x u)) (insert_mem w u xs)
  where
    first : (Mem w (insert u xs) → (w ≡ u) ⊎ Mem w xs) → (w ≡ x) ⊎ Mem w (insert u xs)
        → (w ≡ u) ⊎ Mem w (x ∷ xs)
    first ih (inl e) = inr (inl e)
    first ih (inr q) = ⊎_elim inl (λ p. inr (inr p)) (ih q)

    go : (less_than x u ≡ true) ⊎ (less_than x u ≡ false) → (Mem w (insert u xs) → (w ≡ u) ⊎ Mem w xs)
        → (w ≡ u) ⊎ Mem w (x ∷ xs)
    go (inl e) ih = first ih (rw e at m)
    go (inr e) ih = rw e at m

pub mem_insert : (w u : ℕ) (us : List ℕ) → (w ≡ u) ⊎ Mem w us → Mem w (insert u us)
unfolding insert
mem_insert w u [] m = m
mem_insert w u (x ∷ xs) m = go (known (less_than x u)) (mem_insert w u xs)
  where
    first : ((w ≡ u) ⊎ Mem w xs → Mem w (insert u xs)) → (w ≡ u) ⊎ ((w ≡ x) ⊎ Mem w xs)
        → (w ≡ x) ⊎ Mem w (insert u xs)
    first ih (inl e) = inr (ih (inl e))
    first ih (inr (inl e)) = inl e
    first ih (inr (inr q)) = inr (ih (inr q))

    go : (less_than x u ≡ true) ⊎ (less_than x u ≡ false) → ((w ≡ u) ⊎ Mem w xs → Mem w (insert u xs))
        → Mem w (cond (less_than x u) (x ∷ insert u xs) (u ∷ x ∷ xs))
    go (inl e) ih = rw e (first ih m)
    go (inr e) ih = rw e m

pub ordered_mem : (w : ℕ) (ws : List ℕ) → Mem w (ordered ws) → Mem w ws
unfolding ordered
ordered_mem w [] m = m
ordered_mem w (u ∷ us) m = ⊎_elim inl (λ p. inr (ordered_mem w us p)) (insert_mem w u (ordered us) m)

pub mem_ordered : (w : ℕ) (ws : List ℕ) → Mem w ws → Mem w (ordered ws)
unfolding ordered
mem_ordered w [] m = m
mem_ordered w (u ∷ us) (inl e) = mem_insert w u (ordered us) (inl e)
mem_ordered w (u ∷ us) (inr m) = mem_insert w u (ordered us) (inr (mem_ordered w us m))

-- ---- lists that rise, and lists in which nothing stands twice

abbrev pub Above : ℕ → List ℕ → Type 0
Above w ws = (u : ℕ) → Mem u ws → less_than w u ≡ true

abbrev pub Rises : List ℕ → Type 0
Rises [] = Unit {0}
Rises (w ∷ ws) = Above w ws × Rises ws

abbrev pub Once : List ℕ → Type 0
Once [] = Unit {0}
Once (w ∷ ws) = (Mem w ws → ⊥) × Once ws

abbrev pub Valid : List ℕ → Type 0
Valid ws = (w : ℕ) → Mem w ws → valid w ≡ true

pub insert_rises : (w : ℕ) (ws : List ℕ) → valid w ≡ true → Valid ws → (Mem w ws → ⊥) → Rises ws
    → Rises (insert w ws)
unfolding insert
insert_rises w [] v vs n r = (λ u m. absurd m, tt)
insert_rises w (x ∷ xs) v vs n r =
    go (known (less_than x w)) (insert_rises w xs v (λ u m. vs u (inr m)) (λ m. n (inr m)) r.1)
  where
    lower : less_than x w ≡ true → Above x (insert w xs)
    lower h u m = ⊎_elim (λ e. ap (less_than x) e ∙ h) (λ p. r.0 u p) (insert_mem u w xs m)

    before : less_than x w ≡ false → less_than w x ≡ true
    before h = above x w (vs x (inl refl)) v h (λ e. n (inl (sym e)))

    upper : less_than x w ≡ false → Above w (x ∷ xs)
    upper h u (inl e) = ap (less_than w) e ∙ before h
    upper h u (inr m) = less_trans w x u (before h) (r.0 u m)

    go : (less_than x w ≡ true) ⊎ (less_than x w ≡ false) → Rises (insert w xs)
        → Rises (cond (less_than x w) (x ∷ insert w xs) (w ∷ x ∷ xs))
    go (inl e) ih = rw e (lower e, ih)
    go (inr e) ih = rw e (upper e, r)

pub ordered_rises : (ws : List ℕ) → Valid ws → Once ws → Rises (ordered ws)
unfolding ordered
ordered_rises [] vs o = tt
ordered_rises (w ∷ ws) vs o =
    insert_rises w (ordered ws) (vs w (inl refl)) (λ u m. vs u (inr (ordered_mem u ws m)))
    (λ m. o.0 (ordered_mem w ws m)) (ordered_rises ws (λ u m. vs u (inr m)) o.1)

pub those_rises : (f : ℕ → Bool) (ws : List ℕ) → Rises ws → Rises (those f ws)
unfolding those
those_rises f [] r = tt
those_rises f (w ∷ ws) r = go (known (f w)) (those_rises f ws r.1)
  where
    go : (f w ≡ true) ⊎ (f w ≡ false) → Rises (those f ws) → Rises (cond (f w) (w ∷ those f ws) (those f ws))
    go (inl e) ih = rw e (λ u m. r.0 u (those_mem f u ws m).0, ih)
    go (inr e) ih = rw e ih

pub rises_once : (ws : List ℕ) → Rises ws → Once ws
rises_once [] r = tt
rises_once (w ∷ ws) r = (λ m. clash (r.0 w m) (less_self w), rises_once ws r.1)

pub append_once : (xs ys : List ℕ) → Once xs → Once ys → ((w : ℕ) → Mem w xs → Mem w ys → ⊥) → Once (xs ++ ys)
append_once [] ys o p n = p
append_once (x ∷ xs) ys o p n = (
  λ m. ⊎_elim o.0 (n x (inl refl)) (append_mem x xs ys m),
  append_once xs ys o.1 p (λ w m k. n w (inr m) k),
)

-- rising lists with the same members are the same
pub rises_one : (xs ys : List ℕ) → Rises xs → Rises ys → ((w : ℕ) → Mem w xs → Mem w ys)
    → ((w : ℕ) → Mem w ys → Mem w xs) → xs ≡ ys
rises_one [] [] r s f g = refl
rises_one [] (y ∷ ys) r s f g = absurd (g y (inl refl))
rises_one (x ∷ xs) [] r s f g = absurd (f x (inl refl))
rises_one (x ∷ xs) (y ∷ ys) r s f g =
    go (rises_one xs ys r.1 s.1) (f x (inl refl)) (g y (inl refl))
  where
    go : (((w : ℕ) → Mem w xs → Mem w ys) → ((w : ℕ) → Mem w ys → Mem w xs) → xs ≡ ys) → Mem x (y ∷ ys)
        → Mem y (x ∷ xs) → x ∷ xs ≡ y ∷ ys
    go ih (inr p) (inr q) = absurd (clash (less_trans x y x (r.0 y q) (s.0 x p)) (less_self x))
    go ih (inr p) (inl e) = absurd (clash (ap (less_than y) e ∙ s.0 x p) (less_self y))
    go ih (inl e) q = same (ih down up)
      where
        same : xs ≡ ys → x ∷ xs ≡ y ∷ ys
        same b = λ i. e i ∷ b i

        down : (w : ℕ) → Mem w xs → Mem w ys
        down w m =
            ⊎_elim (λ k. absurd (clash (ap (less_than x) (e ∙ sym k) ∙ r.0 w m) (less_self x))) (λ k. k)
            (f w (inr m))

        up : (w : ℕ) → Mem w ys → Mem w xs
        up w m =
            ⊎_elim (λ k. absurd (clash (ap (less_than y) (sym e ∙ sym k) ∙ s.0 w m) (less_self y))) (λ k. k)
            (g w (inr m))
